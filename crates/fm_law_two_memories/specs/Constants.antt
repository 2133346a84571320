-- What linking makes sure of the constants of fields (JVMS 4.7.2).
use Rattle.std.specs.Prelude.{◌≡◌, ℕ, List, Some}
use Rattle.fm_base.specs.declared.kinds.Kind.TheVariants as kind
use Rattle.fm_base.specs.declared.kinds.TypeRef.{TypeRef}
use Rattle.fm_world.specs.Members.{field_at}
use Rattle.fm_world.specs.Programs.{Outline}
use Rattle.fm_world.specs.declared.declarations.Constant.TheVariants as constant
use Rattle.fm_frames.specs.ObjectRows.{kind_of_field}
use Rattle.fm_same.specs.Evenness.{IsNumber, IsPlainKind}

-- A number is the constant of a field of numbers, and a text that of a field of references.
pub record ConstantsFit (o : Outline) : Type 0 where
  pub numbers : (field : ℕ) → IsNumber (field_at o.classes field).field.value → IsPlainKind (kind_of_field o field)
  pub texts : (field : ℕ) (text : List ℕ) → (field_at o.classes field).field.value ≡ Some (constant.Text text)
      → (t : TypeRef) × (kind_of_field o field ≡ kind.Ref t)
