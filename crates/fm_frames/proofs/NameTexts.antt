-- The names of types as the code spells them.
use Rattle.std.proofs.Common.{◌≡◌, ℕ, ◌==◌, Bool, true, false, if◌then◌else◌, List, ◌++◌, replicate, refl, ap, sym, ◌∙◌, arith, zero, suc}
use Rattle.std.proofs.lemmas.Bool.{eq-eqb, eqb-true, ne_eqb}
use Rattle.fm_base.specs.declared.characters.TheConstants.{LEFT_BRACKET}
use Rattle.fm_base.specs.declared.ids.ClassId.{ClassId}
use Rattle.fm_base.specs.declared.kinds.Base.TheVariants as base
use Rattle.fm_base.specs.declared.kinds.TypeRef.{TypeRef}
use Rattle.fm_frames.specs.NativeRows.{base_text, dotted, plain_name, spelled_type}
use Rattle.fm_frames.specs.inner.Names.{base_name, class_text}
use Rattle.fm_world.specs.Chains.{class_at}
use Rattle.fm_world.specs.Programs.{Outline}

-- the name of a class, and the same in a descriptor
pub class-alone : (o : Outline) (t : TypeRef) (class : ClassId) (name : List ℕ) → t.base ≡ base.OfClass class → t.dims ≡ 0 → (class_at o.classes class.0).name ≡ name
    → name ≡ base_name o t
class-alone o t class name is none named =
    sym (ap (λ b. if b then plain_name o t.base else base_text o t.base) (eq-eqb t.dims 0 none) ∙ ap (plain_name o) is ∙ named)

pub class-in-array : (o : Outline) (t : TypeRef) (class : ClassId) (name : List ℕ) → t.base ≡ base.OfClass class → (t.dims ≡ 0 → ⊥)
    → (class_at o.classes class.0).name ≡ name → class_text name ≡ base_name o t
class-in-array o t class name is some named =
    sym (ap (λ b. if b then plain_name o t.base else base_text o t.base) (ne_eqb t.dims 0 some) ∙ ap (base_text o) is ∙ ap class_text named)

-- the name of a type, from its brackets on
pub spelled-is : (o : Outline) (t : TypeRef) (bytes spelled : List ℕ) → bytes ≡ replicate t.dims LEFT_BRACKET ++ base_name o t → spelled ≡ dotted bytes
    → spelled ≡ spelled_type o t
spelled-is o t bytes spelled is told = told ∙ ap dotted (is ∙ by_dims t.dims (plain_name o t.base) (base_text o t.base)) where
  by_dims : (dims : ℕ) (plain text : List ℕ)
      → replicate dims LEFT_BRACKET ++ (if dims == 0 then plain else text) ≡ (if dims == 0 then plain else (replicate dims LEFT_BRACKET ++ text))
  by_dims zero plain text = refl
  by_dims (suc dims) plain text = by_test (suc dims == 0) refl where
    no_zero : (suc dims == 0) ≡ true → ⊥
    no_zero is = let none : suc dims ≡ 0 = eqb-true (suc dims) 0 is in omega (arith, none)

    by_test : (b : Bool) → (suc dims == 0) ≡ b
        → replicate (suc dims) LEFT_BRACKET ++ (if b then plain else text) ≡ (if b then plain else (replicate (suc dims) LEFT_BRACKET ++ text))
    by_test true is = absurd (no_zero is)
    by_test false is = refl
