-- The effects of rows that start classes, and of calls and returns.
use Rattle.std.proofs.Common.{◌≡◌, ℕ, List, [], Option, Some, None, slice_get, refl, ap, sym, ◌∙◌}
use Rattle.fm_base.specs.declared.ids.MethodId.{MethodId}
use Rattle.fm_base.specs.declared.ids.TypeId.{TypeId}
use Rattle.fm_base.specs.declared.kinds.TypeRef.{TypeRef}
use Rattle.fm_code.specs.declared.operations.Reg.{Reg}
use Rattle.fm_code.specs.declared.operations.Reg.TheVariants as reg
use Rattle.fm_code.specs.StackWords.{reg_words}
use Rattle.fm_frames.specs.CallRows.{entered_as, native_of, static_effect, words_of_arguments}
use Rattle.fm_frames.specs.Effects.{Calls, Make, Returns, going, making, stuck}
use Rattle.fm_frames.specs.JumpRows.{return_effect}
use Rattle.fm_frames.specs.ObjectRows.{made_of, new_effect, starting}
use Rattle.fm_frames.specs.Sights.{Sight}
use Rattle.fm_frames.specs.Uses.{by_type}
use Rattle.fm_types.specs.Named.{class_of_method}
use Rattle.fm_world.specs.Descriptors.{parameter_kinds}
use Rattle.fm_world.specs.Members.{method_at, size_of}
use Rattle.fm_world.specs.Programs.{class_of_type, method_info, Outline, Program}
use Rattle.fm_world.specs.declared.uses.Use.TheVariants as used

-- ---- new

abbrev size_by : Outline → Option ℕ → ℕ
size_by o None = 0
size_by o (Some class) = size_of o.classes class

pub new-class : (o : Outline) (t : TypeId) (named : TypeRef) (class size : ℕ) → slice_get o.types t.0 ≡ Some named
    → Some class ≡ class_of_type named → size ≡ size_of o.classes class
    → new_effect o (used.OfType t) ≡ starting class (making 0 (Make named size []))
unfolding new_effect
new-class o t named class size at is much =
    ap (λ found. by_type found (λ t. made_of o t (class_of_type t))) at
    ∙ ap (made_of o named) (sym is)
    ∙ ap (λ n. starting class (making 0 (Make named n []))) (ap (size_by o) (sym is) ∙ sym much)

pub new-array : (o : Outline) (t : TypeId) (named : TypeRef) → slice_get o.types t.0 ≡ Some named → None ≡ class_of_type named
    → new_effect o (used.OfType t) ≡ stuck
unfolding new_effect
new-array o t named at none =
    ap (λ found. by_type found (λ t. made_of o t (class_of_type t))) at ∙ ap (made_of o named) (sym none)

-- ---- calls and returns

pub static-coded : (o : Outline) (m : MethodId) (named : TypeId) (t : TypeRef) (words : ℕ) (byte : Option ℕ) (s : List Sight)
    → slice_get o.types named.0 ≡ Some t → native_of o m.0 ≡ None → words ≡ words_of_arguments o m.0
    → static_effect o (used.OfMethod m named) byte s ≡ starting (class_of_method o m.0) (going words (Calls m.0))
unfolding static_effect
static-coded o m named t words byte s at coded many =
    ap (λ found. by_type found (λ named. starting (class_of_method o m.0) (entered_as o (words_of_arguments o m.0) m.0 byte s (native_of o m.0)))) at
    ∙ ap (λ native. starting (class_of_method o m.0) (entered_as o (words_of_arguments o m.0) m.0 byte s native)) coded
    ∙ ap (λ n. starting (class_of_method o m.0) (going n (Calls m.0))) (sym many)

pub return-nothing : (value : Option Reg) → value ≡ None → return_effect value ≡ going 0 (Returns 0)
unfolding return_effect
return-nothing value is = ap return_effect is

pub return-word : (value : Option Reg) (kind : Reg) (words : ℕ) → value ≡ Some kind → words ≡ reg_words kind
    → return_effect value ≡ going 0 (Returns words)
unfolding return_effect
return-word value kind words is many = ap return_effect is ∙ by_kind kind ∙ ap (λ n. going 0 (Returns n)) (sym many) where
  by_kind : (kind : Reg) → return_effect (Some kind) ≡ going 0 (Returns (reg_words kind))
  by_kind reg.Int = refl
  by_kind reg.Long = refl
  by_kind reg.Ref = refl

pub method-params : (p : Program) (m : ℕ) → (method_info p m).params ≡ parameter_kinds p.outline.classes (method_at p.outline.classes m).method.descriptor
unfolding method_info
method-params p m = refl
