-- The class literal of an object's type.
use Rattle.std.proofs.Common.{◌≡◌, ℕ, ◌<◌, ◌≤◌, ◌^◌, List, length, Option, Some, Ok, Err, ap, sym, ◌∙◌, subst, slice_get, arith}
use Rattle.std.specs.List.{All, slice_index_or}
use Rattle.std.proofs.lemmas.List.Quantifiers.{position-Some}
use Rattle.std.proofs.lemmas.Option.{slice_get-get_or}
use Rattle.fm_cells.specs.Stores.{Store}
use Rattle.fm_cells.specs.declared.answers.Head.{Head}
use Rattle.fm_base.specs.declared.kinds.TypeRef.{TypeRef}
use Rattle.fm_frames.proofs.LiteralSteps.{name-is}
use Rattle.fm_frames.specs.Acts.{name_numbered}
use Rattle.fm_frames.specs.Literals.{class_literal, literal_count}
use Rattle.fm_frames.specs.NativeRows.{class_given, class_given_by, native_effect, object_native, type_name}
use Rattle.fm_frames.specs.Operands.{thrown_null}
use Rattle.fm_frames.specs.Sights.{looks, Sight, type_numbered}
use Rattle.fm_frames.specs.States.{State}
use Rattle.fm_frames.specs.declared.natives.Native.TheVariants.{ObjectGetClass}
use Rattle.fm_native.proofs.NameTexts.{name-fits}
use Rattle.fm_native.specs.Serving.{HoldsNames}
use Rattle.fm_native.specs.declared.asked.Held.{Held}
use Rattle.fm_native.specs.declared.asked.OperandRefusal.{OperandRefusal}
use Rattle.fm_native.specs.inner.Asked.{AsksHeld, IsHeldAt, on_found, refused}
use Rattle.fm_world.proofs.TypeTests.{same_type-eq}
use Rattle.fm_world.specs.Chains.{same_type}
use Rattle.fm_world.specs.Numbers.{type_number}
use Rattle.fm_world.specs.Programs.{Outline}

pub class-refused : (o : Outline) (store : Store) (byte : Option ℕ) (s : List Sight) (r : OperandRefusal) → AsksHeld o store s 0 (Err r)
    → native_effect o ObjectGetClass byte s ≡ refused o 0 r
unfolding native_effect object_native
class-refused o store byte s r asks = asks (thrown_null o) (λ it. class_given o it.type)

-- by the number that the code found for its type
pub class-is : (o : Outline) (store : Store) (x : State) (byte : Option ℕ) (s : List Sight) (held : Held) → AsksHeld o store s 0 (Ok held)
    → IsHeldAt store x 0 held → (t : TypeRef) → t ≡ type_numbered o held.head.class → (number : Option ℕ) → number ≡ type_number o.types t
    → native_effect o ObjectGetClass byte s ≡ class_given_by o number
unfolding native_effect object_native looks
class-is o store x byte s held asks known t t_is number is =
    asks (thrown_null o) (λ it. class_given o it.type)
    ∙ ap (on_found o store (λ it. class_given o it.type)) known.at
    ∙ ap (λ (h : Head). class_given o (type_numbered o h.class)) known.head_is
    ∙ ap (class_given o) (sym t_is) ∙ ap (class_given_by o) (sym is)

-- ---- what giving it requires

pub class-inside : (o : Outline) (t : TypeRef) (id : ℕ) → Some id ≡ type_number o.types t → id < length o.types
class-inside o t id is = (position-Some (same_type t) o.types id t (sym is)).0

pub class-placed : (o : Outline) (literals : List ℕ) (id : ℕ) → id < length o.types → literal_count o ≤ length literals
    → class_literal o id < length literals
class-placed o literals id inside few = omega (arith, inside, few)

pub class-named : (o : Outline) (store : Store) (x : State) (operand : ℕ) (held : Held) → HoldsNames o store → IsHeldAt store x operand held
    → (t : TypeRef) → t ≡ type_numbered o held.head.class → (id : ℕ) → Some id ≡ type_number o.types t
    → All (λ unit. unit < 2 ^ 16) (name_numbered o id)
class-named o store x operand held names known t t_is id is =
    let found = position-Some (same_type t) o.types id t (sym is) in
    let at : slice_get o.types id ≡ Some t =
    slice_get-get_or o.types id t found.0 ∙ ap Some (sym (same_type-eq t (slice_index_or o.types id t) found.1)) in
    subst (All (λ unit. unit < 2 ^ 16)) (sym (name-is o id t at))
    (subst (λ u. All (λ unit. unit < 2 ^ 16) (type_name o u)) (sym t_is) (name-fits o store x operand held names known))
