-- The effect of a copy, by what its operand is.
use Rattle.std.proofs.Common.{◌≡◌, ℕ, Bool, List, codes, Option, Some, option_map, Err, Ok, if◌then◌else◌, ap, sym, ◌∙◌}
use Rattle.fm_base.specs.declared.kinds.TypeRef.{TypeRef}
use Rattle.fm_cells.specs.Answers.{head_at, head_of}
use Rattle.fm_cells.specs.Objects.{Object}
use Rattle.fm_cells.specs.Stores.{Store}
use Rattle.fm_cells.specs.declared.answers.Head.{Head}
use Rattle.fm_frames.specs.Effects.{Copy, Effect, making}
use Rattle.fm_frames.specs.Elements.{pack_of}
use Rattle.fm_frames.specs.NativeRows.{copy_of, is_copied, native_effect, object_native}
use Rattle.fm_frames.specs.Operands.{thrown, thrown_null}
use Rattle.fm_frames.specs.Sights.{looks, Sight, type_numbered}
use Rattle.fm_frames.specs.States.{State}
use Rattle.fm_frames.specs.declared.natives.Native.TheVariants.{ObjectClone}
use Rattle.fm_native.specs.Serving.{HoldsPacks}
use Rattle.fm_native.specs.declared.asked.Held.{Held}
use Rattle.fm_native.specs.declared.asked.OperandRefusal.{OperandRefusal}
use Rattle.fm_native.specs.inner.Asked.{AsksHeld, IsHeldAt, on_found, refused}
use Rattle.fm_world.specs.Programs.{Outline}

-- what follows where it may be copied or not
abbrev pub copied_or_not : Outline → Bool → TypeRef → ℕ → Effect
copied_or_not o may t len = if may then making 1 (Copy t len 0) else thrown o (codes "java/lang/CloneNotSupportedException")

pub copy-refused : (o : Outline) (store : Store) (byte : Option ℕ) (s : List Sight) (r : OperandRefusal) → AsksHeld o store s 0 (Err r)
    → native_effect o ObjectClone byte s ≡ refused o 0 r
unfolding native_effect object_native
copy-refused o store byte s r asks = asks (thrown_null o) (copy_of o)

pub copy-is : (o : Outline) (store : Store) (x : State) (byte : Option ℕ) (s : List Sight) (held : Held) (t : TypeRef) (may : Bool) → AsksHeld o store s 0 (Ok held)
    → IsHeldAt store x 0 held → t ≡ type_numbered o held.head.class → may ≡ is_copied o t
    → native_effect o ObjectClone byte s ≡ copied_or_not o may (type_numbered o held.head.class) held.head.len
unfolding native_effect object_native looks
copy-is o store x byte s held t may asks known t_is told =
    asks (thrown_null o) (copy_of o)
    ∙ ap (on_found o store (copy_of o)) known.at
    ∙ ap (λ (h : Head). copied_or_not o (is_copied o (type_numbered o h.class)) (type_numbered o h.class) h.len) known.head_is
    ∙ ap (λ b. copied_or_not o b (type_numbered o held.head.class) held.head.len) (sym (told ∙ ap (is_copied o) t_is))

-- the head of what was found
pub held-head : (store : Store) (x : State) (operand : ℕ) (held : Held) → IsHeldAt store x operand held → head_at store held.cell.0 ≡ Some held.head
held-head store x operand held known = ap (λ (found : Option Object). option_map head_of found) known.at ∙ ap Some known.head_is

-- and how many of its elements are in a word
pub held-pack : (o : Outline) (store : Store) (x : State) (operand : ℕ) (held : Held) → HoldsPacks o store → IsHeldAt store x operand held
    → held.head.pack ≡ pack_of o (type_numbered o held.head.class)
held-pack o store x operand held packs known =
    sym (ap (λ (h : Head). h.pack) known.head_is) ∙ packs.packs held.cell.0 known.object known.at
    ∙ ap (λ (h : Head). pack_of o (type_numbered o h.class)) known.head_is
