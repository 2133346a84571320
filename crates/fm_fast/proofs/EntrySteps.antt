-- Calls and returns over frames that are taken out of a machine.
use Rattle.std.proofs.Common.{◌≡◌, ℕ, ◌+◌, ◌-◌, Bool, false, not, List, [], Option, Some, None, filter, length, option_and_then, option_map, slice_get, refl, ap, sym, ◌∙◌, subst, arith, ◌<◌, true, cond, reverse}
use Rattle.std.proofs.lemmas.Option.{none-some, same_Some, slice_get-get_or}
use Rattle.fm_base.specs.declared.ids.MethodId.{MethodId}
use Rattle.fm_base.specs.declared.ids.TypeId.{TypeId}
use Rattle.fm_base.specs.declared.kinds.Kind.{Kind}
use Rattle.fm_base.specs.declared.kinds.TypeRef.{TypeRef}
use Rattle.fm_exec_calls.proofs.CallSteps.{plain-start}
use Rattle.fm_exec_calls.proofs.PlainEffects.{entered-plain}
use Rattle.fm_exec_calls.proofs.SelectSteps.{special-entered, special-seen}
use Rattle.fm_cells.specs.declared.answers.Cell.{Cell}
use Rattle.fm_cells.specs.declared.answers.Head.{Head}
use Rattle.fm_code.specs.declared.code_array.Code.{Code}
use Rattle.fm_code.specs.declared.instructions.Insn.TheVariants as insn
use Rattle.fm_exec.proofs.HeldSteps.{Seen}
use Rattle.fm_exec.proofs.ObjectSteps.{static-coded}
use Rattle.fm_exec.proofs.Seen.{carried}
use Rattle.fm_exec.specs.Steps.{seen, Steps}
use Rattle.fm_fast.proofs.FlowSteps.{seen-on}
use Rattle.fm_fast.specs.Flows.{Flows, resumed}
use Rattle.fm_fast.specs.inner.Entries.{Enters}
use Rattle.fm_fast.proofs.CellSteps.{found-over}
use Rattle.fm_frames.proofs.Calling.{called-one, left-caller}
use Rattle.fm_frames.specs.Acts.{Choose, set_static}
use Rattle.fm_frames.specs.CallRows.{entered, entered_as, native_of, special_effect, static_effect, words_of_arguments}
use Rattle.fm_frames.specs.Effects.{Calls, Effect, Returns, going, words}
use Rattle.fm_frames.specs.Natives.{native_of_row}
use Rattle.fm_frames.specs.declared.natives.Native.TheVariants.{ObjectInit}
use Rattle.fm_frames.specs.NumberRows.{move_effect}
use Rattle.fm_frames.specs.ObjectRows.{starting}
use Rattle.fm_frames.specs.Starts.{is_started, started_by, to_start, with_start}
use Rattle.fm_frames.specs.States.{Frame, State}
use Rattle.fm_frames.specs.Steps.{is_start, max_locals_of, stack_of}
use Rattle.fm_frames.specs.Sights.{type_numbered}
use Rattle.fm_frames.specs.declared.looks.Look.{Look}
use Rattle.fm_frames.specs.declared.looks.Look.TheVariants as look
use Rattle.fm_frames.specs.declared.values.Value.{Value}
use Rattle.fm_frames.specs.inner.Doings.{DoesIn, NextFits}
use Rattle.fm_frames.specs.inner.Frames.{place_of, stack_in, topmost, with_called, with_result}
use Rattle.fm_frames.specs.inner.Looks.{look_at, object_in}
use Rattle.fm_native.proofs.Rows.{init-is}
use Rattle.fm_types.specs.Named.{class_of_method}
use Rattle.fm_world.specs.Lookups.{special_target}
use Rattle.fm_world.specs.Members.{method_at}
use Rattle.fm_world.specs.Numbers.{type_of_class}
use Rattle.fm_world.specs.Programs.{class_of_type, code_at, Outline, Program}
use Rattle.fm_world.specs.declared.uses.Use.TheVariants as used
use Rattle.std.specs.Prelude.{is_none}
use Rattle.fm_world.specs.Chains.{chain_of, class_at}

-- ---- a method is entered

max-locals : (p : Program) (method : ℕ) (code : Code) → code_at p method ≡ Some code → code.max_locals ≡ max_locals_of p method
max-locals p method code is = sym (ap of_code is) where
  of_code : Option Code → ℕ
  of_code None = 0
  of_code (Some code) = code.max_locals

pub entered-over : (p : Program) (choose : Choose) (x : State) (old new : List Frame) (words target count depth : ℕ) (code : Code)
    → (method_at p.outline.classes target).method.row ≡ None → NextFits old → code_at p target ≡ Some code → count ≡ length old → count < depth
    → depth ≡ x.depth → new ≡ with_called target code.max_locals words old → Enters p choose x old new words target
entered-over p choose x old new words target count depth code none fits is counted room deep entered = record {
  coded = none;
  does =
      λ steps.
      called-one p choose (resumed x old steps) (resumed x old steps) words target code.max_locals new refl fits (omega (arith, counted, room, deep))
      (max-locals p target code is) entered;
}

-- the effect of a call that enters it
pub enters-as : (p : Program) (choose : Choose) (x : State) (old new : List Frame) (words given target : ℕ) (byte : Option ℕ) (steps : ℕ)
    → Enters p choose x old new words target → words ≡ given
    → Steps p choose (resumed x old steps) (resumed x new (steps + 1)) (entered p.outline given (Some target) byte (seen p (resumed x old steps)))
enters-as p choose x old new words given target byte steps enters many =
    let s = seen p (resumed x old steps) in
    let same : with_start p.outline x.areas.started (entered p.outline given (Some target) byte s) ≡ going words (Calls target) =
    plain-start p.outline x.areas.started (entered p.outline given (Some target) byte s) (entered-plain p.outline given target byte s)
    ∙ ap (λ row. entered_as p.outline given target byte s (option_and_then native_of_row row)) enters.coded
    ∙ ap (λ n. going n (Calls target)) (sym many) in
    subst (DoesIn p choose (resumed x old steps) (resumed x new (steps + 1))) (sym same) (enters.does steps)

-- ---- a class, of which nothing is to start

-- the effect that starts a class is the same without it
pub starting-none : (o : Outline) (started : List Bool) (class : ℕ) (e : Effect) → to_start o started class ≡ [] → e.starts ≡ None
    → with_start o started (starting class e) ≡ e
starting-none o started class e none plain =
    ap (λ classes. started_by o classes (starting class e)) none ∙ ap (λ (s : Option ℕ). record e { starts = s }) (sym plain)

-- the static field that was given a value, by the numbers of the table
pub set-there : (x y : State) (slot place : ℕ) (kind own : Kind) (v : Value) → y ≡ record x { areas = set_static x.areas slot kind v } → slot ≡ place
    → kind ≡ own → y ≡ record x { areas = set_static x.areas place own v }
set-there x y slot place kind own v is at of = is ∙ (λ i. record x { areas = set_static x.areas (at i) (of i) v })

-- ---- a static method of such a class

pub static-over : (p : Program) (choose : Choose) (x : State) (old new : List Frame) (words : ℕ) (m : MethodId) (named : TypeId) (t : TypeRef)
    (class steps : ℕ) (byte : Option ℕ) → Enters p choose x old new words m.0 → words ≡ words_of_arguments p.outline m.0
    → slice_get p.outline.types named.0 ≡ Some t → class ≡ class_of_method p.outline m.0 → to_start p.outline x.areas.started class ≡ []
    → Steps p choose (resumed x old steps) (resumed x new (steps + 1))
    (static_effect p.outline (used.OfMethod m named) byte (seen p (resumed x old steps)))
static-over p choose x old new words m named t class steps byte enters many at owner none =
    let o = p.outline in
    let here : to_start o x.areas.started (class_of_method o m.0) ≡ [] = ap (to_start o x.areas.started) (sym owner) ∙ none in
    subst (λ e. Steps p choose (resumed x old steps) (resumed x new (steps + 1)) e)
    (sym (static-coded o m named t words byte (seen p (resumed x old steps)) at (ap (option_and_then native_of_row) enters.coded) many))
    (subst (DoesIn p choose (resumed x old steps) (resumed x new (steps + 1)))
    (sym (starting-none o x.areas.started (class_of_method o m.0) (going words (Calls m.0)) here refl)) (enters.does steps))

-- the class's superclasses are those of its display
pub none-starts : (o : Outline) (started : List Bool) (class : ℕ) (classes : List ℕ) → classes ≡ reverse (chain_of o.classes class)
    → filter (λ class. not (is_started o started class)) classes ≡ [] → to_start o started class ≡ []
none-starts o started class classes is none =
    either-none (is_none (class_at o.classes class).file) (filter (λ class. not (is_started o started class)) (reverse (chain_of o.classes class)))
    (ap (filter (λ class. not (is_started o started class))) (sym is) ∙ none) where
      either-none : (b : Bool) (xs : List ℕ) → xs ≡ [] → cond b [] xs ≡ []
      either-none true xs e = refl
      either-none false xs e = e

-- ---- a receiver

-- the object that was found is seen at the place of the receiver
pub receiver-over : (o : Outline) (x : State) (frames : List Frame) (steps words operand place : ℕ) (cell : Cell) (head : Head) → words ≡ operand + 1
    → place ≡ words - 1 → Some (cell, head) ≡ object_in (look_at x.areas.store (slice_get (stack_in frames) place))
    → Seen o x.areas.store (stack_of (resumed x frames steps)) operand cell head
receiver-over o x frames steps words operand place cell head many at is =
    let here : place ≡ operand = omega (arith, many, at) in
    subst (λ n. Seen o x.areas.store (stack_of (resumed x frames steps)) n cell head) here (found-over o x frames steps place cell head is)

-- ---- returns

pub left-over : (p : Program) (choose : Choose) (x : State) (old new : List Frame) (steps words method item count : ℕ)
    → Some (method, item) ≡ option_map place_of (topmost old) → count ≡ length old → (count ≡ 1 → ⊥) → false ≡ is_start p.outline method
    → new ≡ with_result words old → DoesIn p choose (resumed x old steps) (resumed x new (steps + 1)) (going 0 (Returns words))
left-over p choose x old new steps words method item count at counted more starts given =
    left-caller p choose (resumed x old steps) (resumed x old steps) words method item new refl at (λ one. more (counted ∙ one)) starts given

-- an object that is found is looked at
object-look : (l : Look) (cell : Cell) (head : Head) → Some (cell, head) ≡ object_in l → look.Object cell head ≡ l
object-look look.Other cell head is = absurd (none-some _ (sym is))
object-look look.Null cell head is = absurd (none-some _ (sym is))
object-look (look.Gone other) cell head is = absurd (none-some _ (sym is))
object-look (look.Object c h) cell head is = ap (λ (pair : Cell × Head). look.Object pair.0 pair.1) (same_Some _ _ is)

pub receiver-looked : (x : State) (frames : List Frame) (steps words operand place : ℕ) (cell : Cell) (head : Head) → words ≡ operand + 1
    → place ≡ words - 1 → Some (cell, head) ≡ object_in (look_at x.areas.store (slice_get (stack_in frames) place))
    → look.Object cell head ≡ look_at x.areas.store (slice_get (stack_of (resumed x frames steps)) operand)
receiver-looked x frames steps words operand place cell head many at is =
    let here : place ≡ operand = omega (arith, many, at) in
    seen-on (record x { steps = steps }) frames operand (λ v. look_at x.areas.store v) (look.Object cell head)
    (object-look (look_at x.areas.store (slice_get (stack_in frames) place)) cell head is
    ∙ ap (λ n. look_at x.areas.store (slice_get (stack_in frames) n)) here)

-- ---- invokespecial

-- the method that was found is entered, whatever object the receiver is
pub special-over : (p : Program) (x : State) (frames : List Frame) (steps caller words place : ℕ) (m target : MethodId) (named : TypeId) (cell : Cell)
    (head : Head) (byte : Option ℕ) → named.0 < length p.outline.types → words ≡ words_of_arguments p.outline m.0 + 1 → place ≡ words - 1
    → Some (cell, head) ≡ object_in (look_at x.areas.store (slice_get (stack_in frames) place))
    → target.0 ≡ special_target p.outline.classes (class_of_method p.outline caller) (class_of_type (type_numbered p.outline named.0)) m.0
    → special_effect p.outline caller (used.OfMethod m named) byte (seen p (resumed x frames steps))
    ≡ entered p.outline (words_of_arguments p.outline m.0 + 1) (Some target.0) byte (seen p (resumed x frames steps))
special-over p x frames steps caller words place m target named cell head byte inside many at is found =
    let o = p.outline in
    let a = words_of_arguments o m.0 in
    let t = type_numbered o named.0 in
    let s = seen p (resumed x frames steps) in
    special-seen o x.areas.store (stack_of (resumed x frames steps)) caller m named t byte a (look.Object cell head)
    (slice_get-get_or o.types named.0 (type_of_class 0) inside) refl (receiver-looked x frames steps words a place cell head many at is)
    ∙ special-entered o caller m target t byte s found

-- the constructor of Object takes its receiver
pub begun-as : (p : Program) (choose : Choose) (x : State) (old new : List Frame) (given target : ℕ) (byte : Option ℕ) (steps : ℕ)
    → native_of p.outline target ≡ Some ObjectInit → Flows old new (λ p x. move_effect insn.Pop)
    → Steps p choose (resumed x old steps) (resumed x new (steps + 1)) (entered p.outline given (Some target) byte (seen p (resumed x old steps)))
unfolding move_effect
begun-as p choose x old new given target byte steps built_in popped =
    let o = p.outline in
    let s = seen p (resumed x old steps) in
    carried p choose (resumed x old steps) (resumed x new (steps + 1)) (entered o given (Some target) byte s) (words 1 [])
    (ap (entered_as o given target byte s) built_in ∙ init-is o byte s) (popped p choose (record x { steps = steps }))
