-- Frames of a sound state are as the laws require: at an item with its words, and a frame that
-- waits is at the call of the one above it.
use Rattle.std.proofs.Common.{◌≡◌, ℕ, zero, suc, ◌+◌, ◌-◌, ◌↔◌, not, Bool, true, false, List, [], ◌∷◌, length, drop, reverse, Option, Some, None, option_and_then, IsSomeAnd, Contains, refl, sym, ◌∙◌, ap, subst, inl, inr, slice_get, arith, ⊎_elim}
use Rattle.std.specs.List.{AllZip}
use Rattle.std.proofs.lemmas.Bool.{false≢true}
use Rattle.std.proofs.lemmas.List.{length-append, length-drop}
use Rattle.std.proofs.lemmas.Option.{none-some, same_Some, slice_get_within}
use Rattle.fm_base.specs.declared.ids.MethodId.{MethodId}
use Rattle.fm_base.specs.declared.ids.TypeId.{TypeId}
use Rattle.fm_code.specs.Edges.{insn_of, IsNormalEdge}
use Rattle.fm_code.specs.declared.code_array.Code.{Code}
use Rattle.fm_code.specs.declared.instructions.Insn.{Insn}
use Rattle.fm_code.specs.declared.instructions.Insn.TheVariants as insn
use Rattle.fm_conn.specs.Facts.{AreFacts, Facts}
use Rattle.fm_conn.specs.Nodes.{IsNode, TypedMethod}
use Rattle.fm_conn.specs.Pairs.{call_of, depth_below, IsEnd}
use Rattle.fm_conn.specs.declared.ends.End2.TheVariants as end
use Rattle.fm_types.specs.Rows.{row_after}
use Rattle.fm_types.specs.States.{is_reference}
use Rattle.fm_types.specs.Typed.{FitsAt, made_at, MeetsItem, state_at, use_by}
use Rattle.fm_types.specs.declared.slots.Slot as slots
use Rattle.fm_types.specs.declared.slots.Slot.TheVariants as slot
use Rattle.fm_world.specs.Causes.{static_method_wanted}
use Rattle.fm_world.specs.Programs.{code_at, Outline, Program, targets}
use Rattle.fm_world.specs.declared.calls.Call.{Call}
use Rattle.fm_world.specs.declared.uses.Use.TheVariants as resolved
use Rattle.fm_frames.specs.CallRows.{words_of_arguments}
use Rattle.fm_frames.specs.Runnable.{IsUseIn}
use Rattle.fm_frames.specs.States.{Frame}
use Rattle.fm_frames.specs.Steps.{next_insn}
use Rattle.fm_frames.specs.declared.values.Value.{Value}
use Rattle.fm_law_sound.specs.Sound as sound
use Rattle.fm_law_sound.proofs.CallsLeft.{named_in}
use Rattle.fm_same.specs.Regions.{argument}
use Rattle.fm_same.specs.Resolved.{IsResolved}
use Rattle.fm_same.specs.Standing.{Called, Goes, method_of, Stand, StandBelow, StandsAt}
use Rattle.fm_same.specs.Targets.{AreCovered, AreCoveredBelow, IsTarget}
use Rattle.fm_same.proofs.CallFacts.{call_is_made, CallsMethod, Fits, state_takes, target_fits, type_there, use_there, word_in_state, words_are}
use Rattle.fm_same.proofs.CallWords.{call_ends, call_length, receiver_count, TakesCall}
use Rattle.fm_same.proofs.ItemFacts.{depth_is, slot_from_below}

-- ---- words by their slots

kind_of_reference : (s : slots.Slot) (v : Value) → sound.HasKind s v → sound.IsReference v → is_reference s ≡ true
kind_of_reference slot.Top v is reference = absurd (subst sound.IsReference is reference)
kind_of_reference slot.Int v is reference = absurd (subst sound.IsReference is.1 reference)
kind_of_reference slot.Long v is reference = absurd (subst sound.IsReference is.1 reference)
kind_of_reference slot.Null v is reference = refl
kind_of_reference (slot.Ref t) v is reference = refl
kind_of_reference (slot.Uninit item) v is reference = refl
kind_of_reference slot.UninitThis v is reference = refl

reference_of_kind : (s : slots.Slot) (v : Value) → sound.HasKind s v → is_reference s ≡ true → sound.IsReference v
reference_of_kind slot.Top v is reference = absurd (false≢true reference)
reference_of_kind slot.Int v is reference = absurd (false≢true reference)
reference_of_kind slot.Long v is reference = absurd (false≢true reference)
reference_of_kind slot.Null v is reference = is
reference_of_kind (slot.Ref t) v is reference = is
reference_of_kind (slot.Uninit item) v is reference = is
reference_of_kind slot.UninitThis v is reference = is

kinds_length : (R : slots.Slot → Value → Type 0) (xs : List slots.Slot) (vs : List Value) → AllZip R xs vs → length xs ≡ length vs
kinds_length R [] [] h = refl
kinds_length R [] (v ∷ vs) h = absurd h
kinds_length R (x ∷ xs) [] h = absurd h
kinds_length R (x ∷ xs) (v ∷ vs) h = ap suc (kinds_length R xs vs h.1)

kind_at : (xs : List slots.Slot) (vs : List Value) (n : ℕ) (v : Value) → sound.HaveKinds xs vs → slice_get vs n ≡ Some v
    → (s : slots.Slot) × (slice_get xs n ≡ Some s) × sound.HasKind s v
kind_at xs [] n v h at = absurd (none-some v at)
kind_at [] (w ∷ vs) n v h at = absurd h
kind_at (x ∷ xs) (w ∷ vs) zero v h at = (x, refl, subst (sound.HasKind x) (same_Some w v at) h.0)
kind_at (x ∷ xs) (w ∷ vs) (suc n) v h at = kind_at xs vs n v h.1 at

dropped_at : (n k : ℕ) (xs : List slots.Slot) → slice_get (drop n xs) k ≡ slice_get xs (n + k)
dropped_at zero k xs = let e : k ≡ 0 + k = omega arith in ap (slice_get xs) e
dropped_at (suc n) k [] = refl
dropped_at (suc n) k (x ∷ xs) = let e : suc (n + k) ≡ suc n + k = omega arith in dropped_at n k xs ∙ ap (slice_get (x ∷ xs)) e

-- ---- a frame at its item

module _ (p : Program) (facts : Facts) (exact : AreFacts p facts) (words : ℕ) (f : Frame) (h : sound.StandsWithout p facts.typing words f) where
  meets : MeetsItem p f.method h.code (facts.typing f.method) f.item h.known
  meets = (exact.methods f.method h.code h.code_is).typing.items f.item h.known h.at

  found : (o : Option Insn) → insn_of h.code f.item ≡ o
      → IsSomeAnd (option_and_then (λ other. row_after p.outline f.method f.item (made_at p f.method h.code) (use_by p f.method other) other h.known) o)
      (λ after. (next : ℕ) → IsNormalEdge h.code f.item next → FitsAt p (facts.typing f.method) next after)
      → (i : Insn) × (insn_of h.code f.item ≡ Some i)
  found None is row = absurd row
  found (Some i) is row = (i, is)

  instruction : (i : Insn) × (insn_of h.code f.item ≡ Some i)
  instruction = found (insn_of h.code f.item) refl meets.row

  level : length f.stack ≡ length h.known.stack - words
  level = sym (kinds_length sound.HasKind (drop words h.known.stack) f.stack h.stack) ∙ length-drop words h.known.stack

  word_slot : (n : ℕ) (v : Value) → slice_get f.stack n ≡ Some v → (s : slots.Slot) × (slice_get h.known.stack (words + n) ≡ Some s) × sound.HasKind s v
  word_slot n v at =
      let there = kind_at (drop words h.known.stack) f.stack n v h.stack at in
      (there.0, sym (dropped_at words n h.known.stack) ∙ there.1, there.2)

  word_is : (n : ℕ) (v : Value) (s : slots.Slot) → slice_get f.stack n ≡ Some v → slice_get h.known.stack (words + n) ≡ Some s
      → word_in_state (length f.stack - 1 - n) (state_at (facts.typing f.method) f.item) ≡ Some s
  word_is n v s at there =
      let inside = slice_get_within f.stack n v at in
      let low = slice_get_within h.known.stack (words + n) s there in
      let same : length f.stack - 1 - n ≡ length h.known.stack - 1 - (words + n) = omega (arith, level, inside, low) in
      ap (word_in_state (length f.stack - 1 - n)) h.at
      ∙ ap (slice_get (reverse h.known.stack)) same ∙ slot_from_below h.known.stack (words + n) low ∙ there

  pub stands_at : StandsAt p facts f
  stands_at = record {
    code = h.code;
    code_is = h.code_is;
    insn = instruction.0;
    insn_is = instruction.1;
    state = h.known;
    state_is = h.at;
    width =
        let locals = kinds_length sound.LocalHasKind h.known.locals f.locals h.locals in
        let wide = meets.locals in omega (arith, locals, wide);
    is_node = λ n v at reference.
        let there = word_slot n v at in
        subst (λ (w : Option slots.Slot). IsSomeAnd w (λ s. is_reference s ≡ true)) (sym (word_is n v there.0 at there.1))
        (kind_of_reference there.0 v there.2 reference);
    is_reference = λ n v at node.
        let there = word_slot n v at in
        reference_of_kind there.0 v there.2
        (subst (λ (w : Option slots.Slot). IsSomeAnd w (λ s. is_reference s ≡ true)) (word_is n v there.0 at there.1) node);
  }

pub goes_on : (p : Program) (facts : Facts) (exact : AreFacts p facts) (f : Frame) → sound.StandsWithout p facts.typing 0 f → Goes p facts f
goes_on p facts exact f h = record {
  at = stands_at p facts exact 0 f h;
  depth =
      let same = level p facts exact 0 f h in
      let depth = depth_is p facts f h.code f.item h.known h.at in omega (arith, same, depth);
}

-- ---- a frame that waits

called_words : (o : Outline) (i : Insn) (named words : ℕ) → sound.words_of_call o i named ≡ Some words
    → (static : Bool) × (static_method_wanted i ≡ Some static) × (words_of_arguments o named + receiver_count (not static) ≡ words)
called_words o (insn.Virtual index) named words h = (false, refl, same_Some (words_of_arguments o named + 1) words h)
called_words o (insn.Interface index) named words h = (false, refl, same_Some (words_of_arguments o named + 1) words h)
called_words o (insn.Special index) named words h = (false, refl, same_Some (words_of_arguments o named + 1) words h)
called_words o (insn.Static index) named words h =
    let plain : words_of_arguments o named + 0 ≡ words_of_arguments o named = omega arith in
    (true, refl, plain ∙ same_Some (words_of_arguments o named) words h)
called_words o i named words h = absurd (none-some words h)

insn_same : (p : Program) (f : Frame) (code : Code) (i other : Insn) → code_at p f.method ≡ Some code → insn_of code f.item ≡ Some i
    → next_insn p f ≡ Some other → i ≡ other
insn_same p f code i other code_is insn_is at =
    same_Some i other (sym insn_is ∙ sym (ap (λ o. option_and_then (λ (c : Code). insn_of c f.item) o) code_is) ∙ at)

module _ (p : Program) (facts : Facts) (exact : AreFacts p facts) (ready : IsResolved p) (above f : Frame) (h : sound.Calling p facts.typing above f) (covered : IsTarget p facts f above.method) where
  at : StandsAt p facts f
  at = stands_at p facts exact h.words f h.stands

  abbrev x : TypedMethod
  x = method_of p facts f at.code

  same : at.insn ≡ h.called
  same = insn_same p f at.code at.insn h.called at.code_is at.insn_is h.at

  used : (m : MethodId) × (t : TypeId) × (use_by p f.method h.called ≡ resolved.OfMethod m t) × (m.0 ≡ h.named)
  used = named_in (use_by p f.method h.called) h.named h.names

  sort : (static : Bool) × (static_method_wanted h.called ≡ Some static) × (words_of_arguments p.outline h.named + receiver_count (not static) ≡ h.words)
  sort = called_words p.outline h.called h.named h.words h.takes

  use_is : use_by p f.method at.insn ≡ resolved.OfMethod used.0 used.1
  use_is = ap (use_by p f.method) same ∙ used.2

  wanted : static_method_wanted at.insn ≡ Some sort.0
  wanted = ap static_method_wanted same ∙ sort.1

  abbrev c : CallsMethod p f.method at.insn
  c = record {
    m = used.0;
    t = used.1;
    use_is = use_is;
    static = sort.0;
    wanted = wanted;
    flags = ready.calls f.method at.insn used.0 used.1 sort.0
        (record { code = at.code; code_is = at.code_is; item = f.item; insn_is = at.insn_is; use_is = use_is }) wanted;
  }

  takes : TakesCall p.outline used.0.0 (not sort.0) h.stands.known.stack
  takes = state_takes p facts exact f at.code at.insn h.stands.known at.code_is at.insn_is h.stands.at c

  words_is : words_of_arguments p.outline used.0.0 + receiver_count (not sort.0) ≡ h.words
  words_is = ap (λ n. words_of_arguments p.outline n + receiver_count (not sort.0)) used.3 ∙ sort.2

  -- the words below those that are taken
  rest_level : length f.stack ≡ length takes.rest
  rest_level =
      let low = level p facts exact h.words f h.stands in
      let all : length h.stands.known.stack ≡ length takes.words + length takes.rest = ap length takes.is ∙ length-append takes.words takes.rest in
      let many = call_length p.outline used.0.0 (not sort.0) h.stands.known.stack takes in
      omega (arith, low, all, many, words_is)

  depth : length f.stack ≡ depth_below x f.item at.insn
  depth =
      let low = level p facts exact h.words f h.stands in
      let deep = depth_is p facts f at.code f.item h.stands.known h.stands.at in
      let many = words_are p f.method at.insn c in
      omega (arith, low, deep, many, words_is)

  made : (call : Call) × (call_of x at.insn ≡ Some call)
  made =
      let there = type_there p.outline used.0 used.1 (subst (IsUseIn p.outline) use_is (use_there p ready f.method at.insn)) in
      call_is_made x at.insn c there.0 there.1

  among : Contains (targets p made.0) above.method
  among = covered at.code at.insn made.0 at.code_is at.insn_is made.1

  arguments : (k : ℕ) → IsEnd p.outline above.method (end.Parameter k) ↔ IsNode x (argument f k)
  arguments k =
      let fits : Fits p.outline used.0.0 above.method sort.0 = target_fits x at.insn c made.0 above.method made.1 among in
      let ends = call_ends p.outline used.0.0 above.method sort.0 h.stands.known.stack takes fits.parameters fits.flags k in
      let found : word_in_state (length f.stack + k) (state_at (facts.typing f.method) f.item) ≡ slice_get (reverse h.stands.known.stack) (length takes.rest + k) =
      ap (word_in_state (length f.stack + k)) h.stands.at ∙ ap (λ n. slice_get (reverse h.stands.known.stack) (n + k)) rest_level in (
        (λ ended. subst (λ (w : Option slots.Slot). IsSomeAnd w (λ s. is_reference s ≡ true)) (sym found) (ends.0 ended)),
        (λ node. ends.1 (subst (λ (w : Option slots.Slot). IsSomeAnd w (λ s. is_reference s ≡ true)) found node)),
      )

  -- a frame that called the one above it is at the call, and its words are those below the arguments
  pub called_frame : Called p facts above f
  called_frame =
      record { at = at; call = made.0; call_is = made.1; among = among; depth = depth; arguments = arguments }

-- ---- all frames

module _ (p : Program) (facts : Facts) (exact : AreFacts p facts) (ready : IsResolved p) where
  stand_below : (above : Frame) (frames : List Frame) → sound.StandBelow p facts.typing above frames → AreCoveredBelow p facts above frames
      → StandBelow p facts above frames
  stand_below above [] h covered = tt
  stand_below above (f ∷ callers) h covered = (
    ⊎_elim (λ calling. inl (calling.is_no_start, called_frame p facts exact ready above f calling (covered.0 calling.is_no_start)))
        (λ starting. inr (starting.starts, record { goes = goes_on p facts exact f starting.stands })) h.0,
    stand_below f callers h.1 covered.1,
  )

  -- the frames of a sound state are as the laws require, where each called method is among the
  -- targets
  pub stand_soundly : (frames : List Frame) → sound.Stand p facts.typing frames → AreCovered p facts frames → Stand p facts frames
  stand_soundly [] h covered = tt
  stand_soundly (f ∷ callers) h covered = (goes_on p facts exact f h.0, stand_below f callers h.1 covered)
