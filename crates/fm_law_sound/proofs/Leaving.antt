-- The frame that an effect leaves has the kinds of the state that the row of the checker gives: one lemma for each way in which rows are made.
use Rattle.std.proofs.Common.{◌≡◌, ℕ, ◌+◌, true, List, [], ◌∷◌, ◌++◌, length, drop, map, cond, Option, Some, None, option_and_then, refl, subst}
use Rattle.std.proofs.lemmas.Bool.{false≢true}
use Rattle.std.proofs.lemmas.Option.{same_Some}
use Rattle.fm_base.proofs.OptionFacts.{cond-some_then}
use Rattle.fm_base.specs.declared.kinds.Kind.{Kind}
use Rattle.fm_base.specs.declared.kinds.Kind.TheVariants as kind
use Rattle.fm_base.specs.declared.kinds.TypeRef.{TypeRef}
use Rattle.fm_types.specs.Fits.{fits}
use Rattle.fm_types.specs.Moves.{moved, Moves}
use Rattle.fm_types.specs.States.{is_whole, stack_slots, taken, TypeState, worked, worked_below}
use Rattle.fm_types.specs.declared.slots.Slot.{Slot}
use Rattle.fm_types.specs.declared.slots.Slot.TheVariants as slot
use Rattle.fm_base.specs.Kinds.{kind_words}
use Rattle.fm_world.specs.Programs.{Outline}
use Rattle.fm_frames.specs.Acts.{value_of}
use Rattle.fm_frames.specs.Effects.{Effect, loaded, OfOperand, Source, words}
use Rattle.fm_frames.specs.Elements.{read}
use Rattle.fm_frames.specs.States.{Areas, Frame, word_at}
use Rattle.fm_frames.specs.declared.values.Value.{Value}
use Rattle.fm_law_sound.specs.Leading.{LeavesAs, sources_of}
use Rattle.fm_law_sound.specs.Sound.{field_slot, FrameHasKinds, HasKind, HaveKinds, IsReference, LocalHasKind, static_slots}
use Rattle.fm_law_sound.proofs.FramesLeft as left
use Rattle.fm_law_sound.proofs.FramesLeft.{AreAs}
use Rattle.fm_law_sound.specs.BuiltIns.{GivesSlots}

-- ---- values of a kind

pub read_kind : (k : Kind) (n : ℕ) → HasKind (field_slot k) (read k n)
unfolding read
read_kind kind.Boolean n = (_, refl)
read_kind kind.Byte n = (_, refl)
read_kind kind.Char n = (_, refl)
read_kind kind.Short n = (_, refl)
read_kind kind.Int n = (_, refl)
read_kind kind.Long n = (_, refl)
read_kind (kind.Ref t) n = tt

-- the words of a value of the kind
pub loaded_gives : (o : Outline) (f : Frame) (k : Kind) (source : Source)
    → ((areas : Areas) (made : List ℕ) → HaveKinds (static_slots o) areas.statics → HasKind (field_slot k) (value_of (sources_of f areas made) source))
    → GivesSlots o f (stack_slots (k ∷ [])) (loaded k source)
loaded_gives o f kind.Boolean source h areas made statics = (h areas made statics, tt)
loaded_gives o f kind.Byte source h areas made statics = (h areas made statics, tt)
loaded_gives o f kind.Char source h areas made statics = (h areas made statics, tt)
loaded_gives o f kind.Short source h areas made statics = (h areas made statics, tt)
loaded_gives o f kind.Int source h areas made statics = (h areas made statics, tt)
loaded_gives o f kind.Long source h areas made statics = (refl, (h areas made statics, tt))
loaded_gives o f (kind.Ref t) source h areas made statics = (h areas made statics, tt)

pub kind_slots : (k : Kind) → kind_words k ≡ length (stack_slots (k ∷ []))
kind_slots kind.Boolean = refl
kind_slots kind.Byte = refl
kind_slots kind.Char = refl
kind_slots kind.Short = refl
kind_slots kind.Int = refl
kind_slots kind.Long = refl
kind_slots (kind.Ref t) = refl

-- ---- references among what is taken

reference_below : (o : Outline) (s : Slot) (t : TypeRef) (v : Value) → fits o s (slot.Ref t) ≡ true → HasKind s v → IsReference v
unfolding fits
reference_below o slot.Null t v is h = h
reference_below o (slot.Ref other) t v is h = h
reference_below o s t v is h = absurd (false≢true is)

-- the topmost word is a reference, and may count as one of any type
pub reference_taken : (o : Outline) (t other : TypeRef) (stack rest : List Slot) (words : List Value) → taken o (slot.Ref t ∷ []) stack ≡ Some rest
    → HaveKinds stack words → IsReference (word_at words 0) × HaveKinds (slot.Ref other ∷ rest) words
reference_taken o t other [] rest words is h = absurd (cc)
reference_taken o t other (s ∷ stack) rest [] is h = absurd h
reference_taken o t other (s ∷ stack) rest (v ∷ words) is h =
    let parts = cond-some_then (fits o s (slot.Ref t)) (Some stack) rest is in
    let reference : IsReference v = reference_below o s t v parts.0 h.0 in
    (reference, (reference, subst (λ xs. HaveKinds xs words) (same_Some stack rest parts.1) h.1))

-- ---- states that rows give

module _ (o : Outline) (s : TypeState) (f : Frame) (h : FrameHasKinds s f.locals f.stack) where
  -- a frame that relates to a state by kinds has its kinds
  pub kinds_left : (known : TypeState) (locals stack : List Value) → AreAs LocalHasKind HasKind known locals stack → FrameHasKinds known locals stack
  kinds_left known locals stack are = record { in_locals = are.in_locals; in_stack = are.in_stack }

  pub kinds_before : AreAs LocalHasKind HasKind s f.locals f.stack
  kinds_before = record { in_locals = h.in_locals; in_stack = h.in_stack }

  -- the locals stay, and the stack is this one
  pub leaves_stack : (after : TypeState) (stack : List Slot) (e : Effect) → record s { stack = stack } ≡ after → e.writes ≡ []
      → ((areas : Areas) (made : List ℕ) → HaveKinds (static_slots o) areas.statics
      → HaveKinds stack (map (value_of (sources_of f areas made)) e.gives ++ drop e.takes f.stack))
      → LeavesAs o after f e
  leaves_stack after stack e is writes gives areas made statics =
      kinds_left _ _ _ (left.stack_leaves LocalHasKind HasKind s after (sources_of f areas made) kinds_before stack e is writes (gives areas made statics))

  pub same_leaves : (e : Effect) → e.takes ≡ 0 → e.gives ≡ [] → e.writes ≡ [] → LeavesAs o s f e
  same_leaves e takes gives writes areas made statics =
      kinds_left _ _ _ (left.same_leaves LocalHasKind HasKind s s (sources_of f areas made) kinds_before e refl takes gives writes)

  -- more on top
  pub pushed_leaves : (given : List Slot) (after : TypeState) (e : Effect) → Some (record s { stack = given ++ s.stack }) ≡ Some after → e.takes ≡ 0
      → e.writes ≡ [] → GivesSlots o f given e.gives → LeavesAs o after f e
  pushed_leaves given after e is takes writes gives areas made statics =
      kinds_left _ _ _ (left.pushed_leaves LocalHasKind HasKind s after (sources_of f areas made) kinds_before given e is takes writes (gives areas made statics))

  -- other slots in place of those on top
  pub worked_leaves : (wanted given : List Slot) (after : TypeState) (e : Effect) → worked o wanted given s ≡ Some after → e.takes ≡ length wanted
      → e.writes ≡ [] → GivesSlots o f given e.gives → LeavesAs o after f e
  worked_leaves wanted given after e row takes writes gives areas made statics =
      kinds_left _ _ _
      (left.worked_leaves LocalHasKind HasKind s after (sources_of f areas made) kinds_before o wanted given e row takes writes (gives areas made statics))

  -- the same in place of the slot below them too
  pub worked_below_leaves : (wanted : List Slot) (given : Slot → Option (List Slot)) (after : TypeState) (e : Effect) → worked_below o wanted given s ≡ Some after
      → e.takes ≡ length wanted + 1 → e.writes ≡ []
      → ((below : Slot) (slots : List Slot) → given below ≡ Some slots → GivesSlots o f slots e.gives)
      → LeavesAs o after f e
  worked_below_leaves wanted given after e row takes writes gives areas made statics =
      let b = left.below_found o s wanted given after row in
      kinds_left _ _ _
      (left.below_leaves LocalHasKind HasKind s after (sources_of f areas made) kinds_before o wanted given e b takes writes
      (gives b.below b.slots b.given_is areas made statics))

  -- words of the stack by their places
  pub moved_leaves : (m : Moves) (after : TypeState)
      → option_and_then (λ stack. cond (is_whole stack) (Some (record s { stack = stack })) None) (moved m s.stack) ≡ Some after
      → LeavesAs o after f (words m.takes (map OfOperand m.gives))
  moved_leaves m after row areas made statics =
      kinds_left _ _ _ (left.moved_leaves LocalHasKind HasKind s after (sources_of f areas made) kinds_before m row)
