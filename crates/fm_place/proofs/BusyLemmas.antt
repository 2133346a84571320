-- Busy by computation and by a witness.
use Rattle.std.proofs.Common.{◌≡◌, ◌⊎◌, ℕ, ◌<◌, ◌||◌, Bool, true, length, reverse, Option, Some, None, IsSomeAnd, refl, ⊎_elim, eq-eqb, arith, Contains}
use Rattle.std.specs.Prelude.{is_some, nat_eq, option_and_then, slice_get}
use Rattle.std.specs.List.{list_any, range_with_len}
use Rattle.std.proofs.lemmas.Bool.{and_from, eqb-true, false≢true, or_cases, or_left, or_right}
use Rattle.std.proofs.lemmas.List.{length-reverse}
use Rattle.std.proofs.lemmas.Option.{slice_get_within}
use Rattle.fm_base.proofs.ContainsFacts.{any-found}
use Rattle.fm_base.proofs.TestFacts.{and_left, and_right}
use Rattle.fm_conn.proofs.ListLemmas.{Contains-range}
use Rattle.fm_conn.specs.Nodes.{depth_at, IsNode, Local, Slot, TypedMethod, word_at}
use Rattle.fm_types.specs.States.{is_reference, TypeState}
use Rattle.fm_types.specs.Typed.{state_at}
use Rattle.fm_types.specs.declared.slots.Slot as slots
use Rattle.fm_place.proofs.PlaceLemmas.{any-from}
use Rattle.fm_place.specs.Laws.{BusyIsByWitness, WordsKeepBusy}
use Rattle.fm_place.specs.Places.{InLocal, InWord, is_busy, is_local_in, is_reference_word, is_word_in, IsBusy}

pub word-node : (w : Option slots.Slot) → is_reference_word w ≡ true → IsSomeAnd w (λ s. is_reference s ≡ true)
word-node None holds = absurd (false≢true holds)
word-node (Some s) holds = holds

pub node-word : (w : Option slots.Slot) → IsSomeAnd w (λ s. is_reference s ≡ true) → is_reference_word w ≡ true
node-word None node = absurd node
node-word (Some s) node = node

abbrev pub depth_of : Option TypeState → ℕ
depth_of None = 0
depth_of (Some s) = length s.stack

pub slot-depth : (s : TypeState) (depth : ℕ) (w : Option slots.Slot) → slice_get (reverse s.stack) depth ≡ w → IsSomeAnd w (λ v. is_reference v ≡ true)
    → depth < length s.stack
slot-depth s depth None same node = absurd node
slot-depth s depth (Some v) same node =
    let inside = slice_get_within (reverse s.stack) depth v same in
    let count = length-reverse s.stack in
    omega (arith, inside, count)

pub state-depth : (o : Option TypeState) (depth : ℕ)
    → IsSomeAnd (option_and_then (λ (s : TypeState). slice_get (reverse s.stack) depth) o) (λ v. is_reference v ≡ true) → depth < depth_of o
state-depth None depth node = absurd node
state-depth (Some s) depth node = slot-depth s depth (slice_get (reverse s.stack) depth) refl node

pub node-depth : (x : TypedMethod) (j depth : ℕ) → IsNode x (Slot j depth) → depth < depth_at x j
node-depth x j depth node = state-depth (state_at x.states j) depth node

-- what has a word has a state
word-reached : (o : Option TypeState) (depth : ℕ)
    → IsSomeAnd (option_and_then (λ (s : TypeState). slice_get (reverse s.stack) depth) o) (λ v. is_reference v ≡ true) → is_some o ≡ true
word-reached None depth node = absurd node
word-reached (Some s) depth node = refl

pub words_keep_busy : WordsKeepBusy
words_keep_busy facts x j depth node =
    and_from (is_some (state_at x.states j)) (words || locals) (word-reached (state_at x.states j) depth node)
    (or_left words locals
    (any-from (is_word_in facts x class j) (range_with_len 0 (depth_at x j)) depth
    (Contains-range 0 (depth_at x j) depth (omega arith) (omega (arith, node-depth x j depth node)))
    (and_from (is_reference_word (word_at x j depth)) (nat_eq (facts.class x.number (Slot j depth)) class) (node-word (word_at x j depth) node)
    (eq-eqb class class refl)))) where
      class : ℕ
      class = facts.class x.number (Slot j depth)

      words : Bool
      words = list_any (is_word_in facts x class j) (range_with_len 0 (depth_at x j))

      locals : Bool
      locals = list_any (is_local_in facts x class j) (range_with_len 0 x.code.max_locals)

pub busy_is_by_witness : BusyIsByWitness
busy_is_by_witness facts x class j within = (forth, back) where
  words : Bool
  words = list_any (is_word_in facts x class j) (range_with_len 0 (depth_at x j))

  locals : Bool
  locals = list_any (is_local_in facts x class j) (range_with_len 0 x.code.max_locals)

  in_word : is_some (state_at x.states j) ≡ true
      → (depth : ℕ) × Contains (range_with_len 0 (depth_at x j)) depth × (is_word_in facts x class j depth ≡ true) → IsBusy facts x class j
  in_word reached (depth, inside, passes) =
      InWord depth reached
      (word-node (word_at x j depth) (and_left (is_reference_word (word_at x j depth)) (nat_eq (facts.class x.number (Slot j depth)) class) passes))
      (eqb-true (facts.class x.number (Slot j depth)) class
      (and_right (is_reference_word (word_at x j depth)) (nat_eq (facts.class x.number (Slot j depth)) class) passes))

  in_local : is_some (state_at x.states j) ≡ true
      → (k : ℕ) × Contains (range_with_len 0 x.code.max_locals) k × (is_local_in facts x class j k ≡ true) → IsBusy facts x class j
  in_local reached (k, inside, passes) =
      InLocal k reached (and_left (facts.live x.number k j) (nat_eq (facts.class x.number (Local k)) class) passes)
      (eqb-true (facts.class x.number (Local k)) class
      (and_right (facts.live x.number k j) (nat_eq (facts.class x.number (Local k)) class) passes))

  forth : is_busy facts x class j ≡ true → IsBusy facts x class j
  forth holds =
      let reached = and_left (is_some (state_at x.states j)) (words || locals) holds in
      ⊎_elim (λ word. in_word reached (any-found (is_word_in facts x class j) (range_with_len 0 (depth_at x j)) word))
      (λ live. in_local reached (any-found (is_local_in facts x class j) (range_with_len 0 x.code.max_locals) live))
      (or_cases words locals (and_right (is_some (state_at x.states j)) (words || locals) holds))

  back : IsBusy facts x class j → is_busy facts x class j ≡ true
  back (InWord depth reached node same) =
      and_from (is_some (state_at x.states j)) (words || locals) reached
      (or_left words locals
      (any-from (is_word_in facts x class j) (range_with_len 0 (depth_at x j)) depth
      (Contains-range 0 (depth_at x j) depth (omega arith) (omega (arith, node-depth x j depth node)))
      (and_from (is_reference_word (word_at x j depth)) (nat_eq (facts.class x.number (Slot j depth)) class) (node-word (word_at x j depth) node)
      (eq-eqb (facts.class x.number (Slot j depth)) class same))))
  back (InLocal k reached live same) =
      and_from (is_some (state_at x.states j)) (words || locals) reached
      (or_right words locals
      (any-from (is_local_in facts x class j) (range_with_len 0 x.code.max_locals) k
      (Contains-range 0 x.code.max_locals k (omega arith) (omega (arith, within k live)))
      (and_from (facts.live x.number k j) (nat_eq (facts.class x.number (Local k)) class) live
      (eq-eqb (facts.class x.number (Local k)) class same))))
