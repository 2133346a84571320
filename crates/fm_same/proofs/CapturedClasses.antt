-- What the tests for captured classes and for busy ones say of the nodes of a class.
use Rattle.std.proofs.Common.{◌≡◌, ◌≢◌, ℕ, zero, suc, ◌<◌, ◌==◌, ◌&&◌, ◌||◌, not, Bool, true, false, List, [], ◌∷◌, length, IsSomeAnd, sym, ◌∙◌, slice_get, slice_index_or, arith, eq-eqb, Contains}
use Rattle.std.specs.Prelude.{is_some, nat_eq}
use Rattle.std.specs.List.{list_any, range_with_len}
use Rattle.std.proofs.lemmas.Bool.{and_from, false≢true, or_left, or_right}
use Rattle.fm_base.proofs.TestFacts.{and_left, and_right}
use Rattle.fm_code.proofs.EdgesLemmas.{Contains-filter}
use Rattle.fm_conn.proofs.ListLemmas.{Contains-range}
use Rattle.fm_conn.specs.Facts.{Facts}
use Rattle.fm_conn.specs.Nodes.{depth_at, Global, IsNode, Local, Return, Slot, TypedMethod, word_at}
use Rattle.fm_conn.specs.Pairs.{IsEnd}
use Rattle.fm_conn.specs.declared.ends.End2.TheVariants as end
use Rattle.fm_place.proofs.BusyLemmas.{node-depth, node-word}
use Rattle.fm_place.proofs.PlaceLemmas.{any-from}
use Rattle.fm_place.specs.Places.{is_busy, is_local_in, is_reference_word, is_word_in}
use Rattle.fm_place.specs.Sites.{is_captured, reference_parameters}
use Rattle.fm_types.specs.States.{is_reference}
use Rattle.fm_types.specs.Typed.{entry_slots, state_at}
use Rattle.fm_types.specs.declared.slots.Slot as slots
use Rattle.fm_types.specs.declared.slots.Slot.TheVariants as slot
use Rattle.fm_world.specs.Programs.{Outline}
use Rattle.fm_frames.specs.States.{Frame}
use Rattle.fm_same.specs.Regions.{Own, region}
use Rattle.fm_same.proofs.RegionLemmas.{Sort, sort_of, WithGlobal, WithNeither, WithParameter}

fails : (b : Bool) → not b ≡ true → b ≡ true → ⊥
fails true no_more holds = false≢true no_more
fails false no_more holds = false≢true holds

-- ---- captured

parameter_within : (all : List slots.Slot) (k : ℕ) → IsSomeAnd (slice_get all k) (λ s. is_reference s ≡ true)
    → (k < length all) × (is_reference (slice_index_or all k slot.Top) ≡ true)
parameter_within [] k some = absurd some
parameter_within (s ∷ all) zero some = (omega arith, some)
parameter_within (s ∷ all) (suc k) some =
    let rest : (k < length all) × (is_reference (slice_index_or all k slot.Top) ≡ true) = parameter_within all k some in
    (omega (arith, rest.0), rest.1)

parameter_listed : (o : Outline) (method k : ℕ) → IsEnd o method (end.Parameter k) → Contains (reference_parameters o method) k
parameter_listed o method k ended =
    let there : (k < length (entry_slots o method)) × (is_reference (slice_index_or (entry_slots o method) k slot.Top) ≡ true) =
    parameter_within (entry_slots o method) k ended in
    Contains-filter (λ i. is_reference (slice_index_or (entry_slots o method) i slot.Top)) (range_with_len 0 (length (entry_slots o method))) k
    (Contains-range 0 (length (entry_slots o method)) k (omega arith) (omega (arith, there.0))) there.1

-- a captured class holds neither Global, nor the result, nor a parameter
pub record Holds (facts : Facts) (x : TypedMethod) (class : ℕ) : Type 0 where
  pub not_global : facts.class x.number Global ≢ class
  pub not_result : facts.class x.number Return ≢ class
  pub no_parameter : (k : ℕ) → IsEnd x.program.outline x.number (end.Parameter k) → facts.class x.number (Local k) ≢ class

pub captured_holds : (facts : Facts) (x : TypedMethod) (class : ℕ) → is_captured facts x class ≡ true → Holds facts x class
captured_holds facts x class captured =
    let outside : Bool = facts.class x.number Global == class in
    let result : Bool = facts.class x.number Return == class in
    let given : Bool = list_any (λ k. facts.class x.number (Local k) == class) (reference_parameters x.program.outline x.number) in
    let both : (not outside && not result) ≡ true = and_left (not outside && not result) (not given) captured in
    record {
      not_global = λ same. fails outside (and_left (not outside) (not result) both) (eq-eqb (facts.class x.number Global) class same);
      not_result = λ same. fails result (and_right (not outside) (not result) both) (eq-eqb (facts.class x.number Return) class same);
      no_parameter = λ k ended same.
          fails given (and_right (not outside && not result) (not given) captured)
          (any-from (λ i. facts.class x.number (Local i) == class) (reference_parameters x.program.outline x.number) k
          (parameter_listed x.program.outline x.number k ended) (eq-eqb (facts.class x.number (Local k)) class same));
    }

-- so it has a region of its own
pub captured_is_own : (facts : Facts) (x : TypedMethod) (callers : List Frame) (class : ℕ) → is_captured facts x class ≡ true
    → region x.program.outline facts x.number callers class ≡ Own (length callers) class
captured_is_own facts x callers class captured = by_sort (sort_of x.program.outline facts x.number callers class) where
  holds : Holds facts x class
  holds = captured_holds facts x class captured

  by_sort : Sort x.program.outline facts x.number callers class → region x.program.outline facts x.number callers class ≡ Own (length callers) class
  by_sort (WithGlobal same is) = absurd (holds.not_global same)
  by_sort (WithParameter k ended same is) = absurd (holds.no_parameter k ended same)
  by_sort (WithNeither apart none is) = is

-- ---- busy

module _ (facts : Facts) (x : TypedMethod) (class j : ℕ) (reached : is_some (state_at x.states j) ≡ true) (quiet : is_busy facts x class j ≡ false) where
  abbrev words : Bool
  words = list_any (is_word_in facts x class j) (range_with_len 0 (depth_at x j))

  abbrev locals : Bool
  locals = list_any (is_local_in facts x class j) (range_with_len 0 x.code.max_locals)

  -- where a class isn't busy, no word of the stack is in it
  pub quiet_word : (depth : ℕ) → IsNode x (Slot j depth) → facts.class x.number (Slot j depth) ≢ class
  quiet_word depth node same =
      false≢true
      (sym quiet
      ∙ and_from (is_some (state_at x.states j)) (words || locals) reached
      (or_left words locals
      (any-from (is_word_in facts x class j) (range_with_len 0 (depth_at x j)) depth
      (Contains-range 0 (depth_at x j) depth (omega arith) (omega (arith, node-depth x j depth node)))
      (and_from (is_reference_word (word_at x j depth)) (nat_eq (facts.class x.number (Slot j depth)) class) (node-word (word_at x j depth) node)
      (eq-eqb (facts.class x.number (Slot j depth)) class same)))))

  -- and no live local is
  pub quiet_local : (k : ℕ) → k < x.code.max_locals → facts.live x.number k j ≡ true → facts.class x.number (Local k) ≢ class
  quiet_local k inside live same =
      false≢true
      (sym quiet
      ∙ and_from (is_some (state_at x.states j)) (words || locals) reached
      (or_right words locals
      (any-from (is_local_in facts x class j) (range_with_len 0 x.code.max_locals) k
      (Contains-range 0 x.code.max_locals k (omega arith) (omega (arith, inside)))
      (and_from (facts.live x.number k j) (nat_eq (facts.class x.number (Local k)) class) live (eq-eqb (facts.class x.number (Local k)) class same)))))
