-- The pairs that are listed of a method join what the definitions join.
use Rattle.std.proofs.Common.{◌≡◌, ℕ, zero, suc, ◌<◌, ◌⊎◌, Bool, List, [], ◌∷◌, length, get_or, Some, Contains, sym, ◌∙◌, subst, inl, inr, ⊎_elim, arith}
use Rattle.std.proofs.lemmas.List.{length-map}
use Rattle.std.proofs.lemmas.List.Elements.{Contains-append_left, Contains-append_right, Contains-append_cases, Contains-get_or}
use Rattle.std.specs.List.{AllByRecursion, flat_map, range_with_len, slice_get}
use Rattle.std.specs.Option.{option_map}
use Rattle.fm_base.specs.Graph.{AreJoined, AreNodes}
use Rattle.fm_code.specs.SpellsCode.{LocalsFit}
use Rattle.fm_code.specs.declared.code_array.Code.{Code}
use Rattle.fm_code.specs.declared.code_array.Item.{Item}
use Rattle.fm_code.specs.declared.instructions.Insn.{Insn}
use Rattle.fm_flow.proofs.CodeFacts.{items_counted}
use Rattle.fm_flow.specs.Flow.{IsFlowOf}
use Rattle.fm_flow.specs.declared.flow.Flow.{Flow}
use Rattle.fm_types.specs.States.{TypeState}
use Rattle.fm_types.specs.Typings.{known_state}
use Rattle.fm_conn.proofs.CallLemmas.{called_listed, calls_sound}
use Rattle.fm_base.proofs.GraphLemmas.{numbers_back, numbers_one, numbers_then}
use Rattle.fm_conn.proofs.ChainLemmas.{Lists}
use Rattle.fm_conn.proofs.NumberLemmas.{number_below}
use Rattle.fm_conn.proofs.PairLemmas.{caught_listed, IsTabled, joined_listed, own_sound, PairNumbers, stays_listed}
use Rattle.fm_conn.proofs.WordLemmas.{Located, state_reached}
use Rattle.fm_conn.specs.Nodes.{Node, TypedMethod}
use Rattle.fm_conn.specs.Pairs.{CalledAt, CaughtAt, JoinedAt, Linking, PairAt, StaysAt}
use Rattle.fm_conn.specs.Shapes.{nothing_linked}
use Rattle.fm_conn.specs.Summaries.{linked_by, AreSummariesOf}
use Rattle.fm_conn.specs.declared.analysed_method.AnalysedMethod.{AnalysedMethod}
use Rattle.fm_conn.specs.declared.summaries.Summaries.{Summaries}
use Rattle.fm_conn.specs.inner.NodeTables.{node_count, number_of, table_of}
use Rattle.fm_conn.specs.inner.PairLists.{all_pairs, call_pairs_at, method_in, own_pairs, IsTypedAs}

-- ---- what is known of a method

locals_fit : (most : ℕ) (items : List Item) (j : ℕ) (i : Insn) → AllByRecursion (λ (item : Item). LocalsFit most item.insn) items →
    option_map (λ (item : Item). item.insn) (slice_get items j) ≡ Some i → LocalsFit most i
locals_fit most [] j i all is = absurd cc
locals_fit most (item ∷ items) zero i (fits, all) is = let same : item.insn ≡ i = cc in subst (LocalsFit most) same fits
locals_fit most (item ∷ items) (suc j) i (fits, all) is = locals_fit most items j i all is

pub tabled : (m : AnalysedMethod) (flow : Flow) → IsTypedAs m → IsFlowOf m.code.now flow → IsTabled (method_in m) flow.reached
tabled m flow typed is =
    let valid = is.spelled.1 in
    record {
      one_each = typed.one_each;
      locals = λ j i at. locals_fit m.code.now.max_locals m.code.now.items j i valid.locals at;
      tells = λ j. let reached = is.reachable.each j in let state = typed.reachable j in
          (λ set. state.1 (reached.0 set), λ some. reached.1 (state.0 some));
    }

pub few_items : (code : Code) (flow : Flow) → IsFlowOf code flow → length code.items < 65536
few_items code flow is = let counted = items_counted code is.spelled in let few = counted.1 in omega arith

pub states_counted : (m : AnalysedMethod) → IsTypedAs m → length m.typing.now.states ≡ length m.code.now.items
states_counted m typed = sym (length-map m.typing.now.states (option_map known_state)) ∙ typed.one_each

-- ---- what the lists join

pub own_lists : (x : TypedMethod) (reached : List Bool) → IsTabled x reached → Lists nothing_linked x (own_pairs x reached)
own_lists x reached tabled = record { sound = λ m n there. own_sound nothing_linked x reached m n tabled there; complete = complete } where
  by_case : (j : ℕ) (i : Insn) (s : TypeState) (a b : Node) (pair : PairAt nothing_linked x j a b) → Located x j i s →
      StaysAt x j i a b ⊎ JoinedAt x j i a b ⊎ CalledAt nothing_linked x j i a b ⊎ CaughtAt x j a b →
      AreJoined (own_pairs x reached) (number_of (table_of x) a) (number_of (table_of x) b)
  by_case j i s a b pair at (inl stays) = numbers_one (own_pairs x reached) _ _ (inl (stays_listed x reached j i s a b tabled at pair.first pair.second stays))
  by_case j i s a b pair at (inr (inl joined)) = numbers_one (own_pairs x reached) _ _ (inl (joined_listed x reached j i s a b tabled at pair.first pair.second joined))
  by_case j i s a b pair at (inr (inr (inl called))) = absurd called.links
  by_case j i s a b pair at (inr (inr (inr caught))) = numbers_one (own_pairs x reached) _ _ (inl (caught_listed x reached j i s a b tabled at pair.first caught))

  complete : (j : ℕ) (a b : Node) → PairAt nothing_linked x j a b → AreJoined (own_pairs x reached) (number_of (table_of x) a) (number_of (table_of x) b)
  complete j a b pair =
      let state = state_reached x j pair.reachable in
      by_case j pair.insn state.0 a b pair (record { state = state.1; insn = pair.is }) pair.paired

pub all_lists : (x : TypedMethod) (reached : List Bool) (summaries : Summaries) → IsTabled x reached → AreSummariesOf x.program.outline summaries →
    Lists (linked_by summaries) x (all_pairs x reached summaries)
all_lists x reached summaries tabled are = record { sound = sound; complete = complete } where
  calls : List (ℕ × ℕ)
  calls = flat_map (call_pairs_at x summaries) (range_with_len 0 (length x.code.items))

  sound : (m n : ℕ) → Contains (all_pairs x reached summaries) (m, n) → PairNumbers (linked_by summaries) x m n
  sound m n there =
      ⊎_elim (λ own. own_sound (linked_by summaries) x reached m n tabled own) (λ called. calls_sound x reached summaries m n tabled are called)
      (Contains-append_cases (own_pairs x reached) calls (m, n) there)

  own : (a b : Node) → Contains (own_pairs x reached) (number_of (table_of x) a, number_of (table_of x) b) →
      AreJoined (all_pairs x reached summaries) (number_of (table_of x) a) (number_of (table_of x) b)
  own a b there = numbers_one (all_pairs x reached summaries) _ _ (inl (Contains-append_left (own_pairs x reached) calls _ there))

  call : (m n : ℕ) → (m ≡ n) ⊎ Contains calls (m, n) → AreJoined (all_pairs x reached summaries) m n
  call m n (inl same) = ([], same)
  call m n (inr there) = numbers_one (all_pairs x reached summaries) m n (inl (Contains-append_right (own_pairs x reached) calls (m, n) there))

  by_case : (j : ℕ) (i : Insn) (s : TypeState) (a b : Node) (pair : PairAt (linked_by summaries) x j a b) → Located x j i s →
      StaysAt x j i a b ⊎ JoinedAt x j i a b ⊎ CalledAt (linked_by summaries) x j i a b ⊎ CaughtAt x j a b →
      AreJoined (all_pairs x reached summaries) (number_of (table_of x) a) (number_of (table_of x) b)
  by_case j i s a b pair at (inl stays) = own a b (stays_listed x reached j i s a b tabled at pair.first pair.second stays)
  by_case j i s a b pair at (inr (inl joined)) = own a b (joined_listed x reached j i s a b tabled at pair.first pair.second joined)
  by_case j i s a b pair at (inr (inr (inl called))) =
      let both = called_listed x reached summaries j i s a b tabled at pair.first pair.second called in
      numbers_then (all_pairs x reached summaries) (number_of (table_of x) a) both.first (number_of (table_of x) b)
      (call (number_of (table_of x) a) both.first both.one)
      (numbers_back (all_pairs x reached summaries) (number_of (table_of x) b) both.first (call (number_of (table_of x) b) both.first both.other))
  by_case j i s a b pair at (inr (inr (inr caught))) = own a b (caught_listed x reached j i s a b tabled at pair.first caught)

  complete : (j : ℕ) (a b : Node) → PairAt (linked_by summaries) x j a b →
      AreJoined (all_pairs x reached summaries) (number_of (table_of x) a) (number_of (table_of x) b)
  complete j a b pair =
      let state = state_reached x j pair.reachable in
      by_case j pair.insn state.0 a b pair (record { state = state.1; insn = pair.is }) pair.paired

-- the pairs name nodes
pub lists_nodes : (linked : Linking) (x : TypedMethod) (pairs : List (ℕ × ℕ)) → Lists linked x pairs → AreNodes (node_count (table_of x)) pairs
lists_nodes linked x pairs lists k d inside =
    let t = table_of x in
    let pair = get_or pairs k d in
    let found = lists.sound pair.0 pair.1 (Contains-get_or pairs k d inside) in
    let first = number_below t found.one found.first.there in
    let second = number_below t found.other found.second.there in
    let one = found.first.is in
    let other = found.second.is in
    (omega arith, omega arith)
