-- The listed pairs of calls are those of the definition, as summaries link ends.
use Rattle.std.proofs.Common.{◌≡◌, ℕ, ◌+◌, ◌-◌, ◌<◌, Bool, true, List, [], ◌∷◌, ◌++◌, length, Option, Some, None, is_some, Contains, refl, ap, sym, ◌∙◌, ◌⊎◌, subst, inl, inr, ⊎_elim, arith}
use Rattle.std.proofs.lemmas.List.Elements.{Contains-append_left, Contains-append_right, Contains-append_cases}
use Rattle.std.specs.List.{flat_map, range_with_len}
use Rattle.fm_base.proofs.ContainsFacts.{Contains-flat_map, Contains-none}
use Rattle.fm_code.specs.declared.instructions.Insn.{Insn}
use Rattle.fm_code.specs.declared.instructions.Insn.TheVariants as insn
use Rattle.fm_types.specs.States.{TypeState}
use Rattle.fm_world.specs.Programs.{targets}
use Rattle.fm_world.specs.declared.calls.Call.{Call}
use Rattle.fm_flow.proofs.SourcesLemmas.{Contains-from_flat_map}
use Rattle.fm_conn.proofs.ListLemmas.{Contains-one, Contains-range}
use Rattle.fm_conn.proofs.ListedEndLemmas.{linked_ends, linked_first, links-is}
use Rattle.fm_conn.proofs.PairLemmas.{below_is, IsTabled, PairNumbers, place_complete, place_sound, PlaceFits, slot_is, state_inside}
use Rattle.fm_conn.proofs.WordLemmas.{HasNumber, Located, located-at, located-some, node_below, reached_at, slot_number-some, words_count}
use Rattle.fm_conn.specs.Nodes.{Global, IsNode, Node, Slot, TypedMethod}
use Rattle.fm_conn.specs.Pairs.{call_of, CalledAt, IsEnd, StandsFor}
use Rattle.fm_conn.specs.Rows.{Given}
use Rattle.fm_conn.specs.Summaries.{end_number, ends_at, linked_by, AreSummariesOf}
use Rattle.fm_conn.specs.declared.ends.End2.{End2}
use Rattle.fm_conn.specs.declared.ends.End2.TheVariants as end
use Rattle.fm_conn.specs.declared.summaries.Summaries.{Summaries}
use Rattle.fm_conn.specs.inner.ListedEnds.{link_pairs}
use Rattle.fm_conn.specs.inner.NodeTables.{global_number, number_of, slot_number, table_of}
use Rattle.fm_conn.specs.inner.PairLists.{at_place, call_pairs, call_pairs_at, call_pairs_in, end_entry, ItemPlace, located, pairs_of_targets, place_at, place_number, stand_ins}

-- ---- the nodes of ends at a call

-- a call goes on only to the next item
pub call_fits : (most : ℕ) (x : TypedMethod) (i : Insn) (called : Call) → call_of x i ≡ Some called → PlaceFits most i (Given 0)
call_fits most x (insn.Virtual index) called some = (refl, refl)
call_fits most x (insn.Interface index) called some = (refl, refl)
call_fits most x (insn.Special index) called some = (refl, refl)
call_fits most x (insn.Static index) called some = (refl, refl)
call_fits most x i called some = absurd cc

pub record StandIn (x : TypedMethod) (j : ℕ) (i : Insn) (e : End2) (n : ℕ) : Type 0 where
  pub node : Node
  pub stands : StandsFor x j i e node
  pub number : HasNumber x node n

end_entry-has : (e f : End2) (o : Option ℕ) (n : ℕ) → Contains (end_entry e o) (f, n) → (f ≡ e) × (o ≡ Some n)
end_entry-has e f None n found = absurd (Contains-none (f, n) found)
end_entry-has e f (Some m) n found = let same = Contains-one (e, m) (f, n) found in (ap (λ w. w.0) same, ap (λ w. Some w.1) (sym same))

end_entry-some : (e : End2) (o : Option ℕ) (n : ℕ) → o ≡ Some n → Contains (end_entry e o) (e, n)
end_entry-some e o n some = subst (λ v. Contains (end_entry e v) (e, n)) (sym some) (0, omega arith, refl)

pub stand_sound : (x : TypedMethod) (reached : List Bool) (j : ℕ) (i : Insn) (s : TypeState) (e : End2) (n : ℕ) → IsTabled x reached → Located x j i s →
    PlaceFits x.code.max_locals i (Given 0) → Contains (stand_ins (table_of x) (place_at x j i s)) (e, n) → StandIn x j i e n
unfolding stand_ins
stand_sound x reached j i s e n tabled at fits found =
    let t = table_of x in
    let place = place_at x j i s in
    let word : ℕ → List (End2 × ℕ) = λ k. end_entry (end.Parameter k) (slot_number t place.item (place.below + k)) in
    let words = flat_map word (range_with_len 0 (place.depth - place.below)) in
    let given = end_entry end.Return (place_number t place (Given 0)) in
    ⊎_elim
    (λ before.
    ⊎_elim
    (λ (parameter : Contains words (e, n)).
    let piece = Contains-from_flat_map word (range_with_len 0 (place.depth - place.below)) (e, n) parameter in
    let k = piece.0 in
    let both = end_entry-has (end.Parameter k) e (slot_number t j (place.below + k)) n piece.2 in
    let made : StandIn x j i (end.Parameter k) n =
    record {
      node = Slot j (place.below + k);
      stands = ap (λ d. Slot j (d + k)) (sym (below_is x j i s at));
      number = slot_number-some x j (place.below + k) n both.1;
    } in
    subst (λ v. StandIn x j i v n) (sym both.0) made)
    (λ (result : Contains given (e, n)).
    let both = end_entry-has end.Return e (place_number t place (Given 0)) n result in
    let stands = place_sound x reached j i s (Given 0) n tabled at fits both.1 in
    let made : StandIn x j i end.Return n = record { node = stands.node; stands = stands.at; number = stands.number } in
    subst (λ v. StandIn x j i v n) (sym both.0) made)
    (Contains-append_cases words given (e, n) before))
    (λ outside.
    let same = Contains-one (end.Global, global_number t) (e, n) outside in
    let made : StandIn x j i end.Global n =
    record { node = Global; stands = refl; number = record { is_node = tt; there = tt; is = ap (λ w. w.1) same } } in
    subst (λ v. StandIn x j i v n) (sym (ap (λ w. w.0) same)) made)
    (Contains-append_cases (words ++ given) ((end.Global, global_number t) ∷ []) (e, n) found)

pub stand_complete : (x : TypedMethod) (j : ℕ) (i : Insn) (s : TypeState) (e : End2) (node : Node) → Located x j i s →
    PlaceFits x.code.max_locals i (Given 0) → StandsFor x j i e node → IsNode x node →
    Contains (stand_ins (table_of x) (place_at x j i s)) (e, number_of (table_of x) node)
unfolding stand_ins
stand_complete x j i s (end.Parameter k) node at fits stands is_node =
    let t = table_of x in
    let place = place_at x j i s in
    let word : ℕ → List (End2 × ℕ) = λ l. end_entry (end.Parameter l) (slot_number t place.item (place.below + l)) in
    let range = range_with_len 0 (place.depth - place.below) in
    let given = end_entry end.Return (place_number t place (Given 0)) in
    let is : node ≡ Slot j (place.below + k) = stands ∙ ap (λ d. Slot j (d + k)) (below_is x j i s at) in
    let here = node_below x j (place.below + k) (subst (IsNode x) is is_node) in
    let count = words_count x j s at.state in
    let low : k < place.depth - place.below = omega arith in
    Contains-append_left (flat_map word range ++ given) ((end.Global, global_number t) ∷ []) _
    (Contains-append_left (flat_map word range) given _
    (Contains-flat_map word range k _ (Contains-range 0 (place.depth - place.below) k (omega arith) (omega arith))
    (end_entry-some (end.Parameter k) (slot_number t j (place.below + k)) (number_of t node) (slot_is x node j (place.below + k) is is_node))))
stand_complete x j i s end.Return node at fits stands is_node =
    let t = table_of x in
    let place = place_at x j i s in
    let words = flat_map (λ k. end_entry (end.Parameter k) (slot_number t place.item (place.below + k))) (range_with_len 0 (place.depth - place.below)) in
    let given = end_entry end.Return (place_number t place (Given 0)) in
    Contains-append_left (words ++ given) ((end.Global, global_number t) ∷ []) _
    (Contains-append_right words given _
    (end_entry-some end.Return (place_number t place (Given 0)) (number_of t node) (place_complete x j i s (Given 0) node at fits stands is_node)))
stand_complete x j i s end.Global node at fits stands is_node =
    let t = table_of x in
    let place = place_at x j i s in
    let words = flat_map (λ k. end_entry (end.Parameter k) (slot_number t place.item (place.below + k))) (range_with_len 0 (place.depth - place.below)) in
    let given = end_entry end.Return (place_number t place (Given 0)) in
    Contains-append_right (words ++ given) ((end.Global, global_number t) ∷ []) _ (0, omega arith, ap (λ v. (end.Global, number_of t v)) (sym stands))

-- ---- the pairs of a call

end_there : (x : TypedMethod) (summaries : Summaries) (target : ℕ) (e : End2) (n : ℕ) → AreSummariesOf x.program.outline summaries →
    end_number (ends_at summaries target) e ≡ Some n → IsEnd x.program.outline target e
end_there x summaries target e n are some = are.ends target e (ap is_some some)

called_sound : (x : TypedMethod) (reached : List Bool) (summaries : Summaries) (j : ℕ) (i : Insn) (s : TypeState) (o : Option Call) (m n : ℕ) →
    IsTabled x reached → AreSummariesOf x.program.outline summaries → Located x j i s → call_of x i ≡ o →
    Contains (call_pairs_in x summaries (place_at x j i s) o) (m, n) → PairNumbers (linked_by summaries) x m n
unfolding pairs_of_targets
called_sound x reached summaries j i s None m n tabled are at is found = absurd (Contains-none (m, n) found)
called_sound x reached summaries j i s (Some called) m n tabled are at is found =
    let ends = stand_ins (table_of x) (place_at x j i s) in
    let fits = call_fits x.code.max_locals x i called is in
    let piece = Contains-from_flat_map (λ target. link_pairs ends (ends_at summaries target)) (targets x.program called) (m, n) found in
    let target = piece.0 in
    let linked = linked_ends (ends_at summaries target) ends m n piece.2 in
    let number = links-is (ends_at summaries target) linked.one linked.other linked.linked in
    let first = stand_sound x reached j i s linked.one m tabled at fits linked.first in
    let second = stand_sound x reached j i s linked.other n tabled at fits linked.second in
    record {
      item = j;
      one = first.node;
      other = second.node;
      pair = record {
        insn = i;
        is = at.insn;
        reachable = reached_at x j i s at;
        first = first.number.is_node;
        second = second.number.is_node;
        paired = inr (inr (inl (record {
          called = called;
          is = is;
          target = target;
          among = piece.1;
          one = linked.one;
          other = linked.other;
          first_end = end_there x summaries target linked.one number.0 are number.1;
          second_end = end_there x summaries target linked.other number.0 are number.2;
          links = linked.linked;
          first = first.stands;
          second = second.stands;
        })));
      };
      first = first.number;
      second = second.number;
    }

at_call_sound : (x : TypedMethod) (reached : List Bool) (summaries : Summaries) (j m n : ℕ) (o : Option ItemPlace) → IsTabled x reached →
    AreSummariesOf x.program.outline summaries → located x j ≡ o → Contains (at_place o (call_pairs x summaries)) (m, n) → PairNumbers (linked_by summaries) x m n
at_call_sound x reached summaries j m n None tabled are is found = absurd (Contains-none (m, n) found)
at_call_sound x reached summaries j m n (Some place) tabled are is found =
    let at = located-some x j place is in
    let here = subst (λ p. Contains (call_pairs x summaries p) (m, n)) at.is found in
    called_sound x reached summaries j at.insn at.state (call_of x at.insn) m n tabled are at.at refl here

pub calls_sound : (x : TypedMethod) (reached : List Bool) (summaries : Summaries) (m n : ℕ) → IsTabled x reached → AreSummariesOf x.program.outline summaries →
    Contains (flat_map (call_pairs_at x summaries) (range_with_len 0 (length x.code.items))) (m, n) → PairNumbers (linked_by summaries) x m n
calls_sound x reached summaries m n tabled are found =
    let piece = Contains-from_flat_map (call_pairs_at x summaries) (range_with_len 0 (length x.code.items)) (m, n) found in
    at_call_sound x reached summaries piece.0 m n (located x piece.0) tabled are refl piece.2

-- each stand-in is the first one that is linked with it, or paired with that
pub record CalledFirst (x : TypedMethod) (summaries : Summaries) (a b : Node) : Type 0 where
  pub first : ℕ
  pub one : (number_of (table_of x) a ≡ first)
      ⊎ Contains (flat_map (call_pairs_at x summaries) (range_with_len 0 (length x.code.items))) (number_of (table_of x) a, first)
  pub other : (number_of (table_of x) b ≡ first)
      ⊎ Contains (flat_map (call_pairs_at x summaries) (range_with_len 0 (length x.code.items))) (number_of (table_of x) b, first)

at_call : (x : TypedMethod) (reached : List Bool) (summaries : Summaries) (j : ℕ) (i : Insn) (s : TypeState) (called : Call) (target : ℕ) (p : ℕ × ℕ) →
    IsTabled x reached → Located x j i s → call_of x i ≡ Some called → Contains (targets x.program called) target →
    Contains (link_pairs (stand_ins (table_of x) (place_at x j i s)) (ends_at summaries target)) p →
    Contains (flat_map (call_pairs_at x summaries) (range_with_len 0 (length x.code.items))) p
unfolding pairs_of_targets
at_call x reached summaries j i s called target p tabled at is among found =
    let place = place_at x j i s in
    let ends = stand_ins (table_of x) place in
    let inside = state_inside x reached j s tabled at.state in
    let here = Contains-flat_map (λ t. link_pairs ends (ends_at summaries t)) (targets x.program called) target p among found in
    Contains-flat_map (call_pairs_at x summaries) (range_with_len 0 (length x.code.items)) j p (Contains-range 0 (length x.code.items) j (omega arith) (omega arith))
    (subst (λ o. Contains (at_place o (call_pairs x summaries)) p) (sym (located-at x j i s at))
    (subst (λ o. Contains (call_pairs_in x summaries place o) p) (sym is) here))

pub called_listed : (x : TypedMethod) (reached : List Bool) (summaries : Summaries) (j : ℕ) (i : Insn) (s : TypeState) (a b : Node) → IsTabled x reached →
    Located x j i s → IsNode x a → IsNode x b → CalledAt (linked_by summaries) x j i a b → CalledFirst x summaries a b
called_listed x reached summaries j i s a b tabled at is_a is_b c =
    let t = table_of x in
    let ends = stand_ins t (place_at x j i s) in
    let fits = call_fits x.code.max_locals x i c.called c.is in
    let first = stand_complete x j i s c.one a at fits c.first is_a in
    let second = stand_complete x j i s c.other b at fits c.second is_b in
    let linked = linked_first (ends_at summaries c.target) ends c.one c.other (number_of t a) (number_of t b) first second c.links in
    let listed = λ (p : ℕ × ℕ). at_call x reached summaries j i s c.called c.target p tabled at c.is c.among in
    record {
      first = linked.first;
      one = ⊎_elim (λ same. inl same) (λ paired. inr (listed (number_of t a, linked.first) paired)) linked.one;
      other = ⊎_elim (λ same. inl same) (λ paired. inr (listed (number_of t b, linked.first) paired)) linked.other;
    }
