use Rattle.std.proofs.Common.{rules, ◌≡◌, ◌∙◌, ℕ, List, IfOk, length, sym, subst}
use Rattle.std.specs.List.{flat_map, range_with_len}
use Rattle.fm_place.proofs.PlanLemmas.{all_freed_same, freed_rows, nothing_freed}
use Rattle.fm_place.specs.PlansBy.{paired}
use Rattle.fm_place.specs.inner.PlanRows.{AreRowsIn, count_of, freed_by_rows, freed_of, is_busy_at}
use Rattle.fm_place.proofs.plans.before_places.Goals as goal

pub returns-then-is_empty : goal.returns-then-is_empty
returns-then-is_empty c =
    let none : length c.args.held.now ≡ 0 = search rules in
    c.new.ensures.items ∙ sym (nothing_freed c.args.seen.now c.args.held.now (length c.args.seen.now.method.code.now.items) none)

pub all_freed-requires : goal.all_freed-requires
all_freed-requires c =
    let s = c.args.seen.now in
    let g = c.in_ok-groups.groups in
    let busy : AreRowsIn g (count_of s) (is_busy_at s) c.in_ok-busy.busy.items =
    subst (λ n. AreRowsIn g n (is_busy_at s) c.in_ok-busy.busy.items) c.in_ok-count.ensures c.in_ok-busy.ensures in
    rw (c.as_slice-2.ensures.value, c.as_slice-3.ensures.value)
    (freed_rows s g c.in_ok-busy.busy.items c.in_ok-holding.holding c.in_ok-groups.ensures.0 busy c.in_ok-holding.ensures)

pub returns : goal.returns
returns c =
    let s = c.args.seen.now in
    let g = c.in_ok-groups.groups in
    let holding = c.in_ok-holding.holding in
    let classes = c.as_slice-2.ensures.value in
    let rows = c.as_slice-3.ensures.value in
    let busy : AreRowsIn g (count_of s) (is_busy_at s) c.in_ok-busy.busy.items =
    subst (λ n. AreRowsIn g n (is_busy_at s) c.in_ok-busy.busy.items) c.in_ok-count.ensures c.in_ok-busy.ensures in
    let P : List (ℕ × ℕ) → Type 0 = λ list. IfOk c.all_freed.result (λ found. found.items ≡ list) in
    subst (λ (held : List (ℕ × ℕ)). P (flat_map (paired (freed_of s held)) (range_with_len 0 (count_of s)))) c.in_ok-groups.ensures.1
    (subst P (all_freed_same s g c.in_ok-busy.busy.items holding c.in_ok-groups.ensures.0 busy c.in_ok-holding.ensures)
    (subst P (λ k. flat_map (paired (freed_by_rows (classes k) (rows k) holding.rows.items)) (range_with_len 0 (length holding.freed))) c.all_freed.ensures))
