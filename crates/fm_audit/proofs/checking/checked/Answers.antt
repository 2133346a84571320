use Rattle.std.proofs.Common.{rules, ◌≡◌, ◌∙◌, ℕ, List, Some, length, ap, subst, sym, arith}
use Rattle.std.specs.List.{range_with_len}
use Rattle.std.specs.Option.{option_map}
use Rattle.std.proofs.lemmas.Bool.{false≢true}
use Rattle.fm_audit.proofs.CheckedLemmas.{are_checked, as_many, counted_up, held_count, held_same, holders_some, never_crowded, never_others, never_unheld, never_unsafe, starts_are}
use Rattle.fm_audit.proofs.PartLemmas.{all_held, all_own, frees_fail, has_room, layout_left, ups}
use Rattle.fm_audit.specs.ReadBy.{pairs_in, read_in}
use Rattle.fm_audit.specs.inner.Checked.{AreFreesJudged}
use Rattle.fm_audit.specs.declared.checking.Freeing.TheVariants as freeing
use Rattle.fm_audit.specs.inner.Holders.{are_own_items, held_by_all}
use Rattle.fm_place.specs.inner.PlanRows.{typed_seen}
use Rattle.fm_audit.proofs.checking.checked.Goals as goal

pub judged_frees-requires-clause-few : goal.judged_frees-requires-clause-few
judged_frees-requires-clause-few c =
    let count = held_count c.args.sites.now c.as_slice-after.result.now c.in-Some.holders c.in-Some-2.held.items
    (sym c.in_ok-held.ensures ∙ ap (option_map (λ found. found.items)) c.in-Some-2.is) in
    let same = ap length c.as_slice-own.ensures.value in
    let number = holders_some c.args.seen.now.method.code.now.max_locals c.len.result c.in-Some.holders c.in-Some.ensures in
    omega (arith, count, same, number.2)

pub returns-in-Safe-clause-checking : goal.returns-in-Safe-clause-checking
returns-in-Safe-clause-checking c = record {
  checked =
      are_checked c.args.seen.now c.args.sites.now (pairs_in c.args.found.now.inserted) _ c.in-Some.holders c.in-Some-2.held.items c.as_slice-own.result.now
      c.as_slice-before.result.now c.as_slice-after.result.now
      (holders_some c.args.seen.now.method.code.now.max_locals c.len.result c.in-Some.holders c.in-Some.ensures)
      (sym c.in_ok-held.ensures ∙ ap (option_map (λ found. found.items)) c.in-Some-2.is) c.as_slice-own.ensures.value c.as_slice-before.ensures.value
      c.as_slice-after.ensures.value (sym c.are_own_items.ensures ∙ c.if-not-are_own_items.false) (subst (AreFreesJudged c.args.seen.now c.as_slice-own.result.now c.as_slice-before.result.now) c.in-Safe.is c.in_ok-freeing.ensures);
  starts =
      starts_are c.args.found.now.starts.items c.as_slice.result.now c.in-Some.holders c.as_slice.ensures.value
      (sym c.counts_up.ensures ∙ c.if-not-counts_up.false) (search rules);
}

pub returns-then-not-counts_up-clause-checking : goal.returns-then-not-counts_up-clause-checking
returns-then-not-counts_up-clause-checking c = λ holders safe.
    counted_up c.args.seen.now c.args.sites.now (read_in c.args.found.now) holders safe c.as_slice.result.now c.counts_up.result c.as_slice.ensures.value
    c.counts_up.ensures c.if-not-counts_up.true

pub returns-in_default-clause-checking : goal.returns-in_default-clause-checking
returns-in_default-clause-checking c = λ holders safe.
    never_crowded c.args.seen.now c.args.sites.now (read_in c.args.found.now) holders safe c.len.result (search rules) c.in_default.ensures

pub returns-in_default-2-clause-checking : goal.returns-in_default-2-clause-checking
returns-in_default-2-clause-checking c = λ holders safe.
    let number = holders_some c.args.seen.now.method.code.now.max_locals c.len.result c.in-Some.holders c.in-Some.ensures in
    never_unheld c.args.seen.now c.args.sites.now (read_in c.args.found.now) holders safe c.as_slice-after.result.now c.in-Some.holders
    (number.0 ∙ as_many c.args.seen.now c.args.sites.now (read_in c.args.found.now) holders safe c.len.result (search rules)) c.as_slice-after.ensures.value
    (sym c.in_ok-held.ensures ∙ ap (option_map (λ found. found.items)) c.in_default-2.is)

pub returns-then-not-are_own_items-clause-checking : goal.returns-then-not-are_own_items-clause-checking
returns-then-not-are_own_items-clause-checking c = λ holders safe.
    let number = holders_some c.args.seen.now.method.code.now.max_locals c.len.result c.in-Some.holders c.in-Some.ensures in
    let held = held_same c.args.seen.now c.args.sites.now (read_in c.args.found.now) holders safe c.as_slice-after.result.now c.in-Some-2.held.items
    c.in-Some.holders (number.0 ∙ as_many c.args.seen.now c.args.sites.now (read_in c.args.found.now) holders safe c.len.result (search rules))
    c.as_slice-after.ensures.value (sym c.in_ok-held.ensures ∙ ap (option_map (λ found. found.items)) c.in-Some-2.is) in
    never_others c.args.seen.now c.args.sites.now (read_in c.args.found.now) holders safe c.as_slice-after.result.now c.as_slice-own.result.now
    c.are_own_items.result c.as_slice-after.ensures.value (c.as_slice-own.ensures.value ∙ held) c.are_own_items.ensures c.if-not-are_own_items.true

pub returns-clause-checking : goal.returns-clause-checking
returns-clause-checking c = λ holders safe.
    let number = holders_some c.args.seen.now.method.code.now.max_locals c.len.result c.in-Some.holders c.in-Some.ensures in
    let held = held_same c.args.seen.now c.args.sites.now (read_in c.args.found.now) holders safe c.as_slice-after.result.now c.in-Some-2.held.items
    c.in-Some.holders (number.0 ∙ as_many c.args.seen.now c.args.sites.now (read_in c.args.found.now) holders safe c.len.result (search rules))
    c.as_slice-after.ensures.value (sym c.in_ok-held.ensures ∙ ap (option_map (λ found. found.items)) c.in-Some-2.is) in
    never_unsafe c.args.seen.now c.args.sites.now (read_in c.args.found.now) holders safe c.as_slice-before.result.now c.as_slice-own.result.now
    c.as_slice-before.ensures.value (c.as_slice-own.ensures.value ∙ held)
    (subst (AreFreesJudged c.args.seen.now c.as_slice-own.result.now c.as_slice-before.result.now) c.in-Fails.is c.in_ok-freeing.ensures).0

-- ---- the part that is failed

pub returns-then-not-counts_up-clause-parts : goal.returns-then-not-counts_up-clause-parts
returns-then-not-counts_up-clause-parts c = λ well facts told sites_are has.
    false≢true (sym c.if-not-counts_up.true ∙ c.counts_up.ensures
    ∙ ups facts (typed_seen c.args.seen.now) c.args.sites.now (read_in c.args.found.now) sites_are has c.as_slice.result.now c.as_slice.ensures.value)

pub returns-in_default-clause-parts : goal.returns-in_default-clause-parts
returns-in_default-clause-parts c = λ well facts told sites_are has.
    has_room facts (typed_seen c.args.seen.now) c.args.sites.now (read_in c.args.found.now) sites_are has c.args.seen.now.method.code.now.max_locals
    c.len.result (search rules) well.starts c.in_default.ensures

pub returns-in_default-2-clause-parts : goal.returns-in_default-2-clause-parts
returns-in_default-2-clause-parts c = λ well facts told sites_are has.
    let number = holders_some c.args.seen.now.method.code.now.max_locals c.len.result c.in-Some.holders c.in-Some.ensures in
    let many : c.len.result ≡ length c.args.found.now.starts.items = search rules in
    all_held facts (typed_seen c.args.seen.now) c.args.sites.now (read_in c.args.found.now) sites_are has c.as_slice-after.result.now c.in-Some.holders
    c.as_slice-after.ensures.value (number.0 ∙ many) (sym c.in_ok-held.ensures ∙ ap (option_map (λ found. found.items)) c.in_default-2.is)

pub returns-then-not-are_own_items-clause-parts : goal.returns-then-not-are_own_items-clause-parts
returns-then-not-are_own_items-clause-parts c = λ well facts told sites_are has.
    let number = holders_some c.args.seen.now.method.code.now.max_locals c.len.result c.in-Some.holders c.in-Some.ensures in
    let many : c.len.result ≡ length c.args.found.now.starts.items = search rules in
    false≢true (sym c.if-not-are_own_items.true ∙ c.are_own_items.ensures
    ∙ ap (λ own. are_own_items own c.as_slice-after.result.now) c.as_slice-own.ensures.value
    ∙ all_own facts (typed_seen c.args.seen.now) c.args.sites.now (read_in c.args.found.now) sites_are has c.as_slice-after.result.now c.in-Some-2.held.items
    c.in-Some.holders c.as_slice-after.ensures.value (number.0 ∙ many) (sym c.in_ok-held.ensures ∙ ap (option_map (λ found. found.items)) c.in-Some-2.is))

pub returns-in-Safe-clause-parts : goal.returns-in-Safe-clause-parts
returns-in-Safe-clause-parts c = λ well facts told sites_are.
    let number = holders_some c.args.seen.now.method.code.now.max_locals c.len.result c.in-Some.holders c.in-Some.ensures in
    let checked = are_checked c.args.seen.now c.args.sites.now (pairs_in c.args.found.now.inserted) _ c.in-Some.holders c.in-Some-2.held.items
    c.as_slice-own.result.now c.as_slice-before.result.now c.as_slice-after.result.now number
    (sym c.in_ok-held.ensures ∙ ap (option_map (λ found. found.items)) c.in-Some-2.is) c.as_slice-own.ensures.value c.as_slice-before.ensures.value
    c.as_slice-after.ensures.value (sym c.are_own_items.ensures ∙ c.if-not-are_own_items.false)
    (subst (AreFreesJudged c.args.seen.now c.as_slice-own.result.now c.as_slice-before.result.now) c.in-Safe.is c.in_ok-freeing.ensures) in
    let starts = starts_are c.args.found.now.starts.items c.as_slice.result.now c.in-Some.holders c.as_slice.ensures.value
    (sym c.counts_up.ensures ∙ c.if-not-counts_up.false) (search rules) in
    layout_left c.args.seen.now facts c.args.sites.now (read_in c.args.found.now) told sites_are c.in-Some.holders checked.held starts number.1 checked.held_is
    checked.own well.listed checked.frees

pub returns-clause-parts : goal.returns-clause-parts
returns-clause-parts c = λ well facts told sites_are.
    let number = holders_some c.args.seen.now.method.code.now.max_locals c.len.result c.in-Some.holders c.in-Some.ensures in
    let s = c.args.seen.now in
    let lent = c.as_slice-own.result.now in
    let found = subst (AreFreesJudged s lent c.as_slice-before.result.now) c.in-Fails.is c.in_ok-freeing.ensures in
    let judged = subst (λ (b : List (ℕ × ℕ)). AreFreesJudged s lent b (freeing.Fails c.in-Fails.part)) c.as_slice-before.ensures.value found in
    let held_is = ap (λ ps. held_by_all c.args.sites.now ps (range_with_len 0 c.in-Some.holders)) (sym c.as_slice-after.ensures.value)
    ∙ sym c.in_ok-held.ensures ∙ ap (option_map (λ found. found.items)) c.in-Some-2.is ∙ ap (λ (l : List (ℕ × ℕ)). Some l) (sym c.as_slice-own.ensures.value) in
    let own = ap (are_own_items lent) (sym c.as_slice-after.ensures.value) ∙ sym c.are_own_items.ensures ∙ c.if-not-are_own_items.false in
    let starts = starts_are c.args.found.now.starts.items c.as_slice.result.now c.in-Some.holders c.as_slice.ensures.value
    (sym c.counts_up.ensures ∙ c.if-not-counts_up.false) (search rules) in
    frees_fail s facts c.args.sites.now (read_in c.args.found.now) told sites_are c.in-Some.holders lent starts number.1 held_is own well.listed well.once
    c.in-Fails.part judged.0 judged.1
