use Rattle.std.proofs.Common.{◌≡◌, ◌∙◌, ℕ, rules, false, true, List, length, refl, sym, subst}
use Rattle.fm_place.proofs.PlanLemmas.{freed_rows}
use Rattle.fm_place.specs.inner.PlanRows.{AreRowsIn, count_of, is_busy_at}
use Rattle.std.proofs.lemmas.Bool.{false≢true}
use Rattle.fm_audit.proofs.QuietLemmas.{frees_part}
use Rattle.fm_audit.proofs.SafeAgainLemmas.{frees_again}
use Rattle.fm_audit.proofs.SafeItemLemmas.{frees_are_safe}
use Rattle.fm_audit.specs.inner.Checked.{AreSafeFrees, IsFreesPart, IsSafeItem, unsafe_part}
use Rattle.fm_audit.specs.inner.Frees.{are_quiet_from, are_safe_from}
use Rattle.fm_audit.proofs.checking.judged_frees.Goals as goal

pub are_safe-requires : goal.are_safe-requires
are_safe-requires c =
    let s = c.args.seen.now in
    let g = c.in_ok-groups.groups in
    let busy : AreRowsIn g (count_of s) (is_busy_at s) c.in_ok-busy.busy.items = subst (λ n. AreRowsIn g n (is_busy_at s) c.in_ok-busy.busy.items) (search rules) c.in_ok-busy.ensures in
    rw (c.as_slice-classes.ensures.value, c.as_slice-rows.ensures.value)
    (freed_rows s g c.in_ok-busy.busy.items c.in_ok-holding.holding c.in_ok-groups.ensures.0 busy c.in_ok-holding.ensures)

pub failing-requires : goal.failing-requires
failing-requires c =
    let s = c.args.seen.now in
    let g = c.in_ok-groups.groups in
    let busy : AreRowsIn g (count_of s) (is_busy_at s) c.in_ok-busy.busy.items = subst (λ n. AreRowsIn g n (is_busy_at s) c.in_ok-busy.busy.items) (search rules) c.in_ok-busy.ensures in
    rw (c.as_slice-classes.ensures.value, c.as_slice-rows.ensures.value)
    (freed_rows s g c.in_ok-busy.busy.items c.in_ok-holding.holding c.in_ok-groups.ensures.0 busy c.in_ok-holding.ensures)

pub returns : goal.returns
returns c =
    let s = c.args.seen.now in
    let g = c.in_ok-groups.groups in
    let holding = c.in_ok-holding.holding in
    let classes = c.as_slice-classes.ensures.value in
    let rows = c.as_slice-rows.ensures.value in
    let busy : AreRowsIn g (count_of s) (is_busy_at s) c.in_ok-busy.busy.items = subst (λ n. AreRowsIn g n (is_busy_at s) c.in_ok-busy.busy.items) (search rules) c.in_ok-busy.ensures in
    let is : are_safe_from g.of_holders.items c.in_ok-busy.busy.items holding.rows.items 0 (length holding.freed) c.args.before.now ≡ true =
    sym (λ k. are_safe_from (classes k) (rows k) holding.rows.items 0 (length holding.freed) c.args.before.now) ∙ sym c.are_safe.ensures
    ∙ c.if-not-are_safe.false in
    subst (λ (held : List (ℕ × ℕ)). AreSafeFrees s held c.args.before.now) c.in_ok-groups.ensures.1
    (frees_are_safe s g c.in_ok-busy.busy.items holding c.in_ok-groups.ensures.0 busy c.in_ok-holding.ensures c.args.before.now is)

pub returns-then-not-are_safe : goal.returns-then-not-are_safe
returns-then-not-are_safe c =
    let s = c.args.seen.now in
    let g = c.in_ok-groups.groups in
    let holding = c.in_ok-holding.holding in
    let classes = c.as_slice-classes.ensures.value in
    let rows = c.as_slice-rows.ensures.value in
    let busy : AreRowsIn g (count_of s) (is_busy_at s) c.in_ok-busy.busy.items = subst (λ n. AreRowsIn g n (is_busy_at s) c.in_ok-busy.busy.items) (search rules) c.in_ok-busy.ensures in
    let fails : are_safe_from g.of_holders.items c.in_ok-busy.busy.items holding.rows.items 0 (length holding.freed) c.args.before.now ≡ false =
    sym (λ k. are_safe_from (classes k) (rows k) holding.rows.items 0 (length holding.freed) c.args.before.now) ∙ sym c.are_safe.ensures
    ∙ c.if-not-are_safe.true in (
      λ freed listed each.
          false≢true (sym fails ∙ frees_again s g c.in_ok-busy.busy.items holding c.in_ok-groups.ensures.0 busy c.in_ok-holding.ensures c.args.before.now freed listed
          (λ j inside. subst (λ (held : List (ℕ × ℕ)). IsSafeItem s held j (freed j)) (sym c.in_ok-groups.ensures.1) (each j inside))),
      subst (λ (held : List (ℕ × ℕ)). IsFreesPart s held c.args.before.now c.failing.result) c.in_ok-groups.ensures.1
          (subst (IsFreesPart s g.held.now c.args.before.now)
          (sym (c.failing.ensures ∙ (λ k. unsafe_part (are_quiet_from (classes k) (rows k) 0 (length holding.freed) c.args.before.now))))
          (frees_part s g c.in_ok-busy.busy.items holding c.in_ok-groups.ensures.0 busy c.in_ok-holding.ensures c.args.before.now
          (are_quiet_from g.of_holders.items c.in_ok-busy.busy.items 0 (length holding.freed) c.args.before.now) refl)),
    )
