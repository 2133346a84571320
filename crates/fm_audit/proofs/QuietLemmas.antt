-- Whether no holder is freed whose class is busy is what the rows say that are looked at.
use Rattle.std.proofs.Common.{◌≡◌, ℕ, ◌<◌, Bool, true, false, List, length, sym, ◌∙◌, arith}
use Rattle.std.specs.List.{list_all}
use Rattle.std.proofs.lemmas.Bool.{false≢true}
use Rattle.fm_base.proofs.OptionFacts.{IsSomeAnd-from_some}
use Rattle.std.specs.Prelude.{get_or, slice_get}
use Rattle.fm_place.specs.declared.busy_rows.Seen.{Seen}
use Rattle.fm_place.specs.declared.groups.Groups.{Groups}
use Rattle.fm_place.specs.declared.holding_rows.Holding.{Holding}
use Rattle.fm_place.specs.inner.PlanRows.{AreGroups, AreHolding, AreRowsIn, count_of, is_busy_at}
use Rattle.fm_audit.proofs.ItemsLemmas.{test_again, test_each}
use Rattle.fm_audit.proofs.SafeAgainLemmas.{all_quiet}
use Rattle.fm_audit.proofs.SafeItemLemmas.{may_be}
use Rattle.fm_audit.specs.inner.Checked.{IsFreesPart, unsafe_part}
use Rattle.fm_audit.specs.inner.Frees.{are_quiet_from, is_quiet}

module _ (s : Seen) (g : Groups) (busy : List (List Bool)) (holding : Holding) (groups : AreGroups g) (busy_are : AreRowsIn g (count_of s) (is_busy_at s) busy)
    (holding_are : AreHolding s g.held.now (length g.held.now) holding.freed holding.rows.items) (before : List (ℕ × ℕ)) where
  abbrev test : ℕ → List (ℕ × ℕ) → Bool
  test item own = list_all (is_quiet g.of_holders.items busy item) own

  pub frees_part : (quiet : Bool) → are_quiet_from g.of_holders.items busy 0 (length holding.freed) before ≡ quiet
      → IsFreesPart s g.held.now before (unsafe_part quiet)
  frees_part true is = λ freed listed j inside h found.
      let own = may_be s g busy holding groups busy_are holding_are j inside (freed j)
      (test_each test freed 0 (count_of s) j
      ((λ k. are_quiet_from g.of_holders.items busy 0 (sym holding_are.freed_bits k) (sym listed k)) ∙ is) (omega arith) (omega (arith, inside))) h found in
      IsSomeAnd-from_some (slice_get g.held.now h) (λ (p : ℕ × ℕ). is_busy_at s j p.1 ≡ false) (get_or g.held.now h (0, 0)) own.0 own.1
  frees_part false is = λ freed listed each.
      false≢true (sym is ∙ (λ k. are_quiet_from g.of_holders.items busy 0 (holding_are.freed_bits k) (listed k))
      ∙ test_again test freed 0 (count_of s)
      (λ j low high. let inside : j < count_of s = omega (arith, high) in
      all_quiet s g busy holding groups busy_are holding_are j inside (freed j) (each j inside)))
