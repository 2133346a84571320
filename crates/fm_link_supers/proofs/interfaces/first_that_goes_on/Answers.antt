use Rattle.std.proofs.Common.{◌≡◌, sym, ◌∙◌, ap, ◌+◌, ◌<◌, ◌≤◌, ℕ, false, get_or, length, arith, ◌⊎◌, inl, inr}
use Rattle.std.proofs.lemmas.Bool.{cases_lt}
use Rattle.fm_link_supers.specs.inner.InterfaceRounds.{is_set}
use Rattle.fm_link_supers.proofs.interfaces.first_that_goes_on.Goals as goal

pub loop-place-init : goal.loop-place-init
loop-place-init c = λ i from below within. absurd (omega (arith, from, below))

pub bounds-interfaces-place : goal.bounds-interfaces-place
bounds-interfaces-place c = omega (arith, c.loop-place-test.true, c.in_ok-end.ensures)

pub returns-then-is_marked-clause-passed : goal.returns-then-is_marked-clause-passed
returns-then-is_marked-clause-passed c = λ i from below within. c.loop-place.invariant i from below within

pub returns-then-is_marked-clause-here : goal.returns-then-is_marked-clause-here
returns-then-is_marked-clause-here c = λ within. sym c.is_marked.ensures ∙ c.if-is_marked.true

pub loop-place-preserved : goal.loop-place-preserved
loop-place-preserved c = λ i from below within. by_place i from below within (cases_lt i c.loop-place.place) where
  by_place : (i : ℕ) → c.args.start ≤ i → i < c.loop-place.place + 1 → i < length c.args.interfaces.now
      → (i < c.loop-place.place) ⊎ (c.loop-place.place ≤ i) → is_set c.args.goes_on.now (get_or c.args.interfaces.now i 0) ≡ false
  by_place i from below within (inl h) = c.loop-place.invariant i from h within
  by_place i from below within (inr h) =
      let same : i ≡ c.loop-place.place = omega (arith, h, below) in
      ap (λ k. is_set c.args.goes_on.now (get_or c.args.interfaces.now k 0)) same ∙ sym c.is_marked.ensures ∙ c.if-is_marked.false

pub returns-clause-passed : goal.returns-clause-passed
returns-clause-passed c = λ i from below within.
    c.loop-place.invariant i from (omega (arith, below, c.loop-place-test.false)) within

pub returns-clause-here : goal.returns-clause-here
returns-clause-here c = λ within. absurd (omega (arith, within, c.in_ok-end.ensures))
