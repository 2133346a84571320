use Rattle.std.proofs.Common.{◌≡◌, ◌∙◌, ℕ, Some, ap, get_or, nat_eq, refl, slice_get, sym}
use Rattle.std.proofs.lemmas.Bool.{eq-eqb, false≢true}
use Rattle.std.proofs.lemmas.List.{take_all}
use Rattle.std.proofs.lemmas.List.Folds.{list_any_at}
use Rattle.fm_world.specs.Chains.{is_among}
use Rattle.fm_link_refusals.proofs.CountLoops.{holds_more}
use Rattle.fm_link_refusals.proofs.left_over.are_zero.Goals as goal

pub loop-class-preserved : goal.loop-class-preserved
loop-class-preserved c = λ class among.
    let IsZero : ℕ → Type 0 = λ k. slice_get c.args.row.now k ≡ Some 0 in
    holds_more IsZero c.args.classes.now c.loop-class.class-index class c.loop-class-test.true c.loop-class.invariant
    (c.is_zero.ensures.0 c.if-not-is_zero.false) among

pub returns-then-not-is_zero : goal.returns-then-not-is_zero
returns-then-not-is_zero c =
    let classes = c.args.classes.now in
    let i = c.loop-class.class-index in
    let class = get_or classes i 0 in (
      λ passed. absurd (false≢true passed),
      λ each. sym c.if-not-is_zero.true
          ∙ c.is_zero.ensures.1 (each class (list_any_at (nat_eq class) classes i 0 c.loop-class-test.true (eq-eqb class class refl))),
    )

pub returns : goal.returns
returns c = (
  λ passed class among.
      c.loop-class.invariant class (ap (is_among class) (take_all c.loop-class.class-index c.args.classes.now c.loop-class-test.false) ∙ among),
  λ each. refl,
)
