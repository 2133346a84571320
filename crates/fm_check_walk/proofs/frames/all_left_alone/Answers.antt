use Rattle.std.proofs.Common.{◌∙◌, refl, sym, subst, All, List}
use Rattle.std.proofs.lemmas.Bool.{false≢true}
use Rattle.std.proofs.lemmas.List.{take_all}
use Rattle.std.proofs.lemmas.List.Elements.{All-more}
use Rattle.fm_check_walk.proofs.RisenLemmas.{nothing}
use Rattle.fm_check_walk.specs.declared.risen.Rise.{Rise}
use Rattle.fm_check_walk.specs.inner.Risen.{IsLeftAlone}
use Rattle.fm_check_walk.proofs.frames.all_left_alone.Goals as goal

pub loop-rise-preserved : goal.loop-rise-preserved
loop-rise-preserved c =
    All-more (IsLeftAlone c.args.insn.now c.args.below) c.args.rises.now c.loop-rise.rise-index nothing c.loop-rise-test.true c.loop-rise.invariant
    (sym c.leaves_alone.ensures ∙ c.if-not-leaves_alone.false)

pub returns-then-not-leaves_alone : goal.returns-then-not-leaves_alone
returns-then-not-leaves_alone c = (
  λ passed. absurd (false≢true passed),
  λ each. sym c.if-not-leaves_alone.true ∙ c.leaves_alone.ensures ∙ each c.loop-rise.rise-index nothing c.loop-rise-test.true,
)

pub returns : goal.returns
returns c =
    let Done : List Rise → Type 0 = λ rises. All (IsLeftAlone c.args.insn.now c.args.below) rises in
    (λ passed. subst Done (take_all c.loop-rise.rise-index c.args.rises.now c.loop-rise-test.false) c.loop-rise.invariant, λ each. refl)
