use Rattle.std.proofs.Common.{Bool, List, ap, sym, ◌∙◌, subst}
use Rattle.std.specs.Prelude.{IfOk}
use Rattle.fm_rapid.specs.Reach.{narrowed}
use Rattle.freeme.proofs.AnalysedLemmas.{narrowed_so}
use Rattle.freeme.specs.Jobs.{IsAnalysed}
use Rattle.freeme.proofs.judging.analysed.Goals as goal

pub returns-then-not-rapid : goal.returns-then-not-rapid
returns-then-not-rapid c =
    subst (λ (rapid : Bool). IfOk c.with_targets.result (IsAnalysed rapid c.args.program)) (sym c.if-not-rapid.true) c.with_targets.ensures

pub returns : goal.returns
returns c =
    let reached = c.in_ok-reached.reached in
    let is = c.narrowed.ensures ∙ ap (λ (made : List Bool). narrowed c.args.program made) c.into_made.ensures in
    narrowed_so c.args.program c.narrowed.result reached.methods reached.made c.in_ok-reached.ensures is c.args.rapid c.if-not-rapid.false c.with_targets-2.result
    c.with_targets-2.ensures
