use Rattle.std.proofs.Common.{◌≡◌, ◌-◌, None, sym, ◌∙◌, arith}
use Rattle.std.proofs.lemmas.Bool.{le-leb, leb-true}
use Rattle.fm_run.proofs.Ranging.{cost-some, goes-within, within-goes}
use Rattle.fm_run.proofs.runs.goes.Goals as goal

pub returns-in-None : goal.returns-in-None
returns-in-None g c =
    let p = c.args.program.now in
    let x = c.args.machine.now in
    let going : x.ended ≡ None = sym c.end.ensures ∙ c.in-None.is in
    let left : c.saturating_sub.result ≡ c.args.steps - x.steps = omega (arith, c.saturating_sub.ensures, c.steps.ensures) in (
      λ told. goes-within p c.args.steps c.cost.result c.saturating_sub.result x c.requires.few going (cost-some p x) c.cost.ensures left (leb-true _ _ told),
      λ goes. le-leb _ _ (within-goes p c.args.steps c.cost.result c.saturating_sub.result x c.requires.few c.cost.ensures left goes),
    )
