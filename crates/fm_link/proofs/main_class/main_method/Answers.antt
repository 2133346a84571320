use Rattle.std.proofs.Common.{sym, ◌∙◌, ap}
use Rattle.std.proofs.lemmas.List.{drop_all}
use Rattle.fm_link.specs.inner.MainClass.{own_main_in}
use Rattle.fm_world.specs.Chains.{first_found}
use Rattle.fm_link.proofs.main_class.main_method.Goals as goal

pub returns : goal.returns
returns c =
    sym (ap (first_found (own_main_in c.args.linking)) (drop_all c.loop-above.above-index c.chain-above-items.result.now c.loop-above-test.false))
    ∙ c.loop-above.invariant
