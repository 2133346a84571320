use Rattle.std.proofs.Common.{◌-◌}
use Rattle.fm_link_records.proofs.TypeSteps.{numbers_step}
use Rattle.fm_link_records.proofs.types.Types.add_arrays.Goals as goal

pub loop-fewer-preserved : goal.loop-fewer-preserved
loop-fewer-preserved c =
    let named = c.args.named in
    numbers_step (λ fewer. record { dims = named.dims - fewer; base = named.base }) c.loop-fewer.fewer named.dims c.loop-fewer.self.types.keys _ _
    c.loop-fewer-test.true c.in_ok-add.ensures c.loop-fewer.invariant
