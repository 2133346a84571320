use Rattle.std.proofs.Common.{refl}
use Rattle.fm_base.proofs.UnitFronts.{modified_is, units_next, units_end, unit_takes}
use Rattle.fm_base.proofs.modified_utf8.is_modified_utf8.Goals as goal

pub loop-after-init : goal.loop-after-init
loop-after-init c = modified_is c.args.text.now

pub loop-after-smaller : goal.loop-after-smaller
loop-after-smaller c = unit_takes c.loop-after.rest.now c.in-Some.after.now ((c.in-Some.ensures c.in-Some.after.now).1 refl)

pub loop-after-preserved : goal.loop-after-preserved
loop-after-preserved c =
    let next = units_next c.loop-after.rest.now c.in-Some.after.now (λ rest. c.in-Some.ensures rest) in
    (λ h. next.0 (c.loop-after.invariant.0 h), λ h. c.loop-after.invariant.1 (next.1 h))

pub returns : goal.returns
returns c =
    let end = units_end c.loop-after.rest.now c.is_empty.result c.is_empty.ensures (λ rest w. let none = (c.in_default.ensures rest).0 w in cc) in
    (λ t. c.loop-after.invariant.1 (end.0 t), λ h. end.1 (c.loop-after.invariant.0 h))
