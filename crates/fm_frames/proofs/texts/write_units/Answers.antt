use Rattle.std.proofs.Common.{◌<◌, ◌^◌, get_or, ap, arith}
use Rattle.std.specs.Int.{w32}
use Rattle.std.proofs.lemmas.Int.{to_z_pos}
use Rattle.fm_frames.proofs.Contents.{unit-fits, units-all, units-next, units-start}
use Rattle.fm_frames.proofs.texts.write_units.Goals as goal
use Rattle.fm_frames.specs.States.{State}

pub loop-place-init : goal.loop-place-init
loop-place-init g c = units-start c.args.machine.now c.args.cell.0 c.args.units.now c.requires.takes

pub put_place-requires : goal.put_place-requires
put_place-requires g c =
    unit-fits c.args.machine.now.areas.store c.loop-place.machine.areas.store c.args.cell.0 c.loop-place.place c.args.units.now _
    c.requires.takes (omega (arith, c.loop-place-test.true)) (ap (λ (y : State). y.areas.store) c.loop-place.invariant)

pub loop-place-preserved : goal.loop-place-preserved
loop-place-preserved g c =
    let small : get_or c.args.units.now c.loop-place.place 0 < 2 ^ 16 = omega (arith, c.type_inv.units c.loop-place.place) in
    units-next c.args.machine.now c.loop-place.machine c.put_place.new.self c.args.cell.0 c.loop-place.place c.args.units.now _
    c.requires.takes c.loop-place-test.true (to_z_pos w32 (get_or c.args.units.now c.loop-place.place 0) (omega arith)) small
    c.loop-place.invariant c.put_place.ensures

pub returns : goal.returns
returns g c =
    units-all c.args.machine.now c.loop-place.machine c.args.cell.0 c.loop-place.place c.args.units.now c.requires.takes
    (omega (arith, c.loop-place-test.false, c.loop-place.auto.place-end)) c.loop-place.invariant
