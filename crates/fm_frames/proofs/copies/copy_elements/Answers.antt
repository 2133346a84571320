use Rattle.std.proofs.Common.{arith}
use Rattle.fm_frames.proofs.CopySteps.{copies-all, copies-next, copies-start, copies-there}
use Rattle.fm_frames.proofs.copies.copy_elements.Goals as goal

pub loop-place-init : goal.loop-place-init
loop-place-init g c = copies-start c.args.machine.now c.args.from.0 c.args.to.0 c.requires.takes

pub copy_element-requires-clause-there : goal.copy_element-requires-clause-there
copy_element-requires-clause-there g c =
    (copies-there c.args.machine.now c.loop-place.machine c.args.from.0 c.args.to.0 c.loop-place.place c.requires.apart c.requires.takes
    (omega (arith, c.loop-place-test.true, c.requires.all)) c.loop-place.invariant).0

pub copy_element-requires-clause-room : goal.copy_element-requires-clause-room
copy_element-requires-clause-room g c =
    (copies-there c.args.machine.now c.loop-place.machine c.args.from.0 c.args.to.0 c.loop-place.place c.requires.apart c.requires.takes
    (omega (arith, c.loop-place-test.true, c.requires.all)) c.loop-place.invariant).1

pub copy_element-requires-clause-packs : goal.copy_element-requires-clause-packs
copy_element-requires-clause-packs g c =
    (copies-there c.args.machine.now c.loop-place.machine c.args.from.0 c.args.to.0 c.loop-place.place c.requires.apart c.requires.takes
    (omega (arith, c.loop-place-test.true, c.requires.all)) c.loop-place.invariant).2

pub loop-place-preserved : goal.loop-place-preserved
loop-place-preserved g c =
    copies-next c.args.machine.now c.loop-place.machine c.copy_element.new.self c.args.from.0 c.args.to.0 c.loop-place.place c.requires.apart
    c.requires.takes (omega (arith, c.loop-place-test.true, c.requires.all)) c.loop-place.invariant c.copy_element.ensures

pub returns : goal.returns
returns g c =
    copies-all c.args.machine.now c.loop-place.machine c.args.from.0 c.args.to.0 c.loop-place.place c.requires.takes
    (omega (arith, c.loop-place-test.false, c.loop-place.auto.place-end, c.requires.all)) c.loop-place.invariant
