use Rattle.std.proofs.Common.{arith}
use Rattle.fm_frames.proofs.Calling.{called-one, too-deep}
use Rattle.fm_frames.proofs.machine.Machine.call.Goals as goal

pub returns-then-frames-depth : goal.returns-then-frames-depth
returns-then-frames-depth g c =
    too-deep c.args.program.now g.M.Memory.choose _ c.args.self.now c.args.words c.args.method.0 c.self.view_is c.requires.ready.next_fits
    c.requires.within (omega (arith, c.count-frames.ensures))

pub returns : goal.returns
returns g c =
    called-one c.args.program.now g.M.Memory.choose _ c.args.self.now c.args.words c.args.method.0 c.max_locals_of-max_locals.result
    c.enter.new.self c.self.view_is c.requires.ready.next_fits (omega (arith, c.count-frames.ensures))
    (c.max_locals_of-max_locals.ensures c.requires.runnable) c.in_ok-enter.ensures
