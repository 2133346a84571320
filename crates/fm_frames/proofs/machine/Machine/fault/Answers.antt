use Rattle.fm_frames.proofs.Finishes.{faulted, faulted-none}
use Rattle.fm_frames.proofs.machine.Machine.fault.Goals as goal

pub returns-in-Some : goal.returns-in-Some
returns-in-Some g c runnable choose source told =
    faulted c.args.program.now choose _ c.args.self.now source c.args.cell.0 c.in-Some.topmost.method.0 c.in-Some.topmost.item c.offset_of-offset.result
    c.self.view_is told c.in-Some.ensures (c.offset_of-offset.ensures runnable)

pub returns-in_default : goal.returns-in_default
returns-in_default g c runnable choose source told =
    faulted-none c.args.program.now choose _ c.args.self.now source c.self.view_is c.in_default.ensures
