use Rattle.std.proofs.Common.{arith}
use Rattle.fm_frames.proofs.FrameRoom.{room-for, too-deep}
use Rattle.fm_frames.proofs.machine.Machine.has_room.Goals as goal

pub returns-then-frames-room-clause-deep : goal.returns-then-frames-room-clause-deep
returns-then-frames-room-clause-deep g c told p choose e needed =
    too-deep p choose _ c.args.self.now e c.args.frames c.count-count.result c.self.view_is c.requires needed
    (omega (arith, c.if-frames-room.true, c.count-count.ensures)) c.count-count.ensures

pub returns-clause-room : goal.returns-clause-room
returns-clause-room g c told =
    room-for _ c.args.self.now c.args.frames c.self.view_is c.requires (omega (arith, c.if-frames-room.false, c.count-count.ensures))
