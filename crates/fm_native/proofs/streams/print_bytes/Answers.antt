use Rattle.fm_native.proofs.Prints.{printing-does, printing-fails}
use Rattle.fm_native.proofs.streams.print_bytes.Goals as goal

pub returns-in-Ok-clause-told : goal.returns-in-Ok-clause-told
returns-in-Ok-clause-told g c =
    let p = c.args.program.now in
    let x = c.args.machine.now in
    printing-does p g.M.Memory.choose x c.print.new.self (g.S.Sink.output c.args.out.now) (g.S.Sink.output c.put_piece.new.out) c.args.takes c.args.bytes.now
    (c.print.ensures p g.M.Memory.choose c.args.bytes.now) c.in-Ok.ensures.put

pub returns-in-Err-clause-failed : goal.returns-in-Err-clause-failed
returns-in-Err-clause-failed g c failed =
    printing-fails c.args.program.now g.M.Memory.choose c.args.machine.now (g.S.Sink.output c.args.out.now) (g.S.Sink.output c.put_piece.new.out) c.args.takes
    c.args.bytes.now (c.in-Err.ensures.failed failed)
