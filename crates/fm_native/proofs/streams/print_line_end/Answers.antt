use Rattle.fm_frames.proofs.Throwing.{told-ok}
use Rattle.fm_frames.specs.inner.Doings.{seen}
use Rattle.fm_native.proofs.Prints.{fails-as, steps-as}
use Rattle.fm_native.proofs.TextRows.{line-end-is}
use Rattle.fm_native.proofs.streams.print_line_end.Goals as goal
use Rattle.std.specs.Prelude.{slice_get}

pub returns-clause-told : goal.returns-clause-told
returns-clause-told g c =
    let p = c.args.program.now in
    let x = c.args.machine.now in
    told-ok c.print_bytes.result _ _
    (steps-as p g.M.Memory.choose x c.print_bytes.new.machine (g.S.Sink.output c.args.out.now) (g.S.Sink.output c.print_bytes.new.out) _ _
    (line-end-is p.outline (slice_get x.input 0) (seen p x)))
    c.print_bytes.ensures.told

pub returns-clause-failed : goal.returns-clause-failed
returns-clause-failed g c failed =
    let p = c.args.program.now in
    let x = c.args.machine.now in
    fails-as p g.M.Memory.choose x (g.S.Sink.output c.args.out.now) (g.S.Sink.output c.print_bytes.new.out) _ _
    (line-end-is p.outline (slice_get x.input 0) (seen p x)) (c.print_bytes.ensures.failed failed)
