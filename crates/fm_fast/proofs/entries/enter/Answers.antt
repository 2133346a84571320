use Rattle.std.proofs.Common.{sym, ◌∙◌, arith, rules}
use Rattle.fm_fast.proofs.EntrySteps.{entered-over}
use Rattle.fm_fast.proofs.entries.enter.Goals as goal

pub returns-clause-did : goal.returns-clause-did
returns-clause-did g c told =
    entered-over c.args.program.now g.M.Memory.choose c.args.machine.now c.args.frames.now c.enter_in_room.new.self c.args.words c.args.target.0
    c.count.result c.depth.result c.in-Some.code.now (sym c.row_of.ensures ∙ search rules) c.requires.fits
    (search rules) c.count.ensures (omega arith) c.depth.ensures (c.enter_in_room.ensures.entered told)
