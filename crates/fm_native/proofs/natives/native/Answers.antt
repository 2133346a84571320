use Rattle.std.proofs.Common.{subst}
use Rattle.fm_native.proofs.Prints.{error-kept, no-row-of, row-of}
use Rattle.fm_native.proofs.natives.native.Goals as goal
use Rattle.fm_native.specs.Doing.{FailsRow, PrintsRow}

pub returns-in-Ok-clause-told : goal.returns-in-Ok-clause-told
returns-in-Ok-clause-told g c n named =
    let p = c.args.program.now in
    let x = c.args.machine.now in
    subst (PrintsRow p g.M.Memory.choose x c.built_in_method.new.machine (g.S.Sink.output c.args.out.now) (g.S.Sink.output c.built_in_method.new.out))
    (row-of c.args.row c.of_row.result c.in-Some.native n c.of_row.ensures c.in-Some.is named) c.in-Ok.ensures.told

pub returns-in-Err-clause-failed : goal.returns-in-Err-clause-failed
returns-in-Err-clause-failed g c failed n named =
    let p = c.args.program.now in
    let x = c.args.machine.now in
    subst (FailsRow p g.M.Memory.choose x (g.S.Sink.output c.args.out.now) (g.S.Sink.output c.built_in_method.new.out))
    (row-of c.args.row c.of_row.result c.in-Some.native n c.of_row.ensures c.in-Some.is named) (c.in-Err.ensures.failed (error-kept c.in-Err.fail _ failed))

pub returns-in-None-clause-told : goal.returns-in-None-clause-told
returns-in-None-clause-told g c n named = absurd (no-row-of c.args.row c.of_row.result n c.of_row.ensures c.in-None.is named)
