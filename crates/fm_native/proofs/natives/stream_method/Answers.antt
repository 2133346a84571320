use Rattle.std.proofs.Common.{sym, subst}
use Rattle.fm_frames.specs.declared.natives.Native.TheVariants.{Exit, Read}
use Rattle.fm_native.proofs.Prints.{quiet-does, quiet-fails, quiet-row, quiet-told}
use Rattle.fm_native.proofs.natives.stream_method.Goals as goal
use Rattle.fm_native.specs.Doing.{effect_of_native, PrintsRow}

pub returns-in-Exit-clause-told : goal.returns-in-Exit-clause-told
returns-in-Exit-clause-told g c =
    let p = c.args.program.now in
    let x = c.args.machine.now in
    let out = g.S.Sink.output c.args.out.now in
    quiet-told _ (PrintsRow p g.M.Memory.choose x c.exit.new.machine out out c.args.native) c.exit.result c.quiet.result c.quiet.ensures
    (λ does. subst (PrintsRow p g.M.Memory.choose x c.exit.new.machine out out) (sym c.in-Exit.is)
    (quiet-row p g.M.Memory.choose x c.exit.new.machine out Exit does))
    c.exit.ensures

pub returns-in-Exit-clause-failed : goal.returns-in-Exit-clause-failed
returns-in-Exit-clause-failed g c failed = absurd (quiet-fails c.exit.result c.quiet.result c.quiet.ensures failed)

pub returns-in-Read-clause-told : goal.returns-in-Read-clause-told
returns-in-Read-clause-told g c =
    let p = c.args.program.now in
    let x = c.args.machine.now in
    let out = g.S.Sink.output c.args.out.now in
    quiet-told _ (PrintsRow p g.M.Memory.choose x c.read.new.machine out out c.args.native) c.read.result c.quiet-in-Read.result c.quiet-in-Read.ensures
    (λ does. subst (PrintsRow p g.M.Memory.choose x c.read.new.machine out out) (sym c.in-Read.is)
    (quiet-does p g.M.Memory.choose x c.read.new.machine out (effect_of_native p x Read) does))
    c.read.ensures

pub returns-in-Read-clause-failed : goal.returns-in-Read-clause-failed
returns-in-Read-clause-failed g c failed = absurd (quiet-fails c.read.result c.quiet-in-Read.result c.quiet-in-Read.ensures failed)
