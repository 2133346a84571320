use Rattle.std.proofs.Common.{sym, ◌∙◌}
use Rattle.fm_native.proofs.Prints.{quiet-does, quiet-fails, quiet-told}
use Rattle.fm_native.specs.Doing.{StepsTo}
use Rattle.fm_run.proofs.GroupRows.{left-out}
use Rattle.fm_run.proofs.Resolving.{is-wanted}
use Rattle.fm_run.proofs.steps.do_insn.Goals as goal
use Rattle.fm_run.specs.inner.Nexts.{DoesNext}
use Rattle.fm_frames.specs.Steps.{next_effect}
use Rattle.fm_types.specs.Typed.{use_by}

pub usual-requires-clause-group : goal.usual-requires-clause-group
usual-requires-clause-group g c = sym c.group_of.ensures ∙ c.in-Frequent.is

pub returns-in-Frequent-clause-told : goal.returns-in-Frequent-clause-told
returns-in-Frequent-clause-told g c =
    let p = c.args.program.now in
    let x = c.args.machine.now in
    let out = g.S.Sink.output c.args.out.now in
    quiet-told (DoesNext p g.M.Memory.choose x c.usual.new.machine) (StepsTo p g.M.Memory.choose x c.usual.new.machine out out (next_effect p x)) c.usual.result c.quiet.result
    c.quiet.ensures (quiet-does p g.M.Memory.choose x c.usual.new.machine out (next_effect p x)) c.usual.ensures

pub returns-in-Frequent-clause-failed : goal.returns-in-Frequent-clause-failed
returns-in-Frequent-clause-failed g c failed = absurd (quiet-fails c.usual.result c.quiet.result c.quiet.ensures failed)

pub rarer-requires-clause-group : goal.rarer-requires-clause-group
rarer-requires-clause-group g c = sym c.group_of.ensures ∙ c.in-Rarer.is

pub returns-in-Rarer-clause-told : goal.returns-in-Rarer-clause-told
returns-in-Rarer-clause-told g c =
    let p = c.args.program.now in
    let x = c.args.machine.now in
    let out = g.S.Sink.output c.args.out.now in
    quiet-told (DoesNext p g.M.Memory.choose x c.rarer.new.machine) (StepsTo p g.M.Memory.choose x c.rarer.new.machine out out (next_effect p x)) c.rarer.result c.quiet-in-Rarer.result
    c.quiet-in-Rarer.ensures (quiet-does p g.M.Memory.choose x c.rarer.new.machine out (next_effect p x)) c.rarer.ensures

pub returns-in-Rarer-clause-failed : goal.returns-in-Rarer-clause-failed
returns-in-Rarer-clause-failed g c failed = absurd (quiet-fails c.rarer.result c.quiet-in-Rarer.result c.quiet-in-Rarer.ensures failed)

pub thrown-requires-clause-group : goal.thrown-requires-clause-group
thrown-requires-clause-group g c = sym c.group_of.ensures ∙ c.in-Throws.is

pub thrown-requires-clause-at : goal.thrown-requires-clause-at
thrown-requires-clause-at g c = c.requires.at.at

pub returns-in-Throws-clause-told : goal.returns-in-Throws-clause-told
returns-in-Throws-clause-told g c =
    let p = c.args.program.now in
    let x = c.args.machine.now in
    let out = g.S.Sink.output c.args.out.now in
    quiet-told (DoesNext p g.M.Memory.choose x c.thrown.new.machine) (StepsTo p g.M.Memory.choose x c.thrown.new.machine out out (next_effect p x)) c.thrown.result c.quiet-in-Throws.result
    c.quiet-in-Throws.ensures (quiet-does p g.M.Memory.choose x c.thrown.new.machine out (next_effect p x)) c.thrown.ensures

pub returns-in-Throws-clause-failed : goal.returns-in-Throws-clause-failed
returns-in-Throws-clause-failed g c failed = absurd (quiet-fails c.thrown.result c.quiet-in-Throws.result c.quiet-in-Throws.ensures failed)

pub statics-requires-clause-group : goal.statics-requires-clause-group
statics-requires-clause-group g c = sym c.group_of.ensures ∙ c.in-Statics.is

pub returns-in-Statics-clause-told : goal.returns-in-Statics-clause-told
returns-in-Statics-clause-told g c =
    let p = c.args.program.now in
    let x = c.args.machine.now in
    let out = g.S.Sink.output c.args.out.now in
    quiet-told (DoesNext p g.M.Memory.choose x c.statics.new.machine) (StepsTo p g.M.Memory.choose x c.statics.new.machine out out (next_effect p x)) c.statics.result c.quiet-in-Statics.result
    c.quiet-in-Statics.ensures (quiet-does p g.M.Memory.choose x c.statics.new.machine out (next_effect p x)) c.statics.ensures

pub returns-in-Statics-clause-failed : goal.returns-in-Statics-clause-failed
returns-in-Statics-clause-failed g c failed = absurd (quiet-fails c.statics.result c.quiet-in-Statics.result c.quiet-in-Statics.ensures failed)

pub objects-requires-clause-group : goal.objects-requires-clause-group
objects-requires-clause-group g c = sym c.group_of.ensures ∙ c.in-Objects.is

pub returns-in-Objects-clause-told : goal.returns-in-Objects-clause-told
returns-in-Objects-clause-told g c =
    let p = c.args.program.now in
    let x = c.args.machine.now in
    let out = g.S.Sink.output c.args.out.now in
    quiet-told (DoesNext p g.M.Memory.choose x c.objects.new.machine) (StepsTo p g.M.Memory.choose x c.objects.new.machine out out (next_effect p x)) c.objects.result c.quiet-in-Objects.result
    c.quiet-in-Objects.ensures (quiet-does p g.M.Memory.choose x c.objects.new.machine out (next_effect p x)) c.objects.ensures

pub returns-in-Objects-clause-failed : goal.returns-in-Objects-clause-failed
returns-in-Objects-clause-failed g c failed = absurd (quiet-fails c.objects.result c.quiet-in-Objects.result c.quiet-in-Objects.ensures failed)

pub calls-requires-clause-group : goal.calls-requires-clause-group
calls-requires-clause-group g c = sym c.group_of.ensures ∙ c.in-Calls.is

pub unreachable-requires : goal.unreachable-requires
unreachable-requires g c =
    left-out c.args.insn.now (use_by c.args.program.now c.args.method.0 c.args.insn.now) (sym c.group_of.ensures ∙ c.in-LeftOut.is)
    (is-wanted c.args.program.now c.args.machine.now c.args.method.0 c.args.insn.now c.requires.run c.requires.going c.requires.at)
