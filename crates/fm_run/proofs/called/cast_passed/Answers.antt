use Rattle.std.proofs.Common.{◌+◌, subst}
use Rattle.fm_code.specs.declared.instructions.Insn.TheVariants as insn
use Rattle.fm_fast.specs.Flows.{resumed}
use Rattle.fm_frames.specs.Rows.{effect_of}
use Rattle.fm_run.proofs.FlatSteps.{named-does}
use Rattle.fm_run.proofs.Resolving.{is-inside}
use Rattle.fm_run.proofs.called.cast_passed.Goals as goal
use Rattle.fm_run.specs.inner.Flats.{IsFlatNext}
use Rattle.fm_world.specs.declared.uses.Use.TheVariants as used

pub cast-requires-clause-inside : goal.cast-requires-clause-inside
cast-requires-clause-inside g c =
    let p = c.args.program.now in
    let x = (resumed c.args.machine.now c.args.frames.now c.args.counted) in
    let names = c.requires.next.1 in
    let here = subst (IsFlatNext p c.args.steps x c.args.method.0) names.insn_is c.requires.next.2 in
    is-inside p x c.args.method.0 (insn.Cast names.index) (used.OfType c.args.t) c.requires.run here.at names.use_is

pub returns-clause-did : goal.returns-clause-did
unfolding effect_of
returns-clause-did g c told =
    let p = c.args.program.now in
    let x = (resumed c.args.machine.now c.args.frames.now c.args.counted) in
    let names = c.requires.next.1 in
    let here = subst (IsFlatNext p c.args.steps x c.args.method.0) names.insn_is c.requires.next.2 in
    named-does p g.M.Memory.choose x (resumed c.args.machine.now c.cast.new.frames (c.args.counted + 1)) c.args.method.0 (insn.Cast names.index) (used.OfType c.args.t)
    here.at names.use_is (c.cast.ensures.did told c.args.counted)
