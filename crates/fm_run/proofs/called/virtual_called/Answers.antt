use Rattle.std.proofs.Common.{◌≡◌, ◌+◌, ◌<◌, length, slice_get, sym, subst, arith}
use Rattle.fm_code.specs.declared.instructions.Insn.TheVariants as insn
use Rattle.fm_fast.specs.Flows.{resumed}
use Rattle.fm_frames.specs.Rows.{effect_of}
use Rattle.fm_run.proofs.FlatSteps.{named-does}
use Rattle.fm_run.proofs.Resolving.{is-inside}
use Rattle.fm_run.proofs.called.virtual_called.Goals as goal
use Rattle.fm_run.specs.inner.Flats.{IsFlatNext}
use Rattle.fm_world.specs.declared.uses.Use.TheVariants as used

pub virtual_call-requires-clause-method : goal.virtual_call-requires-clause-method
virtual_call-requires-clause-method g c =
    let p = c.args.program.now in
    let x = (resumed c.args.machine.now c.args.frames.now c.args.counted) in
    let call = c.requires.next.1 in
    let here = subst (IsFlatNext p c.args.steps x c.args.method.0) call.1.insn_is c.requires.next.2 in
    (is-inside p x c.args.method.0 (insn.Virtual call.1.index) (used.OfMethod c.args.m call.0) c.requires.run here.at call.1.use_is).0

pub virtual_call-requires-clause-named : goal.virtual_call-requires-clause-named
virtual_call-requires-clause-named g c =
    let p = c.args.program.now in
    let x = (resumed c.args.machine.now c.args.frames.now c.args.counted) in
    let call = c.requires.next.1 in
    let here = subst (IsFlatNext p c.args.steps x c.args.method.0) call.1.insn_is c.requires.next.2 in
    let inside = is-inside p x c.args.method.0 (insn.Virtual call.1.index) (used.OfMethod c.args.m call.0) c.requires.run here.at call.1.use_is in
    subst (λ n. n < length p.outline.types) call.2 inside.1

pub virtual_call-requires-clause-words : goal.virtual_call-requires-clause-words
virtual_call-requires-clause-words g c = c.requires.next.1.3

pub returns-clause-did : goal.returns-clause-did
unfolding effect_of
returns-clause-did g c told =
    let p = c.args.program.now in
    let x = (resumed c.args.machine.now c.args.frames.now c.args.counted) in
    let call = c.requires.next.1 in
    let here = subst (IsFlatNext p c.args.steps x c.args.method.0) call.1.insn_is c.requires.next.2 in
    named-does p g.M.Memory.choose x (resumed c.args.machine.now c.virtual_call.new.frames (c.args.counted + 1)) c.args.method.0 (insn.Virtual call.1.index)
    (used.OfMethod c.args.m call.0) here.at call.1.use_is (c.virtual_call.ensures.did told call.0 call.2 (slice_get c.args.machine.now.input 0) c.args.counted)
