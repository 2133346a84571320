use Rattle.std.proofs.Common.{◌≡◌, ◌+◌, ◌<◌, length, slice_get, sym, subst, arith}
use Rattle.fm_code.specs.declared.instructions.Insn.TheVariants as insn
use Rattle.fm_fast.specs.Flows.{resumed}
use Rattle.fm_frames.specs.Rows.{effect_of}
use Rattle.fm_run.proofs.FlatSteps.{named-does}
use Rattle.fm_run.proofs.Resolving.{is-inside}
use Rattle.fm_run.proofs.called.static_called.Goals as goal
use Rattle.fm_run.specs.inner.Flats.{IsFlatNext}
use Rattle.fm_world.specs.declared.uses.Use.TheVariants as used

pub static_call-requires-clause-method : goal.static_call-requires-clause-method
static_call-requires-clause-method g c =
    let p = c.args.program.now in
    let x = (resumed c.args.machine.now c.args.frames.now c.args.counted) in
    let call = c.requires.next.1 in
    let here = subst (IsFlatNext p c.args.steps x c.args.method.0) call.1.insn_is c.requires.next.2 in
    (is-inside p x c.args.method.0 (insn.Static call.1.index) (used.OfMethod c.args.m call.0) c.requires.run here.at call.1.use_is).0

pub static_call-requires-clause-words : goal.static_call-requires-clause-words
static_call-requires-clause-words g c = c.requires.next.1.2

pub returns-clause-did : goal.returns-clause-did
unfolding effect_of
returns-clause-did g c told =
    let p = c.args.program.now in
    let x = (resumed c.args.machine.now c.args.frames.now c.args.counted) in
    let call = c.requires.next.1 in
    let here = subst (IsFlatNext p c.args.steps x c.args.method.0) call.1.insn_is c.requires.next.2 in
    let u = used.OfMethod c.args.m call.0 in
    let inside = is-inside p x c.args.method.0 (insn.Static call.1.index) u c.requires.run here.at call.1.use_is in
    named-does p g.M.Memory.choose x (resumed c.args.machine.now c.static_call.new.frames (c.args.counted + 1)) c.args.method.0 (insn.Static call.1.index) u here.at
    call.1.use_is (c.static_call.ensures.did told call.0 inside.1 (slice_get c.args.machine.now.input 0) c.args.counted)
