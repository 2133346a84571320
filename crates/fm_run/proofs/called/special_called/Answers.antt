use Rattle.std.proofs.Common.{◌≡◌, ◌+◌, ◌<◌, length, slice_get, sym, subst, arith}
use Rattle.fm_code.specs.declared.instructions.Insn.TheVariants as insn
use Rattle.fm_fast.specs.Flows.{resumed}
use Rattle.fm_frames.specs.Rows.{effect_of}
use Rattle.fm_frames.specs.CallRows.{words_of_arguments}
use Rattle.fm_run.proofs.FlatSteps.{named-does}
use Rattle.fm_run.proofs.Resolving.{is-inside}
use Rattle.fm_run.proofs.called.special_called.Goals as goal
use Rattle.fm_run.specs.inner.Flats.{IsFlatNext}
use Rattle.fm_world.specs.declared.uses.Use.TheVariants as used

pub special_call-requires-clause-receiver : goal.special_call-requires-clause-receiver
special_call-requires-clause-receiver g c =
    let many : c.args.words ≡ words_of_arguments c.args.program.now.outline c.requires.next.1.0.0 + 1 = c.requires.next.1.3 in
    omega (arith, many)

pub returns-clause-did : goal.returns-clause-did
unfolding effect_of
returns-clause-did g c told =
    let p = c.args.program.now in
    let x = (resumed c.args.machine.now c.args.frames.now c.args.counted) in
    let call = c.requires.next.1 in
    let here = subst (IsFlatNext p c.args.steps x c.args.method.0) call.2.insn_is c.requires.next.2 in
    let u = used.OfMethod call.0 call.1 in
    let inside = is-inside p x c.args.method.0 (insn.Special call.2.index) u c.requires.run here.at call.2.use_is in
    named-does p g.M.Memory.choose x (resumed c.args.machine.now c.special_call.new.frames (c.args.counted + 1)) c.args.method.0 (insn.Special call.2.index) u here.at
    call.2.use_is
    (c.special_call.ensures.did told c.args.method.0 call.0 call.1 (record { named_inside = inside.1; words_are = call.3; target_is = call.4 })
    (slice_get c.args.machine.now.input 0) c.args.counted)
