use Rattle.std.proofs.Common.{◌+◌, slice_get, refl}
use Rattle.fm_code.specs.declared.instructions.Insn.TheVariants as insn
use Rattle.fm_fast.specs.Flows.{resumed}
use Rattle.fm_frames.specs.Rows.{effect_of}
use Rattle.fm_run.proofs.FlatSteps.{named-does}
use Rattle.fm_run.proofs.Resolving.{is-inside, is-method, is-wanted}
use Rattle.fm_run.proofs.called.interface_called.Goals as goal
use Rattle.fm_world.specs.declared.uses.Use.TheVariants as used

pub method_named-requires-clause-method : goal.method_named-requires-clause-method
method_named-requires-clause-method g c =
    is-method c.args.program.now (resumed c.args.machine.now c.args.frames.now c.args.counted) c.args.method.0 (insn.Interface c.args.index) c.requires.run c.requires.next.at

pub method_named-requires-clause-wanted : goal.method_named-requires-clause-wanted
method_named-requires-clause-wanted g c =
    is-wanted c.args.program.now (resumed c.args.machine.now c.args.frames.now c.args.counted) c.args.method.0 (insn.Interface c.args.index) c.requires.run
    (c.requires.next.next refl).going c.requires.next.at

pub interface_call-requires-clause-method : goal.interface_call-requires-clause-method
interface_call-requires-clause-method g c =
    (is-inside c.args.program.now (resumed c.args.machine.now c.args.frames.now c.args.counted) c.args.method.0 (insn.Interface c.args.index)
    (used.OfMethod c.method_named.result.0 c.method_named.result.1) c.requires.run c.requires.next.at c.method_named.ensures).0

pub interface_call-requires-clause-named : goal.interface_call-requires-clause-named
interface_call-requires-clause-named g c =
    (is-inside c.args.program.now (resumed c.args.machine.now c.args.frames.now c.args.counted) c.args.method.0 (insn.Interface c.args.index)
    (used.OfMethod c.method_named.result.0 c.method_named.result.1) c.requires.run c.requires.next.at c.method_named.ensures).1

pub returns-clause-did : goal.returns-clause-did
unfolding effect_of
returns-clause-did g c told =
    named-does c.args.program.now g.M.Memory.choose (resumed c.args.machine.now c.args.frames.now c.args.counted)
    (resumed c.args.machine.now c.interface_call.new.frames (c.args.counted + 1)) c.args.method.0 (insn.Interface c.args.index)
    (used.OfMethod c.method_named.result.0 c.method_named.result.1) c.requires.next.at c.method_named.ensures
    (c.interface_call.ensures.did told (slice_get c.args.machine.now.input 0) c.args.counted)
