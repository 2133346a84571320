use Rattle.std.proofs.Common.{refl}
use Rattle.fm_code.specs.declared.instructions.Insn.TheVariants as insn
use Rattle.fm_frames.specs.Rows.{effect_of}
use Rattle.fm_law_can_step.proofs.Constants.{rows}
use Rattle.fm_law_can_step.proofs.Serving.{serves}
use Rattle.fm_run.proofs.CallsNext.{called-fails, called-told}
use Rattle.fm_run.proofs.Resolving.{is-inside, is-method, is-wanted}
use Rattle.fm_world.specs.declared.uses.Use.TheVariants as used
use Rattle.fm_frames.specs.CallRows.{virtual_effect}
use Rattle.fm_run.proofs.calls.virtual_called.Goals as goal

pub method_named-requires-clause-method : goal.method_named-requires-clause-method
method_named-requires-clause-method g c =
    is-method c.args.program.now c.args.machine.now c.args.method.0 (insn.Virtual c.args.index) c.requires.run c.requires.at

pub method_named-requires-clause-wanted : goal.method_named-requires-clause-wanted
method_named-requires-clause-wanted g c =
    is-wanted c.args.program.now c.args.machine.now c.args.method.0 (insn.Virtual c.args.index) c.requires.run c.requires.going c.requires.at

pub virtual_call-requires-clause-serves : goal.virtual_call-requires-clause-serves
virtual_call-requires-clause-serves g c =
    serves c.args.program.now c.args.machine.now c.requires.run c.requires.going

pub virtual_call-requires-clause-rows : goal.virtual_call-requires-clause-rows
virtual_call-requires-clause-rows g c =
    rows c.args.program.now c.requires.run

pub virtual_call-requires-clause-method : goal.virtual_call-requires-clause-method
virtual_call-requires-clause-method g c =
    (is-inside c.args.program.now c.args.machine.now c.args.method.0 (insn.Virtual c.args.index) (used.OfMethod c.method_named.result.0 c.method_named.result.1) c.requires.run c.requires.at c.method_named.ensures).0

pub virtual_call-requires-clause-named : goal.virtual_call-requires-clause-named
virtual_call-requires-clause-named g c =
    (is-inside c.args.program.now c.args.machine.now c.args.method.0 (insn.Virtual c.args.index) (used.OfMethod c.method_named.result.0 c.method_named.result.1) c.requires.run c.requires.at c.method_named.ensures).1

pub returns-clause-told : goal.returns-clause-told
unfolding effect_of
returns-clause-told g c =
    called-told c.args.program.now g.M.Memory.choose c.args.machine.now c.virtual_call.new.machine (g.S.Sink.output c.args.out.now) (g.S.Sink.output c.virtual_call.new.out) c.args.method.0 (insn.Virtual c.args.index) (used.OfMethod c.method_named.result.0 c.method_named.result.1) (virtual_effect c.args.program.now.outline (used.OfMethod c.method_named.result.0 c.method_named.result.1)) c.virtual_call.result c.requires.at c.method_named.ensures refl c.virtual_call.ensures.told

pub returns-clause-failed : goal.returns-clause-failed
unfolding effect_of
returns-clause-failed g c failed =
    called-fails c.args.program.now g.M.Memory.choose c.args.machine.now (g.S.Sink.output c.args.out.now) (g.S.Sink.output c.virtual_call.new.out) c.args.method.0 (insn.Virtual c.args.index) (used.OfMethod c.method_named.result.0 c.method_named.result.1) (virtual_effect c.args.program.now.outline (used.OfMethod c.method_named.result.0 c.method_named.result.1)) c.requires.at c.method_named.ensures refl (c.virtual_call.ensures.failed failed)
