use Rattle.std.proofs.Common.{◌+◌, refl}
use Rattle.fm_code.specs.declared.instructions.Insn.TheVariants as insn
use Rattle.fm_fast.specs.Flows.{resumed}
use Rattle.fm_frames.specs.Rows.{effect_of}
use Rattle.fm_run.proofs.FlatSteps.{named-does}
use Rattle.fm_run.proofs.Resolving.{is-inside, is-method, is-wanted}
use Rattle.fm_run.proofs.indexed.static_read.Goals as goal
use Rattle.fm_world.specs.declared.uses.Use.TheVariants as used

pub field_named-requires-clause-method : goal.field_named-requires-clause-method
field_named-requires-clause-method g c =
    is-method c.args.program.now (resumed c.args.machine.now c.args.frames.now c.args.counted) c.args.method.0 (insn.GetStatic c.args.index) c.requires.run c.requires.next.at

pub field_named-requires-clause-wanted : goal.field_named-requires-clause-wanted
field_named-requires-clause-wanted g c =
    is-wanted c.args.program.now (resumed c.args.machine.now c.args.frames.now c.args.counted) c.args.method.0 (insn.GetStatic c.args.index) c.requires.run
    (c.requires.next.next refl).going c.requires.next.at

pub get_static-requires-clause-field : goal.get_static-requires-clause-field
get_static-requires-clause-field g c =
    (is-inside c.args.program.now (resumed c.args.machine.now c.args.frames.now c.args.counted) c.args.method.0 (insn.GetStatic c.args.index)
    (used.OfField c.field_named.result.0 c.field_named.result.1) c.requires.run c.requires.next.at c.field_named.ensures).0

pub get_static-requires-clause-named : goal.get_static-requires-clause-named
get_static-requires-clause-named g c =
    (is-inside c.args.program.now (resumed c.args.machine.now c.args.frames.now c.args.counted) c.args.method.0 (insn.GetStatic c.args.index)
    (used.OfField c.field_named.result.0 c.field_named.result.1) c.requires.run c.requires.next.at c.field_named.ensures).1

pub returns-clause-did : goal.returns-clause-did
unfolding effect_of
returns-clause-did g c told =
    named-does c.args.program.now g.M.Memory.choose (resumed c.args.machine.now c.args.frames.now c.args.counted)
    (resumed c.args.machine.now c.get_static.new.frames (c.args.counted + 1)) c.args.method.0 (insn.GetStatic c.args.index)
    (used.OfField c.field_named.result.0 c.field_named.result.1) c.requires.next.at c.field_named.ensures (c.get_static.ensures.did told c.args.counted)
