use Rattle.std.proofs.Common.{Some, None}
use Rattle.fm_frames.proofs.Throwing.{told-ok}
use Rattle.fm_frames.specs.Effects.{giving_literal, stuck}
use Rattle.fm_frames.specs.Literals.{class_literal}
use Rattle.fm_frames.specs.declared.natives.Native.TheVariants.{ObjectGetClass}
use Rattle.fm_frames.specs.inner.Doings.{seen}
use Rattle.fm_native.proofs.ClassRows.{class-inside, class-is, class-named, class-placed, class-refused}
use Rattle.fm_native.proofs.Rows.{carried}
use Rattle.fm_native.specs.inner.Asked.{refused}
use Rattle.fm_native.proofs.objects.get_class.Goals as goal

pub give_class-requires-clause-inside : goal.give_class-requires-clause-inside
give_class-requires-clause-inside g c = class-inside c.args.program.now.outline c.type_numbered-t.result c.in-Some.id.0 c.in-Some.ensures

pub give_class-requires-clause-literals : goal.give_class-requires-clause-literals
give_class-requires-clause-literals g c =
    let o = c.args.program.now.outline in
    class-placed o c.args.machine.now.areas.literals c.in-Some.id.0 (class-inside o c.type_numbered-t.result c.in-Some.id.0 c.in-Some.ensures) c.requires.literals

pub give_class-requires-clause-name : goal.give_class-requires-clause-name
give_class-requires-clause-name g c =
    let x = c.args.machine.now in
    class-named c.args.program.now.outline x.areas.store x 0 c.in-Ok.held c.requires.names c.in-Ok.ensures.held c.type_numbered-t.result
    c.type_numbered-t.ensures.value c.in-Some.id.0 c.in-Some.ensures

pub returns-in-Some : goal.returns-in-Some
returns-in-Some g c =
    let p = c.args.program.now in
    let o = p.outline in
    let x = c.args.machine.now in
    told-ok c.give_class.result _ _
    (λ given.
    carried p g.M.Memory.choose x c.give_class.new.self ObjectGetClass (giving_literal 1 (class_literal o c.in-Some.id.0))
    (λ byte.
    class-is o x.areas.store x byte (seen p x) c.in-Ok.held c.in-Ok.ensures.value c.in-Ok.ensures.held c.type_numbered-t.result c.type_numbered-t.ensures.value
    (Some c.in-Some.id.0) c.in-Some.ensures)
    given)
    c.give_class.ensures

pub returns-in-None : goal.returns-in-None
returns-in-None g c =
    let p = c.args.program.now in
    let o = p.outline in
    let x = c.args.machine.now in
    carried p g.M.Memory.choose x c.stuck.new.self ObjectGetClass stuck
    (λ byte.
    class-is o x.areas.store x byte (seen p x) c.in-Ok.held c.in-Ok.ensures.value c.in-Ok.ensures.held c.type_numbered-t.result c.type_numbered-t.ensures.value
    None c.in-None.ensures)
    (c.stuck.ensures c.requires.can.runnable g.M.Memory.choose)

pub returns-in-Err : goal.returns-in-Err
returns-in-Err g c =
    let p = c.args.program.now in
    let o = p.outline in
    let x = c.args.machine.now in
    told-ok c.refuse.result _ _
    (λ ended.
    carried p g.M.Memory.choose x c.refuse.new.machine ObjectGetClass (refused o 0 c.in-Err.refusal)
    (λ byte. class-refused o x.areas.store byte (seen p x) c.in-Err.refusal c.in-Err.ensures.value)
    (ended 0 c.in-Err.ensures.at))
    c.refuse.ensures
