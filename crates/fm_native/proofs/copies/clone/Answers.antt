use Rattle.std.proofs.Common.{codes, false, true}
use Rattle.fm_frames.proofs.Throwing.{told-ok}
use Rattle.fm_frames.specs.Effects.{Copy, making}
use Rattle.fm_frames.specs.Operands.{thrown}
use Rattle.fm_frames.specs.Sights.{type_numbered}
use Rattle.fm_frames.specs.declared.natives.Native.TheVariants.{ObjectClone}
use Rattle.fm_frames.specs.inner.Doings.{seen}
use Rattle.fm_native.proofs.BuiltIns.{uncloneable-is}
use Rattle.fm_native.proofs.CopyRows.{copy-is, copy-refused, held-head, held-pack}
use Rattle.fm_native.proofs.Rows.{carried}
use Rattle.fm_native.proofs.copies.clone.Goals as goal
use Rattle.fm_native.specs.inner.Asked.{refused}

pub give_copy-requires-clause-held : goal.give_copy-requires-clause-held
give_copy-requires-clause-held g c = held-head c.args.machine.now.areas.store c.args.machine.now 0 c.in-Ok.held c.in-Ok.ensures.held

pub give_copy-requires-clause-pack : goal.give_copy-requires-clause-pack
give_copy-requires-clause-pack g c =
    held-pack c.args.program.now.outline c.args.machine.now.areas.store c.args.machine.now 0 c.in-Ok.held c.requires.packs c.in-Ok.ensures.held

pub returns-then-is_copied : goal.returns-then-is_copied
returns-then-is_copied g c =
    let p = c.args.program.now in
    let o = p.outline in
    let x = c.args.machine.now in
    let held = c.in-Ok.held in
    told-ok c.give_copy.result _ _
    (λ given.
    carried p g.M.Memory.choose x c.give_copy.new.self ObjectClone (making 1 (Copy (type_numbered o held.head.class) held.head.len 0))
    (λ byte.
    copy-is o x.areas.store x byte (seen p x) held c.type_numbered-t.result true c.in-Ok.ensures.value c.in-Ok.ensures.held c.type_numbered-t.ensures.value
    c.if-is_copied.ensures)
    (given 0 c.in-Ok.ensures.held.word))
    c.give_copy.ensures

pub returns-else-is_copied : goal.returns-else-is_copied
returns-else-is_copied g c =
    let p = c.args.program.now in
    let o = p.outline in
    let x = c.args.machine.now in
    told-ok c.throw_new.result _ _
    (λ thrown_so.
    carried p g.M.Memory.choose x c.throw_new.new.self ObjectClone (thrown o (codes "java/lang/CloneNotSupportedException"))
    (λ byte.
    copy-is o x.areas.store x byte (seen p x) c.in-Ok.held c.type_numbered-t.result false c.in-Ok.ensures.value c.in-Ok.ensures.held
    c.type_numbered-t.ensures.value c.if-is_copied.ensures)
    (thrown_so (codes "java/lang/CloneNotSupportedException") (uncloneable-is p c.requires.can.runnable)))
    c.throw_new.ensures

pub returns-in-Err : goal.returns-in-Err
returns-in-Err g c =
    let p = c.args.program.now in
    let o = p.outline in
    let x = c.args.machine.now in
    told-ok c.refuse.result _ _
    (λ ended.
    carried p g.M.Memory.choose x c.refuse.new.machine ObjectClone (refused o 0 c.in-Err.refusal)
    (λ byte. copy-refused o x.areas.store byte (seen p x) c.in-Err.refusal c.in-Err.ensures.value)
    (ended 0 c.in-Err.ensures.at))
    c.refuse.ensures
