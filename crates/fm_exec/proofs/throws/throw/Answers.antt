use Rattle.std.proofs.Common.{codes, true, false, ap, sym, ◌∙◌}
use Rattle.fm_cells.specs.declared.answers.Head.{Head}
use Rattle.fm_exec.proofs.Exceptions.{throwable-is}
use Rattle.fm_exec.proofs.LookSteps.{fits-told, found-at, throw-seen}
use Rattle.fm_exec.proofs.Seen.{carried}
use Rattle.fm_exec.proofs.throws.throw.Goals as goal
use Rattle.fm_exec.specs.Steps.{seen}
use Rattle.fm_frames.proofs.Refusals.{gone-at, null-is}
use Rattle.fm_frames.proofs.Throwing.{threw-operand, told-ok}
use Rattle.fm_frames.specs.Acts.{cell_of}
use Rattle.fm_frames.specs.Effects.{OfOperand, Throws, faulty, going, stuck}
use Rattle.fm_frames.specs.JumpRows.{throw_effect}
use Rattle.fm_frames.specs.Operands.{thrown_null}
use Rattle.fm_frames.specs.Sights.{type_numbered}
use Rattle.fm_frames.specs.Steps.{stack_of}
use Rattle.fm_frames.specs.declared.looks.Look.TheVariants as look

pub returns-in-Other : goal.returns-in-Other
returns-in-Other g c =
    let p = c.args.program.now in
    let x = c.args.machine.now in
    carried p g.M.Memory.choose x c.stuck.new.self (throw_effect p.outline (seen p x)) stuck
    (throw-seen p.outline x.areas.store (stack_of x) look.Other c.in-Other.ensures) (c.stuck.ensures c.requires.runnable g.M.Memory.choose)

pub returns-in-Null : goal.returns-in-Null
returns-in-Null g c =
    let p = c.args.program.now in
    let x = c.args.machine.now in
    told-ok c.throw_new.result _ _
    (λ thrown.
    carried p g.M.Memory.choose x c.throw_new.new.self (throw_effect p.outline (seen p x)) (thrown_null p.outline)
    (throw-seen p.outline x.areas.store (stack_of x) look.Null c.in-Null.ensures)
    (thrown (codes "java/lang/NullPointerException") (null-is p c.requires.runnable)))
    c.throw_new.ensures

pub returns-in-Gone : goal.returns-in-Gone
returns-in-Gone g c =
    let p = c.args.program.now in
    let x = c.args.machine.now in
    carried p g.M.Memory.choose x c.fault.new.self (throw_effect p.outline (seen p x)) (faulty 0)
    (throw-seen p.outline x.areas.store (stack_of x) (look.Gone c.in-Gone.cell) c.in-Gone.ensures)
    (c.fault.ensures c.requires.runnable g.M.Memory.choose (OfOperand 0)
    (ap cell_of (gone-at x.areas.store (stack_of x) 0 c.in-Gone.cell c.in-Gone.ensures)))

pub returns-then-fits : goal.returns-then-fits
returns-then-fits g c =
    let p = c.args.program.now in
    let x = c.args.machine.now in
    let found = found-at x.areas.store (stack_of x) 0 c.in-Object.cell c.in-Object.head c.in-Object.ensures in
    told-ok c.throw.result _ _
    (λ left.
    carried p g.M.Memory.choose x c.throw.new.self (throw_effect p.outline (seen p x)) (going 0 (Throws (OfOperand 0)))
    (throw-seen p.outline x.areas.store (stack_of x) (look.Object c.in-Object.cell c.in-Object.head) c.in-Object.ensures
    ∙ fits-told p.outline c.type_numbered-t.result c.type_of_class.result c.in-Object.head.class true c.type_numbered-t.ensures.value
    (c.type_of_class.ensures ∙ sym (throwable-is p c.requires.runnable)) c.if-fits.ensures)
    (threw-operand p g.M.Memory.choose x c.throw.new.self c.in-Object.cell.0 found.object c.type_numbered-t.result c.requires.ready.next_fits
    found.word found.held
    (c.type_numbered-t.ensures.value ∙ ap (λ (h : Head). type_numbered p.outline h.class) (sym found.head_is)) left))
    c.throw.ensures

pub returns-else-fits : goal.returns-else-fits
returns-else-fits g c =
    let p = c.args.program.now in
    let x = c.args.machine.now in
    let found = found-at x.areas.store (stack_of x) 0 c.in-Object.cell c.in-Object.head c.in-Object.ensures in
    carried p g.M.Memory.choose x c.fault-in-Object.new.self (throw_effect p.outline (seen p x)) (faulty 0)
    (throw-seen p.outline x.areas.store (stack_of x) (look.Object c.in-Object.cell c.in-Object.head) c.in-Object.ensures
    ∙ fits-told p.outline c.type_numbered-t.result c.type_of_class.result c.in-Object.head.class false c.type_numbered-t.ensures.value
    (c.type_of_class.ensures ∙ sym (throwable-is p c.requires.runnable)) c.if-fits.ensures)
    (c.fault-in-Object.ensures c.requires.runnable g.M.Memory.choose (OfOperand 0) (ap cell_of found.word))
