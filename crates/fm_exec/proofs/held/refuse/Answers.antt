use Rattle.std.proofs.Common.{codes, ap, sym, ◌∙◌}
use Rattle.std.proofs.lemmas.Option.{none-some}
use Rattle.fm_exec.proofs.HeldSteps.{held-refused}
use Rattle.fm_exec.proofs.Seen.{carried}
use Rattle.fm_exec.proofs.held.refuse.Goals as goal
use Rattle.fm_frames.proofs.Refusals.{gone-at, null-is}
use Rattle.fm_frames.proofs.Throwing.{told-ok}
use Rattle.fm_frames.specs.Acts.{cell_of}
use Rattle.fm_frames.specs.Effects.{OfOperand, faulty, stuck}
use Rattle.fm_frames.specs.Operands.{on_any, thrown_null}
use Rattle.fm_frames.specs.Steps.{stack_of}
use Rattle.fm_frames.specs.declared.looks.Look.TheVariants as look
use Rattle.fm_frames.specs.inner.Doings.{seen}
use Rattle.fm_frames.specs.inner.Looks.{object_in}

pub returns-in-Null : goal.returns-in-Null
returns-in-Null g c none follows =
    let p = c.args.program.now in
    let x = c.args.machine.now in
    told-ok c.throw_new.result _ _
    (λ thrown.
    carried p g.M.Memory.choose x c.throw_new.new.self (on_any p.outline (seen p x) c.args.operand follows) (thrown_null p.outline)
    (held-refused p.outline x.areas.store (stack_of x) (thrown_null p.outline) c.args.operand follows look.Null c.in-Null.ensures none)
    (thrown (codes "java/lang/NullPointerException") (null-is p c.requires.runnable)))
    c.throw_new.ensures

pub returns-in-Gone : goal.returns-in-Gone
returns-in-Gone g c none follows =
    let p = c.args.program.now in
    let x = c.args.machine.now in
    carried p g.M.Memory.choose x c.fault.new.self (on_any p.outline (seen p x) c.args.operand follows) (faulty c.args.operand)
    (held-refused p.outline x.areas.store (stack_of x) (thrown_null p.outline) c.args.operand follows (look.Gone c.in-Gone.cell) c.in-Gone.ensures none)
    (c.fault.ensures c.requires.runnable g.M.Memory.choose (OfOperand c.args.operand)
    (ap cell_of (gone-at x.areas.store (stack_of x) c.args.operand c.in-Gone.cell c.in-Gone.ensures)))

pub returns-in-Other : goal.returns-in-Other
returns-in-Other g c none follows =
    let p = c.args.program.now in
    let x = c.args.machine.now in
    carried p g.M.Memory.choose x c.stuck.new.self (on_any p.outline (seen p x) c.args.operand follows) stuck
    (held-refused p.outline x.areas.store (stack_of x) (thrown_null p.outline) c.args.operand follows look.Other c.in-Other.ensures none)
    (c.stuck.ensures c.requires.runnable g.M.Memory.choose)

pub returns-in-Object : goal.returns-in-Object
returns-in-Object g c none follows = absurd (none-some _ (sym none ∙ sym (ap object_in c.in-Object.ensures)))
