use Rattle.std.proofs.Common.{pos, if◌then◌else◌, refl, ap, sym, ◌∙◌}
use Rattle.fm_exec.proofs.CastSteps.{answered_by, is_a-refused, is_a-told}
use Rattle.fm_exec.proofs.HeldSteps.{object-found}
use Rattle.fm_exec.proofs.Seen.{carried}
use Rattle.fm_exec.proofs.casts.is_instance.Goals as goal
use Rattle.fm_frames.proofs.Refusals.{gone-at}
use Rattle.fm_frames.proofs.Throwing.{told-ok}
use Rattle.fm_frames.specs.Acts.{cell_of}
use Rattle.fm_frames.specs.Effects.{OfOperand, Plain, faulty, int_word, stuck, words}
use Rattle.fm_frames.specs.ObjectRows.{is_a_effect}
use Rattle.fm_frames.specs.Steps.{stack_of}
use Rattle.fm_frames.specs.declared.looks.Look.TheVariants as look
use Rattle.fm_frames.specs.declared.values.Value.TheVariants as value
use Rattle.fm_frames.specs.inner.Doings.{seen}
use Rattle.fm_frames.specs.inner.Looks.{object_in}
use Rattle.fm_world.specs.Chains.{is_sub}
use Rattle.fm_world.specs.declared.uses.Use.TheVariants as used

pub returns-in-Null : goal.returns-in-Null
returns-in-Null g c =
    let p = c.args.program.now in
    let x = c.args.machine.now in
    told-ok c.give.result _ _
    (λ given.
    carried p g.M.Memory.choose x c.give.new.self (is_a_effect p.outline (used.OfType c.args.t) (seen p x)) (words 1 (int_word (pos 0)))
    (is_a-refused p.outline x.areas.store (stack_of x) c.args.t c.type_of-named.result look.Null c.type_of-named.ensures c.in-Null.ensures refl)
    (given (Plain (value.Int (pos 0))) refl p g.M.Memory.choose))
    c.give.ensures

pub returns-in-Object : goal.returns-in-Object
returns-in-Object g c =
    let p = c.args.program.now in
    let o = p.outline in
    let x = c.args.machine.now in
    let it = object-found o x.areas.store (stack_of x) 0 c.in-Object.field-0 c.in-Object.head (ap object_in c.in-Object.ensures) in
    told-ok c.give-in-Object.result _ _
    (λ given.
    carried p g.M.Memory.choose x c.give-in-Object.new.self (is_a_effect o (used.OfType c.args.t) (seen p x)) (answered_by c.is_sub-below.result)
    (is_a-told o x.areas.store (stack_of x) c.args.t c.type_of-named.result c.in-Object.field-0 c.in-Object.head c.is_sub-below.result c.type_of-named.ensures it
    (c.is_sub-below.ensures ∙ ap (λ t. is_sub o.classes t c.type_of-named.result) c.type_in.ensures.value))
    (given (Plain (value.Int (if c.is_sub-below.result then pos 1 else pos 0))) (sym c.truth.ensures) p g.M.Memory.choose))
    c.give-in-Object.ensures

pub returns-in-Gone : goal.returns-in-Gone
returns-in-Gone g c =
    let p = c.args.program.now in
    let x = c.args.machine.now in
    carried p g.M.Memory.choose x c.fault.new.self (is_a_effect p.outline (used.OfType c.args.t) (seen p x)) (faulty 0)
    (is_a-refused p.outline x.areas.store (stack_of x) c.args.t c.type_of-named.result (look.Gone c.in-Gone.cell) c.type_of-named.ensures c.in-Gone.ensures refl)
    (c.fault.ensures c.requires.can.runnable g.M.Memory.choose (OfOperand 0)
    (ap cell_of (gone-at x.areas.store (stack_of x) 0 c.in-Gone.cell c.in-Gone.ensures)))

pub returns-in-Other : goal.returns-in-Other
returns-in-Other g c =
    let p = c.args.program.now in
    let x = c.args.machine.now in
    carried p g.M.Memory.choose x c.stuck.new.self (is_a_effect p.outline (used.OfType c.args.t) (seen p x)) stuck
    (is_a-refused p.outline x.areas.store (stack_of x) c.args.t c.type_of-named.result look.Other c.type_of-named.ensures c.in-Other.ensures refl)
    (c.stuck.ensures c.requires.can.runnable g.M.Memory.choose)
