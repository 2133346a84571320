use Rattle.std.proofs.Common.{◌≡◌, [], codes, true, false, refl, ap, ◌∙◌, rules}
use Rattle.fm_exec.proofs.CastSteps.{cast-refused, cast-told, casts_by}
use Rattle.fm_exec.proofs.Exceptions.{cast-is}
use Rattle.fm_exec.proofs.HeldSteps.{object-found}
use Rattle.fm_exec.proofs.Seen.{carried}
use Rattle.fm_exec.proofs.casts.cast.Goals as goal
use Rattle.fm_frames.proofs.Refusals.{gone-at}
use Rattle.fm_frames.proofs.Throwing.{told-ok}
use Rattle.fm_frames.specs.Acts.{cell_of}
use Rattle.fm_frames.specs.Effects.{OfOperand, faulty, stuck, words}
use Rattle.fm_frames.specs.ObjectRows.{cast_effect}
use Rattle.fm_frames.specs.Steps.{stack_of}
use Rattle.fm_frames.specs.declared.looks.Look.TheVariants as look
use Rattle.fm_frames.specs.inner.Doings.{seen}
use Rattle.fm_frames.specs.inner.Looks.{object_in}
use Rattle.fm_world.specs.Chains.{is_sub}
use Rattle.fm_world.specs.declared.uses.Use.TheVariants as used

pub returns-in-Null : goal.returns-in-Null
returns-in-Null g c =
    let p = c.args.program.now in
    let x = c.args.machine.now in
    carried p g.M.Memory.choose x c.take.new.self (cast_effect p.outline (used.OfType c.args.t) (seen p x)) (words 0 [])
    (cast-refused p.outline x.areas.store (stack_of x) c.args.t c.type_of-named.result look.Null c.type_of-named.ensures c.in-Null.ensures refl)
    (c.take.ensures p g.M.Memory.choose)

pub returns-then-below : goal.returns-then-below
returns-then-below g c =
    let p = c.args.program.now in
    let o = p.outline in
    let x = c.args.machine.now in
    let it = object-found o x.areas.store (stack_of x) 0 c.in-Object.field-0 c.in-Object.head (ap object_in c.in-Object.ensures) in
    let told : true ≡ is_sub o.classes c.type_in.result c.type_of-named.result = search rules in
    carried p g.M.Memory.choose x c.take-then-below.new.self (cast_effect o (used.OfType c.args.t) (seen p x)) (words 0 [])
    (cast-told o x.areas.store (stack_of x) c.args.t c.type_of-named.result c.in-Object.field-0 c.in-Object.head true c.type_of-named.ensures it
    (told ∙ ap (λ t. is_sub o.classes t c.type_of-named.result) c.type_in.ensures.value))
    (c.take-then-below.ensures p g.M.Memory.choose)

pub returns-else-below : goal.returns-else-below
returns-else-below g c =
    let p = c.args.program.now in
    let o = p.outline in
    let x = c.args.machine.now in
    let it = object-found o x.areas.store (stack_of x) 0 c.in-Object.field-0 c.in-Object.head (ap object_in c.in-Object.ensures) in
    let told : false ≡ is_sub o.classes c.type_in.result c.type_of-named.result = search rules in
    told-ok c.throw_new.result _ _
    (λ thrown.
    carried p g.M.Memory.choose x c.throw_new.new.self (cast_effect o (used.OfType c.args.t) (seen p x)) (casts_by o false)
    (cast-told o x.areas.store (stack_of x) c.args.t c.type_of-named.result c.in-Object.field-0 c.in-Object.head false c.type_of-named.ensures it
    (told ∙ ap (λ t. is_sub o.classes t c.type_of-named.result) c.type_in.ensures.value))
    (thrown (codes "java/lang/ClassCastException") (cast-is p c.requires.can.runnable)))
    c.throw_new.ensures

pub returns-in-Gone : goal.returns-in-Gone
returns-in-Gone g c =
    let p = c.args.program.now in
    let x = c.args.machine.now in
    carried p g.M.Memory.choose x c.fault.new.self (cast_effect p.outline (used.OfType c.args.t) (seen p x)) (faulty 0)
    (cast-refused p.outline x.areas.store (stack_of x) c.args.t c.type_of-named.result (look.Gone c.in-Gone.cell) c.type_of-named.ensures c.in-Gone.ensures refl)
    (c.fault.ensures c.requires.can.runnable g.M.Memory.choose (OfOperand 0)
    (ap cell_of (gone-at x.areas.store (stack_of x) 0 c.in-Gone.cell c.in-Gone.ensures)))

pub returns-in-Other : goal.returns-in-Other
returns-in-Other g c =
    let p = c.args.program.now in
    let x = c.args.machine.now in
    carried p g.M.Memory.choose x c.stuck.new.self (cast_effect p.outline (used.OfType c.args.t) (seen p x)) stuck
    (cast-refused p.outline x.areas.store (stack_of x) c.args.t c.type_of-named.result look.Other c.type_of-named.ensures c.in-Other.ensures refl)
    (c.stuck.ensures c.requires.can.runnable g.M.Memory.choose)
