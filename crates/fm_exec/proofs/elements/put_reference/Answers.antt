use Rattle.std.proofs.Common.{◌≡◌, codes, true, false, refl, ap, ◌∙◌, rules}
use Rattle.fm_exec.proofs.ElementSteps.{put_fitting, put_of, value-refused, value-told}
use Rattle.fm_exec.proofs.Exceptions.{store-is}
use Rattle.fm_exec.proofs.HeldSteps.{object-found}
use Rattle.fm_exec.proofs.Seen.{carried}
use Rattle.fm_exec.proofs.elements.put_reference.Goals as goal
use Rattle.fm_frames.proofs.Refusals.{gone-at}
use Rattle.fm_frames.proofs.Throwing.{told-ok}
use Rattle.fm_frames.specs.Acts.{cell_of}
use Rattle.fm_frames.specs.ArrayRows.{put_reference}
use Rattle.fm_frames.specs.Effects.{OfOperand, faulty, stuck}
use Rattle.fm_frames.specs.Steps.{stack_of}
use Rattle.fm_frames.specs.declared.looks.Look.TheVariants as look
use Rattle.fm_frames.specs.inner.Doings.{seen}
use Rattle.fm_frames.specs.inner.Looks.{object_in}
use Rattle.fm_world.specs.Chains.{is_sub}

pub returns-in-Null : goal.returns-in-Null
returns-in-Null g c it same =
    let p = c.args.program.now in
    let x = c.args.machine.now in
    carried p g.M.Memory.choose x c.put_element.new.machine (put_reference p.outline (seen p x) it c.args.place) (put_of c.args.t c.args.place)
    (value-refused p.outline x.areas.store (stack_of x) it c.args.t c.args.place look.Null same c.in-Null.ensures refl)
    (c.put_element.ensures p g.M.Memory.choose)

pub returns-in-Gone : goal.returns-in-Gone
returns-in-Gone g c it same =
    let p = c.args.program.now in
    let x = c.args.machine.now in
    carried p g.M.Memory.choose x c.fault.new.self (put_reference p.outline (seen p x) it c.args.place) (faulty 0)
    (value-refused p.outline x.areas.store (stack_of x) it c.args.t c.args.place (look.Gone c.in-Gone.value) same c.in-Gone.ensures refl)
    (c.fault.ensures c.requires.can.runnable g.M.Memory.choose (OfOperand 0)
    (ap cell_of (gone-at x.areas.store (stack_of x) 0 c.in-Gone.value c.in-Gone.ensures)))

pub returns-in-Other : goal.returns-in-Other
returns-in-Other g c it same =
    let p = c.args.program.now in
    let x = c.args.machine.now in
    carried p g.M.Memory.choose x c.stuck.new.self (put_reference p.outline (seen p x) it c.args.place) stuck
    (value-refused p.outline x.areas.store (stack_of x) it c.args.t c.args.place look.Other same c.in-Other.ensures refl)
    (c.stuck.ensures c.requires.can.runnable g.M.Memory.choose)

pub returns-then-fits : goal.returns-then-fits
returns-then-fits g c it same =
    let p = c.args.program.now in
    let o = p.outline in
    let x = c.args.machine.now in
    let v = object-found o x.areas.store (stack_of x) 0 c.in-Object.field-0 c.in-Object.head (ap object_in c.in-Object.ensures) in
    let told : true ≡ is_sub o.classes c.type_in.result c.element_type.result = search rules in
    carried p g.M.Memory.choose x c.put_element-then-fits.new.machine (put_reference o (seen p x) it c.args.place) (put_of c.args.t c.args.place)
    (value-told o x.areas.store (stack_of x) it c.args.t c.args.place c.in-Object.field-0 c.in-Object.head true same v
    (told ∙ (λ i. is_sub o.classes (c.type_in.ensures.value i) (c.element_type.ensures i))))
    (c.put_element-then-fits.ensures p g.M.Memory.choose)

pub returns-else-fits : goal.returns-else-fits
returns-else-fits g c it same =
    let p = c.args.program.now in
    let o = p.outline in
    let x = c.args.machine.now in
    let v = object-found o x.areas.store (stack_of x) 0 c.in-Object.field-0 c.in-Object.head (ap object_in c.in-Object.ensures) in
    let told : false ≡ is_sub o.classes c.type_in.result c.element_type.result = search rules in
    told-ok c.throw_new.result _ _
    (λ thrown.
    carried p g.M.Memory.choose x c.throw_new.new.self (put_reference o (seen p x) it c.args.place) (put_fitting o c.args.t c.args.place false)
    (value-told o x.areas.store (stack_of x) it c.args.t c.args.place c.in-Object.field-0 c.in-Object.head false same v
    (told ∙ (λ i. is_sub o.classes (c.type_in.ensures.value i) (c.element_type.ensures i))))
    (thrown (codes "java/lang/ArrayStoreException") (store-is p c.requires.can.runnable)))
    c.throw_new.ensures
