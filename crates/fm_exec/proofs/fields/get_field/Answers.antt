use Rattle.std.proofs.Common.{true, false, get_or, ap, sym, ◌∙◌, subst}
use Rattle.std.proofs.lemmas.Option.{slice_get-get_or}
use Rattle.fm_exec.proofs.FieldSteps.{field-kind, get_field-named, named-fits, object-told, place-source, read_of}
use Rattle.fm_exec.proofs.HeldSteps.{object-found}
use Rattle.fm_exec.proofs.Seen.{carried}
use Rattle.fm_exec.specs.Steps.{Steps}
use Rattle.fm_frames.proofs.Throwing.{told-ok}
use Rattle.fm_frames.specs.Acts.{cell_of}
use Rattle.fm_frames.specs.Effects.{OfOperand, OfPlace, faulty, loaded, words}
use Rattle.fm_frames.specs.ObjectRows.{get_field_effect, kind_of_field}
use Rattle.fm_frames.specs.Sights.{type_numbered}
use Rattle.fm_frames.specs.Steps.{stack_of}
use Rattle.fm_frames.specs.inner.Doings.{DoesIn, seen}
use Rattle.fm_frames.specs.inner.Places.{element_at, IsOfKind}
use Rattle.fm_world.specs.Members.{slot_of}
use Rattle.fm_world.specs.Numbers.{type_of_class}
use Rattle.fm_world.specs.declared.records.FieldInfo.{FieldInfo}
use Rattle.fm_world.specs.declared.uses.Use.TheVariants as used
use Rattle.fm_exec.proofs.fields.get_field.Goals as goal

pub returns-in_default : goal.returns-in_default
returns-in_default g c =
    let p = c.args.program.now in
    let o = p.outline in
    let x = c.args.machine.now in
    let t = get_or o.types c.args.named.0 (type_of_class 0) in
    told-ok c.refuse.result _ _
    (subst (λ e. Steps p g.M.Memory.choose x c.refuse.new.machine e)
    (sym (get_field-named o c.args.f c.args.named t (seen p x) (slice_get-get_or o.types c.args.named.0 (type_of_class 0) c.requires.named))))
    (c.refuse.ensures (sym c.in_default.ensures.value) (read_of o c.args.f t))

pub place-value-requires : goal.place-value-requires
place-value-requires g c =
    let p = c.args.program.now in
    let o = p.outline in
    let x = c.args.machine.now in
    let kind_is = ap (λ (i : FieldInfo). i.kind) c.field.ensures ∙ field-kind o c.args.f.0 in
    let it = object-found o x.areas.store (stack_of x) 0 c.in-Some.cell c.in-Some.head c.in-Some.ensures.value in
    let t = type_numbered o c.args.named.0 in
    let at = slice_get-get_or o.types c.args.named.0 (type_of_class 0) c.requires.named in
    subst (λ s. IsOfKind c.field.result.now.kind (element_at x.areas.store c.in-Some.cell.0 s)) (sym c.slot_of.ensures)
    (subst (λ k. IsOfKind k (element_at x.areas.store c.in-Some.cell.0 (slot_of o.classes c.args.f.0))) (sym kind_is)
    (c.requires.holds c.in-Some.cell.0 it.object (it.word, it.held)
    (named-fits o it.object c.in-Some.head t c.args.named.0 it.head_is at c.if-fits.ensures)))

pub returns-then-fits : goal.returns-then-fits
returns-then-fits g c =
    let p = c.args.program.now in
    let o = p.outline in
    let x = c.args.machine.now in
    let slot = slot_of o.classes c.args.f.0 in
    let own = kind_of_field o c.args.f.0 in
    let kind_is = ap (λ (i : FieldInfo). i.kind) c.field.ensures ∙ field-kind o c.args.f.0 in
    let it = object-found o x.areas.store (stack_of x) 0 c.in-Some.cell c.in-Some.head c.in-Some.ensures.value in
    let t = type_numbered o c.args.named.0 in
    let at = slice_get-get_or o.types c.args.named.0 (type_of_class 0) c.requires.named in
    told-ok c.give.result _ _
    (λ given.
    carried p g.M.Memory.choose x c.give.new.machine (get_field_effect o (used.OfField c.args.f c.args.named) (seen p x))
    (words 1 (loaded own (OfPlace 0 slot own)))
    (get_field-named o c.args.f c.args.named t (seen p x) at
    ∙ object-told o x.areas.store (stack_of x) 0 c.in-Some.cell c.in-Some.head t true (λ l. words 1 (loaded own (OfPlace 0 slot own))) it c.if-fits.ensures)
    (subst (λ k. DoesIn p g.M.Memory.choose x c.give.new.machine (words 1 (loaded k (OfPlace 0 slot own)))) kind_is
    (given (OfPlace 0 slot own)
    (place-source x 0 c.in-Some.cell.0 c.slot_of.result slot c.field.result.now.kind own it.word c.slot_of.ensures kind_is ∙ sym c.place-value.ensures)
    p g.M.Memory.choose)))
    c.give.ensures

pub returns : goal.returns
returns g c =
    let p = c.args.program.now in
    let o = p.outline in
    let x = c.args.machine.now in
    let slot = slot_of o.classes c.args.f.0 in
    let own = kind_of_field o c.args.f.0 in
    let it = object-found o x.areas.store (stack_of x) 0 c.in-Some.cell c.in-Some.head c.in-Some.ensures.value in
    let t = type_numbered o c.args.named.0 in
    let at = slice_get-get_or o.types c.args.named.0 (type_of_class 0) c.requires.named in
    carried p g.M.Memory.choose x c.fault.new.self (get_field_effect o (used.OfField c.args.f c.args.named) (seen p x)) (faulty 0)
    (get_field-named o c.args.f c.args.named t (seen p x) at
    ∙ object-told o x.areas.store (stack_of x) 0 c.in-Some.cell c.in-Some.head t false (λ l. words 1 (loaded own (OfPlace 0 slot own))) it c.if-fits.ensures)
    (c.fault.ensures c.requires.can.runnable g.M.Memory.choose (OfOperand 0) (ap cell_of it.word))
