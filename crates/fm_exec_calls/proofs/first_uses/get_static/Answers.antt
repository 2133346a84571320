use Rattle.std.proofs.Common.{◌<◌, get_or, length, refl, ap, sym, ◌∙◌, subst}
use Rattle.std.proofs.lemmas.Option.{slice_get-get_or}
use Rattle.fm_exec_calls.proofs.UseSteps.{field-class, field-owner}
use Rattle.fm_exec_calls.proofs.first_uses.get_static.Goals as goal
use Rattle.fm_exec_calls.specs.inner.Starting.{StartsBefore}
use Rattle.fm_exec.proofs.FieldSteps.{field-kind, get_static-named}
use Rattle.fm_exec.specs.Steps.{Steps}
use Rattle.fm_frames.proofs.Throwing.{told-ok}
use Rattle.fm_frames.specs.Effects.{OfStatic, loaded, words}
use Rattle.fm_frames.specs.ObjectRows.{kind_of_field, starting}
use Rattle.fm_frames.specs.States.{word_at}
use Rattle.fm_frames.specs.inner.Doings.{DoesIn}
use Rattle.fm_world.specs.Members.{slot_of}
use Rattle.fm_world.specs.Numbers.{type_of_class}
use Rattle.fm_world.specs.declared.records.FieldInfo.{FieldInfo}

pub start-requires-clause-class : goal.start-requires-clause-class
start-requires-clause-class g c =
    let o = c.args.program.now.outline in
    subst (λ n. n < length o.classes) (sym (ap (λ (i : FieldInfo). i.class.0) c.field-field.ensures ∙ field-class o c.args.f.0))
    (field-owner o c.args.f.0 c.requires.field)

pub returns-then-not-branch : goal.returns-then-not-branch
returns-then-not-branch g c =
    let p = c.args.program.now in
    let o = p.outline in
    let x = c.args.machine.now in
    let y = c.start.new.machine in
    let slot = slot_of o.classes c.args.f.0 in
    let own = kind_of_field o c.args.f.0 in
    let e = words 0 (loaded own (OfStatic slot)) in
    let owner = ap (λ (i : FieldInfo). i.class.0) c.field-field.ensures ∙ field-class o c.args.f.0 in
    subst (λ e. Steps p g.M.Memory.choose x y e)
    (sym (get_static-named o c.args.f c.args.named (get_or o.types c.args.named.0 (type_of_class 0)) (slice_get-get_or o.types c.args.named.0 (type_of_class 0) c.requires.named)))
    (subst (λ n. Steps p g.M.Memory.choose x y (starting n e)) owner
    (subst (StartsBefore p g.M.Memory.choose x y c.field-field.result.now.class.0 e) c.if-not-branch.true (c.in_ok-start.ensures e tt (λ a l. refl) refl)))

pub give-requires : goal.give-requires
give-requires g c =
    let p = c.args.program.now in
    let o = p.outline in
    let x = c.args.machine.now in
    let y = c.start.new.machine in
    let slot = slot_of o.classes c.args.f.0 in
    let own = kind_of_field o c.args.f.0 in
    let e = words 0 (loaded own (OfStatic slot)) in
    let owner = ap (λ (i : FieldInfo). i.class.0) c.field-field.ensures ∙ field-class o c.args.f.0 in
    let so = subst (StartsBefore p g.M.Memory.choose x y c.field-field.result.now.class.0 e) c.if-not-branch.false (c.in_ok-start.ensures e tt (λ a l. refl) refl) in
    so.0.ready

pub returns : goal.returns
returns g c =
    let p = c.args.program.now in
    let o = p.outline in
    let x = c.args.machine.now in
    let y = c.start.new.machine in
    let slot = slot_of o.classes c.args.f.0 in
    let own = kind_of_field o c.args.f.0 in
    let e = words 0 (loaded own (OfStatic slot)) in
    let owner = ap (λ (i : FieldInfo). i.class.0) c.field-field.ensures ∙ field-class o c.args.f.0 in
    let so = subst (StartsBefore p g.M.Memory.choose x y c.field-field.result.now.class.0 e) c.if-not-branch.false (c.in_ok-start.ensures e tt (λ a l. refl) refl) in
    let kind_is = ap (λ (i : FieldInfo). i.kind) c.field-field.ensures ∙ field-kind o c.args.f.0 in
    told-ok c.give.result _ _
    (λ given.
    subst (λ e. Steps p g.M.Memory.choose x c.give.new.machine e)
    (sym (get_static-named o c.args.f c.args.named (get_or o.types c.args.named.0 (type_of_class 0)) (slice_get-get_or o.types c.args.named.0 (type_of_class 0) c.requires.named)))
    (subst (λ n. Steps p g.M.Memory.choose x c.give.new.machine (starting n e)) owner
    (so.2 c.give.new.machine
    (subst (λ k. DoesIn p g.M.Memory.choose y c.give.new.machine (words 0 (loaded k (OfStatic slot)))) kind_is
    (given (OfStatic slot) (ap (word_at y.areas.statics) (sym c.slot_of.ensures) ∙ sym c.static_at-value.ensures) p g.M.Memory.choose)))))
    c.give.ensures
