use Rattle.std.proofs.Common.{◌≡◌, ◌-◌, ◌<◌, [], ◌∷◌, get_or, length, refl, ap, sym, ◌∙◌, subst, arith}
use Rattle.std.proofs.lemmas.Option.{slice_get-get_or}
use Rattle.fm_exec_calls.proofs.UseSteps.{field-class, field-owner}
use Rattle.fm_exec_calls.proofs.first_uses.put_static.Goals as goal
use Rattle.fm_exec_calls.specs.inner.Starting.{StartsBefore}
use Rattle.fm_exec.proofs.FieldSteps.{field-kind, put_static-named}
use Rattle.fm_exec.specs.Steps.{Steps}
use Rattle.fm_frames.specs.Effects.{OfOperand, SetStatic, acting}
use Rattle.fm_frames.specs.Elements.{kept}
use Rattle.fm_frames.specs.ObjectRows.{kind_of_field, starting}
use Rattle.fm_frames.specs.States.{word_at}
use Rattle.fm_frames.specs.Steps.{stack_of}
use Rattle.fm_frames.specs.inner.Doings.{DoesIn}
use Rattle.fm_frames.specs.inner.Places.{IsOfKind}
use Rattle.fm_base.specs.Kinds.{kind_words}
use Rattle.fm_world.specs.Members.{slot_of}
use Rattle.fm_world.specs.Numbers.{type_of_class}
use Rattle.fm_world.specs.declared.records.FieldInfo.{FieldInfo}

pub start-requires-clause-class : goal.start-requires-clause-class
start-requires-clause-class g c =
    let o = c.args.program.now.outline in
    subst (λ n. n < length o.classes) (sym (ap (λ (i : FieldInfo). i.class.0) c.field-field.ensures ∙ field-class o c.args.f.0))
    (field-owner o c.args.f.0 c.requires.field)

pub returns-then-not-branch : goal.returns-then-not-branch
returns-then-not-branch g c =
    let p = c.args.program.now in
    let o = p.outline in
    let x = c.args.machine.now in
    let y = c.start.new.machine in
    let slot = slot_of o.classes c.args.f.0 in
    let own = kind_of_field o c.args.f.0 in
    let n = kind_words own in
    let e = acting n (SetStatic slot own (OfOperand (n - 1)) ∷ []) in
    let owner = ap (λ (i : FieldInfo). i.class.0) c.field-field.ensures ∙ field-class o c.args.f.0 in
    let kind_is = ap (λ (i : FieldInfo). i.kind) c.field-field.ensures ∙ field-kind o c.args.f.0 in
    subst (λ e. Steps p g.M.Memory.choose x y e)
    (sym (put_static-named o c.args.f c.args.named (get_or o.types c.args.named.0 (type_of_class 0)) (slice_get-get_or o.types c.args.named.0 (type_of_class 0) c.requires.named)))
    (subst (λ n. Steps p g.M.Memory.choose x y (starting n e)) owner
    (subst (StartsBefore p g.M.Memory.choose x y c.field-field.result.now.class.0 e) c.if-not-branch.true (c.in_ok-start.ensures e tt (λ a l. omega arith) refl)))

pub put_static-requires-clause-ready : goal.put_static-requires-clause-ready
put_static-requires-clause-ready g c =
    let p = c.args.program.now in
    let o = p.outline in
    let x = c.args.machine.now in
    let y = c.start.new.machine in
    let slot = slot_of o.classes c.args.f.0 in
    let own = kind_of_field o c.args.f.0 in
    let n = kind_words own in
    let e = acting n (SetStatic slot own (OfOperand (n - 1)) ∷ []) in
    let owner = ap (λ (i : FieldInfo). i.class.0) c.field-field.ensures ∙ field-class o c.args.f.0 in
    let kind_is = ap (λ (i : FieldInfo). i.kind) c.field-field.ensures ∙ field-kind o c.args.f.0 in
    let so = subst (StartsBefore p g.M.Memory.choose x y c.field-field.result.now.class.0 e) c.if-not-branch.false (c.in_ok-start.ensures e tt (λ a l. omega arith) refl) in
    so.0.ready

pub put_static-requires-clause-fits : goal.put_static-requires-clause-fits
put_static-requires-clause-fits g c =
    let p = c.args.program.now in
    let o = p.outline in
    let x = c.args.machine.now in
    let y = c.start.new.machine in
    let slot = slot_of o.classes c.args.f.0 in
    let own = kind_of_field o c.args.f.0 in
    let n = kind_words own in
    let e = acting n (SetStatic slot own (OfOperand (n - 1)) ∷ []) in
    let owner = ap (λ (i : FieldInfo). i.class.0) c.field-field.ensures ∙ field-class o c.args.f.0 in
    let kind_is = ap (λ (i : FieldInfo). i.kind) c.field-field.ensures ∙ field-kind o c.args.f.0 in
    let so = subst (StartsBefore p g.M.Memory.choose x y c.field-field.result.now.class.0 e) c.if-not-branch.false (c.in_ok-start.ensures e tt (λ a l. omega arith) refl) in
    let stack : stack_of y ≡ stack_of x = ap stack_of so.1 in
    subst (λ v. IsOfKind c.field-field.result.now.kind (kept c.field-field.result.now.kind v)) (sym c.word-value.ensures)
    (subst (λ n. IsOfKind c.field-field.result.now.kind (kept c.field-field.result.now.kind (word_at (stack_of y) (n - 1)))) (sym c.words-words.ensures.value)
    (subst (λ k. IsOfKind k (kept k (word_at (stack_of y) (kind_words k - 1)))) (sym kind_is)
    (subst (λ stack. IsOfKind own (kept own (word_at stack (n - 1)))) (sym stack) c.requires.fits)))

pub returns : goal.returns
returns g c =
    let p = c.args.program.now in
    let o = p.outline in
    let x = c.args.machine.now in
    let y = c.start.new.machine in
    let slot = slot_of o.classes c.args.f.0 in
    let own = kind_of_field o c.args.f.0 in
    let n = kind_words own in
    let e = acting n (SetStatic slot own (OfOperand (n - 1)) ∷ []) in
    let owner = ap (λ (i : FieldInfo). i.class.0) c.field-field.ensures ∙ field-class o c.args.f.0 in
    let kind_is = ap (λ (i : FieldInfo). i.kind) c.field-field.ensures ∙ field-kind o c.args.f.0 in
    let so = subst (StartsBefore p g.M.Memory.choose x y c.field-field.result.now.class.0 e) c.if-not-branch.false (c.in_ok-start.ensures e tt (λ a l. omega arith) refl) in
    let many = c.words-words.ensures.value ∙ ap kind_words kind_is in
    subst (λ e. Steps p g.M.Memory.choose x c.put_static.new.self e)
    (sym (put_static-named o c.args.f c.args.named (get_or o.types c.args.named.0 (type_of_class 0)) (slice_get-get_or o.types c.args.named.0 (type_of_class 0) c.requires.named)))
    (subst (λ n. Steps p g.M.Memory.choose x c.put_static.new.self (starting n e)) owner
    (so.2 c.put_static.new.self
    (subst (λ k. DoesIn p g.M.Memory.choose y c.put_static.new.self (acting n (SetStatic slot k (OfOperand (n - 1)) ∷ []))) kind_is
    (subst (λ s. DoesIn p g.M.Memory.choose y c.put_static.new.self (acting n (SetStatic s c.field-field.result.now.kind (OfOperand (n - 1)) ∷ []))) c.slot_of.ensures
    (subst (λ n. DoesIn p g.M.Memory.choose y c.put_static.new.self (acting n (SetStatic c.slot_of.result c.field-field.result.now.kind (OfOperand (n - 1)) ∷ []))) many
    (c.put_static.ensures (OfOperand (c.words-words.result - 1)) (sym c.word-value.ensures) p g.M.Memory.choose))))))
