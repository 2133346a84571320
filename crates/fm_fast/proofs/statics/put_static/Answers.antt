use Rattle.std.proofs.Common.{◌≡◌, ◌+◌, ◌-◌, ◌<◌, [], ◌∷◌, get_or, length, refl, ap, sym, ◌∙◌, subst, rules}
use Rattle.std.proofs.lemmas.Option.{slice_get-get_or}
use Rattle.fm_exec_calls.proofs.UseSteps.{field-class, field-owner}
use Rattle.fm_exec.proofs.FieldSteps.{field-kind, put_static-named}
use Rattle.fm_exec.specs.Steps.{Steps}
use Rattle.fm_fast.specs.Flows.{on, resumed}
use Rattle.fm_fast.proofs.EntrySteps.{none-starts, set-there, starting-none}
use Rattle.fm_fast.proofs.statics.put_static.Goals as goal
use Rattle.fm_fast.proofs.CellSteps.{word-over}
use Rattle.fm_frames.proofs.Acting.{static-done}
use Rattle.fm_frames.proofs.Finishes.{took}
use Rattle.fm_frames.specs.Effects.{OfOperand, SetStatic, acting}
use Rattle.fm_frames.specs.Elements.{kept}
use Rattle.fm_frames.specs.ObjectRows.{class_of_field, kind_of_field}
use Rattle.fm_frames.specs.Starts.{to_start}
use Rattle.fm_frames.specs.States.{State, word_at}
use Rattle.fm_frames.specs.Steps.{stack_of}
use Rattle.fm_frames.specs.inner.Doings.{DoesIn}
use Rattle.fm_frames.specs.inner.Places.{IsOfKind}
use Rattle.fm_base.specs.Kinds.{kind_words}
use Rattle.fm_world.specs.Members.{slot_of}
use Rattle.fm_world.specs.Numbers.{type_of_class}
use Rattle.fm_world.specs.declared.records.FieldInfo.{FieldInfo}

pub display-requires : goal.display-requires
display-requires g c =
    let o = c.args.program.now.outline in
    subst (λ n. n < length o.classes) (sym (ap (λ (i : FieldInfo). i.class.0) c.field-field.ensures ∙ field-class o c.args.f.0))
    (field-owner o c.args.f.0 c.requires.field)

pub set_static-requires : goal.set_static-requires
set_static-requires g c =
    let o = c.args.program.now.outline in
    let m = c.args.machine.now in
    let kind_is = ap (λ (i : FieldInfo). i.kind) c.field-field.ensures ∙ field-kind o c.args.f.0 in
    let many = c.words-words.ensures.value ∙ ap kind_words kind_is in
    let stack = stack_of (on m c.args.frames.now) in
    subst (λ v. IsOfKind c.field-field.result.now.kind (kept c.field-field.result.now.kind v))
    (word-over m c.args.frames.now m.steps (c.words-words.result - 1) c.in-Some.value c.in-Some.ensures)
    (subst (λ n. IsOfKind c.field-field.result.now.kind (kept c.field-field.result.now.kind (word_at stack (n - 1)))) (sym many)
    (subst (λ k. IsOfKind k (kept k (word_at stack (kind_words (kind_of_field o c.args.f.0) - 1)))) (sym kind_is) c.requires.value))

pub returns-clause-did : goal.returns-clause-did
returns-clause-did g c told steps =
    let p = c.args.program.now in
    let o = p.outline in
    let m = c.args.machine.now in
    let old = c.args.frames.now in
    let x = resumed m old steps in
    let z = c.set_static.new.self in
    let y = resumed z c.drop_words.new.self (steps + 1) in
    let slot = slot_of o.classes c.args.f.0 in
    let own = kind_of_field o c.args.f.0 in
    let n = kind_words own in
    let w = c.words-words.result in
    let class = c.field-field.result.now.class.0 in
    let owner = ap (λ (i : FieldInfo). i.class.0) c.field-field.ensures ∙ field-class o c.args.f.0 in
    let kind_is = ap (λ (i : FieldInfo). i.kind) c.field-field.ensures ∙ field-kind o c.args.f.0 in
    let many : w ≡ n = c.words-words.ensures.value ∙ ap kind_words kind_is in
    let e = acting n (SetStatic slot own (OfOperand (n - 1)) ∷ []) in
    let set = set-there m z c.slot_of.result slot c.field-field.result.now.kind own c.in-Some.value c.set_static.ensures c.slot_of.ensures kind_is in
    let none = none-starts o m.areas.started class c.display.result.now c.display.ensures.value
    (c.are_started.ensures (search rules)) in
    subst (Steps p g.M.Memory.choose x y)
    (sym (put_static-named o c.args.f c.args.named (get_or o.types c.args.named.0 (type_of_class 0)) (slice_get-get_or o.types c.args.named.0 (type_of_class 0) c.requires.named)))
    (subst (DoesIn p g.M.Memory.choose x y)
    (sym (starting-none o m.areas.started (class_of_field o c.args.f.0) e (ap (to_start o m.areas.started) (sym owner) ∙ none) refl))
    (subst (λ n. DoesIn p g.M.Memory.choose x y (acting n (SetStatic slot own (OfOperand (n - 1)) ∷ []))) many
    (static-done p g.M.Memory.choose x (resumed z old steps) y w slot own (OfOperand (w - 1)) c.in-Some.value c.requires.fits
    (word-over m old steps (w - 1) c.in-Some.value c.in-Some.ensures)
    (ap (λ (s : State). resumed s old steps) set)
    (took p g.M.Memory.choose (resumed z old steps) (resumed z old steps) c.advance.new.self c.drop_words.new.self w refl c.requires.fits c.advance.ensures
    c.drop_words.ensures))))

pub returns-clause-ended : goal.returns-clause-ended
returns-clause-ended g c = ap (λ (x : State). x.ended) c.set_static.ensures
