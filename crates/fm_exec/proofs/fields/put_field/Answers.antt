use Rattle.std.proofs.Common.{◌≡◌, ◌+◌, ◌-◌, [], ◌∷◌, true, false, get_or, ap, sym, ◌∙◌, subst}
use Rattle.std.proofs.lemmas.Option.{slice_get-get_or}
use Rattle.fm_exec.proofs.FieldSteps.{field-kind, named-fits, object-told, put_field-named, written_of}
use Rattle.fm_exec.proofs.HeldSteps.{object-found, Seen}
use Rattle.fm_exec.proofs.Seen.{carried}
use Rattle.fm_exec.specs.Steps.{Steps}
use Rattle.fm_frames.proofs.Throwing.{told-ok}
use Rattle.fm_frames.specs.Acts.{cell_of}
use Rattle.fm_frames.specs.Effects.{OfOperand, Put, acting, faulty}
use Rattle.fm_frames.specs.ObjectRows.{kind_of_field, put_field_effect}
use Rattle.fm_frames.specs.States.{ref, word_at}
use Rattle.fm_frames.specs.declared.values.Value.TheVariants as value
use Rattle.fm_frames.specs.Sights.{type_numbered}
use Rattle.fm_frames.specs.Steps.{stack_of}
use Rattle.fm_frames.specs.inner.Doings.{DoesIn, seen}
use Rattle.fm_frames.specs.inner.Places.{FitsIn}
use Rattle.fm_base.specs.Kinds.{kind_words}
use Rattle.fm_world.specs.Members.{slot_of}
use Rattle.fm_world.specs.Numbers.{type_of_class}
use Rattle.fm_world.specs.declared.records.FieldInfo.{FieldInfo}
use Rattle.fm_world.specs.declared.uses.Use.TheVariants as used
use Rattle.fm_frames.specs.Operands.{on_any}
use Rattle.fm_exec.proofs.fields.put_field.Goals as goal

pub returns-in_default : goal.returns-in_default
returns-in_default g c =
    let p = c.args.program.now in
    let o = p.outline in
    let x = c.args.machine.now in
    let t = get_or o.types c.args.named.0 (type_of_class 0) in
    let kind_is = ap (λ (i : FieldInfo). i.kind) c.field.ensures ∙ field-kind o c.args.f.0 in
    let many = c.words-words.ensures.value ∙ ap kind_words kind_is in
    told-ok c.refuse.result _ _
    (λ does.
    subst (λ e. Steps p g.M.Memory.choose x c.refuse.new.machine e)
    (sym (put_field-named o c.args.f c.args.named t (seen p x) (slice_get-get_or o.types c.args.named.0 (type_of_class 0) c.requires.named)))
    (subst (λ n. Steps p g.M.Memory.choose x c.refuse.new.machine (on_any o (seen p x) n (written_of o c.args.f t))) many does))
    (c.refuse.ensures (sym c.in_default.ensures.value) (written_of o c.args.f t))

pub put-requires-clause-fits : goal.put-requires-clause-fits
put-requires-clause-fits g c =
    let p = c.args.program.now in
    let o = p.outline in
    let x = c.args.machine.now in
    let own = kind_of_field o c.args.f.0 in
    let kind_is = ap (λ (i : FieldInfo). i.kind) c.field.ensures ∙ field-kind o c.args.f.0 in
    let many = c.words-words.ensures.value ∙ ap kind_words kind_is in
    let it = object-found o x.areas.store (stack_of x) c.words-words.result c.in-Some.cell c.in-Some.head c.in-Some.ensures.value in
    let t = type_numbered o c.args.named.0 in
    let at = slice_get-get_or o.types c.args.named.0 (type_of_class 0) c.requires.named in
    subst (λ v. FitsIn x.areas.store c.in-Some.cell.0 c.field.result.now.kind v) (sym c.word-value.ensures)
    (subst (λ n. FitsIn x.areas.store c.in-Some.cell.0 c.field.result.now.kind (word_at (stack_of x) (n - 1))) (sym many)
    (subst (λ k. FitsIn x.areas.store c.in-Some.cell.0 k (word_at (stack_of x) (kind_words own - 1))) (sym kind_is)
    (c.requires.takes c.in-Some.cell.0 it.object
    (subst (λ n. word_at (stack_of x) n ≡ ref c.in-Some.cell.0) many it.word, it.held)
    (named-fits o it.object c.in-Some.head t c.args.named.0 it.head_is at c.if-fits.ensures))))

pub returns-then-fits : goal.returns-then-fits
returns-then-fits g c =
    let p = c.args.program.now in
    let o = p.outline in
    let x = c.args.machine.now in
    let slot = slot_of o.classes c.args.f.0 in
    let own = kind_of_field o c.args.f.0 in
    let n = kind_words own in
    let kind_is = ap (λ (i : FieldInfo). i.kind) c.field.ensures ∙ field-kind o c.args.f.0 in
    let many = c.words-words.ensures.value ∙ ap kind_words kind_is in
    let it = object-found o x.areas.store (stack_of x) c.words-words.result c.in-Some.cell c.in-Some.head c.in-Some.ensures.value in
    let t = type_numbered o c.args.named.0 in
    let at = slice_get-get_or o.types c.args.named.0 (type_of_class 0) c.requires.named in
    let does = c.put.ensures (OfOperand c.words-words.result) (OfOperand (c.words-words.result - 1)) it.word (sym c.word-value.ensures) p g.M.Memory.choose in
    carried p g.M.Memory.choose x c.put.new.self (put_field_effect o (used.OfField c.args.f c.args.named) (seen p x))
    (acting (n + 1) (Put (OfOperand n) slot own (OfOperand (n - 1)) ∷ []))
    (put_field-named o c.args.f c.args.named t (seen p x) at
    ∙ object-told o x.areas.store (stack_of x) n c.in-Some.cell c.in-Some.head t true
    (λ l. acting (n + 1) (Put (OfOperand n) slot own (OfOperand (n - 1)) ∷ []))
    (subst (λ n. Seen o x.areas.store (stack_of x) n c.in-Some.cell c.in-Some.head) many it) c.if-fits.ensures)
    (subst (λ n. DoesIn p g.M.Memory.choose x c.put.new.self (acting (n + 1) (Put (OfOperand n) slot own (OfOperand (n - 1)) ∷ []))) many
    (subst (λ s. DoesIn p g.M.Memory.choose x c.put.new.self (acting (c.words-words.result + 1) (Put (OfOperand c.words-words.result) s own (OfOperand (c.words-words.result - 1)) ∷ []))) c.slot_of.ensures
    (subst (λ k. DoesIn p g.M.Memory.choose x c.put.new.self (acting (c.words-words.result + 1) (Put (OfOperand c.words-words.result) c.slot_of.result k (OfOperand (c.words-words.result - 1)) ∷ []))) kind_is does)))

pub returns : goal.returns
returns g c =
    let p = c.args.program.now in
    let o = p.outline in
    let x = c.args.machine.now in
    let slot = slot_of o.classes c.args.f.0 in
    let own = kind_of_field o c.args.f.0 in
    let n = kind_words own in
    let kind_is = ap (λ (i : FieldInfo). i.kind) c.field.ensures ∙ field-kind o c.args.f.0 in
    let many = c.words-words.ensures.value ∙ ap kind_words kind_is in
    let it = object-found o x.areas.store (stack_of x) c.words-words.result c.in-Some.cell c.in-Some.head c.in-Some.ensures.value in
    let t = type_numbered o c.args.named.0 in
    let at = slice_get-get_or o.types c.args.named.0 (type_of_class 0) c.requires.named in
    carried p g.M.Memory.choose x c.fault.new.self (put_field_effect o (used.OfField c.args.f c.args.named) (seen p x)) (faulty n)
    (put_field-named o c.args.f c.args.named t (seen p x) at
    ∙ object-told o x.areas.store (stack_of x) n c.in-Some.cell c.in-Some.head t false
    (λ l. acting (n + 1) (Put (OfOperand n) slot own (OfOperand (n - 1)) ∷ []))
    (subst (λ n. Seen o x.areas.store (stack_of x) n c.in-Some.cell c.in-Some.head) many it) c.if-fits.ensures)
    (c.fault.ensures c.requires.can.runnable g.M.Memory.choose (OfOperand n)
    (ap cell_of (subst (λ n. word_at (stack_of x) n ≡ value.Ref c.in-Some.cell) many it.word)))
