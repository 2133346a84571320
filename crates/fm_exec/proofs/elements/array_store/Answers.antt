use Rattle.std.proofs.Common.{◌≡◌, ◌+◌, ◌-◌, [], ◌∷◌, codes, true, false, Some, None, ap, sym, ◌∙◌, subst, rules}
use Rattle.fm_exec.proofs.ElementSteps.{element-faulty, element-inside, element-outside, element-stuck, outside, place_in, put-kind, store-is, store_held}
use Rattle.fm_exec.proofs.Exceptions.{index-is}
use Rattle.fm_exec.proofs.HeldSteps.{object-found}
use Rattle.fm_exec.proofs.Seen.{carried}
use Rattle.fm_exec.proofs.elements.array_store.Goals as goal
use Rattle.fm_exec.specs.Steps.{seen, Steps}
use Rattle.fm_frames.proofs.Throwing.{told-ok}
use Rattle.fm_frames.specs.Acts.{cell_of}
use Rattle.fm_frames.specs.ArrayRows.{array_store_effect, element_kind, put_element}
use Rattle.fm_frames.specs.Effects.{OfOperand, Put, acting, faulty, stuck}
use Rattle.fm_frames.specs.Sights.{type_numbered}
use Rattle.fm_frames.specs.States.{ref, word_at}
use Rattle.fm_frames.specs.Steps.{stack_of}
use Rattle.fm_frames.specs.inner.Doings.{DoesIn}
use Rattle.fm_frames.specs.inner.Places.{FitsIn}
use Rattle.fm_types.specs.ArrayRows.{is_array_of}

pub returns-in_default : goal.returns-in_default
returns-in_default g c =
    let p = c.args.program.now in
    let x = c.args.machine.now in
    told-ok c.refuse.result _ _
    (subst (λ e. Steps p g.M.Memory.choose x c.refuse.new.machine e) (sym (store-is p.outline c.args.e (seen p x) c.words-words.result c.words-words.ensures.value c.requires.number)))
    (c.refuse.ensures (sym c.in_default.ensures.value) (store_held p.outline c.args.e (seen p x) c.words-words.result))

pub returns-then-not-array : goal.returns-then-not-array
returns-then-not-array g c =
    let p = c.args.program.now in
    let o = p.outline in
    let x = c.args.machine.now in
    let it = object-found o x.areas.store (stack_of x) (c.words-words.result + 1) c.in-Some.cell c.in-Some.head c.in-Some.ensures.value in
    let told : false ≡ is_array_of c.args.e c.type_in-t.result = search rules in
    carried p g.M.Memory.choose x c.fault.new.self (array_store_effect o c.args.e (seen p x)) (faulty (c.words-words.result + 1))
    (store-is o c.args.e (seen p x) c.words-words.result c.words-words.ensures.value c.requires.number
    ∙ element-faulty o x.areas.store (stack_of x) c.args.e c.words-words.result c.in-Some.cell c.in-Some.head (put_element c.words-words.result) it (told ∙ ap (is_array_of c.args.e) c.type_in-t.ensures.value))
    (c.fault.ensures c.requires.can.runnable g.M.Memory.choose (OfOperand (c.words-words.result + 1)) (ap cell_of it.word))

pub returns-in_default-int_operand : goal.returns-in_default-int_operand
returns-in_default-int_operand g c =
    let p = c.args.program.now in
    let o = p.outline in
    let x = c.args.machine.now in
    let it = object-found o x.areas.store (stack_of x) (c.words-words.result + 1) c.in-Some.cell c.in-Some.head c.in-Some.ensures.value in
    let told : true ≡ is_array_of c.args.e c.type_in-t.result = search rules in
    carried p g.M.Memory.choose x c.stuck.new.self (array_store_effect o c.args.e (seen p x)) stuck
    (store-is o c.args.e (seen p x) c.words-words.result c.words-words.ensures.value c.requires.number
    ∙ element-stuck o x.areas.store (stack_of x) c.args.e c.words-words.result c.in-Some.cell c.in-Some.head (put_element c.words-words.result) it (told ∙ ap (is_array_of c.args.e) c.type_in-t.ensures.value)
    c.in_default-int_operand.ensures)
    (c.stuck.ensures c.requires.can.runnable g.M.Memory.choose)

pub returns-in_default-place_in : goal.returns-in_default-place_in
returns-in_default-place_in g c =
    let p = c.args.program.now in
    let o = p.outline in
    let x = c.args.machine.now in
    let it = object-found o x.areas.store (stack_of x) (c.words-words.result + 1) c.in-Some.cell c.in-Some.head c.in-Some.ensures.value in
    let told : true ≡ is_array_of c.args.e c.type_in-t.result = search rules in
    let out : place_in c.in-Some.head.len c.in-Some-int_operand.index ≡ None = search rules in
    told-ok c.throw_new.result _ _
    (λ thrown.
    carried p g.M.Memory.choose x c.throw_new.new.self (array_store_effect o c.args.e (seen p x)) (outside o)
    (store-is o c.args.e (seen p x) c.words-words.result c.words-words.ensures.value c.requires.number
    ∙ element-outside o x.areas.store (stack_of x) c.args.e c.words-words.result c.in-Some.cell c.in-Some.head c.in-Some-int_operand.index (put_element c.words-words.result) it
    (told ∙ ap (is_array_of c.args.e) c.type_in-t.ensures.value) c.in-Some-int_operand.ensures out)
    (thrown (codes "java/lang/ArrayIndexOutOfBoundsException") (index-is p c.requires.can.runnable)))
    c.throw_new.ensures

pub put-requires-clause-fits : goal.put-requires-clause-fits
put-requires-clause-fits g c =
    let o = c.args.program.now.outline in
    let x = c.args.machine.now in
    let w = c.words-words.result in
    let many = c.words-words.ensures.value in
    let it = object-found o x.areas.store (stack_of x) (w + 1) c.in-Some.cell c.in-Some.head c.in-Some.ensures.value in
    let told : true ≡ is_array_of c.args.e c.type_in-t.result = search rules in
    let kind_is = c.element_kind.ensures ∙ ap element_kind c.type_in-t.ensures.value in
    subst (λ v. FitsIn x.areas.store c.in-Some.cell.0 c.element_kind.result v) (sym c.word-value.ensures)
    (subst (λ k. FitsIn x.areas.store c.in-Some.cell.0 k (word_at (stack_of x) (w - 1)))
    (sym (kind_is ∙ sym (λ i. element_kind (type_numbered o (it.head_is i).class))))
    (subst (λ n. FitsIn x.areas.store c.in-Some.cell.0 (element_kind (type_numbered o it.object.class)) (word_at (stack_of x) (n - 1))) (sym many)
    (c.requires.takes c.in-Some.cell.0 it.object (subst (λ n. word_at (stack_of x) (n + 1) ≡ ref c.in-Some.cell.0) many it.word, it.held)
    ((λ i. is_array_of c.args.e (type_numbered o (it.head_is i).class)) ∙ sym (told ∙ ap (is_array_of c.args.e) c.type_in-t.ensures.value)))))

pub returns : goal.returns
returns g c =
    let p = c.args.program.now in
    let o = p.outline in
    let x = c.args.machine.now in
    let w = c.words-words.result in
    let place = c.in-Some-place_in.place in
    let own = element_kind (type_numbered o c.in-Some.head.class) in
    let it = object-found o x.areas.store (stack_of x) (w + 1) c.in-Some.cell c.in-Some.head c.in-Some.ensures.value in
    let told : true ≡ is_array_of c.args.e c.type_in-t.result = search rules in
    let there : place_in c.in-Some.head.len c.in-Some-int_operand.index ≡ Some c.in-Some-place_in.place = search rules in
    let kind_is = c.element_kind.ensures ∙ ap element_kind c.type_in-t.ensures.value in
    carried p g.M.Memory.choose x c.put.new.self (array_store_effect o c.args.e (seen p x))
    (acting (w + 2) (Put (OfOperand (w + 1)) place own (OfOperand (w - 1)) ∷ []))
    (store-is o c.args.e (seen p x) w c.words-words.ensures.value c.requires.number
    ∙ element-inside o x.areas.store (stack_of x) c.args.e w c.in-Some.cell c.in-Some.head c.in-Some-int_operand.index place (put_element w) it
    (told ∙ ap (is_array_of c.args.e) c.type_in-t.ensures.value) c.in-Some-int_operand.ensures there
    ∙ put-kind o x.areas.store (stack_of x) (w + 1) c.in-Some.cell c.in-Some.head w place it)
    (subst (λ k. DoesIn p g.M.Memory.choose x c.put.new.self (acting (w + 2) (Put (OfOperand (w + 1)) place k (OfOperand (w - 1)) ∷ []))) kind_is
    (c.put.ensures (OfOperand (w + 1)) (OfOperand (w - 1)) it.word (sym c.word-value.ensures) p g.M.Memory.choose))
