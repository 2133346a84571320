use Rattle.std.proofs.Common.{◌≡◌, codes, true, false, Some, None, ap, sym, ◌∙◌, subst, rules}
use Rattle.fm_code.specs.declared.operations.Elem.TheVariants as elem
use Rattle.fm_exec.proofs.ElementSteps.{element-faulty, element-inside, element-outside, element-stuck, outside, place_in, reference-is, reference_held}
use Rattle.fm_exec.proofs.Exceptions.{index-is}
use Rattle.fm_exec.proofs.HeldSteps.{looks-type, object-found}
use Rattle.fm_exec.proofs.Seen.{carried}
use Rattle.fm_exec.proofs.elements.reference_store.Goals as goal
use Rattle.fm_exec.specs.Steps.{seen, Steps}
use Rattle.fm_frames.proofs.Throwing.{told-ok}
use Rattle.fm_frames.specs.Acts.{cell_of}
use Rattle.fm_frames.specs.ArrayRows.{array_store_effect, element_kind, put_reference}
use Rattle.fm_frames.specs.Effects.{OfOperand, faulty, stuck}
use Rattle.fm_frames.specs.Sights.{looks, type_numbered}
use Rattle.fm_frames.specs.States.{word_at}
use Rattle.fm_frames.specs.Steps.{stack_of}
use Rattle.fm_frames.specs.inner.Places.{FitsIn}
use Rattle.fm_types.specs.ArrayRows.{is_array_of}

pub returns-in_default : goal.returns-in_default
returns-in_default g c =
    let p = c.args.program.now in
    let x = c.args.machine.now in
    told-ok c.refuse.result _ _
    (subst (λ e. Steps p g.M.Memory.choose x c.refuse.new.machine e) (sym (reference-is p.outline (seen p x))))
    (c.refuse.ensures (sym c.in_default.ensures.value) (reference_held p.outline (seen p x)))

pub returns-then-not-array : goal.returns-then-not-array
returns-then-not-array g c =
    let p = c.args.program.now in
    let o = p.outline in
    let x = c.args.machine.now in
    let it = object-found o x.areas.store (stack_of x) 2 c.in-Some.cell c.in-Some.head c.in-Some.ensures.value in
    let told : false ≡ is_array_of elem.Ref c.type_in-t.result = search rules in
    carried p g.M.Memory.choose x c.fault.new.self (array_store_effect o elem.Ref (seen p x)) (faulty 2)
    (reference-is o (seen p x)
    ∙ element-faulty o x.areas.store (stack_of x) elem.Ref 1 c.in-Some.cell c.in-Some.head (put_reference o (seen p x)) it (told ∙ ap (is_array_of elem.Ref) c.type_in-t.ensures.value))
    (c.fault.ensures c.requires.can.runnable g.M.Memory.choose (OfOperand 2) (ap cell_of it.word))

pub returns-in_default-int_operand : goal.returns-in_default-int_operand
returns-in_default-int_operand g c =
    let p = c.args.program.now in
    let o = p.outline in
    let x = c.args.machine.now in
    let it = object-found o x.areas.store (stack_of x) 2 c.in-Some.cell c.in-Some.head c.in-Some.ensures.value in
    let told : true ≡ is_array_of elem.Ref c.type_in-t.result = search rules in
    carried p g.M.Memory.choose x c.stuck.new.self (array_store_effect o elem.Ref (seen p x)) stuck
    (reference-is o (seen p x)
    ∙ element-stuck o x.areas.store (stack_of x) elem.Ref 1 c.in-Some.cell c.in-Some.head (put_reference o (seen p x)) it (told ∙ ap (is_array_of elem.Ref) c.type_in-t.ensures.value)
    c.in_default-int_operand.ensures)
    (c.stuck.ensures c.requires.can.runnable g.M.Memory.choose)

pub returns-in_default-place_in : goal.returns-in_default-place_in
returns-in_default-place_in g c =
    let p = c.args.program.now in
    let o = p.outline in
    let x = c.args.machine.now in
    let it = object-found o x.areas.store (stack_of x) 2 c.in-Some.cell c.in-Some.head c.in-Some.ensures.value in
    let told : true ≡ is_array_of elem.Ref c.type_in-t.result = search rules in
    let out : place_in c.in-Some.head.len c.in-Some-int_operand.index ≡ None = search rules in
    told-ok c.throw_new.result _ _
    (λ thrown.
    carried p g.M.Memory.choose x c.throw_new.new.self (array_store_effect o elem.Ref (seen p x)) (outside o)
    (reference-is o (seen p x)
    ∙ element-outside o x.areas.store (stack_of x) elem.Ref 1 c.in-Some.cell c.in-Some.head c.in-Some-int_operand.index (put_reference o (seen p x)) it
    (told ∙ ap (is_array_of elem.Ref) c.type_in-t.ensures.value) c.in-Some-int_operand.ensures out)
    (thrown (codes "java/lang/ArrayIndexOutOfBoundsException") (index-is p c.requires.can.runnable)))
    c.throw_new.ensures

pub put_reference-requires-clause-fits : goal.put_reference-requires-clause-fits
put_reference-requires-clause-fits g c =
    let o = c.args.program.now.outline in
    let x = c.args.machine.now in
    let it = object-found o x.areas.store (stack_of x) 2 c.in-Some.cell c.in-Some.head c.in-Some.ensures.value in
    let told : true ≡ is_array_of elem.Ref c.type_in-t.result = search rules in
    subst (λ k. FitsIn x.areas.store c.in-Some.cell.0 k (word_at (stack_of x) 0))
    (sym (ap element_kind c.type_in-t.ensures.value ∙ sym (λ i. element_kind (type_numbered o (it.head_is i).class))))
    (c.requires.takes c.in-Some.cell.0 it.object (it.word, it.held)
    ((λ i. is_array_of elem.Ref (type_numbered o (it.head_is i).class)) ∙ sym (told ∙ ap (is_array_of elem.Ref) c.type_in-t.ensures.value)))

pub returns : goal.returns
returns g c =
    let p = c.args.program.now in
    let o = p.outline in
    let x = c.args.machine.now in
    let place = c.in-Some-place_in.place in
    let it = object-found o x.areas.store (stack_of x) 2 c.in-Some.cell c.in-Some.head c.in-Some.ensures.value in
    let told : true ≡ is_array_of elem.Ref c.type_in-t.result = search rules in
    let there : place_in c.in-Some.head.len c.in-Some-int_operand.index ≡ Some c.in-Some-place_in.place = search rules in
    told-ok c.put_reference.result _ _
    (subst (λ e. Steps p g.M.Memory.choose x c.put_reference.new.machine e)
    (sym (reference-is o (seen p x)
    ∙ element-inside o x.areas.store (stack_of x) elem.Ref 1 c.in-Some.cell c.in-Some.head c.in-Some-int_operand.index place (put_reference o (seen p x)) it
    (told ∙ ap (is_array_of elem.Ref) c.type_in-t.ensures.value) c.in-Some-int_operand.ensures there)))
    (c.put_reference.ensures (looks o x.areas.store it.object)
    (looks-type o x.areas.store it.object ∙ (λ i. type_numbered o (it.head_is i).class) ∙ sym c.type_in-t.ensures.value))
