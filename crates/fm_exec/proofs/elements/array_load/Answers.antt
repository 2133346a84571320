use Rattle.std.proofs.Common.{◌≡◌, codes, true, false, Some, None, refl, ap, sym, ◌∙◌, subst, rules}
use Rattle.fm_exec.proofs.ElementSteps.{element-faulty, element-inside, element-outside, element-stuck, load-is, load-kind, load_held, load_of, outside, place_in}
use Rattle.fm_exec.proofs.Exceptions.{index-is}
use Rattle.fm_exec.proofs.FieldSteps.{place-source}
use Rattle.fm_exec.proofs.HeldSteps.{object-found}
use Rattle.fm_exec.proofs.Seen.{carried}
use Rattle.fm_exec.proofs.elements.array_load.Goals as goal
use Rattle.fm_exec.specs.Steps.{seen, Steps}
use Rattle.fm_frames.proofs.Throwing.{told-ok}
use Rattle.fm_frames.specs.Acts.{cell_of}
use Rattle.fm_frames.specs.ArrayRows.{array_load_effect, element_kind}
use Rattle.fm_frames.specs.Effects.{OfOperand, OfPlace, faulty, loaded, stuck, words}
use Rattle.fm_frames.specs.Sights.{type_numbered}
use Rattle.fm_frames.specs.Steps.{stack_of}
use Rattle.fm_frames.specs.inner.Doings.{DoesIn}
use Rattle.fm_frames.specs.inner.Places.{element_at, IsOfKind}
use Rattle.fm_types.specs.ArrayRows.{is_array_of}

pub returns-in_default : goal.returns-in_default
returns-in_default g c =
    let p = c.args.program.now in
    let x = c.args.machine.now in
    told-ok c.refuse.result _ _
    (subst (λ e. Steps p g.M.Memory.choose x c.refuse.new.machine e) (sym (load-is p.outline c.args.e (seen p x))))
    (c.refuse.ensures (sym c.in_default.ensures.value) (load_held p.outline c.args.e (seen p x)))

pub returns-then-not-array : goal.returns-then-not-array
returns-then-not-array g c =
    let p = c.args.program.now in
    let o = p.outline in
    let x = c.args.machine.now in
    let it = object-found o x.areas.store (stack_of x) 1 c.in-Some.cell c.in-Some.head c.in-Some.ensures.value in
    let told : false ≡ is_array_of c.args.e c.type_in-t.result = search rules in
    carried p g.M.Memory.choose x c.fault.new.self (array_load_effect o c.args.e (seen p x)) (faulty 1)
    (load-is o c.args.e (seen p x)
    ∙ element-faulty o x.areas.store (stack_of x) c.args.e 0 c.in-Some.cell c.in-Some.head load_of it (told ∙ ap (is_array_of c.args.e) c.type_in-t.ensures.value))
    (c.fault.ensures c.requires.can.runnable g.M.Memory.choose (OfOperand 1) (ap cell_of it.word))

pub returns-in_default-int_operand : goal.returns-in_default-int_operand
returns-in_default-int_operand g c =
    let p = c.args.program.now in
    let o = p.outline in
    let x = c.args.machine.now in
    let it = object-found o x.areas.store (stack_of x) 1 c.in-Some.cell c.in-Some.head c.in-Some.ensures.value in
    let told : true ≡ is_array_of c.args.e c.type_in-t.result = search rules in
    carried p g.M.Memory.choose x c.stuck.new.self (array_load_effect o c.args.e (seen p x)) stuck
    (load-is o c.args.e (seen p x)
    ∙ element-stuck o x.areas.store (stack_of x) c.args.e 0 c.in-Some.cell c.in-Some.head load_of it (told ∙ ap (is_array_of c.args.e) c.type_in-t.ensures.value)
    c.in_default-int_operand.ensures)
    (c.stuck.ensures c.requires.can.runnable g.M.Memory.choose)

pub returns-in_default-place_in : goal.returns-in_default-place_in
returns-in_default-place_in g c =
    let p = c.args.program.now in
    let o = p.outline in
    let x = c.args.machine.now in
    let it = object-found o x.areas.store (stack_of x) 1 c.in-Some.cell c.in-Some.head c.in-Some.ensures.value in
    let told : true ≡ is_array_of c.args.e c.type_in-t.result = search rules in
    let out : place_in c.in-Some.head.len c.in-Some-int_operand.index ≡ None = search rules in
    told-ok c.throw_new.result _ _
    (λ thrown.
    carried p g.M.Memory.choose x c.throw_new.new.self (array_load_effect o c.args.e (seen p x)) (outside o)
    (load-is o c.args.e (seen p x)
    ∙ element-outside o x.areas.store (stack_of x) c.args.e 0 c.in-Some.cell c.in-Some.head c.in-Some-int_operand.index load_of it
    (told ∙ ap (is_array_of c.args.e) c.type_in-t.ensures.value) c.in-Some-int_operand.ensures out)
    (thrown (codes "java/lang/ArrayIndexOutOfBoundsException") (index-is p c.requires.can.runnable)))
    c.throw_new.ensures

pub place-value-requires : goal.place-value-requires
place-value-requires g c =
    let o = c.args.program.now.outline in
    let x = c.args.machine.now in
    let it = object-found o x.areas.store (stack_of x) 1 c.in-Some.cell c.in-Some.head c.in-Some.ensures.value in
    let told : true ≡ is_array_of c.args.e c.type_in-t.result = search rules in
    let n = element_at x.areas.store c.in-Some.cell.0 c.in-Some-place_in.place in
    let kind_is = c.element_kind-kind.ensures ∙ ap element_kind c.type_in-t.ensures.value in
    subst (λ k. IsOfKind k n) (sym (kind_is ∙ sym (λ i. element_kind (type_numbered o (it.head_is i).class))))
    (c.requires.holds c.in-Some.cell.0 c.in-Some-place_in.place it.object (it.word, it.held)
    ((λ i. is_array_of c.args.e (type_numbered o (it.head_is i).class)) ∙ sym (told ∙ ap (is_array_of c.args.e) c.type_in-t.ensures.value)))

pub returns : goal.returns
returns g c =
    let p = c.args.program.now in
    let o = p.outline in
    let x = c.args.machine.now in
    let place = c.in-Some-place_in.place in
    let own = element_kind (type_numbered o c.in-Some.head.class) in
    let it = object-found o x.areas.store (stack_of x) 1 c.in-Some.cell c.in-Some.head c.in-Some.ensures.value in
    let told : true ≡ is_array_of c.args.e c.type_in-t.result = search rules in
    let there : place_in c.in-Some.head.len c.in-Some-int_operand.index ≡ Some c.in-Some-place_in.place = search rules in
    let kind_is = c.element_kind-kind.ensures ∙ ap element_kind c.type_in-t.ensures.value in
    told-ok c.give.result _ _
    (λ given.
    carried p g.M.Memory.choose x c.give.new.machine (array_load_effect o c.args.e (seen p x)) (words 2 (loaded own (OfPlace 1 place own)))
    (load-is o c.args.e (seen p x)
    ∙ element-inside o x.areas.store (stack_of x) c.args.e 0 c.in-Some.cell c.in-Some.head c.in-Some-int_operand.index place load_of it
    (told ∙ ap (is_array_of c.args.e) c.type_in-t.ensures.value) c.in-Some-int_operand.ensures there
    ∙ load-kind o x.areas.store (stack_of x) 1 c.in-Some.cell c.in-Some.head place it)
    (subst (λ k. DoesIn p g.M.Memory.choose x c.give.new.machine (words 2 (loaded k (OfPlace 1 place own)))) kind_is
    (given (OfPlace 1 place own)
    (place-source x 1 c.in-Some.cell.0 place place c.element_kind-kind.result own it.word refl kind_is ∙ sym c.place-value.ensures) p g.M.Memory.choose)))
    c.give.ensures
