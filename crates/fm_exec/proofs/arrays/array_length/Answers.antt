use Rattle.std.proofs.Common.{◌<◌, ◌^◌, true, false, nat_lt, ap, sym, ◌∙◌, subst, rules}
use Rattle.fm_base.specs.declared.kinds.TypeRef.{TypeRef}
use Rattle.fm_cells.specs.declared.answers.Head.{Head}
use Rattle.fm_exec.proofs.ArraySteps.{length-is, length-told, length_of}
use Rattle.fm_exec.proofs.HeldSteps.{object-found}
use Rattle.fm_exec.proofs.PlainSteps.{gave}
use Rattle.fm_exec.proofs.Seen.{carried}
use Rattle.fm_exec.proofs.arrays.array_length.Goals as goal
use Rattle.fm_exec.specs.Steps.{seen, Steps}
use Rattle.fm_frames.proofs.Throwing.{told-ok}
use Rattle.fm_frames.specs.Acts.{cell_of}
use Rattle.fm_frames.specs.ArrayRows.{length_effect}
use Rattle.fm_frames.specs.Effects.{OfOperand, faulty, int_word, words}
use Rattle.fm_frames.specs.Sights.{type_numbered}
use Rattle.fm_frames.specs.Steps.{stack_of}
use Rattle.fm_frames.specs.declared.values.Value.TheVariants as value

pub returns-in_default : goal.returns-in_default
returns-in_default g c =
    let p = c.args.program.now in
    let x = c.args.machine.now in
    told-ok c.refuse.result _ _
    (subst (λ e. Steps p g.M.Memory.choose x c.refuse.new.machine e) (sym (length-is p.outline (seen p x))))
    (c.refuse.ensures (sym c.in_default.ensures.value) length_of)

pub int_of-requires : goal.int_of-requires
int_of-requires g c =
    let o = c.args.program.now.outline in
    let x = c.args.machine.now in
    let it = object-found o x.areas.store (stack_of x) 0 c.in-Some.cell c.in-Some.head c.in-Some.ensures.value in
    let told = c.if-array.ensures ∙ ap (λ (t : TypeRef). nat_lt 0 t.dims) c.type_in.ensures.value in
    subst (λ n. n < 2 ^ 31) (ap (λ (h : Head). h.len) it.head_is)
    (c.requires.holds c.in-Some.cell.0 it.object (it.word, it.held)
    ((λ i. nat_lt 0 (type_numbered o (it.head_is i).class).dims) ∙ sym told))

pub returns-then-array : goal.returns-then-array
returns-then-array g c =
    let p = c.args.program.now in
    let o = p.outline in
    let x = c.args.machine.now in
    let it = object-found o x.areas.store (stack_of x) 0 c.in-Some.cell c.in-Some.head c.in-Some.ensures.value in
    told-ok c.give.result _ _
    (carried p g.M.Memory.choose x c.give.new.self (length_effect o (seen p x)) (words 1 (int_word c.int_of.result))
    (length-told o x.areas.store (stack_of x) c.in-Some.cell c.in-Some.head true it
    (c.if-array.ensures ∙ ap (λ (t : TypeRef). nat_lt 0 t.dims) c.type_in.ensures.value)
    ∙ ap (λ n. words 1 (int_word n)) (sym c.int_of.ensures)))
    (gave c.give.result p g.M.Memory.choose x c.give.new.self 1 (value.Int c.int_of.result) _ (search rules) c.give.ensures)

pub returns : goal.returns
returns g c =
    let p = c.args.program.now in
    let o = p.outline in
    let x = c.args.machine.now in
    let it = object-found o x.areas.store (stack_of x) 0 c.in-Some.cell c.in-Some.head c.in-Some.ensures.value in
    carried p g.M.Memory.choose x c.fault.new.self (length_effect o (seen p x)) (faulty 0)
    (length-told o x.areas.store (stack_of x) c.in-Some.cell c.in-Some.head false it
    (c.if-array.ensures ∙ ap (λ (t : TypeRef). nat_lt 0 t.dims) c.type_in.ensures.value))
    (c.fault.ensures c.requires.can.runnable g.M.Memory.choose (OfOperand 0) (ap cell_of it.word))
