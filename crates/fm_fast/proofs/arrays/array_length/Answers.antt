use Rattle.std.proofs.Common.{◌≡◌, ◌<◌, ◌+◌, ◌^◌, true, nat_lt, ap, sym, ◌∙◌, subst, rules}
use Rattle.fm_base.specs.declared.kinds.TypeRef.{TypeRef}
use Rattle.fm_cells.specs.declared.answers.Head.{Head}
use Rattle.fm_exec.proofs.ArraySteps.{length-told}
use Rattle.fm_exec.proofs.Seen.{carried}
use Rattle.fm_fast.proofs.FlowSteps.{gave}
use Rattle.fm_fast.specs.Flows.{resumed}
use Rattle.fm_fast.proofs.CellSteps.{found-over}
use Rattle.fm_fast.proofs.arrays.array_length.Goals as goal
use Rattle.fm_frames.specs.ArrayRows.{length_effect}
use Rattle.fm_frames.specs.Effects.{Plain, int_word, words}
use Rattle.fm_frames.specs.Sights.{type_numbered}
use Rattle.fm_frames.specs.Steps.{stack_of}
use Rattle.fm_frames.specs.declared.values.Value.TheVariants as value
use Rattle.fm_frames.specs.inner.Doings.{seen}

pub int_of-requires : goal.int_of-requires
int_of-requires g c =
    let o = c.args.program.now.outline in
    let m = c.args.machine.now in
    let it = found-over o m c.args.frames.now m.steps 0 _ c.in-Some.head c.in-Some.ensures in
    let told : true ≡ nat_lt 0 c.type_in-t.result.dims = search rules in
    subst (λ n. n < 2 ^ 31) (ap (λ (h : Head). h.len) it.head_is)
    (c.requires.holds _ it.object (it.word, it.held)
    ((λ i. nat_lt 0 (type_numbered o (it.head_is i).class).dims) ∙ sym (told ∙ ap (λ (t : TypeRef). nat_lt 0 t.dims) c.type_in-t.ensures.value)))

pub returns-clause-did : goal.returns-clause-did
returns-clause-did g c said steps =
    let p = c.args.program.now in
    let o = p.outline in
    let m = c.args.machine.now in
    let x = resumed m c.args.frames.now steps in
    let y = resumed m c.give.new.frames (steps + 1) in
    let it = found-over o m c.args.frames.now steps 0 _ c.in-Some.head c.in-Some.ensures in
    let told : true ≡ nat_lt 0 c.type_in-t.result.dims = search rules in
    carried p g.M.Memory.choose x y (length_effect o (seen p x)) (words 1 (int_word c.int_of.result))
    (length-told o m.areas.store (stack_of x) _ c.in-Some.head true it (told ∙ ap (λ (t : TypeRef). nat_lt 0 t.dims) c.type_in-t.ensures.value)
    ∙ ap (λ n. words 1 (int_word n)) (sym c.int_of.ensures))
    (gave p g.M.Memory.choose (record m { steps = steps }) c.args.frames.now c.give.new.frames 1 _ (Plain (value.Int c.int_of.result)) c.requires.fits
    (c.give.ensures.did said) (search rules))
