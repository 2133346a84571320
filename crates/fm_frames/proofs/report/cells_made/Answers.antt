use Rattle.std.proofs.Common.{◌≡◌, ℕ, ◌+◌, ◌<◌, ◌≤◌, List, length, take, get_or, ap, ◌∙◌, arith, take_all}
use Rattle.std.proofs.lemmas.List.Sums.{sum_by_more, sum_by_more_le}
use Rattle.std.specs.List.{sum, slice_index}
use Rattle.fm_frames.proofs.report.cells_made.Goals as goal

-- one more count, within the whole sum
one-more : (made : List ℕ) (k cells count : ℕ) → k < length made → cells ≡ sum (take k made) → count ≡ slice_index made k
    → (cells + count ≡ sum (take (k + 1) made)) × (cells + count ≤ sum made)
one-more made k cells count within before is =
    let read : count ≡ get_or made k 0 = is in
    let more = sum_by_more (λ x. x) made k 0 within in
    let le = sum_by_more_le (λ x. x) made k 0 within in
    (omega arith, omega arith)

pub overflow_add-cells : goal.overflow_add-cells
overflow_add-cells g c =
    let sound = c.births-births.ensures.sound in
    let step = one-more (g.M.Memory.store c.args.memory.now).made c.loop-size_class.size_class c.loop-size_class.cells c.made-cells.result
    (omega (arith, sound.classes)) c.loop-size_class.invariant c.made-cells.ensures in
    omega (arith, step.1, sound.made_within_births, sound.births_fit)

pub loop-size_class-preserved : goal.loop-size_class-preserved
loop-size_class-preserved g c =
    let sound = c.births-births.ensures.sound in
    (one-more (g.M.Memory.store c.args.memory.now).made c.loop-size_class.size_class c.loop-size_class.cells c.made-cells.result
    (omega (arith, sound.classes)) c.loop-size_class.invariant c.made-cells.ensures).0

pub returns : goal.returns
returns g c =
    let sound = c.births-births.ensures.sound in
    c.loop-size_class.invariant ∙ ap sum (take_all c.loop-size_class.size_class (g.M.Memory.store c.args.memory.now).made (omega (arith, sound.classes)))
