use Rattle.std.proofs.Common.{◌≡◌, suc, ◌+◌, ◌*◌, min, None, Some, slice_get, ap, ◌∙◌, rules, arith}
use Rattle.fm_frames.specs.Steps.{most_words, stack_of}
use Rattle.fm_frames.specs.inner.Doings.{int_in}
use Rattle.fm_exec.proofs.ArraySteps.{len_of}
use Rattle.fm_exec_nests.proofs.CountSums.{arrays-next, arrays-none, negative-counted, none-counted, told}
use Rattle.fm_exec_nests.proofs.costs.arrays_on.Goals as goal
use Rattle.fm_exec_nests.specs.inner.Counts.{arrays_on}

pub returns-in_err-count : goal.returns-in_err-count
returns-in_err-count g c =
    let none : None ≡ int_in (slice_get (stack_of c.args.machine.now) c.loop-place.place) = search rules in
    let answer : c.from_residual.result ≡ None = search rules in
    answer ∙ arrays-none (stack_of c.args.machine.now) c.loop-place.place c.args.dimensions c.loop-place-test.true
    (none-counted (stack_of c.args.machine.now) c.loop-place.place none)

pub returns-in_err-len : goal.returns-in_err-len
returns-in_err-len g c =
    let is : Some c.in_ok-count.count ≡ int_in (slice_get (stack_of c.args.machine.now) c.loop-place.place) = search rules in
    let none : None ≡ len_of c.in_ok-count.count = search rules in
    let answer : c.from_residual-in_err-len.result ≡ None = search rules in
    answer ∙ arrays-none (stack_of c.args.machine.now) c.loop-place.place c.args.dimensions c.loop-place-test.true
    (negative-counted (stack_of c.args.machine.now) c.loop-place.place c.in_ok-count.count is none)

pub loop-place-preserved : goal.loop-place-preserved
loop-place-preserved g c =
    let stack = stack_of c.args.machine.now in
    let is : Some c.in_ok-count.count ≡ int_in (slice_get stack c.loop-place.place) = search rules in
    let fits : Some c.in_ok-len.len ≡ len_of c.in_ok-count.count = search rules in
    let product : c.saturating_mul.result ≡ min (c.loop-place.made * c.in_ok-len.len) most_words = search rules in
    let sum : c.saturating_add-made.result ≡ min (c.saturating_mul.result + 1) most_words = search rules in
    let next : suc c.loop-place.place ≡ c.loop-place.place + 1 = omega arith in
    ap Some sum ∙ ap (λ n. Some (min (n + 1) most_words)) product
    ∙ arrays-next stack c.loop-place.place c.loop-place.made c.in_ok-len.len c.in_ok-count.count is fits c.loop-place.invariant
    ∙ ap (λ n. told (arrays_on stack n)) next
