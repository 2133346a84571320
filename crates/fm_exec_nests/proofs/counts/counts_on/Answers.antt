use Rattle.std.proofs.Common.{◌≡◌, suc, ◌-◌, ◌∷◌, [], ◌++◌, Some, slice_get, ap, ◌∙◌, sym, rules, arith}
use Rattle.fm_frames.specs.Steps.{stack_of}
use Rattle.fm_frames.specs.inner.Doings.{int_in}
use Rattle.fm_exec_nests.proofs.CountSteps.{next-int, prefixed}
use Rattle.fm_exec_nests.proofs.counts.counts_on.Goals as goal
use Rattle.fm_exec_nests.specs.inner.Counts.{ints_on}

pub loop-left-preserved : goal.loop-left-preserved
loop-left-preserved g c =
    let stack = stack_of c.args.machine.now in
    let below = c.loop-left.left - 1 in
    let is : Some c.in-Some.count ≡ int_in (slice_get stack below) = search rules in
    let some : c.loop-left.left ≡ suc below = omega (arith, c.loop-left-test.true) in
    let pushed : c.push.new.self.items ≡ c.loop-left.counts.items ++ c.in-Some.count ∷ [] = search rules in
    next-int stack c.loop-left.counts.items (ints_on stack c.args.dimensions) c.loop-left.left below c.in-Some.count some is c.loop-left.invariant
    ∙ ap (λ items. prefixed items (ints_on stack below)) (sym pushed)
