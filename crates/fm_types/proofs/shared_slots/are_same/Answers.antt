use Rattle.std.proofs.Common.{arith}
use Rattle.std.proofs.lemmas.List.{same_lists}
use Rattle.fm_types.proofs.shared_slots.are_same.Goals as goal

pub returns : goal.returns
returns c = λ is.
    same_lists c.args.slots.now c.args.others.now c.if-slots-others.false
    (λ k d inside. let all = c.loop-index-test.false in c.loop-index.invariant k d (omega (arith, inside, all)))
