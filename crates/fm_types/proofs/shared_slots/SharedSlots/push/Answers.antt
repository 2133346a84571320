use Rattle.std.proofs.Common.{arith}
use Rattle.fm_types.proofs.PieceLemmas.{pushed_all, pushed_size}
use Rattle.fm_types.specs.inner.Pieces.{in_one}
use Rattle.fm_types.proofs.shared_slots.SharedSlots.push.Goals as goal

pub invariant_of-self-2 : goal.invariant_of-self-2
invariant_of-self-2 c =
    let size = pushed_size (in_one c.self.inside.pieces.items) (in_one c.put_after.new.pieces.items) c.self.inside.len c.args.slot c.self.invariant.1
    c.in_ok-more.ensures.slots in
    (c.in_ok-more.ensures.even, omega (arith, size, c.in_ok-more.ensures.more))

pub returns : goal.returns
returns c =
    pushed_all (in_one c.self.inside.pieces.items) (in_one c.put_after.new.pieces.items) c.args.self.now c.self.inside.len c.in_ok-more.more c.args.slot
    c.self.invariant.1 c.in_ok-more.ensures.more c.in_ok-more.ensures.slots c.self.view_is
