use Rattle.std.proofs.Common.{◌∙◌, ap, length, take, arith}
use Rattle.std.proofs.Math.Seq.{take-length}
use Rattle.fm_types.proofs.shared_slots.SharedSlots.of.Goals as goal

pub invariant_of-result : goal.invariant_of-result
invariant_of-result c = (c.in_ok-pieces.ensures.even, let size = ap length c.in_ok-pieces.ensures.slots in omega (arith, size))

pub returns : goal.returns
returns c = ap (take (length c.args.slots.now)) c.in_ok-pieces.ensures.slots ∙ take-length c.args.slots.now
