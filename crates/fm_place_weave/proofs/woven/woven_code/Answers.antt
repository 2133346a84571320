use Rattle.std.proofs.Common.{arith}
use Rattle.fm_place_weave.proofs.LengthLemmas.{number_by-is}
use Rattle.fm_place_weave.proofs.woven.woven_code.Goals as goal

pub anchors_of-requires-clause-number : goal.anchors_of-requires-clause-number
anchors_of-requires-clause-number c =
    let count = number_by-is c.args.calls c.args.code.now c.args.plan.now in
    let few = c.requires.new_items.few in
    omega (arith, count, few)
