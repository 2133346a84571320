use Rattle.std.proofs.Common.{arith}
use Rattle.fm_place_weave.proofs.LengthLemmas.{items-few, number_by-is}
use Rattle.fm_place_weave.proofs.woven.woven_with.Goals as goal

pub woven_items-requires-clause-few : goal.woven_items-requires-clause-few
woven_items-requires-clause-few c =
    let some = items-few c.args.code.now c.args.plan.now in
    let count = number_by-is c.args.calls c.args.code.now c.args.plan.now in
    let few = c.requires.may.new_items.few in
    omega (arith, some, count, few)
