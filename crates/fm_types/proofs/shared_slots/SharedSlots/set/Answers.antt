use Rattle.std.proofs.Common.{◌∙◌, ap, length, List, set, take, arith}
use Rattle.std.proofs.Math.Seq.{take-set-lt}
use Rattle.std.proofs.lemmas.List.{length-take-le}
use Rattle.fm_types.specs.declared.slots.Slot.{Slot}
use Rattle.fm_types.specs.inner.Pieces.{in_one}
use Rattle.fm_types.proofs.shared_slots.SharedSlots.set.Goals as goal

pub put-requires-clause-number : goal.put-requires-clause-number
put-requires-clause-number c =
    let size = length-take-le c.self.inside.len (in_one c.self.inside.pieces.items) c.self.invariant.1 in
    let seen = ap length c.self.view_is in
    omega (arith, size, seen, c.requires, c.self.invariant.1)

pub invariant_of-self-2 : goal.invariant_of-self-2
invariant_of-self-2 c = (c.in_ok-put.ensures.even, omega (arith, c.self.invariant.1, c.in_ok-put.ensures.size))

pub returns : goal.returns
returns c =
    let xs = in_one c.self.inside.pieces.items in
    let size = length-take-le c.self.inside.len xs c.self.invariant.1 in
    let seen = ap length c.self.view_is in
    ap (take c.self.inside.len) c.in_ok-put.ensures.slots
    ∙ take-set-lt c.self.inside.len xs c.args.number c.args.slot (omega (arith, size, seen, c.requires))
    ∙ ap (λ (ys : List Slot). set ys c.args.number c.args.slot) c.self.view_is
