use Rattle.std.proofs.Common.{◌∙◌, ap, sym, length, take, arith}
use Rattle.std.proofs.lemmas.List.{length-take-le}
use Rattle.fm_types.proofs.PieceLemmas.{take_twice}
use Rattle.fm_types.specs.inner.Pieces.{in_one}
use Rattle.fm_types.proofs.shared_slots.SharedSlots.truncate.Goals as goal

pub invariant_of-self : goal.invariant_of-self
invariant_of-self c =
    let size = length-take-le c.self.inside.len (in_one c.self.inside.pieces.items) c.self.invariant.1 in
    let seen = ap length c.self.view_is in
    (c.self.invariant.0, omega (arith, size, seen, c.requires, c.self.invariant.1))

pub returns : goal.returns
returns c =
    let xs = in_one c.self.inside.pieces.items in
    let size = length-take-le c.self.inside.len xs c.self.invariant.1 in
    let seen = ap length c.self.view_is in
    sym (take_twice c.args.count c.self.inside.len xs (omega (arith, size, seen, c.requires))) ∙ ap (take c.args.count) c.self.view_is
