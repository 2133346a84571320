use Rattle.std.proofs.Common.{◌≡◌, sym, ◌∙◌, arith, w32, to_z, of_z}
use Rattle.std.proofs.lemmas.Int.{ints, to_z-of_z}
use Rattle.fm_native.proofs.Lists.{compared-rest}
use Rattle.fm_native.proofs.units.compare_units.Goals as goal

pub returns : goal.returns
returns c =
    let same : to_z w32 (of_z w32 c.difference.result) ≡ c.difference.result = grind (arith, ints, to_z-of_z) in
    same ∙ c.difference.ensures
    ∙ sym (compared-rest c.args.units.now c.args.others.now c.loop-place.place (omega (arith, c.min-shared.ensures)) (omega (arith, c.min-shared.ensures))
    (omega (arith, c.min-shared.ensures)))
    ∙ c.loop-place.invariant
