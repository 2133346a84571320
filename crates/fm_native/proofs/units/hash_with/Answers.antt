use Rattle.std.proofs.Common.{◌≡◌, pos, ◌+ℤ◌, ◌*ℤ◌, ap, ◌∙◌, arith, w32, w64, to_z, of_z}
use Rattle.std.proofs.lemmas.Int.{ints, to_z-of_z}
use Rattle.fm_alu.specs.TwosComplement.{signed}
use Rattle.fm_native.proofs.units.hash_with.Goals as goal

pub returns : goal.returns
returns c =
    let sum : to_z w64 (of_z w64 c.from.result) ≡ c.args.sum = grind (arith, ints, to_z-of_z) in
    let unit : to_z w64 (of_z w64 c.from-2.result) ≡ pos c.args.unit = grind (arith, ints, to_z-of_z) in
    let times : to_z w64 (of_z w64 (pos 31 *ℤ c.args.sum)) ≡ pos 31 *ℤ c.args.sum = grind (arith, ints, to_z-of_z) in
    let all : to_z w64 (of_z w64 (pos 31 *ℤ c.args.sum +ℤ pos c.args.unit)) ≡ (pos 31 *ℤ c.args.sum +ℤ pos c.args.unit) = grind (arith, ints, to_z-of_z) in
    let result : to_z w32 (of_z w32 (to_z w64 (of_z w64 c.convert.result))) ≡ c.convert.result = grind (arith, ints, to_z-of_z) in
    result ∙ c.convert.ensures.value
    ∙ (λ i. signed 32 (to_z w64 (of_z w64 (to_z w64 (of_z w64 (pos 31 *ℤ sum i)) +ℤ unit i))))
    ∙ (λ i. signed 32 (to_z w64 (of_z w64 (times i +ℤ pos c.args.unit)))) ∙ ap (signed 32) all
