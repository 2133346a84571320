use Rattle.std.proofs.Common.{◌≡◌, ◌∙◌, arith, w32, to_z, of_z}
use Rattle.std.proofs.lemmas.Int.{ints, to_z-of_z}
use Rattle.fm_alu.proofs.TwosComplementLemmas.{cast_signed-pos}
use Rattle.fm_native.proofs.objects.hash_of.Goals as goal

pub returns : goal.returns
returns c =
    let same : to_z w32 (of_z w32 c.cast_signed.result) ≡ c.cast_signed.result = grind (arith, ints, to_z-of_z) in
    same ∙ c.cast_signed.ensures ∙ cast_signed-pos w32 c.args.birth (omega arith)
