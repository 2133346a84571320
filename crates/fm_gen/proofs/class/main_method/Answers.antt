use Rattle.std.proofs.Common.{◌≡◌, ◌∙◌, ap, arith, length}
use Rattle.fm_gen.proofs.LoopLemmas.{main_short}
use Rattle.fm_gen.specs.Made.{main_insns}
use Rattle.fm_gen.proofs.class.main_method.Goals as goal

pub code_with-requires : goal.code_with-requires
code_with-requires c =
    let same : length c.as_slice.result.now ≡ length (main_insns c.args.n) = ap length (c.as_slice.ensures.value ∙ c.in_ok-insns.ensures) in
    omega (arith, same, main_short c.args.n, c.requires)
