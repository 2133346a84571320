use Rattle.std.proofs.Common.{◌≡◌, ◌∙◌, ap, arith, length}
use Rattle.fm_gen.proofs.LoopLemmas.{g_short}
use Rattle.fm_gen.specs.Made.{g_insns}
use Rattle.fm_gen.proofs.class.g_method.Goals as goal

pub code_with-requires : goal.code_with-requires
code_with-requires c =
    let same : length c.as_slice.result.now ≡ length (g_insns c.args.j) = ap length (c.as_slice.ensures.value ∙ c.in_ok-insns.ensures) in
    omega (arith, same, g_short c.args.j)
