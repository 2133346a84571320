use Rattle.std.proofs.Common.{◌≡◌, ◌∙◌, ap, arith, length}
use Rattle.fm_gen.proofs.LoopLemmas.{f_short}
use Rattle.fm_gen.specs.Made.{f_insns}
use Rattle.fm_gen.proofs.class.f_method.Goals as goal

pub code_with-requires : goal.code_with-requires
code_with-requires c =
    let same : length c.as_slice.result.now ≡ length (f_insns c.args.i) = ap length (c.as_slice.ensures.value ∙ c.in_ok-insns.ensures) in
    omega (arith, same, f_short c.args.i)
