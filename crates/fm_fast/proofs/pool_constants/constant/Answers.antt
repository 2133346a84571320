use Rattle.std.proofs.Common.{◌≡◌, ap, sym, ◌∙◌, arith, to_z, of_z, w32, w64}
use Rattle.std.proofs.lemmas.Int.{ints, to_z-of_z}
use Rattle.fm_exec.proofs.Seen.{carried}
use Rattle.fm_fast.specs.Flows.{on, stepped_on}
use Rattle.fm_fast.proofs.pool_constants.constant.Goals as goal
use Rattle.fm_frames.specs.Effects.{int_word, long_words, words}
use Rattle.fm_frames.specs.NumberRows.{constant_effect}

pub returns-in-OfInt-clause-did : goal.returns-in-OfInt-clause-did
unfolding constant_effect
returns-in-OfInt-clause-did c told p choose x =
    let same : to_z w32 (of_z w32 c.in-OfInt.n) ≡ c.in-OfInt.n = grind (arith, ints, to_z-of_z) in
    carried p choose (on x c.args.frames.now) (stepped_on x c.int_constant.new.frames) (constant_effect p.outline c.args.named)
    (words 0 (int_word (to_z w32 (of_z w32 c.in-OfInt.n)))) (ap (constant_effect p.outline) c.in-OfInt.is ∙ ap (λ n. words 0 (int_word n)) (sym same)) (c.int_constant.ensures.did told p choose x)

pub returns-in-OfLong-clause-did : goal.returns-in-OfLong-clause-did
unfolding constant_effect
returns-in-OfLong-clause-did c told p choose x =
    let same : to_z w64 (of_z w64 c.in-OfLong.n) ≡ c.in-OfLong.n = grind (arith, ints, to_z-of_z) in
    carried p choose (on x c.args.frames.now) (stepped_on x c.long_constant.new.frames) (constant_effect p.outline c.args.named)
    (words 0 (long_words (to_z w64 (of_z w64 c.in-OfLong.n)))) (ap (constant_effect p.outline) c.in-OfLong.is ∙ ap (λ n. words 0 (long_words n)) (sym same)) (c.long_constant.ensures.did told p choose x)
