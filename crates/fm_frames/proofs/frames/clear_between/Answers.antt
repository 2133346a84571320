use Rattle.std.proofs.Common.{◌∙◌, ◌+◌, ap, length, take, arith}
use Rattle.std.proofs.lemmas.List.{length-set, take-set-le}
use Rattle.fm_frames.proofs.FrameValues.{cleared-next}
use Rattle.fm_frames.proofs.frames.clear_between.Goals as goal
use Rattle.fm_frames.specs.declared.values.Value.TheVariants as value

pub loop-place-preserved : goal.loop-place-preserved
loop-place-preserved c =
    let kept = c.loop-place.invariant in (
      omega arith,
      ap length c.clear.ensures ∙ length-set c.loop-place.values c.loop-place.place value.Top ∙ kept.1,
      ap (take c.args.start) c.clear.ensures ∙ take-set-le c.args.start c.loop-place.values c.loop-place.place value.Top kept.0 ∙ kept.2,
      ap (take (c.loop-place.place + 1)) c.clear.ensures
          ∙ cleared-next c.loop-place.values (take c.args.start c.args.values.now) c.args.start c.loop-place.place (omega arith) kept.0 kept.3,
    )
