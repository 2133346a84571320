use Rattle.std.proofs.Common.{◌≡◌, Some, slice_get, ap, sym, ◌∙◌, arith, to_z, of_z, w64}
use Rattle.std.proofs.lemmas.Int.{ints, to_z-of_z}
use Rattle.fm_fast.proofs.FlowSteps.{long-found, stored-wide, word-on}
use Rattle.fm_fast.proofs.locals.store_long.Goals as goal
use Rattle.fm_frames.specs.Effects.{OfOperand}
use Rattle.fm_frames.specs.NumberRows.{store_effect}
use Rattle.fm_frames.specs.declared.values.Value.TheVariants as value
use Rattle.fm_frames.specs.inner.Frames.{stack_in}

pub returns-clause-did : goal.returns-clause-did
unfolding store_effect
returns-clause-did c told p choose x =
    let old = c.args.frames.now in
    let n = c.long_there-n.result in
    let same : to_z w64 (of_z w64 n) ≡ n = grind (arith, ints, to_z-of_z) in
    stored-wide p choose x old c.put_wide_local.new.frames 2 c.args.place _ (OfOperand 1) c.requires.fits c.put_wide_local.ensures
    (word-on x old 1 _ (sym (long-found (slice_get (stack_in old) 1) n c.long_there-n.ensures ∙ ap (λ n. Some (value.Long n)) (sym same))))
