use Rattle.std.proofs.Common.{◌≡◌, Some, slice_get, ap, sym, ◌∙◌, arith, to_z, of_z, w32}
use Rattle.std.proofs.lemmas.Int.{ints, to_z-of_z}
use Rattle.fm_fast.proofs.FlowSteps.{int-found, stored, word-on}
use Rattle.fm_fast.proofs.locals.store_int.Goals as goal
use Rattle.fm_frames.specs.Effects.{OfOperand}
use Rattle.fm_frames.specs.NumberRows.{store_effect}
use Rattle.fm_frames.specs.declared.values.Value.TheVariants as value
use Rattle.fm_frames.specs.inner.Frames.{stack_in}

pub returns-clause-did : goal.returns-clause-did
unfolding store_effect
returns-clause-did c told p choose x =
    let old = c.args.frames.now in
    let n = c.int_there-n.result in
    let same : to_z w32 (of_z w32 n) ≡ n = grind (arith, ints, to_z-of_z) in
    stored p choose x old c.put_local.new.frames 1 c.args.place _ (OfOperand 0) c.requires.fits c.put_local.ensures
    (word-on x old 0 _ (sym (int-found (slice_get (stack_in old) 0) n c.int_there-n.ensures ∙ ap (λ n. Some (value.Int n)) (sym same))))
