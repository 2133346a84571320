use Rattle.std.proofs.Common.{◌≡◌, Some, slice_get, ap, sym, ◌∙◌, arith, to_z, of_z, w64}
use Rattle.std.proofs.lemmas.Int.{ints, to_z-of_z}
use Rattle.fm_fast.proofs.FlowSteps.{long-found}
use Rattle.fm_fast.proofs.arrays.store_long.Goals as goal
use Rattle.fm_frames.specs.declared.values.Value.TheVariants as value
use Rattle.fm_frames.specs.inner.Frames.{stack_in}

pub put_element-requires-clause-value : goal.put_element-requires-clause-value
put_element-requires-clause-value g c =
    let same : to_z w64 (of_z w64 c.long_there-n.result) ≡ c.long_there-n.result = grind (arith, ints, to_z-of_z) in
    long-found (slice_get (stack_in c.args.frames.now) 1) c.long_there-n.result c.long_there-n.ensures ∙ ap (λ n. Some (value.Long n)) (sym same)
