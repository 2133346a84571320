use Rattle.std.proofs.Common.{◌≡◌, Some, slice_get, ap, sym, ◌∙◌, arith, to_z, of_z, w32}
use Rattle.std.proofs.lemmas.Int.{ints, to_z-of_z}
use Rattle.fm_fast.proofs.FlowSteps.{int-found}
use Rattle.fm_fast.proofs.CellSteps.{one-element-word}
use Rattle.fm_fast.proofs.arrays.store_of.Goals as goal
use Rattle.fm_frames.specs.declared.values.Value.TheVariants as value
use Rattle.fm_frames.specs.inner.Frames.{stack_in}

pub put_element-requires-clause-words : goal.put_element-requires-clause-words
put_element-requires-clause-words g c = one-element-word c.args.e c.requires.int

pub put_element-requires-clause-value : goal.put_element-requires-clause-value
put_element-requires-clause-value g c =
    let same : to_z w32 (of_z w32 c.int_there-n.result) ≡ c.int_there-n.result = grind (arith, ints, to_z-of_z) in
    int-found (slice_get (stack_in c.args.frames.now) 0) c.int_there-n.result c.int_there-n.ensures ∙ ap (λ n. Some (value.Int n)) (sym same)
