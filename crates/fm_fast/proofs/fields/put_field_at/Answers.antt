use Rattle.std.proofs.Common.{◌≡◌, Some, slice_get, ap, sym, ◌∙◌, subst, arith, to_z, of_z, w32, w64}
use Rattle.std.proofs.lemmas.Int.{ints, to_z-of_z}
use Rattle.fm_fast.proofs.FlowSteps.{int-found, long-found}
use Rattle.fm_fast.specs.Operands.{AsksOfPut}
use Rattle.fm_fast.proofs.CellSteps.{one-kind-word, one-word-asks}
use Rattle.fm_fast.proofs.fields.put_field_at.Goals as goal
use Rattle.fm_frames.specs.declared.values.Value.TheVariants as value
use Rattle.fm_frames.specs.inner.Frames.{stack_in}
use Rattle.fm_base.specs.Kinds.{kind_words}

pub long_there-n-requires : goal.long_there-n-requires
long_there-n-requires g c = (subst (λ k. AsksOfPut k c.args.frames.now) c.in-Long.is c.requires.asks).1

pub put_value-requires-clause-object : goal.put_value-requires-clause-object
put_value-requires-clause-object g c = (subst (λ k. AsksOfPut k c.args.frames.now) c.in-Long.is c.requires.asks).0

pub put_value-requires-clause-words : goal.put_value-requires-clause-words
put_value-requires-clause-words g c = sym (ap kind_words c.in-Long.is)

pub put_value-requires-clause-value : goal.put_value-requires-clause-value
put_value-requires-clause-value g c =
    let same : to_z w64 (of_z w64 c.long_there-n.result) ≡ c.long_there-n.result = grind (arith, ints, to_z-of_z) in
    long-found (slice_get (stack_in c.args.frames.now) 1) c.long_there-n.result c.long_there-n.ensures ∙ ap (λ n. Some (value.Long n)) (sym same)

pub cell_there-cell-requires : goal.cell_there-cell-requires
cell_there-cell-requires g c = (subst (λ k. AsksOfPut k c.args.frames.now) c.in-Ref.is c.requires.asks).1

pub put_value-requires-in-Ref-clause-object : goal.put_value-requires-in-Ref-clause-object
put_value-requires-in-Ref-clause-object g c = (subst (λ k. AsksOfPut k c.args.frames.now) c.in-Ref.is c.requires.asks).0

pub put_value-requires-in-Ref-clause-words : goal.put_value-requires-in-Ref-clause-words
put_value-requires-in-Ref-clause-words g c = sym (ap kind_words c.in-Ref.is)

pub put_value-requires-in-Ref-clause-value : goal.put_value-requires-in-Ref-clause-value
put_value-requires-in-Ref-clause-value g c = sym c.cell_there-cell.ensures

pub int_there-n-requires : goal.int_there-n-requires
int_there-n-requires g c = (one-word-asks c.args.kind c.args.frames.now c.in_default.not-Long c.in_default.not-Ref c.requires.asks).1

pub put_value-requires-in_default-clause-object : goal.put_value-requires-in_default-clause-object
put_value-requires-in_default-clause-object g c = (one-word-asks c.args.kind c.args.frames.now c.in_default.not-Long c.in_default.not-Ref c.requires.asks).0

pub put_value-requires-in_default-clause-words : goal.put_value-requires-in_default-clause-words
put_value-requires-in_default-clause-words g c = one-kind-word c.args.kind c.in_default.not-Long

pub put_value-requires-in_default-clause-value : goal.put_value-requires-in_default-clause-value
put_value-requires-in_default-clause-value g c =
    let n = c.int_there-n.result in
    let same : to_z w32 (of_z w32 n) ≡ n = grind (arith, ints, to_z-of_z) in
    int-found (slice_get (stack_in c.args.frames.now) 0) n c.int_there-n.ensures ∙ ap (λ n. Some (value.Int n)) (sym same)
