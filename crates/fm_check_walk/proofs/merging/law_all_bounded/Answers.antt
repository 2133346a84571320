use Rattle.std.proofs.Common.{All, List, subst, arith}
use Rattle.std.proofs.lemmas.List.{take_all}
use Rattle.std.proofs.lemmas.List.Elements.{All-more}
use Rattle.fm_check_walk.specs.inner.Ranks.{IsBounded}
use Rattle.fm_types.specs.declared.slots.Slot.{Slot}
use Rattle.fm_types.specs.declared.slots.Slot.TheVariants as slot
use Rattle.fm_check_walk.proofs.merging.law_all_bounded.Goals as goal

pub loop-number-preserved : goal.loop-number-preserved
loop-number-preserved c =
    All-more IsBounded c.args.slots.now c.loop-number.number slot.Top (omega (arith, c.loop-number-test.true, c.len-number-end.ensures)) c.loop-number.invariant
    (subst (λ (x : Slot). IsBounded x) c.slot.ensures c.law_bounded.ensures)

pub returns : goal.returns
returns c =
    let Bounded : List Slot → Type 0 = λ slots. All IsBounded slots in
    subst Bounded (take_all c.loop-number.number c.args.slots.now (omega (arith, c.len-number-end.ensures))) c.loop-number.invariant
