use Rattle.std.proofs.Common.{◌≡◌, arith, ap, refl, subst, sym, ◌∙◌, to_z, of_z, w32, w64}
use Rattle.std.proofs.lemmas.Int.{ints, to_z-of_z}
use Rattle.fm_code.specs.declared.instructions.Insn.TheVariants as insn
use Rattle.fm_fast.specs.Flows.{on, stepped_on}
use Rattle.fm_fast.specs.Operands.{AsksOf}
use Rattle.fm_frames.specs.Rows.{effect_of}
use Rattle.fm_exec_nests.specs.inner.Costs.{nest_of}
use Rattle.fm_run.proofs.FlatSteps.{named-does, row-flows}
use Rattle.fm_run.proofs.NextSteps.{at-row, stands-at}
use Rattle.fm_run.proofs.flats.do_other.Goals as goal
use Rattle.fm_types.specs.Typed.{use_in}

pub int_shift-requires-clause-first : goal.int_shift-requires-clause-first
int_shift-requires-clause-first c = (subst (λ i. AsksOf i c.args.frames.now) c.in-IntShift.is c.requires.asks).0

pub int_shift-requires-clause-second : goal.int_shift-requires-clause-second
int_shift-requires-clause-second c = (subst (λ i. AsksOf i c.args.frames.now) c.in-IntShift.is c.requires.asks).1

pub if_same-requires-clause-first : goal.if_same-requires-clause-first
if_same-requires-clause-first c = (subst (λ i. AsksOf i c.args.frames.now) c.in-IfSame.is c.requires.asks).0

pub if_same-requires-clause-second : goal.if_same-requires-clause-second
if_same-requires-clause-second c = (subst (λ i. AsksOf i c.args.frames.now) c.in-IfSame.is c.requires.asks).1

pub if_null-requires-clause-reference : goal.if_null-requires-clause-reference
if_null-requires-clause-reference c = subst (λ i. AsksOf i c.args.frames.now) c.in-IfNull.is c.requires.asks

pub long_op-requires-clause-first : goal.long_op-requires-clause-first
long_op-requires-clause-first c = (subst (λ i. AsksOf i c.args.frames.now) c.in-LongOp.is c.requires.asks).0

pub long_op-requires-clause-second : goal.long_op-requires-clause-second
long_op-requires-clause-second c = (subst (λ i. AsksOf i c.args.frames.now) c.in-LongOp.is c.requires.asks).1

pub long_shift-requires-clause-first : goal.long_shift-requires-clause-first
long_shift-requires-clause-first c = (subst (λ i. AsksOf i c.args.frames.now) c.in-LongShift.is c.requires.asks).0

pub long_shift-requires-clause-second : goal.long_shift-requires-clause-second
long_shift-requires-clause-second c = (subst (λ i. AsksOf i c.args.frames.now) c.in-LongShift.is c.requires.asks).1

pub long_compare-requires-clause-first : goal.long_compare-requires-clause-first
long_compare-requires-clause-first c = (subst (λ i. AsksOf i c.args.frames.now) c.in-LongCompare.is c.requires.asks).0

pub long_compare-requires-clause-second : goal.long_compare-requires-clause-second
long_compare-requires-clause-second c = (subst (λ i. AsksOf i c.args.frames.now) c.in-LongCompare.is c.requires.asks).1

pub int_negate-requires-clause-int : goal.int_negate-requires-clause-int
int_negate-requires-clause-int c = subst (λ i. AsksOf i c.args.frames.now) c.in-IntNeg.is c.requires.asks

pub long_negate-requires-clause-long : goal.long_negate-requires-clause-long
long_negate-requires-clause-long c = subst (λ i. AsksOf i c.args.frames.now) c.in-LongNeg.is c.requires.asks

pub convert-requires-clause-number : goal.convert-requires-clause-number
convert-requires-clause-number c = subst (λ i. AsksOf i c.args.frames.now) c.in-Convert.is c.requires.asks

pub returns-in-Null-clause-did : goal.returns-in-Null-clause-did
unfolding effect_of
returns-in-Null-clause-did c told =
    row-flows c.args.program.now c.args.method.0 c.args.frames.now c.null.new.frames c.args.insn.now insn.Null c.in-Null.is refl
    (λ choose x at. c.null.ensures.did told c.args.program.now choose x)

pub returns-in-LoadPool-clause-did : goal.returns-in-LoadPool-clause-did
unfolding effect_of
returns-in-LoadPool-clause-did c told =
    let p = c.args.program.now in
    let i = insn.LoadPool c.in-LoadPool.index in
    record {
      cheap = ap nest_of c.in-LoadPool.is;
      does =
          λ choose x stands.
          named-does p choose (on x c.args.frames.now) (stepped_on x c.number.new.frames) c.args.method.0 i (use_in p c.args.method.0 c.in-LoadPool.index)
          (stands-at p (on x c.args.frames.now) c.args.method.0 c.args.insn.now i stands c.in-LoadPool.is) refl (c.number.ensures.did told p choose x);
    }

pub returns-in-IntShift-clause-did : goal.returns-in-IntShift-clause-did
unfolding effect_of
returns-in-IntShift-clause-did c told =
    row-flows c.args.program.now c.args.method.0 c.args.frames.now c.int_shift.new.frames c.args.insn.now (insn.IntShift c.in-IntShift.shift) c.in-IntShift.is refl
    (λ choose x at. c.int_shift.ensures.did told c.args.program.now choose x)

pub returns-in-LongOp-clause-did : goal.returns-in-LongOp-clause-did
unfolding effect_of
returns-in-LongOp-clause-did c told =
    row-flows c.args.program.now c.args.method.0 c.args.frames.now c.long_op.new.frames c.args.insn.now (insn.LongOp c.in-LongOp.op) c.in-LongOp.is refl
    (λ choose x at. c.long_op.ensures.did told c.args.program.now choose x)

pub returns-in-Convert-clause-did : goal.returns-in-Convert-clause-did
unfolding effect_of
returns-in-Convert-clause-did c told =
    row-flows c.args.program.now c.args.method.0 c.args.frames.now c.convert.new.frames c.args.insn.now (insn.Convert c.in-Convert.to) c.in-Convert.is refl
    (λ choose x at. c.convert.ensures.did told c.args.program.now choose x)

pub returns-in-IfSame-clause-did : goal.returns-in-IfSame-clause-did
unfolding effect_of
returns-in-IfSame-clause-did c told =
    row-flows c.args.program.now c.args.method.0 c.args.frames.now c.if_same.new.frames c.args.insn.now (insn.IfSame c.in-IfSame.same c.in-IfSame.target) c.in-IfSame.is refl
    (λ choose x at. c.if_same.ensures.did told c.args.program.now choose x (at-row c.args.program.now (on x c.args.frames.now) c.args.insn.now (insn.IfSame c.in-IfSame.same c.in-IfSame.target) at c.in-IfSame.is))

pub returns-in-IfNull-clause-did : goal.returns-in-IfNull-clause-did
unfolding effect_of
returns-in-IfNull-clause-did c told =
    row-flows c.args.program.now c.args.method.0 c.args.frames.now c.if_null.new.frames c.args.insn.now (insn.IfNull c.in-IfNull.null c.in-IfNull.target) c.in-IfNull.is refl
    (λ choose x at. c.if_null.ensures.did told c.args.program.now choose x (at-row c.args.program.now (on x c.args.frames.now) c.args.insn.now (insn.IfNull c.in-IfNull.null c.in-IfNull.target) at c.in-IfNull.is))

pub returns-in-Pop-clause-did : goal.returns-in-Pop-clause-did
unfolding effect_of
returns-in-Pop-clause-did c told =
    row-flows c.args.program.now c.args.method.0 c.args.frames.now c.pop.new.frames c.args.insn.now insn.Pop c.in-Pop.is refl
    (λ choose x at. c.pop.ensures c.args.program.now choose x)

pub returns-in-LongConst-clause-did : goal.returns-in-LongConst-clause-did
unfolding effect_of
returns-in-LongConst-clause-did c told =
    let same : to_z w64 (of_z w64 c.in-LongConst.n) ≡ c.in-LongConst.n = grind (arith, ints, to_z-of_z) in
    row-flows c.args.program.now c.args.method.0 c.args.frames.now c.long_constant.new.frames c.args.insn.now (insn.LongConst (to_z w64 (of_z w64 c.in-LongConst.n)))
    (c.in-LongConst.is ∙ ap insn.LongConst (sym same)) refl
    (λ choose x at. c.long_constant.ensures.did told c.args.program.now choose x)

pub returns-in-LongShift-clause-did : goal.returns-in-LongShift-clause-did
unfolding effect_of
returns-in-LongShift-clause-did c told =
    row-flows c.args.program.now c.args.method.0 c.args.frames.now c.long_shift.new.frames c.args.insn.now (insn.LongShift c.in-LongShift.shift) c.in-LongShift.is refl
    (λ choose x at. c.long_shift.ensures.did told c.args.program.now choose x)

pub returns-in-LongCompare-clause-did : goal.returns-in-LongCompare-clause-did
unfolding effect_of
returns-in-LongCompare-clause-did c told =
    row-flows c.args.program.now c.args.method.0 c.args.frames.now c.long_compare.new.frames c.args.insn.now insn.LongCompare c.in-LongCompare.is refl
    (λ choose x at. c.long_compare.ensures.did told c.args.program.now choose x)

pub returns-in-IntNeg-clause-did : goal.returns-in-IntNeg-clause-did
unfolding effect_of
returns-in-IntNeg-clause-did c told =
    row-flows c.args.program.now c.args.method.0 c.args.frames.now c.int_negate.new.frames c.args.insn.now insn.IntNeg c.in-IntNeg.is refl
    (λ choose x at. c.int_negate.ensures.did told c.args.program.now choose x)

pub returns-in-LongNeg-clause-did : goal.returns-in-LongNeg-clause-did
unfolding effect_of
returns-in-LongNeg-clause-did c told =
    row-flows c.args.program.now c.args.method.0 c.args.frames.now c.long_negate.new.frames c.args.insn.now insn.LongNeg c.in-LongNeg.is refl
    (λ choose x at. c.long_negate.ensures.did told c.args.program.now choose x)

pub returns-in-Dup2-clause-did : goal.returns-in-Dup2-clause-did
unfolding effect_of
returns-in-Dup2-clause-did c told =
    row-flows c.args.program.now c.args.method.0 c.args.frames.now c.dup2.new.frames c.args.insn.now insn.Dup2 c.in-Dup2.is refl
    (λ choose x at. c.dup2.ensures.did told c.args.program.now choose x)

pub returns-in-Pop2-clause-did : goal.returns-in-Pop2-clause-did
unfolding effect_of
returns-in-Pop2-clause-did c told =
    row-flows c.args.program.now c.args.method.0 c.args.frames.now c.pop2.new.frames c.args.insn.now insn.Pop2 c.in-Pop2.is refl
    (λ choose x at. c.pop2.ensures c.args.program.now choose x)

pub returns-in-Table-clause-did : goal.returns-in-Table-clause-did
unfolding effect_of
returns-in-Table-clause-did c told =
    let p = c.args.program.now in
    let old = c.args.frames.now in
    let same : to_z w32 (of_z w32 c.in-Table.low) ≡ c.in-Table.low = grind (arith, ints, to_z-of_z) in
    let i = insn.Table (to_z w32 (of_z w32 c.in-Table.low)) c.in-Table.others c.as_slice.result.now in
    let is : c.args.insn.now ≡ i = c.in-Table.is ∙ (λ j. insn.Table (sym same j) c.in-Table.others (sym c.as_slice.ensures j)) in
    row-flows p c.args.method.0 old c.table_switch.new.frames c.args.insn.now i is refl
    (λ choose x at. c.table_switch.ensures.did told p choose x (at-row p (on x old) c.args.insn.now i at is))

pub returns-in-Lookup-clause-did : goal.returns-in-Lookup-clause-did
unfolding effect_of
returns-in-Lookup-clause-did c told =
    let p = c.args.program.now in
    let old = c.args.frames.now in
    let i = insn.Lookup c.in-Lookup.others c.as_slice-keys.result.now c.as_slice-in-Lookup.result.now in
    let is : c.args.insn.now ≡ i = c.in-Lookup.is ∙ (λ j. insn.Lookup c.in-Lookup.others (sym c.as_slice-keys.ensures j) (sym c.as_slice-in-Lookup.ensures j)) in
    row-flows p c.args.method.0 old c.lookup_switch.new.frames c.args.insn.now i is refl
    (λ choose x at. c.lookup_switch.ensures.did told p choose x (at-row p (on x old) c.args.insn.now i at is))
