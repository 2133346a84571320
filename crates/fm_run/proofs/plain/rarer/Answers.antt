use Rattle.std.proofs.Common.{◌≡◌, arith, ap, sym, ◌∙◌, to_z, of_z, w32, w64}
use Rattle.std.proofs.lemmas.Int.{ints, to_z-of_z}
use Rattle.fm_code.specs.declared.instructions.Insn.TheVariants as insn
use Rattle.fm_frames.specs.Rows.{effect_of}
use Rattle.fm_run.proofs.NextSteps.{at-row, row-does}
use Rattle.fm_run.proofs.plain.rarer.Goals as goal

pub returns-in_ok-int_negate-in-IntNeg : goal.returns-in_ok-int_negate-in-IntNeg
unfolding effect_of
returns-in_ok-int_negate-in-IntNeg g c =
    row-does c.args.program.now g.M.Memory.choose c.args.machine.now c.int_negate.new.machine c.args.insn.now (insn.IntNeg) c.requires.at.at c.in-IntNeg.is c.in_ok-int_negate-in-IntNeg.ensures

pub returns-in_ok-long_negate-in-LongNeg : goal.returns-in_ok-long_negate-in-LongNeg
unfolding effect_of
returns-in_ok-long_negate-in-LongNeg g c =
    row-does c.args.program.now g.M.Memory.choose c.args.machine.now c.long_negate.new.machine c.args.insn.now (insn.LongNeg) c.requires.at.at c.in-LongNeg.is c.in_ok-long_negate-in-LongNeg.ensures

pub returns-in_ok-long_shift-in-LongShift : goal.returns-in_ok-long_shift-in-LongShift
unfolding effect_of
returns-in_ok-long_shift-in-LongShift g c =
    row-does c.args.program.now g.M.Memory.choose c.args.machine.now c.long_shift.new.machine c.args.insn.now (insn.LongShift c.in-LongShift.shift) c.requires.at.at c.in-LongShift.is c.in_ok-long_shift-in-LongShift.ensures

pub returns-in_ok-long_compare-in-LongCompare : goal.returns-in_ok-long_compare-in-LongCompare
unfolding effect_of
returns-in_ok-long_compare-in-LongCompare g c =
    row-does c.args.program.now g.M.Memory.choose c.args.machine.now c.long_compare.new.machine c.args.insn.now (insn.LongCompare) c.requires.at.at c.in-LongCompare.is c.in_ok-long_compare-in-LongCompare.ensures

pub returns-in_ok-dup_x1-in-DupX1 : goal.returns-in_ok-dup_x1-in-DupX1
unfolding effect_of
returns-in_ok-dup_x1-in-DupX1 g c =
    row-does c.args.program.now g.M.Memory.choose c.args.machine.now c.dup_x1.new.machine c.args.insn.now (insn.DupX1) c.requires.at.at c.in-DupX1.is c.in_ok-dup_x1-in-DupX1.ensures

pub returns-in_ok-dup_x2-in-DupX2 : goal.returns-in_ok-dup_x2-in-DupX2
unfolding effect_of
returns-in_ok-dup_x2-in-DupX2 g c =
    row-does c.args.program.now g.M.Memory.choose c.args.machine.now c.dup_x2.new.machine c.args.insn.now (insn.DupX2) c.requires.at.at c.in-DupX2.is c.in_ok-dup_x2-in-DupX2.ensures

pub returns-in_ok-dup2-in-Dup2 : goal.returns-in_ok-dup2-in-Dup2
unfolding effect_of
returns-in_ok-dup2-in-Dup2 g c =
    row-does c.args.program.now g.M.Memory.choose c.args.machine.now c.dup2.new.machine c.args.insn.now (insn.Dup2) c.requires.at.at c.in-Dup2.is c.in_ok-dup2-in-Dup2.ensures

pub returns-in_ok-dup2_x1-in-Dup2X1 : goal.returns-in_ok-dup2_x1-in-Dup2X1
unfolding effect_of
returns-in_ok-dup2_x1-in-Dup2X1 g c =
    row-does c.args.program.now g.M.Memory.choose c.args.machine.now c.dup2_x1.new.machine c.args.insn.now (insn.Dup2X1) c.requires.at.at c.in-Dup2X1.is c.in_ok-dup2_x1-in-Dup2X1.ensures

pub returns-in_ok-dup2_x2-in-Dup2X2 : goal.returns-in_ok-dup2_x2-in-Dup2X2
unfolding effect_of
returns-in_ok-dup2_x2-in-Dup2X2 g c =
    row-does c.args.program.now g.M.Memory.choose c.args.machine.now c.dup2_x2.new.machine c.args.insn.now (insn.Dup2X2) c.requires.at.at c.in-Dup2X2.is c.in_ok-dup2_x2-in-Dup2X2.ensures

pub returns-in_ok-swap-in-Swap : goal.returns-in_ok-swap-in-Swap
unfolding effect_of
returns-in_ok-swap-in-Swap g c =
    row-does c.args.program.now g.M.Memory.choose c.args.machine.now c.swap.new.machine c.args.insn.now (insn.Swap) c.requires.at.at c.in-Swap.is c.in_ok-swap-in-Swap.ensures

pub returns-in-Nop : goal.returns-in-Nop
unfolding effect_of
returns-in-Nop g c =
    row-does c.args.program.now g.M.Memory.choose c.args.machine.now c.nop.new.machine c.args.insn.now (insn.Nop) c.requires.at.at c.in-Nop.is c.nop.ensures

pub returns-in-Pop2 : goal.returns-in-Pop2
unfolding effect_of
returns-in-Pop2 g c =
    row-does c.args.program.now g.M.Memory.choose c.args.machine.now c.pop2.new.machine c.args.insn.now (insn.Pop2) c.requires.at.at c.in-Pop2.is c.pop2.ensures

pub returns-in_ok-long_constant-in-LongConst : goal.returns-in_ok-long_constant-in-LongConst
unfolding effect_of
returns-in_ok-long_constant-in-LongConst g c =
    let same : to_z w64 (of_z w64 c.in-LongConst.n) ≡ c.in-LongConst.n = grind (arith, ints, to_z-of_z) in
    row-does c.args.program.now g.M.Memory.choose c.args.machine.now c.long_constant.new.machine c.args.insn.now (insn.LongConst (to_z w64 (of_z w64 c.in-LongConst.n))) c.requires.at.at
    (c.in-LongConst.is ∙ ap insn.LongConst (sym same)) c.in_ok-long_constant-in-LongConst.ensures

pub table_switch-requires-clause-at : goal.table_switch-requires-clause-at
table_switch-requires-clause-at g c =
    let same : to_z w32 (of_z w32 c.in-Table.low) ≡ c.in-Table.low = grind (arith, ints, to_z-of_z) in
    at-row c.args.program.now c.args.machine.now c.args.insn.now (insn.Table (to_z w32 (of_z w32 c.in-Table.low)) c.in-Table.others c.as_slice.result.now) c.requires.at.at
    (c.in-Table.is ∙ (λ i. insn.Table (sym same i) c.in-Table.others (sym c.as_slice.ensures i)))

pub returns-in-Table : goal.returns-in-Table
unfolding effect_of
returns-in-Table g c =
    let same : to_z w32 (of_z w32 c.in-Table.low) ≡ c.in-Table.low = grind (arith, ints, to_z-of_z) in
    row-does c.args.program.now g.M.Memory.choose c.args.machine.now c.table_switch.new.machine c.args.insn.now
    (insn.Table (to_z w32 (of_z w32 c.in-Table.low)) c.in-Table.others c.as_slice.result.now) c.requires.at.at
    (c.in-Table.is ∙ (λ i. insn.Table (sym same i) c.in-Table.others (sym c.as_slice.ensures i))) c.table_switch.ensures

pub lookup_switch-requires-clause-at : goal.lookup_switch-requires-clause-at
lookup_switch-requires-clause-at g c =
    at-row c.args.program.now c.args.machine.now c.args.insn.now (insn.Lookup c.in-Lookup.others c.as_slice-keys.result.now c.as_slice-in-Lookup.result.now) c.requires.at.at
    (c.in-Lookup.is ∙ (λ i. insn.Lookup c.in-Lookup.others (sym c.as_slice-keys.ensures i) (sym c.as_slice-in-Lookup.ensures i)))

pub returns-in-Lookup : goal.returns-in-Lookup
unfolding effect_of
returns-in-Lookup g c =
    row-does c.args.program.now g.M.Memory.choose c.args.machine.now c.lookup_switch.new.machine c.args.insn.now
    (insn.Lookup c.in-Lookup.others c.as_slice-keys.result.now c.as_slice-in-Lookup.result.now) c.requires.at.at
    (c.in-Lookup.is ∙ (λ i. insn.Lookup c.in-Lookup.others (sym c.as_slice-keys.ensures i) (sym c.as_slice-in-Lookup.ensures i))) c.lookup_switch.ensures
