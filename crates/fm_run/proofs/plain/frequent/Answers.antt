use Rattle.std.proofs.Common.{◌≡◌, arith, ap, sym, ◌∙◌, to_z, of_z, w32}
use Rattle.std.proofs.lemmas.Int.{ints, to_z-of_z}
use Rattle.std.specs.Int.{w16}
use Rattle.fm_code.specs.declared.instructions.Insn.TheVariants as insn
use Rattle.fm_frames.specs.Rows.{effect_of}
use Rattle.fm_law_can_step.proofs.Heap.{holds_elements, holds_length}
use Rattle.fm_run.proofs.NextSteps.{at-row, here, row-does, stands-at}
use Rattle.fm_run.proofs.plain.frequent.Goals as goal

pub returns-in_ok-load-in-Load-clause-did : goal.returns-in_ok-load-in-Load-clause-did
unfolding effect_of
returns-in_ok-load-in-Load-clause-did g c told =
    row-does c.args.program.now g.M.Memory.choose c.args.machine.now c.load.new.machine c.args.insn.now (insn.Load c.in-Load.kind c.in-Load.place) c.requires.at.at c.in-Load.is c.in_ok-load-in-Load.ensures

pub returns-in_ok-null-in-Null-clause-did : goal.returns-in_ok-null-in-Null-clause-did
unfolding effect_of
returns-in_ok-null-in-Null-clause-did g c told =
    row-does c.args.program.now g.M.Memory.choose c.args.machine.now c.null.new.machine c.args.insn.now (insn.Null) c.requires.at.at c.in-Null.is c.in_ok-null-in-Null.ensures

pub returns-in_ok-int_op-in-IntOp-clause-did : goal.returns-in_ok-int_op-in-IntOp-clause-did
unfolding effect_of
returns-in_ok-int_op-in-IntOp-clause-did g c told =
    row-does c.args.program.now g.M.Memory.choose c.args.machine.now c.int_op.new.machine c.args.insn.now (insn.IntOp c.in-IntOp.op) c.requires.at.at c.in-IntOp.is c.in_ok-int_op-in-IntOp.ensures

pub returns-in_ok-int_shift-in-IntShift-clause-did : goal.returns-in_ok-int_shift-in-IntShift-clause-did
unfolding effect_of
returns-in_ok-int_shift-in-IntShift-clause-did g c told =
    row-does c.args.program.now g.M.Memory.choose c.args.machine.now c.int_shift.new.machine c.args.insn.now (insn.IntShift c.in-IntShift.shift) c.requires.at.at c.in-IntShift.is c.in_ok-int_shift-in-IntShift.ensures

pub returns-in_ok-long_op-in-LongOp-clause-did : goal.returns-in_ok-long_op-in-LongOp-clause-did
unfolding effect_of
returns-in_ok-long_op-in-LongOp-clause-did g c told =
    row-does c.args.program.now g.M.Memory.choose c.args.machine.now c.long_op.new.machine c.args.insn.now (insn.LongOp c.in-LongOp.op) c.requires.at.at c.in-LongOp.is c.in_ok-long_op-in-LongOp.ensures

pub returns-in_ok-convert-in-Convert-clause-did : goal.returns-in_ok-convert-in-Convert-clause-did
unfolding effect_of
returns-in_ok-convert-in-Convert-clause-did g c told =
    row-does c.args.program.now g.M.Memory.choose c.args.machine.now c.convert.new.machine c.args.insn.now (insn.Convert c.in-Convert.to) c.requires.at.at c.in-Convert.is c.in_ok-convert-in-Convert.ensures

pub returns-in_ok-dup-in-Dup-clause-did : goal.returns-in_ok-dup-in-Dup-clause-did
unfolding effect_of
returns-in_ok-dup-in-Dup-clause-did g c told =
    row-does c.args.program.now g.M.Memory.choose c.args.machine.now c.dup.new.machine c.args.insn.now (insn.Dup) c.requires.at.at c.in-Dup.is c.in_ok-dup-in-Dup.ensures

pub returns-in_ok-int_constant-in-Const-clause-did : goal.returns-in_ok-int_constant-in-Const-clause-did
unfolding effect_of
returns-in_ok-int_constant-in-Const-clause-did g c told =
    let same : to_z w32 (of_z w32 c.in-Const.n) ≡ c.in-Const.n = grind (arith, ints, to_z-of_z) in
    row-does c.args.program.now g.M.Memory.choose c.args.machine.now c.int_constant.new.machine c.args.insn.now (insn.Const (to_z w32 (of_z w32 c.in-Const.n))) c.requires.at.at
    (c.in-Const.is ∙ ap insn.Const (sym same)) c.in_ok-int_constant-in-Const.ensures

pub returns-in-Inc-clause-did : goal.returns-in-Inc-clause-did
unfolding effect_of
returns-in-Inc-clause-did g c told =
    let same : to_z w16 (of_z w16 c.in-Inc.by) ≡ c.in-Inc.by = grind (arith, ints, to_z-of_z) in
    row-does c.args.program.now g.M.Memory.choose c.args.machine.now c.increment.new.machine c.args.insn.now (insn.Inc c.in-Inc.place (to_z w16 (of_z w16 c.in-Inc.by))) c.requires.at.at
    (c.in-Inc.is ∙ ap (insn.Inc c.in-Inc.place) (sym same)) c.increment.ensures

pub returns-in-Store-clause-did : goal.returns-in-Store-clause-did
unfolding effect_of
returns-in-Store-clause-did g c told =
    row-does c.args.program.now g.M.Memory.choose c.args.machine.now c.store.new.machine c.args.insn.now (insn.Store c.in-Store.kind c.in-Store.place) c.requires.at.at c.in-Store.is c.store.ensures

pub returns-in-Pop-clause-did : goal.returns-in-Pop-clause-did
unfolding effect_of
returns-in-Pop-clause-did g c told =
    row-does c.args.program.now g.M.Memory.choose c.args.machine.now c.pop.new.machine c.args.insn.now (insn.Pop) c.requires.at.at c.in-Pop.is c.pop.ensures

pub if_int-requires-clause-at : goal.if_int-requires-clause-at
if_int-requires-clause-at g c = at-row c.args.program.now c.args.machine.now c.args.insn.now (insn.IfInt c.in-IfInt.test c.in-IfInt.target) c.requires.at.at c.in-IfInt.is

pub returns-in-IfInt-clause-did : goal.returns-in-IfInt-clause-did
unfolding effect_of
returns-in-IfInt-clause-did g c told =
    row-does c.args.program.now g.M.Memory.choose c.args.machine.now c.if_int.new.machine c.args.insn.now (insn.IfInt c.in-IfInt.test c.in-IfInt.target) c.requires.at.at c.in-IfInt.is c.if_int.ensures

pub if_pair-requires-clause-at : goal.if_pair-requires-clause-at
if_pair-requires-clause-at g c = at-row c.args.program.now c.args.machine.now c.args.insn.now (insn.IfPair c.in-IfPair.test c.in-IfPair.target) c.requires.at.at c.in-IfPair.is

pub returns-in-IfPair-clause-did : goal.returns-in-IfPair-clause-did
unfolding effect_of
returns-in-IfPair-clause-did g c told =
    row-does c.args.program.now g.M.Memory.choose c.args.machine.now c.if_pair.new.machine c.args.insn.now (insn.IfPair c.in-IfPair.test c.in-IfPair.target) c.requires.at.at c.in-IfPair.is c.if_pair.ensures

pub if_same-requires-clause-at : goal.if_same-requires-clause-at
if_same-requires-clause-at g c = at-row c.args.program.now c.args.machine.now c.args.insn.now (insn.IfSame c.in-IfSame.same c.in-IfSame.target) c.requires.at.at c.in-IfSame.is

pub returns-in-IfSame-clause-did : goal.returns-in-IfSame-clause-did
unfolding effect_of
returns-in-IfSame-clause-did g c told =
    row-does c.args.program.now g.M.Memory.choose c.args.machine.now c.if_same.new.machine c.args.insn.now (insn.IfSame c.in-IfSame.same c.in-IfSame.target) c.requires.at.at c.in-IfSame.is c.if_same.ensures

pub if_null-requires-clause-at : goal.if_null-requires-clause-at
if_null-requires-clause-at g c = at-row c.args.program.now c.args.machine.now c.args.insn.now (insn.IfNull c.in-IfNull.null c.in-IfNull.target) c.requires.at.at c.in-IfNull.is

pub returns-in-IfNull-clause-did : goal.returns-in-IfNull-clause-did
unfolding effect_of
returns-in-IfNull-clause-did g c told =
    row-does c.args.program.now g.M.Memory.choose c.args.machine.now c.if_null.new.machine c.args.insn.now (insn.IfNull c.in-IfNull.null c.in-IfNull.target) c.requires.at.at c.in-IfNull.is c.if_null.ensures

pub go_to-requires-clause-at : goal.go_to-requires-clause-at
go_to-requires-clause-at g c = at-row c.args.program.now c.args.machine.now c.args.insn.now (insn.Goto c.in-Goto.target) c.requires.at.at c.in-Goto.is

pub returns-in-Goto-clause-did : goal.returns-in-Goto-clause-did
unfolding effect_of
returns-in-Goto-clause-did g c told =
    row-does c.args.program.now g.M.Memory.choose c.args.machine.now c.go_to.new.machine c.args.insn.now (insn.Goto c.in-Goto.target) c.requires.at.at c.in-Goto.is c.go_to.ensures

pub field_got-requires-clause-at : goal.field_got-requires-clause-at
field_got-requires-clause-at g c = stands-at c.args.program.now c.args.machine.now c.args.method.0 c.args.insn.now (insn.GetField c.in-GetField.index) c.requires.at c.in-GetField.is

pub field_put-requires-clause-at : goal.field_put-requires-clause-at
field_put-requires-clause-at g c = stands-at c.args.program.now c.args.machine.now c.args.method.0 c.args.insn.now (insn.PutField c.in-PutField.index) c.requires.at c.in-PutField.is

pub returns-in_ok-array_load-in-ArrayLoad-clause-did : goal.returns-in_ok-array_load-in-ArrayLoad-clause-did
unfolding effect_of
returns-in_ok-array_load-in-ArrayLoad-clause-did g c told =
    row-does c.args.program.now g.M.Memory.choose c.args.machine.now c.array_load.new.machine c.args.insn.now (insn.ArrayLoad c.in-ArrayLoad.e) c.requires.at.at c.in-ArrayLoad.is c.in_ok-array_load-in-ArrayLoad.ensures

pub returns-in_ok-array_length-in-Length-clause-did : goal.returns-in_ok-array_length-in-Length-clause-did
unfolding effect_of
returns-in_ok-array_length-in-Length-clause-did g c told =
    row-does c.args.program.now g.M.Memory.choose c.args.machine.now c.array_length.new.machine c.args.insn.now insn.Length c.requires.at.at c.in-Length.is c.in_ok-array_length-in-Length.ensures

pub array_load-requires-clause-holds : goal.array_load-requires-clause-holds
array_load-requires-clause-holds g c = holds_elements c.args.program.now c.args.machine.now c.in-ArrayLoad.e c.requires.run c.requires.going

pub array_length-requires-clause-holds : goal.array_length-requires-clause-holds
array_length-requires-clause-holds g c = holds_length c.args.program.now c.args.machine.now c.requires.run c.requires.going

pub element_put-requires-clause-at : goal.element_put-requires-clause-at
element_put-requires-clause-at g c = here c.args.program.now c.args.machine.now c.args.insn.now (insn.ArrayStore c.in-ArrayStore.e) c.requires.at.at c.in-ArrayStore.is

pub constant-requires-clause-at : goal.constant-requires-clause-at
constant-requires-clause-at g c = stands-at c.args.program.now c.args.machine.now c.args.method.0 c.args.insn.now (insn.LoadPool c.in-LoadPool.index) c.requires.at c.in-LoadPool.is

pub object_made-requires-clause-at : goal.object_made-requires-clause-at
object_made-requires-clause-at g c = stands-at c.args.program.now c.args.machine.now c.args.method.0 c.args.insn.now (insn.New c.in-New.index) c.requires.at c.in-New.is

pub returns-in_ok-leave-in-Return-clause-did : goal.returns-in_ok-leave-in-Return-clause-did
unfolding effect_of
returns-in_ok-leave-in-Return-clause-did g c told =
    row-does c.args.program.now g.M.Memory.choose c.args.machine.now c.leave.new.machine c.args.insn.now (insn.Return c.in-Return.value) c.requires.at.at c.in-Return.is c.in_ok-leave-in-Return.ensures
