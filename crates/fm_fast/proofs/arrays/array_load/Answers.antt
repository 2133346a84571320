use Rattle.std.proofs.Common.{sym, subst}
use Rattle.fm_code.specs.declared.operations.Elem.{Elem}
use Rattle.fm_exec.specs.Holding.{HoldsElements}
use Rattle.fm_exec.specs.Steps.{seen}
use Rattle.fm_fast.specs.Flows.{on}
use Rattle.fm_fast.proofs.arrays.array_load.Goals as goal
use Rattle.fm_fast.specs.FlowsOver.{FlowsOver}
use Rattle.fm_frames.specs.ArrayRows.{array_load_effect}

pub load_of-requires-clause-holds : goal.load_of-requires-clause-holds
load_of-requires-clause-holds g c =
    subst (HoldsElements c.args.program.now (on c.args.machine.now c.args.frames.now)) c.in-Boolean.is c.requires.holds

pub returns-in-Boolean-clause-did : goal.returns-in-Boolean-clause-did
returns-in-Boolean-clause-did g c told =
    let p = c.args.program.now in
    let m = c.args.machine.now in
    subst (λ (e : Elem). FlowsOver p g.M.Memory.choose m c.args.frames.now m c.load_of.new.frames (λ x. array_load_effect p.outline e (seen p x)))
    (sym c.in-Boolean.is) (c.load_of.ensures.did told)

pub load_of-requires-in-Byte-clause-holds : goal.load_of-requires-in-Byte-clause-holds
load_of-requires-in-Byte-clause-holds g c =
    subst (HoldsElements c.args.program.now (on c.args.machine.now c.args.frames.now)) c.in-Byte.is c.requires.holds

pub returns-in-Byte-clause-did : goal.returns-in-Byte-clause-did
returns-in-Byte-clause-did g c told =
    let p = c.args.program.now in
    let m = c.args.machine.now in
    subst (λ (e : Elem). FlowsOver p g.M.Memory.choose m c.args.frames.now m c.load_of-in-Byte.new.frames (λ x. array_load_effect p.outline e (seen p x)))
    (sym c.in-Byte.is) (c.load_of-in-Byte.ensures.did told)

pub load_of-requires-in-Char-clause-holds : goal.load_of-requires-in-Char-clause-holds
load_of-requires-in-Char-clause-holds g c =
    subst (HoldsElements c.args.program.now (on c.args.machine.now c.args.frames.now)) c.in-Char.is c.requires.holds

pub returns-in-Char-clause-did : goal.returns-in-Char-clause-did
returns-in-Char-clause-did g c told =
    let p = c.args.program.now in
    let m = c.args.machine.now in
    subst (λ (e : Elem). FlowsOver p g.M.Memory.choose m c.args.frames.now m c.load_of-in-Char.new.frames (λ x. array_load_effect p.outline e (seen p x)))
    (sym c.in-Char.is) (c.load_of-in-Char.ensures.did told)

pub load_of-requires-in-Short-clause-holds : goal.load_of-requires-in-Short-clause-holds
load_of-requires-in-Short-clause-holds g c =
    subst (HoldsElements c.args.program.now (on c.args.machine.now c.args.frames.now)) c.in-Short.is c.requires.holds

pub returns-in-Short-clause-did : goal.returns-in-Short-clause-did
returns-in-Short-clause-did g c told =
    let p = c.args.program.now in
    let m = c.args.machine.now in
    subst (λ (e : Elem). FlowsOver p g.M.Memory.choose m c.args.frames.now m c.load_of-in-Short.new.frames (λ x. array_load_effect p.outline e (seen p x)))
    (sym c.in-Short.is) (c.load_of-in-Short.ensures.did told)

pub load_of-requires-in-Int-clause-holds : goal.load_of-requires-in-Int-clause-holds
load_of-requires-in-Int-clause-holds g c =
    subst (HoldsElements c.args.program.now (on c.args.machine.now c.args.frames.now)) c.in-Int.is c.requires.holds

pub returns-in-Int-clause-did : goal.returns-in-Int-clause-did
returns-in-Int-clause-did g c told =
    let p = c.args.program.now in
    let m = c.args.machine.now in
    subst (λ (e : Elem). FlowsOver p g.M.Memory.choose m c.args.frames.now m c.load_of-in-Int.new.frames (λ x. array_load_effect p.outline e (seen p x)))
    (sym c.in-Int.is) (c.load_of-in-Int.ensures.did told)

pub load_of-requires-in-Long-clause-holds : goal.load_of-requires-in-Long-clause-holds
load_of-requires-in-Long-clause-holds g c =
    subst (HoldsElements c.args.program.now (on c.args.machine.now c.args.frames.now)) c.in-Long.is c.requires.holds

pub returns-in-Long-clause-did : goal.returns-in-Long-clause-did
returns-in-Long-clause-did g c told =
    let p = c.args.program.now in
    let m = c.args.machine.now in
    subst (λ (e : Elem). FlowsOver p g.M.Memory.choose m c.args.frames.now m c.load_of-in-Long.new.frames (λ x. array_load_effect p.outline e (seen p x)))
    (sym c.in-Long.is) (c.load_of-in-Long.ensures.did told)

pub load_of-requires-in-Ref-clause-holds : goal.load_of-requires-in-Ref-clause-holds
load_of-requires-in-Ref-clause-holds g c =
    subst (HoldsElements c.args.program.now (on c.args.machine.now c.args.frames.now)) c.in-Ref.is c.requires.holds

pub returns-in-Ref-clause-did : goal.returns-in-Ref-clause-did
returns-in-Ref-clause-did g c told =
    let p = c.args.program.now in
    let m = c.args.machine.now in
    subst (λ (e : Elem). FlowsOver p g.M.Memory.choose m c.args.frames.now m c.load_of-in-Ref.new.frames (λ x. array_load_effect p.outline e (seen p x)))
    (sym c.in-Ref.is) (c.load_of-in-Ref.ensures.did told)
