use Rattle.std.proofs.Common.{sym, subst}
use Rattle.fm_code.specs.declared.operations.Elem.{Elem}
use Rattle.fm_exec.specs.Holding.{TakesElement}
use Rattle.fm_exec.specs.Steps.{seen}
use Rattle.fm_fast.specs.Flows.{on}
use Rattle.fm_fast.specs.Operands.{AsksOfStore}
use Rattle.fm_fast.proofs.arrays.array_store.Goals as goal
use Rattle.fm_fast.specs.FlowsOver.{FlowsOver}
use Rattle.fm_frames.specs.ArrayRows.{array_store_effect}

pub store_of-requires-clause-array : goal.store_of-requires-clause-array
store_of-requires-clause-array g c = (subst (λ e. AsksOfStore e c.args.frames.now) c.in-Boolean.is c.requires.asks).0

pub store_of-requires-clause-index : goal.store_of-requires-clause-index
store_of-requires-clause-index g c = (subst (λ e. AsksOfStore e c.args.frames.now) c.in-Boolean.is c.requires.asks).1

pub store_of-requires-clause-value : goal.store_of-requires-clause-value
store_of-requires-clause-value g c = (subst (λ e. AsksOfStore e c.args.frames.now) c.in-Boolean.is c.requires.asks).2

pub store_of-requires-clause-takes : goal.store_of-requires-clause-takes
store_of-requires-clause-takes g c =
    subst (TakesElement c.args.program.now (on c.args.machine.now c.args.frames.now)) c.in-Boolean.is c.requires.takes

pub returns-in-Boolean-clause-did : goal.returns-in-Boolean-clause-did
returns-in-Boolean-clause-did g c told =
    let p = c.args.program.now in
    subst (λ (e : Elem). FlowsOver p g.M.Memory.choose c.args.machine.now c.args.frames.now c.store_of.new.machine c.store_of.new.frames
    (λ x. array_store_effect p.outline e (seen p x))) (sym c.in-Boolean.is) (c.store_of.ensures.did told)

pub store_of-requires-in-Byte-clause-array : goal.store_of-requires-in-Byte-clause-array
store_of-requires-in-Byte-clause-array g c = (subst (λ e. AsksOfStore e c.args.frames.now) c.in-Byte.is c.requires.asks).0

pub store_of-requires-in-Byte-clause-index : goal.store_of-requires-in-Byte-clause-index
store_of-requires-in-Byte-clause-index g c = (subst (λ e. AsksOfStore e c.args.frames.now) c.in-Byte.is c.requires.asks).1

pub store_of-requires-in-Byte-clause-value : goal.store_of-requires-in-Byte-clause-value
store_of-requires-in-Byte-clause-value g c = (subst (λ e. AsksOfStore e c.args.frames.now) c.in-Byte.is c.requires.asks).2

pub store_of-requires-in-Byte-clause-takes : goal.store_of-requires-in-Byte-clause-takes
store_of-requires-in-Byte-clause-takes g c =
    subst (TakesElement c.args.program.now (on c.args.machine.now c.args.frames.now)) c.in-Byte.is c.requires.takes

pub returns-in-Byte-clause-did : goal.returns-in-Byte-clause-did
returns-in-Byte-clause-did g c told =
    let p = c.args.program.now in
    subst (λ (e : Elem). FlowsOver p g.M.Memory.choose c.args.machine.now c.args.frames.now c.store_of-in-Byte.new.machine c.store_of-in-Byte.new.frames
    (λ x. array_store_effect p.outline e (seen p x))) (sym c.in-Byte.is) (c.store_of-in-Byte.ensures.did told)

pub store_of-requires-in-Char-clause-array : goal.store_of-requires-in-Char-clause-array
store_of-requires-in-Char-clause-array g c = (subst (λ e. AsksOfStore e c.args.frames.now) c.in-Char.is c.requires.asks).0

pub store_of-requires-in-Char-clause-index : goal.store_of-requires-in-Char-clause-index
store_of-requires-in-Char-clause-index g c = (subst (λ e. AsksOfStore e c.args.frames.now) c.in-Char.is c.requires.asks).1

pub store_of-requires-in-Char-clause-value : goal.store_of-requires-in-Char-clause-value
store_of-requires-in-Char-clause-value g c = (subst (λ e. AsksOfStore e c.args.frames.now) c.in-Char.is c.requires.asks).2

pub store_of-requires-in-Char-clause-takes : goal.store_of-requires-in-Char-clause-takes
store_of-requires-in-Char-clause-takes g c =
    subst (TakesElement c.args.program.now (on c.args.machine.now c.args.frames.now)) c.in-Char.is c.requires.takes

pub returns-in-Char-clause-did : goal.returns-in-Char-clause-did
returns-in-Char-clause-did g c told =
    let p = c.args.program.now in
    subst (λ (e : Elem). FlowsOver p g.M.Memory.choose c.args.machine.now c.args.frames.now c.store_of-in-Char.new.machine c.store_of-in-Char.new.frames
    (λ x. array_store_effect p.outline e (seen p x))) (sym c.in-Char.is) (c.store_of-in-Char.ensures.did told)

pub store_of-requires-in-Short-clause-array : goal.store_of-requires-in-Short-clause-array
store_of-requires-in-Short-clause-array g c = (subst (λ e. AsksOfStore e c.args.frames.now) c.in-Short.is c.requires.asks).0

pub store_of-requires-in-Short-clause-index : goal.store_of-requires-in-Short-clause-index
store_of-requires-in-Short-clause-index g c = (subst (λ e. AsksOfStore e c.args.frames.now) c.in-Short.is c.requires.asks).1

pub store_of-requires-in-Short-clause-value : goal.store_of-requires-in-Short-clause-value
store_of-requires-in-Short-clause-value g c = (subst (λ e. AsksOfStore e c.args.frames.now) c.in-Short.is c.requires.asks).2

pub store_of-requires-in-Short-clause-takes : goal.store_of-requires-in-Short-clause-takes
store_of-requires-in-Short-clause-takes g c =
    subst (TakesElement c.args.program.now (on c.args.machine.now c.args.frames.now)) c.in-Short.is c.requires.takes

pub returns-in-Short-clause-did : goal.returns-in-Short-clause-did
returns-in-Short-clause-did g c told =
    let p = c.args.program.now in
    subst (λ (e : Elem). FlowsOver p g.M.Memory.choose c.args.machine.now c.args.frames.now c.store_of-in-Short.new.machine c.store_of-in-Short.new.frames
    (λ x. array_store_effect p.outline e (seen p x))) (sym c.in-Short.is) (c.store_of-in-Short.ensures.did told)

pub store_of-requires-in-Int-clause-array : goal.store_of-requires-in-Int-clause-array
store_of-requires-in-Int-clause-array g c = (subst (λ e. AsksOfStore e c.args.frames.now) c.in-Int.is c.requires.asks).0

pub store_of-requires-in-Int-clause-index : goal.store_of-requires-in-Int-clause-index
store_of-requires-in-Int-clause-index g c = (subst (λ e. AsksOfStore e c.args.frames.now) c.in-Int.is c.requires.asks).1

pub store_of-requires-in-Int-clause-value : goal.store_of-requires-in-Int-clause-value
store_of-requires-in-Int-clause-value g c = (subst (λ e. AsksOfStore e c.args.frames.now) c.in-Int.is c.requires.asks).2

pub store_of-requires-in-Int-clause-takes : goal.store_of-requires-in-Int-clause-takes
store_of-requires-in-Int-clause-takes g c =
    subst (TakesElement c.args.program.now (on c.args.machine.now c.args.frames.now)) c.in-Int.is c.requires.takes

pub returns-in-Int-clause-did : goal.returns-in-Int-clause-did
returns-in-Int-clause-did g c told =
    let p = c.args.program.now in
    subst (λ (e : Elem). FlowsOver p g.M.Memory.choose c.args.machine.now c.args.frames.now c.store_of-in-Int.new.machine c.store_of-in-Int.new.frames
    (λ x. array_store_effect p.outline e (seen p x))) (sym c.in-Int.is) (c.store_of-in-Int.ensures.did told)

pub store_long-requires-clause-array : goal.store_long-requires-clause-array
store_long-requires-clause-array g c = (subst (λ e. AsksOfStore e c.args.frames.now) c.in-Long.is c.requires.asks).0

pub store_long-requires-clause-index : goal.store_long-requires-clause-index
store_long-requires-clause-index g c = (subst (λ e. AsksOfStore e c.args.frames.now) c.in-Long.is c.requires.asks).1

pub store_long-requires-clause-value : goal.store_long-requires-clause-value
store_long-requires-clause-value g c = (subst (λ e. AsksOfStore e c.args.frames.now) c.in-Long.is c.requires.asks).2

pub store_long-requires-clause-takes : goal.store_long-requires-clause-takes
store_long-requires-clause-takes g c =
    subst (TakesElement c.args.program.now (on c.args.machine.now c.args.frames.now)) c.in-Long.is c.requires.takes

pub returns-in-Long-clause-did : goal.returns-in-Long-clause-did
returns-in-Long-clause-did g c told =
    let p = c.args.program.now in
    subst (λ (e : Elem). FlowsOver p g.M.Memory.choose c.args.machine.now c.args.frames.now c.store_long.new.machine c.store_long.new.frames
    (λ x. array_store_effect p.outline e (seen p x))) (sym c.in-Long.is) (c.store_long.ensures.did told)
