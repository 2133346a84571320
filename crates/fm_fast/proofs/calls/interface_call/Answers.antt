use Rattle.std.proofs.Common.{◌≡◌, ◌+◌, true, Some, refl, sym, subst, rules}
use Rattle.fm_exec_calls.proofs.SelectSteps.{interface-selected}
use Rattle.fm_exec.specs.Steps.{Steps}
use Rattle.fm_fast.specs.Flows.{resumed}
use Rattle.fm_fast.proofs.EntrySteps.{enters-as, receiver-over}
use Rattle.fm_fast.proofs.calls.interface_call.Goals as goal
use Rattle.fm_frames.specs.CallRows.{words_of_arguments}
use Rattle.fm_frames.specs.Steps.{stack_of}
use Rattle.fm_world.specs.Chains.{is_sub}

pub returns-clause-did : goal.returns-clause-did
returns-clause-did g c told byte steps =
    let p = c.args.program.now in
    let o = p.outline in
    let m = c.args.machine.now in
    let x = resumed m c.args.frames.now steps in
    let y = resumed m c.enter.new.frames (steps + 1) in
    let it = receiver-over o m c.args.frames.now steps c.words_with_receiver-words.result (words_of_arguments o c.args.m.0) _ c.in-Some.field-0-0
    c.in-Some.head c.words_with_receiver-words.ensures refl c.in-Some.ensures in
    let implements : true ≡ is_sub o.classes c.type_in-t.result c.type_of.result = search rules in
    subst (Steps p g.M.Memory.choose x y)
    (sym (interface-selected o m.areas.store (stack_of x) c.args.m c.args.named c.type_of.result byte c.in-Some.field-0-0 c.in-Some.head c.type_in-t.result
    (Some c.in-Some-selected.target.0) c.type_of.ensures it c.type_in-t.ensures.value implements c.in-Some-selected.ensures))
    (enters-as p g.M.Memory.choose m c.args.frames.now c.enter.new.frames c.words_with_receiver-words.result (words_of_arguments o c.args.m.0 + 1)
    c.in-Some-selected.target.0 byte steps (c.enter.ensures.did told) c.words_with_receiver-words.ensures)
