use Rattle.std.proofs.Common.{◌+◌, sym, ◌∙◌, subst}
use Rattle.fm_exec.specs.Steps.{Steps}
use Rattle.fm_fast.specs.Flows.{resumed}
use Rattle.fm_fast.proofs.EntrySteps.{left-over}
use Rattle.fm_fast.proofs.returns.leave.Goals as goal
use Rattle.fm_frames.proofs.Calling.{below-fits, method-inside}

pub is_start-requires-clause-method : goal.is_start-requires-clause-method
is_start-requires-clause-method g c =
    method-inside c.args.program.now (resumed c.args.machine.now c.args.frames.now c.args.counted) c.in-Some.topmost.method.0 c.in-Some.topmost.item
    c.requires c.in-Some.ensures

pub give_back_in_room-requires-clause-next_fits : goal.give_back_in_room-requires-clause-next_fits
give_back_in_room-requires-clause-next_fits g c =
    below-fits c.args.program.now (resumed c.args.machine.now c.args.frames.now c.args.counted) c.in-Some.topmost.method.0 c.in-Some.topmost.item
    c.requires c.in-Some.ensures (λ one. c.if-count-eq1.false (c.count.ensures ∙ one))

pub returns-clause-did : goal.returns-clause-did
returns-clause-did g c told steps =
    let p = c.args.program.now in
    let x = resumed c.args.machine.now c.args.frames.now steps in
    let y = resumed c.args.machine.now c.give_back_in_room.new.self (steps + 1) in
    subst (Steps p g.M.Memory.choose x y) (sym c.returned_words.ensures.effect)
    (left-over p g.M.Memory.choose c.args.machine.now c.args.frames.now c.give_back_in_room.new.self steps c.returned_words.result
    c.in-Some.topmost.method.0 c.in-Some.topmost.item c.count.result c.in-Some.ensures c.count.ensures c.if-count-eq1.false c.if-is_start.ensures
    (c.give_back_in_room.ensures.given told))
