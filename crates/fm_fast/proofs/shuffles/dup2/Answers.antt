use Rattle.fm_fast.proofs.FlowSteps.{doubled-wide, fits-pushed, pushed-off}
use Rattle.fm_fast.proofs.shuffles.dup2.Goals as goal
use Rattle.fm_frames.specs.NumberRows.{move_effect}
use Rattle.std.proofs.Common.{rules}

pub push-requires : goal.push-requires
push-requires c = record { fits = fits-pushed c.args.frames.now c.push_in_room.new.self c.in-Some.second c.requires (c.push_in_room.ensures.put (search rules)) }

pub returns-clause-did : goal.returns-clause-did
unfolding move_effect
returns-clause-did c told p choose x =
    doubled-wide p choose x c.args.frames.now c.push_in_room.new.self c.push.new.frames c.in-Some-operand.top c.in-Some.second c.requires
    c.in-Some-operand.ensures c.in-Some.ensures (c.push_in_room.ensures.put (search rules)) (c.push.ensures.did (search rules))

pub returns-then-not-push-clause-same : goal.returns-then-not-push-clause-same
returns-then-not-push-clause-same c told =
    pushed-off c.args.frames.now c.push_in_room.new.self c.push.new.frames c.drop_words.new.self c.in-Some.second (c.push_in_room.ensures.put (search rules))
    (c.push.ensures.same (search rules)) c.drop_words.ensures
