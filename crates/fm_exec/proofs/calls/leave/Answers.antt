use Rattle.fm_exec.proofs.ObjectSteps.{return-nothing, return-word}
use Rattle.fm_exec.proofs.Seen.{carried}
use Rattle.fm_exec.proofs.calls.leave.Goals as goal
use Rattle.fm_frames.proofs.Throwing.{told-ok}
use Rattle.fm_frames.specs.Effects.{Returns, going}
use Rattle.fm_frames.specs.JumpRows.{return_effect}

pub returns-in-None : goal.returns-in-None
returns-in-None g c =
    told-ok c.leave.result _ _
    (carried c.args.program.now g.M.Memory.choose c.args.machine.now c.leave.new.self (return_effect c.args.value) (going 0 (Returns 0))
    (return-nothing c.args.value c.in-None.is))
    c.leave.ensures

pub returns-in-Some : goal.returns-in-Some
returns-in-Some g c =
    told-ok c.leave-in-Some.result _ _
    (carried c.args.program.now g.M.Memory.choose c.args.machine.now c.leave-in-Some.new.self (return_effect c.args.value)
    (going 0 (Returns c.words.result)) (return-word c.args.value c.in-Some.kind c.words.result c.in-Some.is c.words.ensures.value))
    c.leave-in-Some.ensures
