use Rattle.fm_frames.proofs.OpeningStarts.{StartsSoFar}
use Rattle.fm_frames.proofs.opens.open_starts.Given as goal

abbrev pub invariant-loop-action : goal.invariant-loop-action
invariant-loop-action g l = StartsSoFar l.program g.M.Memory.choose l.actions l.action-index l.fn.machine l.machine
