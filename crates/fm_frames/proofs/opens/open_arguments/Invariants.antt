use Rattle.fm_frames.proofs.OpeningArguments.{ArgumentsRound}
use Rattle.fm_frames.proofs.opens.open_arguments.Given as goal

abbrev pub invariant-loop-place : goal.invariant-loop-place
invariant-loop-place g l = ArgumentsRound l.program g.M.Memory.choose l.arguments.0 l.args l.place l.fn.machine l.machine
