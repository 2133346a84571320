use Rattle.std.proofs.Common.{take, All}
use Rattle.fm_check_walk.specs.inner.Risen.{IsLeftAlone}
use Rattle.fm_check_walk.proofs.frames.all_left_alone.Given as goal

abbrev pub invariant-loop-rise : goal.invariant-loop-rise
invariant-loop-rise l = All (IsLeftAlone l.insn l.below) (take l.rise-index l.rises)
