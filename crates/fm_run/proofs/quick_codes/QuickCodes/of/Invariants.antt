use Rattle.std.proofs.Common.{◌≡◌, map}
use Rattle.std.specs.List.{range_with_len}
use Rattle.fm_run.proofs.quick_codes.QuickCodes.of.Given as goal
use Rattle.fm_run.specs.inner.Quicks.{quicks_in}
use Rattle.fm_world.specs.Programs.{code_at}

abbrev pub invariant-loop-number : goal.invariant-loop-number
invariant-loop-number l = l.codes.items ≡ map (λ m. quicks_in l.program m (code_at l.program m)) (range_with_len 0 l.number)
