use Rattle.std.proofs.Common.{ℕ, ◌<◌}
use Rattle.fm_check_program.specs.Untyped.{IsTypedIfCoded}
use Rattle.fm_check_program.proofs.untyped.first_untyped.Given as goal

abbrev pub invariant-loop-number : goal.invariant-loop-number
invariant-loop-number l = (earlier : ℕ) → earlier < l.number → IsTypedIfCoded l.fn.program earlier
