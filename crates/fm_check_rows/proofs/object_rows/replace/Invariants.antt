use Rattle.std.proofs.Common.{◌≡◌}
use Rattle.fm_check_rows.specs.Outcomes.{marks}
use Rattle.fm_check_rows.specs.inner.Replaced.{replaced_to}
use Rattle.fm_check_rows.proofs.object_rows.replace.Given as goal

abbrev pub invariant-loop-number : goal.invariant-loop-number
invariant-loop-number l = l.slots ≡ replaced_to (marks l.mark) l.other l.number l.initial.slots
