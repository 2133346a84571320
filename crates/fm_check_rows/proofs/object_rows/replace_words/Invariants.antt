use Rattle.std.proofs.Common.{◌≡◌}
use Rattle.fm_check_rows.specs.Outcomes.{marks}
use Rattle.fm_check_rows.specs.inner.Replaced.{replaced_to}
use Rattle.fm_check_rows.proofs.object_rows.replace_words.Given as goal

abbrev pub invariant-loop-depth : goal.invariant-loop-depth
invariant-loop-depth l = l.stack ≡ replaced_to (marks l.mark) l.other l.depth l.initial.stack
