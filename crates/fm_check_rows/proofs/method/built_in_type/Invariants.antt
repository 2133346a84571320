use Rattle.fm_check_rows.proofs.NameLemmas.{IsFrom}
use Rattle.fm_check_rows.proofs.method.built_in_type.Given as goal

abbrev pub invariant-loop-number : goal.invariant-loop-number
invariant-loop-number l = IsFrom l.program.outline.classes l.name l.number
