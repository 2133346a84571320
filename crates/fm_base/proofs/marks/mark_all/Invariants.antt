use Rattle.std.proofs.Common.{◌≡◌, drop}
use Rattle.fm_base.specs.Rows.{marked}
use Rattle.fm_base.proofs.marks.mark_all.Given as goal

abbrev pub invariant-loop-number : goal.invariant-loop-number
invariant-loop-number l = marked l.marks.items (drop l.number-index l.numbers) ≡ marked l.initial.marks.items l.numbers
