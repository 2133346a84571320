use Rattle.std.proofs.Common.{◌≡◌, ◌≤◌, ℕ, List, drop, length}
use Rattle.std.specs.List.{position_from}
use Rattle.std.specs.Str.{bytes_eq}
use Rattle.fm_link_names.specs.inner.ClassNumbering.{number_in}
use Rattle.fm_link_names.proofs.class_numbers.ClassNumbers.of.Given as goal

abbrev pub invariant-loop-left : goal.invariant-loop-left
invariant-loop-left l =
    (l.left ≤ length l.classes)
    × ((name : List ℕ) → number_in l.numbers name ≡ position_from (λ c. bytes_eq c.name name) l.left (drop l.left l.classes))

abbrev pub decreases-loop-left : goal.decreases-loop-left
decreases-loop-left l = l.left
