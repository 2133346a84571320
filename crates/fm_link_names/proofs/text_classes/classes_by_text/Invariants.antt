use Rattle.std.proofs.Common.{◌≡◌, ℕ, List, map, take}
use Rattle.std.specs.Borrow.{Bor}
use Rattle.fm_link_names.specs.inner.ClassNumbering.{number_in}
use Rattle.fm_link_names.proofs.text_classes.classes_by_text.Given as goal

abbrev pub invariant-loop-text : goal.invariant-loop-text
invariant-loop-text l = l.found.items ≡ map (λ (b : Bor (List ℕ)). number_in l.numbers.numbers b.now) (take l.text-index l.texts)
