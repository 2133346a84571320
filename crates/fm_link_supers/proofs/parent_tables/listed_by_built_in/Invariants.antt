use Rattle.std.proofs.Common.{◌≡◌, ◌++◌, drop, List, ℕ}
use Rattle.std.specs.Borrow.{Bor}
use Rattle.std.specs.List.{filter_map}
use Rattle.fm_link_names.specs.inner.ClassNumbering.{number_in}
use Rattle.fm_link_supers.proofs.parent_tables.listed_by_built_in.Given as goal

abbrev pub invariant-loop-name : goal.invariant-loop-name
invariant-loop-name l =
    l.interfaces.items ++ filter_map (λ (i : Bor (List ℕ)). number_in l.numbers.numbers i.now) (drop l.name-index l.name-items)
    ≡ filter_map (λ (i : Bor (List ℕ)). number_in l.numbers.numbers i.now) l.class.interfaces.now
