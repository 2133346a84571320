-- Pairs of an item and a holder that are listed item by item.
use Rattle.std.specs.Prelude.{◌≡◌, ◌≤◌, ℕ, List, length}
use Rattle.std.specs.List.{flat_map, range_with_len}
use Rattle.fm_place.specs.PlansBy.{paired}
use Rattle.fm_audit.specs.Reading.{Pairs}

-- For this many items, from one on: those of each item before those of the next one, and one holder takes its object at most.
pub record AreListed (j n : ℕ) (pairs : Pairs) : Type 0 where
  pub before : ℕ → List ℕ
  pub after : ℕ → List ℕ
  pub before_is : pairs.before ≡ flat_map (paired before) (range_with_len j n)
  pub after_is : pairs.after ≡ flat_map (paired after) (range_with_len j n)
  pub single : (i : ℕ) → length (after i) ≤ 1
