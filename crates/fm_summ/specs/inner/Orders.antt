-- Lists of methods that have each method once.
use Rattle.std.specs.Prelude.{◌≡◌, ℕ, Bool, List, count_by, nat_eq, nat_lt, if◌then◌else◌}
use Rattle.fm_base.specs.Rows.{has}

-- each number below the count is in the list once, and no other number is
abbrev pub ListsEachOnce : ℕ → List ℕ → Type 0
ListsEachOnce count list = (m : ℕ) → count_by (nat_eq m) list ≡ (if nat_lt m count then 1 else 0)

-- so is each number that has a mark
abbrev pub AreListed : List Bool → List ℕ → Type 0
AreListed listed list = (m : ℕ) → count_by (nat_eq m) list ≡ (if has listed m then 1 else 0)
