-- What a renumbering has to be, and what it gives.
use Rattle.std.specs.Prelude.{◌≡◌, ℕ, length}
use Rattle.std.specs.List.Sorted.{IsStrictlyIncreasing}
use Rattle.fm_summ.specs.declared.renumbering.Renumbering.{Renumbering}
use Rattle.fm_summ.specs.inner.Numbers.{number_in}

-- the numbers rise, and for each there is what it becomes
pub record IsRenumbering (r : Renumbering) : Type 0 where
  pub rising : IsStrictlyIncreasing r.names.items
  pub one_each : length r.least.items ≡ length r.names.items

-- the class that a class has become
abbrev pub renumber : Renumbering → ℕ → ℕ
renumber r n = number_in r.names.items r.least.items n
