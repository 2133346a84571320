-- How many bytes an inserted load or store takes.
use Rattle.std.specs.Prelude.{ℕ, nat_lt, if◌then◌else◌}

abbrev pub local_size : ℕ → ℕ
local_size local = if nat_lt local 4 then 1 else if nat_lt local 256 then 2 else 4
