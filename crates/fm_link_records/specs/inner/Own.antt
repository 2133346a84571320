-- The methods of each class's own that aren't static, by signature.
use Rattle.std.specs.Prelude.{◌≡◌, ℕ, zero, suc, ◌+◌, ◌-◌, ◌<◌, ◌&&◌, nat_eq, List, length, slice_get, slice_index, IsSomeAnd, Option, Some, None, if◌then◌else◌}
use Rattle.std.specs.HashMap.{HashMap, get}
use Rattle.fm_world.specs.Members.{is_instance}

-- the first of a given number of methods from a number on that has the signature and isn't static
abbrev pub own_from : List ℕ → List ℕ → ℕ → ℕ → ℕ → Option ℕ
own_from signatures flags signature zero start = None
own_from signatures flags signature (suc count) start =
    if nat_eq (slice_index signatures start) signature && is_instance (slice_index flags start) then Some start
    else own_from signatures flags signature count (start + 1)

-- the table has by signature the methods from the first number up to the second that aren't static
abbrev pub IsOwnTable : {S : Type 0} → List ℕ → List ℕ → ℕ → ℕ → HashMap ℕ ℕ S → Type 0
IsOwnTable signatures flags start end table =
    (signature : ℕ) → get nat_eq table signature ≡ own_from signatures flags signature (end - start) start

-- the tables of the first classes: the methods of each are numbered from one number of the list up to the next one
abbrev pub AreOwnTables : {S : Type 0} → List ℕ → List ℕ → List ℕ → List (HashMap ℕ ℕ S) → Type 0
AreOwnTables first signatures flags tables =
    (class : ℕ) → class < length tables
    → IsSomeAnd (slice_get tables class) (IsOwnTable signatures flags (slice_index first class) (slice_index first (class + 1)))
