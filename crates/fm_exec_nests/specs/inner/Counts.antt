-- The counts of the dimensions, as they lie on the stack.
use Rattle.std.specs.Prelude.{◌≡◌, ℕ, zero, suc, ◌+◌, ◌*◌, ◌^◌, ◌<◌, ℤ, pos, int_lt, Bool, true, false, List, [], ◌∷◌, map, Option, Some, None, slice_get, unsigned_abs, if◌then◌else◌}
use Rattle.std.specs.List.{AllByRecursion, list_any}
use Rattle.fm_frames.specs.declared.values.Value.{Value}
use Rattle.fm_frames.specs.inner.Doings.{int_in}

-- a count before the others, none where there is none of both
abbrev pub joined : Option ℤ → Option (List ℤ) → Option (List ℤ)
joined (Some n) (Some others) = Some (n ∷ others)
joined n others = None

-- this many ints from the top of a stack, the lowest first
abbrev pub ints_on : List Value → ℕ → Option (List ℤ)
ints_on stack zero = Some []
ints_on stack (suc n) = joined (int_in (slice_get stack n)) (ints_on stack n)

-- one of the counts is negative
abbrev pub any_negative : List ℤ → Bool
any_negative counts = list_any (λ n. int_lt n (pos 0)) counts

-- the lengths that counts mean, each of which an array may have; none where one of them is negative
abbrev pub Lens : List ℤ → Option (List ℕ) → Type 0
Lens counts None = any_negative counts ≡ true
Lens counts (Some lens) = (any_negative counts ≡ false) × (lens ≡ map unsigned_abs counts) × AllByRecursion (λ len. len < 2 ^ 31) lens

-- one array and as many more for each of its elements
abbrev pub arrays_with : ℤ → ℕ → Option ℕ
arrays_with n made = if int_lt n (pos 0) then None else Some (1 + unsigned_abs n * made)

abbrev pub counted : Option ℤ → Option ℕ → Option ℕ
counted None made = None
counted (Some n) None = None
counted (Some n) (Some made) = arrays_with n made

-- how many arrays this many counts make, which lie on top of a stack
abbrev pub arrays_on : List Value → ℕ → Option ℕ
arrays_on stack zero = Some 0
arrays_on stack (suc n) = counted (int_in (slice_get stack n)) (arrays_on stack n)
