-- Which cells are held after a change of one cell, and made words within the limit.
use Rattle.std.proofs.Common.{◌≡◌, ◌≢◌, ℕ, ◌≤◌, Bool, true, false, cond, [], refl, ap, subst, nat_eq, arith}
use Rattle.std.specs.Prelude.{Option, Some, None, Result, Ok, Err, OnErr, IsSome, is_some, IfSome, nat_lt}
use Rattle.std.specs.Option.{option_map, unwrap_or}
use Rattle.std.specs.Ordering.{nat_cmp}
use Rattle.std.specs.FinMap.{get-empty}
use Rattle.std.proofs.lemmas.Bool.{ltb-false}
use Rattle.std.proofs.lemmas.Bool.Decides.{nat_tests}
use Rattle.fm_cells.specs.Objects.{Object}
use Rattle.fm_cells.specs.Stores.{opened, object_at, IsHeld}

-- made words that don't pass the limit are within it
pub within_limit : (limit : Option ℕ) (words : ℕ) → unwrap_or (option_map (λ most. nat_lt most words) limit) false ≡ false → IfSome limit (λ most. words ≤ most)
within_limit None words h = tt
within_limit (Some most) words h = ltb-false most words h

pub zero_within_limit : (limit : Option ℕ) → IfSome limit (λ most. 0 ≤ most)
zero_within_limit None = tt
zero_within_limit (Some most) = omega arith

-- what isn't held has no object
pub not_held : (o : Option Object) → (IsSome o → ⊥) → o ≡ None
not_held None h = refl
not_held (Some x) h = absurd (h refl)

-- what has an object is held
pub held_if : (o : Option Object) (object : Object) → o ≡ Some object → IsSome o
held_if o object e = ap is_some e

-- no cell of an opened store is held
pub nothing_held : (cell : ℕ) → IsHeld (opened 0 None []) cell → ⊥
nothing_held cell h = let none : object_at (opened 0 None []) cell ≡ None = get-empty nat_cmp cell in let no : IsSome {T = Object} None = subst IsSome none h in absurd (cc)

-- where one cell was changed, the others that are held were held
pub held_after : (q cell : ℕ) (changed before after : Option Object) → after ≡ cond (nat_eq q cell) changed before → IsSome after → q ≢ cell → IsSome before
held_after q cell changed before after e h apart = let same : after ≡ before = grind (arith, nat_tests, e) in subst IsSome same h

-- where one cell was freed, those that are held were held
pub held_before : (there : Bool) (before after : Option Object) → after ≡ cond there None before → IsSome after → IsSome before
held_before true before after e h = let no : IsSome {T = Object} None = subst IsSome e h in absurd (cc)
held_before false before after e h = subst IsSome e h

-- what holds, holds at an error
pub at_error : {T E : Type 0} (r : Result T E) (P : Type 0) → P → OnErr r P
at_error (Ok x) P h = tt
at_error (Err e) P h = h
