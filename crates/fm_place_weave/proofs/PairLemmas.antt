-- The pairs of a plan.
use Rattle.std.proofs.Common.{◌≡◌, ℕ, zero, suc, ◌+◌, ◌<◌, ◌≤◌, ◌==◌, Bool, true, false, List, [], ◌∷◌, length, get_or, take, drop, sym, subst, arith, if◌then◌else◌}
use Rattle.std.proofs.lemmas.List.{get_or_default}
use Rattle.std.specs.List.{AllByRecursion}
use Rattle.fm_place_weave.specs.ByPlan.{here, later, leading}
use Rattle.fm_place_weave.specs.Conditions.{AreFlagged, AreLocals, IsFlagged, IsLocal}

pub leading_within : (j : ℕ) (pairs : List (ℕ × ℕ)) → leading j pairs ≤ length pairs
leading_within j [] = omega arith
leading_within j (p ∷ pairs) = go (p.0 == j) (leading_within j pairs) where
  go : (b : Bool) → leading j pairs ≤ length pairs → (if b then leading j pairs + 1 else 0) ≤ length (p ∷ pairs)
  go true rest = omega arith
  go false rest = omega arith

all_take : (P : ℕ × ℕ → Type 0) (n : ℕ) (pairs : List (ℕ × ℕ)) → AllByRecursion P pairs → AllByRecursion P (take n pairs)
all_take P zero pairs all = tt
all_take P (suc n) [] all = tt
all_take P (suc n) (p ∷ pairs) (one, rest) = (one, all_take P n pairs rest)

all_drop : (P : ℕ × ℕ → Type 0) (n : ℕ) (pairs : List (ℕ × ℕ)) → AllByRecursion P pairs → AllByRecursion P (drop n pairs)
all_drop P zero pairs all = all
all_drop P (suc n) [] all = tt
all_drop P (suc n) (p ∷ pairs) (one, rest) = all_drop P n pairs rest

pub locals_here : (first j : ℕ) (pairs part : List (ℕ × ℕ)) → part ≡ here j pairs → AreLocals first pairs → AreLocals first part
locals_here first j pairs part is all = subst (λ ps. AreLocals first ps) (sym is) (all_take (IsLocal first) (leading j pairs) pairs all)

pub locals_later : (first j : ℕ) (pairs part : List (ℕ × ℕ)) → part ≡ later j pairs → AreLocals first pairs → AreLocals first part
locals_later first j pairs part is all = subst (λ ps. AreLocals first ps) (sym is) (all_drop (IsLocal first) (leading j pairs) pairs all)

pub flags_here : (looped : List Bool) (j : ℕ) (pairs part : List (ℕ × ℕ)) → part ≡ here j pairs → AreFlagged looped pairs → AreFlagged looped part
flags_here looped j pairs part is all = subst (λ ps. AreFlagged looped ps) (sym is) (all_take (IsFlagged looped) (leading j pairs) pairs all)

pub flags_later : (looped : List Bool) (j : ℕ) (pairs part : List (ℕ × ℕ)) → part ≡ later j pairs → AreFlagged looped pairs → AreFlagged looped part
flags_later looped j pairs part is all = subst (λ ps. AreFlagged looped ps) (sym is) (all_drop (IsFlagged looped) (leading j pairs) pairs all)

-- what holds of all pairs holds of the one at an index
all_at : (P : ℕ × ℕ → Type 0) (pairs : List (ℕ × ℕ)) (i : ℕ) → AllByRecursion P pairs → i < length pairs → P (get_or pairs i (0, 0))
all_at P [] i all within = absurd (omega arith)
all_at P (q ∷ pairs) zero (one, rest) within = one
all_at P (q ∷ pairs) (suc i) (one, rest) within = all_at P pairs i rest (omega arith)

-- the pair at an index has a local
pub local_at : (first : ℕ) (pairs : List (ℕ × ℕ)) (i : ℕ) → AreLocals first pairs → i < length pairs → IsLocal first (get_or pairs i (0, 0))
local_at first pairs i all within = all_at (IsLocal first) pairs i all within

-- and a flag
pub flag_at : (looped : List Bool) (pairs : List (ℕ × ℕ)) (i : ℕ) → AreFlagged looped pairs → i < length pairs → IsFlagged looped (get_or pairs i (0, 0))
flag_at looped pairs i all within = all_at (IsFlagged looped) pairs i all within

-- it is the one that is read there
pub pair_at : (pairs : List (ℕ × ℕ)) (i : ℕ) → i < length pairs → get_or pairs i (0, 0) ≡ get_or pairs i (get_or pairs i (0, 0))
pair_at pairs i within = get_or_default pairs i (0, 0) (get_or pairs i (0, 0)) within
