-- The loops that read the jumps and the pairs of a switch.
use Rattle.std.proofs.Common.{◌≡◌, ℕ, zero, suc, ◌+◌, ◌-◌, ◌<◌, ◌≤◌, true, false, List, [], ◌∷◌, ◌++◌, length, get_or, Option, Some, None, refl, sym, ap, subst, ◌∙◌, arith, ℤ, append_assoc, inl, inr}
use Rattle.std.specs.Prelude.{int_lt}
use Rattle.std.specs.List.{AllAdjacentBelow}
use Rattle.std.specs.Option.{option_map}
use Rattle.std.proofs.lemmas.Bool.{cases_Bool}
use Rattle.std.proofs.lemmas.List.{append-nil}
use Rattle.fm_code.specs.InstructionTable.{are_rising}
use Rattle.fm_decode.specs.inner.Switches.{take_number, target_at, jumps_at, pairs_at}

-- ---- jumps

-- what was read before, in front of what is read
abbrev pub behind : {X : Type 0} → List X → Option (List X) → Option (List X)
behind front others = option_map (λ xs. front ++ xs) others

pub behind-none : {X : Type 0} (others : Option (List X)) → others ≡ behind [] others
behind-none None = refl
behind-none (Some xs) = refl

pub behind-more : {X : Type 0} (front : List X) (x : X) (others : Option (List X)) → behind front (option_map (λ xs. x ∷ xs) others) ≡ behind (front ++ x ∷ []) others
behind-more front x None = refl
behind-more front x (Some xs) = ap Some (sym (append_assoc front (x ∷ []) xs))

-- the rest of those that are left
step : (n k : ℕ) → k < n → n - k ≡ suc (n - (k + 1))
step n k lt = omega arith

jumps_at-suc : (offset left : ℕ) (bytes : List ℕ) (jump : ℤ) (after : List ℕ) (target : ℕ) → take_number bytes ≡ Some (jump, after) → target_at offset jump ≡ Some target
    → jumps_at offset (suc left) bytes ≡ option_map (λ xs. target ∷ xs) (jumps_at offset left after)
unfolding jumps_at
jumps_at-suc offset left bytes jump after target number found = rw (number, found) (go (jumps_at offset left after)) where
  go : (o : Option (List ℕ)) → (elim o [ None ↦ None | Some xs ↦ Some (target ∷ xs) ]) ≡ option_map (λ xs. target ∷ xs) o
  go None = refl
  go (Some xs) = refl

pub jumps_at-more : (offset count k : ℕ) (all : Option (List ℕ)) (front : List ℕ) (bytes : List ℕ) (jump : ℤ) (after : List ℕ) (target : ℕ) → k < count
    → all ≡ behind front (jumps_at offset (count - k) bytes) → take_number bytes ≡ Some (jump, after) → target_at offset jump ≡ Some target
    → all ≡ behind (front ++ target ∷ []) (jumps_at offset (count - (k + 1)) after)
jumps_at-more offset count k all front bytes jump after target within so_far number found =
    so_far ∙ ap (λ (n : ℕ). behind front (jumps_at offset n bytes)) (step count k within)
    ∙ ap (behind front) (jumps_at-suc offset (count - (k + 1)) bytes jump after target number found) ∙ behind-more front target (jumps_at offset (count - (k + 1)) after)

jumps_at-cut : (offset left : ℕ) (bytes : List ℕ) → take_number bytes ≡ None → jumps_at offset (suc left) bytes ≡ None
unfolding jumps_at
jumps_at-cut offset left bytes none = rw none refl

jumps_at-astray : (offset left : ℕ) (bytes : List ℕ) (jump : ℤ) (after : List ℕ) → take_number bytes ≡ Some (jump, after) → target_at offset jump ≡ None
    → jumps_at offset (suc left) bytes ≡ None
unfolding jumps_at
jumps_at-astray offset left bytes jump after number none = rw (number, none) refl

pub jumps_at-no_number : (offset count k : ℕ) (all : Option (List ℕ)) (front : List ℕ) (bytes : List ℕ) → k < count
    → all ≡ behind front (jumps_at offset (count - k) bytes) → take_number bytes ≡ None → all ≡ None
jumps_at-no_number offset count k all front bytes within so_far none =
    so_far ∙ ap (λ (n : ℕ). behind front (jumps_at offset n bytes)) (step count k within) ∙ ap (behind front) (jumps_at-cut offset (count - (k + 1)) bytes none)

pub jumps_at-no_target : (offset count k : ℕ) (all : Option (List ℕ)) (front : List ℕ) (bytes : List ℕ) (jump : ℤ) (after : List ℕ) → k < count
    → all ≡ behind front (jumps_at offset (count - k) bytes) → take_number bytes ≡ Some (jump, after) → target_at offset jump ≡ None → all ≡ None
jumps_at-no_target offset count k all front bytes jump after within so_far number none =
    so_far ∙ ap (λ (n : ℕ). behind front (jumps_at offset n bytes)) (step count k within) ∙ ap (behind front) (jumps_at-astray offset (count - (k + 1)) bytes jump after number none)

jumps_at-zero : (offset : ℕ) (bytes : List ℕ) → jumps_at offset 0 bytes ≡ Some []
unfolding jumps_at
jumps_at-zero offset bytes = refl

pub jumps_at-end : (offset count k : ℕ) (all : Option (List ℕ)) (front : List ℕ) (bytes : List ℕ) → count ≤ k
    → all ≡ behind front (jumps_at offset (count - k) bytes) → all ≡ Some front
jumps_at-end offset count k all front bytes end so_far =
    let none : count - k ≡ 0 = omega arith in
    so_far ∙ ap (λ (n : ℕ). behind front (jumps_at offset n bytes)) none ∙ ap (behind front) (jumps_at-zero offset bytes) ∙ ap Some (append-nil front)

-- ---- pairs

abbrev pub Pairs : Type 0
Pairs = List ℤ × List ℕ

abbrev pub behind_both : List ℤ → List ℕ → Option Pairs → Option Pairs
behind_both keys targets others = option_map {U = Pairs} (λ p. (keys ++ p.0, targets ++ p.1)) others

pub behind_both-none : (others : Option Pairs) → others ≡ behind_both [] [] others
behind_both-none None = refl
behind_both-none (Some p) = refl

both-more : (keys : List ℤ) (targets : List ℕ) (key : ℤ) (target : ℕ) (others : Option Pairs)
    → behind_both keys targets (option_map {U = Pairs} (λ p. (key ∷ p.0, target ∷ p.1)) others) ≡ behind_both (keys ++ key ∷ []) (targets ++ target ∷ []) others
both-more keys targets key target None = refl
both-more keys targets key target (Some p) = λ i. Some (sym (append_assoc keys (key ∷ []) p.0) i, sym (append_assoc targets (target ∷ []) p.1) i)

pairs_at-suc : (offset left : ℕ) (bytes : List ℕ) (key : ℤ) (middle : List ℕ) (jump : ℤ) (after : List ℕ) (target : ℕ)
    → take_number bytes ≡ Some (key, middle) → take_number middle ≡ Some (jump, after) → target_at offset jump ≡ Some target
    → pairs_at offset (suc left) bytes ≡ option_map {U = Pairs} (λ p. (key ∷ p.0, target ∷ p.1)) (pairs_at offset left after)
unfolding pairs_at
pairs_at-suc offset left bytes key middle jump after target first second found = rw (first, second, found) (go (pairs_at offset left after)) where
  go : (o : Option Pairs) → (elim o [ None ↦ None | Some p ↦ Some (key ∷ p.0, target ∷ p.1) ]) ≡ option_map {U = Pairs} (λ p. (key ∷ p.0, target ∷ p.1)) o
  go None = refl
  go (Some p) = refl

pub pairs_at-more : (offset count k : ℕ) (all : Option Pairs) (keys : List ℤ) (targets : List ℕ) (bytes : List ℕ) (key : ℤ) (middle : List ℕ) (jump : ℤ) (after : List ℕ) (target : ℕ)
    → k < count → all ≡ behind_both keys targets (pairs_at offset (count - k) bytes)
    → take_number bytes ≡ Some (key, middle) → take_number middle ≡ Some (jump, after) → target_at offset jump ≡ Some target
    → all ≡ behind_both (keys ++ key ∷ []) (targets ++ target ∷ []) (pairs_at offset (count - (k + 1)) after)
pairs_at-more offset count k all keys targets bytes key middle jump after target within so_far first second found =
    so_far ∙ ap (λ (n : ℕ). behind_both keys targets (pairs_at offset n bytes)) (step count k within)
    ∙ ap (behind_both keys targets) (pairs_at-suc offset (count - (k + 1)) bytes key middle jump after target first second found)
    ∙ both-more keys targets key target (pairs_at offset (count - (k + 1)) after)

pairs_at-cut : (offset left : ℕ) (bytes : List ℕ) → take_number bytes ≡ None → pairs_at offset (suc left) bytes ≡ None
unfolding pairs_at
pairs_at-cut offset left bytes none = rw none refl

pairs_at-half : (offset left : ℕ) (bytes : List ℕ) (key : ℤ) (middle : List ℕ) → take_number bytes ≡ Some (key, middle) → take_number middle ≡ None
    → pairs_at offset (suc left) bytes ≡ None
unfolding pairs_at
pairs_at-half offset left bytes key middle first none = rw (first, none) refl

pairs_at-astray : (offset left : ℕ) (bytes : List ℕ) (key : ℤ) (middle : List ℕ) (jump : ℤ) (after : List ℕ)
    → take_number bytes ≡ Some (key, middle) → take_number middle ≡ Some (jump, after) → target_at offset jump ≡ None → pairs_at offset (suc left) bytes ≡ None
unfolding pairs_at
pairs_at-astray offset left bytes key middle jump after first second none = rw (first, second, none) refl

abbrev pub PairsSoFar : ℕ → ℕ → ℕ → Option Pairs → List ℤ → List ℕ → List ℕ → Type 0
PairsSoFar offset count k all keys targets bytes = all ≡ behind_both keys targets (pairs_at offset (count - k) bytes)

none_left : (offset count k : ℕ) (all : Option Pairs) (keys : List ℤ) (targets : List ℕ) (bytes : List ℕ) → k < count → PairsSoFar offset count k all keys targets bytes
    → pairs_at offset (suc (count - (k + 1))) bytes ≡ None → all ≡ None
none_left offset count k all keys targets bytes within so_far none =
    so_far ∙ ap (λ (n : ℕ). behind_both keys targets (pairs_at offset n bytes)) (step count k within) ∙ ap (behind_both keys targets) none

pub pairs_at-no_key : (offset count k : ℕ) (all : Option Pairs) (keys : List ℤ) (targets : List ℕ) (bytes : List ℕ) → k < count → PairsSoFar offset count k all keys targets bytes
    → take_number bytes ≡ None → all ≡ None
pairs_at-no_key offset count k all keys targets bytes within so_far none =
    none_left offset count k all keys targets bytes within so_far (pairs_at-cut offset (count - (k + 1)) bytes none)

pub pairs_at-no_jump : (offset count k : ℕ) (all : Option Pairs) (keys : List ℤ) (targets : List ℕ) (bytes : List ℕ) (key : ℤ) (middle : List ℕ)
    → k < count → PairsSoFar offset count k all keys targets bytes → take_number bytes ≡ Some (key, middle) → take_number middle ≡ None → all ≡ None
pairs_at-no_jump offset count k all keys targets bytes key middle within so_far first none =
    none_left offset count k all keys targets bytes within so_far (pairs_at-half offset (count - (k + 1)) bytes key middle first none)

pub pairs_at-no_target : (offset count k : ℕ) (all : Option Pairs) (keys : List ℤ) (targets : List ℕ) (bytes : List ℕ) (key : ℤ) (middle : List ℕ) (jump : ℤ) (after : List ℕ)
    → k < count → PairsSoFar offset count k all keys targets bytes → take_number bytes ≡ Some (key, middle) → take_number middle ≡ Some (jump, after)
    → target_at offset jump ≡ None → all ≡ None
pairs_at-no_target offset count k all keys targets bytes key middle jump after within so_far first second none =
    none_left offset count k all keys targets bytes within so_far (pairs_at-astray offset (count - (k + 1)) bytes key middle jump after first second none)

pairs_at-zero : (offset : ℕ) (bytes : List ℕ) → pairs_at offset 0 bytes ≡ Some ([], [])
unfolding pairs_at
pairs_at-zero offset bytes = refl

pub pairs_at-end : (offset count k : ℕ) (all : Option Pairs) (keys : List ℤ) (targets : List ℕ) (bytes : List ℕ) → count ≤ k → PairsSoFar offset count k all keys targets bytes
    → all ≡ Some (keys, targets)
pairs_at-end offset count k all keys targets bytes end so_far =
    let none : count - k ≡ 0 = omega arith in
    so_far ∙ ap (λ (n : ℕ). behind_both keys targets (pairs_at offset n bytes)) none ∙ ap (behind_both keys targets) (pairs_at-zero offset bytes)
    ∙ (λ i. Some (append-nil keys i, append-nil targets i))

-- ---- rising keys

next : (k : ℕ) → suc k + 1 ≡ suc (k + 1)
next k = omega arith

pub rising-true : (xs : List ℤ) → AllAdjacentBelow (λ x y. true ≡ int_lt x y) xs (length xs) → true ≡ are_rising xs
rising-true [] all = refl
rising-true (x ∷ []) all = refl
rising-true (x ∷ y ∷ xs) all =
    let first : true ≡ int_lt x y = all 0 x (omega arith) in
    let rest = rising-true (y ∷ xs) (λ k d within. subst (λ (n : ℕ). true ≡ int_lt (get_or (y ∷ xs) k d) (get_or (x ∷ y ∷ xs) n d)) (next k) (all (suc k) d (omega arith))) in
    rw (← first) rest

pub rising-false : (xs : List ℤ) (k : ℕ) → k + 1 < length xs → ((d : ℤ) → false ≡ int_lt (get_or xs k d) (get_or xs (k + 1) d)) → false ≡ are_rising xs
rising-false [] k within there = absurd (omega arith)
rising-false (x ∷ []) k within there = absurd (omega arith)
rising-false (x ∷ y ∷ xs) zero within there = let first : false ≡ int_lt x y = there x in rw (← first) refl
rising-false (x ∷ y ∷ xs) (suc k) within there =
    let rest = rising-false (y ∷ xs) k (omega arith) (λ d. subst (λ (n : ℕ). false ≡ int_lt (get_or (y ∷ xs) k d) (get_or (x ∷ y ∷ xs) n d)) (next k) (there d)) in
    elim (cases_Bool (int_lt x y)) [ inl less ↦ rw less rest | inr other ↦ rw other refl ]
