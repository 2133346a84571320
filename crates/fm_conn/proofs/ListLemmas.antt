-- Elements of lists that are made piece by piece, and of ranges of numbers.
use Rattle.std.proofs.Common.{◌≡◌, ℕ, zero, suc, ◌+◌, ◌<◌, ◌≤◌, Bool, true, List, [], ◌∷◌, ◌++◌, map, IsSomeAnd, Contains, refl, ap, sym, ◌∙◌, inl, inr, ⊎_elim, append_assoc, append-nil, arith}
use Rattle.std.proofs.lemmas.Bool.{cases_lt, false≢true}
use Rattle.std.proofs.lemmas.List.Elements.{Contains-append_right}
use Rattle.std.proofs.lemmas.Grind.{flat_map-append}
use Rattle.std.specs.List.{flat_map, range_with_len, slice_get}
use Rattle.fm_base.proofs.ContainsFacts.{Contains-cons_cases}
use Rattle.fm_base.proofs.ListFacts.{range-next}
use Rattle.fm_base.specs.Rows.{has}

-- the numbers of a range
pub Contains-range : (a n k : ℕ) → a ≤ k → k < a + n → Contains (range_with_len a n) k
Contains-range a zero k low high = absurd (omega arith)
Contains-range a (suc n) k low high =
    ⊎_elim (λ (same : k ≡ a). (0, omega arith, sym same)) (λ later. Contains-append_right (a ∷ []) (range_with_len (a + 1) n) k later)
    (⊎_elim (λ (up : a < k). inr (Contains-range (a + 1) n k (omega arith) (omega arith))) (λ (le : k ≤ a). inl (omega arith)) (cases_lt a k))

pub Contains-from_range : (a n k : ℕ) → Contains (range_with_len a n) k → (a ≤ k) × (k < a + n)
Contains-from_range a zero k (i, within, there) = absurd (omega arith)
Contains-from_range a (suc n) k found =
    ⊎_elim (λ (same : k ≡ a). (omega arith, omega arith)) (λ later. let was = Contains-from_range (a + 1) n k later in (omega arith, omega arith))
    (Contains-cons_cases a (range_with_len (a + 1) n) k found)

-- the only element
pub Contains-one : {X : Type 0} (x y : X) → Contains (x ∷ []) y → y ≡ x
Contains-one x y found = ⊎_elim (λ same. same) (λ (k, within, there). absurd (omega arith)) (Contains-cons_cases x [] y found)

-- a bit of a mapped list
pub has-map : {X : Type 0} (f : X → Bool) (xs : List X) (d : ℕ) → has (map f xs) d ≡ true → IsSomeAnd (slice_get xs d) (λ s. f s ≡ true)
has-map f [] d set = false≢true set
has-map f (x ∷ xs) zero set = set
has-map f (x ∷ xs) (suc d) set = has-map f xs d set

pub has-from_map : {X : Type 0} (f : X → Bool) (xs : List X) (d : ℕ) → IsSomeAnd (slice_get xs d) (λ s. f s ≡ true) → has (map f xs) d ≡ true
has-from_map f [] d some = absurd some
has-from_map f (x ∷ xs) zero some = some
has-from_map f (x ∷ xs) (suc d) some = has-from_map f xs d some

-- ---- lists that loops make, a number more

pub flat_range : {X : Type 0} (f : ℕ → List X) (n : ℕ) → flat_map f (range_with_len 0 (n + 1)) ≡ flat_map f (range_with_len 0 n) ++ f n
flat_range f n =
    let one : n + 1 ≡ suc n = omega arith in
    let same : 0 + n ≡ n = omega arith in
    ap (λ k. flat_map f (range_with_len 0 k)) one ∙ ap (flat_map f) (range-next 0 n) ∙ flat_map-append f (range_with_len 0 n) ((0 + n) ∷ [])
    ∙ ap (λ k. flat_map f (range_with_len 0 n) ++ (f k ++ [])) same ∙ ap (λ list. flat_map f (range_with_len 0 n) ++ list) (append-nil (f n))

-- after a piece more is put at the end
pub flat_range_next : {X : Type 0} (f : ℕ → List X) (n : ℕ) (before after : List X) → before ≡ flat_map f (range_with_len 0 n) → after ≡ before ++ f n →
    after ≡ flat_map f (range_with_len 0 (n + 1))
flat_range_next f n before after so_far more = more ∙ ap (λ list. list ++ f n) so_far ∙ sym (flat_range f n)

pub flat_range_more : {X : Type 0} (f : ℕ → List X) (n : ℕ) (first before after : List X) → before ≡ first ++ flat_map f (range_with_len 0 n) →
    after ≡ before ++ f n → after ≡ first ++ flat_map f (range_with_len 0 (n + 1))
flat_range_more f n first before after so_far more =
    more ∙ ap (λ list. list ++ f n) so_far ∙ append_assoc first (flat_map f (range_with_len 0 n)) (f n) ∙ ap (λ list. first ++ list) (sym (flat_range f n))

-- ---- elements of lists that are mapped

pub Contains-first : {X : Type 0} (x : X) (xs : List X) → Contains (x ∷ xs) x
Contains-first x xs = (0, omega arith, refl)
