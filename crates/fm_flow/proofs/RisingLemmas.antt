-- Lists of numbers that rise, and what they have.
use Rattle.std.proofs.Common.{◌≡◌, ℕ, ◌+◌, ◌<◌, ◌≤◌, ◌⊎◌, ◌↔◌, eqb, List, [], ◌∷◌, ◌++◌, length, take, get_or, Contains, ap, sym, subst, ⊎_elim, arith}
use Rattle.std.proofs.lemmas.Bool.{cases_eq}
use Rattle.std.proofs.lemmas.List.{take_more}
use Rattle.std.proofs.lemmas.List.Elements.{Contains-append_left, Contains-push, Contains-push_cases}
use Rattle.std.proofs.lemmas.List.Filters.{dedup_is}
use Rattle.std.proofs.lemmas.List.Kept.{AllPairs-from_increasing, Contains-dedup_nat, Contains-from_dedup}
use Rattle.std.proofs.lemmas.List.Sorted.{Contains-permutation, IsPermutation-sym}
use Rattle.std.proofs.lemmas.Map.Keys.{IsStrictlyIncreasing-dedup}
use Rattle.std.specs.List.{dedup}
use Rattle.std.specs.List.Retain.{IsFiltered, DiffersFromLast}
use Rattle.std.specs.List.Sorted.{IsPermutation, IsSorted, IsStrictlyIncreasing}
use Rattle.std.specs.Ordering.{nat_cmp}
use Rattle.fm_flow.specs.inner.Walks.{IsRisingListOf}

-- a list with the same numbers
pub IsRisingListOf-same : (P Q : ℕ → Type 0) (xs : List ℕ) → IsRisingListOf P xs → ((x : ℕ) → P x ↔ Q x) → IsRisingListOf Q xs
IsRisingListOf-same P Q xs lists same = record {
  rising = lists.rising;
  members = λ x. (λ found. (same x).0 ((lists.members x).0 found), λ q. (lists.members x).1 ((same x).1 q));
}

-- what a sort and then the removal of equal neighbours leave
pub IsRisingListOf-sorted : (xs ys zs : List ℕ) → IsPermutation xs ys → IsSorted nat_cmp ys → IsFiltered (DiffersFromLast eqb) [] ys zs →
    IsRisingListOf (Contains xs) zs
IsRisingListOf-sorted xs ys zs permutation sorted filtered =
    let is : zs ≡ dedup eqb ys = dedup_is eqb ys zs filtered in
    subst (λ (list : List ℕ). IsRisingListOf (Contains xs) list) (sym is) record {
      rising = IsStrictlyIncreasing-dedup ys sorted;
      members = λ x. (
        λ found. Contains-permutation ys xs x (IsPermutation-sym xs ys permutation) (Contains-from_dedup eqb ys x found),
        λ found. Contains-dedup_nat ys x (Contains-permutation xs ys x permutation found),
      );
    }

-- an earlier number is below a later one
pub rising_pair : (xs : List ℕ) → IsStrictlyIncreasing xs → (i j : ℕ) → i < j → j < length xs → get_or xs i 0 < get_or xs j 0
rising_pair xs rising i j before inside = AllPairs-from_increasing xs rising i j 0 before inside

-- the numbers of a list one longer
pub Contains-take_more : (xs : List ℕ) (i x : ℕ) → i < length xs → Contains (take (i + 1) xs) x ↔ (Contains (take i xs) x ⊎ (get_or xs i 0 ≡ x))
Contains-take_more xs i x inside =
    let e : take (i + 1) xs ≡ take i xs ++ get_or xs i 0 ∷ [] = take_more xs i 0 inside in
    let P : List ℕ → Type 0 = λ list. Contains list x in (
      λ found. Contains-push_cases (take i xs) (get_or xs i 0) x (subst P e found),
      λ found. subst P (sym e)
          (⊎_elim (λ before. Contains-append_left (take i xs) (get_or xs i 0 ∷ []) x before)
          (λ (same : get_or xs i 0 ≡ x). subst (λ (n : ℕ). Contains (take i xs ++ get_or xs i 0 ∷ []) n) same (Contains-push (take i xs) (get_or xs i 0)))
          found),
    )

-- a number of a rising list is not above a later one
pub not_above : (xs : List ℕ) → IsStrictlyIncreasing xs → (i k : ℕ) → i ≤ k → k < length xs → get_or xs i 0 ≤ get_or xs k 0
not_above xs rising i k after inside =
    ⊎_elim (λ (same : i ≡ k). let e = ap (λ m. get_or xs m 0) same in omega arith)
    (λ apart. let was = rising_pair xs rising i k (omega arith) inside in omega arith)
    (cases_eq i k)
