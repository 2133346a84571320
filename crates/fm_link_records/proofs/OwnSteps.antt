-- The tables of each class's own methods, one entry and one table after the other.
use Rattle.std.proofs.Common.{◌≡◌, refl, sym, ◌∙◌, ap, subst, ℕ, suc, ◌+◌, ◌-◌, ◌<◌, ◌≤◌, ◌&&◌, ◌⊎◌, inl, inr, cond, nat_eq, List, [], ◌∷◌, ◌++◌, length, get_or, Option, Some, None, slice_get, IsSomeAnd, arith}
use Rattle.std.specs.HashMap.{HashMap}
use Rattle.std.proofs.lemmas.Bool.{cases_lt}
use Rattle.std.proofs.lemmas.List.{length_push}
use Rattle.fm_base.proofs.ListFacts.{slice_get-append_left, slice_get_push}
use Rattle.fm_world.specs.Members.{is_instance}
use Rattle.fm_link_records.specs.inner.Own.{own_from, AreOwnTables, IsOwnTable}

-- one method more, before the others
pub own_step : (signatures flags : List ℕ) (end k left : ℕ) (old new : ℕ → Option ℕ) (signature flag : ℕ) → left ≡ k + 1 → left ≤ end
    → signature ≡ get_or signatures k 0 → flag ≡ get_or flags k 0
    → ((s : ℕ) → old s ≡ own_from signatures flags s (end - left) left)
    → ((s : ℕ) → new s ≡ cond (nat_eq signature s && is_instance flag) (Some k) (old s))
    → (s : ℕ) → new s ≡ own_from signatures flags s (end - k) k
own_step signatures flags end k left old new signature flag next within sig fl before after s =
    let more : end - k ≡ suc (end - left) = omega (arith, next, within) in
    after s
    ∙ ap (λ n. cond (nat_eq n s && is_instance flag) (Some k) (old s)) sig
    ∙ ap (λ n. cond (nat_eq (get_or signatures k 0) s && is_instance n) (Some k) (old s)) fl
    ∙ ap (cond (nat_eq (get_or signatures k 0) s && is_instance (get_or flags k 0)) (Some k))
    (before s ∙ ap (own_from signatures flags s (end - left)) next)
    ∙ sym (ap (λ n. own_from signatures flags s n k) more)

some_at : {A : Type 0} (P : A → Type 0) (xs ys : List A) (i : ℕ) → IsSomeAnd (slice_get xs i) P → IsSomeAnd (slice_get (xs ++ ys) i) P
some_at {A} P xs ys i h = by (slice_get xs i) refl h where
  by : (o : Option A) → slice_get xs i ≡ o → IsSomeAnd o P → IsSomeAnd (slice_get (xs ++ ys) i) P
  by None e k = absurd k
  by (Some x) e k = let Q : Option A → Type 0 = λ o. IsSomeAnd o P in subst Q (sym (slice_get-append_left xs ys i x e)) k

-- one table more
pub tables_more : {S : Type 0} (first signatures flags : List ℕ) (old new : List (HashMap ℕ ℕ S)) (table : HashMap ℕ ℕ S) (start end class : ℕ)
    → new ≡ old ++ table ∷ [] → length old + 1 ≡ class → IsOwnTable signatures flags start end table
    → start ≡ get_or first (class - 1) 0 → end ≡ get_or first class 0
    → AreOwnTables first signatures flags old → AreOwnTables first signatures flags new
tables_more {S} first signatures flags old new table start end class is count own starts ends before i h = by (cases_lt i (length old)) where
  P : HashMap ℕ ℕ S → Type 0
  P = IsOwnTable signatures flags (get_or first i 0) (get_or first (i + 1) 0)

  back : IsSomeAnd (slice_get (old ++ table ∷ []) i) P → IsSomeAnd (slice_get new i) P
  back k = let Q : List (HashMap ℕ ℕ S) → Type 0 = λ ts. IsSomeAnd (slice_get ts i) P in subst Q (sym is) k

  by : (i < length old) ⊎ (length old ≤ i) → IsSomeAnd (slice_get new i) P
  by (inl below) = back (some_at P old (table ∷ []) i (before i below))
  by (inr above) =
      let last : i ≡ length old = let l = length_push old table in let e = ap length is in omega (arith, h, above, l, e) in
      let from : start ≡ get_or first i 0 = starts ∙ ap (λ k. get_or first k 0) (let e : class - 1 ≡ i = omega (arith, last, count) in e) in
      let to : end ≡ get_or first (i + 1) 0 = ends ∙ ap (λ k. get_or first k 0) (let e : class ≡ i + 1 = omega (arith, last, count) in e) in
      let here : P table = let Q : ℕ → Type 0 = λ a. IsOwnTable signatures flags a (get_or first (i + 1) 0) table in
      let R : ℕ → Type 0 = λ b. IsOwnTable signatures flags start b table in subst Q from (subst R to own) in
      let Q : Option (HashMap ℕ ℕ S) → Type 0 = λ o. IsSomeAnd o P in
      back (subst Q (sym (ap (slice_get (old ++ table ∷ [])) last ∙ slice_get_push old table)) here)
