-- The places that have a mark are the numbers that pass the test of the marks.
use Rattle.std.proofs.Common.{◌≡◌, refl, sym, ◌∙◌, ap, ℕ, zero, suc, ◌+◌, ◌<◌, Bool, true, false, cond, List, [], ◌∷◌, ◌++◌, length, map, filter, get_or, zero-add, arith}
use Rattle.std.specs.List.{range_with_len}
use Rattle.std.proofs.lemmas.List.{append-nil}
use Rattle.std.proofs.lemmas.List.Elements.{filter-append}
use Rattle.std.proofs.lemmas.List.FromFn.{get_or-map-range_with_len, length-map-range_with_len}

pub range-append : (a m n : ℕ) → range_with_len a (m + n) ≡ range_with_len a m ++ range_with_len (a + m) n
range-append a zero n =
    let e : zero + n ≡ n = omega arith in let g : a ≡ a + zero = omega arith in
    ap (λ k. range_with_len a k) e ∙ ap (λ k. range_with_len k n) g
range-append a (suc m) n =
    let e : suc m + n ≡ suc (m + n) = omega arith in let g : a + 1 + m ≡ a + suc m = omega arith in
    ap (λ k. range_with_len a k) e ∙ ap (λ xs. a ∷ xs) (range-append (a + 1) m n)
    ∙ ap (λ k. a ∷ (range_with_len (a + 1) m ++ range_with_len k n)) g

-- one place more
pub places_more : (p : ℕ → Bool) (i : ℕ) (old new : List ℕ) (index : ℕ) → old ≡ filter p (range_with_len 0 i) → index ≡ i
    → new ≡ cond (p i) (old ++ index ∷ []) old → new ≡ filter p (range_with_len 0 (i + 1))
places_more p i old new index before at is =
    is ∙ ap (λ k. cond (p i) (old ++ k ∷ []) old) at ∙ by (p i) ∙ ap (λ xs. xs ++ cond (p i) (i ∷ []) []) before
    ∙ sym (ap (filter p) (range-append 0 i 1 ∙ ap (λ k. range_with_len 0 i ++ k ∷ []) (zero-add i))
    ∙ filter-append p (range_with_len 0 i) (i ∷ [])) where
      by : (b : Bool) → cond b (old ++ i ∷ []) old ≡ old ++ cond b (i ∷ []) []
      by true = refl
      by false = sym (append-nil old)

filter-below : (p q : ℕ → Bool) (a n : ℕ) → ((k : ℕ) → k < a + n → p k ≡ q k) → filter p (range_with_len a n) ≡ filter q (range_with_len a n)
filter-below p q a zero same = refl
filter-below p q a (suc n) same =
    ap (λ b. cond b (a ∷ filter p (range_with_len (a + 1) n)) (filter p (range_with_len (a + 1) n))) (same a (omega arith))
    ∙ ap (λ xs. cond (q a) (a ∷ xs) xs) (filter-below p q (a + 1) n (λ k h. same k (omega (arith, h))))

-- the marks of a test
pub places_of : (p : ℕ → Bool) (n : ℕ) (marks : List Bool) (places : List ℕ) → marks ≡ map p (range_with_len 0 n)
    → places ≡ filter (λ k. get_or marks k false) (range_with_len 0 (length marks)) → places ≡ filter p (range_with_len 0 n)
places_of p n marks places are is =
    is ∙ ap (λ ms. filter (λ k. get_or ms k false) (range_with_len 0 (length ms))) are
    ∙ ap (λ m. filter (λ k. get_or (map p (range_with_len 0 n)) k false) (range_with_len 0 m)) (length-map-range_with_len p 0 n)
    ∙ filter-below (λ k. get_or (map p (range_with_len 0 n)) k false) p 0 n
    (λ k h. get_or-map-range_with_len p 0 n k k false (omega (arith, h)) (zero-add k))
