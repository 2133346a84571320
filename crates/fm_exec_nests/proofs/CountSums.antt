-- How many arrays are made, held at the greatest 64-bit number.
use Rattle.std.proofs.Common.{◌≡◌, ◌⊎◌, inl, inr, ℕ, zero, suc, ◌+◌, ◌-◌, ◌*◌, ◌<◌, ◌≤◌, ℤ, pos, Bool, true, false, if◌then◌else◌, List, min, Option, Some, None, option_map, slice_get, refl, ap, sym, ◌∙◌, arith}
use Rattle.std.specs.Prelude.{int_lt, unsigned_abs}
use Rattle.std.proofs.Math.Nat.{mul_comm, mul-le-mul_right}
use Rattle.std.proofs.lemmas.Bool.{cases_lt}
use Rattle.std.proofs.lemmas.Option.{none-some, same_Some}
use Rattle.fm_frames.specs.Steps.{most_words}
use Rattle.fm_frames.specs.declared.values.Value.{Value}
use Rattle.fm_frames.specs.inner.Doings.{int_in}
use Rattle.fm_exec.proofs.ArraySteps.{len_of}
use Rattle.fm_exec_nests.specs.inner.Counts.{arrays_on, arrays_with, counted}

-- a product and a sum, each held at the greatest number
pub told-more : (m len own : ℕ) → min (min (min m most_words * len) most_words + own) most_words ≡ min (own + len * m) most_words
told-more m len own = by_size (cases_lt most_words m) where
  turned : m * len ≡ len * m
  turned = mul_comm m len

  by_size : (most_words < m) ⊎ (m ≤ most_words) → min (min (min m most_words * len) most_words + own) most_words ≡ min (own + len * m) most_words
  by_size (inr few) =
      let same : min m most_words ≡ m = omega (arith, few) in
      let product : min m most_words * len ≡ len * m = ap (λ k. k * len) same ∙ turned in
      omega (arith, product)
  by_size (inl many) = by_len len refl where
    by_len : (k : ℕ) → len ≡ k → min (min (min m most_words * len) most_words + own) most_words ≡ min (own + len * m) most_words
    by_len zero none =
        let product : min m most_words * len ≡ min m most_words * 0 = ap (λ k. min m most_words * k) none in
        let whole : len * m ≡ 0 * m = ap (λ k. k * m) none in
        omega (arith, product, whole)
    by_len (suc k) some =
        let more : 1 ≤ len = omega (arith, some) in
        let held : most_words ≤ min m most_words = omega (arith, many) in
        let product : 1 * min m most_words ≤ len * min m most_words = mul-le-mul_right (min m most_words) more in
        let product_turned : min m most_words * len ≡ len * min m most_words = mul_comm (min m most_words) len in
        let whole : 1 * m ≤ len * m = mul-le-mul_right m more in
        omega (arith, held, product, product_turned, whole, many)

-- ---- counts on the stack

abbrev pub told : Option ℕ → Option ℕ
told made = option_map (λ n. min n most_words) made

pub arrays-next : (stack : List Value) (place made len : ℕ) (n : ℤ) → Some n ≡ int_in (slice_get stack place) → Some len ≡ len_of n
    → Some made ≡ told (arrays_on stack place) → Some (min (min (made * len) most_words + 1) most_words) ≡ told (arrays_on stack (suc place))
arrays-next stack place made len n is fits so =
    by_made (arrays_on stack place) so
    ∙ ap (λ found. told (counted found (arrays_on stack place))) is where
      of_len : (k : ℕ) → Some len ≡ len_of n → told (arrays_with n k) ≡ Some (min (1 + len * k) most_words)
      of_len k fits = by_sign (int_lt n (pos 0)) fits where
        by_sign : (b : Bool) → Some len ≡ (if b then None else Some (unsigned_abs n))
            → told (if b then None else Some (1 + unsigned_abs n * k)) ≡ Some (min (1 + len * k) most_words)
        by_sign true some = absurd (none-some _ (sym some))
        by_sign false some = ap (λ l. Some (min (1 + l * k) most_words)) (sym (same_Some _ _ some))

      by_made : (before : Option ℕ) → Some made ≡ told before → Some (min (min (made * len) most_words + 1) most_words) ≡ told (counted (Some n) before)
      by_made None so = absurd (none-some _ (sym so))
      by_made (Some k) so =
          let held : made ≡ min k most_words = same_Some _ _ so in
          ap (λ m. Some (min (min (m * len) most_words + 1) most_words)) held ∙ ap Some (told-more k len 1) ∙ sym (of_len k fits)

none-more : (stack : List Value) (place more n : ℕ) → n ≡ more + place → arrays_on stack place ≡ None → arrays_on stack n ≡ None
none-more stack place zero n is none = let same : n ≡ place = omega (arith, is) in ap (arrays_on stack) same ∙ none
none-more stack place (suc more) n is none =
    let same : n ≡ suc (more + place) = omega (arith, is) in
    ap (arrays_on stack) same ∙ ap (counted (int_in (slice_get stack (more + place)))) (none-more stack place more (more + place) refl none)
    ∙ by_count (int_in (slice_get stack (more + place))) where
      by_count : (n : Option ℤ) → counted n None ≡ None
      by_count None = refl
      by_count (Some n) = refl

pub arrays-none : (stack : List Value) (place dimensions : ℕ) → place < dimensions → arrays_on stack (suc place) ≡ None → None ≡ told (arrays_on stack dimensions)
arrays-none stack place dimensions inside none =
    sym (ap told (none-more stack (suc place) (dimensions - suc place) dimensions (omega (arith, inside)) none))

pub none-counted : (stack : List Value) (place : ℕ) → None ≡ int_in (slice_get stack place) → arrays_on stack (suc place) ≡ None
none-counted stack place none = ap (λ found. counted found (arrays_on stack place)) (sym none)

pub negative-counted : (stack : List Value) (place : ℕ) (n : ℤ) → Some n ≡ int_in (slice_get stack place) → None ≡ len_of n → arrays_on stack (suc place) ≡ None
negative-counted stack place n is negative =
    ap (λ found. counted found (arrays_on stack place)) (sym is) ∙ by_made (arrays_on stack place) where
      of_len : (k : ℕ) → arrays_with n k ≡ None
      of_len k = by_sign (int_lt n (pos 0)) negative where
        by_sign : (b : Bool) → None ≡ (if b then None else Some (unsigned_abs n)) → (if b then None else Some (1 + unsigned_abs n * k)) ≡ None
        by_sign true none = refl
        by_sign false none = absurd (none-some _ none)

      by_made : (before : Option ℕ) → counted (Some n) before ≡ None
      by_made None = refl
      by_made (Some k) = of_len k
