-- The units of a name one after the other: none is 0, and each unit of a surrogate pair has its partner.
use Rattle.std.proofs.Common.{◌≡◌, ◌↔◌, ℕ, ◌<◌, ◌≤◌, Bool, true, false, ◌&&◌, ◌||◌, not, eqb, ltb, IsTrue, inl, inr, List, [], ◌∷◌, Some, None, refl, sym, ap, ◌∙◌, arith}
use Rattle.std.specs.List.{list_any}
use Rattle.std.specs.Char.Utf16.{is_high_surrogate, is_low_surrogate, lone_unit_char, utf16_chars, has_unpaired_surrogate}
use Rattle.std.proofs.lemmas.Bool.{cases_Bool, lt-ltb, le-leb, lt-leb, ltb-true, ltb-false, false≢true}
use Rattle.fm_base.specs.Texts.{units}
use Rattle.fm_code.specs.Profile.{IsSupportedName}
use Rattle.fm_read_limits.specs.inner.ClassNames.{may_follow, are_whole}

-- the three sorts of units
data Sort (u : ℕ) : Type 0 where
  of_high : is_high_surrogate u ≡ true → is_low_surrogate u ≡ false → lone_unit_char u ≡ None → Sort u
  of_low : is_high_surrogate u ≡ false → is_low_surrogate u ≡ true → lone_unit_char u ≡ None → Sort u
  of_plain : is_high_surrogate u ≡ false → is_low_surrogate u ≡ false → lone_unit_char u ≡ Some u → Sort u

sort_of : (u : ℕ) → Sort u
sort_of u =
    elim (cases_Bool (ltb u 55296)) [
      | inl under ↦ let less : u < 55296 = ltb-true u 55296 under in
          of_plain (rw (lt-leb _ _ less) refl) (rw (lt-leb 56320 u (omega (arith, less))) refl) (rw (lt-leb _ _ less) refl)
      | inr not_under ↦ let more : 55296 ≤ u = ltb-false u 55296 not_under in elim (cases_Bool (ltb u 56320)) [
        | inl first ↦ let less : u < 56320 = ltb-true u 56320 first in
            of_high (rw (le-leb _ _ more, first) refl) (rw (lt-leb _ _ less) refl) (rw (le-leb _ _ more, lt-ltb u 57344 (omega (arith, less))) refl)
        | inr not_first ↦ let second : 56320 ≤ u = ltb-false u 56320 not_first in elim (cases_Bool (ltb u 57344)) [
          | inl within ↦ of_low (rw (le-leb _ _ more, not_first) refl) (rw (le-leb _ _ second, within) refl) (rw (le-leb _ _ more, within) refl)
          | inr above ↦ of_plain (rw (le-leb _ _ more, not_first) refl) (rw (le-leb _ _ second, above) refl) (rw (le-leb _ _ more, above) refl)
        ]
      ]
    ]

-- a unit is left alone
abbrev lone : Bool → List ℕ → Bool
lone high [] = high
lone high (u ∷ us) = not (may_follow high u) || lone (is_high_surrogate u) us

lone_is : (us : List ℕ) → lone false us ≡ has_unpaired_surrogate us
unfolding utf16_chars
lone_is [] = refl
lone_is (u ∷ []) =
    elim (sort_of u) [
      | of_high h l e ↦ rw (h, l, e) refl
      | of_low h l e ↦ rw (h, l, e) refl
      | of_plain h l e ↦ rw (h, l, e) refl
    ]
lone_is (u ∷ v ∷ us) =
    elim (sort_of u) [
      | of_high h l e ↦ elim (sort_of v) [
        | of_high h' l' e' ↦ rw (h, l, e, l') refl
        | of_low h' l' e' ↦ rw (h, l, l', h') (lone_is us)
        | of_plain h' l' e' ↦ rw (h, l, e, l') refl
      ]
      | of_low h l e ↦ rw (h, l, e) refl
      | of_plain h l e ↦ rw (h, l, e) (lone_is (v ∷ us))
    ]

-- both together
parted : (a b c d : Bool) → (not a && (b && (not c && not d))) ≡ (not (a || c) && not (not b || d))
parted true b c d = refl
parted false true true d = refl
parted false true false d = refl
parted false false true d = refl
parted false false false d = refl

whole_is : (high : Bool) (us : List ℕ) → are_whole high us ≡ (not (list_any (λ u. eqb u 0) us) && not (lone high us))
whole_is high [] = refl
whole_is high (u ∷ us) =
    ap (λ (b : Bool). not (eqb u 0) && (may_follow high u && b)) (whole_is (is_high_surrogate u) us)
    ∙ parted (eqb u 0) (may_follow high u) (list_any (λ u. eqb u 0) us) (lone (is_high_surrogate u) us)

both_false : (a b : Bool) → (not a && not b) ≡ true → (a ≡ false) × (b ≡ false)
both_false true b e = absurd (false≢true e)
both_false false true e = absurd (false≢true e)
both_false false false e = (refl, refl)

-- the test decides
pub whole_name : (name : List ℕ) → (are_whole false (units name) ≡ true) ↔ IsSupportedName name
whole_name name =
    let us = units name in
    let is : are_whole false us ≡ (not (list_any (λ u. eqb u 0) us) && not (has_unpaired_surrogate us)) = whole_is false us ∙ ap (λ (b : Bool). not (list_any (λ u. eqb u 0) us) && not b) (lone_is us) in (
      λ t. let both = both_false (list_any (λ u. eqb u 0) us) (has_unpaired_surrogate us) (sym is ∙ t) in record { no_zero = both.0; whole_pairs = both.1 },
      λ name_is. is ∙ rw (name_is.no_zero, name_is.whole_pairs) refl,
    )

-- what decides is the result
pub decided : (name : List ℕ) (answer : Bool) → are_whole false (units name) ≡ answer → (IsTrue answer → IsSupportedName name) × (IsSupportedName name → IsTrue answer)
decided name answer is = (λ t. (whole_name name).0 (is ∙ t), λ supported. sym is ∙ (whole_name name).1 supported)

pub zero_refused : (high : Bool) (u : ℕ) (us : List ℕ) → u ≡ 0 → are_whole high (u ∷ us) ≡ false
zero_refused high u us zero = ap (λ (v : ℕ). are_whole high (v ∷ us)) zero

pub alone_refused : (high : Bool) (u : ℕ) (us : List ℕ) → may_follow high u ≡ false → are_whole high (u ∷ us) ≡ false
alone_refused high u us refused = elim (cases_Bool (eqb u 0)) [ inl zero ↦ rw zero refl | inr other ↦ rw (other, refused) refl ]
