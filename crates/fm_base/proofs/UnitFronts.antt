-- One unit of modified UTF-8 after the other: what is at the front decides, and the rest is asked next.
use Rattle.std.proofs.Common.{◌≡◌, ◌↔◌, ℕ, ◌+◌, ◌-◌, ◌*◌, ◌/◌, ◌%◌, ◌<◌, ◌≤◌, ◌⊎◌, inl, inr, Bool, eqb, ltb, IsTrue, Option, Some, List, [], ◌∷◌, ◌++◌, length, refl, sym, ap, subst, ◌∙◌, arith}
use Rattle.std.specs.List.{flat_map, AllByRecursion}
use Rattle.std.proofs.lemmas.Bool.{cases_Bool, eqb-true, ltb-true, ltb-false}
use Rattle.std.proofs.lemmas.List.{nil_from_length}
use Rattle.std.proofs.lemmas.List.Concat.{flat_map-cons}
use Rattle.fm_base.specs.Texts.{unit_bytes, units, IsModifiedUtf8}
use Rattle.fm_base.proofs.TextsLemmas.{of_one, of_two, of_three, form_of, unit_bytes-one, unit_bytes-two, unit_bytes-three, IsModifiedUtf8-flat_map}
use Rattle.fm_base.specs.inner.Texts.{IsPair, IsTriple, StartsWithUnit}
use Rattle.fm_base.proofs.ListFacts.{same_head, same_tail}

-- what a function returns where it finds a rest
abbrev pub found : List ℕ → Option (List ℕ)
found rest = Some rest

pub found_is : (xs ys : List ℕ) → found xs ≡ found ys → xs ≡ ys
found_is xs ys e = cc

-- ---- a unit by its first bytes

-- the three shapes of what begins with a unit
pub data Front (bytes rest : List ℕ) : Type 0 where
  one : (a : ℕ) → 0 < a → a < 128 → bytes ≡ a ∷ rest → Front bytes rest
  pair : (a b : ℕ) → IsPair a b → bytes ≡ a ∷ b ∷ rest → Front bytes rest
  triple : (a b c : ℕ) → IsTriple a b c → bytes ≡ a ∷ b ∷ c ∷ rest → Front bytes rest

pub front : (bytes rest : List ℕ) → StartsWithUnit bytes rest → Front bytes rest
front bytes rest w =
    let u = w.unit in
    let fits = w.in_range in
    elim (form_of w.unit) [
      | of_one some low is ↦ one u some low (w.bytes_are ∙ ap (λ (us : List ℕ). us ++ rest) is)
      | of_two apart low is ↦ pair (192 + u / 64) (128 + u % 64) (two_is u apart low) (w.bytes_are ∙ ap (λ (us : List ℕ). us ++ rest) is)
      | of_three high is ↦ triple (224 + u / 4096) (128 + u / 64 % 64) (128 + u % 64) (three_is u high fits) (w.bytes_are ∙ ap (λ (us : List ℕ). us ++ rest) is)
    ] where
      two_is : (u : ℕ) → (u ≡ 0) ⊎ (128 ≤ u) → u < 2048 → IsPair (192 + u / 64) (128 + u % 64)
      two_is u (inl nul) low = ((omega arith, omega arith), inr (omega (arith, nul), omega (arith, nul)))
      two_is u (inr some) low = ((omega arith, omega arith), inl (omega (arith, some), omega (arith, low)))

      three_is : (u : ℕ) → 2048 ≤ u → u < 65536 → IsTriple (224 + u / 4096) (128 + u / 64 % 64) (128 + u % 64)
      three_is u high fits = ((omega arith, omega arith), (omega arith, omega arith), above (elim (cases_Bool (ltb u 4096)) [ inl low ↦ inl (ltb-true u 4096 low) | inr not_low ↦ inr (ltb-false u 4096 not_low) ])) where
        above : (u < 4096) ⊎ (4096 ≤ u) → ((225 ≤ 224 + u / 4096) × (224 + u / 4096 < 240)) ⊎ ((224 + u / 4096 ≡ 224) × (160 ≤ 128 + u / 64 % 64))
        above (inl small) = inr (omega (arith, small), omega (arith, small, high))
        above (inr large) = inl (omega (arith, large), omega (arith, fits))

-- and back
pub one_starts : (a : ℕ) (rest : List ℕ) → 0 < a → a < 128 → StartsWithUnit (a ∷ rest) rest
one_starts a rest some low = record { unit = a; in_range = omega arith; bytes_are = sym (ap (λ (us : List ℕ). us ++ rest) (unit_bytes-one a some low)) }

pub pair_starts : (a b : ℕ) (rest : List ℕ) → IsPair a b → StartsWithUnit (a ∷ b ∷ rest) rest
pair_starts a b rest (goes, first) =
    let u = (a - 192) * 64 + (b - 128) in
    let apart : (u ≡ 0) ⊎ (128 ≤ u) = elim first [ inl more ↦ inr (omega (arith, more.0)) | inr nul ↦ inl (omega (arith, nul.0, nul.1)) ] in
    let low : u < 2048 = elim first [ inl more ↦ omega (arith, more.1, goes.1) | inr nul ↦ omega (arith, nul.0, nul.1) ] in
    let above : 192 ≤ a = elim first [ inl more ↦ omega (arith, more.0) | inr nul ↦ omega (arith, nul.0) ] in
    let a_is : 192 + u / 64 ≡ a = omega (arith, above, goes.0, goes.1) in
    let b_is : 128 + u % 64 ≡ b = omega (arith, above, goes.0, goes.1) in
    let bytes : unit_bytes u ≡ a ∷ b ∷ [] = unit_bytes-two u apart low ∙ (λ i. a_is i ∷ b_is i ∷ []) in
    record { unit = u; in_range = omega (arith, low); bytes_are = sym (ap (λ (us : List ℕ). us ++ rest) bytes) }

pub triple_starts : (a b c : ℕ) (rest : List ℕ) → IsTriple a b c → StartsWithUnit (a ∷ b ∷ c ∷ rest) rest
triple_starts a b c rest (second, third, first) =
    let u = (a - 224) * 4096 + (b - 128) * 64 + (c - 128) in
    let above : 224 ≤ a = elim first [ inl more ↦ omega (arith, more.0) | inr least ↦ omega (arith, least.0) ] in
    let below : a < 240 = elim first [ inl more ↦ more.1 | inr least ↦ omega (arith, least.0) ] in
    let high : 2048 ≤ u = elim first [ inl more ↦ omega (arith, more.0, second.0) | inr least ↦ omega (arith, least.0, least.1) ] in
    let a_is : 224 + u / 4096 ≡ a = omega (arith, above, second.0, second.1, third.0, third.1) in
    let b_is : 128 + u / 64 % 64 ≡ b = omega (arith, above, second.0, second.1, third.0, third.1) in
    let c_is : 128 + u % 64 ≡ c = omega (arith, above, second.0, second.1, third.0, third.1) in
    let bytes : unit_bytes u ≡ a ∷ b ∷ c ∷ [] = unit_bytes-three u high ∙ (λ i. a_is i ∷ b_is i ∷ c_is i ∷ []) in
    record { unit = u; in_range = omega (arith, below, second.1, third.1); bytes_are = sym (ap (λ (us : List ℕ). us ++ rest) bytes) }

-- ---- what is at the front decides

-- the first byte of a pair or a triple
pair_first : (a b : ℕ) → IsPair a b → (192 ≤ a) × (a < 224)
pair_first a b (goes, inl more) = (omega (arith, more.0), more.1)
pair_first a b (goes, inr nul) = (omega (arith, nul.0), omega (arith, nul.0))

triple_first : (a b c : ℕ) → IsTriple a b c → (224 ≤ a) × (a < 240)
triple_first a b c (second, third, inl more) = (omega (arith, more.0), more.1)
triple_first a b c (second, third, inr least) = (omega (arith, least.0), omega (arith, least.0))

-- a byte from 1 to 127
pub one_decided : (a : ℕ) (t rest : List ℕ) → 0 < a → a < 128 → StartsWithUnit (a ∷ t) rest ↔ (found t ≡ found rest)
one_decided a t rest some low = (λ w. there (front (a ∷ t) rest w), λ e. subst (StartsWithUnit (a ∷ t)) (found_is t rest e) (one_starts a t some low)) where
  there : Front (a ∷ t) rest → found t ≡ found rest
  there (one b _ _ e) = ap found (same_tail _ _ _ _ e)
  there (pair b c is e) = absurd (let first = pair_first b c is in omega (arith, first.0, same_head _ _ _ _ e))
  there (triple b c d is e) = absurd (let first = triple_first b c d is in omega (arith, first.0, same_head _ _ _ _ e))

-- a byte that begins no unit
pub none_decided : (a : ℕ) (t rest : List ℕ) → (a ≡ 0) ⊎ ((128 ≤ a) × (a < 192)) ⊎ (240 ≤ a) → StartsWithUnit (a ∷ t) rest → ⊥
none_decided a t rest apart w = there (front (a ∷ t) rest w) where
  there : Front (a ∷ t) rest → ⊥
  there (one b some low e) = omega (arith, apart, some, low, same_head _ _ _ _ e)
  there (pair b c is e) = let first = pair_first b c is in omega (arith, apart, first.0, first.1, same_head _ _ _ _ e)
  there (triple b c d is e) = let first = triple_first b c d is in omega (arith, apart, first.0, first.1, same_head _ _ _ _ e)

pub nil_decided : (rest : List ℕ) → StartsWithUnit [] rest → ⊥
nil_decided rest w = there (front [] rest w) where
  there : Front [] rest → ⊥
  there (one b _ _ e) = cc
  there (pair b c _ e) = cc
  there (triple b c d _ e) = cc

-- two bytes of a pair, after a first byte of one
pub pair_decided : (a : ℕ) (bytes t rest : List ℕ) (b : ℕ) → bytes ≡ b ∷ t → IsPair a b → StartsWithUnit (a ∷ bytes) rest ↔ (found t ≡ found rest)
pair_decided a bytes t rest b split is = (
  λ w. there (front (a ∷ bytes) rest w),
  λ e. subst (λ (bs : List ℕ). StartsWithUnit (a ∷ bs) rest) (sym split) (subst (StartsWithUnit (a ∷ b ∷ t)) (found_is t rest e) (pair_starts a b t is)),
) where
  first : (192 ≤ a) × (a < 224)
  first = pair_first a b is

  there : Front (a ∷ bytes) rest → found t ≡ found rest
  there (one c some low e) = absurd (omega (arith, low, first.0, same_head _ _ _ _ e))
  there (pair c d _ e) = ap found (same_tail _ _ _ _ (sym split ∙ same_tail _ _ _ _ e))
  there (triple c d f also e) = absurd (let high = triple_first c d f also in omega (arith, high.0, first.1, same_head _ _ _ _ e))

pub pair_refused : (a : ℕ) (bytes t rest : List ℕ) (b : ℕ) → 192 ≤ a → a < 224 → bytes ≡ b ∷ t → (IsPair a b → ⊥) → StartsWithUnit (a ∷ bytes) rest → ⊥
pair_refused a bytes t rest b low high split refuses w = there (front (a ∷ bytes) rest w) where
  there : Front (a ∷ bytes) rest → ⊥
  there (one c some below e) = omega (arith, below, low, same_head _ _ _ _ e)
  there (pair c d is e) = refuses (subst (λ (x : ℕ). IsPair x b) (sym (same_head _ _ _ _ e)) (subst (IsPair c) (sym (same_head _ _ _ _ (sym split ∙ same_tail _ _ _ _ e))) is))
  there (triple c d f is e) = let first = triple_first c d f is in omega (arith, first.0, high, same_head _ _ _ _ e)

pub pair_short : (a : ℕ) (bytes rest : List ℕ) → 192 ≤ a → a < 224 → length bytes ≡ 0 → StartsWithUnit (a ∷ bytes) rest → ⊥
pair_short a bytes rest low high short w = there (front (a ∷ bytes) rest w) where
  there : Front (a ∷ bytes) rest → ⊥
  there (one c some below e) = omega (arith, below, low, same_head _ _ _ _ e)
  there (pair c d is e) = omega (arith, short, ap length e)
  there (triple c d f is e) = omega (arith, short, ap length e)

-- three bytes of a triple, after a first byte of one
pub triple_decided : (a : ℕ) (bytes more t rest : List ℕ) (b c : ℕ) → bytes ≡ b ∷ more → more ≡ c ∷ t → IsTriple a b c → StartsWithUnit (a ∷ bytes) rest ↔ (found t ≡ found rest)
triple_decided a bytes more t rest b c split again is = (
  λ w. there (front (a ∷ bytes) rest w),
  λ e. subst (λ (bs : List ℕ). StartsWithUnit (a ∷ bs) rest) (sym whole) (subst (StartsWithUnit (a ∷ b ∷ c ∷ t)) (found_is t rest e) (triple_starts a b c t is)),
) where
  whole : bytes ≡ b ∷ c ∷ t
  whole = split ∙ ap (λ (bs : List ℕ). b ∷ bs) again

  first : (224 ≤ a) × (a < 240)
  first = triple_first a b c is

  there : Front (a ∷ bytes) rest → found t ≡ found rest
  there (one d some low e) = absurd (omega (arith, low, first.0, same_head _ _ _ _ e))
  there (pair d f also e) = absurd (let low = pair_first d f also in omega (arith, low.1, first.0, same_head _ _ _ _ e))
  there (triple d f g _ e) = ap found (same_tail _ _ _ _ (same_tail _ _ _ _ (sym whole ∙ same_tail _ _ _ _ e)))

pub triple_refused : (a : ℕ) (bytes more t rest : List ℕ) (b c : ℕ) → 224 ≤ a → a < 240 → bytes ≡ b ∷ more → more ≡ c ∷ t → (IsTriple a b c → ⊥) → StartsWithUnit (a ∷ bytes) rest → ⊥
triple_refused a bytes more t rest b c low high split again refuses w = there (front (a ∷ bytes) rest w) where
  whole : bytes ≡ b ∷ c ∷ t
  whole = split ∙ ap (λ (bs : List ℕ). b ∷ bs) again

  there : Front (a ∷ bytes) rest → ⊥
  there (one d some below e) = omega (arith, below, low, same_head _ _ _ _ e)
  there (pair d f is e) = let first = pair_first d f is in omega (arith, first.1, low, same_head _ _ _ _ e)
  there (triple d f g is e) =
      let tail = same_tail _ _ _ _ e in
      let second = same_head _ _ _ _ (sym whole ∙ tail) in
      let third = same_head _ _ _ _ (same_tail _ _ _ _ (sym whole ∙ tail)) in
      refuses (subst (λ (x : ℕ). IsTriple x b c) (sym (same_head _ _ _ _ e)) (subst (λ (x : ℕ). IsTriple d x c) (sym second) (subst (IsTriple d f) (sym third) is)))

pub triple_short : (a : ℕ) (bytes rest : List ℕ) → 224 ≤ a → length bytes < 2 → StartsWithUnit (a ∷ bytes) rest → ⊥
triple_short a bytes rest low short w = there (front (a ∷ bytes) rest w) where
  there : Front (a ∷ bytes) rest → ⊥
  there (one d some below e) = omega (arith, below, low, same_head _ _ _ _ e)
  there (pair d f is e) = let first = pair_first d f is in omega (arith, first.1, low, same_head _ _ _ _ e)
  there (triple d f g is e) = omega (arith, short, ap length e)

-- ---- one after the other

-- the bytes of units
pub record HasUnits (bytes : List ℕ) : Type 0 where
  pub units : List ℕ
  pub in_range : AllByRecursion (λ unit. unit < 65536) units
  pub bytes_are : bytes ≡ flat_map unit_bytes units

pub modified_is : (bytes : List ℕ) → IsModifiedUtf8 bytes ↔ HasUnits bytes
modified_is bytes = (
  λ h. record { units = units bytes; in_range = h.in_range; bytes_are = h.shortest },
  λ h. subst IsModifiedUtf8 (sym h.bytes_are) (IsModifiedUtf8-flat_map h.units h.in_range),
)

-- a unit takes a byte at least
pub unit_takes : (bytes rest : List ℕ) → StartsWithUnit bytes rest → length rest < length bytes
unit_takes bytes rest w = there (front bytes rest w) where
  there : Front bytes rest → length rest < length bytes
  there (one a some low e) = omega (arith, ap length e)
  there (pair a b is e) = omega (arith, ap length e)
  there (triple a b c is e) = omega (arith, ap length e)

-- the first of them is the unit at the front
parts : (bytes : List ℕ) (us : List ℕ) → AllByRecursion (λ unit. unit < 65536) us → bytes ≡ flat_map unit_bytes us → (bytes ≡ []) ⊎ ((rest : List ℕ) × StartsWithUnit bytes rest × HasUnits rest)
parts bytes [] fit e = inl e
parts bytes (u ∷ us) (fits, fit) e =
    inr (flat_map unit_bytes us, record { unit = u; in_range = fits; bytes_are = e ∙ flat_map-cons unit_bytes u us }, record { units = us; in_range = fit; bytes_are = refl })

pub units_next : (bytes after : List ℕ) → ((rest : List ℕ) → StartsWithUnit bytes rest ↔ (found after ≡ found rest)) → HasUnits bytes ↔ HasUnits after
units_next bytes after decides = (λ h. there (parts bytes h.units h.in_range h.bytes_are), back) where
  first : StartsWithUnit bytes after
  first = (decides after).1 refl

  there : (bytes ≡ []) ⊎ ((rest : List ℕ) × StartsWithUnit bytes rest × HasUnits rest) → HasUnits after
  there (inl empty) = absurd (let takes = unit_takes bytes after first in omega (arith, takes, ap length empty))
  there (inr (rest, starts, more)) = subst HasUnits (sym (found_is after rest ((decides rest).0 starts))) more

  back : HasUnits after → HasUnits bytes
  back h = record {
    units = first.unit ∷ h.units;
    in_range = (first.in_range, h.in_range);
    bytes_are = first.bytes_are ∙ ap (λ (bs : List ℕ). unit_bytes first.unit ++ bs) h.bytes_are ∙ sym (flat_map-cons unit_bytes first.unit h.units);
  }

-- where no unit is at the front, nothing may be left
pub units_end : (bytes : List ℕ) (r : Bool) → r ≡ eqb (length bytes) 0 → ((rest : List ℕ) → StartsWithUnit bytes rest → ⊥) → IsTrue r ↔ HasUnits bytes
units_end bytes r is none = (
  λ t. record { units = []; in_range = tt; bytes_are = nil_from_length bytes (eqb-true _ _ (sym is ∙ t)) },
  λ h. there (parts bytes h.units h.in_range h.bytes_are),
) where
  there : (bytes ≡ []) ⊎ ((rest : List ℕ) × StartsWithUnit bytes rest × HasUnits rest) → IsTrue r
  there (inl empty) = is ∙ ap (λ (bs : List ℕ). eqb (length bs) 0) empty
  there (inr (rest, starts, more)) = absurd (none rest starts)
