-- The holders of sites are those of the definitions, and so is the plan that is made of pairs.
use Rattle.std.proofs.Common.{◌≡◌, ◌≢◌, ℕ, zero, suc, ◌+◌, ◌-◌, ◌<◌, ◌≤◌, ◌&&◌, ◌++◌, Bool, true, false, cond, List, [], ◌∷◌, length, map, take, Option, Some, None, refl, ap, sym, ◌∙◌, subst, ⊎_elim, eq-eqb, arith}
use Rattle.std.specs.Prelude.{filter, is_some, nat_eq, nat_lt, slice_get}
use Rattle.std.specs.List.{filter_map, flat_map, range_with_len}
use Rattle.std.proofs.lemmas.Bool.{cases_eq, ltb-false, ltb-true}
use Rattle.std.proofs.lemmas.List.{length-map}
use Rattle.std.proofs.lemmas.List.Elements.{filter_map-append}
use Rattle.fm_base.proofs.TestFacts.{apart-nat_eq}
use Rattle.fm_base.specs.declared.limits.TheConstants.{MAX_LOCAL_WORDS}
use Rattle.fm_conn.specs.Facts.{Facts}
use Rattle.fm_conn.specs.Nodes.{TypedMethod}
use Rattle.fm_place.proofs.FullLemmas.{held-few}
use Rattle.fm_place.proofs.SiteLemmas.{captured_more}
use Rattle.fm_place.specs.Insertions.{after_at, all_holders, all_insertions, Holder, numbers_of}
use Rattle.fm_place.specs.PlansBy.{holder_of, holders_in, paired}
use Rattle.fm_place.specs.Sites.{captured_before, captured_sites, held_sites, holder_room, is_captured, is_captured_site, site_at, site_class, site_kind, sites_of}
use Rattle.fm_place.specs.declared.found_sites.Site.{Site}
use Rattle.fm_place.specs.declared.limits.TheConstants.{MAX_HOLDING_STACK_WORDS}
use Rattle.fm_place.specs.inner.PlanRows.{held_of, pair_of}

-- ---- lists over ranges

pub flat_range_same : {X : Type 0} (f g : ℕ → List X) (a n : ℕ) → ((j : ℕ) → a ≤ j → j < a + n → f j ≡ g j)
    → flat_map f (range_with_len a n) ≡ flat_map g (range_with_len a n)
flat_range_same f g a zero same = refl
flat_range_same f g a (suc n) same =
    (λ k. same a (omega arith) (omega arith) k ++ flat_range_same f g (a + 1) n (λ j low high. same j (omega arith) (omega arith)) k)

filter_map-flat_map : {X Y Z : Type 0} (h : Y → Option Z) (f : X → List Y) (xs : List X) → filter_map h (flat_map f xs) ≡ flat_map (λ x. filter_map h (f x)) xs
filter_map-flat_map h f [] = refl
filter_map-flat_map h f (x ∷ xs) =
    filter_map-append h (f x) (flat_map f xs) ∙ ap (λ ys. filter_map h (f x) ++ ys) (filter_map-flat_map h f xs)

take_none : {X : Type 0} (k : ℕ) → take {A = X} k [] ≡ []
take_none zero = refl
take_none (suc k) = refl

-- ---- sites that are counted

abbrev pub made : (ℕ → ℕ) → ℕ → Holder
made class j = record { site = j; class = class j; looped = false }

-- the number of the holder of an item before which there are `count` captured sites, if there is
-- room
abbrev room_for : (test : Bool) → (count room : ℕ) → List ℕ
room_for test count room = cond (test && nat_lt count room) (count ∷ []) []

module _ (test : ℕ → Bool) (count : ℕ → ℕ) (room : ℕ) (class : ℕ → ℕ) (more : (j : ℕ) → count (j + 1) ≡ count j + cond (test j) 1 0) where
  counted : (j : ℕ) → test j ≡ true → count (j + 1) ≡ count j + 1
  counted j is = more j ∙ ap (λ b. count j + cond b 1 0) is

  uncounted : (j : ℕ) → test j ≡ false → count (j + 1) ≡ count j + 0
  uncounted j is = more j ∙ ap (λ b. count j + cond b 1 0) is

  -- the room that is left before an item that takes some of it
  room_one : (j : ℕ) → test j ≡ true → nat_lt (count j) room ≡ true → room - count j ≡ suc (room - count (j + 1))
  room_one j is some = omega (arith, counted j is, ltb-true (count j) room some)

  room_none : (j : ℕ) → nat_lt (count j) room ≡ false → room - count j ≡ 0
  room_none j none = omega (arith, ltb-false (count j) room none)

  room_still_none : (j : ℕ) → test j ≡ true → nat_lt (count j) room ≡ false → room - count (j + 1) ≡ 0
  room_still_none j is none = omega (arith, counted j is, ltb-false (count j) room none)

  abbrev one_at : ℕ → List Holder
  one_at j = map (λ (h : ℕ). made class j) (room_for (test j) (count j) room)

  -- the holders one by one are the first ones that are counted
  pub holders_first : (a n : ℕ) → flat_map one_at (range_with_len a n) ≡ map (made class) (take (room - count a) (filter test (range_with_len a n)))
  holders_first a zero = sym (ap (map (made class)) (take_none (room - count a)))
  holders_first a (suc n) = by_test (test a) refl (nat_lt (count a) room) refl (holders_first (a + 1) n) where
    later : List Holder
    later = flat_map one_at (range_with_len (a + 1) n)

    rest : List ℕ
    rest = filter test (range_with_len (a + 1) n)

    by_test : (t : Bool) → test a ≡ t → (r : Bool) → nat_lt (count a) room ≡ r → later ≡ map (made class) (take (room - count (a + 1)) rest)
        → map (λ (h : ℕ). made class a) (cond (t && r) (count a ∷ []) []) ++ later ≡ map (made class) (take (room - count a) (cond t (a ∷ rest) rest))
    by_test true is true some so_far =
        ap (λ (hs : List Holder). made class a ∷ hs) so_far ∙ sym (ap (λ m. map (made class) (take m (a ∷ rest))) (room_one a is some))
    by_test true is false none so_far =
        so_far ∙ ap (λ m. map (made class) (take m rest)) (room_still_none a is none)
        ∙ sym (ap (λ m. map (made class) (take m (a ∷ rest))) (room_none a none))
    by_test false is r some so_far =
        let same : room - count (a + 1) ≡ room - count a = omega (arith, uncounted a is) in
        so_far ∙ ap (λ m. map (made class) (take m rest)) same

  -- whether the holder is that of the item
  abbrev is_of : ℕ → Holder → Bool
  is_of j h = nat_eq h.site j

  -- none of the later ones is an earlier item's
  none_before : (j a n k m : ℕ) → j < a → numbers_of (is_of j) m (map (made class) (take k (filter test (range_with_len a n)))) ≡ []
  none_before j a zero zero m below = refl
  none_before j a zero (suc k) m below = refl
  none_before j a (suc n) k m below = by_test (test a) k (λ l number. none_before j (a + 1) n l number (omega arith)) where
    rest : List ℕ
    rest = filter test (range_with_len (a + 1) n)

    by_test : (t : Bool) (k : ℕ) → ((l number : ℕ) → numbers_of (is_of j) number (map (made class) (take l rest)) ≡ [])
        → numbers_of (is_of j) m (map (made class) (take k (cond t (a ∷ rest) rest))) ≡ []
    by_test true zero later = refl
    by_test true (suc k) later =
        let left = numbers_of (is_of j) (m + 1) (map (made class) (take k rest)) in
        let apart : a ≢ j = omega arith in
        ap (λ b. cond b (m ∷ left) left) (apart-nat_eq a j apart) ∙ later k (m + 1)
    by_test false k later = later k m

  -- the holders of an item by their numbers
  pub holder_numbers : (j a n : ℕ) → a ≤ j → j < a + n
      → numbers_of (is_of j) (count a) (map (made class) (take (room - count a) (filter test (range_with_len a n)))) ≡ room_for (test j) (count j) room
  holder_numbers j a zero low high = absurd (omega arith)
  holder_numbers j a (suc n) low high =
      ⊎_elim (λ (same : a ≡ j). subst (λ i. numbers_of (is_of i) (count a) (map (made class) (take (room - count a) (cond (test a) (a ∷ rest) rest)))
      ≡ room_for (test i) (count i) room) same (here (test a) refl (nat_lt (count a) room) refl))
      (λ (other : a ≢ j). past other (test a) refl (nat_lt (count a) room) refl (holder_numbers j (a + 1) n (omega arith) (omega arith)))
      (cases_eq a j) where
        rest : List ℕ
        rest = filter test (range_with_len (a + 1) n)

        here : (t : Bool) → test a ≡ t → (r : Bool) → nat_lt (count a) room ≡ r
            → numbers_of (is_of a) (count a) (map (made class) (take (room - count a) (cond t (a ∷ rest) rest))) ≡ cond (t && r) (count a ∷ []) []
        here true is true some =
            let left = numbers_of (is_of a) (count a + 1) (map (made class) (take (room - count (a + 1)) rest)) in
            ap (λ m. numbers_of (is_of a) (count a) (map (made class) (take m (a ∷ rest)))) (room_one a is some)
            ∙ ap (λ b. cond b (count a ∷ left) left) (eq-eqb a a refl)
            ∙ ap (λ ks. count a ∷ ks) (none_before a (a + 1) n (room - count (a + 1)) (count a + 1) (omega arith))
        here true is false none = ap (λ m. numbers_of (is_of a) (count a) (map (made class) (take m (a ∷ rest)))) (room_none a none)
        here false is r some = none_before a (a + 1) n (room - count a) (count a) (omega arith)

        past : a ≢ j → (t : Bool) → test a ≡ t → (r : Bool) → nat_lt (count a) room ≡ r
            → numbers_of (is_of j) (count (a + 1)) (map (made class) (take (room - count (a + 1)) rest)) ≡ room_for (test j) (count j) room
            → numbers_of (is_of j) (count a) (map (made class) (take (room - count a) (cond t (a ∷ rest) rest))) ≡ room_for (test j) (count j) room
        past other true is true some so_far =
            let left = numbers_of (is_of j) (count a + 1) (map (made class) (take (room - count (a + 1)) rest)) in
            ap (λ m. numbers_of (is_of j) (count a) (map (made class) (take m (a ∷ rest)))) (room_one a is some)
            ∙ ap (λ b. cond b (count a ∷ left) left) (apart-nat_eq a j other)
            ∙ ap (λ c. numbers_of (is_of j) c (map (made class) (take (room - count (a + 1)) rest))) (sym (counted a is))
            ∙ so_far
        past other true is false none so_far =
            ap (λ m. numbers_of (is_of j) (count a) (map (made class) (take m (a ∷ rest)))) (room_none a none)
            ∙ sym (ap (λ m. numbers_of (is_of j) (count (a + 1)) (map (made class) (take m rest))) (room_still_none a is none))
            ∙ so_far
        past other false is r some so_far =
            let same : count a ≡ count (a + 1) = omega (arith, uncounted a is) in
            ap (λ c. numbers_of (is_of j) c (map (made class) (take (room - c) rest))) same ∙ so_far

-- ---- the sites of a method

-- an item with its holder, if it has one, by the tests that decide it
at_holder : (site captured fits : Bool) (class : ℕ → ℕ) (j count : ℕ)
    → filter_map holder_of
    (cond site (record { item = j; class = class j; captured = captured; holder = cond (captured && fits) (Some count) None } ∷ []) [])
    ≡ map (λ (h : ℕ). made class j) (cond ((site && captured) && fits) (count ∷ []) [])
at_holder false captured fits class j count = refl
at_holder true false fits class j count = refl
at_holder true true true class j count = refl
at_holder true true false class j count = refl

at_pair : (site captured fits : Bool) (class j count : ℕ)
    → filter_map pair_of (cond site (record { item = j; class = class; captured = captured; holder = cond (captured && fits) (Some count) None } ∷ []) [])
    ≡ map (λ h. (j, h)) (cond ((site && captured) && fits) (count ∷ []) [])
at_pair false captured fits class j count = refl
at_pair true false fits class j count = refl
at_pair true true true class j count = refl
at_pair true true false class j count = refl

held_first : (facts : Facts) (x : TypedMethod) → held_sites facts x ≡ take (holder_room x.code) (captured_sites facts x)
held_first facts x = by_test (nat_lt MAX_HOLDING_STACK_WORDS x.code.max_stack) where
  by_test : (b : Bool) → cond b [] (take (MAX_LOCAL_WORDS - x.code.max_locals) (captured_sites facts x))
      ≡ take (cond b 0 (MAX_LOCAL_WORDS - x.code.max_locals)) (captured_sites facts x)
  by_test true = refl
  by_test false = refl

module _ (facts : Facts) (x : TypedMethod) where
  abbrev items : ℕ
  items = length x.code.items

  abbrev room_at : ℕ → List ℕ
  room_at j = room_for (is_captured_site facts x j) (captured_before facts x j) (holder_room x.code)

  all_first : all_holders facts x
      ≡ map (made (site_class facts x))
      (take (holder_room x.code - captured_before facts x 0) (filter (is_captured_site facts x) (range_with_len 0 items)))
  all_first =
      let whole : holder_room x.code ≡ holder_room x.code - captured_before facts x 0 = omega arith in
      ap (map (made (site_class facts x))) (held_first facts x ∙ ap (λ k. take k (captured_sites facts x)) whole)

  -- the holders of the sites are all holders
  pub holders_are : holders_in (sites_of facts x) ≡ all_holders facts x
  unfolding sites_of
  holders_are =
      filter_map-flat_map holder_of (site_at facts x) (range_with_len 0 items)
      ∙ flat_range_same (λ j. filter_map holder_of (site_at facts x j)) (λ j. map (λ (h : ℕ). made (site_class facts x) j) (room_at j)) 0 items
      (λ j low high. at_holder (is_some (site_kind facts x j)) (is_captured facts x (site_class facts x j))
      (nat_lt (captured_before facts x j) (holder_room x.code)) (site_class facts x) j (captured_before facts x j))
      ∙ holders_first (is_captured_site facts x) (captured_before facts x) (holder_room x.code) (site_class facts x) (captured_more facts x) 0 items
      ∙ sym all_first

  -- and their numbers are those of the definitions
  pub pairs_are : filter_map pair_of (sites_of facts x) ≡ flat_map (paired (after_at (all_insertions facts x))) (range_with_len 0 items)
  unfolding sites_of
  pairs_are =
      filter_map-flat_map pair_of (site_at facts x) (range_with_len 0 items)
      ∙ flat_range_same (λ j. filter_map pair_of (site_at facts x j)) (paired (after_at (all_insertions facts x))) 0 items
      (λ j low high. at_pair (is_some (site_kind facts x j)) (is_captured facts x (site_class facts x j))
      (nat_lt (captured_before facts x j) (holder_room x.code)) (site_class facts x j) j (captured_before facts x j)
      ∙ ap (map (λ h. (j, h)))
      (sym (ap (numbers_of (λ (h : Holder). nat_eq h.site j) 0) all_first
      ∙ holder_numbers (is_captured_site facts x) (captured_before facts x) (holder_room x.code) (site_class facts x) (captured_more facts x) j 0 items low high)))

  -- there are few of them
  pub holders_few : length (holders_in (sites_of facts x)) ≤ MAX_LOCAL_WORDS
  holders_few =
      let count : length (holders_in (sites_of facts x)) ≡ length (held_sites facts x) =
      ap length holders_are ∙ length-map (held_sites facts x) (made (site_class facts x)) in
      let few = held-few facts x in
      omega (arith, count, few)

-- ---- sites that have a holder

-- the item and the class of a holder's site
abbrev pub pair_held : Holder → ℕ × ℕ
pair_held h = (h.site, h.class)

pub pairs_held : (sites : List Site) → filter_map held_of sites ≡ map pair_held (holders_in sites)
pairs_held [] = refl
pairs_held (s ∷ sites) = by_holder s.holder (pairs_held sites) where
  by_holder : (o : Option ℕ) → filter_map held_of sites ≡ map pair_held (holders_in sites)
      → filter_map held_of (record s { holder = o } ∷ sites) ≡ map pair_held (holders_in (record s { holder = o } ∷ sites))
  by_holder None so_far = so_far
  by_holder (Some h) so_far = ap (λ pairs. (s.item, s.class) ∷ pairs) so_far

-- the numbers that pass a test are those of the holders that pass one
pub numbers_by_range : (t : ℕ → Bool) (u : Holder → Bool) (a : ℕ) (holders : List Holder)
    → ((k : ℕ) (h : Holder) → slice_get holders k ≡ Some h → t (a + k) ≡ u h) → filter t (range_with_len a (length holders)) ≡ numbers_of u a holders
numbers_by_range t u a [] same = refl
numbers_by_range t u a (h ∷ holders) same =
    let rest = filter t (range_with_len (a + 1) (length holders)) in
    let start : a ≡ a + 0 = omega arith in
    ap (λ b. cond b (a ∷ rest) rest) (ap t start ∙ same 0 h refl)
    ∙ ap (λ ks. cond (u h) (a ∷ ks) ks)
    (numbers_by_range t u (a + 1) holders (λ k g there. let next : a + 1 + k ≡ a + suc k = omega arith in ap t next ∙ same (suc k) g there))
