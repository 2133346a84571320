-- Elements that come one after the other, each once, are the distinct ones; and their places.
use Rattle.std.proofs.Common.{◌≡◌, refl, sym, ◌∙◌, ap, ℕ, ◌+◌, ◌||◌, not, Bool, true, false, cond, List, [], ◌∷◌, ◌++◌, length, filter, inl, inr, Option, Some, None, arith, append_assoc}
use Rattle.std.specs.List.{list_any, position_from, position}
use Rattle.std.proofs.lemmas.Bool.{cases_Bool, false_from_ne_true, false≢true}
use Rattle.std.proofs.lemmas.Iterator.Adapters.{position_from-zero}
use Rattle.std.proofs.lemmas.List.{append-nil}
use Rattle.std.proofs.lemmas.List.Elements.{filter-append}
use Rattle.std.proofs.lemmas.Map.Views.{any-filter_same}
use Rattle.fm_world.specs.Chains.{distinct}
use Rattle.fm_link_records.specs.inner.InTurn.{with_one, with_all, Tells}

-- ---- a test that distinguishes elements

pub same_sym : {A : Type 0} {same : A → A → Bool} → Tells A same → (a b : A) → same a b ≡ same b a
same_sym {A} {same} t a b = elim (cases_Bool (same a b)) [
  | inl yes_ ↦ yes_ ∙ sym (ap (same b) (t.exact a b yes_) ∙ t.itself b)
  | inr not_ ↦ not_ ∙ sym (false_from_ne_true (same b a) (λ e. false≢true (sym not_ ∙ ap (same a) (t.exact b a e) ∙ t.itself a)))
]

-- ---- distinct elements

-- one element after those that a first one leaves
distinct_step : {A : Type 0} (same : A → A → Bool) → Tells A same → (x y : A) (ds : List A) (among first : Bool)
    → list_any (same y) ds ≡ among → same y x ≡ first
    → x ∷ filter (λ z. not (same x z)) (with_one same ds y) ≡ with_one same (x ∷ filter (λ z. not (same x z)) ds) y
distinct_step {A} same t x y ds among first e f = by among first e f where
  keeps : A → Bool
  keeps z = not (same x z)

  backwards : same x y ≡ same y x
  backwards = same_sym t x y

  kept : same y x ≡ false → list_any (same y) (filter keeps ds) ≡ list_any (same y) ds
  kept other = any-filter_same (same y) keeps true (λ k is. ap (λ z. not (same x z)) (sym (t.exact y k is)) ∙ ap not (backwards ∙ other)) ds

  at_end : (b : Bool) → same x y ≡ b → filter keeps (ds ++ y ∷ []) ≡ filter keeps ds ++ cond (not b) (y ∷ []) []
  at_end b is = filter-append keeps ds (y ∷ []) ∙ ap (λ c. filter keeps ds ++ cond (not c) (y ∷ []) []) is

  whole : Bool → Bool → List A
  whole one other = cond (one || other) (x ∷ filter keeps ds) ((x ∷ filter keeps ds) ++ y ∷ [])

  made : Bool → List A
  made one = x ∷ filter keeps (cond one ds (ds ++ y ∷ []))

  by : (one other : Bool) → list_any (same y) ds ≡ one → same y x ≡ other
      → made (list_any (same y) ds) ≡ whole (same y x) (list_any (same y) (filter keeps ds))
  by true true g h = ap made g ∙ sym (ap (λ b. whole b (list_any (same y) (filter keeps ds))) h)
  by false true g h = ap made g ∙ ap (λ zs. x ∷ zs) (at_end true (backwards ∙ h) ∙ append-nil (filter keeps ds))
      ∙ sym (ap (λ b. whole b (list_any (same y) (filter keeps ds))) h)
  by true false g h = ap made g ∙ sym (ap (λ b. whole b (list_any (same y) (filter keeps ds))) h ∙ ap (whole false) (kept h ∙ g))
  by false false g h = ap made g ∙ ap (λ zs. x ∷ zs) (at_end false (backwards ∙ h))
      ∙ sym (ap (λ b. whole b (list_any (same y) (filter keeps ds))) h ∙ ap (whole false) (kept h ∙ g))

pub distinct-one : {A : Type 0} (same : A → A → Bool) → Tells A same → (xs : List A) (y : A)
    → distinct same (xs ++ y ∷ []) ≡ with_one same (distinct same xs) y
distinct-one same t [] y = refl
distinct-one same t (x ∷ xs) y =
    ap (λ ds. x ∷ filter (λ z. not (same x z)) ds) (distinct-one same t xs y)
    ∙ distinct_step same t x y (distinct same xs) (list_any (same y) (distinct same xs)) (same y x) refl refl

pub distinct-all : {A : Type 0} (same : A → A → Bool) → Tells A same → (xs ys : List A)
    → with_all same (distinct same xs) ys ≡ distinct same (xs ++ ys)
distinct-all same t xs [] = ap (distinct same) (sym (append-nil xs))
distinct-all same t xs (y ∷ ys) =
    ap (λ ds. with_all same ds ys) (sym (distinct-one same t xs y)) ∙ distinct-all same t (xs ++ y ∷ []) ys
    ∙ ap (distinct same) (append_assoc xs (y ∷ []) ys)

pub with_all-append : {A : Type 0} (same : A → A → Bool) (xs ys zs : List A) → with_all same xs (ys ++ zs) ≡ with_all same (with_all same xs ys) zs
with_all-append same xs [] zs = refl
with_all-append same xs (y ∷ ys) zs = with_all-append same (with_one same xs y) ys zs

-- ---- places

pub position_from-none : {A : Type 0} (p : A → Bool) (i : ℕ) (xs : List A) → list_any p xs ≡ false → position_from p i xs ≡ None
position_from-none p i [] h = refl
position_from-none p i (x ∷ xs) h = by (position_from-none p (i + 1) xs) (p x) h where
  by : (list_any p xs ≡ false → position_from p (i + 1) xs ≡ None) → (b : Bool) → (b || list_any p xs) ≡ false
      → cond b (Some i) (position_from p (i + 1) xs) ≡ None
  by later true e = absurd (false≢true (sym e))
  by later false e = later e

pub position_from-one : {A : Type 0} (p : A → Bool) (i : ℕ) (xs : List A) (y : A)
    → position_from p i (xs ++ y ∷ []) ≡ cond (list_any p xs) (position_from p i xs) (cond (p y) (Some (i + length xs)) None)
position_from-one p i [] y = let e : i ≡ i + 0 = omega arith in ap (λ n. cond (p y) (Some n) None) e
position_from-one p i (x ∷ xs) y = by (position_from-one p (i + 1) xs y) (p x) where
  further : i + 1 + length xs ≡ i + length (x ∷ xs)
  further = omega arith

  by : position_from p (i + 1) (xs ++ y ∷ []) ≡ cond (list_any p xs) (position_from p (i + 1) xs) (cond (p y) (Some (i + 1 + length xs)) None)
      → (b : Bool) → cond b (Some i) (position_from p (i + 1) (xs ++ y ∷ []))
      ≡ cond (b || list_any p xs) (cond b (Some i) (position_from p (i + 1) xs)) (cond (p y) (Some (i + length (x ∷ xs))) None)
  by later true = refl
  by later false = later ∙ ap (λ n. cond (list_any p xs) (position_from p (i + 1) xs) (cond (p y) (Some n) None)) further

-- the place of an element that is put after the others, and those of the others
pub position-one : {A : Type 0} (p : A → Bool) (xs : List A) (y : A)
    → position p (xs ++ y ∷ []) ≡ cond (list_any p xs) (position p xs) (cond (p y) (Some (length xs)) None)
position-one p xs y =
    let e : 0 + length xs ≡ length xs = omega arith in
    position_from-zero p (xs ++ y ∷ []) ∙ position_from-one p 0 xs y
    ∙ ap (λ o. cond (list_any p xs) o (cond (p y) (Some (0 + length xs)) None)) (sym (position_from-zero p xs))
    ∙ ap (λ n. cond (list_any p xs) (position p xs) (cond (p y) (Some n) None)) e

-- what a table has at an element is its place, also when one more element gets the next place
pub numbered_step : {A : Type 0} (same : A → A → Bool) → Tells A same → (xs : List A) (y q : A) (old new : Option ℕ) (number : ℕ)
    → number ≡ length xs → list_any (same y) xs ≡ false → old ≡ position (same q) xs → new ≡ cond (same y q) (Some number) old
    → new ≡ position (same q) (xs ++ y ∷ [])
numbered_step {A} same t xs y q old new number next apart before after =
    after ∙ by (same y q) (list_any (same q) xs) refl refl ∙ sym (position-one (same q) xs y) where
      by : (here among : Bool) → same y q ≡ here → list_any (same q) xs ≡ among
          → cond (same y q) (Some number) old ≡ cond (list_any (same q) xs) (position (same q) xs) (cond (same q y) (Some (length xs)) None)
      by true among is e =
          ap (λ b. cond b (Some number) old) is ∙ ap Some next ∙ sym (ap (λ b. cond b (position (same q) xs) (cond (same q y) (Some (length xs))
          None))
          (ap (λ z. list_any (same z) xs) (sym (t.exact y q is)) ∙ apart) ∙ ap (λ b. cond b (Some (length xs)) None) (same_sym t q y ∙ is))
      by false true is e =
          ap (λ b. cond b (Some number) old) is ∙ before
          ∙ sym (ap (λ b. cond b (position (same q) xs) (cond (same q y) (Some (length xs)) None)) e)
      by false false is e =
          ap (λ b. cond b (Some number) old) is ∙ before ∙ position_from-zero (same q) xs ∙ position_from-none (same q) 0 xs e
          ∙ sym (ap (λ b. cond b (position (same q) xs) (cond (same q y) (Some (length xs)) None)) e
          ∙ ap (λ b. cond b (Some (length xs)) None) (same_sym t q y ∙ is))
