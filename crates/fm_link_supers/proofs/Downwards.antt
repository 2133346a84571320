-- The order in which each class comes after its superclass; and what is among superinterfaces.
use Rattle.std.proofs.Common.{◌≡◌, refl, sym, ◌∙◌, ap, subst, ℕ, zero, suc, ◌+◌, ◌<◌, ◌≤◌, ◌⊎◌, inl, inr, ◌||◌, Bool, true, false, List, [], ◌∷◌, ◌++◌, length, map, reverse, nat_eq, take, slice_get, Option, Some, None, arith}
use Rattle.std.specs.List.{flat_map, range_with_len}
use Rattle.std.proofs.lemmas.Bool.{cases_lt, eqb-true, false≢true, or_cases, or_right}
use Rattle.std.proofs.lemmas.List.{take-append-le, take_all}
use Rattle.std.proofs.lemmas.List.Folds.{list_any-append}
use Rattle.std.proofs.lemmas.Option.{none-some, same_Some, slice_get_within}
use Rattle.fm_base.proofs.TestFacts.{same-nat_eq}
use Rattle.fm_link_names.proofs.PlaceLemmas.{slice_get_push_cases}
use Rattle.fm_link_supers.proofs.Distinct.{among_distinct, distinct_added, distinct_kept}
use Rattle.fm_link_supers.specs.inner.Hierarchy.{IsDownwards}
use Rattle.fm_world.proofs.Displays.{is_among-reverse, parent_of-within, reverse-cons}
use Rattle.fm_world.specs.Causes.{goes_up}
use Rattle.fm_world.specs.Chains.{chain_of, distinct, is_among, parent_of, upwards}
use Rattle.fm_world.specs.declared.declarations.DeclaredClass.{DeclaredClass}
use Rattle.fm_world.specs.inner.Tables.{numbers_below}

pub among_head : (x : ℕ) (xs : List ℕ) → is_among x (x ∷ xs) ≡ true
among_head x xs = ap (λ b. b || is_among x xs) (same-nat_eq x)

pub among_later : (y x : ℕ) (xs : List ℕ) → is_among y xs ≡ true → is_among y (x ∷ xs) ≡ true
among_later y x xs e = or_right (nat_eq y x) (is_among y xs) e

pub among_left : (x : ℕ) (xs ys : List ℕ) → is_among x xs ≡ true → is_among x (xs ++ ys) ≡ true
among_left x xs ys e = list_any-append (nat_eq x) xs ys ∙ ap (λ b. b || is_among x ys) e

pub among_right : (x : ℕ) (xs ys : List ℕ) → is_among x ys ≡ true → is_among x (xs ++ ys) ≡ true
among_right x xs ys e = list_any-append (nat_eq x) xs ys ∙ or_right (is_among x xs) (is_among x ys) e

-- ---- lists in which each class comes before its superclass

abbrev pub IsUpwards : List DeclaredClass → List ℕ → Type 0
IsUpwards classes [] = Unit {0}
IsUpwards classes (x ∷ xs) = ((parent : ℕ) → parent_of classes x ≡ Some parent → is_among parent xs ≡ true) × IsUpwards classes xs

upwards_joined : (classes : List DeclaredClass) (xs ys : List ℕ) → IsUpwards classes xs → IsUpwards classes ys → IsUpwards classes (xs ++ ys)
upwards_joined classes [] ys a b = b
upwards_joined classes (x ∷ xs) ys a b = ((λ parent e. among_left parent xs ys (a.0 parent e)), upwards_joined classes xs ys a.1 b)

first_there : (classes : List DeclaredClass) (bound class : ℕ) → goes_up bound classes (Some class) ≡ false
    → is_among class (upwards bound classes (Some class)) ≡ true
first_there classes zero class e = absurd (false≢true (sym e))
first_there classes (suc bound) class e = among_head class (upwards bound classes (parent_of classes class))

walk_upwards : (classes : List DeclaredClass) (bound : ℕ) (class : Option ℕ) → goes_up bound classes class ≡ false
    → IsUpwards classes (upwards bound classes class)
walk_upwards classes zero class e = tt
walk_upwards classes (suc bound) None e = tt
walk_upwards classes (suc bound) (Some class) e = (
  (λ parent is.
      ap (λ o. is_among parent (upwards bound classes o)) is
      ∙ first_there classes bound parent (sym (ap (goes_up bound classes) is) ∙ e)),
  walk_upwards classes bound (parent_of classes class) e,
)

abbrev pub IsEach : List DeclaredClass → List ℕ → Type 0
IsEach classes xs = (x : ℕ) → is_among x xs ≡ true → x < length classes

pub walk_within : (classes : List DeclaredClass) (bound : ℕ) (class : Option ℕ) → ((k : ℕ) → class ≡ Some k → k < length classes)
    → IsEach classes (upwards bound classes class)
walk_within classes zero class within x e = absurd (false≢true e)
walk_within classes (suc bound) None within x e = absurd (false≢true e)
walk_within classes (suc bound) (Some class) within x e =
    by_case (walk_within classes bound (parent_of classes class) (λ k is. parent_of-within classes class k is) x)
    (or_cases (nat_eq x class) (is_among x (upwards bound classes (parent_of classes class))) e) where
      by_case : (is_among x (upwards bound classes (parent_of classes class)) ≡ true → x < length classes)
          → (nat_eq x class ≡ true) ⊎ (is_among x (upwards bound classes (parent_of classes class)) ≡ true) → x < length classes
      by_case rest (inl same) = subst (λ k. k < length classes) (sym (eqb-true x class same)) (within class refl)
      by_case rest (inr other) = rest other

-- ---- all chains, one after the other

abbrev chains_from : List DeclaredClass → ℕ → ℕ → List ℕ
chains_from classes start count = flat_map (λ chain. chain) (map (chain_of classes) (range_with_len start count))

abbrev pub NoneGoesUp : List DeclaredClass → Type 0
NoneGoesUp classes = (class : ℕ) → class < length classes → goes_up (length classes) classes (parent_of classes class) ≡ false

chains_upwards : (classes : List DeclaredClass) → NoneGoesUp classes → (start count : ℕ) → start + count ≤ length classes
    → IsUpwards classes (chains_from classes start count)
unfolding chain_of
chains_upwards classes ends start zero few = tt
chains_upwards classes ends start (suc count) few =
    upwards_joined classes (upwards (suc (length classes)) classes (Some start)) (chains_from classes (start + 1) count)
    (walk_upwards classes (suc (length classes)) (Some start) (ends start (omega (arith, few))))
    (chains_upwards classes ends (start + 1) count (omega (arith, few)))

chains_within : (classes : List DeclaredClass) (start count : ℕ) → start + count ≤ length classes → IsEach classes (chains_from classes start count)
unfolding chain_of
chains_within classes start zero few x e = absurd (false≢true e)
chains_within classes start (suc count) few x e =
    by_case (chains_within classes (start + 1) count (omega (arith, few)) x)
    (or_cases (is_among x chain) (is_among x rest) (sym (list_any-append (nat_eq x) chain rest) ∙ e)) where
      chain : List ℕ
      chain = upwards (suc (length classes)) classes (Some start)

      rest : List ℕ
      rest = chains_from classes (start + 1) count

      is_start : (k : ℕ) → Some start ≡ Some k → k < length classes
      is_start k same = subst (λ n. n < length classes) (same_Some start k same) (omega (arith, few))

      by_case : (is_among x rest ≡ true → x < length classes) → (is_among x chain ≡ true) ⊎ (is_among x rest ≡ true) → x < length classes
      by_case later (inl here) = walk_within classes (suc (length classes)) (Some start) is_start x here
      by_case later (inr there) = later there

chains_all : (classes : List DeclaredClass) (start count class : ℕ) → start ≤ class → class < start + count
    → is_among class (chains_from classes start count) ≡ true
unfolding chain_of
chains_all classes start zero class low high = absurd (omega (arith, low, high))
chains_all classes start (suc count) class low high = by_case (λ h. chains_all classes (start + 1) count class h (omega (arith, high))) (cases_lt start class) where
  chain : List ℕ
  chain = upwards (suc (length classes)) classes (Some start)

  rest : List ℕ
  rest = chains_from classes (start + 1) count

  by_case : (start + 1 ≤ class → is_among class rest ≡ true) → (start < class) ⊎ (class ≤ start) → is_among class (chain ++ rest) ≡ true
  by_case later (inl h) = among_right class chain rest (later (omega (arith, h)))
  by_case later (inr h) =
      let same : class ≡ start = omega (arith, h, low) in
      among_left class chain rest (ap (λ k. is_among k chain) same ∙ among_head start (upwards (length classes) classes (parent_of classes start)))

-- ---- the other way round, each once

abbrev pub StandsAfter : List DeclaredClass → List ℕ → Type 0
StandsAfter classes order = (place class parent : ℕ) → slice_get order place ≡ Some class → parent_of classes class ≡ Some parent
    → is_among parent (take place order) ≡ true

-- a class more, after its superclass
after_push : (classes : List DeclaredClass) (order : List ℕ) (x : ℕ) → StandsAfter classes order
    → ((parent : ℕ) → parent_of classes x ≡ Some parent → is_among parent order ≡ true) → StandsAfter classes (order ++ x ∷ [])
after_push classes order x stands above place class parent at is = by_place (slice_get_push_cases order x class place at) where
  earlier : slice_get order place ≡ Some class → is_among parent (take place (order ++ x ∷ [])) ≡ true
  earlier e =
      let within = slice_get_within order place class e in
      ap (is_among parent) (take-append-le place order (x ∷ []) (omega (arith, within))) ∙ stands place class parent e is

  by_place : (slice_get order place ≡ Some class) ⊎ ((place ≡ length order) × (x ≡ class)) → is_among parent (take place (order ++ x ∷ [])) ≡ true
  by_place (inl e) = earlier e
  by_place (inr last) =
      ap (λ k. is_among parent (take k (order ++ x ∷ []))) last.0
      ∙ ap (is_among parent) (take-append-le (length order) order (x ∷ []) (omega arith) ∙ take_all (length order) order (omega arith))
      ∙ above parent (ap (parent_of classes) last.1 ∙ is)

after_one : (classes : List DeclaredClass) (x : ℕ) (xs : List ℕ) → ((parent : ℕ) → parent_of classes x ≡ Some parent → is_among parent xs ≡ true)
    → StandsAfter classes (distinct nat_eq (reverse xs)) → (b : Bool) → is_among x (reverse xs) ≡ b → StandsAfter classes (distinct nat_eq (reverse xs ++ x ∷ []))
after_one classes x xs above stands true e = subst (StandsAfter classes) (sym (distinct_kept (reverse xs) x e)) stands
after_one classes x xs above stands false e =
    subst (StandsAfter classes) (sym (distinct_added (reverse xs) x e))
    (after_push classes (distinct nat_eq (reverse xs)) x stands
    (λ parent is. among_distinct parent (reverse xs) ∙ is_among-reverse parent xs ∙ above parent is))

downwards_after : (classes : List DeclaredClass) (xs : List ℕ) → IsUpwards classes xs → StandsAfter classes (distinct nat_eq (reverse xs))
downwards_after classes [] up = λ place class parent at is. absurd (none-some class at)
downwards_after classes (x ∷ xs) up =
    subst (λ ys. StandsAfter classes (distinct nat_eq ys)) (sym (reverse-cons x xs))
    (after_one classes x xs up.0 (downwards_after classes xs up.1) (is_among x (reverse xs)) refl)

pub order_is : (classes : List DeclaredClass) → NoneGoesUp classes → (chains : List (List ℕ)) → chains ≡ map (chain_of classes) (numbers_below (length classes))
    → (order : List ℕ) → order ≡ distinct nat_eq (reverse (flat_map (λ chain. chain) chains)) → IsDownwards classes order
order_is classes ends chains are order made =
    let n = length classes in
    let all = chains_from classes 0 n in
    let whole : order ≡ distinct nat_eq (reverse all) = made ∙ ap (λ t. distinct nat_eq (reverse (flat_map (λ chain. chain) t))) are in
    let among : (k : ℕ) → is_among k order ≡ is_among k all =
    λ k. ap (is_among k) whole ∙ among_distinct k (reverse all) ∙ is_among-reverse k all in
    record {
      all = λ class h. among class ∙ chains_all classes 0 n class (omega arith) (omega (arith, h));
      only = λ class e. chains_within classes 0 n (omega arith) class (sym (among class) ∙ e);
      after = subst (StandsAfter classes) (sym whole) (downwards_after classes all (chains_upwards classes ends 0 n (omega arith)));
    }
