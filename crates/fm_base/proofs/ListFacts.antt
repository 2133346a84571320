-- Lists: what holds of each element, and the parts of lists that are equal. For every crate above.
use Rattle.std.proofs.Common.{◌≡◌, ℕ, zero, suc, ◌<◌, Bool, true, false, cond, List, [], ◌∷◌, ◌++◌, length, take, drop, get_or, refl, ap, sym, ◌∙◌, append_assoc, ◌↔◌, IsTrue, MatchBool, arith, rules, Some, subst, map, reverse, ◌+◌, drop-cons, add-one, length-append, ◌||◌, Option, is_some, position, None, slice_index_or}
use Rattle.std.proofs.lemmas.Iterator.Adapters.{position_from-zero}
use Rattle.std.specs.List.{AllByRecursion, AllWithin, HoldsAt, filter, slice_get, list_any, position_from, range_with_len, cons_option, filter_map}
use Rattle.std.proofs.lemmas.List.{take_at, drop_at, reverse-append, get_or_append_left, get_or_push, length_push}
use Rattle.std.proofs.lemmas.List.Elements.{All-get_or, All-from_recursion, recursion_from_All, All-from_all_within}
use Rattle.std.proofs.lemmas.Option.{get_or_from_slice_get, slice_get-get_or, slice_get_within}

-- ---- what holds of each element

-- two properties hold of each element together
pub AllByRecursion-both : {X : Type 0} (P Q : X → Type 0) (xs : List X) → AllByRecursion P xs → AllByRecursion Q xs → AllByRecursion (λ x. P x × Q x) xs
AllByRecursion-both P Q [] first second = tt
AllByRecursion-both P Q (x ∷ xs) (p, first) (q, second) = ((p, q), AllByRecursion-both P Q xs first second)

-- what follows from a property of each element holds of each
pub AllByRecursion-weaker : {X : Type 0} (P Q : X → Type 0) → ((x : X) → P x → Q x) → (xs : List X) → AllByRecursion P xs → AllByRecursion Q xs
AllByRecursion-weaker P Q weaker [] all = tt
AllByRecursion-weaker P Q weaker (x ∷ xs) (p, all) = (weaker x p, AllByRecursion-weaker P Q weaker xs all)

-- what holds of each value holds of each element
pub AllByRecursion-from_every : {X : Type 0} (P : X → Type 0) → ((x : X) → P x) → (xs : List X) → AllByRecursion P xs
AllByRecursion-from_every P every [] = tt
AllByRecursion-from_every P every (x ∷ xs) = (every x, AllByRecursion-from_every P every xs)

-- a list after another
pub AllByRecursion-append : {X : Type 0} (P : X → Type 0) (xs ys : List X) → AllByRecursion P xs → AllByRecursion P ys → AllByRecursion P (xs ++ ys)
AllByRecursion-append P [] ys first second = second
AllByRecursion-append P (x ∷ xs) ys (p, first) second = (p, AllByRecursion-append P xs ys first second)

-- what holds of each element and of the default holds at each index
pub AllByRecursion-get_or : {X : Type 0} (P : X → Type 0) (xs : List X) (d : X) → AllByRecursion P xs → P d → (k : ℕ) → P (get_or xs k d)
AllByRecursion-get_or P [] d all default k = default
AllByRecursion-get_or P (x ∷ xs) d (p, all) default zero = p
AllByRecursion-get_or P (x ∷ xs) d (p, all) default (suc k) = AllByRecursion-get_or P xs d all default k

-- what holds of each element fails at no index
pub AllByRecursion-fails_nowhere : {X : Type 0} (P : X → Type 0) (xs : List X) (k : ℕ) → AllByRecursion P xs → k < length xs → HoldsAt (λ x. P x → ⊥) xs k → ⊥
AllByRecursion-fails_nowhere P [] k all within fails = omega arith
AllByRecursion-fails_nowhere P (x ∷ xs) k all within fails = fails x (All-get_or P (x ∷ xs) k x within (All-from_recursion P (x ∷ xs) all))

-- what `all` returns of a closure that decides P
pub AllByRecursion-decides : {X : Type 0} (P : X → Type 0) (xs : List X) (r : Bool) →
    MatchBool r (AllWithin P xs 0 (length xs)) ((k : ℕ) × (k < length xs) × HoldsAt (λ x. P x → ⊥) xs k) → IsTrue r ↔ AllByRecursion P xs
AllByRecursion-decides P xs true answer = (λ _. recursion_from_All P xs (All-from_all_within P xs answer), λ _. search rules)
AllByRecursion-decides P xs false answer = (λ t. absurd (search rules), λ all. absurd (AllByRecursion-fails_nowhere P xs answer.0 all answer.1 answer.2))

-- where each element passes the test, all stay
pub filter-passing : {X : Type 0} (test : X → Bool) (xs : List X) → AllByRecursion (λ x. test x ≡ true) xs → filter test xs ≡ xs
filter-passing test [] all = refl
filter-passing test (x ∷ xs) (p, all) = ap (λ b. cond b (x ∷ filter test xs) (filter test xs)) p ∙ ap (λ ys. x ∷ ys) (filter-passing test xs all)

-- ---- the parts of equal lists

-- the first elements of equal lists are equal
pub same_head : {X : Type 0} (a b : X) (xs ys : List X) → a ∷ xs ≡ b ∷ ys → a ≡ b
same_head a b xs ys e = cc

-- and so are the rests
pub same_tail : {X : Type 0} (a b : X) (xs ys : List X) → a ∷ xs ≡ b ∷ ys → xs ≡ ys
same_tail a b xs ys e = cc

-- the first parts of equal lists, where they are of one length, are equal, and so are the rests
pub same_parts : {X : Type 0} (a b xs ys : List X) → length a ≡ length b → a ++ xs ≡ b ++ ys → (a ≡ b) × (xs ≡ ys)
same_parts a b xs ys same e = (
  sym (take_at a xs (length b) same) ∙ ap (take (length b)) e ∙ take_at b ys (length b) refl,
  sym (drop_at a xs (length b) same) ∙ ap (drop (length b)) e ∙ drop_at b ys (length b) refl,
)

-- the first of two pieces, before all that follows it, on both sides
pub regroup : {X : Type 0} (a x xs b y ys : List X) → (a ++ x) ++ xs ≡ (b ++ y) ++ ys → a ++ (x ++ xs) ≡ b ++ (y ++ ys)
regroup a x xs b y ys e = sym (append_assoc a x xs) ∙ e ∙ append_assoc b y ys

-- what holds of each element holds of the one at an index
pub AllByRecursion-at : {X : Type 0} (P : X → Type 0) (xs : List X) (i : ℕ) (x : X) → AllByRecursion P xs → slice_get xs i ≡ Some x → P x
AllByRecursion-at P [] i x all there = absurd (let past = slice_get_within [] i x there in omega arith)
AllByRecursion-at P (y ∷ xs) zero x all there = let same : y ≡ x = cc in subst P same all.0
AllByRecursion-at P (y ∷ xs) (suc i) x all there = AllByRecursion-at P xs i x all.1 there

-- what holds of each image
pub AllByRecursion-mapped : {X Y : Type 0} (P : X → Type 0) (Q : Y → Type 0) (f : X → Y) → ((x : X) → P x → Q (f x)) → (xs : List X) → AllByRecursion P xs
    → AllByRecursion Q (map f xs)
AllByRecursion-mapped P Q f each [] are = tt
AllByRecursion-mapped P Q f each (x ∷ xs) are = (each x are.0, AllByRecursion-mapped P Q f each xs are.1)

-- what holds of each element, backwards
pub AllByRecursion-reversed : {X : Type 0} (P : X → Type 0) (xs : List X) → AllByRecursion P xs → AllByRecursion P (reverse xs)
AllByRecursion-reversed P [] all = tt
AllByRecursion-reversed P (x ∷ xs) all =
    subst (AllByRecursion P) (sym (reverse-append (x ∷ []) xs)) (AllByRecursion-append P (reverse xs) (x ∷ []) (AllByRecursion-reversed P xs all.1) (all.0, tt))

-- what is left from an index begins with the element there
pub drop_here : {X : Type 0} (xs : List X) (i : ℕ) (x : X) → i < length xs → x ≡ get_or xs i x → drop i xs ≡ x ∷ drop (i + 1) xs
drop_here xs i x within is = drop-cons xs i x within ∙ ap (λ y. y ∷ drop (suc i) xs) (sym is) ∙ ap (λ k. x ∷ drop k xs) (sym (add-one i))

-- an element of the first of two lists
pub slice_get-append_left : {X : Type 0} (xs ys : List X) (k : ℕ) (x : X) → slice_get xs k ≡ Some x → slice_get (xs ++ ys) k ≡ Some x
slice_get-append_left xs ys k x at =
    let within = slice_get_within xs k x at in
    let longer : k < length (xs ++ ys) = let sum = length-append xs ys in omega (arith, within, sum) in
    slice_get-get_or (xs ++ ys) k x longer ∙ ap (λ y. Some y) (get_or_append_left xs ys x k within ∙ get_or_from_slice_get xs k x x at)

-- and one of the second
pub slice_get-append_right : {X : Type 0} (xs ys : List X) (n : ℕ) → slice_get (xs ++ ys) (length xs + n) ≡ slice_get ys n
slice_get-append_right [] ys n = let same : 0 + n ≡ n = omega arith in ap (λ k. slice_get ys k) same
slice_get-append_right (x ∷ xs) ys n =
    let next : length (x ∷ xs) + n ≡ suc (length xs + n) = omega arith in ap (λ k. slice_get (x ∷ xs ++ ys) k) next ∙ slice_get-append_right xs ys n

-- an element that was put behind a list
pub slice_get_push : {X : Type 0} (xs : List X) (y : X) → slice_get (xs ++ y ∷ []) (length xs) ≡ Some y
slice_get_push xs y =
    let within : length xs < length (xs ++ y ∷ []) = let one = length_push xs y in omega (arith, one) in
    slice_get-get_or (xs ++ y ∷ []) (length xs) y within ∙ ap (λ z. Some z) (get_or_push xs y y (length xs) refl)

-- an element that passes has a position
pub is_some-position_from : {X : Type 0} (p : X → Bool) (i : ℕ) (xs : List X) → is_some (position_from p i xs) ≡ list_any p xs
is_some-position_from p i [] = refl
is_some-position_from p i (x ∷ xs) = either (p x) (position_from p (i + 1) xs) ∙ ap (λ b. p x || b) (is_some-position_from p (i + 1) xs) where
  either : (b : Bool) (o : Option ℕ) → is_some (cond b (Some i) o) ≡ (b || is_some o)
  either true o = refl
  either false o = refl

-- and so counted from the first
pub is_some-position : {X : Type 0} (p : X → Bool) (xs : List X) → is_some (position p xs) ≡ list_any p xs
is_some-position p xs = ap is_some (position_from-zero p xs) ∙ is_some-position_from p 0 xs

-- a range, one number longer
pub range-next : (a n : ℕ) → range_with_len a (suc n) ≡ range_with_len a n ++ (a + n) ∷ []
range-next a zero = let e : a ≡ a + 0 = omega arith in ap (λ k. k ∷ []) e
range-next a (suc n) =
    let e : a + 1 + n ≡ a + suc n = omega arith in
    ap (λ list. a ∷ list) (range-next (a + 1) n ∙ ap (λ k. range_with_len (a + 1) n ++ k ∷ []) e)

-- an index at which a value is there is within
pub some_within : {X : Type 0} (states : List (Option X)) (j : ℕ) (s : X) → slice_index_or states j None ≡ Some s → j < length states
some_within [] j s h = absurd (cc)
some_within (found ∷ states) zero s h = omega arith
some_within (found ∷ states) (suc j) s h = let lt : j < length states = some_within states j s h in omega arith

-- a function of what a function gave
pub map-map : {A B C : Type 0} (f : A → B) (g : B → C) (xs : List A) → map g (map f xs) ≡ map (λ x. g (f x)) xs
map-map f g [] = refl
map-map f g (x ∷ xs) = ap (λ ys. g (f x) ∷ ys) (map-map f g xs)

-- functions that agree give the same list
pub map_same : {X Y : Type 0} (f g : X → Y) → ((x : X) → f x ≡ g x) → (xs : List X) → map f xs ≡ map g xs
map_same f g same [] = refl
map_same f g same (x ∷ xs) = ap (λ y. y ∷ map f xs) (same x) ∙ ap (λ ys. g x ∷ ys) (map_same f g same xs)

-- and so where a function may give nothing
pub filter_map_agree : {X Y : Type 0} (f g : X → Option Y) → ((x : X) → f x ≡ g x) → (xs : List X) → filter_map f xs ≡ filter_map g xs
filter_map_agree f g same [] = refl
filter_map_agree f g same (x ∷ xs) = ap (λ o. cons_option o (filter_map f xs)) (same x) ∙ ap (cons_option (g x)) (filter_map_agree f g same xs)
