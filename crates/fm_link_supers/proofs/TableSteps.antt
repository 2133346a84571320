-- Tables that grow by one element after the other.
use Rattle.std.proofs.Common.{◌≡◌, refl, sym, ◌∙◌, ap, ℕ, ◌+◌, ◌<◌, ◌≤◌, List, [], ◌∷◌, ◌++◌, length, map, drop, get_or, Option, Some, None, append_assoc}
use Rattle.std.specs.Global.{Vec}
use Rattle.std.specs.List.{filter_map, flat_map}
use Rattle.std.proofs.lemmas.List.{append-nil, get_or_default, map-append, drop_all}
use Rattle.fm_base.proofs.ListFacts.{drop_here}
use Rattle.fm_link_supers.specs.inner.ListTables.{lists}

-- what a step adds, and then what is left, is what was left before it
pub one_more : {Y : Type 0} (old new added left before all : List Y) → new ≡ old ++ added → before ≡ added ++ left → old ++ before ≡ all → new ++ left ≡ all
one_more old new added left before all more split so_far =
    ap (λ ys. ys ++ left) more ∙ append_assoc old added left ∙ ap (λ ys. old ++ ys) (sym split) ∙ so_far

-- one list more
pub lists_push : (old new : List (Vec ℕ)) (list : Vec ℕ) → new ≡ old ++ list ∷ [] → lists new ≡ lists old ++ list.items ∷ []
lists_push old new list e = ap lists e ∙ map-append (λ (v : Vec ℕ). v.items) old (list ∷ [])

pub map_step : {X Y : Type 0} (f : X → Y) (xs : List X) (i : ℕ) (x : X) (old new all : List Y) (y : Y) → i < length xs → x ≡ get_or xs i x
    → new ≡ old ++ y ∷ [] → y ≡ f x → old ++ map f (drop i xs) ≡ all → new ++ map f (drop (i + 1) xs) ≡ all
map_step f xs i x old new all y within is more value so_far =
    one_more old new (y ∷ []) (map f (drop (i + 1) xs)) (map f (drop i xs)) all more
    (ap (map f) (drop_here xs i x within is) ∙ ap (λ z. z ∷ map f (drop (i + 1) xs)) (sym value)) so_far

pub flat_map_step : {X Y : Type 0} (f : X → List Y) (xs : List X) (i : ℕ) (x : X) (old new all : List Y) → i < length xs → x ≡ get_or xs i x
    → new ≡ old ++ f x → old ++ flat_map f (drop i xs) ≡ all → new ++ flat_map f (drop (i + 1) xs) ≡ all
flat_map_step f xs i x old new all within is more so_far =
    one_more old new (f x) (flat_map f (drop (i + 1) xs)) (flat_map f (drop i xs)) all more (ap (flat_map f) (drop_here xs i x within is)) so_far

pub filter_map_some : {X Y : Type 0} (f : X → Option Y) (xs : List X) (i : ℕ) (x : X) (old new all : List Y) (y : Y) → i < length xs → x ≡ get_or xs i x
    → f x ≡ Some y → new ≡ old ++ y ∷ [] → old ++ filter_map f (drop i xs) ≡ all → new ++ filter_map f (drop (i + 1) xs) ≡ all
filter_map_some f xs i x old new all y within is found more so_far =
    one_more old new (y ∷ []) (filter_map f (drop (i + 1) xs)) (filter_map f (drop i xs)) all more
    (ap (filter_map f) (drop_here xs i x within is) ∙ rw found refl) so_far

pub filter_map_none : {X Y : Type 0} (f : X → Option Y) (xs : List X) (i : ℕ) (x : X) (old all : List Y) → i < length xs → x ≡ get_or xs i x
    → f x ≡ None → old ++ filter_map f (drop i xs) ≡ all → old ++ filter_map f (drop (i + 1) xs) ≡ all
filter_map_none f xs i x old all within is found so_far =
    ap (λ ys. old ++ ys) (sym (ap (filter_map f) (drop_here xs i x within is) ∙ rw found refl)) ∙ so_far

-- nothing is left
pub none_left : {Y : Type 0} (done left all : List Y) → left ≡ [] → done ++ left ≡ all → done ≡ all
none_left done left all none so_far = sym (append-nil done) ∙ ap (λ ys. done ++ ys) (sym none) ∙ so_far

-- the element that a loop reads, whatever stands for those past the end
pub read_is : {X : Type 0} (xs : List X) (i : ℕ) (d : X) → i < length xs → get_or xs i d ≡ get_or xs i (get_or xs i d)
read_is xs i d within = get_or_default xs i d (get_or xs i d) within

pub map_step_read : {X Y : Type 0} (f : X → Y) (xs : List X) (i : ℕ) (d : X) (old new all : List Y) (y : Y) → i < length xs → new ≡ old ++ y ∷ []
    → y ≡ f (get_or xs i d) → old ++ map f (drop i xs) ≡ all → new ++ map f (drop (i + 1) xs) ≡ all
map_step_read f xs i d old new all y within more value so_far =
    map_step f xs i (get_or xs i d) old new all y within (read_is xs i d within) more value so_far

-- the loop is at its end
pub map_end : {X Y : Type 0} (f : X → Y) (xs : List X) (i : ℕ) (old all : List Y) → length xs ≤ i → old ++ map f (drop i xs) ≡ all → old ≡ all
map_end f xs i old all past so_far = none_left old (map f (drop i xs)) all (ap (map f) (drop_all i xs past)) so_far
