-- A renumbering by the places of numbers in a list that rises.
use Rattle.std.proofs.Common.{◌≡◌, ◌≢◌, ℕ, zero, suc, ◌<◌, ◌≤◌, ◌⊎◌, cond, List, [], ◌∷◌, length, map, get_or, Contains, refl, ap, sym, ◌∙◌, subst, inl, inr, ⊎_elim, arith, eq-eqb, ne_eqb}
use Rattle.std.proofs.lemmas.Bool.{cases_eq, cases_lt}
use Rattle.std.proofs.lemmas.List.{get_or-map, length-map}
use Rattle.std.specs.List.Sorted.{IsStrictlyIncreasing}
use Rattle.fm_base.proofs.GraphLemmas.{numbers_back, numbers_then, paired_back}
use Rattle.fm_base.specs.Graph.{AreJoined, AreLeastJoined, AreNodes, ArePaired, IsPath}
use Rattle.fm_code.proofs.EdgesLemmas.{Contains-from_map, Contains-map}
use Rattle.fm_flow.proofs.RisingLemmas.{not_above, rising_pair}
use Rattle.fm_summ.specs.inner.Numbers.{Merges, named, number_in}

-- ---- places

-- one place for each number
one_place : (names : List ℕ) → IsStrictlyIncreasing names → (i j : ℕ) → i < length names → j < length names → get_or names i 0 ≡ get_or names j 0 → i ≡ j
one_place names rising i j first second same =
    ⊎_elim (λ (before : i < j). absurd (let up = rising_pair names rising i j before second in omega arith))
    (λ (le : j ≤ i).
    ⊎_elim (λ (after : j < i). absurd (let up = rising_pair names rising j i after first in omega arith)) (λ (ge : i ≤ j). omega arith) (cases_lt j i))
    (cases_lt i j)

-- ---- what a number becomes

-- at the first place of a number
number_in-at : (names values : List ℕ) (n i : ℕ) → i < length names → length values ≡ length names → get_or names i 0 ≡ n →
    ((k : ℕ) → k < i → get_or names k 0 ≢ n) → number_in names values n ≡ get_or values i 0
number_in-at [] values n i inside same at before = absurd (omega arith)
number_in-at (name ∷ names) [] n i inside same at before = absurd (omega arith)
number_in-at (name ∷ names) (value ∷ values) n zero inside same at before =
    ap (λ b. cond b value (number_in names values n)) (eq-eqb name n at)
number_in-at (name ∷ names) (value ∷ values) n (suc i) inside same at before =
    ap (λ b. cond b value (number_in names values n)) (ne_eqb name n (before 0 (omega arith)))
    ∙ number_in-at names values n i (omega arith) (omega arith) at (λ k below. before (suc k) (omega arith))

pub number_in-place : (names values : List ℕ) → IsStrictlyIncreasing names → length values ≡ length names → (n i : ℕ) → i < length names →
    get_or names i 0 ≡ n → number_in names values n ≡ get_or values i 0
number_in-place names values rising same n i inside at =
    number_in-at names values n i inside same at
    (λ k below is. let up = rising_pair names rising k i below inside in omega (arith, up, is, at))

pub number_in-none : (names values : List ℕ) (n : ℕ) → ((k : ℕ) → k < length names → get_or names k 0 ≢ n) → number_in names values n ≡ n
number_in-none [] values n none = refl
number_in-none (name ∷ names) [] n none = refl
number_in-none (name ∷ names) (value ∷ values) n none =
    ap (λ b. cond b value (number_in names values n)) (ne_eqb name n (none 0 (omega arith)))
    ∙ number_in-none names values n (λ k below. none (suc k) (omega arith))

-- a number has a place or none
pub record HasIndex (names : List ℕ) (n : ℕ) : Type 0 where
  pub index : ℕ
  pub inside : index < length names
  pub is : get_or names index 0 ≡ n

later : (name : ℕ) (names : List ℕ) (n : ℕ) → name ≢ n → ((k : ℕ) → k < length names → get_or names k 0 ≢ n) →
    (k : ℕ) → k < length (name ∷ names) → get_or (name ∷ names) k 0 ≢ n
later name names n apart none zero below = apart
later name names n apart none (suc k) below = none k (omega arith)

place_or_none : (names : List ℕ) (n : ℕ) → HasIndex names n ⊎ ((k : ℕ) → k < length names → get_or names k 0 ≢ n)
place_or_none [] n = inr (λ k below. absurd (omega arith))
place_or_none (name ∷ names) n =
    ⊎_elim (λ (same : name ≡ n). inl (record { index = 0; inside = omega arith; is = same }))
    (λ (apart : name ≢ n).
    ⊎_elim
    (λ (found : HasIndex names n). inl (record { index = suc found.index; inside = let inside = found.inside in omega arith; is = found.is }))
    (λ none. inr (later name names n apart none))
    (place_or_none names n))
    (cases_eq name n)

-- ---- paths of places and of numbers

paired_named : (names : List ℕ) (indexed pairs : List (ℕ × ℕ)) → map (named names) indexed ≡ pairs → (i j : ℕ) → ArePaired indexed i j →
    ArePaired pairs (get_or names i 0) (get_or names j 0)
paired_named names indexed pairs are i j (inl found) = inl (subst (λ list. Contains list (get_or names i 0, get_or names j 0)) are (Contains-map (named names) indexed (i, j) found))
paired_named names indexed pairs are i j (inr found) = inr (subst (λ list. Contains list (get_or names j 0, get_or names i 0)) are (Contains-map (named names) indexed (j, i) found))

path_named : (names : List ℕ) (indexed pairs : List (ℕ × ℕ)) → map (named names) indexed ≡ pairs → (i : ℕ) (path : List ℕ) (j : ℕ) →
    IsPath indexed i path j → AreJoined pairs (get_or names i 0) (get_or names j 0)
path_named names indexed pairs are i [] j same = ([], ap (λ k. get_or names k 0) same)
path_named names indexed pairs are i (next ∷ rest) j (paired, path) =
    let onward = path_named names indexed pairs are next rest j path in
    (get_or names next 0 ∷ onward.0, (paired_named names indexed pairs are i next paired, onward.1))

-- ---- the renumbering

record Setting (pairs indexed : List (ℕ × ℕ)) (names roots values : List ℕ) : Type 0 where
  pub rising : IsStrictlyIncreasing names
  pub are : map (named names) indexed ≡ pairs
  pub nodes : AreNodes (length names) indexed
  pub least : AreLeastJoined indexed (length names) roots
  pub values_are : values ≡ map (λ k. get_or names k 0) roots

roots_inside : (pairs indexed : List (ℕ × ℕ)) (names roots values : List ℕ) → Setting pairs indexed names roots values → (i : ℕ) → i < length names →
    (get_or roots i 0 ≤ i)
roots_inside pairs indexed names roots values s i inside = (s.least.each i inside).no_less i ([], refl)

value_at : (pairs indexed : List (ℕ × ℕ)) (names roots values : List ℕ) → Setting pairs indexed names roots values → (n i : ℕ) → i < length names →
    get_or names i 0 ≡ n → number_in names values n ≡ get_or names (get_or roots i 0) 0
value_at pairs indexed names roots values s n i inside at =
    let size : length values ≡ length names = ap length s.values_are ∙ length-map roots (λ k. get_or names k 0) ∙ s.least.one_each in
    number_in-place names values s.rising size n i inside at
    ∙ ap (λ list. get_or list i 0) s.values_are
    ∙ get_or-map (λ k. get_or names k 0) roots i 0 0 (let count = s.least.one_each in omega arith)

same_root : (pairs indexed : List (ℕ × ℕ)) (names roots values : List ℕ) → Setting pairs indexed names roots values → (i j : ℕ) → i < length names →
    j < length names → ArePaired indexed i j → get_or roots i 0 ≡ get_or roots j 0
same_root pairs indexed names roots values s i j first second paired =
    let one = s.least.each i first in
    let other = s.least.each j second in
    let up = one.no_less (get_or roots j 0) (j ∷ other.joined.0, (paired, other.joined.1)) in
    let down = other.no_less (get_or roots i 0) (i ∷ one.joined.0, (paired_back indexed i j paired, one.joined.1)) in
    omega arith

merges_same : (pairs indexed : List (ℕ × ℕ)) (names roots values : List ℕ) → Setting pairs indexed names roots values → (a b : ℕ) →
    Contains pairs (a, b) → number_in names values a ≡ number_in names values b
merges_same pairs indexed names roots values s a b found =
    let was = Contains-from_map (named names) indexed (a, b) (subst (λ list. Contains list (a, b)) (sym s.are) found) in
    let places = was.0 in
    let below = subst (λ (v : ℕ × ℕ). (v.0 < length names) × (v.1 < length names)) was.1.2 (s.nodes was.1.0 places was.1.1) in
    let first : get_or names places.0 0 ≡ a = ap (λ (v : ℕ × ℕ). v.0) was.2 in
    let second : get_or names places.1 0 ≡ b = ap (λ (v : ℕ × ℕ). v.1) was.2 in
    value_at pairs indexed names roots values s a places.0 below.0 first
    ∙ ap (λ k. get_or names k 0) (same_root pairs indexed names roots values s places.0 places.1 below.0 below.1 (inl was.1))
    ∙ sym (value_at pairs indexed names roots values s b places.1 below.1 second)

merges_only : (pairs indexed : List (ℕ × ℕ)) (names roots values : List ℕ) → Setting pairs indexed names roots values → (a b : ℕ) →
    number_in names values a ≡ number_in names values b → AreJoined pairs a b
merges_only pairs indexed names roots values s a b same =
    ⊎_elim
    (λ (one : HasIndex names a).
    let root = get_or roots one.index 0 in
    let up = roots_inside pairs indexed names roots values s one.index one.inside in
    let value = value_at pairs indexed names roots values s a one.index one.inside one.is in
    let path = (s.least.each one.index one.inside).joined in
    let to_root : AreJoined pairs a (get_or names root 0) =
    subst (λ v. AreJoined pairs v (get_or names root 0)) one.is (path_named names indexed pairs s.are one.index path.0 root path.1) in
    ⊎_elim
    (λ (other : HasIndex names b).
    let value_too = value_at pairs indexed names roots values s b other.index other.inside other.is in
    let path_too = (s.least.each other.index other.inside).joined in
    let root_too = get_or roots other.index 0 in
    let from_root : AreJoined pairs b (get_or names root_too 0) =
    subst (λ v. AreJoined pairs v (get_or names root_too 0)) other.is (path_named names indexed pairs s.are other.index path_too.0 root_too path_too.1) in
    let one_root : get_or names root_too 0 ≡ get_or names root 0 = sym value_too ∙ sym same ∙ value in
    numbers_then pairs a (get_or names root 0) b to_root (numbers_back pairs b (get_or names root 0) (subst (λ v. AreJoined pairs b v) one_root from_root)))
    (λ none.
    let stays = number_in-none names values b none in
    let is_root : get_or names root 0 ≡ b = sym value ∙ same ∙ stays in
    absurd (none root (omega (arith, up, one.inside)) is_root))
    (place_or_none names b))
    (λ none.
    let stays = number_in-none names values a none in
    ⊎_elim
    (λ (other : HasIndex names b).
    let up = roots_inside pairs indexed names roots values s other.index other.inside in
    let value = value_at pairs indexed names roots values s b other.index other.inside other.is in
    absurd (none (get_or roots other.index 0) (omega (arith, up, other.inside)) (sym value ∙ sym same ∙ stays)))
    (λ none_too. ([], sym stays ∙ same ∙ number_in-none names values b none_too))
    (place_or_none names b))
    (place_or_none names a)

merges_down : (pairs indexed : List (ℕ × ℕ)) (names roots values : List ℕ) → Setting pairs indexed names roots values → (n : ℕ) → number_in names values n ≤ n
merges_down pairs indexed names roots values s n =
    ⊎_elim
    (λ (place : HasIndex names n).
    let up = roots_inside pairs indexed names roots values s place.index place.inside in
    let value = value_at pairs indexed names roots values s n place.index place.inside place.is in
    let lower = not_above names s.rising (get_or roots place.index 0) place.index up place.inside in
    omega (arith, value, lower, place.is))
    (λ none. omega (arith, number_in-none names values n none))
    (place_or_none names n)

pub merges : (pairs indexed : List (ℕ × ℕ)) (names roots values : List ℕ) → IsStrictlyIncreasing names → map (named names) indexed ≡ pairs →
    AreNodes (length names) indexed → AreLeastJoined indexed (length names) roots → values ≡ map (λ k. get_or names k 0) roots →
    Merges pairs (number_in names values)
merges pairs indexed names roots values rising are nodes least values_are =
    let s : Setting pairs indexed names roots values = record { rising = rising; are = are; nodes = nodes; least = least; values_are = values_are } in
    record {
      same = merges_same pairs indexed names roots values s;
      only = merges_only pairs indexed names roots values s;
      down = merges_down pairs indexed names roots values s;
    }

-- the values are names
pub roots_below : (indexed : List (ℕ × ℕ)) (count : ℕ) (roots : List ℕ) → AreLeastJoined indexed count roots → (k : ℕ) → k < length roots →
    get_or roots k 0 < count
roots_below indexed count roots least k inside =
    let size = least.one_each in
    let le = (least.each k (omega arith)).no_less k ([], refl) in omega arith
