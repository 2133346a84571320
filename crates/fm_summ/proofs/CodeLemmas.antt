-- What single functions return, over plain lists.
use Rattle.std.proofs.Common.{◌≡◌, ◌≢◌, ℕ, ◌+◌, ◌<◌, ◌≤◌, eqb, Bool, true, false, cond, append-nil, List, [], ◌∷◌, ◌++◌, length, map, take, get_or, set, Contains, Ok, Err, MatchResult, Result, ap, sym, ◌∙◌, subst, ⊎_elim, arith}
use Rattle.std.proofs.lemmas.Bool.{cases_lt}
use Rattle.std.proofs.lemmas.List.{get_or_append_left, get_or_default, get_or_read, get_or-map, get_or_push, length_push, map-append, map-set, take_all, take_more}
use Rattle.std.specs.Global.{Vec}
use Rattle.fm_base.proofs.ContainsFacts.{Contains-flat_map}
use Rattle.fm_base.specs.Graph.{AreNodes}
use Rattle.fm_summ.specs.inner.Callers.{ended_by, lists_of, with_caller}
use Rattle.std.proofs.lemmas.List.Filters.{dedup_is}
use Rattle.std.proofs.lemmas.List.Kept.{Contains-dedup_nat}
use Rattle.std.proofs.lemmas.List.Sorted.{searched, Contains-permutation}
use Rattle.std.proofs.lemmas.Map.Keys.{IsStrictlyIncreasing-dedup}
use Rattle.std.proofs.lemmas.List.FromFn.{map-range_with_len_more}
use Rattle.std.specs.List.{flat_map, range_with_len}
use Rattle.fm_types.specs.States.{is_reference}
use Rattle.fm_types.specs.declared.slots.Slot.{Slot}
use Rattle.fm_types.specs.declared.slots.Slot.TheVariants as slot
use Rattle.fm_world.specs.Programs.{Program}
use Rattle.fm_conn.specs.declared.ends.End2.{End2}
use Rattle.fm_conn.specs.declared.ends.End2.TheVariants as end
use Rattle.fm_conn.specs.declared.shapes.Shape.{Shape}
use Rattle.fm_summ.specs.Exact.{no_shape, shape_at}
use Rattle.fm_summ.specs.inner.BuiltIns.{parameter_end}
use Rattle.fm_summ.specs.inner.State.{first_shape}
use Rattle.std.specs.List.Retain.{IsFiltered, DiffersFromLast}
use Rattle.std.specs.List.Sorted.{IsBinarySearchResult, IsPermutation, IsSorted, IsStrictlyIncreasing}
use Rattle.std.specs.Ordering.{nat_cmp}
use Rattle.fm_code.proofs.EdgesLemmas.{Contains-later}
use Rattle.fm_flow.proofs.RisingLemmas.{not_above}
use Rattle.fm_conn.proofs.ListLemmas.{Contains-first}
use Rattle.fm_summ.proofs.NumberLemmas.{number_in-none, number_in-place}
use Rattle.fm_summ.specs.inner.Numbers.{named, number_in}

-- ---- the numbers of pairs

pub names_rise : (sorted names : List ℕ) → IsSorted nat_cmp sorted → IsFiltered (DiffersFromLast eqb) [] sorted names → IsStrictlyIncreasing names
names_rise sorted names rising filtered = subst IsStrictlyIncreasing (sym (dedup_is eqb sorted names filtered)) (IsStrictlyIncreasing-dedup sorted rising)

name_kept : (pairs : List (ℕ × ℕ)) (flat sorted names : List ℕ) → IsPermutation flat sorted → IsFiltered (DiffersFromLast eqb) [] sorted names →
    (n : ℕ) → Contains flat n → Contains names n
name_kept pairs flat sorted names permutation filtered n found =
    subst (λ list. Contains list n) (sym (dedup_is eqb sorted names filtered)) (Contains-dedup_nat sorted n (Contains-permutation flat sorted n permutation found))

pub names_named : (pairs : List (ℕ × ℕ)) (flat sorted names : List ℕ) → flat ≡ flat_map (λ (p : ℕ × ℕ). p.0 ∷ p.1 ∷ []) pairs → IsPermutation flat sorted →
    IsFiltered (DiffersFromLast eqb) [] sorted names → (a b : ℕ) → Contains pairs (a, b) → Contains names a × Contains names b
names_named pairs flat sorted names are permutation filtered a b found =
    let in_flat : (n : ℕ) → Contains (a ∷ b ∷ []) n → Contains names n = λ n among.
    name_kept pairs flat sorted names permutation filtered n
    (subst (λ list. Contains list n) (sym are) (Contains-flat_map (λ (p : ℕ × ℕ). p.0 ∷ p.1 ∷ []) pairs (a, b) n found among)) in
    (in_flat a (Contains-first a (b ∷ [])), in_flat b (Contains-later a (b ∷ []) b (Contains-first b [])))

-- ---- searches

search_result : (names : List ℕ) (n : ℕ) (r : Result ℕ ℕ) → IsStrictlyIncreasing names → IsBinarySearchResult (λ y. nat_cmp y n) names r →
    MatchResult r (λ i. (i < length names) × (get_or names i 0 ≡ n))
    (λ i. (i ≤ length names) × ((k : ℕ) → k < i → get_or names k 0 < n) × ((k : ℕ) → i ≤ k → k < length names → n < get_or names k 0))
search_result names n r rising found = searched names n r found (λ i j le inside. not_above names rising i j le inside)

pub place_found : (names : List ℕ) (n i : ℕ) → IsStrictlyIncreasing names → IsBinarySearchResult (λ y. nat_cmp y n) names (Ok i) →
    (i < length names) × (get_or names i 0 ≡ n)
place_found names n i rising found = search_result names n (Ok i) rising found

pub no_place : (names : List ℕ) (n i : ℕ) → IsStrictlyIncreasing names → IsBinarySearchResult (λ y. nat_cmp y n) names (Err i) →
    (k : ℕ) → k < length names → get_or names k 0 ≢ n
no_place names n i rising found k inside same =
    let told = search_result names n (Err i) rising found in
    ⊎_elim (λ (before : k < i). let low = told.1 k before in omega arith) (λ (after : i ≤ k). let high = told.2 k after inside in omega arith) (cases_lt k i)

pub not_there : (names : List ℕ) (n i : ℕ) → IsStrictlyIncreasing names → IsBinarySearchResult (λ y. nat_cmp y n) names (Err i) → Contains names n → ⊥
not_there names n i rising found (k, inside, there) =
    no_place names n i rising found k inside (get_or_default names k 0 n inside ∙ there)

pub number_found : (names values : List ℕ) (n i : ℕ) → IsStrictlyIncreasing names → length values ≡ length names →
    IsBinarySearchResult (λ y. nat_cmp y n) names (Ok i) → get_or values i 0 ≡ number_in names values n
number_found names values n i rising same found =
    let place = place_found names n i rising found in sym (number_in-place names values rising same n i place.0 place.1)

pub number_missing : (names values : List ℕ) (n i : ℕ) → IsStrictlyIncreasing names → IsBinarySearchResult (λ y. nat_cmp y n) names (Err i) →
    n ≡ number_in names values n
number_missing names values n i rising found = sym (number_in-none names values n (no_place names n i rising found))

-- ---- elements

pub element : {X : Type 0} (xs : List X) (i : ℕ) (x : X) → i < length xs → x ≡ get_or xs i x → Contains xs x
element xs i x inside is = (i, inside, sym is)

-- all pairs were gone over
pub all_named : (pairs : List (ℕ × ℕ)) (i : ℕ) (names : List ℕ) → names ≡ flat_map (λ (p : ℕ × ℕ). p.0 ∷ p.1 ∷ []) (take i pairs) →
    (i < length pairs → ⊥) → names ≡ flat_map (λ (p : ℕ × ℕ). p.0 ∷ p.1 ∷ []) pairs
all_named pairs i names is past = is ∙ ap (flat_map (λ (p : ℕ × ℕ). p.0 ∷ p.1 ∷ [])) (take_all i pairs (⊎_elim (λ inside. absurd (past inside)) (λ le. le) (cases_lt i (length pairs))))

-- a pair more by its places
pub indices_more : (names : List ℕ) (pairs : List (ℕ × ℕ)) (i : ℕ) (before after : List (ℕ × ℕ)) (a b : ℕ) → i < length pairs →
    map (named names) before ≡ take i pairs → AreNodes (length names) before → a < length names → get_or names a 0 ≡ (get_or pairs i (0, 0)).0 →
    b < length names → get_or names b 0 ≡ (get_or pairs i (0, 0)).1 → after ≡ before ++ (a, b) ∷ [] →
    (map (named names) after ≡ take (i + 1) pairs) × AreNodes (length names) after
indices_more names pairs i before after a b inside so_far nodes first first_is second second_is more = (
  ap (map (named names)) more ∙ map-append (named names) before ((a, b) ∷ [])
      ∙ (λ k. so_far k ++ (first_is k, second_is k) ∷ []) ∙ sym (take_more pairs i (0, 0) inside),
  λ k d below.
      let P : ℕ × ℕ → Type 0 = λ v. (v.0 < length names) × (v.1 < length names) in
      let longer : length after ≡ length before + 1 = ap length more ∙ length_push before (a, b) in
      ⊎_elim
      (λ (earlier : k < length before).
      subst P (sym (ap (λ list. get_or list k d) more ∙ get_or_append_left before ((a, b) ∷ []) d k earlier)) (nodes k d earlier))
      (λ (last : length before ≤ k).
      subst P (sym (ap (λ list. get_or list k d) more ∙ get_or_push before (a, b) d k (omega arith))) (first, second))
      (cases_lt k (length before)),
)

-- ---- lists in lists

-- one of them has an element more
pub pushed_at : (callers : List (Vec ℕ)) (target caller : ℕ) (was now : Vec ℕ) → target < length callers → was ≡ get_or callers target was →
    now.items ≡ ended_by was.items caller → lists_of (set callers target now) ≡ with_caller (lists_of callers) target caller
pushed_at callers target caller was now inside is more =
    map-set (λ (x : Vec ℕ). x.items) callers target now
    ∙ ap (set (lists_of callers) target) (more ∙ ap (λ list. ended_by list caller) (ap (λ (x : Vec ℕ). x.items) is ∙ sym (get_or-map (λ (x : Vec ℕ). x.items) callers target was [] inside)))

-- ---- ends and shapes one by one

pub parameter_pushed : (words : List Slot) (i local : ℕ) (before after : List End2) (b : Bool) → b ≡ is_reference (get_or words i slot.Top) → b ≡ true →
    local ≡ i → after ≡ before ++ end.Parameter local ∷ [] → after ≡ before ++ parameter_end words i
parameter_pushed words i local before after b told is same more =
    more ∙ ap (λ k. before ++ end.Parameter k ∷ []) same ∙ ap (λ v. before ++ cond v (end.Parameter i ∷ []) []) (sym is ∙ told)

pub parameter_not : (words : List Slot) (i : ℕ) (before : List End2) (b : Bool) → b ≡ is_reference (get_or words i slot.Top) → b ≡ false →
    before ≡ before ++ parameter_end words i
parameter_not words i before b told is = sym (append-nil before) ∙ ap (λ v. before ++ cond v (end.Parameter i ∷ []) []) (sym is ∙ told)

pub shapes_more : (p : Program) (shapes : List Shape) (i : ℕ) (shape : Shape) (before after : List Shape) (made : Shape) → i < length shapes →
    shape ≡ get_or shapes i shape → before ≡ map (λ method. first_shape p method (shape_at shapes method)) (range_with_len 0 i) →
    made ≡ first_shape p i shape → after ≡ before ++ made ∷ [] →
    after ≡ map (λ method. first_shape p method (shape_at shapes method)) (range_with_len 0 (i + 1))
shapes_more p shapes i shape before after made inside is so_far made_is more =
    let at : shape ≡ shape_at shapes i = get_or_read shapes i shape inside is no_shape in
    more ∙ (λ k. so_far k ++ (made_is ∙ ap (first_shape p i) at) k ∷ [])
    ∙ sym (map-range_with_len_more (λ method. first_shape p method (shape_at shapes method)) 0 i i (omega arith))
