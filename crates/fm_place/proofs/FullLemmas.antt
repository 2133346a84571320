-- All held sites and all places: what is inserted is safe.
use Rattle.std.proofs.Common.{◌≡◌, ℕ, zero, suc, ◌+◌, ◌-◌, ◌<◌, ◌≤◌, cond, Bool, true, false, List, [], ◌∷◌, length, map, take, Option, Some, None, refl, sym, ap, subst, ◌∙◌, ⊎_elim, arith, Contains}
use Rattle.std.specs.Prelude.{nat_eq, nat_lt, filter, slice_get}
use Rattle.std.specs.List.{AllByRecursion, IsDistinct, range_with_len}
use Rattle.std.proofs.lemmas.Bool.Decides.{eqb_tells}
use Rattle.std.proofs.lemmas.List.{length-map}
use Rattle.std.proofs.lemmas.List.FromFn.{get_or-map-range_with_len, length-map-range_with_len}
use Rattle.std.proofs.lemmas.Option.{none-some, option_and_then_some, same_Some}
use Rattle.fm_base.proofs.ContainsFacts.{Contains-cons_cases}
use Rattle.fm_base.specs.declared.limits.TheConstants.{MAX_LOCAL_WORDS}
use Rattle.fm_code.proofs.EdgesLemmas.{Contains-first, Contains-from_filter, Contains-from_map, Contains-later}
use Rattle.fm_conn.specs.Facts.{Facts}
use Rattle.fm_conn.specs.Nodes.{TypedMethod}
use Rattle.fm_world.specs.Programs.{Program}
use Rattle.fm_place.proofs.PathLemmas.{places_are_by_paths}
use Rattle.fm_place.specs.Insertions.{all_holders, all_insertions, before_at, full_insertions, Holder, Insertions, numbers_of}
use Rattle.fm_place.specs.Laws.{FullIsSafe}
use Rattle.fm_place.specs.Places.{is_busy, is_place, MayHold}
use Rattle.fm_place.specs.Safe.{AreSafe, full_plans, HoldsNoChain, IsSafeAt, IsSafeHolder, IsSafeMethod, MayFree, method_in_facts}
use Rattle.fm_place.specs.Sites.{captured_sites, held_sites, is_captured_site, site_class}
use Rattle.fm_place.specs.declared.limits.TheConstants.{MAX_HOLDING_STACK_WORDS}

-- ---- rising numbers

-- the numbers rise, from this one on
abbrev pub RisesFrom : ℕ → List ℕ → Type 0
RisesFrom n [] = Unit {0}
RisesFrom n (x ∷ xs) = (n ≤ x) × RisesFrom (x + 1) xs

rises-lower : (m n : ℕ) (xs : List ℕ) → m ≤ n → RisesFrom n xs → RisesFrom m xs
rises-lower m n [] below rises = tt
rises-lower m n (x ∷ xs) below (first, rest) = (omega arith, rest)

rises-range : (a n : ℕ) → RisesFrom a (range_with_len a n)
rises-range a zero = tt
rises-range a (suc n) = (omega arith, rises-range (a + 1) n)

rises-filter : (p : ℕ → Bool) (n : ℕ) (xs : List ℕ) → RisesFrom n xs → RisesFrom n (filter p xs)
rises-filter p n [] rises = tt
rises-filter p n (x ∷ xs) (first, rest) =
    elim (p x) as (λ b. RisesFrom n (cond b (x ∷ filter p xs) (filter p xs))) [
      | true ↦ (first, rises-filter p (x + 1) xs rest)
      | false ↦ rises-lower n (x + 1) (filter p xs) (omega arith) (rises-filter p (x + 1) xs rest)
    ]

rises-take : (k n : ℕ) (xs : List ℕ) → RisesFrom n xs → RisesFrom n (take k xs)
rises-take zero n xs rises = tt
rises-take (suc k) n [] rises = tt
rises-take (suc k) n (x ∷ xs) (first, rest) = (first, rises-take k (x + 1) xs rest)

rises-apart : (z n : ℕ) (xs : List ℕ) → z < n → RisesFrom n xs → AllByRecursion (λ y. nat_eq z y ≡ false) xs
rises-apart z n [] below rises = tt
rises-apart z n (x ∷ xs) below (first, rest) =
    (⊎_elim (λ same. absurd (omega (arith, same.1))) (λ differs. differs.0) (eqb_tells z x), rises-apart z (x + 1) xs (omega arith) rest)

rises-distinct : (n : ℕ) (xs : List ℕ) → RisesFrom n xs → IsDistinct nat_eq xs
unfolding IsDistinct
rises-distinct n [] rises = tt
rises-distinct n (x ∷ xs) (first, rest) = (rises-apart x (x + 1) xs (omega arith) rest, rises-distinct (x + 1) xs rest)

-- ---- elements

Contains-from_take : {X : Type 0} (k : ℕ) (xs : List X) (x : X) → Contains (take k xs) x → Contains xs x
Contains-from_take zero xs x (i, inside, there) = absurd (omega arith)
Contains-from_take (suc k) [] x (i, inside, there) = absurd (omega arith)
Contains-from_take (suc k) (y ∷ xs) x found =
    ⊎_elim (λ (same : x ≡ y). Contains-first y xs x same) (λ later. Contains-later y xs x (Contains-from_take k xs x later))
    (Contains-cons_cases y (take k xs) x found)

pub all-from : {X : Type 0} (P : X → Type 0) (xs : List X) → ((x : X) → Contains xs x → P x) → AllByRecursion P xs
all-from P [] each = tt
all-from P (x ∷ xs) each = (each x (Contains-first x xs x refl), all-from P xs (λ y found. each y (Contains-later x xs y found)))

-- ---- the numbers of holders that pass a test

rises-numbers : (test : Holder → Bool) (n : ℕ) (holders : List Holder) → RisesFrom n (numbers_of test n holders)
rises-numbers test n [] = tt
rises-numbers test n (h ∷ holders) =
    elim (test h) as (λ b. RisesFrom n (cond b (n ∷ numbers_of test (n + 1) holders) (numbers_of test (n + 1) holders))) [
      | true ↦ (omega arith, rises-numbers test (n + 1) holders)
      | false ↦ rises-lower n (n + 1) (numbers_of test (n + 1) holders) (omega arith) (rises-numbers test (n + 1) holders)
    ]

-- the holder of a number that was found
pub record Numbered (test : Holder → Bool) (n : ℕ) (holders : List Holder) (k : ℕ) : Type 0 where
  pub place : ℕ
  pub holder : Holder
  pub number : k ≡ n + place
  pub there : slice_get holders place ≡ Some holder
  pub passes : test holder ≡ true

pub numbers-found : (test : Holder → Bool) (n : ℕ) (holders : List Holder) (k : ℕ) → Contains (numbers_of test n holders) k → Numbered test n holders k
numbers-found test n [] k (i, inside, there) = absurd (omega arith)
numbers-found test n (h ∷ holders) k found =
    (elim (test h) as (λ b. test h ≡ b → Contains (cond b (n ∷ numbers_of test (n + 1) holders) (numbers_of test (n + 1) holders)) k
    → Numbered test n (h ∷ holders) k) [
      | true ↦ (λ passes among. ⊎_elim
          (λ (same : k ≡ n). record { place = 0; holder = h; number = omega arith; there = refl; passes = passes })
          (λ later. next (numbers-found test (n + 1) holders k later))
          (Contains-cons_cases n (numbers_of test (n + 1) holders) k among))
      | false ↦ (λ fails among. next (numbers-found test (n + 1) holders k among))
    ]) refl found where
      next : Numbered test (n + 1) holders k → Numbered test n (h ∷ holders) k
      next was = record { place = suc was.place; holder = was.holder; number = omega (arith, was.number); there = was.there; passes = was.passes }

numbers-later : (test : Holder → Bool) (n : ℕ) (g : Holder) (holders : List Holder) (k : ℕ) → Contains (numbers_of test (n + 1) holders) k
    → Contains (numbers_of test n (g ∷ holders)) k
numbers-later test n g holders k later =
    elim (test g) as (λ b. Contains (cond b (n ∷ numbers_of test (n + 1) holders) (numbers_of test (n + 1) holders)) k) [
      | true ↦ Contains-later n (numbers_of test (n + 1) holders) k later
      | false ↦ later
    ]

pub numbers-from : (test : Holder → Bool) (n : ℕ) (holders : List Holder) (place : ℕ) (h : Holder) → slice_get holders place ≡ Some h → test h ≡ true
    → Contains (numbers_of test n holders) (n + place)
numbers-from test n [] place h there passes = absurd (none-some h there)
numbers-from test n (g ∷ holders) zero h there passes =
    subst (λ b. Contains (cond b (n ∷ numbers_of test (n + 1) holders) (numbers_of test (n + 1) holders)) (n + 0))
    (sym (ap test (same_Some _ _ there) ∙ passes)) (Contains-first n (numbers_of test (n + 1) holders) (n + 0) (omega arith))
numbers-from test n (g ∷ holders) (suc place) h there passes =
    numbers-later test n g holders (n + suc place)
    (subst (Contains (numbers_of test (n + 1) holders)) (omega arith) (numbers-from test (n + 1) holders place h there passes))

-- ---- what is inserted

held-captured : (facts : Facts) (x : TypedMethod) (j : ℕ) → Contains (held_sites facts x) j → is_captured_site facts x j ≡ true
held-captured facts x j found = few (nat_lt MAX_HOLDING_STACK_WORDS x.code.max_stack) found where
  few : (b : Bool) → Contains (cond b [] (take (MAX_LOCAL_WORDS - x.code.max_locals) (captured_sites facts x))) j → is_captured_site facts x j ≡ true
  few true (k, inside, there) = absurd (omega arith)
  few false among =
      (Contains-from_filter (is_captured_site facts x) (range_with_len 0 (length x.code.items)) j
      (Contains-from_take (MAX_LOCAL_WORDS - x.code.max_locals) (captured_sites facts x) j among)).1

held-rises : (facts : Facts) (x : TypedMethod) → RisesFrom 0 (held_sites facts x)
held-rises facts x =
    elim (nat_lt MAX_HOLDING_STACK_WORDS x.code.max_stack) as
    (λ b. RisesFrom 0 (cond b [] (take (MAX_LOCAL_WORDS - x.code.max_locals) (captured_sites facts x)))) [
      | true ↦ tt
      | false ↦ rises-take (MAX_LOCAL_WORDS - x.code.max_locals) 0 (captured_sites facts x)
          (rises-filter (is_captured_site facts x) 0 (range_with_len 0 (length x.code.items)) (rises-range 0 (length x.code.items)))
    ]

pub held-few : (facts : Facts) (x : TypedMethod) → length (held_sites facts x) ≤ MAX_LOCAL_WORDS - x.code.max_locals
held-few facts x =
    elim (nat_lt MAX_HOLDING_STACK_WORDS x.code.max_stack) as
    (λ b. length (cond b [] (take (MAX_LOCAL_WORDS - x.code.max_locals) (captured_sites facts x))) ≤ MAX_LOCAL_WORDS - x.code.max_locals) [
      | true ↦ omega arith
      | false ↦ length_of_take (MAX_LOCAL_WORDS - x.code.max_locals) (captured_sites facts x)
    ] where
      length_of_take : (k : ℕ) (xs : List ℕ) → length (take k xs) ≤ k
      length_of_take zero xs = omega arith
      length_of_take (suc k) [] = omega arith
      length_of_take (suc k) (y ∷ xs) = let rest = length_of_take k xs in omega arith

sites-back : (facts : Facts) (x : TypedMethod) (sites : List ℕ)
    → map (λ (h : Holder). h.site) (map (λ j. record { site = j; class = site_class facts x j; looped = false }) sites) ≡ sites
sites-back facts x [] = refl
sites-back facts x (j ∷ sites) = ap (λ rest. j ∷ rest) (sites-back facts x sites)

holder-safe : (facts : Facts) (x : TypedMethod) (h : Holder) → Contains (all_holders facts x) h → IsSafeHolder facts x h
holder-safe facts x h found = of_site (Contains-from_map made (held_sites facts x) h found) where
  made : ℕ → Holder
  made j = record { site = j; class = site_class facts x j; looped = false }

  of_site : (j : ℕ) × Contains (held_sites facts x) j × (made j ≡ h) → IsSafeHolder facts x h
  of_site (j, held, same) =
      subst (IsSafeHolder facts x) same (record { captured = held-captured facts x j held; class = refl })

pub before-is : (facts : Facts) (x : TypedMethod) (j : ℕ) → j < length x.code.items
    → before_at (all_insertions facts x) j ≡ numbers_of (λ h. is_place facts x h.site h.class j) 0 (all_holders facts x)
before-is facts x j inside =
    get_or-map-range_with_len (λ i. numbers_of (λ h. is_place facts x h.site h.class i) 0 (all_holders facts x)) 0 (length x.code.items) j j []
    inside (omega arith)

item-safe : (facts : Facts) (x : TypedMethod) (j : ℕ) → j < length x.code.items → IsSafeAt facts x (all_insertions facts x) j
item-safe facts x j inside = record { once = once; may = may; must = must } where
  test : Holder → Bool
  test h = is_place facts x h.site h.class j

  same : before_at (all_insertions facts x) j ≡ numbers_of test 0 (all_holders facts x)
  same = before-is facts x j inside

  once : IsDistinct nat_eq (before_at (all_insertions facts x) j)
  once = subst (IsDistinct nat_eq) (sym same) (rises-distinct 0 (numbers_of test 0 (all_holders facts x)) (rises-numbers test 0 (all_holders facts x)))

  quiet_of : (number : ℕ) → Numbered test 0 (all_holders facts x) number → MayFree facts x (all_insertions facts x) j number
  quiet_of number was = record {
    holder = was.holder;
    is = subst (λ k. slice_get (all_holders facts x) k ≡ Some was.holder) (omega (arith, was.number)) was.there;
    quiet = ((places_are_by_paths facts x was.holder.site was.holder.class j).0 was.passes).0;
  }

  may : (number : ℕ) → Contains (before_at (all_insertions facts x) j) number → MayFree facts x (all_insertions facts x) j number
  may number found = quiet_of number (numbers-found test 0 (all_holders facts x) number (subst (λ xs. Contains xs number) same found))

  must : (number : ℕ) (h : Holder) → slice_get (all_holders facts x) number ≡ Some h → is_busy facts x h.class j ≡ false
      → MayHold facts x h.site h.class j → Contains (before_at (all_insertions facts x) j) number
  must number h there quiet holds =
      subst (λ xs. Contains xs number) (sym same)
      (subst (Contains (numbers_of test 0 (all_holders facts x))) (omega arith)
      (numbers-from test 0 (all_holders facts x) number h there ((places_are_by_paths facts x h.site h.class j).1 (quiet, holds))))

plan-safe : (facts : Facts) (x : TypedMethod) → 0 < length (held_sites facts x) → AreSafe facts x (all_insertions facts x)
plan-safe facts x some = record {
  some = subst (λ n. 0 < n) (sym count) some;
  room = subst (λ n. x.code.max_locals + n ≤ MAX_LOCAL_WORDS) (sym count) (let few = held-few facts x in omega arith);
  holders = all-from (IsSafeHolder facts x) (all_holders facts x) (holder-safe facts x);
  own_sites = subst (IsDistinct nat_eq) (sym (sites-back facts x (held_sites facts x))) (rises-distinct 0 (held_sites facts x) (held-rises facts x));
  one_each = length-map-range_with_len (λ j. numbers_of (λ h. is_place facts x h.site h.class j) 0 (all_holders facts x)) 0 (length x.code.items);
  items = item-safe facts x;
} where
  made : ℕ → Holder
  made j = record { site = j; class = site_class facts x j; looped = false }

  count : length (all_holders facts x) ≡ length (held_sites facts x)
  count = length-map (held_sites facts x) made

pub full-safe : (facts : Facts) (x : TypedMethod) (plan : Insertions) → full_insertions facts x ≡ Some plan → AreSafe facts x plan
full-safe facts x plan found = of_sites (held_sites facts x) refl found where
  plan_of : List ℕ → Option Insertions
  plan_of [] = None
  plan_of (site ∷ sites) = Some (all_insertions facts x)

  of_sites : (sites : List ℕ) → held_sites facts x ≡ sites → plan_of sites ≡ Some plan → AreSafe facts x plan
  of_sites [] same there = absurd (none-some plan there)
  of_sites (site ∷ sites) same there =
      subst (AreSafe facts x) (same_Some _ _ there) (plan-safe facts x (subst (λ xs. 0 < length xs) (sym same) (omega arith)))

-- and no holder holds a chain
holders-plain : (facts : Facts) (x : TypedMethod) (sites : List ℕ)
    → AllByRecursion (λ (h : Holder). h.looped ≡ false) (map (λ j. record { site = j; class = site_class facts x j; looped = false }) sites)
holders-plain facts x [] = tt
holders-plain facts x (j ∷ sites) = (refl, holders-plain facts x sites)

full-plain : (facts : Facts) (x : TypedMethod) (plan : Insertions) → full_insertions facts x ≡ Some plan → HoldsNoChain plan
full-plain facts x plan found = of_sites (held_sites facts x) found where
  plan_of : List ℕ → Option Insertions
  plan_of [] = None
  plan_of (site ∷ sites) = Some (all_insertions facts x)

  of_sites : (sites : List ℕ) → plan_of sites ≡ Some plan → HoldsNoChain plan
  of_sites [] there = absurd (none-some plan there)
  of_sites (site ∷ sites) there = subst HoldsNoChain (same_Some _ _ there) (holders-plain facts x (held_sites facts x))

pub method-safe : (p : Program) (facts : Facts) (method : ℕ) (plan : Insertions) → full_plans p facts method ≡ Some plan → IsSafeMethod p facts method plan
method-safe p facts method plan found =
    option_and_then_some (full_insertions facts) (method_in_facts p facts method) plan found
    (λ x is there. record { x = x; is = is; safe = full-safe facts x plan there; plain = full-plain facts x plan there })

pub full_is_safe : FullIsSafe
full_is_safe p given written marks full = record {
  facts = full.facts;
  exact = full.exact;
  plans = full_plans p full.facts;
  methods = method-safe p full.facts;
  written_is = full.written_is;
  marks_are = full.marks_are;
}
