-- The insertions that the pairs of a method list: the plan is theirs, and no two holders are of one site.
use Rattle.std.proofs.Common.{◌≡◌, ℕ, zero, suc, ◌+◌, ◌<◌, ◌≤◌, Bool, cond, true, false, List, [], ◌∷◌, length, map, replicate, Option, Some, None, Contains, refl, sym, ap, subst, ◌∙◌, arith, eqb-true, eq-eqb}
use Rattle.std.specs.Prelude.{nat_eq, slice_get}
use Rattle.std.specs.List.{flat_map, IsDistinct, range_with_len}
use Rattle.std.proofs.lemmas.Bool.{false≢true}
use Rattle.std.proofs.lemmas.List.{length-map}
use Rattle.std.proofs.lemmas.List.FromFn.{get_or-map-range_with_len, length-map-range_with_len}
use Rattle.std.proofs.lemmas.Option.{none-some, same_Some, slice_get-map}
use Rattle.fm_base.proofs.ContainsFacts.{Contains-flat_map, Contains-none}
use Rattle.fm_base.proofs.OptionFacts.{option_map-some}
use Rattle.fm_base.proofs.TestFacts.{apart-nat_eq}
use Rattle.fm_chain.specs.declared.plans.ChainPlan.{ChainPlan}
use Rattle.fm_code.proofs.EdgesLemmas.{Contains-first, Contains-from_map, Contains-map}
use Rattle.fm_code.specs.declared.code_array.Code.{Code}
use Rattle.fm_flow.proofs.SourcesLemmas.{Contains-from_flat_map}
use Rattle.fm_conn.proofs.ListLemmas.{Contains-one, Contains-range}
use Rattle.fm_place.proofs.FullLemmas.{all-from}
use Rattle.fm_place.proofs.GroupLemmas.{slice_get-mapped}
use Rattle.fm_place.proofs.HolderLemmas.{flat_range_same}
use Rattle.fm_place.specs.Insertions.{after_at, before_at, Holder, Insertions, numbers_of}
use Rattle.fm_place.specs.PlansBy.{IsPlanOf, paired}
use Rattle.fm_place.specs.Safe.{HoldsNoChain}
use Rattle.fm_place.specs.declared.found_sites.Site.{Site}
use Rattle.fm_place_weave.specs.Laws.{IsWholePlan}
use Rattle.fm_summ.proofs.BareLemmas.{all_pass}
use Rattle.fm_world.proofs.ElementLemmas.{place_of}
use Rattle.fm_audit.proofs.HeldLemmas.{held_each, held_parts}
use Rattle.fm_audit.specs.Reading.{Pairs}
use Rattle.fm_audit.specs.inner.Holders.{are_own_items, held_by, held_by_all, is_of_item, is_own_item}
use Rattle.fm_audit.specs.inner.Listed.{AreListed}

-- ---- elements

-- a list of one element at most has no two
one_member : (xs : List ℕ) (a b : ℕ) → length xs ≤ 1 → Contains xs a → Contains xs b → a ≡ b
one_member [] a b few first second = absurd (Contains-none a first)
one_member (x ∷ []) a b few first second = Contains-one x a first ∙ sym (Contains-one x b second)
one_member (x ∷ y ∷ xs) a b few first second = absurd (omega (arith, few))

-- no two places have one number
distinct_by : (xs : List ℕ) → ((i k x : ℕ) → slice_get xs i ≡ Some x → slice_get xs k ≡ Some x → i ≡ k) → IsDistinct nat_eq xs
unfolding IsDistinct
distinct_by [] only = tt
distinct_by (x ∷ xs) only = (
  all-from (λ y. nat_eq x y ≡ false) xs
      (λ y found. apart-nat_eq x y (λ same.
      let place = place_of xs y found in
      let twice : zero ≡ suc place.0 = only 0 (suc place.0) x refl (place.1 ∙ ap (λ z. Some z) (sym same)) in
      omega (arith, twice))),
  distinct_by xs (λ i k y first second. let next : suc i ≡ suc k = only (suc i) (suc k) y first second in omega (arith, next)),
)

-- ---- the numbers of holders that pass a test

module _ (test : Holder → Bool) where
  numbers_none : (a : ℕ) (holders : List Holder) → ((k : ℕ) (h : Holder) → slice_get holders k ≡ Some h → test h ≡ true → ⊥)
      → numbers_of test a holders ≡ []
  numbers_none a [] none = refl
  numbers_none a (h ∷ holders) none =
      by_test (test h) refl (numbers_none (a + 1) holders (λ k g there passes. none (suc k) g there passes)) where
        by_test : (b : Bool) → test h ≡ b → numbers_of test (a + 1) holders ≡ []
            → cond b (a ∷ numbers_of test (a + 1) holders) (numbers_of test (a + 1) holders) ≡ []
        by_test true passes rest = absurd (none 0 h refl passes)
        by_test false fails rest = rest

  -- only the one at this place passes
  numbers_one : (a : ℕ) (holders : List Holder) (k : ℕ) (h : Holder) → slice_get holders k ≡ Some h → test h ≡ true
      → ((i : ℕ) (g : Holder) → slice_get holders i ≡ Some g → test g ≡ true → i ≡ k) → numbers_of test a holders ≡ (a + k) ∷ []
  numbers_one a [] k h there passes only = absurd (none-some h there)
  numbers_one a (g ∷ holders) zero h there passes only =
      let own : test g ≡ true = ap test (same_Some _ _ there) ∙ passes in
      let rest = numbers_of test (a + 1) holders in
      let start : a ≡ a + 0 = omega arith in
      let none : rest ≡ [] =
      numbers_none (a + 1) holders (λ i f at_place passing. let again : suc i ≡ zero = only (suc i) f at_place passing in omega (arith, again)) in
      ap (λ b. cond b (a ∷ rest) rest) own ∙ (λ i. start i ∷ none i)
  numbers_one a (g ∷ holders) (suc k) h there passes only =
      by_test (test g) refl (numbers_one (a + 1) holders k h there passes
      (λ i f at_place passing. let next : suc i ≡ suc k = only (suc i) f at_place passing in omega (arith, next))) where
        by_test : (b : Bool) → test g ≡ b → numbers_of test (a + 1) holders ≡ (a + 1 + k) ∷ []
            → cond b (a ∷ numbers_of test (a + 1) holders) (numbers_of test (a + 1) holders) ≡ (a + suc k) ∷ []
        by_test true passing rest = absurd (let again : zero ≡ suc k = only 0 g refl passing in omega (arith, again))
        by_test false failing rest = rest ∙ (let same : a + 1 + k ≡ a + suc k = omega arith in ap (λ n. n ∷ []) same)

-- ---- lists by item

listed_pair : (f : ℕ → List ℕ) (j h i : ℕ) → (g : ℕ) × Contains (f i) g × (◌≡◌ {A = ℕ × ℕ} (i, g) (j, h)) → Contains (f j) h
listed_pair f j h i (g, there, same) = subst (λ (q : ℕ × ℕ). Contains (f q.0) q.1) same there

listed_in : (f : ℕ → List ℕ) (a n j h : ℕ) → (i : ℕ) × Contains (range_with_len a n) i × Contains (paired f i) (j, h) → Contains (f j) h
listed_in f a n j h (i, among, own) = listed_pair f j h i (Contains-from_map {Y = ℕ × ℕ} (λ g. (i, g)) (f i) (j, h) own)

-- a pair that is listed is that of a number of its item
pub listed_has : (f : ℕ → List ℕ) (a n j h : ℕ) → Contains (flat_map (paired f) (range_with_len a n)) (j, h) → Contains (f j) h
listed_has f a n j h found = listed_in f a n j h (Contains-from_flat_map {Y = ℕ × ℕ} (paired f) (range_with_len a n) (j, h) found)

pub listed_from : (f : ℕ → List ℕ) (a n j h : ℕ) → a ≤ j → j < a + n → Contains (f j) h → Contains (flat_map (paired f) (range_with_len a n)) (j, h)
listed_from f a n j h low high found =
    Contains-flat_map {Y = ℕ × ℕ} (paired f) (range_with_len a n) j (j, h) (Contains-range a n j low high)
    (Contains-map {Y = ℕ × ℕ} (λ g. (j, g)) (f j) h found)

-- ---- insertions

-- the holder of an item and the class of its object
abbrev pub holder_at : ℕ × ℕ → Holder
holder_at p = record { site = p.0; class = p.1; looped = false }

-- these holders, and those that are freed before each of so many items
abbrev pub insertions_by : List (ℕ × ℕ) → (before : ℕ → List ℕ) → (n : ℕ) → Insertions
insertions_by held before n = record { holders = map holder_at held; before = map before (range_with_len 0 n) }

-- no holder holds a chain
pub insertions-plain : (held : List (ℕ × ℕ)) (before : ℕ → List ℕ) (n : ℕ) → HoldsNoChain (insertions_by held before n)
insertions-plain [] before n = tt
insertions-plain (p ∷ held) before n = (refl, insertions-plain held before n)

pub before-is : (held : List (ℕ × ℕ)) (before : ℕ → List ℕ) (n j : ℕ) → j < n → before_at (insertions_by held before n) j ≡ before j
before-is held before n j inside = get_or-map-range_with_len before 0 n j j [] inside (omega arith)

-- a holder by its number
pub holder_of_pair : (held : List (ℕ × ℕ)) (k : ℕ) (h : Holder) → slice_get (map holder_at held) k ≡ Some h
    → (p : ℕ × ℕ) × (slice_get held k ≡ Some p) × (holder_at p ≡ h)
holder_of_pair held k h there = option_map-some holder_at (slice_get held k) h (sym (slice_get-map holder_at held k) ∙ there)

module _ (sites : List Site) (n : ℕ) (pairs : Pairs) (held : List (ℕ × ℕ)) (listed : AreListed 0 n pairs)
    (all : held_by_all sites pairs.after (range_with_len 0 (length held)) ≡ Some held) (own : are_own_items held pairs.after ≡ true) where
  abbrev pub ins : Insertions
  ins = insertions_by held listed.before n

  -- a holder is among those that take the object of its own item
  taken : (k : ℕ) (p : ℕ × ℕ) → slice_get held k ≡ Some p → Contains (listed.after p.0) k
  taken k p there =
      let same : 0 + k ≡ k = omega arith in
      let by = (held_each sites pairs.after 0 (length held) held all).each k p there in
      let parts = held_parts sites pairs.after k p (sym (ap (held_by sites pairs.after) same) ∙ by) in
      listed_has listed.after 0 n p.0 k (subst (λ (ps : List (ℕ × ℕ)). Contains ps (p.0, k)) listed.after_is parts.pair)

  -- and what takes the object of an item is a holder of this item
  owned : (j k : ℕ) → j < n → Contains (listed.after j) k → (p : ℕ × ℕ) × (slice_get held k ≡ Some p) × (p.0 ≡ j)
  owned j k inside found =
      by_pair (slice_get held k) refl
      (all_pass (is_own_item held) pairs.after own (j, k)
      (subst (λ (ps : List (ℕ × ℕ)). Contains ps (j, k)) (sym listed.after_is)
      (listed_from listed.after 0 n j k (omega arith) (omega (arith, inside)) found))) where
        by_pair : (o : Option (ℕ × ℕ)) → slice_get held k ≡ o → is_of_item o j ≡ true → (p : ℕ × ℕ) × (slice_get held k ≡ Some p) × (p.0 ≡ j)
        by_pair None there none = absurd (false≢true none)
        by_pair (Some p) there some = (p, there, eqb-true p.0 j some)

  -- a holder of an item is among those that take its object
  member : (j k : ℕ) (h : Holder) → slice_get (map holder_at held) k ≡ Some h → nat_eq h.site j ≡ true → Contains (listed.after j) k
  member j k h there passes =
      let pair = holder_of_pair held k h there in
      let item : pair.0.0 ≡ j = ap (λ (g : Holder). g.site) pair.2 ∙ eqb-true h.site j passes in
      subst (λ i. Contains (listed.after i) k) item (taken k pair.0 pair.1)

  pub after-is : (j : ℕ) → j < n → after_at ins j ≡ listed.after j
  after-is j inside = by_list (listed.after j) refl (listed.single j) where
    test : Holder → Bool
    test h = nat_eq h.site j

    by_list : (l : List ℕ) → listed.after j ≡ l → length l ≤ 1 → numbers_of test 0 (map holder_at held) ≡ l
    by_list [] is few =
        numbers_none test 0 (map holder_at held)
        (λ k h there passes. Contains-none k (subst (λ l. Contains l k) is (member j k h there passes)))
    by_list (m ∷ []) is few =
        let found = owned j m inside (subst (λ l. Contains l m) (sym is) (Contains-first m [] m refl)) in
        numbers_one test 0 (map holder_at held) m (holder_at found.0) (slice_get-mapped holder_at held m found.0 found.1) (eq-eqb found.0.0 j found.2)
        (λ i g there passes. Contains-one m i (subst (λ l. Contains l i) is (member j i g there passes)))
        ∙ (let same : 0 + m ≡ m = omega arith in ap (λ k. k ∷ []) same)
    by_list (m ∷ k ∷ l) is few = absurd (omega (arith, few))

  -- no two holders are of one site
  pub own_sites : IsDistinct nat_eq (map (λ (h : Holder). h.site) (map holder_at held))
  own_sites = distinct_by (map (λ (h : Holder). h.site) (map holder_at held))
      (λ i k x first second. one_member (listed.after x) i k (listed.single x) (at_site i x first) (at_site k x second)) where
        at_site : (i x : ℕ) → slice_get (map (λ (h : Holder). h.site) (map holder_at held)) i ≡ Some x → Contains (listed.after x) i
        at_site i x there =
            let site = option_map-some (λ (h : Holder). h.site) (slice_get (map holder_at held) i) x
            (sym (slice_get-map (λ (h : Holder). h.site) (map holder_at held) i) ∙ there) in
            member x i site.0 site.1 (eq-eqb site.0.site x site.2)

  -- no holder holds a chain
  unlooped : (found : List (ℕ × ℕ)) → replicate (length found) false ≡ map (λ (h : Holder). h.looped) (map holder_at found)
  unlooped [] = refl
  unlooped (p ∷ found) = ap (λ rest. false ∷ rest) (unlooped found)

  -- the plan is that of the insertions
  pub whole : (code : Code) (plan : ChainPlan) → length code.items ≡ n → plan.plan.holders ≡ length held → plan.plan.before.items ≡ pairs.before
      → plan.plan.after.items ≡ pairs.after → plan.looped ≡ replicate plan.plan.holders false → IsWholePlan code ins plan
  whole code plan count holders before after flags = record {
    plan_is = record { plan_is = pairs_are; flags = flags ∙ ap (λ m. replicate m false) holders ∙ unlooped held };
    whole = width ∙ sym count;
  } where
    width : length ins.before ≡ n
    width = length-map-range_with_len listed.before 0 n

    pairs_are : IsPlanOf ins plan.plan
    pairs_are = record {
      holders = holders ∙ sym (length-map held holder_at);
      before =
          before ∙ listed.before_is
          ∙ flat_range_same (paired listed.before) (paired (before_at ins)) 0 n
          (λ j low high. ap (map (λ h. (j, h))) (sym (before-is held listed.before n j (omega arith))))
          ∙ ap (λ m. flat_map (paired (before_at ins)) (range_with_len 0 m)) (sym width);
      after =
          after ∙ listed.after_is
          ∙ flat_range_same (paired listed.after) (paired (after_at ins)) 0 n (λ j low high. ap (map (λ h. (j, h))) (sym (after-is j (omega arith))))
          ∙ ap (λ m. flat_map (paired (after_at ins)) (range_with_len 0 m)) (sym width);
    }
