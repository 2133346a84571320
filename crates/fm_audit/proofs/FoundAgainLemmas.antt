-- Insertions that are safe are found again in their pairs: the holders that these name have the sites that they are safe for.
use Rattle.std.proofs.Common.{◌≡◌, ◌≢◌, ℕ, zero, suc, ◌+◌, ◌<◌, ◌≤◌, ◌&&◌, ◌++◌, ◌==◌, Bool, cond, true, false, List, [], ◌∷◌, length, map, Some, None, Contains, refl, sym, ap, subst, ◌∙◌, ⊎_elim, arith, eqb-true, eq-eqb}
use Rattle.std.specs.Prelude.{is_some, IsSomeAnd, not, nat_eq, option_and_then, slice_get}
use Rattle.std.specs.List.{flat_map, list_all, range_with_len}
use Rattle.std.specs.Option.{option_map}
use Rattle.std.proofs.lemmas.Bool.{and_from, cases_eq, cases_lt, false≢true}
use Rattle.std.proofs.lemmas.Option.{same_Some, slice_get-map, slice_get_past}
use Rattle.fm_base.proofs.ContainsFacts.{Contains-cons_cases, Contains-none}
use Rattle.fm_base.proofs.ListFacts.{AllByRecursion-at}
use Rattle.fm_base.proofs.OptionFacts.{IsSomeAnd-from_some, option_map-some}
use Rattle.fm_base.proofs.TestFacts.{and_left, and_right, apart-nat_eq}
use Rattle.fm_code.proofs.EdgesLemmas.{Contains-first, Contains-later}
use Rattle.fm_code.specs.Edges.{insn_of}
use Rattle.fm_conn.specs.Facts.{Facts}
use Rattle.fm_conn.specs.Nodes.{TypedMethod}
use Rattle.fm_place.proofs.FullLemmas.{numbers-from}
use Rattle.fm_place.proofs.GroupLemmas.{slice_get-mapped}
use Rattle.fm_place.proofs.HolderLemmas.{pair_held}
use Rattle.fm_place.proofs.PathLemmas.{places_are_by_paths}
use Rattle.fm_place.specs.Insertions.{after_at, before_at, Holder, Insertions, numbers_of}
use Rattle.fm_place.specs.Places.{is_busy, is_place, may_hold}
use Rattle.fm_place.specs.PlansBy.{IsToldBy, paired}
use Rattle.fm_place.specs.Safe.{AreSafe, IsSafeAt, IsSafeHolder}
use Rattle.fm_place.specs.Sites.{captured_before, is_captured, is_captured_site, kind_of_site, site_after, site_at, site_class, site_kind, sites_of}
use Rattle.fm_place.specs.declared.busy_rows.Seen.{Seen}
use Rattle.fm_place.specs.declared.found_sites.Site.{Site}
use Rattle.fm_place.specs.inner.PlanRows.{count_of, is_busy_at, may_hold_at, typed_seen}
use Rattle.fm_audit.proofs.SafeLemmas.{busy_told, hold_told}
use Rattle.fm_audit.proofs.WholeLemmas.{listed_from, listed_has}
use Rattle.fm_audit.specs.inner.Checked.{IsSafeItem}
use Rattle.fm_audit.specs.inner.Holders.{and_those, are_own_items, captured_class, class_at, held_by, held_by_all, is_of_item, is_own_item, item_of, site_with_class, with_class}
use Rattle.fm_types.specs.Typed.{state_at}

-- ---- the numbers of holders that pass a test

pub record IsPassing (test : Holder → Bool) (a : ℕ) (holders : List Holder) (m : ℕ) : Type 0 where
  pub k : ℕ
  pub h : Holder
  pub place : m ≡ a + k
  pub there : slice_get holders k ≡ Some h
  pub passes : test h ≡ true

module _ (test : Holder → Bool) where
  pub numbers_in : (a : ℕ) (holders : List Holder) (m : ℕ) → Contains (numbers_of test a holders) m → IsPassing test a holders m
  numbers_in a [] m found = absurd (Contains-none m found)
  numbers_in a (g ∷ holders) m found = by_test (test g) refl found (λ later. numbers_in (a + 1) holders m later) where
    rest : List ℕ
    rest = numbers_of test (a + 1) holders

    shift : IsPassing test (a + 1) holders m → IsPassing test a (g ∷ holders) m
    shift p = record { k = suc p.k; h = p.h; place = omega (arith, p.place); there = p.there; passes = p.passes }

    by_test : (b : Bool) → test g ≡ b → Contains (cond b (a ∷ rest) rest) m → (Contains rest m → IsPassing test (a + 1) holders m)
        → IsPassing test a (g ∷ holders) m
    by_test false is found later = shift (later found)
    by_test true is found later = ⊎_elim
        (λ (same : m ≡ a). record { k = 0; h = g; place = omega (arith, same); there = refl; passes = is })
        (λ (more : Contains rest m). shift (later more))
        (Contains-cons_cases a rest m found)

-- ---- the item of a holder

pub item_first : (after : List (ℕ × ℕ)) (k j : ℕ) → ((p : ℕ × ℕ) → Contains after p → p.1 ≡ k → p.0 ≡ j) → Contains after (j, k) → item_of after k ≡ Some j
item_first [] k j only found = absurd (Contains-none (j, k) found)
item_first (p ∷ after) k j only found =
    by_test (p.1 == k) refl (λ later. item_first after k j (λ q there. only q (Contains-later p after q there)) later) where
      by_test : (b : Bool) → (p.1 == k) ≡ b → (Contains after (j, k) → item_of after k ≡ Some j) → cond b (Some p.0) (item_of after k) ≡ Some j
      by_test true same later = ap (λ i. Some i) (only p (Contains-first p after p refl) (eqb-true p.1 k same))
      by_test false other later = later (⊎_elim
          (λ (same : ◌≡◌ {A = ℕ × ℕ} (j, k) p).
          absurd (false≢true (sym other ∙ eq-eqb p.1 k (ap (λ (q : ℕ × ℕ). q.1) (sym same)))))
          (λ (more : Contains after (j, k)). more)
          (Contains-cons_cases p after (j, k) found))

-- ---- the pairs of those that take an object

module _ (ins : Insertions) (n : ℕ) where
  abbrev pub after_pairs : List (ℕ × ℕ)
  after_pairs = flat_map (paired (after_at ins)) (range_with_len 0 n)

  pub record IsPairOf (p : ℕ × ℕ) : Type 0 where
    pub h : Holder
    pub there : slice_get ins.holders p.1 ≡ Some h
    pub site : h.site ≡ p.0

  -- each is of a holder and its site
  pub pair_in : (p : ℕ × ℕ) → Contains after_pairs p → IsPairOf p
  pair_in p found =
      let own = numbers_in (λ h. nat_eq h.site p.0) 0 ins.holders p.1 (listed_has (after_at ins) 0 n p.0 p.1 found) in
      let same : p.1 ≡ own.k = omega (arith, own.place) in
      record { h = own.h; there = ap (slice_get ins.holders) same ∙ own.there; site = eqb-true own.h.site p.0 own.passes }

  -- each holder has one
  pub pair_of : (k : ℕ) (h : Holder) → slice_get ins.holders k ≡ Some h → h.site < n → Contains after_pairs (h.site, k)
  pair_of k h there inside =
      let same : 0 + k ≡ k = omega arith in
      listed_from (after_at ins) 0 n h.site k (omega arith) (omega (arith, inside))
      (subst (Contains (after_at ins h.site)) same (numbers-from (λ g. nat_eq g.site h.site) 0 ins.holders k h there (eq-eqb h.site h.site refl)))

-- ---- captured sites

module _ (facts : Facts) (x : TypedMethod) where
  -- a site is an item
  site_inside : (j : ℕ) → is_captured_site facts x j ≡ true → j < length x.code.items
  site_inside j captured = ⊎_elim
      (λ (inside : j < length x.code.items). inside)
      (λ (past : length x.code.items ≤ j). absurd (none_there (is_some (state_at x.states j)) (ap is_some (none-past past)) (and_left _ _ captured)))
      (cases_lt j (length x.code.items)) where
        none-past : length x.code.items ≤ j → option_and_then (kind_of_site facts x j) (insn_of x.code j) ≡ None
        none-past past = ap (λ o. option_and_then (kind_of_site facts x j) (option_map (λ i. i.insn) o)) (slice_get_past x.code.items j past)

        none_there : (b : Bool) → is_some (option_and_then (kind_of_site facts x j) (insn_of x.code j)) ≡ false
            → is_some (cond b (option_and_then (kind_of_site facts x j) (insn_of x.code j)) None) ≡ true → ⊥
        none_there true none some = false≢true (sym none ∙ some)
        none_there false none some = false≢true some

  class_here : (j : ℕ) → is_captured_site facts x j ≡ true → (rest : List Site)
      → class_at (site_at facts x j ++ rest) j ≡ Some (site_class facts x j)
  class_here j captured rest =
      let some = and_left (is_some (site_kind facts x j)) (is_captured facts x (site_class facts x j)) captured in
      let own = and_right (is_some (site_kind facts x j)) (is_captured facts x (site_class facts x j)) captured in
      ap (λ b. class_at (cond b (site_after facts x (captured_before facts x j) j ∷ []) [] ++ rest) j) some
      ∙ ap (λ b. cond b (captured_class (site_after facts x (captured_before facts x j) j)) (class_at rest j)) (eq-eqb j j refl)
      ∙ ap (λ b. cond b (Some (site_class facts x j)) None) own

  class_there : (a j : ℕ) (rest : List Site) → a ≢ j → class_at (site_at facts x a ++ rest) j ≡ class_at rest j
  class_there a j rest other = by_some (is_some (site_kind facts x a)) where
    by_some : (b : Bool) → class_at (cond b (site_after facts x (captured_before facts x a) a ∷ []) [] ++ rest) j ≡ class_at rest j
    by_some true = ap (λ b. cond b (captured_class (site_after facts x (captured_before facts x a) a)) (class_at rest j)) (apart-nat_eq a j other)
    by_some false = refl

  class_from : (j : ℕ) → is_captured_site facts x j ≡ true → (a n : ℕ) → a ≤ j → j < a + n
      → class_at (flat_map (site_at facts x) (range_with_len a n)) j ≡ Some (site_class facts x j)
  class_from j captured a zero low high = absurd (omega (arith, low, high))
  class_from j captured a (suc n) low high = ⊎_elim
      (λ (same : a ≡ j).
      subst (λ i. class_at (site_at facts x i ++ flat_map (site_at facts x) (range_with_len (a + 1) n)) j ≡ Some (site_class facts x j)) (sym same)
      (class_here j captured (flat_map (site_at facts x) (range_with_len (a + 1) n))))
      (λ (other : a ≢ j).
      class_there a j (flat_map (site_at facts x) (range_with_len (a + 1) n)) other
      ∙ class_from j captured (a + 1) n (⊎_elim (λ (before : a < j). omega (arith, before)) (λ (past : j ≤ a). absurd (other (omega (arith, low, past)))) (cases_lt a j))
      (omega (arith, high)))
      (cases_eq a j)

  pub class_found : (j : ℕ) → is_captured_site facts x j ≡ true → class_at (sites_of facts x) j ≡ Some (site_class facts x j)
  unfolding sites_of
  class_found j captured = class_from j captured 0 (length x.code.items) (omega arith) (let inside = site_inside j captured in omega (arith, inside))

-- ---- the holders with their sites

held_from : (sites : List Site) (after : List (ℕ × ℕ)) (a : ℕ) (holders : List Holder)
    → ((k : ℕ) (h : Holder) → slice_get holders k ≡ Some h → held_by sites after (a + k) ≡ Some (pair_held h))
    → held_by_all sites after (range_with_len a (length holders)) ≡ Some (map pair_held holders)
held_from sites after a [] each = refl
held_from sites after a (h ∷ holders) each =
    let start : a ≡ a + 0 = omega arith in
    let own : held_by sites after a ≡ Some (pair_held h) = ap (held_by sites after) start ∙ each 0 h refl in
    let rest = held_from sites after (a + 1) holders
    (λ k g there. let next : a + 1 + k ≡ a + suc k = omega arith in ap (held_by sites after) next ∙ each (suc k) g there) in
    λ k. and_those (own k) (rest k)

pub all_true : {X : Type 0} (test : X → Bool) (xs : List X) → ((x : X) → Contains xs x → test x ≡ true) → list_all test xs ≡ true
all_true test [] each = refl
all_true test (x ∷ xs) each =
    and_from (test x) (list_all test xs) (each x (Contains-first x xs x refl)) (all_true test xs (λ y found. each y (Contains-later x xs y found)))

-- ---- by facts that agree with what is known

module _ (s : Seen) (facts : Facts) (sites : List Site) (told : IsToldBy facts s.method.number.0 s.classes.now s.live.now)
    (sites_are : sites ≡ sites_of facts (typed_seen s)) (ins : Insertions) (safe : AreSafe facts (typed_seen s) ins) where
  abbrev x : TypedMethod
  x = typed_seen s

  abbrev after : List (ℕ × ℕ)
  after = after_pairs ins (count_of s)

  abbrev pub held : List (ℕ × ℕ)
  held = map pair_held ins.holders

  holder_safe : (k : ℕ) (h : Holder) → slice_get ins.holders k ≡ Some h → IsSafeHolder facts x h
  holder_safe k h there = AllByRecursion-at (IsSafeHolder facts x) ins.holders k h safe.holders there

  held_one : (k : ℕ) (h : Holder) → slice_get ins.holders k ≡ Some h → held_by sites after k ≡ Some (pair_held h)
  held_one k h there =
      let own = holder_safe k h there in
      let item : item_of after k ≡ Some h.site =
      item_first after k h.site
      (λ p found of_holder.
      let pair = pair_in ins (count_of s) p found in
      let same : pair.h ≡ h = same_Some _ _ (sym pair.there ∙ ap (slice_get ins.holders) of_holder ∙ there) in
      sym pair.site ∙ ap (λ (g : Holder). g.site) same)
      (pair_of ins (count_of s) k h there (site_inside facts x h.site own.captured)) in
      let class : class_at sites h.site ≡ Some h.class =
      ap (λ (l : List Site). class_at l h.site) sites_are ∙ class_found facts x h.site own.captured ∙ ap (λ c. Some c) (sym own.class) in
      ap (site_with_class sites) item ∙ ap (λ o. with_class o h.site) class

  pub held_are : held_by_all sites after (range_with_len 0 (length ins.holders)) ≡ Some held
  held_are =
      held_from sites after 0 ins.holders (λ k h there. let same : 0 + k ≡ k = omega arith in ap (held_by sites after) same ∙ held_one k h there)

  pub own_items : are_own_items held after ≡ true
  own_items =
      all_true (is_own_item held) after
      (λ p found.
      let pair = pair_in ins (count_of s) p found in
      ap (λ o. is_of_item o p.0) (slice_get-mapped pair_held ins.holders p.1 pair.h pair.there) ∙ eq-eqb pair.h.site p.0 pair.site)

  -- a holder by its site and its class
  holder_for : (k : ℕ) (p : ℕ × ℕ) → slice_get held k ≡ Some p → (h : Holder) × (slice_get ins.holders k ≡ Some h) × (pair_held h ≡ p)
  holder_for k p there = option_map-some pair_held (slice_get ins.holders k) p (sym (slice_get-map pair_held ins.holders k) ∙ there)

  pub safe_item : (j : ℕ) → j < count_of s → IsSafeItem s held j (before_at ins j)
  safe_item j inside = record { once = own.once; may = may; must = must } where
    own : IsSafeAt facts x ins j
    own = safe.items j inside

    may : (h : ℕ) → Contains (before_at ins j) h → IsSomeAnd (slice_get held h) (λ (p : ℕ × ℕ). is_busy_at s j p.1 ≡ false)
    may h found =
        let free = own.may h found in
        IsSomeAnd-from_some (slice_get held h) (λ (p : ℕ × ℕ). is_busy_at s j p.1 ≡ false) (pair_held free.holder)
        (slice_get-mapped pair_held ins.holders h free.holder free.is) (busy_told s facts told free.holder.class j ∙ free.quiet)

    must : (h : ℕ) (p : ℕ × ℕ) → slice_get held h ≡ Some p → is_busy_at s j p.1 ≡ false → may_hold_at s j p ≡ true → Contains (before_at ins j) h
    must h p there idle holds =
        let holder = holder_for h p there in
        let class : holder.0.class ≡ p.1 = ap (λ (q : ℕ × ℕ). q.1) holder.2 in
        let site : holder.0.site ≡ p.0 = ap (λ (q : ℕ × ℕ). q.0) holder.2 in
        let quiet : is_busy facts x holder.0.class j ≡ false = ap (λ c. is_busy facts x c j) class ∙ sym (busy_told s facts told p.1 j) ∙ idle in
        let held_there : may_hold facts x holder.0.site holder.0.class j ≡ true =
        (λ k. may_hold facts x (site k) (class k) j) ∙ sym (hold_told s facts told p.0 p.1 j) ∙ holds in
        let place : is_place facts x holder.0.site holder.0.class j ≡ true = (λ k. not (quiet k) && held_there k) in
        own.must h holder.0 holder.1 quiet ((places_are_by_paths facts x holder.0.site holder.0.class j).0 place).1
