-- What is checked of a method's pairs is whether they have the parts of what makes insertions safe that are of holders, and of where these are freed.
use Rattle.std.proofs.Common.{◌≡◌, ℕ, zero, suc, ◌+◌, ◌-◌, ◌<◌, ◌≤◌, ◌&&◌, not, true, false, List, [], ◌∷◌, length, get_or, Option, Some, None, Contains, refl, sym, ap, subst, ◌∙◌, arith, eqb-true, eq-eqb}
use Rattle.std.specs.Prelude.{nat_eq, slice_get}
use Rattle.std.specs.List.{flat_map, IsDistinct, range_with_len}
use Rattle.std.proofs.lemmas.Bool.{false≢true}
use Rattle.std.proofs.lemmas.List.FromFn.{length-range_with_len}
use Rattle.std.proofs.lemmas.Option.{none-some, same_Some, slice_get-get_or, slice_get_within}
use Rattle.fm_base.proofs.OptionFacts.{IsSomeAnd-from_some, Some-from_some_and}
use Rattle.fm_base.proofs.TestFacts.{and_right}
use Rattle.fm_base.specs.declared.limits.TheConstants.{MAX_LOCAL_WORDS}
use Rattle.fm_code.proofs.EdgesLemmas.{Contains-from_map}
use Rattle.fm_conn.proofs.ListLemmas.{Contains-from_range, Contains-range}
use Rattle.fm_conn.specs.Facts.{Facts}
use Rattle.fm_conn.specs.Nodes.{TypedMethod}
use Rattle.fm_flow.proofs.SourcesLemmas.{Contains-from_flat_map}
use Rattle.fm_place.proofs.PathLemmas.{places_are_by_paths}
use Rattle.fm_place.specs.Places.{is_busy, may_hold}
use Rattle.fm_place.specs.PlansBy.{IsToldBy, paired}
use Rattle.fm_place.specs.Sites.{is_captured_site, site_class, sites_of}
use Rattle.fm_place.specs.declared.busy_rows.Seen.{Seen}
use Rattle.fm_place.specs.declared.found_sites.Site.{Site}
use Rattle.fm_place.specs.inner.PlanRows.{count_of, is_busy_at, typed_seen}
use Rattle.fm_summ.proofs.BareLemmas.{all_pass}
use Rattle.fm_audit.proofs.CapturedLemmas.{captured_at}
use Rattle.fm_audit.proofs.CheckedLemmas.{holders_none, up_again}
use Rattle.fm_audit.proofs.FoundAgainLemmas.{all_true, class_found, item_first}
use Rattle.fm_audit.proofs.HeldLemmas.{held_each, held_parts, IsHeld}
use Rattle.fm_audit.proofs.ItemsLemmas.{freed_there}
use Rattle.fm_audit.proofs.SafeLemmas.{busy_told, hold_told}
use Rattle.fm_audit.proofs.WholeLemmas.{listed_from, listed_has}
use Rattle.fm_audit.specs.Reading.{Read}
use Rattle.fm_audit.specs.SafeParts.{AreFreed, AreQuiet, FailsRead, freed_before, HasHolders}
use Rattle.fm_audit.specs.declared.parts.Part.TheVariants as part
use Rattle.fm_audit.specs.declared.parts.Part.{Part}
use Rattle.fm_audit.specs.inner.Checked.{AreSafeFrees, AreUnsafeFrees, IsFreesPart, IsMayItem, IsMustItem}
use Rattle.fm_audit.specs.inner.Holders.{and_those, are_own_items, class_at, counts_up, held_by, held_by_all, holders_for, is_of_item, is_own_item, item_of, site_with_class, with_class}
use Rattle.fm_audit.specs.inner.Listed.{AreListed}

-- ---- lists

own_of : (held : List (ℕ × ℕ)) (j k : ℕ) (o : Option (ℕ × ℕ)) → slice_get held k ≡ o → is_of_item o j ≡ true
    → (p : ℕ × ℕ) × (slice_get held k ≡ Some p) × (p.0 ≡ j)
own_of held j k None there none = absurd (false≢true none)
own_of held j k (Some p) there some = (p, there, eqb-true p.0 j some)

held_at : (sites : List Site) (after : List (ℕ × ℕ)) (n : ℕ) (held : List (ℕ × ℕ)) → held_by_all sites after (range_with_len 0 n) ≡ Some held
    → (h : ℕ) (p : ℕ × ℕ) → slice_get held h ≡ Some p → IsHeld sites after h p
held_at sites after n held is h p there =
    let same : 0 + h ≡ h = omega arith in
    held_parts sites after h p (sym (ap (held_by sites after) same) ∙ (held_each sites after 0 n held is).each h p there)

-- where each holder has a site, all have
none_unheld : (sites : List Site) (after : List (ℕ × ℕ)) (a k : ℕ) → ((h : ℕ) → a ≤ h → h < a + k → (p : ℕ × ℕ) × (held_by sites after h ≡ Some p))
    → held_by_all sites after (range_with_len a k) ≡ None → ⊥
none_unheld sites after a zero each none = none-some [] (sym none)
none_unheld sites after a (suc k) each none =
    by_rest (each a (omega arith) (omega arith)) (held_by_all sites after (range_with_len (a + 1) k)) refl
    (λ is. none_unheld sites after (a + 1) k (λ h low high. each h (omega (arith, low)) (omega (arith, high))) is) where
      by_rest : (p : ℕ × ℕ) × (held_by sites after a ≡ Some p) → (rest : Option (List (ℕ × ℕ))) → held_by_all sites after (range_with_len (a + 1) k) ≡ rest
          → (held_by_all sites after (range_with_len (a + 1) k) ≡ None → ⊥) → ⊥
      by_rest own None is never = never is
      by_rest own (Some rest) is never = none-some (own.0 ∷ rest) (sym none ∙ (λ i. and_those (own.1 i) (is i)))

-- a pair that is listed is of one of the items
listed_inside : (f : ℕ → List ℕ) (n j h : ℕ) → Contains (flat_map (paired f) (range_with_len 0 n)) (j, h) → j < n
listed_inside f n j h found = by_pair (Contains-from_flat_map {Y = ℕ × ℕ} (paired f) (range_with_len 0 n) (j, h) found) where
  by_pair : (i : ℕ) × Contains (range_with_len 0 n) i × Contains (paired f i) (j, h) → j < n
  by_pair (i, among, own) =
      let pair = Contains-from_map {Y = ℕ × ℕ} (λ g. (i, g)) (f i) (j, h) own in
      let same : i ≡ j = ap (λ (q : ℕ × ℕ). q.0) pair.2 in
      let within = (Contains-from_range 0 n i among).1 in
      omega (arith, same, within)

-- ---- part 3, where a method has it

module _ (facts : Facts) (x : TypedMethod) (sites : List Site) (found : Read) (sites_are : sites ≡ sites_of facts x) (has : HasHolders facts x found) where
  abbrev many : ℕ
  many = length found.starts

  item_is : (j h : ℕ) → Contains found.pairs.after (j, h) → item_of found.pairs.after h ≡ Some j
  item_is j h there =
      item_first found.pairs.after h j
      (λ p other of_holder. has.only p.0 j h (subst (λ k. Contains found.pairs.after (p.0, k)) of_holder other) there) there

  held_one : (h : ℕ) → h < many → (p : ℕ × ℕ) × (held_by sites found.pairs.after h ≡ Some p)
  held_one h inside =
      let site = has.site h inside in
      let class : class_at sites site.0 ≡ Some (site_class facts x site.0) =
      ap (λ (l : List Site). class_at l site.0) sites_are ∙ class_found facts x site.0 (has.captured site.0 h site.1).0 in (
        (site.0, site_class facts x site.0),
        ap (site_with_class sites) (item_is site.0 h site.1) ∙ ap (λ o. with_class o site.0) class,
      )

  pub ups : (lent : List ℕ) → lent ≡ found.starts → counts_up 0 lent ≡ true
  ups lent same = ap (counts_up 0) (same ∙ has.starts) ∙ up_again 0 many

  pub has_room : (max_locals count : ℕ) → count ≡ many → ((h : ℕ) → Contains found.starts h → max_locals + h < MAX_LOCAL_WORDS)
      → None ≡ holders_for max_locals count → ⊥
  has_room max_locals count same within none =
      let some = has.some in
      let last = within (many - 1) (subst (λ (l : List ℕ). Contains l (many - 1)) (sym has.starts)
      (Contains-range 0 many (many - 1) (omega arith) (omega (arith, some)))) in
      holders_none max_locals count none (omega (arith, same, some)) (omega (arith, same, some, last))

  pub all_held : (after : List (ℕ × ℕ)) (count : ℕ) → after ≡ found.pairs.after → count ≡ many
      → held_by_all sites after (range_with_len 0 count) ≡ None → ⊥
  all_held after count after_is same none =
      none_unheld sites found.pairs.after 0 many (λ h low high. held_one h (omega (arith, high)))
      (sym (λ k. held_by_all sites (after_is k) (range_with_len 0 (same k))) ∙ none)

  pub all_own : (after held : List (ℕ × ℕ)) (count : ℕ) → after ≡ found.pairs.after → count ≡ many
      → held_by_all sites after (range_with_len 0 count) ≡ Some held → are_own_items held after ≡ true
  all_own after held count after_is same is = ap (are_own_items held) after_is ∙ all_true (is_own_item held) found.pairs.after own where
    held_is : held_by_all sites found.pairs.after (range_with_len 0 many) ≡ Some held
    held_is = sym (λ k. held_by_all sites (after_is k) (range_with_len 0 (same k))) ∙ is

    own : (p : ℕ × ℕ) → Contains found.pairs.after p → is_own_item held p ≡ true
    own p there =
        let within = (has.captured p.0 p.1 there).1 in
        let count_is = (held_each sites found.pairs.after 0 many held held_is).count in
        let q = get_or held p.1 (0, 0) in
        let got = slice_get-get_or held p.1 (0, 0) (omega (arith, within, count_is)) in
        ap (λ o. is_of_item o p.0) got
        ∙ eq-eqb q.0 p.0 (has.only q.0 p.0 p.1 (held_at sites found.pairs.after many held held_is p.1 q got).pair there)

-- ---- as it is checked

module _ (s : Seen) (facts : Facts) (sites : List Site) (found : Read) (told : IsToldBy facts s.method.number.0 s.classes.now s.live.now)
    (sites_are : sites ≡ sites_of facts (typed_seen s)) (n : ℕ) (held : List (ℕ × ℕ)) (starts : found.starts ≡ range_with_len 0 n) (some : 0 < n)
    (held_is : held_by_all sites found.pairs.after (range_with_len 0 n) ≡ Some held) (own : are_own_items held found.pairs.after ≡ true) where
  abbrev x : TypedMethod
  x = typed_seen s

  counted : length found.starts ≡ n
  counted = ap length starts ∙ length-range_with_len 0 n

  own_pair : (j h : ℕ) → Contains found.pairs.after (j, h) → (p : ℕ × ℕ) × (slice_get held h ≡ Some p) × (p.0 ≡ j)
  own_pair j h there = own_of held j h (slice_get held h) refl (all_pass (is_own_item held) found.pairs.after own (j, h) there)

  at_site : (h : ℕ) (p : ℕ × ℕ) → slice_get held h ≡ Some p → (is_captured_site facts x p.0 ≡ true) × (p.1 ≡ site_class facts x p.0)
  at_site h p there =
      let parts = held_at sites found.pairs.after n held held_is h p there in
      let site = captured_at facts x p.0 p.1 (subst (λ (l : List Site). class_at l p.0 ≡ Some p.1) sites_are parts.class_is) in
      (site.captured, site.class_is)

  pub has_holders : HasHolders facts x found
  has_holders = record {
    some = let is = counted in omega (arith, some, is);
    starts = starts ∙ ap (range_with_len 0) (sym counted);
    captured = λ j h there.
        let pair = own_pair j h there in
        let within = slice_get_within held h pair.0 pair.1 in
        let count_is = (held_each sites found.pairs.after 0 n held held_is).count in
        let is = counted in (
          subst (λ i. is_captured_site facts x i ≡ true) pair.2 (at_site h pair.0 pair.1).0,
          omega (arith, within, count_is, is),
        );
    site = λ h inside.
        let count_is = (held_each sites found.pairs.after 0 n held held_is).count in
        let is = counted in
        let p = get_or held h (0, 0) in
        let got = slice_get-get_or held h (0, 0) (omega (arith, inside, count_is, is)) in
        (p.0, (held_at sites found.pairs.after n held held_is h p got).pair);
    only = λ i j h one other.
        let a = own_pair i h one in
        let b = own_pair j h other in
        sym a.2 ∙ ap (λ (q : ℕ × ℕ). q.0) (same_Some _ _ (sym a.1 ∙ b.1)) ∙ b.2;
  }

  module _ (listed : AreListed 0 (count_of s) found.pairs) where
    freed_here : (j h : ℕ) → Contains found.pairs.before (j, h) → Contains (listed.before j) h
    freed_here j h there =
        listed_has listed.before 0 (count_of s) j h (subst (λ (l : List (ℕ × ℕ)). Contains l (j, h)) listed.before_is there)

    here_freed : (j h : ℕ) → j < count_of s → Contains (listed.before j) h → Contains found.pairs.before (j, h)
    here_freed j h inside there =
        subst (λ (l : List (ℕ × ℕ)). Contains l (j, h)) (sym listed.before_is)
        (listed_from listed.before 0 (count_of s) j h (omega arith) (omega (arith, inside)) there)

    pub may_quiet : ((j : ℕ) → j < count_of s → IsMayItem s held j (listed.before j)) → AreQuiet facts x found
    may_quiet may j h there =
        let inside = listed_inside listed.before (count_of s) j h (subst (λ (l : List (ℕ × ℕ)). Contains l (j, h)) listed.before_is there) in
        let pair = Some-from_some_and (slice_get held h) (λ (p : ℕ × ℕ). is_busy_at s j p.1 ≡ false) (may j inside h (freed_here j h there)) in (
          pair.0.0,
          (held_at sites found.pairs.after n held held_is h pair.0 pair.1).pair,
          ap (λ c. is_busy facts x c j) (sym (at_site h pair.0 pair.1).1) ∙ sym (busy_told s facts told pair.0.1 j) ∙ pair.2,
        )

    pub quiet_may : AreQuiet facts x found → (j : ℕ) → j < count_of s → IsMayItem s held j (listed.before j)
    quiet_may quiet j inside h there =
        let site = quiet j h (here_freed j h inside there) in
        let pair = own_pair site.0 h site.1 in
        IsSomeAnd-from_some (slice_get held h) (λ (p : ℕ × ℕ). is_busy_at s j p.1 ≡ false) pair.0 pair.1
        (busy_told s facts told pair.0.1 j ∙ ap (λ c. is_busy facts x c j) ((at_site h pair.0 pair.1).1 ∙ ap (site_class facts x) pair.2) ∙ site.2)

    pub must_freed : ((j : ℕ) → j < count_of s → IsMustItem s held j (listed.before j)) → AreFreed facts x found
    must_freed must j h site inside there idle holds =
        let pair = own_pair site h there in
        let class : pair.0.1 ≡ site_class facts x site = (at_site h pair.0 pair.1).1 ∙ ap (site_class facts x) pair.2 in
        let place = and_right (not (is_busy facts x (site_class facts x site) j)) (may_hold facts x site (site_class facts x site) j)
        ((places_are_by_paths facts x site (site_class facts x site) j).1 (idle, holds)) in
        here_freed j h inside
        (must j inside h pair.0 pair.1 (busy_told s facts told pair.0.1 j ∙ ap (λ c. is_busy facts x c j) class ∙ idle)
        (hold_told s facts told pair.0.0 pair.0.1 j ∙ (λ k. may_hold facts x (pair.2 k) (class k) j) ∙ place))

    pub freed_must : AreFreed facts x found → (j : ℕ) → j < count_of s → IsMustItem s held j (listed.before j)
    freed_must freed j inside h p there idle holds =
        let class = (at_site h p there).1 in
        let quiet : is_busy facts x (site_class facts x p.0) j ≡ false =
        ap (λ c. is_busy facts x c j) (sym class) ∙ sym (busy_told s facts told p.1 j) ∙ idle in
        let held_there : may_hold facts x p.0 (site_class facts x p.0) j ≡ true =
        ap (λ c. may_hold facts x p.0 c j) (sym class) ∙ sym (hold_told s facts told p.0 p.1 j) ∙ holds in
        freed_here j h
        (freed j h p.0 inside (held_at sites found.pairs.after n held held_is h p there).pair quiet
        ((places_are_by_paths facts x p.0 (site_class facts x p.0) j).0 (λ k. not (quiet k) && held_there k)).1)

    pub layout_left : AreSafeFrees s held found.pairs.before → FailsRead facts x found part.Layout
    layout_left safe = (
      has_holders,
      may_quiet (λ j inside. (safe listed.before listed.before_is j inside).may),
      must_freed (λ j inside. (safe listed.before listed.before_is j inside).must),
    )

    pub frees_fail : ((j : ℕ) → IsDistinct nat_eq (freed_before found.pairs.before j)) → (failed : Part)
        → AreUnsafeFrees s held found.pairs.before → IsFreesPart s held found.pairs.before failed → FailsRead facts x found failed
    frees_fail once part.Classes unsafe fails = absurd fails
    frees_fail once part.Items unsafe fails = absurd fails
    frees_fail once part.Holders unsafe fails = absurd fails
    frees_fail once part.Layout unsafe fails = absurd fails
    frees_fail once part.Uses unsafe fails = (has_holders, λ quiet. fails listed.before listed.before_is (quiet_may quiet))
    frees_fail once part.Frees unsafe fails =
        let may = fails listed.before listed.before_is in (
          has_holders,
          may_quiet may,
          λ freed. unsafe listed.before listed.before_is (λ j inside. record {
            once =
                subst (λ (l : List ℕ). IsDistinct nat_eq l)
                (ap (λ pairs. freed_before pairs j) listed.before_is ∙ freed_there listed.before 0 (count_of s) j (omega arith) (omega (arith, inside))) (once j);
            may = may j inside;
            must = freed_must freed j inside;
          }),
        )
