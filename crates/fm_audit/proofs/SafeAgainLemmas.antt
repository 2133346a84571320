-- Where it is safe what is freed before each item, the rows that are checked say so.
use Rattle.std.proofs.Common.{◌≡◌, ℕ, zero, suc, ◌+◌, ◌<◌, ◌≤◌, ◌&&◌, ◌||◌, not, Bool, true, false, List, [], ◌∷◌, length, map, get_or, Some, Contains, refl, sym, ap, subst, ◌∙◌, ⊎_elim, arith, eq-eqb}
use Rattle.std.specs.Prelude.{nat_eq, nat_lt, slice_get}
use Rattle.std.specs.List.{AllByRecursion, flat_map, IsDistinct, list_all, range_with_len}
use Rattle.std.proofs.lemmas.Bool.{and_from, lt-ltb, not-true, or_from, or_left, or_right}
use Rattle.std.proofs.lemmas.Option.{slice_get-get_or, slice_get_within}
use Rattle.fm_base.proofs.ContainsFacts.{Contains-cons_cases, Contains-none}
use Rattle.fm_base.proofs.OptionFacts.{Some-from_some_and}
use Rattle.fm_base.proofs.TestFacts.{and_left, and_right}
use Rattle.fm_base.specs.Rows.{has}
use Rattle.fm_code.proofs.EdgesLemmas.{Contains-from_map}
use Rattle.fm_conn.proofs.ListLemmas.{Contains-from_range}
use Rattle.fm_flow.specs.inner.LiveWalks.{row_of}
use Rattle.fm_place.proofs.PlanLemmas.{holders}
use Rattle.fm_place.specs.PlansBy.{paired}
use Rattle.fm_place.specs.declared.busy_rows.Seen.{Seen}
use Rattle.fm_place.specs.declared.groups.Groups.{Groups}
use Rattle.fm_place.specs.declared.holding_rows.Holding.{Holding}
use Rattle.fm_place.specs.inner.PlanRows.{AreGroups, AreHolding, AreRowsIn, count_of, is_busy_at, is_freed, may_hold_at}
use Rattle.fm_place_weave.proofs.PlanLemmas.{here-listed, later-listed}
use Rattle.fm_audit.proofs.FoundAgainLemmas.{all_true}
use Rattle.fm_audit.proofs.SafeItemLemmas.{busy_bit}
use Rattle.fm_audit.specs.inner.Checked.{IsMayItem, IsSafeItem}
use Rattle.fm_audit.specs.inner.Frees.{are_freed_there, are_safe_from, is_freed_there, is_once, is_quiet, is_safe_at, lists}

-- ---- pairs of one item

unlisted_again : (j x : ℕ) (freed : List ℕ) → AllByRecursion (λ y. nat_eq x y ≡ false) freed → lists (map (λ h. (j, h)) freed) x ≡ false
unlisted_again j x [] apart = refl
unlisted_again j x (h ∷ freed) apart = or_from (nat_eq x h) (lists (map (λ g. (j, g)) freed) x) apart.0 (unlisted_again j x freed apart.1)

pub once_again : (j : ℕ) (freed : List ℕ) → IsDistinct nat_eq freed → is_once (map (λ h. (j, h)) freed) ≡ true
unfolding IsDistinct
once_again j [] own = refl
once_again j (h ∷ freed) own =
    and_from (not (lists (map (λ g. (j, g)) freed) h)) (is_once (map (λ g. (j, g)) freed)) (ap not (unlisted_again j h freed own.0)) (once_again j freed own.1)

listed_again : (j x : ℕ) (freed : List ℕ) → Contains freed x → lists (map (λ h. (j, h)) freed) x ≡ true
listed_again j x [] found = absurd (Contains-none x found)
listed_again j x (h ∷ freed) found =
    ⊎_elim (λ (same : x ≡ h). or_left (nat_eq x h) (lists (map (λ g. (j, g)) freed) x) (eq-eqb x h same))
    (λ (later : Contains freed x). or_right (nat_eq x h) (lists (map (λ g. (j, g)) freed) x) (listed_again j x freed later))
    (Contains-cons_cases h freed x found)

-- ---- all items

all_again : (classes : List ℕ) (busy rows : List (List Bool)) (freed : ℕ → List ℕ) (a n : ℕ)
    → ((j : ℕ) → a ≤ j → j < a + n → is_safe_at classes busy rows j (paired freed j) ≡ true)
    → are_safe_from classes busy rows a n (flat_map (paired freed) (range_with_len a n)) ≡ true
all_again classes busy rows freed a zero each = refl
all_again classes busy rows freed a (suc n) each =
    (λ k. is_safe_at classes busy rows a (here-listed freed a n k) && are_safe_from classes busy rows (a + 1) n (later-listed freed a n k))
    ∙ and_from (is_safe_at classes busy rows a (paired freed a))
    (are_safe_from classes busy rows (a + 1) n (flat_map (paired freed) (range_with_len (a + 1) n))) (each a (omega arith) (omega arith))
    (all_again classes busy rows freed (a + 1) n (λ j low high. each j (omega (arith, low)) (omega (arith, high))))

-- ---- by the rows of what is known

module _ (s : Seen) (g : Groups) (busy : List (List Bool)) (holding : Holding) (groups : AreGroups g) (busy_are : AreRowsIn g (count_of s) (is_busy_at s) busy)
    (holding_are : AreHolding s g.held.now (length g.held.now) holding.freed holding.rows.items) where
  quiet_one : (j : ℕ) → j < count_of s → (freed : List ℕ) → IsMayItem s g.held.now j freed → (h : ℕ) → Contains freed h
      → is_quiet g.of_holders.items busy j (j, h) ≡ true
  quiet_one j inside freed may h found =
      let own = Some-from_some_and (slice_get g.held.now h) (λ (p : ℕ × ℕ). is_busy_at s j p.1 ≡ false) (may h found) in
      let within = slice_get_within g.held.now h own.0 own.1 in
      let low : nat_lt h (length g.of_holders.items) ≡ true =
      lt-ltb h (length g.of_holders.items) (omega (arith, within, holders s g busy holding groups busy_are holding_are)) in
      let idle : has (row_of busy (get_or g.of_holders.items h 0)) j ≡ false =
      busy_bit s g busy holding groups busy_are holding_are h j own.0 own.1 inside ∙ own.2 in
      and_from (nat_lt h (length g.of_holders.items)) (not (has (row_of busy (get_or g.of_holders.items h 0)) j)) low (ap not idle)

  -- where no holder is freed whose class is busy
  pub all_quiet : (j : ℕ) → j < count_of s → (freed : List ℕ) → IsMayItem s g.held.now j freed
      → list_all (is_quiet g.of_holders.items busy j) (map (λ h. (j, h)) freed) ≡ true
  all_quiet j inside freed may =
      all_true (is_quiet g.of_holders.items busy j) (map (λ h. (j, h)) freed)
      (λ q found.
      let own = Contains-from_map {Y = ℕ × ℕ} (λ h. (j, h)) freed q found in
      subst (λ (r : ℕ × ℕ). is_quiet g.of_holders.items busy j r ≡ true) own.2 (quiet_one j inside freed may own.0 own.1))

  module _ (j : ℕ) (inside : j < count_of s) (freed : List ℕ) (safe : IsSafeItem s g.held.now j freed) where
    abbrev pairs : List (ℕ × ℕ)
    pairs = map (λ h. (j, h)) freed

    freed_one : (h : ℕ) → h < length g.of_holders.items → is_freed_there g.of_holders.items busy holding.rows.items j pairs h ≡ true
    freed_one h below = by_test (is_freed g.of_holders.items busy holding.rows.items j h) refl where
      p : ℕ × ℕ
      p = get_or g.held.now h (0, 0)

      within : h < length g.held.now
      within = omega (arith, below, holders s g busy holding groups busy_are holding_are)

      there : slice_get g.held.now h ≡ Some p
      there = slice_get-get_or g.held.now h (0, 0) within

      by_test : (b : Bool) → is_freed g.of_holders.items busy holding.rows.items j h ≡ b → (not b || lists pairs h) ≡ true
      by_test false stays = refl
      by_test true freed_here =
          let bit = has (row_of busy (get_or g.of_holders.items h 0)) j in
          let row = has (row_of holding.rows.items h) j in
          let idle : is_busy_at s j p.1 ≡ false =
          sym (busy_bit s g busy holding groups busy_are holding_are h j p there inside) ∙ not-true bit (and_left (not bit) row freed_here) in
          let holds : may_hold_at s j p ≡ true = sym ((holding_are.each h p within there).row_is.each j inside) ∙ and_right (not bit) row freed_here in
          listed_again j h freed (safe.must h p there idle holds)

    safe_again : is_safe_at g.of_holders.items busy holding.rows.items j pairs ≡ true
    safe_again =
        let quiet = all_quiet j inside freed safe.may in
        let needed = all_true (is_freed_there g.of_holders.items busy holding.rows.items j pairs) (range_with_len 0 (length g.of_holders.items))
        (λ h found. freed_one h (let within = (Contains-from_range 0 (length g.of_holders.items) h found).1 in omega (arith, within))) in
        and_from (is_once pairs) _ (once_again j freed safe.once)
        (and_from _ (are_freed_there g.of_holders.items busy holding.rows.items j pairs) quiet needed)

  pub frees_again : (before : List (ℕ × ℕ)) (freed : ℕ → List ℕ) → before ≡ flat_map (paired freed) (range_with_len 0 (count_of s))
      → ((j : ℕ) → j < count_of s → IsSafeItem s g.held.now j (freed j))
      → are_safe_from g.of_holders.items busy holding.rows.items 0 (length holding.freed) before ≡ true
  frees_again before freed listed each =
      (λ k. are_safe_from g.of_holders.items busy holding.rows.items 0 (holding_are.freed_bits k) (listed k))
      ∙ all_again g.of_holders.items busy holding.rows.items freed 0 (count_of s)
      (λ j low high. let inside : j < count_of s = omega (arith, high) in safe_again j inside (freed j) (each j inside))
