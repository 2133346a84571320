-- The rows that are checked say what is safe before each item.
use Rattle.std.proofs.Common.{◌≡◌, ◌≢◌, ℕ, zero, suc, ◌+◌, ◌<◌, ◌≤◌, ◌&&◌, ◌||◌, not, Bool, true, false, List, [], ◌∷◌, length, map, get_or, Some, Contains, sym, ap, subst, ◌∙◌, ⊎_elim, arith, eqb-true}
use Rattle.std.specs.Prelude.{nat_eq, nat_lt, slice_get}
use Rattle.std.specs.List.{AllByRecursion, flat_map, IsDistinct, list_all, range_with_len}
use Rattle.std.proofs.lemmas.Bool.{cases_eq, cases_lt, false≢true, ltb-true, not-true, or_cases}
use Rattle.std.proofs.lemmas.Option.{slice_get-get_or, slice_get_within}
use Rattle.fm_base.proofs.OptionFacts.{IsSomeAnd-from_some}
use Rattle.fm_base.proofs.TestFacts.{and_left, and_right, or_left_fails, or_right_fails}
use Rattle.fm_base.specs.Rows.{has}
use Rattle.fm_code.proofs.EdgesLemmas.{Contains-first, Contains-later, Contains-map}
use Rattle.fm_conn.proofs.ListLemmas.{Contains-range}
use Rattle.fm_flow.specs.inner.LiveWalks.{row_of}
use Rattle.fm_place.proofs.GroupLemmas.{holder_row}
use Rattle.fm_place.specs.PlansBy.{paired}
use Rattle.fm_place.specs.declared.busy_rows.Seen.{Seen}
use Rattle.fm_place.specs.declared.groups.Groups.{Groups}
use Rattle.fm_place.specs.declared.holding_rows.Holding.{Holding}
use Rattle.fm_place.specs.inner.PlanRows.{AreGroups, AreHolding, AreRowsIn, count_of, is_busy_at, is_freed, may_hold_at}
use Rattle.fm_place_weave.proofs.PlanLemmas.{here-listed, later-listed}
use Rattle.fm_place.proofs.PlanLemmas.{holders}
use Rattle.fm_summ.proofs.BareLemmas.{all_pass}
use Rattle.fm_audit.specs.inner.Checked.{AreSafeFrees, IsSafeItem}
use Rattle.fm_audit.specs.inner.Frees.{are_freed_there, are_safe_from, is_freed_there, is_once, is_quiet, is_safe_at, lists}

-- ---- pairs of one item

unlisted : (j x : ℕ) (freed : List ℕ) → lists (map (λ h. (j, h)) freed) x ≡ false → AllByRecursion (λ y. nat_eq x y ≡ false) freed
unlisted j x [] none = tt
unlisted j x (h ∷ freed) none =
    let rest = lists (map (λ h. (j, h)) freed) x in
    (or_left_fails (nat_eq x h) rest none, unlisted j x freed (or_right_fails (nat_eq x h) rest none))

pub distinct_once : (j : ℕ) (freed : List ℕ) → is_once (map (λ h. (j, h)) freed) ≡ true → IsDistinct nat_eq freed
unfolding IsDistinct
distinct_once j [] is = tt
distinct_once j (h ∷ freed) is =
    let others = map (λ h. (j, h)) freed in (
      unlisted j h freed (not-true (lists others h) (and_left (not (lists others h)) (is_once others) is)),
      distinct_once j freed (and_right (not (lists others h)) (is_once others) is),
    )

listed_once : (j x : ℕ) (freed : List ℕ) → lists (map (λ h. (j, h)) freed) x ≡ true → Contains freed x
listed_once j x [] none = absurd (false≢true none)
listed_once j x (h ∷ freed) some =
    let rest = lists (map (λ h. (j, h)) freed) x in
    ⊎_elim (λ (same : nat_eq x h ≡ true). Contains-first h freed x (eqb-true x h same))
    (λ (later : rest ≡ true). Contains-later h freed x (listed_once j x freed later)) (or_cases (nat_eq x h) rest some)

-- ---- each item

safe_each : (classes : List ℕ) (busy rows : List (List Bool)) (freed : ℕ → List ℕ) (a n j : ℕ)
    → are_safe_from classes busy rows a n (flat_map (paired freed) (range_with_len a n)) ≡ true → a ≤ j → j < a + n
    → is_safe_at classes busy rows j (paired freed j) ≡ true
safe_each classes busy rows freed a zero j is low high = absurd (omega (arith, low, high))
safe_each classes busy rows freed a (suc n) j is low high =
    let own = is_safe_at classes busy rows a (paired freed a) in
    let rest = are_safe_from classes busy rows (a + 1) n (flat_map (paired freed) (range_with_len (a + 1) n)) in
    let both : (own && rest) ≡ true =
    sym (λ k. is_safe_at classes busy rows a (here-listed freed a n k) && are_safe_from classes busy rows (a + 1) n (later-listed freed a n k)) ∙ is in
    ⊎_elim (λ (same : a ≡ j). subst (λ i. is_safe_at classes busy rows i (paired freed i) ≡ true) same (and_left own rest both))
    (λ (other : a ≢ j). safe_each classes busy rows freed (a + 1) n j (and_right own rest both) (later_on other) (omega (arith, high)))
    (cases_eq a j) where
      later_on : a ≢ j → a + 1 ≤ j
      later_on other = ⊎_elim (λ (before : a < j). omega (arith, before)) (λ (past : j ≤ a). absurd (other (omega (arith, low, past)))) (cases_lt a j)

-- ---- by the rows of what is known

module _ (s : Seen) (g : Groups) (busy : List (List Bool)) (holding : Holding) (groups : AreGroups g) (busy_are : AreRowsIn g (count_of s) (is_busy_at s) busy)
    (holding_are : AreHolding s g.held.now (length g.held.now) holding.freed holding.rows.items) where
  -- the bit of a holder's class
  pub busy_bit : (h j : ℕ) (p : ℕ × ℕ) → slice_get g.held.now h ≡ Some p → j < count_of s
      → has (row_of busy (get_or g.of_holders.items h 0)) j ≡ is_busy_at s j p.1
  busy_bit h j p there inside = (holder_row g (count_of s) (is_busy_at s) busy groups busy_are h p there).1.each j inside

  -- a holder that is freed there
  pub may_be : (j : ℕ) → j < count_of s → (freed : List ℕ) → list_all (is_quiet g.of_holders.items busy j) (map (λ h. (j, h)) freed) ≡ true
      → (h : ℕ) → Contains freed h
      → slice_get g.held.now h ≡ Some (get_or g.held.now h (0, 0)) × (is_busy_at s j (get_or g.held.now h (0, 0)).1 ≡ false)
  may_be j inside freed quiet h found =
      let own = all_pass (is_quiet g.of_holders.items busy j) (map (λ h. (j, h)) freed) quiet (j, h)
      (Contains-map {Y = ℕ × ℕ} (λ h. (j, h)) freed h found) in
      let bit = has (row_of busy (get_or g.of_holders.items h 0)) j in
      let low = nat_lt h (length g.of_holders.items) in
      let within = ltb-true h (length g.of_holders.items) (and_left low (not bit) own) in
      let there = slice_get-get_or g.held.now h (0, 0) (omega (arith, within, holders s g busy holding groups busy_are holding_are)) in
      (there, sym (busy_bit h j (get_or g.held.now h (0, 0)) there inside) ∙ not-true bit (and_right low (not bit) own))

  module _ (j : ℕ) (inside : j < count_of s) (freed : List ℕ)
      (safe : is_safe_at g.of_holders.items busy holding.rows.items j (map (λ h. (j, h)) freed) ≡ true) where
    abbrev pairs : List (ℕ × ℕ)
    pairs = map (λ h. (j, h)) freed

    abbrev quiet : Bool
    quiet = list_all (is_quiet g.of_holders.items busy j) pairs

    abbrev needed : Bool
    needed = are_freed_there g.of_holders.items busy holding.rows.items j pairs

    rest_safe : (quiet && needed) ≡ true
    rest_safe = and_right (is_once pairs) (quiet && needed) safe

    must_be : (h : ℕ) (p : ℕ × ℕ) → slice_get g.held.now h ≡ Some p → is_busy_at s j p.1 ≡ false → may_hold_at s j p ≡ true → Contains freed h
    must_be h p there idle holds =
        let within = slice_get_within g.held.now h p there in
        let own = all_pass (is_freed_there g.of_holders.items busy holding.rows.items j pairs) (range_with_len 0 (length g.of_holders.items))
        (and_right quiet needed rest_safe) h (Contains-range 0 (length g.of_holders.items) h (omega arith) (omega (arith, within, holders s g busy holding groups busy_are holding_are))) in
        let row = (holding_are.each h p within there).row_is.each j inside in
        let needs : is_freed g.of_holders.items busy holding.rows.items j h ≡ true =
        (λ k. not (busy_bit h j p there inside k) && row k) ∙ (λ k. not (idle k) && holds k) in
        listed_once j h freed (sym (ap (λ b. not b || lists pairs h) needs) ∙ own)

    pub item_is_safe : IsSafeItem s g.held.now j freed
    item_is_safe = record {
      once = distinct_once j freed (and_left (is_once pairs) (quiet && needed) safe);
      may = λ h found.
          let there = may_be j inside freed (and_left quiet needed rest_safe) h found in
          IsSomeAnd-from_some (slice_get g.held.now h) (λ (p : ℕ × ℕ). is_busy_at s j p.1 ≡ false) (get_or g.held.now h (0, 0)) there.0 there.1;
      must = must_be;
    }

  -- what is checked is safe
  pub frees_are_safe : (before : List (ℕ × ℕ)) → are_safe_from g.of_holders.items busy holding.rows.items 0 (length holding.freed) before ≡ true
      → AreSafeFrees s g.held.now before
  frees_are_safe before is freed listed j inside =
      item_is_safe j inside (freed j)
      (safe_each g.of_holders.items busy holding.rows.items freed 0 (count_of s) j
      ((λ k. are_safe_from g.of_holders.items busy holding.rows.items 0 (sym holding_are.freed_bits k) (sym listed k)) ∙ is)
      (omega arith) (omega (arith, inside)))
