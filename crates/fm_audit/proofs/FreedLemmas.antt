-- Which holders are freed before one item after the other, by rows.
use Rattle.std.proofs.Common.{◌≡◌, ℕ, zero, suc, ◌+◌, ◌-◌, ◌<◌, ◌≤◌, ◌&&◌, ◌||◌, not, Bool, true, false, List, length, refl, sym, ap, ◌∙◌, arith}
use Rattle.std.specs.List.{list_all, range_with_len}
use Rattle.std.proofs.lemmas.Bool.{and_from, false≢true}
use Rattle.fm_base.specs.Rows.{has}
use Rattle.fm_place.specs.declared.holding_rows.Holding.{Holding}
use Rattle.fm_place.specs.inner.PlanRows.{AreFreedRows, is_freed}
use Rattle.fm_place_weave.specs.ByPlan.{here, later}
use Rattle.fm_audit.proofs.HeldLemmas.{range_from, range_past}
use Rattle.fm_audit.specs.inner.Frees.{all_from, are_freed_there, are_safe_from, is_freed_there, is_safe_at, lists}

-- ---- a test of all numbers

all_in_range : (test : ℕ → Bool) (a n : ℕ) → ((k : ℕ) → a ≤ k → k < a + n → test k ≡ true) → list_all test (range_with_len a n) ≡ true
all_in_range test a zero each = refl
all_in_range test a (suc n) each =
    and_from (test a) (list_all test (range_with_len (a + 1) n)) (each a (omega arith) (omega arith))
    (all_in_range test (a + 1) n (λ k low high. each k (omega (arith, low)) (omega (arith, high))))

-- the first one passes
pub all_more : (test : ℕ → Bool) (h n : ℕ) (b whole : Bool) → h < n → b ≡ test h → b ≡ true → list_all test (range_with_len h (n - h)) ≡ whole
    → list_all test (range_with_len (h + 1) (n - (h + 1))) ≡ whole
all_more test h n b whole below is passes so_far =
    sym (ap (λ c. c && list_all test (range_with_len (h + 1) (n - (h + 1)))) (sym is ∙ passes))
    ∙ sym (ap (list_all test) (range_from h n below)) ∙ so_far

-- it fails
pub all_stops : (test : ℕ → Bool) (h n : ℕ) (b whole : Bool) → h < n → b ≡ test h → b ≡ false → list_all test (range_with_len h (n - h)) ≡ whole
    → false ≡ whole
all_stops test h n b whole below is fails so_far =
    sym (ap (λ c. c && list_all test (range_with_len (h + 1) (n - (h + 1)))) (sym is ∙ fails))
    ∙ sym (ap (list_all test) (range_from h n below)) ∙ so_far

-- none is left
pub all_end : (test : ℕ → Bool) (h n : ℕ) (whole : Bool) → n ≤ h → list_all test (range_with_len h (n - h)) ≡ whole → true ≡ whole
all_end test h n whole past so_far = sym (ap (list_all test) (range_past h n past)) ∙ so_far

-- ---- where none has to be freed

pub none_needed : (classes : List ℕ) (busy : List (List Bool)) (holding : Holding) (item : ℕ) (pairs : List (ℕ × ℕ)) → AreFreedRows classes busy holding
    → has holding.freed item ≡ false → are_freed_there classes busy holding.rows.items item pairs ≡ true
none_needed classes busy holding item pairs rows none =
    all_in_range (is_freed_there classes busy holding.rows.items item pairs) 0 (length classes)
    (λ h low high. by_test h (omega (arith, high)) (is_freed classes busy holding.rows.items item h) refl) where
      by_test : (h : ℕ) → h < length classes → (b : Bool) → is_freed classes busy holding.rows.items item h ≡ b → (not b || lists pairs h) ≡ true
      by_test h inside true freed = absurd (false≢true (sym none ∙ rows.marked item h inside freed))
      by_test h inside false quiet = refl

-- ---- one item after the other

module _ (classes : List ℕ) (busy rows : List (List Bool)) (i n : ℕ) (pairs : List (ℕ × ℕ)) where
  -- from an item on
  safe_from : i < n → are_safe_from classes busy rows i (n - i) pairs
      ≡ (is_safe_at classes busy rows i (here i pairs) && are_safe_from classes busy rows (i + 1) (n - (i + 1)) (later i pairs))
  safe_from below =
      let left : n - i ≡ suc (n - (i + 1)) = omega (arith, below) in ap (λ count. are_safe_from classes busy rows i count pairs) left

  -- it is safe
  pub safe_more : (b whole : Bool) (own more : List (ℕ × ℕ)) → i < n → b ≡ is_safe_at classes busy rows i own → b ≡ true → own ≡ here i pairs
      → more ≡ later i pairs → are_safe_from classes busy rows i (n - i) pairs ≡ whole
      → are_safe_from classes busy rows (i + 1) (n - (i + 1)) more ≡ whole
  safe_more b whole own more below is safe own_is more_is so_far =
      ap (are_safe_from classes busy rows (i + 1) (n - (i + 1))) more_is
      ∙ sym (ap (λ c. c && are_safe_from classes busy rows (i + 1) (n - (i + 1)) (later i pairs))
      (sym (ap (is_safe_at classes busy rows i) own_is) ∙ sym is ∙ safe))
      ∙ sym (safe_from below) ∙ so_far

  -- it isn't
  pub safe_stops : (b whole : Bool) (own : List (ℕ × ℕ)) → i < n → b ≡ is_safe_at classes busy rows i own → b ≡ false → own ≡ here i pairs
      → are_safe_from classes busy rows i (n - i) pairs ≡ whole → false ≡ whole
  safe_stops b whole own below is unsafe own_is so_far =
      sym (ap (λ c. c && are_safe_from classes busy rows (i + 1) (n - (i + 1)) (later i pairs))
      (sym (ap (is_safe_at classes busy rows i) own_is) ∙ sym is ∙ unsafe))
      ∙ sym (safe_from below) ∙ so_far

  -- none is left
  pub safe_end : (whole : Bool) → n ≤ i → are_safe_from classes busy rows i (n - i) pairs ≡ whole → true ≡ whole
  safe_end whole past so_far =
      let left : n - i ≡ 0 = omega (arith, past) in sym (ap (λ count. are_safe_from classes busy rows i count pairs) left) ∙ so_far

-- ---- a test of each item with its pairs

module _ (test : ℕ → List (ℕ × ℕ) → Bool) (i n : ℕ) (pairs : List (ℕ × ℕ)) where
  test_next : i < n → all_from test i (n - i) pairs ≡ (test i (here i pairs) && all_from test (i + 1) (n - (i + 1)) (later i pairs))
  test_next below =
      let left : n - i ≡ suc (n - (i + 1)) = omega (arith, below) in ap (λ count. all_from test i count pairs) left

  -- it holds of one more
  pub test_more : (b whole : Bool) (own more : List (ℕ × ℕ)) → i < n → b ≡ test i own → b ≡ true → own ≡ here i pairs → more ≡ later i pairs
      → all_from test i (n - i) pairs ≡ whole → all_from test (i + 1) (n - (i + 1)) more ≡ whole
  test_more b whole own more below is holds own_is more_is so_far =
      ap (all_from test (i + 1) (n - (i + 1))) more_is
      ∙ sym (ap (λ c. c && all_from test (i + 1) (n - (i + 1)) (later i pairs)) (sym (ap (test i) own_is) ∙ sym is ∙ holds))
      ∙ sym (test_next below) ∙ so_far

  -- it doesn't
  pub test_stops : (b whole : Bool) (own : List (ℕ × ℕ)) → i < n → b ≡ test i own → b ≡ false → own ≡ here i pairs
      → all_from test i (n - i) pairs ≡ whole → false ≡ whole
  test_stops b whole own below is fails own_is so_far =
      sym (ap (λ c. c && all_from test (i + 1) (n - (i + 1)) (later i pairs)) (sym (ap (test i) own_is) ∙ sym is ∙ fails))
      ∙ sym (test_next below) ∙ so_far

  -- none is left
  pub test_end : (whole : Bool) → n ≤ i → all_from test i (n - i) pairs ≡ whole → true ≡ whole
  test_end whole past so_far =
      let left : n - i ≡ 0 = omega (arith, past) in sym (ap (λ count. all_from test i count pairs) left) ∙ so_far
