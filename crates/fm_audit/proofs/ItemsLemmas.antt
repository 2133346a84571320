-- New items that keep the old ones well have the part of what makes insertions safe that is of the items, and none else has.
use Rattle.std.proofs.Common.{◌≡◌, ◌≢◌, refl, sym, ◌∙◌, ap, subst, ℕ, zero, suc, ◌+◌, ◌<◌, ◌≤◌, ◌&&◌, ◌==◌, ◌++◌, ⊎_elim, Bool, true, false, cond, List, [], ◌∷◌, length, map, Option, Some, append-nil, arith, eqb-true}
use Rattle.std.specs.Prelude.{◌↔◌, IsTrue, nat_eq}
use Rattle.std.specs.List.{flat_map, IsDistinct, list_all, range_with_len}
use Rattle.std.proofs.lemmas.Bool.{and_from, cases_eq, cases_lt, eq-eqb, false≢true, lt-ltb, ltb-true}
use Rattle.fm_base.proofs.TestFacts.{and_left, and_right}
use Rattle.fm_base.specs.declared.limits.TheConstants.{MAX_LOCAL_WORDS}
use Rattle.fm_code.specs.declared.code_array.Code.{Code}
use Rattle.fm_code.specs.declared.code_array.Item.{Item}
use Rattle.fm_conn.specs.Facts.{Facts}
use Rattle.fm_conn.specs.Nodes.{TypedMethod}
use Rattle.fm_place.specs.PlansBy.{paired}
use Rattle.fm_place_weave.specs.declared.planned.Planned.{Planned}
use Rattle.fm_place_weave.proofs.PlanLemmas.{here-listed, later-listed}
use Rattle.fm_summ.proofs.BareLemmas.{all_pass}
use Rattle.fm_audit.proofs.FoundAgainLemmas.{all_true}
use Rattle.fm_audit.proofs.ListedLemmas.{found_listed, same_read}
use Rattle.fm_audit.proofs.SafeAgainLemmas.{once_again}
use Rattle.fm_audit.proofs.SafeItemLemmas.{distinct_once}
use Rattle.fm_audit.specs.Reading.{Read, read}
use Rattle.fm_audit.specs.ReadBy.{read_in}
use Rattle.fm_audit.specs.SafeParts.{FailsPart, FailsRead, freed_before, HasItems, IsJudgedBy}
use Rattle.fm_audit.specs.declared.parts.Part.TheVariants as part
use Rattle.fm_audit.specs.declared.parts.Part.{Part}
use Rattle.fm_audit.specs.declared.reading.Found.{Found}
use Rattle.fm_audit.specs.inner.Frees.{all_from, are_once_from, is_once}
use Rattle.fm_audit.specs.inner.Holders.{is_local}
use Rattle.fm_audit.specs.inner.Kept.{IsWell, least_failed}
use Rattle.fm_audit.specs.inner.Listed.{AreListed}

-- ---- a test of each item with its pairs

module _ (test : ℕ → List (ℕ × ℕ) → Bool) (freed : ℕ → List ℕ) where
  abbrev pairs_from : (a n : ℕ) → List (ℕ × ℕ)
  pairs_from a n = flat_map (paired freed) (range_with_len a n)

  both_are : (a n : ℕ) → all_from test a (suc n) (pairs_from a (suc n)) ≡ (test a (paired freed a) && all_from test (a + 1) n (pairs_from (a + 1) n))
  both_are a n = λ k. test a (here-listed freed a n k) && all_from test (a + 1) n (later-listed freed a n k)

  later_on : (a j : ℕ) → a ≤ j → a ≢ j → a + 1 ≤ j
  later_on a j low other = ⊎_elim (λ (before : a < j). omega (arith, before)) (λ (past : j ≤ a). absurd (other (omega (arith, low, past)))) (cases_lt a j)

  pub test_each : (a n j : ℕ) → all_from test a n (pairs_from a n) ≡ true → a ≤ j → j < a + n → test j (paired freed j) ≡ true
  test_each a zero j is low high = absurd (omega (arith, low, high))
  test_each a (suc n) j is low high =
      let both = sym (both_are a n) ∙ is in
      ⊎_elim
      (λ (same : a ≡ j). subst (λ i. test i (paired freed i) ≡ true) same (and_left (test a (paired freed a)) (all_from test (a + 1) n (pairs_from (a + 1) n)) both))
      (λ (other : a ≢ j).
      test_each (a + 1) n j (and_right (test a (paired freed a)) (all_from test (a + 1) n (pairs_from (a + 1) n)) both) (later_on a j low other) (omega (arith, high)))
      (cases_eq a j)

  pub test_again : (a n : ℕ) → ((j : ℕ) → a ≤ j → j < a + n → test j (paired freed j) ≡ true) → all_from test a n (pairs_from a n) ≡ true
  test_again a zero each = refl
  test_again a (suc n) each =
      both_are a n
      ∙ and_from (test a (paired freed a)) (all_from test (a + 1) n (pairs_from (a + 1) n)) (each a (omega arith) (omega arith))
      (test_again (a + 1) n (λ j low high. each j (omega (arith, low)) (omega (arith, high))))

-- ---- the holders that are freed before an item

own_there : (j : ℕ) (freed : List ℕ) (rest : List (ℕ × ℕ)) → freed_before (map (λ h. (j, h)) freed ++ rest) j ≡ freed ++ freed_before rest j
own_there j [] rest = refl
own_there j (h ∷ freed) rest =
    let more = freed_before (map (λ g. (j, g)) freed ++ rest) j in
    ap (λ b. cond b (h ∷ more) more) (eq-eqb j j refl) ∙ ap (λ (l : List ℕ). h ∷ l) (own_there j freed rest)

other_one : (i j h : ℕ) → i ≢ j → (more rest : List ℕ) → more ≡ rest → cond (i == j) (h ∷ more) more ≡ rest
other_one i j h other more rest same = by_test (i == j) refl where
  by_test : (b : Bool) → (i == j) ≡ b → cond (i == j) (h ∷ more) more ≡ rest
  by_test true is = absurd (other (eqb-true i j is))
  by_test false is = ap (λ b. cond b (h ∷ more) more) is ∙ same

other_there : (i j : ℕ) → i ≢ j → (freed : List ℕ) (rest : List (ℕ × ℕ)) → freed_before (map (λ h. (i, h)) freed ++ rest) j ≡ freed_before rest j
other_there i j other [] rest = refl
other_there i j other (h ∷ freed) rest =
    other_one i j h other (freed_before (map (λ g. (i, g)) freed ++ rest) j) (freed_before rest j) (other_there i j other freed rest)

module _ (freed : ℕ → List ℕ) where
  abbrev listed_from : (a n : ℕ) → List (ℕ × ℕ)
  listed_from a n = flat_map (paired freed) (range_with_len a n)

  none_there : (a n j : ℕ) → j < a → freed_before (listed_from a n) j ≡ []
  none_there a zero j before = refl
  none_there a (suc n) j before =
      other_there a j (λ same. let s : a ≡ j = same in omega (arith, before, s)) (freed a) (listed_from (a + 1) n) ∙ none_there (a + 1) n j (omega (arith, before))

  past_there : (a n j : ℕ) → a + n ≤ j → freed_before (listed_from a n) j ≡ []
  past_there a zero j past = refl
  past_there a (suc n) j past =
      other_there a j (λ same. let s : a ≡ j = same in omega (arith, past, s)) (freed a) (listed_from (a + 1) n) ∙ past_there (a + 1) n j (omega (arith, past))

  pub freed_there : (a n j : ℕ) → a ≤ j → j < a + n → freed_before (listed_from a n) j ≡ freed j
  freed_there a zero j low high = absurd (omega (arith, low, high))
  freed_there a (suc n) j low high = ⊎_elim
      (λ (same : a ≡ j).
      subst (λ i. freed_before (listed_from a (suc n)) i ≡ freed i) same
      (own_there a (freed a) (listed_from (a + 1) n) ∙ ap (λ (l : List ℕ). freed a ++ l) (none_there (a + 1) n a (omega arith)) ∙ append-nil (freed a)))
      (λ (other : a ≢ j).
      other_there a j other (freed a) (listed_from (a + 1) n)
      ∙ freed_there (a + 1) n j
      (⊎_elim (λ (before : a < j). omega (arith, before)) (λ (past : j ≤ a). absurd (other (omega (arith, low, past)))) (cases_lt a j)) (omega (arith, high)))
      (cases_eq a j)

none_distinct : IsDistinct nat_eq []
unfolding IsDistinct
none_distinct = tt

-- ---- all of it

module _ (free : ℕ) (code : Code) (new : List Item) (found : Read) (is : read free code.max_locals code.items new ≡ Some found)
    (listed : AreListed 0 (length code.items) found.pairs) where
  abbrev locals : List (ℕ × ℕ) → Bool
  locals pairs = list_all (λ (p : ℕ × ℕ). is_local code.max_locals p.1) pairs

  -- none is freed twice before one item
  once_each : are_once_from 0 (length code.items) found.pairs.before ≡ true → (j : ℕ) → IsDistinct nat_eq (freed_before found.pairs.before j)
  once_each once j = subst (λ (l : List ℕ). IsDistinct nat_eq l) (sym (ap (λ pairs. freed_before pairs j) listed.before_is)) (⊎_elim
      (λ (inside : j < length code.items).
      subst (λ (l : List ℕ). IsDistinct nat_eq l) (sym (freed_there listed.before 0 (length code.items) j (omega arith) (omega (arith, inside))))
      (distinct_once j (listed.before j)
      (test_each (λ item own. is_once own) listed.before 0 (length code.items) j
      (sym (ap (are_once_from 0 (length code.items)) listed.before_is) ∙ once) (omega arith) (omega (arith, inside)))))
      (λ (past : length code.items ≤ j).
      subst (λ (l : List ℕ). IsDistinct nat_eq l) (sym (past_there listed.before 0 (length code.items) j (omega (arith, past)))) (none_distinct))
      (cases_lt j (length code.items)))

  each_once : ((j : ℕ) → IsDistinct nat_eq (freed_before found.pairs.before j)) → are_once_from 0 (length code.items) found.pairs.before ≡ true
  each_once each =
      ap (are_once_from 0 (length code.items)) listed.before_is
      ∙ test_again (λ item own. is_once own) listed.before 0 (length code.items)
      (λ j low high. once_again j (listed.before j)
      (subst (λ (l : List ℕ). IsDistinct nat_eq l)
      (ap (λ pairs. freed_before pairs j) listed.before_is ∙ freed_there listed.before 0 (length code.items) j low high) (each j)))

  local_there : (h : ℕ) → is_local code.max_locals h ≡ true → code.max_locals + h < MAX_LOCAL_WORDS
  local_there h local = let within = ltb-true (code.max_locals + h) MAX_LOCAL_WORDS local in omega (arith, within)

  there_local : (h : ℕ) → code.max_locals + h < MAX_LOCAL_WORDS → is_local code.max_locals h ≡ true
  there_local h within = lt-ltb (code.max_locals + h) MAX_LOCAL_WORDS within

  pub well_items : IsWell free code found new → HasItems free code new found
  well_items well =
      let starts = list_all (is_local code.max_locals) found.starts in
      let before = locals found.pairs.before in
      let after = locals found.pairs.after in
      let once = are_once_from 0 (length code.items) found.pairs.before in
      let rest = and_right starts (before && (after && once)) well.1 in
      let last = and_right before (after && once) rest in
      record {
        read_is = is;
        kept = well.0;
        starts = λ h there. local_there h (all_pass (is_local code.max_locals) found.starts (and_left starts (before && (after && once)) well.1) h there);
        before = λ j h there. local_there h (all_pass (λ (p : ℕ × ℕ). is_local code.max_locals p.1) found.pairs.before (and_left before (after && once) rest) (j, h) there);
        after = λ j h there. local_there h (all_pass (λ (p : ℕ × ℕ). is_local code.max_locals p.1) found.pairs.after (and_left after once last) (j, h) there);
        once = once_each (and_right after once last);
      }

  pub items_well : HasItems free code new found → IsWell free code found new
  items_well has =
      let starts = list_all (is_local code.max_locals) found.starts in
      let before = locals found.pairs.before in
      let after = locals found.pairs.after in
      let once = are_once_from 0 (length code.items) found.pairs.before in (
        has.kept,
        and_from starts (before && (after && once)) (all_true (is_local code.max_locals) found.starts (λ h there. there_local h (has.starts h there)))
            (and_from before (after && once)
            (all_true (λ (p : ℕ × ℕ). is_local code.max_locals p.1) found.pairs.before (λ p there. there_local p.1 (has.before p.0 p.1 there)))
            (and_from after once (all_true (λ (p : ℕ × ℕ). is_local code.max_locals p.1) found.pairs.after (λ p there. there_local p.1 (has.after p.0 p.1 there)))
            (each_once has.once))),
      )

-- ---- as the code finds it

-- the items are these, or none are
abbrev pub AreFoundWell : (free : ℕ) → Code → (new : List Item) → Read → (well : Bool) → Type 0
AreFoundWell free code new found true = HasItems free code new found
AreFoundWell free code new found false = (other : Read) → HasItems free code new other → ⊥

pub found_well : (free : ℕ) (code : Code) (new : List Item) (f : Found) (well : Bool) → read free code.max_locals code.items new ≡ Some (read_in f)
    → (length new ≤ 65535 → IsTrue well ↔ IsWell free code (read_in f) new) → length new ≤ 65535 → AreFoundWell free code new (read_in f) well
found_well free code new f true is well few =
    well_items free code new (read_in f) is (found_listed free code.max_locals code.items new f is) ((well few).0 refl)
found_well free code new f false is well few = λ found has.
    let same = same_read free code.max_locals code.items new f found is has.read_is in
    false≢true ((well few).1 (subst (λ (r : Read). IsWell free code r new) same
    (items_well free code new found has.read_is
    (subst (λ (r : Read). AreListed 0 (length code.items) r.pairs) (sym same) (found_listed free code.max_locals code.items new f is)) has)))

-- what is known of a method besides is of use only where its items are these
pub items_judged : (facts : Facts) (x : TypedMethod) (free : ℕ) (code : Code) (new : List Item) (found : Read) (well : Bool) (later : Option Part)
    (done : Planned) → AreFoundWell free code new found well → (HasItems free code new found → IsJudgedBy facts x free code new later done)
    → IsJudgedBy facts x free code new (least_failed well later) done
items_judged facts x free code new found true later done has judged = judged has
items_judged facts x free code new found false later done none judged = none

-- a later part
pub later_fails : (facts : Facts) (x : TypedMethod) (free : ℕ) (code : Code) (new : List Item) (found : Read) (failed : Part) → HasItems free code new found
    → FailsRead facts x found failed → FailsPart facts x free code new failed
later_fails facts x free code new found part.Classes has fails = absurd fails
later_fails facts x free code new found part.Items has fails = absurd fails
later_fails facts x free code new found part.Holders has fails = (found, has, fails)
later_fails facts x free code new found part.Uses has fails = (found, has, fails)
later_fails facts x free code new found part.Frees has fails = (found, has, fails)
later_fails facts x free code new found part.Layout has fails = (found, has, fails)

-- a list without elements
pub none_listed : (ks : List ℕ) → length ks ≡ 0 → ks ≡ []
none_listed [] none = refl
none_listed (k ∷ ks) none = absurd (omega (arith, none))
