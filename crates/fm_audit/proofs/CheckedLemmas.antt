-- What the code has checked, of the lists that it lends.
use Rattle.std.proofs.Common.{◌≡◌, ℕ, zero, suc, ◌+◌, ◌-◌, ◌<◌, ◌≤◌, ◌==◌, ◌∙◌, Bool, cond, true, false, List, [], ◌∷◌, length, Some, None, arith, refl, ap, sym, subst, eqb-true}
use Rattle.std.specs.Prelude.{nat_lt}
use Rattle.std.specs.List.{range_with_len}
use Rattle.std.proofs.lemmas.Bool.{and_from, eqb-false, eq-eqb, false≢true, ltb-false, ltb-true}
use Rattle.std.proofs.lemmas.List.FromFn.{length-range_with_len}
use Rattle.std.proofs.lemmas.Option.{none-some, same_Some}
use Rattle.fm_base.proofs.TestFacts.{and_left, and_right}
use Rattle.fm_base.specs.declared.limits.TheConstants.{MAX_LOCAL_WORDS}
use Rattle.fm_place.specs.declared.busy_rows.Seen.{Seen}
use Rattle.fm_place.specs.declared.found_sites.Site.{Site}
use Rattle.fm_audit.proofs.HeldLemmas.{held_each}
use Rattle.fm_audit.specs.Reading.{Pairs, Read}
use Rattle.fm_audit.specs.inner.Checked.{AreSafeFrees, AreUnsafeFrees, IsChecked, IsSafeItem, IsSafelyRead}
use Rattle.fm_audit.specs.inner.Holders.{are_own_items, counts_up, held_by_all, holders_for}

pub held_count : (sites : List Site) (after : List (ℕ × ℕ)) (holders : ℕ) (held : List (ℕ × ℕ))
    → held_by_all sites after (range_with_len 0 holders) ≡ Some held → length held ≡ holders
held_count sites after holders held is = (held_each sites after 0 holders held is).count

pub are_checked : (s : Seen) (sites : List Site) (pairs : Pairs) (count holders : ℕ) (held lent before after : List (ℕ × ℕ))
    → (holders ≡ count) × (0 < holders) × (s.method.code.now.max_locals + holders ≤ MAX_LOCAL_WORDS)
    → held_by_all sites after (range_with_len 0 holders) ≡ Some held → lent ≡ held → before ≡ pairs.before → after ≡ pairs.after
    → are_own_items lent after ≡ true → AreSafeFrees s lent before → IsChecked s sites pairs holders
are_checked s sites pairs count holders held lent before after number held_is lent_is before_is after_is own frees = record {
  held = held;
  count = held_count sites after holders held held_is;
  some = number.1;
  room = number.2;
  held_is = ap (λ ps. held_by_all sites ps (range_with_len 0 holders)) (sym after_is) ∙ held_is;
  own = (λ k. are_own_items (sym lent_is k) (sym after_is k)) ∙ own;
  frees = subst (λ (h : List (ℕ × ℕ)). AreSafeFrees s h pairs.before) lent_is (subst (λ (b : List (ℕ × ℕ)). AreSafeFrees s lent b) before_is frees);
}

-- numbers that count up are those from the first one on
counted : (n : ℕ) (ks : List ℕ) → counts_up n ks ≡ true → ks ≡ range_with_len n (length ks)
counted n [] is = refl
counted n (k ∷ ks) is =
    let rest = counts_up (n + 1) ks in
    λ i. eqb-true k n (and_left (k == n) rest is) i ∷ counted (n + 1) ks (and_right (k == n) rest is) i

pub starts_are : (starts lent : List ℕ) (holders : ℕ) → lent ≡ starts → counts_up 0 lent ≡ true → holders ≡ length starts
    → starts ≡ range_with_len 0 holders
starts_are starts lent holders same up count =
    counted 0 starts (sym (ap (counts_up 0) same) ∙ up) ∙ ap (range_with_len 0) (sym count)

-- ---- how many holders there are

-- there are some, and locals left for them
pub holders_some : (max_locals count holders : ℕ) → Some holders ≡ holders_for max_locals count
    → (holders ≡ count) × (0 < holders) × (max_locals + holders ≤ MAX_LOCAL_WORDS)
holders_some max_locals count holders is = by_tests (count == 0) refl (nat_lt (MAX_LOCAL_WORDS - max_locals) count) refl is where
  by_tests : (none : Bool) → (count == 0) ≡ none → (past : Bool) → nat_lt (MAX_LOCAL_WORDS - max_locals) count ≡ past
      → Some holders ≡ cond none None (cond past None (Some count)) → (holders ≡ count) × (0 < holders) × (max_locals + holders ≤ MAX_LOCAL_WORDS)
  by_tests true empty past left found = absurd (none-some holders (sym found))
  by_tests false some true left found = absurd (none-some holders (sym found))
  by_tests false some false left found =
      let same : holders ≡ count = same_Some holders count found in
      let within = ltb-false (MAX_LOCAL_WORDS - max_locals) count left in
      let other = eqb-false count 0 some in
      (same, omega (arith, same, other), omega (arith, same, other, within))

-- else there aren't
pub holders_none : (max_locals count : ℕ) → None ≡ holders_for max_locals count → 0 < count → max_locals + count ≤ MAX_LOCAL_WORDS → ⊥
holders_none max_locals count is some room = by_tests (count == 0) refl (nat_lt (MAX_LOCAL_WORDS - max_locals) count) refl is where
  by_tests : (none : Bool) → (count == 0) ≡ none → (past : Bool) → nat_lt (MAX_LOCAL_WORDS - max_locals) count ≡ past
      → None ≡ cond none None (cond past None (Some count)) → ⊥
  by_tests true empty past left found = let same = eqb-true count 0 empty in omega (arith, same, some)
  by_tests false other true left found = let within = ltb-true (MAX_LOCAL_WORDS - max_locals) count left in omega (arith, within, room)
  by_tests false other false left found = none-some count found

-- ---- where what was read is safe, no part is failed

-- the numbers from one on count up
pub up_again : (n k : ℕ) → counts_up n (range_with_len n k) ≡ true
up_again n zero = refl
up_again n (suc k) = and_from (n == n) (counts_up (n + 1) (range_with_len (n + 1) k)) (eq-eqb n n refl) (up_again (n + 1) k)

module _ (s : Seen) (sites : List Site) (found : Read) (holders : ℕ) (safe : IsSafelyRead s sites found holders) where
  pub counted_up : (lent : List ℕ) (up : Bool) → lent ≡ found.starts → up ≡ counts_up 0 lent → up ≡ false → ⊥
  counted_up lent up lent_is is fails = false≢true (sym fails ∙ is ∙ ap (counts_up 0) (lent_is ∙ safe.starts) ∙ up_again 0 holders)

  pub as_many : (count : ℕ) → count ≡ length found.starts → count ≡ holders
  as_many count is = is ∙ ap length safe.starts ∙ length-range_with_len 0 holders

  pub never_crowded : (count : ℕ) → count ≡ length found.starts → None ≡ holders_for s.method.code.now.max_locals count → ⊥
  never_crowded count is none =
      let same = as_many count is in
      holders_none s.method.code.now.max_locals count none (let some = safe.some in omega (arith, same, some)) (let room = safe.room in omega (arith, same, room))

  pub held_same : (after held : List (ℕ × ℕ)) (count : ℕ) → count ≡ holders → after ≡ found.pairs.after
      → held_by_all sites after (range_with_len 0 count) ≡ Some held → held ≡ safe.held
  held_same after held count same after_is is =
      same_Some held safe.held (sym is ∙ (λ k. held_by_all sites (after_is k) (range_with_len 0 (same k))) ∙ safe.held_is)

  pub never_unheld : (after : List (ℕ × ℕ)) (count : ℕ) → count ≡ holders → after ≡ found.pairs.after
      → held_by_all sites after (range_with_len 0 count) ≡ None → ⊥
  never_unheld after count same after_is none =
      none-some safe.held (sym none ∙ (λ k. held_by_all sites (after_is k) (range_with_len 0 (same k))) ∙ safe.held_is)

  pub never_others : (after lent : List (ℕ × ℕ)) (own : Bool) → after ≡ found.pairs.after → lent ≡ safe.held → own ≡ are_own_items lent after → own ≡ false → ⊥
  never_others after lent own after_is lent_is is fails = false≢true (sym fails ∙ is ∙ (λ k. are_own_items (lent_is k) (after_is k)) ∙ safe.own)

  pub never_unsafe : (before lent : List (ℕ × ℕ)) → before ≡ found.pairs.before → lent ≡ safe.held → AreUnsafeFrees s lent before → ⊥
  never_unsafe before lent before_is lent_is unsafe =
      unsafe safe.freed (before_is ∙ safe.listed)
      (λ j inside. subst (λ (held : List (ℕ × ℕ)). IsSafeItem s held j (safe.freed j)) (sym lent_is) (safe.items j inside))
