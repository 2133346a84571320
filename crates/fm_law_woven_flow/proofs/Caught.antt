-- Which old items' handlers catch what a laid item throws.
use Rattle.std.proofs.Common.{◌≡◌, ℕ, suc, ◌+◌, ◌<◌, ◌≤◌, ◌⊎◌, inl, inr, length, Some, None, Contains, IsSomeAnd, refl, sym, ap, subst, ◌∙◌, arith}
use Rattle.std.specs.Prelude.{slice_get, slice_index}
use Rattle.std.proofs.lemmas.Bool.{cases_lt}
use Rattle.std.proofs.lemmas.List.Elements.{All-contains, All-from_recursion}
use Rattle.std.proofs.lemmas.Option.{slice_get_within}
use Rattle.fm_chain.specs.declared.calls.Calls.{Calls}
use Rattle.fm_code.specs.CodeRules.{HandlerIsValid}
use Rattle.fm_code.specs.Edges.{Catches, MeetsCodeRules}
use Rattle.fm_code.specs.declared.code_array.Code.{Code}
use Rattle.fm_code.specs.declared.code_array.Handler.{Handler}
use Rattle.fm_layout.proofs.TablesLemmas.{moves_up, MovesUp}
use Rattle.fm_chain.proofs.LaidChains.{chained_anchors_are_anchors}
use Rattle.fm_place.specs.Insertions.{Insertions}
use Rattle.fm_chain.specs.Chained.{anchors_of, chained}
use Rattle.fm_law_woven_flow.proofs.FollowsOn.{to_entry}
use Rattle.fm_law_woven_flow.proofs.LaidItems.{first_of, goes_to, item_total, Jump, laid_item, LaidItem, lays, Test, Whole}
use Rattle.fm_law_woven_flow.proofs.LaidRoles.{width}
use Rattle.fm_law_woven_flow.proofs.RoleLists.{entry_at, InAfter, InBefore, InStart, IsKept, last_anchor, next_anchor, stands_at, StandsAt}
use Rattle.fm_law_woven_flow.specs.Roles.{IsCaught, owner, Role}
use Rattle.fm_law_woven_flow.specs.inner.RolesOf.{moved_by, new_roles, roles_of}

-- ---- rising

-- where numbers of old items go, they rise
pub goes_up : (calls : Calls) (old : Code) (plan : Insertions) → MovesUp (goes_to calls old plan) (length old.items) (item_total calls old plan)
goes_up calls old plan = moves_up old (chained calls old plan) (anchors_of plan old.items) (chained_anchors_are_anchors calls old plan)

-- or stay
pub goes_le : (calls : Calls) (old : Code) (plan : Insertions) (a b : ℕ) → a ≤ b → b ≤ length old.items → goes_to calls old plan a ≤ goes_to calls old plan b
goes_le calls old plan a b le inside = go (cases_lt a b) where
  go : (a < b) ⊎ (b ≤ a) → goes_to calls old plan a ≤ goes_to calls old plan b
  go (inl less) = let up = (goes_up calls old plan).rises a b less inside in omega arith
  go (inr more) =
      let same : a ≡ b = omega arith in
      let equal = ap (λ n. goes_to calls old plan n) same in
      omega arith

-- laid items rise with new ones
pub first_le : (calls : Calls) (old : Code) (plan : Insertions) (k l : ℕ) → k ≤ l → l ≤ length (new_roles old plan) → first_of calls old plan k ≤ first_of calls old plan l
first_le calls old plan k l le inside = go (cases_lt k l) where
  go : (k < l) ⊎ (l ≤ k) → first_of calls old plan k ≤ first_of calls old plan l
  go (inl less) = let up = (lays calls old plan).rise k l less inside in omega arith
  go (inr more) =
      let same : k ≡ l = omega arith in
      let equal = ap (λ n. first_of calls old plan n) same in
      omega arith

-- anchors are among the new items, or past them all
pub anchor_inside : (old : Code) (plan : Insertions) (t : ℕ) → t ≤ length old.items → slice_index (anchors_of plan old.items) t ≤ length (new_roles old plan)
anchor_inside old plan t inside = go (cases_lt t (length old.items)) where
  go : (t < length old.items) ⊎ (length old.items ≤ t) → slice_index (anchors_of plan old.items) t ≤ length (new_roles old plan)
  go (inl less) =
      let entry = entry_at old plan t less in
      let within = slice_get_within (new_roles old plan) (slice_index (anchors_of plan old.items) t) entry.0 entry.1 in
      omega arith
  go (inr more) =
      let same : t ≡ length old.items = omega arith in
      let equal = ap (λ n. slice_index (anchors_of plan old.items) n) same in
      let last = last_anchor old plan in
      omega (arith, equal, last)

-- ---- owners

-- a laid item is at the start, before where the first old item goes, or of the old item between
-- whose numbers it lies
pub data Owned (calls : Calls) (old : Code) (plan : Insertions) (n : ℕ) (r : Role) : Type 0 where
  OfStart : owner r ≡ None → n < goes_to calls old plan 0 → Owned calls old plan n r
  OfItem : (j : ℕ) → j < length old.items → owner r ≡ Some j → goes_to calls old plan j ≤ n → n < goes_to calls old plan (suc j) → Owned calls old plan n r

-- the numbers of a new item's laid ones
owned-by : (calls : Calls) (old : Code) (plan : Insertions) (n k : ℕ) (x r : Role) → slice_get (new_roles old plan) k ≡ Some x → owner r ≡ owner x
    → first_of calls old plan k ≤ n → n < first_of calls old plan (suc k) → StandsAt old plan k x → Owned calls old plan n r
owned-by calls old plan n k x r found same low high (InStart less is) =
    let end = first_le calls old plan (suc k) (slice_index (anchors_of plan old.items) 0) (omega arith) (anchor_inside old plan 0 (omega arith)) in
    OfStart (same ∙ is.owner_is) (omega arith)
owned-by calls old plan n k x r found same low high (InBefore j inside from to is) =
    let next = next_anchor old plan j inside in
    let all = anchor_inside old plan (suc j) (omega arith) in
    let begin = first_le calls old plan (slice_index (anchors_of plan old.items) j) k from (let within = slice_get_within (new_roles old plan) k x found in omega arith) in
    let end = first_le calls old plan (suc k) (slice_index (anchors_of plan old.items) (suc j)) (omega (arith, next)) all in
    OfItem j inside (same ∙ is.owner_is) (omega arith) (omega arith)
owned-by calls old plan n k x r found same low high (IsKept j inside at is) =
    let next = next_anchor old plan j inside in
    let all = anchor_inside old plan (suc j) (omega arith) in
    let begin = first_le calls old plan (slice_index (anchors_of plan old.items) j) k (omega arith) (let within = slice_get_within (new_roles old plan) k x found in omega arith) in
    let end = first_le calls old plan (suc k) (slice_index (anchors_of plan old.items) (suc j)) (omega (arith, next)) all in
    OfItem j inside (same ∙ ap owner is) (omega arith) (omega arith)
owned-by calls old plan n k x r found same low high (InAfter j inside from to is) =
    let all = anchor_inside old plan (suc j) (omega arith) in
    let begin = first_le calls old plan (slice_index (anchors_of plan old.items) j) k (omega arith) (let within = slice_get_within (new_roles old plan) k x found in omega arith) in
    let end = first_le calls old plan (suc k) (slice_index (anchors_of plan old.items) (suc j)) (omega arith) all in
    OfItem j inside (same ∙ is.owner_is) (omega arith) (omega arith)

pub owned : (calls : Calls) (old : Code) (plan : Insertions) (n : ℕ) (r : Role) → slice_get (roles_of calls old plan) n ≡ Some r → Owned calls old plan n r
owned calls old plan n r found = go (laid_item calls old plan n r found) where
  go : LaidItem calls old plan n r → Owned calls old plan n r
  go (Whole k same there way) =
      let step : first_of calls old plan (suc k) ≡ first_of calls old plan k + 1 =
      (lays calls old plan).step k (slice_get_within (new_roles old plan) k r there) ∙ ap (λ b. first_of calls old plan k + width b) way in
      owned-by calls old plan n k r r there refl (omega arith) (omega (arith, step)) (stands_at old plan k r there)
  go (Test k same there way split) =
      let step : first_of calls old plan (suc k) ≡ first_of calls old plan k + 2 =
      (lays calls old plan).step k (slice_get_within (new_roles old plan) k r there) ∙ ap (λ b. first_of calls old plan k + width b) way in
      owned-by calls old plan n k r r there refl (omega arith) (omega (arith, step)) (stands_at old plan k r there)
  go (Jump k kept same there way split is) =
      let step : first_of calls old plan (suc k) ≡ first_of calls old plan k + 2 =
      (lays calls old plan).step k (slice_get_within (new_roles old plan) k kept there) ∙ ap (λ b. first_of calls old plan k + width b) way in
      owned-by calls old plan n k kept r there (ap owner is ∙ ap owner (sym split.is)) (omega arith) (omega (arith, step)) (stands_at old plan k kept there)

-- ---- handlers

-- an entry of the exception table is valid
pub handler_valid : (old : Code) (rules : MeetsCodeRules old) (h : Handler) → Contains old.handlers h → HandlerIsValid rules.0 (length old.items) h
handler_valid old rules h found =
    let P = HandlerIsValid rules.0 (length old.items) in
    All-contains P old.handlers h (All-from_recursion P old.handlers rules.1.handlers) found

pub caught : (calls : Calls) (old : Code) (plan : Insertions) → MeetsCodeRules old → (n : ℕ) (r : Role) (h : Handler) → slice_get (roles_of calls old plan) n ≡ Some r
    → Contains old.handlers h → Catches n (moved_by calls old plan h).handler (moved_by calls old plan h)
    → IsCaught old (roles_of calls old plan) r h (moved_by calls old plan h)
caught calls old plan rules n r h found listed catches = go (owned calls old plan n r found) where
  at_start : (j : ℕ) → n < goes_to calls old plan (suc j) → goes_to calls old plan h.start ≤ n → h.end ≤ length old.items → h.start < h.end
      → (j < h.start) ⊎ (h.start ≤ j) → h.start ≤ j
  at_start j high after all some (inl less) = let up = goes_le calls old plan (suc j) h.start (omega arith) (omega arith) in absurd (omega arith)
  at_start j high after all some (inr le) = le

  at_end : (j : ℕ) → j < length old.items → goes_to calls old plan j ≤ n → n < goes_to calls old plan h.end → (j < h.end) ⊎ (h.end ≤ j) → j < h.end
  at_end j inside low before (inl less) = less
  at_end j inside low before (inr le) = let up = goes_le calls old plan h.end j le (omega arith) in absurd (omega arith)

  go : Owned calls old plan n r → IsCaught old (roles_of calls old plan) r h (moved_by calls old plan h)
  go (OfStart none less) =
      let valid = handler_valid old rules h listed in
      let some = valid.not_empty in
      let all = valid.end in
      let from = goes_le calls old plan 0 h.start (omega arith) (omega arith) in
      let after : goes_to calls old plan h.start ≤ n = catches.after_start in
      absurd (omega arith)
  go (OfItem j inside is low high) =
      let valid = handler_valid old rules h listed in
      let some = valid.not_empty in
      let all = valid.end in
      let after : goes_to calls old plan h.start ≤ n = catches.after_start in
      let before : n < goes_to calls old plan h.end = catches.before_end in
      let start : h.start ≤ j = at_start j high after all some (cases_lt j h.start) in
      let end : j < h.end = at_end j inside low before (cases_lt j h.end) in
      let entry = to_entry calls old plan h.handler valid.handler in
      record {
        caught = subst (λ o. IsSomeAnd o (λ i. Catches i h.handler h)) (sym is) (record { after_start = start; before_end = end; handler_is = refl });
        to = entry.0;
        to_is = entry.1;
        entered = entry.2;
      }
