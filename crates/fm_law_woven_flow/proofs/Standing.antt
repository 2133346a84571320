-- Code with insertions does what the old code did.
use Rattle.std.proofs.Common.{◌≡◌, ◌≢◌, ℕ, suc, ◌+◌, ◌<◌, ◌≤◌, ◌==◌, ◌⊎◌, inl, inr, true, false, length, Some, IsSomeAnd, refl, sym, ap, subst, ◌∙◌, arith, if◌then◌else◌}
use Rattle.std.specs.Prelude.{slice_get, slice_index}
use Rattle.std.proofs.lemmas.Bool.{cases_eq, cases_lt, eq-eqb, false≢true, le-ltb, lt-ltb, ne_eqb}
use Rattle.std.proofs.lemmas.Option.{same_Some, slice_get_within}
use Rattle.fm_chain.specs.declared.calls.Calls.{Calls}
use Rattle.fm_code.specs.Edges.{falls_through, FallsOff, insn_of, MeetsCodeRules}
use Rattle.fm_code.specs.declared.code_array.Code.{Code}
use Rattle.fm_flow.proofs.CodeFacts.{items_counted}
use Rattle.fm_place.specs.Insertions.{Insertions}
use Rattle.fm_chain.specs.Chained.{anchors_of, chained_code}
use Rattle.fm_law_woven_flow.proofs.Caught.{caught, first_le}
use Rattle.fm_law_woven_flow.proofs.FollowsOn.{both-some, falls-kept, follow_edge, split_step}
use Rattle.fm_law_woven_flow.proofs.LaidItems.{first_of, goes_to, holders, laid_insn, insns, is_split_of, item_total, Jump, laid_item, LaidItem, lays, Test, Whole, whole_insn}
use Rattle.fm_law_woven_flow.proofs.LaidRoles.{width}
use Rattle.fm_law_woven_flow.proofs.NewItems.{HasWhole, new_of}
use Rattle.fm_law_woven_flow.proofs.Reached.{after_holder, begin_role, item_reached, keep-same, owner_reached}
use Rattle.fm_law_woven_flow.proofs.RoleLists.{element_at, entry_at, InAfter, InBefore, InStart, is_here, IsKept, kept_role, next_anchor, stands_at, StandsAt}
use Rattle.fm_law_woven_flow.specs.Laws.{CodesStand}
use Rattle.fm_law_woven_flow.specs.Roles.{CanStand, FallsAt, IsOwnerReached, Keep, owner, Role, StandsFor}
use Rattle.fm_law_woven_flow.specs.inner.RolesOf.{kept_new, moved_by, new_roles, number_of, roles_of}

-- ---- the items that are kept

pub number_inside : (calls : Calls) (old : Code) (plan : Insertions) (j : ℕ) → j < length old.items
    → number_of calls old plan j ≡ first_of calls old plan (kept_new old plan j)
unfolding number_of
number_inside calls old plan j inside =
    ap (λ b. if b then first_of calls old plan (kept_new old plan j) else item_total calls old plan + j) (lt-ltb j (length old.items) inside)

number_past : (calls : Calls) (old : Code) (plan : Insertions) (j : ℕ) → length old.items ≤ j → number_of calls old plan j ≡ item_total calls old plan + j
unfolding number_of
number_past calls old plan j past =
    ap (λ b. if b then first_of calls old plan (kept_new old plan j) else item_total calls old plan + j) (le-ltb j (length old.items) past)

numbered : (calls : Calls) (old : Code) (plan : Insertions) (j : ℕ) → j < length old.items
    → slice_get (roles_of calls old plan) (number_of calls old plan j) ≡ Some (Keep j)
numbered calls old plan j inside =
    ap (λ n. slice_get (roles_of calls old plan) n) (number_inside calls old plan j inside)
    ∙ (lays calls old plan).first (kept_new old plan j) (Keep j) (kept_role old plan j inside)

kept-once : (calls : Calls) (old : Code) (plan : Insertions) (n k j : ℕ) → n ≡ first_of calls old plan k → StandsAt old plan k (Keep j) → n ≡ number_of calls old plan j
kept-once calls old plan n k j same (InStart less is) = absurd (false≢true (ap is_here (sym is.phase_is)))
kept-once calls old plan n k j same (InBefore i inside low high is) = absurd (false≢true (ap is_here (sym is.phase_is)))
kept-once calls old plan n k j same (IsKept i inside at is) =
    let number = number_inside calls old plan i inside in
    same ∙ ap (λ m. first_of calls old plan m) at ∙ sym number ∙ ap (λ m. number_of calls old plan m) (sym (keep-same j i is))
kept-once calls old plan n k j same (InAfter i inside low high is) = absurd (false≢true (ap is_here (sym is.phase_is)))

kept_once : (calls : Calls) (old : Code) (plan : Insertions) (n j : ℕ) → slice_get (roles_of calls old plan) n ≡ Some (Keep j) → n ≡ number_of calls old plan j
kept_once calls old plan n j found = go (laid_item calls old plan n (Keep j) found) where
  go : LaidItem calls old plan n (Keep j) → n ≡ number_of calls old plan j
  go (Whole k same there way) = kept-once calls old plan n k j same (stands_at old plan k (Keep j) there)
  go (Test k same there way split) = kept-once calls old plan n k j same (stands_at old plan k (Keep j) there)
  go (Jump k kept same there way split is) = cc

beyond : (calls : Calls) (old : Code) (plan : Insertions) (j : ℕ) → length old.items ≤ j → item_total calls old plan ≤ number_of calls old plan j
beyond calls old plan j past = let number = number_past calls old plan j past in omega (arith, number)

number_below : (calls : Calls) (old : Code) (plan : Insertions) (j : ℕ) → j < length old.items → number_of calls old plan j < item_total calls old plan
number_below calls old plan j inside =
    let each = (lays calls old plan).one_each in
    let within = slice_get_within (roles_of calls old plan) (number_of calls old plan j) (Keep j) (numbered calls old plan j inside) in
    omega (arith, each, within)

-- two items have one number only where they are the same
one_number : (calls : Calls) (old : Code) (plan : Insertions) (i j : ℕ) → number_of calls old plan i ≡ number_of calls old plan j → i ≡ j
one_number calls old plan i j same = go (cases_lt i (length old.items)) (cases_lt j (length old.items)) where
  go : (i < length old.items) ⊎ (length old.items ≤ i) → (j < length old.items) ⊎ (length old.items ≤ j) → i ≡ j
  go (inl here) (inl there) =
      keep-same i j (same_Some _ _ (sym (numbered calls old plan i here) ∙ ap (λ n. slice_get (roles_of calls old plan) n) same ∙ numbered calls old plan j there))
  go (inl here) (inr past) =
      let low = number_below calls old plan i here in
      let high = beyond calls old plan j past in
      absurd (omega (arith, same, low, high))
  go (inr past) (inl there) =
      let low = number_below calls old plan j there in
      let high = beyond calls old plan i past in
      absurd (omega (arith, same, low, high))
  go (inr here) (inr there) =
      let first = number_past calls old plan i here in
      let second = number_past calls old plan j there in
      omega (arith, same, first, second)

apart : (calls : Calls) (old : Code) (plan : Insertions) (i j : ℕ) → (number_of calls old plan i == number_of calls old plan j) ≡ (i == j)
apart calls old plan i j = go (cases_eq i j) where
  go : (i ≡ j) ⊎ (i ≢ j) → (number_of calls old plan i == number_of calls old plan j) ≡ (i == j)
  go (inl same) = eq-eqb (number_of calls old plan i) (number_of calls old plan j) (ap (λ n. number_of calls old plan n) same) ∙ sym (eq-eqb i j same)
  go (inr other) =
      ne_eqb (number_of calls old plan i) (number_of calls old plan j) (λ same. other (one_number calls old plan i j same)) ∙ sym (ne_eqb i j other)

-- ---- the end of the code

-- the last new item is of the last old one
last_item : (old : Code) (plan : Insertions) (j : ℕ) → j < length old.items → length (new_roles old plan) ≤ slice_index (anchors_of plan old.items) (suc j)
    → j + 1 ≡ length old.items
last_item old plan j inside all = go (cases_lt (suc j) (length old.items)) where
  go : (suc j < length old.items) ⊎ (length old.items ≤ suc j) → j + 1 ≡ length old.items
  go (inl less) =
      let entry = entry_at old plan (suc j) less in
      let within = slice_get_within (new_roles old plan) (slice_index (anchors_of plan old.items) (suc j)) entry.0 entry.1 in
      absurd (omega arith)
  go (inr more) = omega arith

last_falls : (calls : Calls) (old : Code) (plan : Insertions) → MeetsCodeRules old → CanStand old plan → (k : ℕ) (r : Role) → slice_get (new_roles old plan) k ≡ Some r
    → suc k ≡ length (new_roles old plan) → IsOwnerReached old (owner r)
    → ((j : ℕ) → r ≡ Keep j → FallsAt old j) → StandsAt old plan k r → FallsOff old
last_falls calls old plan rules can k r found last reached falls (InStart less is) =
    let some = (items_counted old rules).0 in
    let entry = entry_at old plan 0 some in
    let within = slice_get_within (new_roles old plan) (slice_index (anchors_of plan old.items) 0) entry.0 entry.1 in
    absurd (omega arith)
last_falls calls old plan rules can k r found last reached falls (InBefore j inside low high is) =
    let within = slice_get_within (new_roles old plan) (kept_new old plan j) (Keep j) (kept_role old plan j inside) in
    absurd (omega arith)
last_falls calls old plan rules can k r found last reached falls (IsKept j inside at is) =
    let next = next_anchor old plan j inside in
    record {
      item = j;
      reachable = subst (λ x. IsOwnerReached old (owner x)) is reached;
      last = last_item old plan j inside (omega (arith, next));
      falls = falls j is;
    }
last_falls calls old plan rules can k r found last reached falls (InAfter j inside low high is) = record {
  item = j;
  reachable = subst (λ o. IsOwnerReached old o) is.owner_is reached;
  last = last_item old plan j inside (omega arith);
  falls = after_holder old plan can j r is (new_of calls old plan k r found).is_for.holder;
}

-- what the last laid item is
last_new : (calls : Calls) (old : Code) (plan : Insertions) (k : ℕ) → k < length (new_roles old plan) → item_total calls old plan ≤ first_of calls old plan (suc k)
    → suc k ≡ length (new_roles old plan)
last_new calls old plan k inside all = go (cases_lt (suc k) (length (new_roles old plan))) where
  go : (suc k < length (new_roles old plan)) ⊎ (length (new_roles old plan) ≤ suc k) → suc k ≡ length (new_roles old plan)
  go (inl less) =
      let lay = lays calls old plan in
      let up = lay.rise (suc k) (length (new_roles old plan)) less (omega arith) in
      let end = lay.end in
      absurd (omega (arith, up, end))
  go (inr more) = omega arith

-- an old item falls through where the laid one does
kept_falls : (calls : Calls) (old : Code) (plan : Insertions) (j k : ℕ) (r : Role)
    → IsSomeAnd (laid_insn calls old plan (first_of calls old plan k)) (λ i. falls_through i ≡ true) → r ≡ Keep j → slice_get (new_roles old plan) k ≡ Some r
    → is_split_of calls old plan k ≡ false → FallsAt old j
kept_falls calls old plan j k r falls is found way =
    let whole = subst (λ x. IsSomeAnd (laid_insn calls old plan (first_of calls old plan k)) (HasWhole calls old plan (goes_to calls old plan) x)) is
    (whole_insn calls old plan k r found way) in
    let both = both-some (HasWhole calls old plan (goes_to calls old plan) (Keep j)) (λ i. falls_through i ≡ true) (laid_insn calls old plan (first_of calls old plan k))
    whole falls in
    falls-kept (goes_to calls old plan) both.0 (insn_of old j) both.1 both.2

stays_inside : (calls : Calls) (old : Code) (plan : Insertions) → MeetsCodeRules old → CanStand old plan → FallsOff (chained_code calls old plan) → FallsOff old
stays_inside calls old plan rules can off =
    let n = off.item in
    let lay = lays calls old plan in
    let each = lay.one_each in
    let last : n + 1 ≡ item_total calls old plan = off.last in
    let role = element_at (roles_of calls old plan) n (omega (arith, each)) in
    go n role.0 last off.falls (owner_reached calls old plan rules can n off.reachable role.0 role.1) (laid_item calls old plan n role.0 role.1) where
      go : (n : ℕ) (r : Role) → n + 1 ≡ item_total calls old plan → IsSomeAnd (laid_insn calls old plan n) (λ i. falls_through i ≡ true)
          → IsOwnerReached old (owner r) → LaidItem calls old plan n r → FallsOff old
      go n r last falls reached (Whole k same there way) =
          let within = slice_get_within (new_roles old plan) k r there in
          let step : first_of calls old plan (suc k) ≡ first_of calls old plan k + 1 = (lays calls old plan).step k within ∙ ap (λ b. first_of calls old plan k + width b) way in
          last_falls calls old plan rules can k r there (last_new calls old plan k within (omega (arith, step))) reached
          (λ j is. kept_falls calls old plan j k r (subst (λ m. IsSomeAnd (laid_insn calls old plan m) (λ i. falls_through i ≡ true)) same falls) is there way)
          (stands_at old plan k r there)
      go n r last falls reached (Test k same there way split) =
          let within = slice_get_within (new_roles old plan) k r there in
          let step = split_step calls old plan k within way in
          let up = first_le calls old plan (suc k) (length (new_roles old plan)) (omega arith) (omega arith) in
          let end = (lays calls old plan).end in
          absurd (omega (arith, step, up, end))
      go n r last falls reached (Jump k kept same there way split is) =
          absurd (false≢true (subst (λ o. IsSomeAnd o (λ i. falls_through i ≡ true)) split.jump
          (subst (λ m. IsSomeAnd (laid_insn calls old plan m) (λ i. falls_through i ≡ true)) same falls)))

-- ---- together

pub code_stands : (calls : Calls) (old : Code) (plan : Insertions) → MeetsCodeRules old → CanStand old plan
    → StandsFor calls old plan (chained_code calls old plan) (roles_of calls old plan) (number_of calls old plan) (moved_by calls old plan)
code_stands calls old plan rules can = record {
  one_each = (lays calls old plan).one_each;
  insns = insns calls old plan;
  holders = holders calls old plan;
  edges = follow_edge calls old plan rules;
  handlers_are = refl;
  catch_class = λ h. refl;
  caught = caught calls old plan rules;
  reached = λ n r found. (λ new. owner_reached calls old plan rules can n new r found, λ was. item_reached calls old plan rules can n r found was);
  stays_inside = λ stays off. stays (stays_inside calls old plan rules can off);
  first = begin_role calls old plan can;
  numbered = numbered calls old plan;
  kept_once = kept_once calls old plan;
  beyond = beyond calls old plan;
  apart = apart calls old plan;
}

pub codes_stand : CodesStand
codes_stand calls old plan rules can = record {
  roles = roles_of calls old plan;
  numbers = number_of calls old plan;
  moved = moved_by calls old plan;
  stands = code_stands calls old plan rules can;
}
