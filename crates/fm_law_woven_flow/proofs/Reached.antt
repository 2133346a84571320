-- What is reached in the new code is what was reached in the old one.
use Rattle.std.proofs.Common.{◌≡◌, ℕ, zero, suc, ◌+◌, ◌-◌, ◌<◌, ◌≤◌, ◌⊎◌, inl, inr, Bool, true, false, List, [], ◌∷◌, ◌++◌, length, Option, Some, None, Contains, IsSomeAnd, refl, sym, ap, subst, ◌∙◌, arith, if◌then◌else◌}
use Rattle.std.specs.Prelude.{slice_get, slice_index}
use Rattle.std.proofs.lemmas.Bool.{cases_lt, false≢true, lt-ltb}
use Rattle.std.proofs.lemmas.Option.{same_Some, slice_get_within}
use Rattle.fm_chain.specs.declared.calls.Calls.{Calls}
use Rattle.fm_code.proofs.EdgesLemmas.{Contains-first, Contains-from_map, Contains-map}
use Rattle.fm_code.specs.Edges.{Catches, falls_through, insn_of, IsEdge, IsFlowPath, IsHandlerEdge, IsReachable, LeadsTo, MeetsCodeRules}
use Rattle.fm_code.specs.SpellsCode.{targets_of, with_targets}
use Rattle.fm_code.specs.declared.code_array.Code.{Code}
use Rattle.fm_code.specs.declared.code_array.Handler.{Handler}
use Rattle.fm_code.specs.declared.instructions.Insn.{Insn}
use Rattle.fm_conn.proofs.ListLemmas.{Contains-one}
use Rattle.fm_flow.proofs.ReachLemmas.{edge_from_item, IsFlowPath-more}
use Rattle.fm_layout.proofs.TablesLemmas.{below_total}
use Rattle.fm_layout.specs.Spelling.{conditional, opposite}
use Rattle.fm_place.proofs.WovenLemmas.{targets-of-with}
use Rattle.fm_place.specs.Insertions.{Insertions}
use Rattle.fm_chain.specs.Chained.{anchors_of, chained, chained_code, looped_at}
use Rattle.fm_law_woven_flow.proofs.Caught.{anchor_inside, caught, first_le, goes_le, goes_up, handler_valid}
use Rattle.fm_law_woven_flow.proofs.FollowsOn.{follow_edge, split_step}
use Rattle.fm_law_woven_flow.proofs.LaidItems.{falls-conditional, falls-with, first_of, goes_to, holders, laid_insn, is_split_of, item_total, Jump, laid_item, LaidItem, lays, some-more, split_insn, SplitAt, targets-conditional, Test, Whole, whole_insn}
use Rattle.fm_law_woven_flow.proofs.LaidRoles.{width}
use Rattle.fm_law_woven_flow.proofs.NewItems.{HasWhole, new_count, new_of}
use Rattle.fm_law_woven_flow.proofs.RoleLists.{After, AtStart, Before, Behind, element_at, entry_at, first_role, Here, InAfter, InBefore, InStart, is_after, IsKept, IsOf, kept_role, next_anchor, phase, Phase, role_after, role_before, role_start, stands_at, StandsAt}
use Rattle.fm_law_woven_flow.specs.Roles.{behind_dup, CanStand, DupAfter, FallsAt, Follows, FreeBefore, GoesOn, GoesTo, HasHolder, IsEntry, IsOwnerReached, JumpOf, Keep, LinkAfter, LoadAfter, LoadBefore, NullBefore, owner, Role, StartNull, StartStore, StoreAfter, StoreBefore}
use Rattle.fm_law_woven_flow.specs.inner.RolesOf.{kept_new, moved_by, new_roles, roles_of}

-- an edge further is reached
pub reachable-more : (code : Code) (j next : ℕ) → IsReachable code j → IsEdge code j next → IsReachable code next
reachable-more code j next (path, leads) edge = (path ++ next ∷ [], IsFlowPath-more code 0 path j next leads edge)

-- ---- from the new code to the old one

-- the entry of a reached item
entry_reached : (old : Code) (t : ℕ) (to : Role) → IsReachable old t → IsEntry old t to → IsOwnerReached old (owner to)
entry_reached old t to reached (inside, inl (h, same)) = subst (λ x. IsOwnerReached old (owner x)) (sym same) reached
entry_reached old t to reached (inside, inr same) = subst (λ x. IsOwnerReached old (owner x)) (sym same) reached

-- a target of a reached item
target_reached : (old : Code) (j : ℕ) (to : Role) → IsReachable old j → GoesTo old j to → IsOwnerReached old (owner to)
target_reached old j to reached goes = by (insn_of old j) refl goes where
  by : (o : Option Insn) → insn_of old j ≡ o → IsSomeAnd o (λ i. (t : ℕ) × (Contains (targets_of i) t) × IsEntry old t to) → IsOwnerReached old (owner to)
  by None there goes = absurd goes
  by (Some i) there (t, named, entry) =
      entry_reached old t to
      (reachable-more old j t reached (inl (record { inside = entry.0; leads = subst (λ o. IsSomeAnd o (λ x. LeadsTo x j t)) (sym there) (inl named) }))) entry

-- what follows a reached item that goes on
onward_reached : (old : Code) (j : ℕ) (to : Role) → FallsAt old j → IsReachable old j → GoesOn old j to → IsOwnerReached old (owner to)
onward_reached old j to falls reached (inl (h, same)) = subst (λ x. IsOwnerReached old (owner x)) (sym same) reached
onward_reached old j to falls reached (inr entry) =
    entry_reached old (j + 1) to
    (reachable-more old j (j + 1) reached (inl (record { inside = entry.0; leads = by (insn_of old j) falls }))) entry where
      by : (o : Option Insn) → IsSomeAnd o (λ i. falls_through i ≡ true) → IsSomeAnd o (λ i. LeadsTo i j (j + 1))
      by None falls = absurd falls
      by (Some i) falls = inr (falls, refl)

-- what follows a dup is inserted after the same item
behind_owner : (looped : Bool) (j h : ℕ) → owner (behind_dup looped j h) ≡ Some j
behind_owner true j h = refl
behind_owner false j h = refl

follows_reached : (old : Code) (plan : Insertions) → CanStand old plan → (from to : Role) → HasHolder plan from → Follows old plan from to
    → IsOwnerReached old (owner from) → IsOwnerReached old (owner to)
follows_reached old plan can (StartNull h) to holder same reached = subst (λ x. IsOwnerReached old (owner x)) (sym same) tt
follows_reached old plan can (StartStore h) to holder (inl same) reached = subst (λ x. IsOwnerReached old (owner x)) (sym same) tt
follows_reached old plan can (StartStore h) to holder (inr (all, entry)) reached = entry_reached old 0 to ([], refl) entry
follows_reached old plan can (LoadBefore j h) to holder same reached = subst (λ x. IsOwnerReached old (owner x)) (sym same) reached
follows_reached old plan can (FreeBefore j h) to holder same reached = subst (λ x. IsOwnerReached old (owner x)) (sym same) reached
follows_reached old plan can (NullBefore j h) to holder same reached = subst (λ x. IsOwnerReached old (owner x)) (sym same) reached
follows_reached old plan can (StoreBefore j h) to holder entry reached = entry_reached old j to reached entry
follows_reached old plan can (Keep j) to holder (inl goes) reached = target_reached old j to reached goes
follows_reached old plan can (Keep j) to holder (inr (inl same)) reached = subst (λ x. IsOwnerReached old (owner x)) (sym same) reached
follows_reached old plan can (Keep j) to holder (inr (inr (falls, goes))) reached = onward_reached old j to falls reached goes
follows_reached old plan can (JumpOf j) to holder goes reached = target_reached old j to reached goes
follows_reached old plan can (DupAfter j h) to holder same reached =
    subst (λ x. IsOwnerReached old (owner x)) (sym same) (subst (IsOwnerReached old) (sym (behind_owner (looped_at plan h) j h)) reached)
follows_reached old plan can (LoadAfter j h) to holder same reached = subst (λ x. IsOwnerReached old (owner x)) (sym same) reached
follows_reached old plan can (LinkAfter j h) to holder same reached = subst (λ x. IsOwnerReached old (owner x)) (sym same) reached
follows_reached old plan can (StoreAfter j h) to holder goes reached = onward_reached old j to (can.goes_on j h holder) reached goes

-- what a laid item's role says is reached
abbrev IsHereReached : (calls : Calls) → Code → Insertions → ℕ → Type 0
IsHereReached calls old plan n = (r : Role) → slice_get (roles_of calls old plan) n ≡ Some r → IsOwnerReached old (owner r)

-- an old item that throws to a handler
caught_reached : (old : Code) (rules : MeetsCodeRules old) (o : Option ℕ) (h : Handler) (to : Role) → Contains old.handlers h
    → IsSomeAnd o (λ j. Catches j h.handler h) → IsOwnerReached old o → IsEntry old h.handler to → IsOwnerReached old (owner to)
caught_reached old rules None h to listed catches reached entry = absurd catches
caught_reached old rules (Some j) h to listed catches reached entry =
    let valid = handler_valid old rules h listed in
    let end = valid.end in
    let before = catches.before_end in
    entry_reached old h.handler to
    (reachable-more old j h.handler reached
    (inr (record { inside = entry.0; from_item = omega arith; caught = (listed.0, h, listed.1, listed.2, catches) }))) entry

-- along an edge
edge_reached : (calls : Calls) (old : Code) (plan : Insertions) → MeetsCodeRules old → CanStand old plan → (n next : ℕ) → IsEdge (chained_code calls old plan) n next
    → IsHereReached calls old plan n → IsHereReached calls old plan next
edge_reached calls old plan rules can n next (inl edge) reached r there =
    let follow = follow_edge calls old plan rules n next edge in
    let same : follow.to ≡ r = same_Some _ _ (sym follow.to_is ∙ there) in
    subst (λ x. IsOwnerReached old (owner x)) same
    (follows_reached old plan can follow.from follow.to (holders calls old plan n follow.from follow.from_is) follow.follows (reached follow.from follow.from_is))
edge_reached calls old plan rules can n next (inr edge) reached r there =
    let any = edge.caught in
    let moved = any.1 in
    let catches = any.4 in
    let was = Contains-from_map (moved_by calls old plan) old.handlers moved (any.0, any.2, any.3) in
    let h = was.0 in
    let same : moved_by calls old plan h ≡ moved = was.2 in
    let each = (lays calls old plan).one_each in
    let role = element_at (roles_of calls old plan) n (let inside : n < item_total calls old plan = edge.from_item in omega (arith, each)) in
    let own : Catches n (moved_by calls old plan h).handler (moved_by calls old plan h) =
    subst (λ (m : Handler). Catches n m.handler m) (sym same)
    (record { after_start = catches.after_start; before_end = catches.before_end; handler_is = refl }) in
    let is = caught calls old plan rules n role.0 h role.1 was.1 own in
    let goal : (moved_by calls old plan h).handler ≡ next = ap (λ (m : Handler). m.handler) same ∙ catches.handler_is in
    let to : is.to ≡ r = same_Some _ _ (sym is.to_is ∙ ap (λ m. slice_get (roles_of calls old plan) m) goal ∙ there) in
    subst (λ x. IsOwnerReached old (owner x)) to
    (caught_reached old rules (owner role.0) h is.to was.1 is.caught (reached role.0 role.1) is.entered)

path_reached : (calls : Calls) (old : Code) (plan : Insertions) → MeetsCodeRules old → CanStand old plan → (path : List ℕ) (a n : ℕ)
    → IsFlowPath (chained_code calls old plan) a path n → IsHereReached calls old plan a → IsHereReached calls old plan n
path_reached calls old plan rules can [] a n same reached = subst (λ m. IsHereReached calls old plan m) same reached
path_reached calls old plan rules can (next ∷ path) a n leads reached =
    path_reached calls old plan rules can path next n leads.1 (edge_reached calls old plan rules can a next leads.0 reached)

-- the first item has the role of the start
pub begin_role : (calls : Calls) (old : Code) (plan : Insertions) → CanStand old plan → slice_get (roles_of calls old plan) 0 ≡ Some (StartNull 0)
begin_role calls old plan can =
    let lay = lays calls old plan in
    ap (λ n. slice_get (roles_of calls old plan) n) (sym lay.begin) ∙ lay.first 0 (StartNull 0) (first_role old plan can.some)

-- where a laid item is reached, so is its old item
pub owner_reached : (calls : Calls) (old : Code) (plan : Insertions) → MeetsCodeRules old → CanStand old plan → (n : ℕ) → IsReachable (chained_code calls old plan) n
    → IsHereReached calls old plan n
owner_reached calls old plan rules can n (path, leads) =
    path_reached calls old plan rules can path 0 n leads
    (λ r there. subst (λ x. IsOwnerReached old (owner x)) (same_Some _ _ (sym (begin_role calls old plan can) ∙ there)) tt)

-- ---- from the old code to the new one

-- control goes on after an item of this role
abbrev GoesPast : Code → Role → Type 0
GoesPast old (Keep j) = FallsAt old j
GoesPast old (JumpOf j) = ⊥
GoesPast old r = Unit {0}

past-inserted : (old : Code) (r : Role) (p : Phase) → phase r ≡ p → (p ≡ Here → ⊥) → (p ≡ Behind → ⊥) → GoesPast old r
past-inserted old (Keep j) p is here behind = absurd (here (sym is))
past-inserted old (JumpOf j) p is here behind = absurd (behind (sym is))
past-inserted old r p is here behind = tt

past-start : (old : Code) (r : Role) (o : Option ℕ) → IsOf AtStart o r → GoesPast old r
past-start old r o is = past-inserted old r AtStart is.phase_is (λ e. cc) (λ e. cc)

past-before : (old : Code) (r : Role) (o : Option ℕ) → IsOf Before o r → GoesPast old r
past-before old r o is = past-inserted old r Before is.phase_is (λ e. cc) (λ e. cc)

past-after : (old : Code) (r : Role) (o : Option ℕ) → IsOf After o r → GoesPast old r
past-after old r o is = past-inserted old r After is.phase_is (λ e. cc) (λ e. cc)

falls-back : (goes : ℕ → ℕ) (i : Insn) (o : Option Insn) → IsSomeAnd o (λ was. i ≡ with_targets goes was) → IsSomeAnd o (λ was. falls_through was ≡ true)
    → falls_through i ≡ true
falls-back goes i None whole falls = absurd whole
falls-back goes i (Some was) whole falls = ap falls_through whole ∙ falls-with goes was ∙ falls

whole_past : (calls : Calls) (old : Code) (plan : Insertions) (goes : ℕ → ℕ) (r : Role) (i : Insn) → HasWhole calls old plan goes r i → GoesPast old r → falls_through i ≡ true
whole_past calls old plan goes (StartNull h) i whole past = ap falls_through whole
whole_past calls old plan goes (StartStore h) i whole past = ap falls_through whole
whole_past calls old plan goes (LoadBefore j h) i whole past = ap falls_through whole
whole_past calls old plan goes (FreeBefore j h) i whole past = ap falls_through whole
whole_past calls old plan goes (NullBefore j h) i whole past = ap falls_through whole
whole_past calls old plan goes (StoreBefore j h) i whole past = ap falls_through whole
whole_past calls old plan goes (Keep j) i whole past = falls-back goes i (insn_of old j) whole past
whole_past calls old plan goes (JumpOf j) i whole past = absurd whole
whole_past calls old plan goes (DupAfter j h) i whole past = ap falls_through whole
whole_past calls old plan goes (LoadAfter j h) i whole past = ap falls_through whole
whole_past calls old plan goes (LinkAfter j h) i whole past = ap falls_through whole
whole_past calls old plan goes (StoreAfter j h) i whole past = ap falls_through whole

-- the first laid item of a new one is one
first_inside : (calls : Calls) (old : Code) (plan : Insertions) (k : ℕ) → k < length (new_roles old plan) → first_of calls old plan k < item_total calls old plan
first_inside calls old plan k inside =
    let lay = lays calls old plan in
    let up = lay.rise k (length (new_roles old plan)) inside (omega arith) in
    let end = lay.end in
    omega (arith, up, end)

-- from a new item to the next one
step_past : (calls : Calls) (old : Code) (plan : Insertions) (k : ℕ) (r : Role) (b : Bool) → is_split_of calls old plan k ≡ b → slice_get (new_roles old plan) k ≡ Some r
    → GoesPast old r → suc k < length (new_roles old plan) → IsReachable (chained_code calls old plan) (first_of calls old plan k)
    → IsReachable (chained_code calls old plan) (first_of calls old plan (suc k))
step_past calls old plan k r false way found past more reached =
    let within : k < length (new_roles old plan) = omega arith in
    let step = (lays calls old plan).step k within ∙ ap (λ b. first_of calls old plan k + width b) way in
    reachable-more (chained_code calls old plan) (first_of calls old plan k) (first_of calls old plan (suc k)) reached
    (inl (record {
      inside = first_inside calls old plan (suc k) more;
      leads = some-more (HasWhole calls old plan (goes_to calls old plan) r) (λ i. LeadsTo i (first_of calls old plan k) (first_of calls old plan (suc k)))
          (λ i whole. inr (whole_past calls old plan (goes_to calls old plan) r i whole past, step)) (laid_insn calls old plan (first_of calls old plan k))
          (whole_insn calls old plan k r found way);
    }))
step_past calls old plan k r true way found past more reached =
    let within : k < length (new_roles old plan) = omega arith in
    let step = split_step calls old plan k within way in
    let split = split_insn calls old plan k r found way in
    let count = new_count calls old plan in
    let follows = lt-ltb (k + 1) (length (chained calls old plan)) (omega (arith, count)) in
    let other : split.other ≡ first_of calls old plan (suc k) =
    split.other_is ∙ ap (λ b. if b then first_of calls old plan k + 2 else first_of calls old plan k + 1) follows ∙ sym step in
    let named : Contains (targets_of (conditional (opposite split.condition) split.other)) (first_of calls old plan (suc k)) =
    subst (λ xs. Contains xs (first_of calls old plan (suc k))) (sym (targets-conditional (opposite split.condition) split.other))
    (Contains-first split.other [] (first_of calls old plan (suc k)) (sym other)) in
    reachable-more (chained_code calls old plan) (first_of calls old plan k) (first_of calls old plan (suc k)) reached
    (inl (record {
      inside = first_inside calls old plan (suc k) more;
      leads = subst (λ o. IsSomeAnd o (λ i. LeadsTo i (first_of calls old plan k) (first_of calls old plan (suc k)))) (sym split.test) (inl named);
    }))

-- over new items after each of which control goes on
run_past : (calls : Calls) (old : Code) (plan : Insertions) (k count : ℕ)
    → ((m : ℕ) (r : Role) → k ≤ m → m < k + count → slice_get (new_roles old plan) m ≡ Some r → GoesPast old r) → k + count < length (new_roles old plan)
    → IsReachable (chained_code calls old plan) (first_of calls old plan k) → IsReachable (chained_code calls old plan) (first_of calls old plan (k + count))
run_past calls old plan k zero each inside reached =
    let same : k ≡ k + 0 = omega arith in
    subst (λ m. IsReachable (chained_code calls old plan) (first_of calls old plan m)) same reached
run_past calls old plan k (suc count) each inside reached =
    let before = run_past calls old plan k count (λ m r low high found. each m r low (omega arith) found) (omega arith) reached in
    let role = element_at (new_roles old plan) (k + count) (omega arith) in
    let same : suc (k + count) ≡ k + suc count = omega arith in
    subst (λ m. IsReachable (chained_code calls old plan) (first_of calls old plan m)) same
    (step_past calls old plan (k + count) role.0 (is_split_of calls old plan (k + count)) refl role.1
    (each (k + count) role.0 (omega arith) (omega arith) role.1) (omega arith) before)

run_to : (calls : Calls) (old : Code) (plan : Insertions) (k l : ℕ) → k ≤ l
    → ((m : ℕ) (r : Role) → k ≤ m → m < l → slice_get (new_roles old plan) m ≡ Some r → GoesPast old r) → l < length (new_roles old plan)
    → IsReachable (chained_code calls old plan) (first_of calls old plan k) → IsReachable (chained_code calls old plan) (first_of calls old plan l)
run_to calls old plan k l le each inside reached =
    let count = l - k in
    let same : k + count ≡ l = omega arith in
    subst (λ m. IsReachable (chained_code calls old plan) (first_of calls old plan m)) same
    (run_past calls old plan k count (λ m r low high found. each m r low (omega arith) found) (omega arith) reached)

-- the start, and the anchor behind it
start_reached : (calls : Calls) (old : Code) (plan : Insertions) (k : ℕ) → k ≤ slice_index (anchors_of plan old.items) 0 → k < length (new_roles old plan)
    → IsReachable (chained_code calls old plan) (first_of calls old plan k)
start_reached calls old plan k le inside =
    run_to calls old plan 0 k (omega arith) (λ m r low high found. past-start old r None (role_start old plan m r (omega arith) found)) inside
    ([], sym (lays calls old plan).begin)

-- from an anchor to the item and what comes before it
before_reached : (calls : Calls) (old : Code) (plan : Insertions) (j k : ℕ) → j < length old.items → slice_index (anchors_of plan old.items) j ≤ k
    → k ≤ kept_new old plan j → IsReachable (chained_code calls old plan) (goes_to calls old plan j) → IsReachable (chained_code calls old plan) (first_of calls old plan k)
before_reached calls old plan j k inside low high reached =
    let kept = slice_get_within (new_roles old plan) (kept_new old plan j) (Keep j) (kept_role old plan j inside) in
    run_to calls old plan (slice_index (anchors_of plan old.items) j) k low
    (λ m r from to found. past-before old r (Some j) (role_before old plan j m r inside from (omega arith) found)) (omega arith) reached

-- and from the item that goes on to what comes after it, and to the next anchor
after_reached : (calls : Calls) (old : Code) (plan : Insertions) (j k : ℕ) → j < length old.items → FallsAt old j → kept_new old plan j ≤ k
    → k ≤ slice_index (anchors_of plan old.items) (suc j) → k < length (new_roles old plan)
    → IsReachable (chained_code calls old plan) (first_of calls old plan (kept_new old plan j)) → IsReachable (chained_code calls old plan) (first_of calls old plan k)
after_reached calls old plan j k inside falls low high within reached =
    run_to calls old plan (kept_new old plan j) k low (λ m r from to found. each m r from to found (cases_lt (kept_new old plan j) m)) within reached where
      each : (m : ℕ) (r : Role) → kept_new old plan j ≤ m → m < k → slice_get (new_roles old plan) m ≡ Some r
          → (kept_new old plan j < m) ⊎ (m ≤ kept_new old plan j) → GoesPast old r
      each m r from to found (inl more) = past-after old r (Some j) (role_after old plan j m r inside more (omega arith) found)
      each m r from to found (inr le) =
          let same : kept_new old plan j ≡ m = omega arith in
          let is : Keep j ≡ r = same_Some _ _ (sym (kept_role old plan j inside) ∙ ap (λ n. slice_get (new_roles old plan) n) same ∙ found) in
          subst (λ x. GoesPast old x) is falls

-- an item that is kept is reached from its anchor
kept_reached : (calls : Calls) (old : Code) (plan : Insertions) (j : ℕ) → j < length old.items → IsReachable (chained_code calls old plan) (goes_to calls old plan j)
    → IsReachable (chained_code calls old plan) (first_of calls old plan (kept_new old plan j))
kept_reached calls old plan j inside reached = before_reached calls old plan j (kept_new old plan j) inside (omega arith) (omega arith) reached

-- the goto_w behind an opposite test
jump_reached : (calls : Calls) (old : Code) (plan : Insertions) (k : ℕ) (r : Role) → slice_get (new_roles old plan) k ≡ Some r → is_split_of calls old plan k ≡ true
    → (split : SplitAt calls old plan k r) → IsReachable (chained_code calls old plan) (first_of calls old plan k)
    → IsReachable (chained_code calls old plan) (first_of calls old plan k + 1)
jump_reached calls old plan k r found way split reached =
    let within = slice_get_within (new_roles old plan) k r found in
    let step = split_step calls old plan k within way in
    let up = first_le calls old plan (suc k) (length (new_roles old plan)) (omega arith) (omega arith) in
    let end = (lays calls old plan).end in
    reachable-more (chained_code calls old plan) (first_of calls old plan k) (first_of calls old plan k + 1) reached
    (inl (record {
      inside = omega (arith, step, up, end);
      leads = subst (λ o. IsSomeAnd o (λ i. LeadsTo i (first_of calls old plan k) (first_of calls old plan k + 1))) (sym split.test)
          (inr (falls-conditional (opposite split.condition) split.other, refl));
    }))

-- ---- along the old edges

pub keep-same : (i j : ℕ) → Keep i ≡ Keep j → i ≡ j
keep-same i j same = cc

-- to a target
target_from : (calls : Calls) (old : Code) (plan : Insertions) (j next : ℕ) (i : Insn) (b : Bool) → is_split_of calls old plan (kept_new old plan j) ≡ b
    → j < length old.items → insn_of old j ≡ Some i → Contains (targets_of i) next → next < length old.items
    → IsReachable (chained_code calls old plan) (first_of calls old plan (kept_new old plan j)) → IsReachable (chained_code calls old plan) (goes_to calls old plan next)
target_from calls old plan j next i false way inside there named within reached =
    let k = kept_new old plan j in
    let up = below_total (goes_to calls old plan) (length old.items) (item_total calls old plan) (goes_up calls old plan) next within in
    let whole = whole_insn calls old plan k (Keep j) (kept_role old plan j inside) way in
    reachable-more (chained_code calls old plan) (first_of calls old plan k) (goes_to calls old plan next) reached
    (inl (record {
      inside = up;
      leads = some-more (HasWhole calls old plan (goes_to calls old plan) (Keep j)) (λ x. LeadsTo x (first_of calls old plan k) (goes_to calls old plan next))
          (λ x is. inl (leads x (subst (λ o. IsSomeAnd o (λ was. x ≡ with_targets (goes_to calls old plan) was)) there is)))
          (laid_insn calls old plan (first_of calls old plan k)) whole;
    })) where
      leads : (x : Insn) → x ≡ with_targets (goes_to calls old plan) i → Contains (targets_of x) (goes_to calls old plan next)
      leads x is =
          subst (λ xs. Contains xs (goes_to calls old plan next)) (sym (ap targets_of is ∙ targets-of-with (goes_to calls old plan) i))
          (Contains-map (goes_to calls old plan) (targets_of i) next named)
target_from calls old plan j next i true way inside there named within reached =
    let k = kept_new old plan j in
    let found = kept_role old plan j inside in
    let split = split_insn calls old plan k (Keep j) found way in
    let same = keep-same j split.item split.is in
    let is : i ≡ conditional split.condition split.target = same_Some _ _ (sym there ∙ ap (λ n. insn_of old n) same ∙ split.branch) in
    let only = Contains-one split.target next
    (subst (λ xs. Contains xs next) (ap targets_of is ∙ targets-conditional split.condition split.target) named) in
    let up = below_total (goes_to calls old plan) (length old.items) (item_total calls old plan) (goes_up calls old plan) next within in
    reachable-more (chained_code calls old plan) (first_of calls old plan k + 1) (goes_to calls old plan next)
    (jump_reached calls old plan k (Keep j) found way split reached)
    (inl (record {
      inside = up;
      leads = subst (λ o. IsSomeAnd o (λ x. LeadsTo x (first_of calls old plan k + 1) (goes_to calls old plan next))) (sym split.jump)
          (inl (Contains-first (goes_to calls old plan split.target) [] (goes_to calls old plan next) (ap (λ t. goes_to calls old plan t) only)));
    }))

-- to a handler
handler_from : (calls : Calls) (old : Code) (plan : Insertions) → MeetsCodeRules old → (j next : ℕ) → IsHandlerEdge old j next
    → IsReachable (chained_code calls old plan) (first_of calls old plan (kept_new old plan j)) → IsReachable (chained_code calls old plan) (goes_to calls old plan next)
handler_from calls old plan rules j next edge reached =
    let any = edge.caught in
    let h = any.1 in
    let catches = any.4 in
    let listed : Contains old.handlers h = (any.0, any.2, any.3) in
    let valid = handler_valid old rules h listed in
    let inside = edge.from_item in
    let within = slice_get_within (new_roles old plan) (kept_new old plan j) (Keep j) (kept_role old plan j inside) in
    let next_is = next_anchor old plan j inside in
    let all = anchor_inside old plan (suc j) (omega arith) in
    let start = goes_le calls old plan h.start j catches.after_start (omega arith) in
    let from = first_le calls old plan (slice_index (anchors_of plan old.items) j) (kept_new old plan j) (omega arith) (omega arith) in
    let to = (lays calls old plan).rise (kept_new old plan j) (slice_index (anchors_of plan old.items) (suc j)) (omega (arith, next_is)) all in
    let before = catches.before_end in
    let end = valid.end in
    let last = goes_le calls old plan (suc j) h.end (omega arith) end in
    let low : goes_to calls old plan h.start ≤ first_of calls old plan (kept_new old plan j) = omega arith in
    let high : first_of calls old plan (kept_new old plan j) < goes_to calls old plan h.end = omega arith in
    let up = below_total (goes_to calls old plan) (length old.items) (item_total calls old plan) (goes_up calls old plan) next edge.inside in
    let moved = Contains-map (moved_by calls old plan) old.handlers h listed in
    reachable-more (chained_code calls old plan) (first_of calls old plan (kept_new old plan j)) (goes_to calls old plan next) reached
    (inr (record {
      inside = up;
      from_item = first_inside calls old plan (kept_new old plan j) within;
      caught = (
        moved.0,
        moved_by calls old plan h,
        moved.1,
        moved.2,
        record { after_start = low; before_end = high; handler_is = ap (λ t. goes_to calls old plan t) catches.handler_is },
      );
    }))

-- along an edge, anchors are reached from anchors
anchor_from : (calls : Calls) (old : Code) (plan : Insertions) → MeetsCodeRules old → (j next : ℕ) → IsEdge old j next
    → IsReachable (chained_code calls old plan) (goes_to calls old plan j) → IsReachable (chained_code calls old plan) (goes_to calls old plan next)
anchor_from calls old plan rules j next (inr edge) reached =
    handler_from calls old plan rules j next edge (kept_reached calls old plan j edge.from_item reached)
anchor_from calls old plan rules j next (inl edge) reached = by (insn_of old j) refl edge.leads where
  inside : j < length old.items
  inside = edge_from_item old j next (inl edge)

  by : (o : Option Insn) → insn_of old j ≡ o → IsSomeAnd o (λ i. LeadsTo i j next) → IsReachable (chained_code calls old plan) (goes_to calls old plan next)
  by None there leads = absurd leads
  by (Some i) there (inl named) =
      target_from calls old plan j next i (is_split_of calls old plan (kept_new old plan j)) refl inside there named edge.inside
      (kept_reached calls old plan j inside reached)
  by (Some i) there (inr (falls, same)) =
      let past : FallsAt old j = subst (λ o. IsSomeAnd o (λ x. falls_through x ≡ true)) (sym there) falls in
      let is : next ≡ suc j = omega arith in
      let within : suc j < length old.items = (let end = edge.inside in omega arith) in
      let entry = entry_at old plan (suc j) within in
      let anchor = slice_get_within (new_roles old plan) (slice_index (anchors_of plan old.items) (suc j)) entry.0 entry.1 in
      let next_is = next_anchor old plan j inside in
      subst (λ t. IsReachable (chained_code calls old plan) (goes_to calls old plan t)) (sym is)
      (after_reached calls old plan j (slice_index (anchors_of plan old.items) (suc j)) inside past (omega (arith, next_is)) (omega arith) anchor
      (kept_reached calls old plan j inside reached))

anchor_path : (calls : Calls) (old : Code) (plan : Insertions) → MeetsCodeRules old → (path : List ℕ) (a j : ℕ) → IsFlowPath old a path j
    → IsReachable (chained_code calls old plan) (goes_to calls old plan a) → IsReachable (chained_code calls old plan) (goes_to calls old plan j)
anchor_path calls old plan rules [] a j same reached = subst (λ t. IsReachable (chained_code calls old plan) (goes_to calls old plan t)) same reached
anchor_path calls old plan rules (next ∷ path) a j leads reached =
    anchor_path calls old plan rules path next j leads.1 (anchor_from calls old plan rules a next leads.0 reached)

-- the anchor of a reached item is reached
anchor_reached : (calls : Calls) (old : Code) (plan : Insertions) → MeetsCodeRules old → (j : ℕ) → j < length old.items → IsReachable old j
    → IsReachable (chained_code calls old plan) (goes_to calls old plan j)
anchor_reached calls old plan rules j inside (path, leads) =
    let entry = entry_at old plan 0 (omega arith) in
    let anchor = slice_get_within (new_roles old plan) (slice_index (anchors_of plan old.items) 0) entry.0 entry.1 in
    anchor_path calls old plan rules path 0 j leads (start_reached calls old plan (slice_index (anchors_of plan old.items) 0) (omega arith) anchor)

-- ---- each laid item

-- what keeps an object comes after an item that goes on
pub after_holder : (old : Code) (plan : Insertions) → CanStand old plan → (j : ℕ) (r : Role) → IsOf After (Some j) r → HasHolder plan r → FallsAt old j
after_holder old plan can j (DupAfter i h) is holder = subst (λ n. FallsAt old n) (same_Some _ _ is.owner_is) (can.goes_on i h holder)
after_holder old plan can j (LoadAfter i h) is holder = subst (λ n. FallsAt old n) (same_Some _ _ is.owner_is) (can.goes_on i h holder.0)
after_holder old plan can j (LinkAfter i h) is holder = subst (λ n. FallsAt old n) (same_Some _ _ is.owner_is) (can.goes_on i h holder.0)
after_holder old plan can j (StoreAfter i h) is holder = subst (λ n. FallsAt old n) (same_Some _ _ is.owner_is) (can.goes_on i h holder)
after_holder old plan can j r is holder = absurd (false≢true (ap is_after is.phase_is))

owned_reached : (calls : Calls) (old : Code) (plan : Insertions) → MeetsCodeRules old → CanStand old plan → (k : ℕ) (r : Role) → slice_get (new_roles old plan) k ≡ Some r
    → StandsAt old plan k r → IsOwnerReached old (owner r) → IsReachable (chained_code calls old plan) (first_of calls old plan k)
owned_reached calls old plan rules can k r found (InStart less is) reached =
    start_reached calls old plan k (omega arith) (slice_get_within (new_roles old plan) k r found)
owned_reached calls old plan rules can k r found (InBefore j inside low high is) reached =
    before_reached calls old plan j k inside low (omega arith) (anchor_reached calls old plan rules j inside (subst (λ o. IsOwnerReached old o) is.owner_is reached))
owned_reached calls old plan rules can k r found (IsKept j inside same is) reached =
    subst (λ m. IsReachable (chained_code calls old plan) (first_of calls old plan m)) (sym same)
    (kept_reached calls old plan j inside (anchor_reached calls old plan rules j inside (subst (λ x. IsOwnerReached old (owner x)) is reached)))
owned_reached calls old plan rules can k r found (InAfter j inside low high is) reached =
    after_reached calls old plan j k inside (after_holder old plan can j r is (new_of calls old plan k r found).is_for.holder) (omega arith) (omega arith)
    (slice_get_within (new_roles old plan) k r found)
    (kept_reached calls old plan j inside (anchor_reached calls old plan rules j inside (subst (λ o. IsOwnerReached old o) is.owner_is reached)))

-- where its old item is reached, a laid item is
pub item_reached : (calls : Calls) (old : Code) (plan : Insertions) → MeetsCodeRules old → CanStand old plan → (n : ℕ) (r : Role)
    → slice_get (roles_of calls old plan) n ≡ Some r → IsOwnerReached old (owner r) → IsReachable (chained_code calls old plan) n
item_reached calls old plan rules can n r found reached = go (laid_item calls old plan n r found) where
  go : LaidItem calls old plan n r → IsReachable (chained_code calls old plan) n
  go (Whole k same there way) =
      subst (λ m. IsReachable (chained_code calls old plan) m) (sym same) (owned_reached calls old plan rules can k r there (stands_at old plan k r there) reached)
  go (Test k same there way split) =
      subst (λ m. IsReachable (chained_code calls old plan) m) (sym same) (owned_reached calls old plan rules can k r there (stands_at old plan k r there) reached)
  go (Jump k kept same there way split is) =
      let own : IsOwnerReached old (owner kept) =
      subst (λ o. IsOwnerReached old o) (ap owner is ∙ ap owner (sym split.is)) reached in
      subst (λ m. IsReachable (chained_code calls old plan) m) (sym same)
      (jump_reached calls old plan k kept there way split (owned_reached calls old plan rules can k kept there (stands_at old plan k kept there) own))
