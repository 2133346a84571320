-- What is inserted between old items, and where these are, in code with insertions.
use Rattle.std.proofs.Common.{◌≡◌, ℕ, suc, ◌+◌, ◌<◌, ◌≤◌, ◌⊎◌, inl, inr, Bool, true, false, List, [], ◌∷◌, ◌++◌, length, map, Option, Some, None, IsSomeAnd, refl, sym, ap, subst, ◌∙◌, arith, append_assoc, length-append, if◌then◌else◌}
use Rattle.std.specs.Prelude.{nat_lt, slice_get, slice_index}
use Rattle.std.specs.List.{AllByRecursion, flat_map, range_with_len}
use Rattle.std.specs.Option.{option_map}
use Rattle.std.proofs.lemmas.Bool.{cases_lt, lt-ltb}
use Rattle.std.proofs.lemmas.List.{map-append}
use Rattle.std.proofs.lemmas.Option.{none-some, same_Some, slice_get-map, slice_get_within}
use Rattle.fm_chain.specs.declared.calls.Calls.{Calls}
use Rattle.fm_base.proofs.ListFacts.{AllByRecursion-append, slice_get-append_right}
use Rattle.fm_code.proofs.EdgesLemmas.{insn_inside}
use Rattle.fm_code.specs.Edges.{insn_of, MeetsCodeRules}
use Rattle.fm_code.specs.SpellsCode.{with_targets}
use Rattle.fm_code.specs.declared.code_array.Code.{Code}
use Rattle.fm_code.specs.declared.instructions.Insn.{Insn}
use Rattle.fm_code.specs.declared.instructions.Insn.TheVariants as insn
use Rattle.fm_code.specs.declared.operations.Reg.TheVariants as reg
use Rattle.fm_flow.proofs.CodeFacts.{items_counted}
use Rattle.fm_place.specs.Insertions.{after_at, before_at, Insertions}
use Rattle.fm_chain.specs.Chained.{anchors_of, chained, chained_code, chained_marks, looped_at}
use Rattle.fm_place.specs.Woven.{local_of}
use Rattle.fm_law_woven_flow.proofs.Caught.{anchor_inside, first_le, goes_le}
use Rattle.fm_law_woven_flow.proofs.LaidItems.{first_of, goes_to, is_split_of, item_total, laid_insn, lays, some-more, split_insn, whole_insn}
use Rattle.fm_law_woven_flow.proofs.LaidRoles.{width}
use Rattle.fm_law_woven_flow.proofs.NewItems.{HasWhole, new_count}
use Rattle.fm_law_woven_flow.proofs.RoleLists.{first_anchor, kept_role, length-after, length-before, length-start, next_anchor, part_of}
use Rattle.fm_law_woven_flow.proofs.Standing.{code_stands, number_inside}
use Rattle.fm_law_woven_flow.specs.Roles.{CanStand, DupAfter, FreeBefore, JumpOf, Keep, LinkAfter, LoadAfter, LoadBefore, NullBefore, Role, StandsFor, StartNull, StartStore, StoreAfter, StoreBefore}
use Rattle.fm_law_woven_flow.specs.inner.RolesOf.{after_roles, before_roles, kept_new, moved_by, new_roles, number_of, roles_behind, roles_from, roles_of, start_roles}
use Rattle.fm_law_unwoven.proofs.RoleMarks.{mark_of, marks_are}
use Rattle.fm_law_unwoven.specs.Laid.{all_insns_to, CodesAreLaid, frees_at, insns_to, IsKept, IsLaid, IsSplit, IsWhole, keeps_at, LieInserted, mark_at, starts_of, to_free, to_keep, Todo, ToStart}

-- ---- runs of inserted items

-- one run after another
lies-append : (new : Code) (marks : List (Option ℕ)) (n middle next : ℕ) (insns others : List Insn) → LieInserted new marks n insns middle
    → LieInserted new marks middle others next → LieInserted new marks n (insns ++ others) next
lies-append new marks n middle next [] others here there = subst (λ m. LieInserted new marks m others next) (sym here) there
lies-append new marks n middle next (i ∷ insns) others here there = (here.0, here.1, lies-append new marks (n + 1) middle next insns others here.2 there)

-- a role of something inserted, and its instruction
abbrev IsInserted : Role → Type 0
IsInserted (Keep j) = ⊥
IsInserted (JumpOf j) = ⊥
IsInserted r = Unit {0}

abbrev role_insn : Calls → Code → Insertions → Role → Insn
role_insn calls old plan (StartNull h) = insn.Null
role_insn calls old plan (StartStore h) = insn.Store reg.Ref (local_of old h)
role_insn calls old plan (LoadBefore j h) = insn.Load reg.Ref (local_of old h)
role_insn calls old plan (FreeBefore j h) = insn.Static (if looped_at plan h then calls.free_chain else calls.free)
role_insn calls old plan (NullBefore j h) = insn.Null
role_insn calls old plan (StoreBefore j h) = insn.Store reg.Ref (local_of old h)
role_insn calls old plan (Keep j) = insn.Nop
role_insn calls old plan (JumpOf j) = insn.Nop
role_insn calls old plan (DupAfter j h) = insn.Dup
role_insn calls old plan (LoadAfter j h) = insn.Load reg.Ref (local_of old h)
role_insn calls old plan (LinkAfter j h) = insn.Static calls.link
role_insn calls old plan (StoreAfter j h) = insn.Store reg.Ref (local_of old h)

has_insn : (calls : Calls) (old : Code) (plan : Insertions) (goes : ℕ → ℕ) (r : Role) (i : Insn) → IsInserted r → HasWhole calls old plan goes r i → i ≡ role_insn calls old plan r
has_insn calls old plan goes (StartNull h) i inserted whole = whole
has_insn calls old plan goes (StartStore h) i inserted whole = whole
has_insn calls old plan goes (LoadBefore j h) i inserted whole = whole
has_insn calls old plan goes (FreeBefore j h) i inserted whole = whole
has_insn calls old plan goes (NullBefore j h) i inserted whole = whole
has_insn calls old plan goes (StoreBefore j h) i inserted whole = whole
has_insn calls old plan goes (Keep j) i inserted whole = absurd inserted
has_insn calls old plan goes (JumpOf j) i inserted whole = absurd inserted
has_insn calls old plan goes (DupAfter j h) i inserted whole = whole
has_insn calls old plan goes (LoadAfter j h) i inserted whole = whole
has_insn calls old plan goes (LinkAfter j h) i inserted whole = whole
has_insn calls old plan goes (StoreAfter j h) i inserted whole = whole

no_mark : (r : Role) → IsInserted r → mark_of r ≡ None
no_mark (StartNull h) inserted = refl
no_mark (StartStore h) inserted = refl
no_mark (LoadBefore j h) inserted = refl
no_mark (FreeBefore j h) inserted = refl
no_mark (NullBefore j h) inserted = refl
no_mark (StoreBefore j h) inserted = refl
no_mark (Keep j) inserted = absurd inserted
no_mark (JumpOf j) inserted = absurd inserted
no_mark (DupAfter j h) inserted = refl
no_mark (LoadAfter j h) inserted = refl
no_mark (LinkAfter j h) inserted = refl
no_mark (StoreAfter j h) inserted = refl

some_is : (o : Option Insn) (x : Insn) → IsSomeAnd o (λ i. i ≡ x) → o ≡ Some x
some_is None x found = absurd found
some_is (Some i) x found = ap Some found

-- the mark of a role
join_mark : (o : Option Role) (r : Role) → o ≡ Some r → option_map mark_of o ≡ Some (mark_of r)
join_mark o r is = ap (option_map mark_of) is

module _ (calls : Calls) (old : Code) (plan : Insertions) where
  abbrev new : Code
  new = chained_code calls old plan

  abbrev marks : List (Option ℕ)
  marks = chained_marks calls old plan

  abbrev roles : List Role
  roles = new_roles old plan

  abbrev first : ℕ → ℕ
  first k = first_of calls old plan k

  abbrev anchor : ℕ → ℕ
  anchor t = slice_index (anchors_of plan old.items) t

  abbrev joined : Option (Option ℕ) → Option ℕ
  joined None = None
  joined (Some o) = o

  -- the mark of an item by its role
  pub mark_by : (n : ℕ) (r : Role) → slice_get (roles_of calls old plan) n ≡ Some r → mark_at marks n ≡ mark_of r
  mark_by n r found =
      ap (λ xs. mark_at xs n) (marks_are calls old plan)
      ∙ ap joined (slice_get-map mark_of (roles_of calls old plan) n ∙ join_mark (slice_get (roles_of calls old plan) n) r found)

  -- an inserted item isn't split
  not_split : (k : ℕ) (r : Role) → slice_get roles k ≡ Some r → IsInserted r → (b : Bool) → is_split_of calls old plan k ≡ b → b ≡ false
  not_split k r found inserted false is = refl
  not_split k r found inserted true is = absurd (subst IsInserted (split_insn calls old plan k r found is).is inserted)

  step_whole : (k : ℕ) (r : Role) → slice_get roles k ≡ Some r → is_split_of calls old plan k ≡ false → first (suc k) ≡ first k + 1
  step_whole k r found way =
      (lays calls old plan).step k (slice_get_within roles k r found) ∙ ap (λ b. first k + width b) way

  -- inserted roles that follow one another are inserted items that do
  run : (run_roles front back : List Role) (k next : ℕ) → roles ≡ front ++ (run_roles ++ back) → length front ≡ k → k + length run_roles ≡ next
      → AllByRecursion IsInserted run_roles → LieInserted new marks (first k) (map (role_insn calls old plan) run_roles) (first next)
  run [] front back k next is at ends all = let same : k ≡ next = omega arith in ap first same
  run (r ∷ rest) front back k next is at ends all =
      let size = length-append front (r ∷ []) in
      let place : k ≡ length front + 0 = omega arith in
      let there : slice_get roles k ≡ Some r = (λ i. slice_get (is i) (place i)) ∙ slice_get-append_right front (r ∷ (rest ++ back)) 0 in
      let way = not_split k r there all.0 (is_split_of calls old plan k) refl in
      let step = step_whole k r there way in
      let insn = some_is (laid_insn calls old plan (first k)) (role_insn calls old plan r)
      (some-more (HasWhole calls old plan (goes_to calls old plan) r) (λ i. i ≡ role_insn calls old plan r) (λ i whole. has_insn calls old plan (goes_to calls old plan) r i all.0 whole)
      (laid_insn calls old plan (first k)) (whole_insn calls old plan k r there way)) in
      let mark = mark_by (first k) r ((lays calls old plan).first k r there) ∙ no_mark r all.0 in
      let later = run rest (front ++ (r ∷ [])) back (suc k) next (is ∙ sym (append_assoc front (r ∷ []) (rest ++ back))) (omega arith) (omega arith) all.1 in
      (insn, mark, subst (λ n. LieInserted new marks n (map (role_insn calls old plan) rest) (first next)) step later)

  -- ---- the runs that there are

  frees_inserted : (j : ℕ) (hs : List ℕ) → AllByRecursion IsInserted (flat_map (before_roles j) hs)
  frees_inserted j [] = tt
  frees_inserted j (h ∷ hs) = (tt, (tt, (tt, (tt, frees_inserted j hs))))

  behind_inserted : (looped : Bool) (j h : ℕ) → AllByRecursion IsInserted (roles_behind looped j h)
  behind_inserted true j h = (tt, (tt, (tt, (tt, tt))))
  behind_inserted false j h = (tt, (tt, tt))

  keeps_inserted : (j : ℕ) (hs : List ℕ) → AllByRecursion IsInserted (flat_map (after_roles plan j) hs)
  keeps_inserted j [] = tt
  keeps_inserted j (h ∷ hs) =
      AllByRecursion-append IsInserted (after_roles plan j h) (flat_map (after_roles plan j) hs) (behind_inserted (looped_at plan h) j h) (keeps_inserted j hs)

  starts_inserted : (hs : List ℕ) → AllByRecursion IsInserted (flat_map start_roles hs)
  starts_inserted [] = tt
  starts_inserted (h ∷ hs) = (tt, (tt, starts_inserted hs))

  -- how a holder is freed and how it keeps what is on top, by its flag
  abbrev frees : ℕ → Todo
  frees h = to_free (looped_at plan h) h

  abbrev keeps : Bool → ℕ → Todo
  keeps joins h = to_keep (looped_at plan h) joins h

  free_is : (looped : Bool) (h : ℕ)
      → insn.Load reg.Ref (local_of old h) ∷ insn.Static (if looped then calls.free_chain else calls.free) ∷ insn.Null ∷ insn.Store reg.Ref (local_of old h) ∷ []
      ≡ insns_to calls old (to_free looped h)
  free_is true h = refl
  free_is false h = refl

  frees_are : (j : ℕ) (hs : List ℕ) → map (role_insn calls old plan) (flat_map (before_roles j) hs) ≡ all_insns_to calls old (map frees hs)
  frees_are j [] = refl
  frees_are j (h ∷ hs) = λ k. free_is (looped_at plan h) h k ++ frees_are j hs k

  keep_insns : (joins looped : Bool) (j h : ℕ) → map (role_insn calls old plan) (roles_behind looped j h) ≡ insns_to calls old (to_keep looped joins h)
  keep_insns joins true j h = refl
  keep_insns joins false j h = refl

  keeps_are : (joins : Bool) (j : ℕ) (hs : List ℕ) → map (role_insn calls old plan) (flat_map (after_roles plan j) hs) ≡ all_insns_to calls old (map (keeps joins) hs)
  keeps_are joins j [] = refl
  keeps_are joins j (h ∷ hs) =
      map-append (role_insn calls old plan) (after_roles plan j h) (flat_map (after_roles plan j) hs)
      ∙ (λ k. keep_insns joins (looped_at plan h) j h k ++ keeps_are joins j hs k)

  starts_are : (hs : List ℕ) → map (role_insn calls old plan) (flat_map start_roles hs) ≡ all_insns_to calls old (map ToStart hs)
  starts_are [] = refl
  starts_are (h ∷ hs) = ap (λ xs. insn.Null ∷ insn.Store reg.Ref (local_of old h) ∷ xs) (starts_are hs)

  both_are : (one two : List Todo) → all_insns_to calls old (one ++ two) ≡ all_insns_to calls old one ++ all_insns_to calls old two
  both_are [] two = refl
  both_are (t ∷ one) two =
      ap (λ xs. insns_to calls old t ++ xs) (both_are one two) ∙ sym (append_assoc (insns_to calls old t) (all_insns_to calls old one) (all_insns_to calls old two))

  before_kept : (j : ℕ) → j < length old.items → LieInserted new marks (goes_to calls old plan j) (all_insns_to calls old (frees_at plan j)) (first (kept_new old plan j))
  before_kept j inside =
      let part = part_of old plan j inside in
      let size = length-before j (before_at plan j) in
      subst (λ xs. LieInserted new marks (goes_to calls old plan j) xs (first (kept_new old plan j))) (frees_are j (before_at plan j))
      (run (flat_map (before_roles j) (before_at plan j)) part.front (Keep j ∷ (flat_map (after_roles plan j) (after_at plan j) ++ part.back)) (anchor j) (kept_new old plan j)
      part.is part.at (omega (arith, size)) (frees_inserted j (before_at plan j)))

  behind_kept : (joins : Bool) (j : ℕ) → j < length old.items
      → LieInserted new marks (first (suc (kept_new old plan j))) (all_insns_to calls old (keeps_at plan joins j)) (goes_to calls old plan (suc j))
  behind_kept joins j inside =
      let part = part_of old plan j inside in
      let before = flat_map (before_roles j) (before_at plan j) in
      let after = flat_map (after_roles plan j) (after_at plan j) in
      let size = length-before j (before_at plan j) in
      let after_size = length-after plan j (after_at plan j) in
      let at = part.at in
      let next = part.next in
      let first_two = length-append part.front before in
      let all = length-append (part.front ++ before) (Keep j ∷ []) in
      let is : roles ≡ ((part.front ++ before) ++ (Keep j ∷ [])) ++ (after ++ part.back) =
      part.is ∙ sym (append_assoc part.front before (Keep j ∷ (after ++ part.back)))
      ∙ sym (append_assoc (part.front ++ before) (Keep j ∷ []) (after ++ part.back)) in
      subst (λ xs. LieInserted new marks (first (suc (kept_new old plan j))) xs (goes_to calls old plan (suc j))) (keeps_are joins j (after_at plan j))
      (run after ((part.front ++ before) ++ (Keep j ∷ [])) part.back (suc (kept_new old plan j)) (anchor (suc j)) is
      (omega (arith, all, first_two, size, at)) (omega (arith, after_size, next)) (keeps_inserted j (after_at plan j)))

  at_start : LieInserted new marks 0 (all_insns_to calls old (starts_of plan)) (goes_to calls old plan 0)
  at_start =
      let holders = range_with_len 0 (length plan.holders) in
      let size = length-start 0 (length plan.holders) in
      let anchor_is = first_anchor old plan in
      subst (λ n. LieInserted new marks n (all_insns_to calls old (starts_of plan)) (goes_to calls old plan 0)) (lays calls old plan).begin
      (subst (λ xs. LieInserted new marks (first 0) xs (goes_to calls old plan 0)) (starts_are holders)
      (run (flat_map start_roles holders) [] (roles_from plan 0 old.items) 0 (anchor 0) refl refl (omega (arith, size, anchor_is)) (starts_inserted holders)))

  -- ---- old items

  kept_below : (j : ℕ) → j < length old.items → kept_new old plan j < length roles
  kept_below j inside = slice_get_within roles (kept_new old plan j) (Keep j) (kept_role old plan j inside)

  -- the entry, the item and the next entry rise
  kept_between : (j : ℕ) → j < length old.items → (goes_to calls old plan j ≤ first (kept_new old plan j)) × (first (kept_new old plan j) < goes_to calls old plan (suc j))
  kept_between j inside =
      let next = next_anchor old plan j inside in
      let below = kept_below j inside in
      let all = anchor_inside old plan (suc j) (omega arith) in (
        first_le calls old plan (anchor j) (kept_new old plan j) (omega arith) (omega arith),
        (lays calls old plan).rise (kept_new old plan j) (anchor (suc j)) (omega (arith, next)) all,
      )

  covered : (t j : ℕ) → t ≤ length old.items → j < length old.items
      → (goes_to calls old plan t ≤ first (kept_new old plan j) → t ≤ j) × (t ≤ j → goes_to calls old plan t ≤ first (kept_new old plan j))
  covered t j within inside = (down, up) where
    sides : (goes_to calls old plan j ≤ first (kept_new old plan j)) × (first (kept_new old plan j) < goes_to calls old plan (suc j))
    sides = kept_between j inside

    down : goes_to calls old plan t ≤ first (kept_new old plan j) → t ≤ j
    down low = by_place (cases_lt j t) where
      by_place : (j < t) ⊎ (t ≤ j) → t ≤ j
      by_place (inl past) = let up = goes_le calls old plan (suc j) t (omega arith) within in let high = sides.1 in absurd (omega arith)
      by_place (inr le) = le

    up : t ≤ j → goes_to calls old plan t ≤ first (kept_new old plan j)
    up le = let below = goes_le calls old plan t j le (omega arith) in let low = sides.0 in omega arith

  keep_is : (i j : ℕ) → Keep i ≡ Keep j → i ≡ j
  keep_is i j same = same_Some _ _ (ap mark_of same)

  insn_is : (j : ℕ) (i : Insn) (goes : ℕ → ℕ) (o : Option Insn) (x : Insn) → o ≡ Some x → IsSomeAnd o (λ was. i ≡ with_targets goes was) → i ≡ with_targets goes x
  insn_is j i goes None x is whole = absurd whole
  insn_is j i goes (Some was) x is whole = whole ∙ ap (with_targets goes) (same_Some _ _ is)

  kept_as : (j : ℕ) (i : Insn) → j < length old.items → insn_of old j ≡ Some i → (b : Bool) → is_split_of calls old plan (kept_new old plan j) ≡ b
      → IsKept old new marks (goes_to calls old plan) j i (first (kept_new old plan j)) (first (suc (kept_new old plan j)))
  kept_as j i inside found false way =
      let k = kept_new old plan j in
      let role = kept_role old plan j inside in
      let whole = whole_insn calls old plan k (Keep j) role way in
      IsWhole
      (some_is (laid_insn calls old plan (first k)) (with_targets (goes_to calls old plan) i)
      (some-more (HasWhole calls old plan (goes_to calls old plan) (Keep j)) (λ x. x ≡ with_targets (goes_to calls old plan) i)
      (λ x has. insn_is j x (goes_to calls old plan) (insn_of old j) i found has) (laid_insn calls old plan (first k)) whole))
      (step_whole k (Keep j) role way)
  kept_as j i inside found true way =
      let k = kept_new old plan j in
      let role = kept_role old plan j inside in
      let split = split_insn calls old plan k (Keep j) role way in
      let item_is : split.item ≡ j = sym (keep_is j split.item split.is) in
      let step : first (suc k) ≡ first k + 2 = (lays calls old plan).step k (kept_below j inside) ∙ ap (λ b. first k + width b) way in
      IsSplit split.condition split.target split.other
      (same_Some _ _ (sym found ∙ ap (λ n. insn_of old n) (sym item_is) ∙ split.branch))
      split.test
      (λ more. other_is j k more split.other split.other_is step (let below = kept_below (j + 1) more in let rise = later j more in omega arith))
      split.jump
      (mark_by (first k + 1) (JumpOf j) ((lays calls old plan).second k (Keep j) way role))
      step where
        later : (j : ℕ) → j + 1 < length old.items → kept_new old plan j < kept_new old plan (j + 1)
        later j more =
            let next = next_anchor old plan j (omega arith) in
            let same : anchor (suc j) ≡ anchor (j + 1) = let one : suc j ≡ j + 1 = omega arith in ap anchor one in
            omega (arith, next, same)

        other_is : (j k : ℕ) → j + 1 < length old.items → (other : ℕ) → other ≡ (if nat_lt (k + 1) (length (chained calls old plan)) then first k + 2 else first k + 1)
            → first (suc k) ≡ first k + 2 → k + 1 < length roles → other ≡ first (suc k)
        other_is j k more other is step below =
            let count = new_count calls old plan in
            let less : nat_lt (k + 1) (length (chained calls old plan)) ≡ true = lt-ltb (k + 1) (length (chained calls old plan)) (omega (arith, count)) in
            is ∙ ap (λ b. if b then first k + 2 else first k + 1) less ∙ sym step

  marked : (j : ℕ) → j < length old.items → mark_at marks (first (kept_new old plan j)) ≡ Some j
  marked j inside = mark_by (first (kept_new old plan j)) (Keep j) ((lays calls old plan).first (kept_new old plan j) (Keep j) (kept_role old plan j inside))

  -- an item with a mark keeps an old one
  kept_by : (r : Role) (j : ℕ) → mark_of r ≡ Some j → r ≡ Keep j
  kept_by (Keep i) j is = ap Keep (same_Some _ _ is)
  kept_by (StartNull h) j is = absurd (none-some j is)
  kept_by (StartStore h) j is = absurd (none-some j is)
  kept_by (LoadBefore i h) j is = absurd (none-some j is)
  kept_by (FreeBefore i h) j is = absurd (none-some j is)
  kept_by (NullBefore i h) j is = absurd (none-some j is)
  kept_by (StoreBefore i h) j is = absurd (none-some j is)
  kept_by (JumpOf i) j is = absurd (none-some j is)
  kept_by (DupAfter i h) j is = absurd (none-some j is)
  kept_by (LoadAfter i h) j is = absurd (none-some j is)
  kept_by (LinkAfter i h) j is = absurd (none-some j is)
  kept_by (StoreAfter i h) j is = absurd (none-some j is)

  once : MeetsCodeRules old → CanStand old plan → (n j : ℕ) → mark_at marks n ≡ Some j → (j < length old.items) × (n ≡ first (kept_new old plan j))
  once rules can n j is = by_role (slice_get (roles_of calls old plan) n) refl where
    stands : StandsFor calls old plan (chained_code calls old plan) (roles_of calls old plan) (number_of calls old plan) (moved_by calls old plan)
    stands = code_stands calls old plan rules can

    inside_by : n < item_total calls old plan → n ≡ number_of calls old plan j → (j < length old.items) ⊎ (length old.items ≤ j) → j < length old.items
    inside_by below number (inl less) = less
    inside_by below number (inr past) = let high = stands.beyond j past in absurd (omega arith)

    by_role : (o : Option Role) → slice_get (roles_of calls old plan) n ≡ o → (j < length old.items) × (n ≡ first (kept_new old plan j))
    by_role None none =
        absurd (none-some j
        (sym (ap (λ xs. mark_at xs n) (marks_are calls old plan) ∙ ap joined (slice_get-map mark_of (roles_of calls old plan) n ∙ ap (option_map mark_of) none)) ∙ is))
    by_role (Some r) found =
        let role = kept_by r j (sym (mark_by n r found) ∙ is) in
        let number = stands.kept_once n j (found ∙ ap Some role) in
        let within = slice_get_within (roles_of calls old plan) n r found in
        let each = stands.one_each in
        let inside = inside_by (omega (arith, each)) number (cases_lt j (length old.items)) in
        (inside, number ∙ number_inside calls old plan j inside)

  -- ---- together

  pub laid : MeetsCodeRules old → CanStand old plan → IsLaid calls old plan new marks
  laid rules can = record {
    locals = refl;
    numbers = λ j. first (kept_new old plan j);
    entries = goes_to calls old plan;
    behind = λ j. first (suc (kept_new old plan j));
    start =
        subst (λ xs. LieInserted new marks 0 xs (first (kept_new old plan 0))) (sym (both_are (starts_of plan) (frees_at plan 0)))
        (lies-append new marks 0 (goes_to calls old plan 0) (first (kept_new old plan 0)) (all_insns_to calls old (starts_of plan)) (all_insns_to calls old (frees_at plan 0))
        at_start (before_kept 0 (items_counted old rules).0));
    entered = before_kept;
    left = λ joins j more.
        let next : suc j ≡ j + 1 = omega arith in
        subst (λ xs. LieInserted new marks (first (suc (kept_new old plan j))) xs (first (kept_new old plan (j + 1)))) (sym (both_are (keeps_at plan joins j) (frees_at plan (j + 1))))
        (lies-append new marks (first (suc (kept_new old plan j))) (goes_to calls old plan (j + 1)) (first (kept_new old plan (j + 1)))
        (all_insns_to calls old (keeps_at plan joins j)) (all_insns_to calls old (frees_at plan (j + 1)))
        (subst (λ t. LieInserted new marks (first (suc (kept_new old plan j))) (all_insns_to calls old (keeps_at plan joins j)) (goes_to calls old plan t)) next (behind_kept joins j (omega arith)))
        (before_kept (j + 1) more));
    kept = λ j i found. kept_as j i (insn_inside old j i found) found (is_split_of calls old plan (kept_new old plan j)) refl;
    marked = marked;
    once = once rules can;
    handlers = refl;
    covered = covered;
  }

pub codes_laid : CodesAreLaid
codes_laid calls old plan rules can = laid calls old plan rules can
