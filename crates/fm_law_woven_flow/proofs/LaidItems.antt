-- The instructions of laid items, by their roles.
use Rattle.std.proofs.Common.{◌≡◌, ℕ, ◌+◌, ◌⊎◌, inl, inr, Bool, true, false, [], ◌∷◌, length, Option, Some, None, IsSomeAnd, refl, sym, ap, subst, ◌∙◌, arith, if◌then◌else◌}
use Rattle.std.specs.Prelude.{nat_lt, slice_get, slice_index}
use Rattle.std.proofs.lemmas.Option.{none-some, same_Some, slice_get_within}
use Rattle.fm_base.proofs.ListFacts.{AllByRecursion-from_every}
use Rattle.fm_chain.specs.declared.calls.Calls.{Calls}
use Rattle.fm_code.specs.Edges.{falls_through, insn_of}
use Rattle.fm_code.specs.SpellsCode.{targets_of, with_targets}
use Rattle.fm_code.specs.declared.code_array.Code.{Code}
use Rattle.fm_code.specs.declared.instructions.Insn.{Insn}
use Rattle.fm_code.specs.declared.instructions.Insn.TheVariants as insn
use Rattle.fm_code.specs.declared.operations.Reg.TheVariants as reg
use Rattle.fm_layout.proofs.SpelledLemmas.{with_targets-twice}
use Rattle.fm_layout.proofs.StandsLemmas.{laid_stands_as, StandsAs, with_targets-conditional}
use Rattle.fm_layout.specs.Laid.{laid_of}
use Rattle.fm_layout.specs.Spelling.{conditional, opposite}
use Rattle.fm_layout.specs.Stands.{StandsSplit, StandsWhole}
use Rattle.fm_layout.specs.declared.rooms.Condition.{Condition}
use Rattle.fm_layout.specs.declared.rooms.Condition.TheVariants as condition
use Rattle.fm_place.specs.Insertions.{Insertions}
use Rattle.fm_chain.specs.Chained.{anchors_of, chained, chained_code, looped_at}
use Rattle.fm_law_woven_flow.proofs.LaidRoles.{first_at, item_at, lays_roles, LaysRoles, split_at}
use Rattle.fm_law_woven_flow.proofs.NewItems.{HasWhole, new_count, new_of}
use Rattle.fm_law_woven_flow.proofs.RoleLists.{element_at}
use Rattle.fm_law_woven_flow.specs.Roles.{DupAfter, FreeBefore, HasHolder, HasInsn, IsBranch, IsOpposite, IsRetargeted, JumpOf, Keep, LinkAfter, LoadAfter, LoadBefore, NullBefore, Role, StartNull, StartStore, StoreAfter, StoreBefore}
use Rattle.fm_law_woven_flow.specs.inner.RolesOf.{jump_of, new_roles, roles_of}

-- ---- branches

-- the condition of a branch that has one
abbrev condition_of : Insn → Option Condition
condition_of (insn.IfInt t n) = Some (condition.Int t)
condition_of (insn.IfPair t n) = Some (condition.Pair t)
condition_of (insn.IfSame same n) = Some (condition.Same same)
condition_of (insn.IfNull null n) = Some (condition.Null null)
condition_of i = None

-- and its target
abbrev target_of : Insn → ℕ
target_of (insn.IfInt t n) = n
target_of (insn.IfPair t n) = n
target_of (insn.IfSame same n) = n
target_of (insn.IfNull null n) = n
target_of i = 0

condition-with : (f : ℕ → ℕ) (i : Insn) → condition_of (with_targets f i) ≡ condition_of i
condition-with f (insn.IfInt t n) = refl
condition-with f (insn.IfPair t n) = refl
condition-with f (insn.IfSame same n) = refl
condition-with f (insn.IfNull null n) = refl
condition-with f (insn.Goto n) = refl
condition-with f (insn.Table low others targets) = refl
condition-with f (insn.Lookup others keys targets) = refl
condition-with f i = refl

condition-conditional : (c : Condition) (t : ℕ) → condition_of (conditional c t) ≡ Some c
condition-conditional (condition.Int a) t = refl
condition-conditional (condition.Pair a) t = refl
condition-conditional (condition.Same a) t = refl
condition-conditional (condition.Null a) t = refl

target-conditional : (c : Condition) (t : ℕ) → target_of (conditional c t) ≡ t
target-conditional (condition.Int a) t = refl
target-conditional (condition.Pair a) t = refl
target-conditional (condition.Same a) t = refl
target-conditional (condition.Null a) t = refl

conditional-from : (i : Insn) (c : Condition) → condition_of i ≡ Some c → i ≡ conditional c (target_of i)
conditional-from (insn.IfInt t n) c is = ap (λ d. conditional d n) (same_Some _ _ is)
conditional-from (insn.IfPair t n) c is = ap (λ d. conditional d n) (same_Some _ _ is)
conditional-from (insn.IfSame same n) c is = ap (λ d. conditional d n) (same_Some _ _ is)
conditional-from (insn.IfNull null n) c is = ap (λ d. conditional d n) (same_Some _ _ is)
conditional-from i c is = absurd (none-some c is)

-- it has one target, and goes on else
pub targets-conditional : (c : Condition) (t : ℕ) → targets_of (conditional c t) ≡ t ∷ []
targets-conditional (condition.Int a) t = refl
targets-conditional (condition.Pair a) t = refl
targets-conditional (condition.Same a) t = refl
targets-conditional (condition.Null a) t = refl

pub falls-conditional : (c : Condition) (t : ℕ) → falls_through (conditional c t) ≡ true
falls-conditional (condition.Int a) t = refl
falls-conditional (condition.Pair a) t = refl
falls-conditional (condition.Same a) t = refl
falls-conditional (condition.Null a) t = refl

-- other targets don't change whether control goes on
pub falls-with : (f : ℕ → ℕ) (i : Insn) → falls_through (with_targets f i) ≡ falls_through i
falls-with f (insn.IfInt t n) = refl
falls-with f (insn.IfPair t n) = refl
falls-with f (insn.IfSame same n) = refl
falls-with f (insn.IfNull null n) = refl
falls-with f (insn.Goto n) = refl
falls-with f (insn.Table low others targets) = refl
falls-with f (insn.Lookup others keys targets) = refl
falls-with f i = refl

-- what is a branch with other targets is one
branch-back : (f : ℕ → ℕ) (i : Insn) (c : Condition) (t : ℕ) → with_targets f i ≡ conditional c t → (i ≡ conditional c (target_of i)) × (f (target_of i) ≡ t)
branch-back f i c t same =
    let is : condition_of i ≡ Some c = sym (condition-with f i) ∙ ap condition_of same ∙ condition-conditional c t in
    let branch = conditional-from i c is in
    let moved : conditional c (f (target_of i)) ≡ conditional c t = sym (with_targets-conditional f c (target_of i)) ∙ ap (with_targets f) (sym branch) ∙ same in
    (branch, sym (target-conditional c (f (target_of i))) ∙ ap target_of moved ∙ target-conditional c t)

-- ---- where new items are laid

-- the laid item of a new one, whether it is split, and where an old item's number goes
abbrev pub first_of : (calls : Calls) → Code → Insertions → ℕ → ℕ
first_of calls old plan k = first_at old.items (chained calls old plan) k

abbrev pub is_split_of : (calls : Calls) → Code → Insertions → ℕ → Bool
is_split_of calls old plan k = split_at old.items (chained calls old plan) k

abbrev pub goes_to : (calls : Calls) → Code → Insertions → ℕ → ℕ
goes_to calls old plan t = first_of calls old plan (slice_index (anchors_of plan old.items) t)

-- the laid code's instruction
abbrev pub laid_insn : (calls : Calls) → Code → Insertions → ℕ → Option Insn
laid_insn calls old plan n = insn_of (chained_code calls old plan) n

-- how many laid items there are
abbrev pub item_total : (calls : Calls) → Code → Insertions → ℕ
item_total calls old plan = length (laid_of old.items (chained calls old plan)).items

pub lays : (calls : Calls) (old : Code) (plan : Insertions) → LaysRoles old.items (chained calls old plan) (new_roles old plan) (roles_of calls old plan)
unfolding roles_of
lays calls old plan = lays_roles old.items (chained calls old plan) (new_roles old plan) (new_count calls old plan)

-- ---- whole items

whole-kept : (f g : ℕ → ℕ) (i : Insn) (o : Option Insn) → IsSomeAnd o (λ was. i ≡ with_targets g was) → IsSomeAnd o (λ was. with_targets f i ≡ with_targets (λ t. f (g t)) was)
whole-kept f g i None whole = absurd whole
whole-kept f g i (Some was) whole =
    ap (with_targets f) whole
    ∙ with_targets-twice f g (λ t. f (g t)) was (AllByRecursion-from_every (λ t. f (g t) ≡ f (g t)) (λ t. refl) (targets_of was))

whole-laid : (calls : Calls) (old : Code) (plan : Insertions) (f g : ℕ → ℕ) (r : Role) (i : Insn) → HasWhole calls old plan g r i → HasWhole calls old plan (λ t. f (g t)) r (with_targets f i)
whole-laid calls old plan f g (StartNull h) i whole = ap (with_targets f) whole
whole-laid calls old plan f g (StartStore h) i whole = ap (with_targets f) whole
whole-laid calls old plan f g (LoadBefore j h) i whole = ap (with_targets f) whole
whole-laid calls old plan f g (FreeBefore j h) i whole = ap (with_targets f) whole
whole-laid calls old plan f g (NullBefore j h) i whole = ap (with_targets f) whole
whole-laid calls old plan f g (StoreBefore j h) i whole = ap (with_targets f) whole
whole-laid calls old plan f g (Keep j) i whole = whole-kept f g i (insn_of old j) whole
whole-laid calls old plan f g (JumpOf j) i whole = absurd whole
whole-laid calls old plan f g (DupAfter j h) i whole = ap (with_targets f) whole
whole-laid calls old plan f g (LoadAfter j h) i whole = ap (with_targets f) whole
whole-laid calls old plan f g (LinkAfter j h) i whole = ap (with_targets f) whole
whole-laid calls old plan f g (StoreAfter j h) i whole = ap (with_targets f) whole

-- a new item that isn't split
pub whole_insn : (calls : Calls) (old : Code) (plan : Insertions) (k : ℕ) (r : Role) → slice_get (new_roles old plan) k ≡ Some r
    → is_split_of calls old plan k ≡ false
    → IsSomeAnd (laid_insn calls old plan (first_of calls old plan k)) (HasWhole calls old plan (goes_to calls old plan) r)
whole_insn calls old plan k r found whole =
    let item = new_of calls old plan k r found in
    let laid = laid_of old.items (chained calls old plan) in
    let stands = laid_stands_as old.items (chained calls old plan) k item.new item.there in
    let here : StandsWhole laid.items laid.firsts (first_of calls old plan k) item.new.insn =
    subst (λ b. StandsAs b laid.items laid.firsts (first_of calls old plan k) (nat_lt (k + 1) (length (chained calls old plan))) item.new.insn) whole stands in
    subst (λ o. IsSomeAnd o (HasWhole calls old plan (goes_to calls old plan) r)) (sym here)
    (whole-laid calls old plan (slice_index laid.firsts) (slice_index (anchors_of plan old.items)) r item.new.insn item.is_for.whole)

-- ---- split items

-- a new item that is split keeps an old branch
pub record SplitAt (calls : Calls) (old : Code) (plan : Insertions) (k : ℕ) (r : Role) : Type 0 where
  pub item : ℕ
  pub is : r ≡ Keep item
  pub condition : Condition
  pub target : ℕ
  pub other : ℕ
  pub branch : insn_of old item ≡ Some (conditional condition target)
  pub test : laid_insn calls old plan (first_of calls old plan k) ≡ Some (conditional (opposite condition) other)
  pub jump : laid_insn calls old plan (first_of calls old plan k + 1) ≡ Some (insn.Goto (goes_to calls old plan target))
  pub other_is : other ≡ (if nat_lt (k + 1) (length (chained calls old plan)) then first_of calls old plan k + 2 else first_of calls old plan k + 1)

-- which old branch it keeps
record KeptBranch (old : Code) (goes : ℕ → ℕ) (r : Role) (c : Condition) (t : ℕ) : Type 0 where
  item : ℕ
  is : r ≡ Keep item
  target : ℕ
  branch : insn_of old item ≡ Some (conditional c target)
  goes_is : goes target ≡ t

no-branch : (i plain : Insn) (c : Condition) (t : ℕ) → condition_of plain ≡ None → i ≡ plain → i ≡ conditional c t → ⊥
no-branch i plain c t none is same = none-some c (sym none ∙ ap condition_of (sym is) ∙ ap condition_of same ∙ condition-conditional c t)

kept-branch : (old : Code) (goes : ℕ → ℕ) (j : ℕ) (i : Insn) (c : Condition) (t : ℕ) (o : Option Insn) → insn_of old j ≡ o
    → IsSomeAnd o (λ was. i ≡ with_targets goes was) → i ≡ conditional c t → KeptBranch old goes (Keep j) c t
kept-branch old goes j i c t None there whole same = absurd whole
kept-branch old goes j i c t (Some was) there whole same =
    let back = branch-back goes was c t (sym whole ∙ same) in
    record { item = j; is = refl; target = target_of was; branch = there ∙ ap Some back.0; goes_is = back.1 }

split-role : (calls : Calls) (old : Code) (plan : Insertions) (goes : ℕ → ℕ) (r : Role) (i : Insn) (c : Condition) (t : ℕ) → HasWhole calls old plan goes r i → i ≡ conditional c t
    → KeptBranch old goes r c t
split-role calls old plan goes (StartNull h) i c t whole same = absurd (no-branch i insn.Null c t refl whole same)
split-role calls old plan goes (StartStore h) i c t whole same = absurd (no-branch i (insn.Store reg.Ref (old.max_locals + h)) c t refl whole same)
split-role calls old plan goes (LoadBefore j h) i c t whole same = absurd (no-branch i (insn.Load reg.Ref (old.max_locals + h)) c t refl whole same)
split-role calls old plan goes (FreeBefore j h) i c t whole same =
    absurd (no-branch i (insn.Static (if looped_at plan h then calls.free_chain else calls.free)) c t refl whole same)
split-role calls old plan goes (NullBefore j h) i c t whole same = absurd (no-branch i insn.Null c t refl whole same)
split-role calls old plan goes (StoreBefore j h) i c t whole same = absurd (no-branch i (insn.Store reg.Ref (old.max_locals + h)) c t refl whole same)
split-role calls old plan goes (Keep j) i c t whole same = kept-branch old goes j i c t (insn_of old j) refl whole same
split-role calls old plan goes (JumpOf j) i c t whole same = absurd whole
split-role calls old plan goes (DupAfter j h) i c t whole same = absurd (no-branch i insn.Dup c t refl whole same)
split-role calls old plan goes (LoadAfter j h) i c t whole same = absurd (no-branch i (insn.Load reg.Ref (old.max_locals + h)) c t refl whole same)
split-role calls old plan goes (LinkAfter j h) i c t whole same = absurd (no-branch i (insn.Static calls.link) c t refl whole same)
split-role calls old plan goes (StoreAfter j h) i c t whole same = absurd (no-branch i (insn.Store reg.Ref (old.max_locals + h)) c t refl whole same)

pub split_insn : (calls : Calls) (old : Code) (plan : Insertions) (k : ℕ) (r : Role) → slice_get (new_roles old plan) k ≡ Some r
    → is_split_of calls old plan k ≡ true → SplitAt calls old plan k r
split_insn calls old plan k r found split =
    let item = new_of calls old plan k r found in
    let laid = laid_of old.items (chained calls old plan) in
    let follows = nat_lt (k + 1) (length (chained calls old plan)) in
    let stands = laid_stands_as old.items (chained calls old plan) k item.new item.there in
    let here : StandsSplit laid.items laid.firsts (first_of calls old plan k) follows item.new.insn =
    subst (λ b. StandsAs b laid.items laid.firsts (first_of calls old plan k) follows item.new.insn) split stands in
    let kept = split-role calls old plan (slice_index (anchors_of plan old.items)) r item.new.insn here.condition here.target item.is_for.whole here.branch in
    record {
      item = kept.item;
      is = kept.is;
      condition = here.condition;
      target = kept.target;
      other = if follows then first_of calls old plan k + 2 else first_of calls old plan k + 1;
      branch = kept.branch;
      test = here.test;
      jump = here.jump ∙ ap (λ n. Some (insn.Goto (slice_index laid.firsts n))) (sym kept.goes_is);
      other_is = refl;
    }

-- ---- each laid item

-- it is a new item as it was, the opposite test of one that is split, or the goto_w behind that
pub data LaidItem (calls : Calls) (old : Code) (plan : Insertions) (n : ℕ) (r : Role) : Type 0 where
  Whole : (k : ℕ) → n ≡ first_of calls old plan k → slice_get (new_roles old plan) k ≡ Some r → is_split_of calls old plan k ≡ false → LaidItem calls old plan n r
  Test : (k : ℕ) → n ≡ first_of calls old plan k → slice_get (new_roles old plan) k ≡ Some r → is_split_of calls old plan k ≡ true
      → SplitAt calls old plan k r → LaidItem calls old plan n r
  Jump : (k : ℕ) (kept : Role) → n ≡ first_of calls old plan k + 1 → slice_get (new_roles old plan) k ≡ Some kept → is_split_of calls old plan k ≡ true
      → (split : SplitAt calls old plan k kept) → r ≡ JumpOf split.item → LaidItem calls old plan n r

laid-first : (calls : Calls) (old : Code) (plan : Insertions) (n k : ℕ) (r : Role) (b : Bool) → is_split_of calls old plan k ≡ b → n ≡ first_of calls old plan k
    → slice_get (new_roles old plan) k ≡ Some r → LaidItem calls old plan n r
laid-first calls old plan n k r false way same found = Whole k same found way
laid-first calls old plan n k r true way same found = Test k same found way (split_insn calls old plan k r found way)

pub laid_item : (calls : Calls) (old : Code) (plan : Insertions) (n : ℕ) (r : Role) → slice_get (roles_of calls old plan) n ≡ Some r → LaidItem calls old plan n r
laid_item calls old plan n r found =
    let lay = lays calls old plan in
    let each = lay.one_each in
    let inside = slice_get_within (roles_of calls old plan) n r found in
    let place = item_at old.items (chained calls old plan) (new_roles old plan) (roles_of calls old plan) lay n (omega (arith, each, inside)) in
    let k = place.0 in
    let role = element_at (new_roles old plan) k place.1 in
    go k role.0 role.1 place.2 where
      go : (k : ℕ) (x : Role) → slice_get (new_roles old plan) k ≡ Some x
          → (n ≡ first_of calls old plan k) ⊎ ((n ≡ first_of calls old plan k + 1) × (is_split_of calls old plan k ≡ true)) → LaidItem calls old plan n r
      go k x there (inl same) =
          let is : x ≡ r = same_Some _ _ (sym ((lays calls old plan).first k x there) ∙ ap (λ m. slice_get (roles_of calls old plan) m) (sym same) ∙ found) in
          laid-first calls old plan n k r (is_split_of calls old plan k) refl same (there ∙ ap Some is)
      go k x there (inr (same, split)) =
          let is : jump_of x ≡ r = same_Some _ _ (sym ((lays calls old plan).second k x split there) ∙ ap (λ m. slice_get (roles_of calls old plan) m) (sym same) ∙ found) in
          let branch = split_insn calls old plan k x there split in
          Jump k x same there split branch (sym is ∙ ap jump_of branch.is)

-- ---- instructions and holders

pub whole-has : (calls : Calls) (old : Code) (plan : Insertions) (goes : ℕ → ℕ) (r : Role) (i : Insn) → HasWhole calls old plan goes r i → HasInsn calls old plan r i
whole-has calls old plan goes (StartNull h) i whole = whole
whole-has calls old plan goes (StartStore h) i whole = whole
whole-has calls old plan goes (LoadBefore j h) i whole = whole
whole-has calls old plan goes (FreeBefore j h) i whole = whole
whole-has calls old plan goes (NullBefore j h) i whole = whole
whole-has calls old plan goes (StoreBefore j h) i whole = whole
whole-has calls old plan goes (Keep j) i whole = by (insn_of old j) whole where
  by : (o : Option Insn) → IsSomeAnd o (λ was. i ≡ with_targets goes was) → IsSomeAnd o (λ kept. IsRetargeted kept i ⊎ IsOpposite kept i)
  by None none = absurd none
  by (Some was) is = inl (record { targets = goes; is = is })
whole-has calls old plan goes (JumpOf j) i whole = absurd whole
whole-has calls old plan goes (DupAfter j h) i whole = whole
whole-has calls old plan goes (LoadAfter j h) i whole = whole
whole-has calls old plan goes (LinkAfter j h) i whole = whole
whole-has calls old plan goes (StoreAfter j h) i whole = whole

pub some-more : (P Q : Insn → Type 0) → ((i : Insn) → P i → Q i) → (o : Option Insn) → IsSomeAnd o P → IsSomeAnd o Q
some-more P Q more None found = absurd found
some-more P Q more (Some i) found = more i found

-- each laid item has the instruction of its role
pub insns : (calls : Calls) (old : Code) (plan : Insertions) (n : ℕ) (r : Role) → slice_get (roles_of calls old plan) n ≡ Some r
    → IsSomeAnd (laid_insn calls old plan n) (HasInsn calls old plan r)
insns calls old plan n r found = go (laid_item calls old plan n r found) where
  go : LaidItem calls old plan n r → IsSomeAnd (laid_insn calls old plan n) (HasInsn calls old plan r)
  go (Whole k same there way) =
      subst (λ m. IsSomeAnd (laid_insn calls old plan m) (HasInsn calls old plan r)) (sym same)
      (some-more (HasWhole calls old plan (goes_to calls old plan) r) (HasInsn calls old plan r) (λ i whole. whole-has calls old plan (goes_to calls old plan) r i whole)
      (laid_insn calls old plan (first_of calls old plan k)) (whole_insn calls old plan k r there way))
  go (Test k same there way split) =
      subst (λ m. IsSomeAnd (laid_insn calls old plan m) (HasInsn calls old plan r)) (sym same)
      (subst (λ o. IsSomeAnd o (HasInsn calls old plan r)) (sym split.test)
      (subst (λ x. HasInsn calls old plan x (conditional (opposite split.condition) split.other)) (sym split.is)
      (subst (λ o. IsSomeAnd o (λ was. IsRetargeted was (conditional (opposite split.condition) split.other) ⊎ IsOpposite was (conditional (opposite split.condition) split.other)))
      (sym split.branch) (inr (record { condition = split.condition; target = split.target; other = split.other; branch = refl; test = refl })))))
  go (Jump k kept same there way split is) =
      subst (λ m. IsSomeAnd (laid_insn calls old plan m) (HasInsn calls old plan r)) (sym same)
      (subst (λ o. IsSomeAnd o (HasInsn calls old plan r)) (sym split.jump)
      (subst (λ x. HasInsn calls old plan x (insn.Goto (goes_to calls old plan split.target))) (sym is) (
        subst (λ o. IsSomeAnd o IsBranch) (sym split.branch) (record { condition = split.condition; target = split.target; is = refl }),
        record { target = goes_to calls old plan split.target; is = refl },
      )))

-- and its holder is there
pub holders : (calls : Calls) (old : Code) (plan : Insertions) (n : ℕ) (r : Role) → slice_get (roles_of calls old plan) n ≡ Some r → HasHolder plan r
holders calls old plan n r found = go (laid_item calls old plan n r found) where
  go : LaidItem calls old plan n r → HasHolder plan r
  go (Whole k same there way) = (new_of calls old plan k r there).is_for.holder
  go (Test k same there way split) = (new_of calls old plan k r there).is_for.holder
  go (Jump k kept same there way split is) = subst (λ x. HasHolder plan x) (sym is) tt
