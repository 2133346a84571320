-- Where control goes from each laid item.
use Rattle.std.proofs.Common.{◌≡◌, ℕ, suc, ◌+◌, ◌<◌, ◌≤◌, ◌⊎◌, inl, inr, true, false, [], length, Option, Some, None, Contains, IsSomeAnd, refl, sym, ap, subst, ◌∙◌, arith, if◌then◌else◌}
use Rattle.std.specs.Prelude.{nat_lt, slice_get, slice_index}
use Rattle.std.specs.List.{AllByRecursion}
use Rattle.std.specs.Option.{option_map}
use Rattle.std.proofs.lemmas.Bool.{cases_lt, false≢true, le-ltb, lt-ltb}
use Rattle.std.proofs.lemmas.List.Elements.{All-contains, All-from_recursion}
use Rattle.std.proofs.lemmas.Option.{none-some, same_Some, slice_get_within}
use Rattle.fm_base.proofs.ContainsFacts.{Contains-none}
use Rattle.fm_base.proofs.ListFacts.{AllByRecursion-at}
use Rattle.fm_chain.specs.declared.calls.Calls.{Calls}
use Rattle.fm_code.proofs.EdgesLemmas.{Contains-first, Contains-from_map}
use Rattle.fm_code.specs.Edges.{falls_through, insn_of, IsNormalEdge, LeadsTo, MeetsCodeRules}
use Rattle.fm_code.specs.SpellsCode.{targets_of, with_targets}
use Rattle.fm_code.specs.declared.code_array.Code.{Code}
use Rattle.fm_code.specs.declared.code_array.Item.{Item}
use Rattle.fm_code.specs.declared.instructions.Insn.{Insn}
use Rattle.fm_code.specs.declared.instructions.Insn.TheVariants as insn
use Rattle.fm_code.specs.declared.operations.Reg.TheVariants as reg
use Rattle.fm_conn.proofs.ListLemmas.{Contains-one}
use Rattle.fm_flow.proofs.CodeFacts.{targets_inside}
use Rattle.fm_flow.proofs.ReachLemmas.{edge_from_item}
use Rattle.fm_layout.specs.Spelling.{conditional, opposite}
use Rattle.fm_place.proofs.WovenLemmas.{targets-of-with}
use Rattle.fm_place.specs.Insertions.{Insertions}
use Rattle.fm_chain.specs.Chained.{anchors_of, chained, chained_code, looped_at}
use Rattle.fm_law_woven_flow.proofs.LaidItems.{falls-conditional, falls-with, first_of, goes_to, laid_insn, is_split_of, item_total, Jump, laid_item, LaidItem, lays, SplitAt, targets-conditional, Test, Whole, whole_insn}
use Rattle.fm_law_woven_flow.proofs.LaidRoles.{width}
use Rattle.fm_law_woven_flow.proofs.NewItems.{HasWhole, new_count}
use Rattle.fm_law_woven_flow.proofs.RoleLists.{element_at, entry_at, Next, next_role}
use Rattle.fm_law_woven_flow.specs.Roles.{DupAfter, FallsAt, Follows, FreeBefore, GoesOn, GoesTo, IsEntry, JumpOf, Keep, LinkAfter, LoadAfter, LoadBefore, NullBefore, Role, RolesFollow, StartNull, StartStore, StoreAfter, StoreBefore}
use Rattle.fm_law_woven_flow.specs.inner.RolesOf.{jump_of, new_roles, roles_of}

-- ---- old items

-- the item of an instruction
insn-item : (o : Option Item) (i : Insn) → option_map (λ (item : Item). item.insn) o ≡ Some i → (item : Item) × (o ≡ Some item) × (item.insn ≡ i)
insn-item None i found = absurd (none-some i found)
insn-item (Some item) i found = (item, refl, same_Some _ _ found)

-- a target is an item
pub target_inside : (old : Code) → MeetsCodeRules old → (j : ℕ) (i : Insn) (t : ℕ) → insn_of old j ≡ Some i → Contains (targets_of i) t → t < length old.items
target_inside old rules j i t found named =
    let item = insn-item (slice_get old.items j) i found in
    let P : ℕ → Type 0 = λ target. target < length old.items in
    let all = AllByRecursion-at (λ (x : Item). AllByRecursion P (targets_of x.insn)) old.items j item.0 (targets_inside old rules) item.1 in
    let each : AllByRecursion P (targets_of i) = subst (λ x. AllByRecursion P (targets_of x)) item.2 all in
    All-contains P (targets_of i) t (All-from_recursion P (targets_of i) each) named

-- ---- roles at the ends

-- where a target goes, there is an entry of it
pub to_entry : (calls : Calls) (old : Code) (plan : Insertions) (t : ℕ) → t < length old.items
    → (to : Role) × (slice_get (roles_of calls old plan) (goes_to calls old plan t) ≡ Some to) × IsEntry old t to
to_entry calls old plan t inside =
    let entry = entry_at old plan t inside in
    (entry.0, (lays calls old plan).first (slice_index (anchors_of plan old.items) t) entry.0 entry.1, entry.2)

-- a new item before the last laid one isn't the last
pub inside_next : (calls : Calls) (old : Code) (plan : Insertions) (k : ℕ) → k < length (new_roles old plan)
    → first_of calls old plan (suc k) < item_total calls old plan → suc k < length (new_roles old plan)
inside_next calls old plan k inside below = go (cases_lt (suc k) (length (new_roles old plan))) where
  go : (suc k < length (new_roles old plan)) ⊎ (length (new_roles old plan) ≤ suc k) → suc k < length (new_roles old plan)
  go (inl less) = less
  go (inr more) =
      let last : suc k ≡ length (new_roles old plan) = omega arith in
      let end = (lays calls old plan).end in
      let same = ap (λ n. first_of calls old plan n) last in
      absurd (omega (arith, end, same))

-- the role of the next new item
pub role_next : (calls : Calls) (old : Code) (plan : Insertions) (k : ℕ) (r : Role) → slice_get (new_roles old plan) k ≡ Some r → suc k < length (new_roles old plan)
    → (to : Role) × (slice_get (roles_of calls old plan) (first_of calls old plan (suc k)) ≡ Some to) × Next old plan r to
role_next calls old plan k r found inside =
    let next = element_at (new_roles old plan) (suc k) inside in
    (next.0, (lays calls old plan).first (suc k) next.0 next.1, next_role old plan k r next.0 found next.1)

-- ---- whole items

-- one that names a target keeps an old item that does
record NamesOld (old : Code) (goes : ℕ → ℕ) (r : Role) (next : ℕ) : Type 0 where
  item : ℕ
  is : r ≡ Keep item
  was : Insn
  was_is : insn_of old item ≡ Some was
  target : ℕ
  named : Contains (targets_of was) target
  goes_is : goes target ≡ next

no-target : (i plain : Insn) (next : ℕ) → targets_of plain ≡ [] → i ≡ plain → Contains (targets_of i) next → ⊥
no-target i plain next none is named = Contains-none next (subst (λ xs. Contains xs next) (ap targets_of is ∙ none) named)

names-kept : (old : Code) (goes : ℕ → ℕ) (j : ℕ) (i : Insn) (next : ℕ) (o : Option Insn) → insn_of old j ≡ o → IsSomeAnd o (λ was. i ≡ with_targets goes was)
    → Contains (targets_of i) next → NamesOld old goes (Keep j) next
names-kept old goes j i next None there whole named = absurd whole
names-kept old goes j i next (Some was) there whole named =
    let found = Contains-from_map goes (targets_of was) next (subst (λ xs. Contains xs next) (ap targets_of whole ∙ targets-of-with goes was) named) in
    record { item = j; is = refl; was = was; was_is = there; target = found.0; named = found.1; goes_is = found.2 }

names-old : (calls : Calls) (old : Code) (plan : Insertions) (goes : ℕ → ℕ) (r : Role) (i : Insn) (next : ℕ) → HasWhole calls old plan goes r i → Contains (targets_of i) next
    → NamesOld old goes r next
names-old calls old plan goes (StartNull h) i next whole named = absurd (no-target i insn.Null next refl whole named)
names-old calls old plan goes (StartStore h) i next whole named = absurd (no-target i (insn.Store reg.Ref (old.max_locals + h)) next refl whole named)
names-old calls old plan goes (LoadBefore j h) i next whole named = absurd (no-target i (insn.Load reg.Ref (old.max_locals + h)) next refl whole named)
names-old calls old plan goes (FreeBefore j h) i next whole named =
    absurd (no-target i (insn.Static (if looped_at plan h then calls.free_chain else calls.free)) next refl whole named)
names-old calls old plan goes (NullBefore j h) i next whole named = absurd (no-target i insn.Null next refl whole named)
names-old calls old plan goes (StoreBefore j h) i next whole named = absurd (no-target i (insn.Store reg.Ref (old.max_locals + h)) next refl whole named)
names-old calls old plan goes (Keep j) i next whole named = names-kept old goes j i next (insn_of old j) refl whole named
names-old calls old plan goes (JumpOf j) i next whole named = absurd whole
names-old calls old plan goes (DupAfter j h) i next whole named = absurd (no-target i insn.Dup next refl whole named)
names-old calls old plan goes (LoadAfter j h) i next whole named = absurd (no-target i (insn.Load reg.Ref (old.max_locals + h)) next refl whole named)
names-old calls old plan goes (LinkAfter j h) i next whole named = absurd (no-target i (insn.Static calls.link) next refl whole named)
names-old calls old plan goes (StoreAfter j h) i next whole named = absurd (no-target i (insn.Store reg.Ref (old.max_locals + h)) next refl whole named)

pub falls-kept : (goes : ℕ → ℕ) (i : Insn) (o : Option Insn) → IsSomeAnd o (λ was. i ≡ with_targets goes was) → falls_through i ≡ true
    → IsSomeAnd o (λ was. falls_through was ≡ true)
falls-kept goes i None whole falls = absurd whole
falls-kept goes i (Some was) whole falls = sym (falls-with goes was) ∙ ap falls_through (sym whole) ∙ falls

-- where control goes on, it goes to what follows in the list
pub next_follows : (calls : Calls) (old : Code) (plan : Insertions) (goes : ℕ → ℕ) (r to : Role) (i : Insn) → HasWhole calls old plan goes r i → falls_through i ≡ true
    → Next old plan r to → Follows old plan r to
next_follows calls old plan goes (StartNull h) to i whole falls next = next
next_follows calls old plan goes (StartStore h) to i whole falls next = next
next_follows calls old plan goes (LoadBefore j h) to i whole falls next = next
next_follows calls old plan goes (FreeBefore j h) to i whole falls next = next
next_follows calls old plan goes (NullBefore j h) to i whole falls next = next
next_follows calls old plan goes (StoreBefore j h) to i whole falls next = next
next_follows calls old plan goes (Keep j) to i whole falls next = inr (inr (falls-kept goes i (insn_of old j) whole falls, next))
next_follows calls old plan goes (JumpOf j) to i whole falls next = absurd whole
next_follows calls old plan goes (DupAfter j h) to i whole falls next = next
next_follows calls old plan goes (LoadAfter j h) to i whole falls next = next
next_follows calls old plan goes (LinkAfter j h) to i whole falls next = next
next_follows calls old plan goes (StoreAfter j h) to i whole falls next = next

-- an old item's branch to a target that is an entry
goes-to : (old : Code) (j : ℕ) (i : Insn) (t : ℕ) (to : Role) → insn_of old j ≡ Some i → Contains (targets_of i) t → IsEntry old t to → GoesTo old j to
goes-to old j i t to found named entry =
    subst (λ o. IsSomeAnd o (λ x. (u : ℕ) × (Contains (targets_of x) u) × IsEntry old u to)) (sym found) (t, named, entry)

-- from a whole item
from_whole : (calls : Calls) (old : Code) (plan : Insertions) → MeetsCodeRules old → (k : ℕ) (r : Role) (next : ℕ) (i : Insn) → slice_get (new_roles old plan) k ≡ Some r
    → is_split_of calls old plan k ≡ false → next < item_total calls old plan → HasWhole calls old plan (goes_to calls old plan) r i
    → LeadsTo i (first_of calls old plan k) next → RolesFollow old plan (roles_of calls old plan) (first_of calls old plan k) next
from_whole calls old plan rules k r next i found way inside whole (inl named) =
    let lay = lays calls old plan in
    let names = names-old calls old plan (goes_to calls old plan) r i next whole named in
    let entry = to_entry calls old plan names.target (target_inside old rules names.item names.was names.target names.was_is names.named) in
    record {
      from = r;
      to = entry.0;
      from_is = lay.first k r found;
      to_is = ap (λ n. slice_get (roles_of calls old plan) n) (sym names.goes_is) ∙ entry.1;
      follows = subst (λ x. Follows old plan x entry.0) (sym names.is)
          (inl (goes-to old names.item names.was names.target entry.0 names.was_is names.named entry.2));
    }
from_whole calls old plan rules k r next i found way inside whole (inr (falls, same)) =
    let lay = lays calls old plan in
    let within = slice_get_within (new_roles old plan) k r found in
    let step = lay.step k within ∙ ap (λ b. first_of calls old plan k + width b) way in
    let there : next ≡ first_of calls old plan (suc k) = same ∙ sym step in
    let behind = role_next calls old plan k r found (inside_next calls old plan k within (subst (λ n. n < item_total calls old plan) there inside)) in
    record {
      from = r;
      to = behind.0;
      from_is = lay.first k r found;
      to_is = ap (λ n. slice_get (roles_of calls old plan) n) there ∙ behind.1;
      follows = next_follows calls old plan (goes_to calls old plan) r behind.0 i whole falls behind.2;
    }

-- ---- split items

-- the new item behind one that is split is two laid items further
pub split_step : (calls : Calls) (old : Code) (plan : Insertions) (k : ℕ) → k < length (new_roles old plan) → is_split_of calls old plan k ≡ true
    → first_of calls old plan (suc k) ≡ first_of calls old plan k + 2
split_step calls old plan k inside split = (lays calls old plan).step k inside ∙ ap (λ b. first_of calls old plan k + width b) split

-- from an opposite test to its goto_w
to-jump : (calls : Calls) (old : Code) (plan : Insertions) (k : ℕ) (r : Role) (next : ℕ) → slice_get (new_roles old plan) k ≡ Some r
    → is_split_of calls old plan k ≡ true → SplitAt calls old plan k r → next ≡ first_of calls old plan k + 1
    → RolesFollow old plan (roles_of calls old plan) (first_of calls old plan k) next
to-jump calls old plan k r next found way split same =
    let lay = lays calls old plan in
    record {
      from = r;
      to = JumpOf split.item;
      from_is = lay.first k r found;
      to_is = ap (λ n. slice_get (roles_of calls old plan) n) same ∙ lay.second k r way found ∙ ap (λ x. Some (jump_of x)) split.is;
      follows = subst (λ x. Follows old plan x (JumpOf split.item)) (sym split.is) (inr (inl refl));
    }

-- or past it
past-jump : (calls : Calls) (old : Code) (plan : Insertions) (k : ℕ) (r : Role) (next : ℕ) → slice_get (new_roles old plan) k ≡ Some r
    → is_split_of calls old plan k ≡ true → SplitAt calls old plan k r → suc k < length (new_roles old plan) → next ≡ first_of calls old plan k + 2
    → RolesFollow old plan (roles_of calls old plan) (first_of calls old plan k) next
past-jump calls old plan k r next found way split more same =
    let lay = lays calls old plan in
    let within = slice_get_within (new_roles old plan) k r found in
    let there : next ≡ first_of calls old plan (suc k) = same ∙ sym (split_step calls old plan k within way) in
    let behind = role_next calls old plan k r found more in
    let goes_on : GoesOn old split.item behind.0 = subst (λ x. Next old plan x behind.0) split.is behind.2 in
    let falls : FallsAt old split.item =
    subst (λ o. IsSomeAnd o (λ x. falls_through x ≡ true)) (sym split.branch) (falls-conditional split.condition split.target) in
    record {
      from = r;
      to = behind.0;
      from_is = lay.first k r found;
      to_is = ap (λ n. slice_get (roles_of calls old plan) n) there ∙ behind.1;
      follows = subst (λ x. Follows old plan x behind.0) (sym split.is) (inr (inr (falls, goes_on)));
    }

from_test : (calls : Calls) (old : Code) (plan : Insertions) (k : ℕ) (r : Role) (next : ℕ) → slice_get (new_roles old plan) k ≡ Some r
    → is_split_of calls old plan k ≡ true → (split : SplitAt calls old plan k r)
    → LeadsTo (conditional (opposite split.condition) split.other) (first_of calls old plan k) next
    → RolesFollow old plan (roles_of calls old plan) (first_of calls old plan k) next
from_test calls old plan k r next found way split (inr (falls, same)) = to-jump calls old plan k r next found way split same
from_test calls old plan k r next found way split (inl named) =
    let only = Contains-one split.other next (subst (λ xs. Contains xs next) (targets-conditional (opposite split.condition) split.other) named) in
    go (cases_lt (k + 1) (length (chained calls old plan))) (only ∙ split.other_is) where
      go : (k + 1 < length (chained calls old plan)) ⊎ (length (chained calls old plan) ≤ k + 1)
          → next ≡ (if nat_lt (k + 1) (length (chained calls old plan)) then first_of calls old plan k + 2 else first_of calls old plan k + 1)
          → RolesFollow old plan (roles_of calls old plan) (first_of calls old plan k) next
      go (inl less) is =
          let count = new_count calls old plan in
          past-jump calls old plan k r next found way split (omega (arith, count))
          (is ∙ ap (λ b. if b then first_of calls old plan k + 2 else first_of calls old plan k + 1) (lt-ltb (k + 1) (length (chained calls old plan)) less))
      go (inr more) is =
          to-jump calls old plan k r next found way split
          (is ∙ ap (λ b. if b then first_of calls old plan k + 2 else first_of calls old plan k + 1) (le-ltb (k + 1) (length (chained calls old plan)) more))

-- from a goto_w to what its branch names
from_jump : (calls : Calls) (old : Code) (plan : Insertions) → MeetsCodeRules old → (k : ℕ) (kept : Role) (next : ℕ) → slice_get (new_roles old plan) k ≡ Some kept
    → is_split_of calls old plan k ≡ true → (split : SplitAt calls old plan k kept)
    → LeadsTo (insn.Goto (goes_to calls old plan split.target)) (first_of calls old plan k + 1) next
    → RolesFollow old plan (roles_of calls old plan) (first_of calls old plan k + 1) next
from_jump calls old plan rules k kept next found way split (inr (falls, same)) = absurd (false≢true falls)
from_jump calls old plan rules k kept next found way split (inl named) =
    let lay = lays calls old plan in
    let only = Contains-one (goes_to calls old plan split.target) next named in
    let own : Contains (targets_of (conditional split.condition split.target)) split.target =
    subst (λ xs. Contains xs split.target) (sym (targets-conditional split.condition split.target)) (Contains-first split.target [] split.target refl) in
    let entry = to_entry calls old plan split.target
    (target_inside old rules split.item (conditional split.condition split.target) split.target split.branch own) in
    record {
      from = JumpOf split.item;
      to = entry.0;
      from_is = lay.second k kept way found ∙ ap (λ x. Some (jump_of x)) split.is;
      to_is = ap (λ n. slice_get (roles_of calls old plan) n) only ∙ entry.1;
      follows = goes-to old split.item (conditional split.condition split.target) split.target entry.0 split.branch own entry.2;
    }

-- ---- each edge

pub both-some : (P Q : Insn → Type 0) (o : Option Insn) → IsSomeAnd o P → IsSomeAnd o Q → (i : Insn) × P i × Q i
both-some P Q None p q = absurd p
both-some P Q (Some i) p q = (i, p, q)

pub follow_edge : (calls : Calls) (old : Code) (plan : Insertions) → MeetsCodeRules old → (n next : ℕ) → IsNormalEdge (chained_code calls old plan) n next
    → RolesFollow old plan (roles_of calls old plan) n next
follow_edge calls old plan rules n next edge =
    let each = (lays calls old plan).one_each in
    let inside : n < item_total calls old plan = edge_from_item (chained_code calls old plan) n next (inl edge) in
    let role = element_at (roles_of calls old plan) n (omega (arith, each, inside)) in
    go role.0 (laid_item calls old plan n role.0 role.1) where
      go : (r : Role) → LaidItem calls old plan n r → RolesFollow old plan (roles_of calls old plan) n next
      go r (Whole k same there way) =
          let leads = subst (λ m. IsSomeAnd (laid_insn calls old plan m) (λ i. LeadsTo i m next)) same edge.leads in
          let both = both-some (HasWhole calls old plan (goes_to calls old plan) r) (λ i. LeadsTo i (first_of calls old plan k) next)
          (laid_insn calls old plan (first_of calls old plan k)) (whole_insn calls old plan k r there way) leads in
          subst (λ m. RolesFollow old plan (roles_of calls old plan) m next) (sym same)
          (from_whole calls old plan rules k r next both.0 there way edge.inside both.1 both.2)
      go r (Test k same there way split) =
          let leads = subst (λ m. IsSomeAnd (laid_insn calls old plan m) (λ i. LeadsTo i m next)) same edge.leads in
          subst (λ m. RolesFollow old plan (roles_of calls old plan) m next) (sym same)
          (from_test calls old plan k r next there way split (subst (λ o. IsSomeAnd o (λ i. LeadsTo i (first_of calls old plan k) next)) split.test leads))
      go r (Jump k kept same there way split is) =
          let leads = subst (λ m. IsSomeAnd (laid_insn calls old plan m) (λ i. LeadsTo i m next)) same edge.leads in
          subst (λ m. RolesFollow old plan (roles_of calls old plan) m next) (sym same)
          (from_jump calls old plan rules k kept next there way split (subst (λ o. IsSomeAnd o (λ i. LeadsTo i (first_of calls old plan k + 1) next)) split.jump leads))
