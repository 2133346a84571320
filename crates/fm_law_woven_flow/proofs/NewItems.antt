-- The instructions of new items, by their roles.
use Rattle.std.proofs.Common.{◌≡◌, ℕ, zero, suc, ◌+◌, ◌<◌, Bool, true, false, List, [], ◌∷◌, ◌++◌, length, Option, Some, None, Contains, IsSomeAnd, refl, sym, ap, subst, arith, if◌then◌else◌}
use Rattle.std.specs.Prelude.{slice_get, slice_index}
use Rattle.std.specs.List.{flat_map, range_with_len}
use Rattle.std.specs.Option.{option_map}
use Rattle.std.proofs.lemmas.Option.{none-some, same_Some}
use Rattle.fm_chain.specs.declared.calls.Calls.{Calls}
use Rattle.fm_code.proofs.EdgesLemmas.{Contains-first, Contains-later}
use Rattle.fm_code.specs.Edges.{insn_of}
use Rattle.fm_code.specs.SpellsCode.{with_targets}
use Rattle.fm_code.specs.declared.code_array.Code.{Code}
use Rattle.fm_code.specs.declared.code_array.Item.{Item}
use Rattle.fm_code.specs.declared.instructions.Insn.{Insn}
use Rattle.fm_code.specs.declared.instructions.Insn.TheVariants as insn
use Rattle.fm_code.specs.declared.operations.Reg.TheVariants as reg
use Rattle.fm_conn.proofs.ListLemmas.{Contains-from_range}
use Rattle.fm_layout.specs.declared.new_items.NewItem.{NewItem}
use Rattle.fm_place.specs.Insertions.{after_at, before_at, Insertions}
use Rattle.fm_chain.specs.Chained.{anchors_of, chained, chained_item, chained_items, looped_at, released, taken}
use Rattle.fm_place.specs.Woven.{kept, local_of, null_stored}
use Rattle.fm_law_woven_flow.specs.Roles.{DupAfter, FreeBefore, HasHolder, JumpOf, Keep, LinkAfter, LoadAfter, LoadBefore, NullBefore, Role, StartNull, StartStore, StoreAfter, StoreBefore}
use Rattle.fm_law_woven_flow.specs.inner.RolesOf.{after_roles, before_roles, item_roles, new_roles, roles_behind, roles_from, start_roles}

-- the instruction of an item, where targets of old items go to new ones by a function
abbrev pub HasWhole : Calls → Code → Insertions → (ℕ → ℕ) → Role → Insn → Type 0
HasWhole calls old plan goes (StartNull h) i = i ≡ insn.Null
HasWhole calls old plan goes (StartStore h) i = i ≡ insn.Store reg.Ref (local_of old h)
HasWhole calls old plan goes (LoadBefore j h) i = i ≡ insn.Load reg.Ref (local_of old h)
HasWhole calls old plan goes (FreeBefore j h) i = i ≡ insn.Static (if looped_at plan h then calls.free_chain else calls.free)
HasWhole calls old plan goes (NullBefore j h) i = i ≡ insn.Null
HasWhole calls old plan goes (StoreBefore j h) i = i ≡ insn.Store reg.Ref (local_of old h)
HasWhole calls old plan goes (Keep j) i = IsSomeAnd (insn_of old j) (λ was. i ≡ with_targets goes was)
HasWhole calls old plan goes (JumpOf j) i = ⊥
HasWhole calls old plan goes (DupAfter j h) i = i ≡ insn.Dup
HasWhole calls old plan goes (LoadAfter j h) i = i ≡ insn.Load reg.Ref (local_of old h)
HasWhole calls old plan goes (LinkAfter j h) i = i ≡ insn.Static calls.link
HasWhole calls old plan goes (StoreAfter j h) i = i ≡ insn.Store reg.Ref (local_of old h)

-- a new item is what its role says
pub record IsFor (calls : Calls) (old : Code) (plan : Insertions) (new : NewItem) (r : Role) : Type 0 where
  pub whole : HasWhole calls old plan (slice_index (anchors_of plan old.items)) r new.insn
  pub holder : HasHolder plan r

-- each of them
abbrev AreFor : (calls : Calls) → Code → Insertions → List NewItem → List Role → Type 0
AreFor calls old plan [] [] = Unit {0}
AreFor calls old plan [] (r ∷ roles) = ⊥
AreFor calls old plan (new ∷ news) [] = ⊥
AreFor calls old plan (new ∷ news) (r ∷ roles) = IsFor calls old plan new r × AreFor calls old plan news roles

for-append : (calls : Calls) (old : Code) (plan : Insertions) (news more : List NewItem) (roles others : List Role) → AreFor calls old plan news roles
    → AreFor calls old plan more others → AreFor calls old plan (news ++ more) (roles ++ others)
for-append calls old plan [] more [] others here there = there
for-append calls old plan [] more (r ∷ roles) others here there = absurd here
for-append calls old plan (new ∷ news) more [] others here there = absurd here
for-append calls old plan (new ∷ news) more (r ∷ roles) others here there = (here.0, for-append calls old plan news more roles others here.1 there)

for-flat : (calls : Calls) (old : Code) (plan : Insertions) (f : ℕ → List NewItem) (g : ℕ → List Role) (hs : List ℕ)
    → ((h : ℕ) → Contains hs h → AreFor calls old plan (f h) (g h)) → AreFor calls old plan (flat_map f hs) (flat_map g hs)
for-flat calls old plan f g [] each = tt
for-flat calls old plan f g (h ∷ hs) each =
    for-append calls old plan (f h) (flat_map f hs) (g h) (flat_map g hs) (each h (Contains-first h hs h refl))
    (for-flat calls old plan f g hs (λ k found. each k (Contains-later h hs k found)))

kept-same : (goes : ℕ → ℕ) (item : Item) (o : Option Item) → o ≡ Some item
    → IsSomeAnd (option_map (λ (x : Item). x.insn) o) (λ was. with_targets goes item.insn ≡ with_targets goes was)
kept-same goes item None is = absurd (none-some item is)
kept-same goes item (Some x) is = ap (λ (y : Item). with_targets goes y.insn) (sym (same_Some _ _ is))

-- what a holder keeps after an old item
for-behind : (calls : Calls) (old : Code) (plan : Insertions) (looped : Bool) (j h : ℕ) → looped_at plan h ≡ looped → Contains (after_at plan j) h
    → AreFor calls old plan (taken calls looped (local_of old h)) (roles_behind looped j h)
for-behind calls old plan true j h is found = (
  record { whole = refl; holder = found },
  (record { whole = refl; holder = (found, is) }, (record { whole = refl; holder = (found, is) }, (record { whole = refl; holder = found }, tt))),
)
for-behind calls old plan false j h is found = (record { whole = refl; holder = found }, (record { whole = refl; holder = found }, tt))

for-item : (calls : Calls) (old : Code) (plan : Insertions) (j : ℕ) (item : Item) → slice_get old.items j ≡ Some item
    → AreFor calls old plan (chained_item calls old plan (anchors_of plan old.items) j item.insn) (item_roles plan j)
for-item calls old plan j item is =
    for-append calls old plan (flat_map (λ h. released calls (looped_at plan h) (local_of old h)) (before_at plan j))
    (kept (anchors_of plan old.items) j item.insn ∷ flat_map (λ h. taken calls (looped_at plan h) (local_of old h)) (after_at plan j)) (flat_map (before_roles j) (before_at plan j))
    (Keep j ∷ flat_map (after_roles plan j) (after_at plan j))
    (for-flat calls old plan (λ h. released calls (looped_at plan h) (local_of old h)) (before_roles j) (before_at plan j) (λ h found. (
      record { whole = refl; holder = found },
      (record { whole = refl; holder = found }, (record { whole = refl; holder = found }, (record { whole = refl; holder = found }, tt))),
    ))) (
      record { whole = kept-same (slice_index (anchors_of plan old.items)) item (slice_get old.items j) is; holder = tt },
      for-flat calls old plan (λ h. taken calls (looped_at plan h) (local_of old h)) (after_roles plan j) (after_at plan j)
          (λ h found. for-behind calls old plan (looped_at plan h) j h refl found),
    )

for-from : (calls : Calls) (old : Code) (plan : Insertions) (j : ℕ) (items : List Item)
    → ((k : ℕ) (item : Item) → slice_get items k ≡ Some item → slice_get old.items (j + k) ≡ Some item)
    → AreFor calls old plan (chained_items calls old plan (anchors_of plan old.items) j items) (roles_from plan j items)
for-from calls old plan j [] there = tt
for-from calls old plan j (item ∷ items) there =
    for-append calls old plan (chained_item calls old plan (anchors_of plan old.items) j item.insn) (chained_items calls old plan (anchors_of plan old.items) (j + 1) items)
    (item_roles plan j) (roles_from plan (j + 1) items)
    (for-item calls old plan j item (subst (λ n. slice_get old.items n ≡ Some item) (omega arith) (there 0 item refl)))
    (for-from calls old plan (j + 1) items (λ k other is. subst (λ n. slice_get old.items n ≡ Some other) (omega arith) (there (suc k) other is)))

all-for : (calls : Calls) (old : Code) (plan : Insertions) → AreFor calls old plan (chained calls old plan) (new_roles old plan)
all-for calls old plan =
    for-append calls old plan (flat_map (λ h. null_stored (local_of old h)) (range_with_len 0 (length plan.holders)))
    (chained_items calls old plan (anchors_of plan old.items) 0 old.items) (flat_map start_roles (range_with_len 0 (length plan.holders))) (roles_from plan 0 old.items)
    (for-flat calls old plan (λ h. null_stored (local_of old h)) start_roles (range_with_len 0 (length plan.holders))
    (λ h found. (record { whole = refl; holder = inside h found }, (record { whole = refl; holder = inside h found }, tt))))
    (for-from calls old plan 0 old.items (λ k item is. subst (λ n. slice_get old.items n ≡ Some item) (omega arith) is)) where
      inside : (h : ℕ) → Contains (range_with_len 0 (length plan.holders)) h → h < length plan.holders
      inside h found = let within = (Contains-from_range 0 (length plan.holders) h found).1 in omega (arith, within)

for-length : (calls : Calls) (old : Code) (plan : Insertions) (news : List NewItem) (roles : List Role) → AreFor calls old plan news roles → length roles ≡ length news
for-length calls old plan [] [] all = refl
for-length calls old plan [] (r ∷ roles) all = absurd all
for-length calls old plan (new ∷ news) [] all = absurd all
for-length calls old plan (new ∷ news) (r ∷ roles) all = ap suc (for-length calls old plan news roles all.1)

-- the new item of a role
pub record NewOf (calls : Calls) (old : Code) (plan : Insertions) (news : List NewItem) (k : ℕ) (r : Role) : Type 0 where
  pub new : NewItem
  pub there : slice_get news k ≡ Some new
  pub is_for : IsFor calls old plan new r

for-at : (calls : Calls) (old : Code) (plan : Insertions) (news : List NewItem) (roles : List Role) (k : ℕ) (r : Role) → AreFor calls old plan news roles
    → slice_get roles k ≡ Some r → NewOf calls old plan news k r
for-at calls old plan [] [] k r all found = absurd (none-some r found)
for-at calls old plan [] (x ∷ roles) k r all found = absurd all
for-at calls old plan (new ∷ news) [] k r all found = absurd all
for-at calls old plan (new ∷ news) (x ∷ roles) zero r all found =
    record { new = new; there = refl; is_for = subst (λ y. IsFor calls old plan new y) (same_Some _ _ found) all.0 }
for-at calls old plan (new ∷ news) (x ∷ roles) (suc k) r all found =
    let later = for-at calls old plan news roles k r all.1 found in record { new = later.new; there = later.there; is_for = later.is_for }

pub new_of : (calls : Calls) (old : Code) (plan : Insertions) (k : ℕ) (r : Role) → slice_get (new_roles old plan) k ≡ Some r
    → NewOf calls old plan (chained calls old plan) k r
new_of calls old plan k r found = for-at calls old plan (chained calls old plan) (new_roles old plan) k r (all-for calls old plan) found

-- as many roles as new items
pub new_count : (calls : Calls) (old : Code) (plan : Insertions) → length (new_roles old plan) ≡ length (chained calls old plan)
new_count calls old plan = for-length calls old plan (chained calls old plan) (new_roles old plan) (all-for calls old plan)
