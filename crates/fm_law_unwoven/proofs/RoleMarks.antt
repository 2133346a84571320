-- The marks of code with insertions, by the roles of its items.
use Rattle.std.proofs.Common.{◌≡◌, ℕ, ◌+◌, Bool, true, false, List, [], ◌∷◌, ◌++◌, length, map, Option, Some, None, refl, sym, ap, ◌∙◌}
use Rattle.std.specs.List.{flat_map, range_with_len}
use Rattle.std.proofs.lemmas.List.{map-append}
use Rattle.fm_chain.specs.declared.calls.Calls.{Calls}
use Rattle.fm_code.specs.declared.code_array.Code.{Code}
use Rattle.fm_code.specs.declared.code_array.Item.{Item}
use Rattle.fm_layout.specs.Laid.{branch_marks, marks_from, marks_in, marks_of}
use Rattle.fm_layout.specs.Rooms.{rooms_of, widened_rooms}
use Rattle.fm_layout.specs.declared.new_items.NewItem.{NewItem}
use Rattle.fm_layout.specs.declared.rooms.Condition.{Condition}
use Rattle.fm_layout.specs.declared.rooms.Room.{Room}
use Rattle.fm_layout.specs.declared.rooms.Room.TheVariants as room
use Rattle.fm_place.specs.Insertions.{after_at, before_at, Insertions}
use Rattle.fm_chain.specs.Chained.{anchors_of, chained, chained_item, chained_items, chained_marks, looped_at, released, taken}
use Rattle.fm_place.specs.Woven.{kept, local_of, null_stored}
use Rattle.fm_law_woven_flow.specs.Roles.{DupAfter, FreeBefore, JumpOf, Keep, LinkAfter, LoadAfter, LoadBefore, NullBefore, Role, StartNull, StartStore, StoreAfter, StoreBefore}
use Rattle.fm_law_woven_flow.specs.inner.RolesOf.{after_roles, before_roles, branch_roles, item_roles, jump_of, laid_roles, new_roles, roles_behind, roles_from, roles_in, roles_of, start_roles}

-- the old item that an item of this role is, if it isn't inserted
abbrev pub mark_of : Role → Option ℕ
mark_of (StartNull h) = None
mark_of (StartStore h) = None
mark_of (LoadBefore j h) = None
mark_of (FreeBefore j h) = None
mark_of (NullBefore j h) = None
mark_of (StoreBefore j h) = None
mark_of (Keep j) = Some j
mark_of (JumpOf j) = None
mark_of (DupAfter j h) = None
mark_of (LoadAfter j h) = None
mark_of (LinkAfter j h) = None
mark_of (StoreAfter j h) = None

-- the goto_w behind a test is inserted
jump_mark : (r : Role) → mark_of (jump_of r) ≡ None
jump_mark (StartNull h) = refl
jump_mark (StartStore h) = refl
jump_mark (LoadBefore j h) = refl
jump_mark (FreeBefore j h) = refl
jump_mark (NullBefore j h) = refl
jump_mark (StoreBefore j h) = refl
jump_mark (Keep j) = refl
jump_mark (JumpOf j) = refl
jump_mark (DupAfter j h) = refl
jump_mark (LoadAfter j h) = refl
jump_mark (LinkAfter j h) = refl
jump_mark (StoreAfter j h) = refl

-- ---- new items

-- each new item keeps the old one of its role
abbrev AreMarked : List NewItem → List Role → Type 0
AreMarked [] [] = Unit {0}
AreMarked [] (r ∷ roles) = ⊥
AreMarked (new ∷ news) [] = ⊥
AreMarked (new ∷ news) (r ∷ roles) = (new.kept ≡ mark_of r) × AreMarked news roles

marked-append : (news more : List NewItem) (roles others : List Role) → AreMarked news roles → AreMarked more others → AreMarked (news ++ more) (roles ++ others)
marked-append [] more [] others here there = there
marked-append [] more (r ∷ roles) others here there = absurd here
marked-append (new ∷ news) more [] others here there = absurd here
marked-append (new ∷ news) more (r ∷ roles) others here there = (here.0, marked-append news more roles others here.1 there)

marked-flat : (f : ℕ → List NewItem) (g : ℕ → List Role) (hs : List ℕ) → ((h : ℕ) → AreMarked (f h) (g h)) → AreMarked (flat_map f hs) (flat_map g hs)
marked-flat f g [] each = tt
marked-flat f g (h ∷ hs) each = marked-append (f h) (flat_map f hs) (g h) (flat_map g hs) (each h) (marked-flat f g hs each)

marked-behind : (calls : Calls) (looped : Bool) (local j h : ℕ) → AreMarked (taken calls looped local) (roles_behind looped j h)
marked-behind calls true local j h = (refl, (refl, (refl, (refl, tt))))
marked-behind calls false local j h = (refl, (refl, tt))

marked-from : (calls : Calls) (old : Code) (plan : Insertions) (j : ℕ) (items : List Item)
    → AreMarked (chained_items calls old plan (anchors_of plan old.items) j items) (roles_from plan j items)
marked-from calls old plan j [] = tt
marked-from calls old plan j (item ∷ items) =
    let anchors = anchors_of plan old.items in
    let front = flat_map (λ h. released calls (looped_at plan h) (local_of old h)) (before_at plan j) in
    let behind = flat_map (λ h. taken calls (looped_at plan h) (local_of old h)) (after_at plan j) in
    marked-append (chained_item calls old plan anchors j item.insn) (chained_items calls old plan anchors (j + 1) items) (item_roles plan j) (roles_from plan (j + 1) items)
    (marked-append front (kept anchors j item.insn ∷ behind) (flat_map (before_roles j) (before_at plan j)) (Keep j ∷ flat_map (after_roles plan j) (after_at plan j))
    (marked-flat (λ h. released calls (looped_at plan h) (local_of old h)) (before_roles j) (before_at plan j) (λ h. (refl, (refl, (refl, (refl, tt)))))) (
      refl,
      marked-flat (λ h. taken calls (looped_at plan h) (local_of old h)) (after_roles plan j) (after_at plan j)
          (λ h. marked-behind calls (looped_at plan h) (local_of old h) j h),
    ))
    (marked-from calls old plan (j + 1) items)

news_marked : (calls : Calls) (old : Code) (plan : Insertions) → AreMarked (chained calls old plan) (new_roles old plan)
news_marked calls old plan =
    let holders = range_with_len 0 (length plan.holders) in
    marked-append (flat_map (λ h. null_stored (local_of old h)) holders) (chained_items calls old plan (anchors_of plan old.items) 0 old.items)
    (flat_map start_roles holders) (roles_from plan 0 old.items)
    (marked-flat (λ h. null_stored (local_of old h)) start_roles holders (λ h. (refl, (refl, tt))))
    (marked-from calls old plan 0 old.items)

-- ---- laid items

branch_marked : (mark : Option ℕ) (r : Role) (taken : Option Condition) → mark ≡ mark_of r → branch_marks mark taken ≡ map mark_of (branch_roles r taken)
branch_marked mark r None same = ap (λ m. m ∷ []) same
branch_marked mark r (Some taken) same = (λ i. same i ∷ sym (jump_mark r) i ∷ [])

room_marked : (mark : Option ℕ) (r : Role) (m : Room) → mark ≡ mark_of r → marks_in mark m ≡ map mark_of (roles_in r m)
room_marked mark r (room.Plain n) same = ap (λ m. m ∷ []) same
room_marked mark r (room.Switch n) same = ap (λ m. m ∷ []) same
room_marked mark r (room.Narrow b) same = ap (λ m. m ∷ []) same
room_marked mark r (room.Wide b) same = branch_marked mark r b.condition same

laid_marked : (news : List NewItem) (roles : List Role) (rooms : List Room) → AreMarked news roles → marks_from news rooms ≡ map mark_of (laid_roles roles rooms)
laid_marked [] [] rooms all = refl
laid_marked [] (r ∷ roles) rooms all = absurd all
laid_marked (new ∷ news) [] rooms all = absurd all
laid_marked (new ∷ news) (r ∷ roles) [] all = refl
laid_marked (new ∷ news) (r ∷ roles) (m ∷ rooms) all =
    let first = room_marked new.kept r m all.0 in
    let rest = laid_marked news roles rooms all.1 in
    (λ i. first i ++ rest i) ∙ sym (map-append mark_of (roles_in r m) (laid_roles roles rooms))

-- the marks are those of the roles
pub marks_are : (calls : Calls) (old : Code) (plan : Insertions) → chained_marks calls old plan ≡ map mark_of (roles_of calls old plan)
unfolding marks_of roles_of
marks_are calls old plan =
    laid_marked (chained calls old plan) (new_roles old plan) (widened_rooms (rooms_of old.items (chained calls old plan))) (news_marked calls old plan)
