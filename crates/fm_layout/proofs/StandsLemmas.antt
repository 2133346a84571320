-- Each new item is among the laid ones.
use Rattle.std.proofs.Common.{◌≡◌, ℕ, zero, suc, ◌+◌, ◌<◌, ◌≤◌, ◌⊎◌, inl, inr, Bool, true, false, List, [], ◌∷◌, ◌++◌, length, refl, sym, ap, subst, ◌∙◌, arith, if◌then◌else◌, Option, Some, None, append_assoc, length-append}
use Rattle.std.specs.Prelude.{is_some, nat_lt, slice_get, slice_index}
use Rattle.std.proofs.lemmas.Bool.{cases_lt, lt-ltb, le-ltb}
use Rattle.fm_code.specs.SpellsCode.{with_targets}
use Rattle.fm_code.specs.declared.code_array.Item.{Item}
use Rattle.fm_code.specs.declared.instructions.Insn.{Insn}
use Rattle.fm_code.specs.declared.instructions.Insn.TheVariants as insn
use Rattle.fm_layout.specs.Laid.{firsts_from, goto_w_item, item_count, laid_from, laid_items, laid_of, moved_item, short_item, wide_items}
use Rattle.fm_layout.specs.Rooms.{narrow, room_of, rooms_of, size_at, starts_from, widened_rooms}
use Rattle.fm_layout.specs.Spelling.{conditional, is_goto_w, kept_item, opposite}
use Rattle.fm_layout.specs.Stands.{Stands, StandsSplit, StandsWhole, insn_of}
use Rattle.fm_layout.specs.declared.new_items.NewItem.{NewItem}
use Rattle.fm_layout.specs.declared.rooms.Branch.{Branch}
use Rattle.fm_layout.specs.declared.rooms.Condition.{Condition}
use Rattle.fm_layout.specs.declared.rooms.Condition.TheVariants as condition
use Rattle.fm_layout.specs.declared.rooms.Room.{Room}
use Rattle.fm_layout.specs.declared.rooms.Room.TheVariants as room
use Rattle.fm_layout.proofs.MovedLemmas.{never_wide}
use Rattle.fm_layout.proofs.TablesLemmas.{length-laid_items}
use Rattle.fm_layout.proofs.WideningLemmas.{AreWider, IsWider, rounds_wider}

-- ---- branches

-- the branch on a condition, or on none
abbrev branch_on : Option Condition → ℕ → Insn
branch_on None target = insn.Goto target
branch_on (Some taken) target = conditional taken target

same_branch : (a b : Branch) → room.Narrow a ≡ room.Narrow b → branch_on a.condition a.target ≡ branch_on b.condition b.target
same_branch a b e = let same : a ≡ b = cc in ap (λ (c : Branch). branch_on c.condition c.target) same

branch_is : (kept : Option Item) (i : Insn) (b : Branch) → room_of kept i ≡ room.Narrow b → i ≡ branch_on b.condition b.target
branch_is kept (insn.IfInt t n) b e = same_branch (record { condition = Some (condition.Int t); target = n }) b e
branch_is kept (insn.IfPair t n) b e = same_branch (record { condition = Some (condition.Pair t); target = n }) b e
branch_is kept (insn.IfSame t n) b e = same_branch (record { condition = Some (condition.Same t); target = n }) b e
branch_is kept (insn.IfNull t n) b e = same_branch (record { condition = Some (condition.Null t); target = n }) b e
branch_is kept (insn.Goto n) b e = go (is_goto_w kept) e where
  go : (t : Bool) → (if t then room.Plain 5 else narrow None n) ≡ room.Narrow b → insn.Goto n ≡ branch_on b.condition b.target
  go true same = cc
  go false same = same_branch (record { condition = None; target = n }) b same
branch_is kept (insn.Table low others targets) b e = cc
branch_is kept (insn.Lookup others keys targets) b e = cc
branch_is kept i b e = cc

-- the branch of a room that is narrow or wide
branch_of : (kept : Option Item) (i : Insn) (b : Branch) → IsWider (room_of kept i) (room.Wide b) → i ≡ branch_on b.condition b.target
branch_of kept i b (inl e) = absurd (never_wide kept i b e)
branch_of kept i b (inr (c, narrow, wide)) =
    let same : c ≡ b = (let h = wide in cc) in
    branch_is kept i c narrow ∙ ap (λ (x : Branch). branch_on x.condition x.target) same

narrow_of : (kept : Option Item) (i : Insn) (b : Branch) → IsWider (room_of kept i) (room.Narrow b) → i ≡ branch_on b.condition b.target
narrow_of kept i b (inl e) = branch_is kept i b e
narrow_of kept i b (inr (c, narrow, wide)) = cc

pub with_targets-conditional : (g : ℕ → ℕ) (taken : Condition) (target : ℕ) → with_targets g (conditional taken target) ≡ conditional taken (g target)
with_targets-conditional g (condition.Int t) target = refl
with_targets-conditional g (condition.Pair t) target = refl
with_targets-conditional g (condition.Same t) target = refl
with_targets-conditional g (condition.Null t) target = refl

short_insn : (g : ℕ → ℕ) (start to target : ℕ) (taken : Option Condition) → (short_item start taken to (g target)).insn ≡ with_targets g (branch_on taken target)
short_insn g start to target None = refl
short_insn g start to target (Some taken) = sym (with_targets-conditional g taken target)

-- ---- one new item

-- an instruction behind others
behind : (front rest : List Item) (m : ℕ) → insn_of (front ++ rest) (length front + m) ≡ insn_of rest m
behind [] rest m = let same : 0 + m ≡ m = omega arith in ap (λ n. insn_of rest n) same
behind (x ∷ front) rest m =
    let same : suc (length front) + m ≡ suc (length front + m) = omega arith in
    ap (λ n. insn_of (x ∷ (front ++ rest)) n) same ∙ behind front rest m

at_first : (front rest : List Item) (first : ℕ) → length front ≡ first → insn_of (front ++ rest) first ≡ insn_of rest 0
at_first front rest first number = let same : first ≡ length front + 0 = omega arith in ap (λ n. insn_of (front ++ rest) n) same ∙ behind front rest 0

at_second : (front rest : List Item) (first : ℕ) → length front ≡ first → insn_of (front ++ rest) (first + 1) ≡ insn_of rest 1
at_second front rest first number = let same : first + 1 ≡ length front + 1 = omega arith in ap (λ n. insn_of (front ++ rest) n) same ∙ behind front rest 1

-- ---- in which form it is there

-- whether a room is that of a branch that is split
abbrev pub is_split : Room → Bool
is_split (room.Wide b) = is_some b.condition
is_split r = false

-- the same of the room at an index
abbrev pub is_split_at : List Room → ℕ → Bool
is_split_at [] k = false
is_split_at (r ∷ rooms) zero = is_split r
is_split_at (r ∷ rooms) (suc k) = is_split_at rooms k

-- an instruction is split, or whole
abbrev pub StandsAs : Bool → List Item → List ℕ → ℕ → Bool → Insn → Type 0
StandsAs true laid firsts number follows i = StandsSplit laid firsts number follows i
StandsAs false laid firsts number follows i = StandsWhole laid firsts number i

in_one_way : (split : Bool) (laid : List Item) (firsts : List ℕ) (number : ℕ) (follows : Bool) (i : Insn) → StandsAs split laid firsts number follows i
    → Stands laid firsts number follows i
in_one_way true laid firsts number follows i stands = inr stands
in_one_way false laid firsts number follows i stands = inl stands

-- a widened branch, with other items before and behind it
wide_stands : (start first to target : ℕ) (firsts : List ℕ) (follows : Bool) (i : Insn) (taken : Option Condition) (front rest : List Item) → i ≡ branch_on taken target → length front ≡ first
    → StandsAs (is_some taken) (front ++ (wide_items start first follows taken to (slice_index firsts target) ++ rest)) firsts first follows i
wide_stands start first to target firsts follows i None front rest is number =
    at_first front (goto_w_item start to (slice_index firsts target) ∷ rest) first number ∙ ap (λ j. Some (with_targets (slice_index firsts) j)) (sym is)
wide_stands start first to target firsts true i (Some taken) front rest is number =
    let laid = short_item start (Some (opposite taken)) (start + 8) (first + 2) ∷ goto_w_item (start + 3) to (slice_index firsts target) ∷ rest in
    record { condition = taken; target = target; branch = is; test = at_first front laid first number; jump = at_second front laid first number }
wide_stands start first to target firsts false i (Some taken) front rest is number =
    let laid = short_item start (Some (opposite taken)) (start + 3) (first + 1) ∷ goto_w_item (start + 3) to (slice_index firsts target) ∷ rest in
    record { condition = taken; target = target; branch = is; test = at_first front laid first number; jump = at_second front laid first number }

stands_here : (starts firsts : List ℕ) (start first : ℕ) (follows : Bool) (kept : Option Item) (i : Insn) (r : Room) (front rest : List Item) → IsWider (room_of kept i) r → length front ≡ first
    → StandsAs (is_split r) (front ++ (laid_items starts firsts start first follows kept i r ++ rest)) firsts first follows i
stands_here starts firsts start first follows kept i (room.Plain n) front rest wider number = at_first front (moved_item starts firsts start kept i ∷ rest) first number
stands_here starts firsts start first follows kept i (room.Switch n) front rest wider number = at_first front (moved_item starts firsts start kept i ∷ rest) first number
stands_here starts firsts start first follows kept i (room.Narrow b) front rest wider number =
    let g = slice_index firsts in
    let item = short_item start b.condition (slice_index starts b.target) (g b.target) in
    at_first front (item ∷ rest) first number
    ∙ ap (λ j. Some j) (short_insn g start (slice_index starts b.target) b.target b.condition ∙ ap (λ j. with_targets g j) (sym (narrow_of kept i b wider)))
stands_here starts firsts start first follows kept i (room.Wide b) front rest wider number =
    wide_stands start first (slice_index starts b.target) b.target firsts follows i b.condition front rest (branch_of kept i b wider) number

-- ---- all new items

next_too : (m k n : ℕ) → m + 1 ≡ k → nat_lt m n ≡ nat_lt k (suc n)
next_too m k n e = go (cases_lt m n) where
  go : (m < n) ⊎ (n ≤ m) → nat_lt m n ≡ nat_lt k (suc n)
  go (inl less) = lt-ltb m n less ∙ sym (lt-ltb k (suc n) (omega arith))
  go (inr more) = le-ltb m n more ∙ sym (le-ltb k (suc n) (omega arith))

stands_from : (old : List Item) (starts firsts : List ℕ) (start first : ℕ) (items : List NewItem) (rooms : List Room) (front : List Item) (k : ℕ) (new : NewItem)
    → AreWider (rooms_of old items) rooms → length front ≡ first → slice_get items k ≡ Some new
    → StandsAs (is_split_at rooms k) (front ++ laid_from old starts firsts start first items rooms) firsts (slice_index (firsts_from first rooms) k)
    (nat_lt (k + 1) (length items)) new.insn
stands_from old starts firsts start first [] rooms front k new wider number found = cc
stands_from old starts firsts start first (x ∷ items) [] front k new wider number found = absurd wider
stands_from old starts firsts start first (x ∷ items) (r ∷ rooms) front zero new wider number found =
    let same : x ≡ new = cc in
    let follows = nat_lt 0 (length items) in
    let rest = laid_from old starts firsts (start + size_at start r) (first + item_count r) items rooms in
    let laid = front ++ (laid_items starts firsts start first follows (kept_item old x) x.insn r ++ rest) in
    let here = stands_here starts firsts start first follows (kept_item old x) x.insn r front rest wider.0 number in
    let last : follows ≡ nat_lt (0 + 1) (suc (length items)) = next_too 0 (0 + 1) (length items) (omega arith) in
    subst (λ (b : Bool). StandsAs (is_split r) laid firsts first b new.insn) last
    (subst (λ (n : NewItem). StandsAs (is_split r) laid firsts first follows n.insn) same here)
stands_from old starts firsts start first (x ∷ items) (r ∷ rooms) front (suc k) new wider number found =
    let follows = nat_lt 0 (length items) in
    let here = laid_items starts firsts start first follows (kept_item old x) x.insn r in
    let rest = laid_from old starts firsts (start + size_at start r) (first + item_count r) items rooms in
    let count = length-laid_items starts firsts start first follows (kept_item old x) x.insn r in
    let later = stands_from old starts firsts (start + size_at start r) (first + item_count r) items rooms (front ++ here) k new wider.1 (omega (arith, length-append front here)) found in
    let number_is = slice_index (firsts_from (first + item_count r) rooms) k in
    let last : nat_lt (k + 1) (length items) ≡ nat_lt (suc k + 1) (suc (length items)) = next_too (k + 1) (suc k + 1) (length items) (omega arith) in
    let split = is_split_at rooms k in
    subst (λ (b : Bool). StandsAs split (front ++ (here ++ rest)) firsts number_is b new.insn) last
    (subst (λ (l : List Item). StandsAs split l firsts number_is (nat_lt (k + 1) (length items)) new.insn) (append_assoc front here rest) later)

-- each new item has the form that its room says
pub laid_stands_as : (old : List Item) (items : List NewItem) (k : ℕ) (new : NewItem) → slice_get items k ≡ Some new
    → StandsAs (is_split_at (widened_rooms (rooms_of old items)) k) (laid_of old items).items (laid_of old items).firsts (slice_index (laid_of old items).firsts k)
    (nat_lt (k + 1) (length items)) new.insn
unfolding laid_of
laid_stands_as old items k new found =
    let rooms = widened_rooms (rooms_of old items) in
    stands_from old (starts_from 0 rooms) (firsts_from 0 rooms) 0 0 items rooms [] k new (rounds_wider (length (rooms_of old items)) (rooms_of old items)) refl found

pub laid_stands : (old : List Item) (items : List NewItem) (k : ℕ) (new : NewItem) → slice_get items k ≡ Some new
    → Stands (laid_of old items).items (laid_of old items).firsts (slice_index (laid_of old items).firsts k) (nat_lt (k + 1) (length items)) new.insn
laid_stands old items k new found =
    in_one_way (is_split_at (widened_rooms (rooms_of old items)) k) (laid_of old items).items (laid_of old items).firsts (slice_index (laid_of old items).firsts k)
    (nat_lt (k + 1) (length items)) new.insn (laid_stands_as old items k new found)
