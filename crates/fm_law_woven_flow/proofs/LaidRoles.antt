-- The roles of laid items: each new item has one or two of them, by its room.
use Rattle.std.proofs.Common.{◌≡◌, ℕ, zero, suc, ◌+◌, ◌<◌, ◌≤◌, ◌⊎◌, inl, inr, Bool, true, false, List, [], ◌∷◌, ◌++◌, length, get_or, Option, Some, None, refl, sym, ap, ◌∙◌, arith, append_assoc, length-append}
use Rattle.std.specs.Prelude.{if◌then◌else◌, is_some, slice_get, slice_index}
use Rattle.std.proofs.lemmas.Bool.{cases_lt, false≢true}
use Rattle.std.proofs.lemmas.Option.{none-some, same_Some, slice_get_within}
use Rattle.fm_base.proofs.ListFacts.{slice_get-append_right}
use Rattle.fm_code.specs.declared.code_array.Item.{Item}
use Rattle.fm_layout.proofs.LayoutLemmas.{one_each}
use Rattle.fm_layout.proofs.StandsLemmas.{is_split, is_split_at}
use Rattle.fm_layout.proofs.TablesLemmas.{firsts_rise, last_first}
use Rattle.fm_layout.specs.Laid.{branch_count, firsts_from, item_count, laid_of}
use Rattle.fm_layout.specs.Rooms.{rooms_of, starts_from, widened_rooms}
use Rattle.fm_layout.specs.declared.new_items.NewItem.{NewItem}
use Rattle.fm_layout.specs.declared.rooms.Condition.{Condition}
use Rattle.fm_layout.specs.declared.rooms.Room.{Room}
use Rattle.fm_layout.specs.declared.rooms.Room.TheVariants as room
use Rattle.fm_law_woven_flow.proofs.RoleLists.{between}
use Rattle.fm_law_woven_flow.specs.Roles.{Role}
use Rattle.fm_law_woven_flow.specs.inner.RolesOf.{branch_roles, jump_of, laid_roles, roles_in}

-- ---- one room

-- how many items a new one becomes
abbrev pub width : Bool → ℕ
width splits = if splits then 2 else 1

branch_width : (r : Role) (taken : Option Condition) → length (branch_roles r taken) ≡ width (is_some taken)
branch_width r None = refl
branch_width r (Some taken) = refl

roles_width : (r : Role) (m : Room) → length (roles_in r m) ≡ width (is_split m)
roles_width r (room.Plain n) = refl
roles_width r (room.Switch n) = refl
roles_width r (room.Narrow b) = refl
roles_width r (room.Wide b) = branch_width r b.condition

count_width : (m : Room) → item_count m ≡ width (is_split m)
count_width (room.Plain n) = refl
count_width (room.Switch n) = refl
count_width (room.Narrow b) = refl
count_width (room.Wide b) = go b.condition where
  go : (taken : Option Condition) → branch_count taken ≡ width (is_some taken)
  go None = refl
  go (Some taken) = refl

branch_head : (r : Role) (taken : Option Condition) (rest : List Role) → slice_get (branch_roles r taken ++ rest) 0 ≡ Some r
branch_head r None rest = refl
branch_head r (Some taken) rest = refl

head_in : (r : Role) (m : Room) (rest : List Role) → slice_get (roles_in r m ++ rest) 0 ≡ Some r
head_in r (room.Plain n) rest = refl
head_in r (room.Switch n) rest = refl
head_in r (room.Narrow b) rest = refl
head_in r (room.Wide b) rest = branch_head r b.condition rest

branch_second : (r : Role) (taken : Option Condition) (rest : List Role) → is_some taken ≡ true → slice_get (branch_roles r taken ++ rest) 1 ≡ Some (jump_of r)
branch_second r None rest split = absurd (false≢true split)
branch_second r (Some taken) rest split = refl

second_in : (r : Role) (m : Room) (rest : List Role) → is_split m ≡ true → slice_get (roles_in r m ++ rest) 1 ≡ Some (jump_of r)
second_in r (room.Plain n) rest split = absurd (false≢true split)
second_in r (room.Switch n) rest split = absurd (false≢true split)
second_in r (room.Narrow b) rest split = absurd (false≢true split)
second_in r (room.Wide b) rest split = branch_second r b.condition rest split

-- ---- all rooms

-- a role is that of the first item of a new one
first_from : (first : ℕ) (roles : List Role) (rooms : List Room) (front : List Role) (k : ℕ) (r : Role) → length front ≡ first → k < length rooms
    → slice_get roles k ≡ Some r → slice_get (front ++ laid_roles roles rooms) (slice_index (firsts_from first rooms) k) ≡ Some r
first_from first [] rooms front k r number inside found = absurd (none-some r found)
first_from first (x ∷ roles) [] front k r number inside found = absurd (omega arith)
first_from first (x ∷ roles) (m ∷ rooms) front zero r number inside found =
    let place : first ≡ length front + 0 = omega arith in
    let rest = laid_roles roles rooms in
    ap (λ n. slice_get (front ++ (roles_in x m ++ rest)) n) place ∙ slice_get-append_right front (roles_in x m ++ rest) 0 ∙ head_in x m rest ∙ found
first_from first (x ∷ roles) (m ∷ rooms) front (suc k) r number inside found =
    let size = roles_width x m in
    let count = count_width m in
    let both = length-append front (roles_in x m) in
    ap (λ xs. slice_get xs (slice_index (firsts_from (first + item_count m) rooms) k)) (sym (append_assoc front (roles_in x m) (laid_roles roles rooms)))
    ∙ first_from (first + item_count m) roles rooms (front ++ roles_in x m) k r (omega (arith, size, count, both)) (omega arith) found

-- of a branch that is split, the second item is its goto_w
second_from : (first : ℕ) (roles : List Role) (rooms : List Room) (front : List Role) (k : ℕ) (r : Role) → length front ≡ first → is_split_at rooms k ≡ true
    → slice_get roles k ≡ Some r → slice_get (front ++ laid_roles roles rooms) (slice_index (firsts_from first rooms) k + 1) ≡ Some (jump_of r)
second_from first [] rooms front k r number split found = absurd (none-some r found)
second_from first (x ∷ roles) [] front k r number split found = absurd (false≢true split)
second_from first (x ∷ roles) (m ∷ rooms) front zero r number split found =
    let place : first + 1 ≡ length front + 1 = omega arith in
    let rest = laid_roles roles rooms in
    ap (λ n. slice_get (front ++ (roles_in x m ++ rest)) n) place ∙ slice_get-append_right front (roles_in x m ++ rest) 1 ∙ second_in x m rest split
    ∙ ap (λ y. Some (jump_of y)) (same_Some _ _ found)
second_from first (x ∷ roles) (m ∷ rooms) front (suc k) r number split found =
    let size = roles_width x m in
    let count = count_width m in
    let both = length-append front (roles_in x m) in
    ap (λ xs. slice_get xs (slice_index (firsts_from (first + item_count m) rooms) k + 1)) (sym (append_assoc front (roles_in x m) (laid_roles roles rooms)))
    ∙ second_from (first + item_count m) roles rooms (front ++ roles_in x m) k r (omega (arith, size, count, both)) split found

head_first : (first : ℕ) (rooms : List Room) → slice_index (firsts_from first rooms) 0 ≡ first
head_first first [] = refl
head_first first (m ∷ rooms) = refl

-- from one first item to the next
step_from : (first : ℕ) (rooms : List Room) (k : ℕ) → k < length rooms
    → slice_index (firsts_from first rooms) (suc k) ≡ slice_index (firsts_from first rooms) k + width (is_split_at rooms k)
step_from first [] k inside = absurd (omega arith)
step_from first (m ∷ rooms) zero inside = head_first (first + item_count m) rooms ∙ ap (λ n. first + n) (count_width m)
step_from first (m ∷ rooms) (suc k) inside = step_from (first + item_count m) rooms k (omega arith)

length-laid : (first : ℕ) (roles : List Role) (rooms : List Room) → length roles ≡ length rooms
    → get_or (firsts_from first rooms) (length rooms) 0 ≡ first + length (laid_roles roles rooms)
length-laid first [] [] same = omega arith
length-laid first [] (m ∷ rooms) same = absurd (omega arith)
length-laid first (x ∷ roles) [] same = absurd (omega arith)
length-laid first (x ∷ roles) (m ∷ rooms) same =
    let later = length-laid (first + item_count m) roles rooms (omega arith) in
    let size = roles_width x m in
    let count = count_width m in
    let both = length-append (roles_in x m) (laid_roles roles rooms) in
    omega (arith, later, size, count, both)

-- ---- the code

-- how old items are laid out with these new ones: where each new item begins, and whether it is split
abbrev pub first_at : List Item → List NewItem → ℕ → ℕ
first_at old news k = slice_index (laid_of old news).firsts k

abbrev pub split_at : List Item → List NewItem → ℕ → Bool
split_at old news k = is_split_at (widened_rooms (rooms_of old news)) k

-- what is used of it, where new items have these roles
pub record LaysRoles (old : List Item) (news : List NewItem) (roles laid : List Role) : Type 0 where
  pub one_each : length laid ≡ length (laid_of old news).items
  pub first : (k : ℕ) (r : Role) → slice_get roles k ≡ Some r → slice_get laid (first_at old news k) ≡ Some r
  pub second : (k : ℕ) (r : Role) → split_at old news k ≡ true → slice_get roles k ≡ Some r → slice_get laid (first_at old news k + 1) ≡ Some (jump_of r)
  pub begin : first_at old news 0 ≡ 0
  pub end : first_at old news (length roles) ≡ length (laid_of old news).items
  pub step : (k : ℕ) → k < length roles → first_at old news (suc k) ≡ first_at old news k + width (split_at old news k)
  pub rise : (k l : ℕ) → k < l → l ≤ length roles → first_at old news k < first_at old news l

pub lays_roles : (old : List Item) (news : List NewItem) (roles : List Role) → length roles ≡ length news
    → LaysRoles old news roles (laid_roles roles (widened_rooms (rooms_of old news)))
unfolding laid_of
lays_roles old news roles same =
    let rooms = widened_rooms (rooms_of old news) in
    let each = one_each old news in
    let count : length roles ≡ length rooms = omega (arith, each) in
    let last = last_first old (starts_from 0 rooms) (firsts_from 0 rooms) 0 0 news rooms (sym each) in
    let size = length-laid 0 roles rooms count in
    let there : slice_index (firsts_from 0 rooms) (length roles) ≡ get_or (firsts_from 0 rooms) (length rooms) 0 = ap (λ n. slice_index (firsts_from 0 rooms) n) count in
    record {
      one_each = omega (arith, last, size);
      first = λ k r found. let inside = slice_get_within roles k r found in first_from 0 roles rooms [] k r refl (omega arith) found;
      second = λ k r split found. second_from 0 roles rooms [] k r refl split found;
      begin = head_first 0 rooms;
      end = there ∙ last ∙ (let none : 0 + length (laid_of old news).items ≡ length (laid_of old news).items = omega arith in none);
      step = λ k inside. step_from 0 rooms k (omega arith);
      rise = λ k l below inside. firsts_rise 0 rooms k l below (omega arith);
    }

one-item : (n at : ℕ) → at ≤ n → n < at + 1 → n ≡ at
one-item n at low high = omega arith

two-items : (n at : ℕ) → at ≤ n → n < at + 2 → (n ≡ at) ⊎ ((n ≡ at + 1) × (true ≡ true))
two-items n at low high = go (cases_lt at n) where
  go : (at < n) ⊎ (n ≤ at) → (n ≡ at) ⊎ ((n ≡ at + 1) × (true ≡ true))
  go (inl more) = inr (omega arith, refl)
  go (inr same) = inl (omega arith)

one_or_two : (n at : ℕ) (split : Bool) → at ≤ n → n < at + width split → (n ≡ at) ⊎ ((n ≡ at + 1) × (split ≡ true))
one_or_two n at false low high = inl (one-item n at low high)
one_or_two n at true low high = two-items n at low high

-- each laid item is the first of a new one, or its goto_w
pub item_at : (old : List Item) (news : List NewItem) (roles laid : List Role) → LaysRoles old news roles laid → (n : ℕ) → n < length (laid_of old news).items
    → (k : ℕ) × (k < length roles) × ((n ≡ first_at old news k) ⊎ ((n ≡ first_at old news k + 1) × (split_at old news k ≡ true)))
item_at old news roles laid lays n inside =
    let begin = lays.begin in
    let end = lays.end in
    let place = between (laid_of old news).firsts (length roles) n (omega arith) (omega arith) in
    let k = place.0 in
    let low = place.2 in
    let high = place.3 in
    let next = lays.step k place.1 in
    let top : n < first_at old news k + width (split_at old news k) = omega (arith, next) in
    (k, place.1, one_or_two n (first_at old news k) (split_at old news k) low top)
