-- Branches and switches while branches are widened.
use Rattle.std.proofs.Common.{◌≡◌, ℕ, zero, suc, ◌+◌, Bool, true, false, not, ◌||◌, List, [], ◌∷◌, length, get_or, set, refl, sym, ap, subst, ◌∙◌, if◌then◌else◌}
use Rattle.std.specs.Prelude.{nat_eq, slice_index}
use Rattle.std.specs.List.{AllByRecursion, list_any}
use Rattle.std.proofs.lemmas.Bool.{eqb-true, eq-eqb, false≢true}
use Rattle.std.proofs.lemmas.List.{ext_get_or}
use Rattle.fm_layout.specs.Rooms.{is_in_reach, round_after, size_at, starts_from, widened_at, widened_from}
use Rattle.fm_layout.specs.inner.Spots.{IsSpot, Tracks, far_items, is_far, is_far_in, is_spot, room_at, start_at, target_of, wide_room, widen_all, widen_item}
use Rattle.fm_layout.specs.inner.Weights.{weight, weight_of}
use Rattle.fm_layout.specs.declared.rooms.Room.{Room}
use Rattle.fm_layout.specs.declared.rooms.Room.TheVariants as room
use Rattle.fm_layout.specs.declared.spots.Spot.{Spot}
use Rattle.fm_layout.proofs.RoomsLemmas.{length-widened_from}

-- ---- rooms of which one is widened

pub length-widen_item : (rooms : List Room) (item : ℕ) → length (widen_item rooms item) ≡ length rooms
length-widen_item [] item = refl
length-widen_item (r ∷ rooms) zero = refl
length-widen_item (r ∷ rooms) (suc item) = ap suc (length-widen_item rooms item)

length-widen_all : (items : List ℕ) (rooms : List Room) → length (widen_all rooms items) ≡ length rooms
length-widen_all [] rooms = refl
length-widen_all (item ∷ items) rooms = length-widen_all items (widen_item rooms item) ∙ length-widen_item rooms item

weight-wide : (r : Room) → weight (wide_room r) ≡ weight r
weight-wide (room.Plain n) = refl
weight-wide (room.Switch n) = refl
weight-wide (room.Narrow b) = refl
weight-wide (room.Wide b) = refl

pub weight-widen_item : (rooms : List Room) (item : ℕ) → weight_of (widen_item rooms item) ≡ weight_of rooms
weight-widen_item [] item = refl
weight-widen_item (r ∷ rooms) zero = ap (λ n. n + weight_of rooms) (weight-wide r)
weight-widen_item (r ∷ rooms) (suc item) = ap (λ n. weight r + n) (weight-widen_item rooms item)

pub same_room : (rooms : List Room) (item : ℕ) → room_at (widen_item rooms item) item ≡ wide_room (room_at rooms item)
same_room [] item = refl
same_room (r ∷ rooms) zero = refl
same_room (r ∷ rooms) (suc item) = same_room rooms item

pub other_room : (rooms : List Room) (item k : ℕ) → (k ≡ item → ⊥) → room_at (widen_item rooms item) k ≡ room_at rooms k
other_room [] item k other = refl
other_room (r ∷ rooms) zero zero other = absurd (other refl)
other_room (r ∷ rooms) zero (suc k) other = refl
other_room (r ∷ rooms) (suc item) zero other = refl
other_room (r ∷ rooms) (suc item) (suc k) other = other_room rooms item k (λ e. other (ap suc e))

pub set_is : (rooms : List Room) (item : ℕ) → set rooms item (wide_room (room_at rooms item)) ≡ widen_item rooms item
set_is [] item = refl
set_is (r ∷ rooms) zero = refl
set_is (r ∷ rooms) (suc item) = ap (λ (rs : List Room). r ∷ rs) (set_is rooms item)

target_wide : (r : Room) → target_of (wide_room r) ≡ target_of r
target_wide (room.Plain n) = refl
target_wide (room.Switch n) = refl
target_wide (room.Narrow b) = refl
target_wide (room.Wide b) = refl

pub target_if : (t : Bool) (r : Room) → target_of (if t then wide_room r else r) ≡ target_of r
target_if true r = target_wide r
target_if false r = refl

spot_wide : (r : Room) → is_spot (wide_room r) ≡ is_spot r
spot_wide (room.Plain n) = refl
spot_wide (room.Switch n) = refl
spot_wide (room.Narrow b) = refl
spot_wide (room.Wide b) = refl

pub spot_kept : (rooms : List Room) (item k : ℕ) → is_spot (room_at (widen_item rooms item) k) ≡ is_spot (room_at rooms k)
spot_kept [] item k = refl
spot_kept (r ∷ rooms) zero zero = spot_wide r
spot_kept (r ∷ rooms) zero (suc k) = refl
spot_kept (r ∷ rooms) (suc item) zero = refl
spot_kept (r ∷ rooms) (suc item) (suc k) = spot_kept rooms item k

wide_wide : (r : Room) → wide_room (wide_room r) ≡ wide_room r
wide_wide (room.Plain n) = refl
wide_wide (room.Switch n) = refl
wide_wide (room.Narrow b) = refl
wide_wide (room.Wide b) = refl

-- ---- which rooms are widened

if_wide : (t : Bool) (r : Room) → (if t then wide_room (wide_room r) else wide_room r) ≡ wide_room r
if_wide true r = wide_wide r
if_wide false r = refl

widen_all_room : (items : List ℕ) (rooms : List Room) (k : ℕ)
    → room_at (widen_all rooms items) k ≡ (if list_any (nat_eq k) items then wide_room (room_at rooms k) else room_at rooms k)
widen_all_room [] rooms k = refl
widen_all_room (item ∷ items) rooms k = widen_all_room items (widen_item rooms item) k ∙ go (nat_eq k item) refl where
  go : (t : Bool) → nat_eq k item ≡ t
      → (if list_any (nat_eq k) items then wide_room (room_at (widen_item rooms item) k) else room_at (widen_item rooms item) k)
      ≡ (if (nat_eq k item || list_any (nat_eq k) items) then wide_room (room_at rooms k) else room_at rooms k)
  go true e =
      let same : k ≡ item = eqb-true k item e in
      let here : room_at (widen_item rooms item) k ≡ wide_room (room_at rooms k) = ap (λ n. room_at (widen_item rooms n) k) (sym same) ∙ same_room rooms k in
      ap (λ r. if list_any (nat_eq k) items then wide_room r else r) here ∙ if_wide (list_any (nat_eq k) items) (room_at rooms k)
      ∙ sym (ap (λ t. if (t || list_any (nat_eq k) items) then wide_room (room_at rooms k) else room_at rooms k) e)
  go false e =
      let other : k ≡ item → ⊥ = λ same. false≢true (sym e ∙ eq-eqb k item same) in
      ap (λ r. if list_any (nat_eq k) items then wide_room r else r) (other_room rooms item k other)
      ∙ sym (ap (λ t. if (t || list_any (nat_eq k) items) then wide_room (room_at rooms k) else room_at rooms k) e)

round_room : (starts : List ℕ) (start : ℕ) (rooms : List Room) (k : ℕ) → room_at (widened_from starts start rooms) k ≡ widened_at starts (get_or (starts_from start rooms) k 0) (room_at rooms k)
round_room starts start [] k = refl
round_room starts start (r ∷ rooms) zero = refl
round_room starts start (r ∷ rooms) (suc k) = round_room starts (start + size_at start r) rooms k

-- a round at one room
abbrev round_at : List Room → ℕ → Room
round_at rooms k = widened_at (starts_from 0 rooms) (start_at rooms k) (room_at rooms k)

far_wide : (starts : List ℕ) (start : ℕ) (r : Room) → is_far_in r start (slice_index starts (target_of r)) ≡ true → wide_room r ≡ widened_at starts start r
far_wide starts start (room.Plain n) far = absurd (false≢true far)
far_wide starts start (room.Switch n) far = absurd (false≢true far)
far_wide starts start (room.Narrow b) far = go (is_in_reach start (slice_index starts b.target)) far where
  go : (t : Bool) → not t ≡ true → room.Wide b ≡ (if t then room.Narrow b else room.Wide b)
  go true far = absurd (false≢true far)
  go false far = refl
far_wide starts start (room.Wide b) far = absurd (false≢true far)

near_stays : (starts : List ℕ) (start : ℕ) (r : Room) → is_far_in r start (slice_index starts (target_of r)) ≡ false → r ≡ widened_at starts start r
near_stays starts start (room.Plain n) near = refl
near_stays starts start (room.Switch n) near = refl
near_stays starts start (room.Narrow b) near = go (is_in_reach start (slice_index starts b.target)) near where
  go : (t : Bool) → not t ≡ false → room.Narrow b ≡ (if t then room.Narrow b else room.Wide b)
  go true near = refl
  go false near = absurd (false≢true (sym near))
near_stays starts start (room.Wide b) near = refl

no_spot_stays : (starts : List ℕ) (start : ℕ) (r : Room) → is_spot r ≡ false → r ≡ widened_at starts start r
no_spot_stays starts start (room.Plain n) none = refl
no_spot_stays starts start (room.Switch n) none = absurd (false≢true (sym none))
no_spot_stays starts start (room.Narrow b) none = absurd (false≢true (sym none))
no_spot_stays starts start (room.Wide b) none = absurd (false≢true (sym none))

-- what is listed is far exactly where its room is
far_is : (rooms : List Room) (spot : Spot) → IsSpot rooms spot → is_far_in (room_at rooms spot.item) (start_at rooms spot.item) (start_at rooms (target_of (room_at rooms spot.item))) ≡ is_far spot
far_is rooms spot is = ap (λ r. is_far_in r (start_at rooms spot.item) (start_at rooms (target_of r))) is.here ∙ (λ i. is_far_in spot.room (is.starts i) (is.leads i))

one_far : (rooms : List Room) (spot : Spot) (k : ℕ) → IsSpot rooms spot → k ≡ spot.item → is_far spot ≡ true → wide_room (room_at rooms k) ≡ round_at rooms k
one_far rooms spot k is same far =
    let P : ℕ → Type 0 = λ n. wide_room (room_at rooms n) ≡ round_at rooms n in
    subst P (sym same) (far_wide (starts_from 0 rooms) (start_at rooms spot.item) (room_at rooms spot.item) (far_is rooms spot is ∙ far))

one_near : (rooms : List Room) (spot : Spot) (k : ℕ) → IsSpot rooms spot → k ≡ spot.item → is_far spot ≡ false → room_at rooms k ≡ round_at rooms k
one_near rooms spot k is same near =
    let P : ℕ → Type 0 = λ n. room_at rooms n ≡ round_at rooms n in
    subst P (sym same) (near_stays (starts_from 0 rooms) (start_at rooms spot.item) (room_at rooms spot.item) (far_is rooms spot is ∙ near))

some_far : (rooms : List Room) (spots : List Spot) (k : ℕ) → AllByRecursion (IsSpot rooms) spots → list_any (nat_eq k) (far_items spots) ≡ true → wide_room (room_at rooms k) ≡ round_at rooms k
some_far rooms [] k each found = absurd (false≢true found)
some_far rooms (spot ∷ spots) k each found = go (some_far rooms spots k each.1) (is_far spot) refl found where
  here : (list_any (nat_eq k) (far_items spots) ≡ true → wide_room (room_at rooms k) ≡ round_at rooms k) → (t : Bool) → nat_eq k spot.item ≡ t → is_far spot ≡ true
      → (t || list_any (nat_eq k) (far_items spots)) ≡ true → wide_room (room_at rooms k) ≡ round_at rooms k
  here others true e far any = one_far rooms spot k each.0 (eqb-true k spot.item e) far
  here others false e far any = others any

  go : (list_any (nat_eq k) (far_items spots) ≡ true → wide_room (room_at rooms k) ≡ round_at rooms k) → (t : Bool) → is_far spot ≡ t
      → list_any (nat_eq k) (if t then spot.item ∷ far_items spots else far_items spots) ≡ true → wide_room (room_at rooms k) ≡ round_at rooms k
  go others true far any = here others (nat_eq k spot.item) refl far any
  go others false near any = others any

abbrev pub is_listed : ℕ → List Spot → Bool
is_listed k spots = list_any (λ (spot : Spot). nat_eq k spot.item) spots

none_far : (rooms : List Room) (spots : List Spot) (k : ℕ) → AllByRecursion (IsSpot rooms) spots → is_listed k spots ≡ true
    → list_any (nat_eq k) (far_items spots) ≡ false → room_at rooms k ≡ round_at rooms k
none_far rooms [] k each listed none = absurd (false≢true listed)
none_far rooms (spot ∷ spots) k each listed none = go (none_far rooms spots k each.1) (is_far spot) refl (nat_eq k spot.item) refl listed none where
  go : (is_listed k spots ≡ true → list_any (nat_eq k) (far_items spots) ≡ false → room_at rooms k ≡ round_at rooms k)
      → (t : Bool) → is_far spot ≡ t → (u : Bool) → nat_eq k spot.item ≡ u → (u || is_listed k spots) ≡ true
      → list_any (nat_eq k) (if t then spot.item ∷ far_items spots else far_items spots) ≡ false → room_at rooms k ≡ round_at rooms k
  go others true far true e listed none = absurd (false≢true (sym none ∙ ap (λ b. b || list_any (nat_eq k) (far_items spots)) e))
  go others true far false e listed none = others listed (sym (ap (λ b. b || list_any (nat_eq k) (far_items spots)) e) ∙ none)
  go others false near true e listed none = one_near rooms spot k each.0 (eqb-true k spot.item e) near
  go others false near false e listed none = others listed none

-- the branches that are far are those that a round widens
pub round_is : (rooms : List Room) (spots : List Spot) → Tracks rooms spots → widen_all rooms (far_items spots) ≡ round_after rooms
round_is rooms spots tracks =
    ext_get_or (room.Plain 0) (widen_all rooms (far_items spots)) (round_after rooms)
    (length-widen_all (far_items spots) rooms ∙ sym (length-widened_from (starts_from 0 rooms) 0 rooms))
    (λ k low. widen_all_room (far_items spots) rooms k ∙ at_room k (list_any (nat_eq k) (far_items spots)) refl ∙ sym (round_room (starts_from 0 rooms) 0 rooms k)) where
      unlisted : (k : ℕ) (t : Bool) → is_spot (room_at rooms k) ≡ t → list_any (nat_eq k) (far_items spots) ≡ false → room_at rooms k ≡ round_at rooms k
      unlisted k true e none = none_far rooms spots k tracks.each (tracks.listed k e) none
      unlisted k false e none = no_spot_stays (starts_from 0 rooms) (start_at rooms k) (room_at rooms k) e

      at_room : (k : ℕ) (t : Bool) → list_any (nat_eq k) (far_items spots) ≡ t → (if t then wide_room (room_at rooms k) else room_at rooms k) ≡ round_at rooms k
      at_room k true e = some_far rooms spots k tracks.each e
      at_room k false e = unlisted k (is_spot (room_at rooms k)) refl e
