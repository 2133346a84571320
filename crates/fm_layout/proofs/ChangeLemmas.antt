-- What is listed at first, and after a branch is widened.
use Rattle.std.proofs.Common.{◌≡◌, ℕ, zero, suc, ◌+◌, ◌*◌, ◌/◌, ◌%◌, ◌<◌, ◌≤◌, ◌⊎◌, inl, inr, Bool, true, false, ◌&&◌, ◌||◌, List, [], ◌∷◌, ◌++◌, length, map, drop, get_or, set, refl, sym, ap, subst, ◌∙◌, arith, if◌then◌else◌, Option, Some, None}
use Rattle.std.specs.Prelude.{nat_eq, nat_lt, slice_index}
use Rattle.std.specs.List.{AllByRecursion}
use Rattle.std.proofs.lemmas.Bool.{and_parts, cases_lt, eqb-true, eq-eqb, false≢true, ltb-true, lt-ltb, or_right}
use Rattle.std.proofs.Math.ListN.{drop_of_length-le}
use Rattle.std.proofs.lemmas.List.{get_or_default}
use Rattle.std.proofs.lemmas.List.Folds.{list_any-append}
use Rattle.fm_base.proofs.ListFacts.{AllByRecursion-append, AllByRecursion-mapped, AllByRecursion-weaker, drop_here}
use Rattle.fm_layout.specs.Rooms.{end_from, round_after, size_at, starts_from, widened_from}
use Rattle.fm_layout.specs.inner.Spots.{FitsAfter, IsSpot, Tracks, branch_growth, change_in, far_items, growth, is_far, is_spot, is_switch, moved, nearer, next_in, no_switch, room_at, shift, spot_in, spots_from, start_at, target_of, wide_room, widen_all, widen_item}
use Rattle.fm_layout.specs.inner.Weights.{weight_of}
use Rattle.fm_layout.specs.declared.rooms.Condition.{Condition}
use Rattle.fm_layout.specs.declared.rooms.Room.{Room}
use Rattle.fm_layout.specs.declared.rooms.Room.TheVariants as room
use Rattle.fm_layout.specs.declared.spots.Change.{Change}
use Rattle.fm_layout.specs.declared.spots.Spot.{Spot}
use Rattle.fm_layout.proofs.RoomsLemmas.{end_weight, start_le_end, weight-widened_from}
use Rattle.fm_layout.proofs.StartsLemmas.{IsChange, changed_start}
use Rattle.fm_layout.proofs.SpotsLemmas.{is_listed, length-widen_item, other_room, round_is, same_room, set_is, spot_kept, target_if, weight-widen_item}

-- ---- the next switch

-- it is behind an item, and is one if there is one
record IsNext (rooms : List Room) (item : ℕ) (next : Spot) : Type 0 where
  behind : item < next.item
  within : next.item ≤ length rooms
  switch : next.item < length rooms → is_switch next.room ≡ true
  spot : next.item < length rooms → IsSpot rooms next

-- whether another one is nearer
abbrev is_nearer : ℕ → Spot → Spot → Bool
is_nearer item next other = is_switch other.room && nat_lt item other.item && nat_lt other.item next.item

nearer_next : (rooms : List Room) (item : ℕ) (next other : Spot) → IsNext rooms item next → IsSpot rooms other → IsNext rooms item (nearer item next other)
nearer_next rooms item next other is one = go (is_nearer item next other) refl where
  go : (t : Bool) → is_nearer item next other ≡ t → IsNext rooms item (if t then other else next)
  go true e =
      let parts = and_parts (is_switch other.room && nat_lt item other.item) (nat_lt other.item next.item) e in
      let first = and_parts (is_switch other.room) (nat_lt item other.item) parts.0 in
      let within = one.within in
      record { behind = ltb-true item other.item first.1; within = omega arith; switch = λ low. first.0; spot = λ low. one }
  go false e = is

nearer_low : (item : ℕ) (next other : Spot) → (nearer item next other).item ≤ next.item
nearer_low item next other = go (is_nearer item next other) refl where
  go : (t : Bool) → is_nearer item next other ≡ t → (if t then other else next).item ≤ next.item
  go true e =
      let parts = and_parts (is_switch other.room && nat_lt item other.item) (nat_lt other.item next.item) e in
      let low = ltb-true other.item next.item parts.1 in
      omega arith
  go false e = omega arith

nearer_hit : (item : ℕ) (next other : Spot) → is_switch other.room ≡ true → item < other.item → (nearer item next other).item ≤ other.item
nearer_hit item next other switch behind = go (cases_lt other.item next.item) where
  go : (other.item < next.item) ⊎ (next.item ≤ other.item) → (nearer item next other).item ≤ other.item
  go (inl low) =
      let test : is_nearer item next other ≡ true = rw (switch, lt-ltb item other.item behind, lt-ltb other.item next.item low) refl in
      let same : (nearer item next other).item ≡ other.item = ap (λ t. (if t then other else next).item) test in
      omega arith
  go (inr high) = let low = nearer_low item next other in omega arith

next_low : (item : ℕ) (next : Spot) (spots : List Spot) → (next_in item next spots).item ≤ next.item
next_low item next [] = omega arith
next_low item next (spot ∷ spots) =
    let here = nearer_low item next spot in
    let later = next_low item (nearer item next spot) spots in
    omega arith

next_is : (rooms : List Room) (item : ℕ) (next : Spot) (spots : List Spot) → IsNext rooms item next → AllByRecursion (IsSpot rooms) spots → IsNext rooms item (next_in item next spots)
next_is rooms item next [] is each = is
next_is rooms item next (spot ∷ spots) is each = next_is rooms item (nearer item next spot) spots (nearer_next rooms item next spot is each.0) each.1

next_hit : (rooms : List Room) (item : ℕ) (next : Spot) (spots : List Spot) (k : ℕ) → AllByRecursion (IsSpot rooms) spots → is_listed k spots ≡ true → is_switch (room_at rooms k) ≡ true → item < k
    → (next_in item next spots).item ≤ k
next_hit rooms item next [] k each listed switch behind = absurd (false≢true listed)
next_hit rooms item next (spot ∷ spots) k each listed switch behind = go (next_hit rooms item (nearer item next spot) spots k each.1) (nat_eq k spot.item) refl listed where
  go : (is_listed k spots ≡ true → is_switch (room_at rooms k) ≡ true → item < k → (next_in item (nearer item next spot) spots).item ≤ k)
      → (t : Bool) → nat_eq k spot.item ≡ t → (t || is_listed k spots) ≡ true → (next_in item (nearer item next spot) spots).item ≤ k
  go others true e listed =
      let same : k ≡ spot.item = eqb-true k spot.item e in
      let is : is_switch spot.room ≡ true = sym (ap is_switch each.0.here) ∙ sym (ap (λ n. is_switch (room_at rooms n)) same) ∙ switch in
      let here = nearer_hit item next spot is (omega arith) in
      let later = next_low item (nearer item next spot) spots in
      omega arith
  go others false e listed = others listed switch behind

switch_spot : (r : Room) → is_switch r ≡ true → is_spot r ≡ true
switch_spot (room.Plain n) is = absurd (false≢true is)
switch_spot (room.Switch n) is = refl
switch_spot (room.Narrow b) is = refl
switch_spot (room.Wide b) is = refl

-- the change that is found is that of the growth
pub change_is : (rooms : List Room) (spots : List Spot) (item : ℕ) → Tracks rooms spots → item < length rooms
    → IsChange rooms (change_in item (growth (room_at rooms item)) (length rooms) (next_in item (no_switch (length rooms)) spots))
change_is rooms spots item tracks within = record {
  grows = refl;
  counts = refl;
  behind = found.behind;
  within = found.within;
  none = λ i high low. unswitched i high low (is_switch (room_at rooms i)) refl;
  next = λ low. ap is_switch (found.spot low).here ∙ found.switch low;
  later = λ low. ap (λ start. (start % 4 + growth (room_at rooms item)) / 4 * 4) (sym (found.spot low).starts);
} where
  next : Spot
  next = next_in item (no_switch (length rooms)) spots

  found : IsNext rooms item (next_in item (no_switch (length rooms)) spots)
  found = next_is rooms item (no_switch (length rooms)) spots (record { behind = within; within = omega arith; switch = λ low. absurd (omega arith); spot = λ low. absurd (omega arith) }) tracks.each

  unswitched : (i : ℕ) → item < i → i < (next_in item (no_switch (length rooms)) spots).item → (t : Bool) → is_switch (room_at rooms i) ≡ t → is_switch (room_at rooms i) ≡ false
  unswitched i high low true e =
      let hit = next_hit rooms item (no_switch (length rooms)) spots i tracks.each (tracks.listed i (switch_spot (room_at rooms i) e)) e high in
      absurd (omega arith)
  unswitched i high low false e = e

-- ---- after a change

moved_is : (rooms : List Room) (change : Change) (spot : Spot) → IsChange rooms change → IsSpot rooms spot → IsSpot (widen_item rooms change.item) (moved change spot)
moved_is rooms change spot is one = record {
  within = let size = length-widen_item rooms change.item in let low = one.within in omega arith;
  here = room_here (nat_eq spot.item change.item) refl;
  starts = changed_start rooms change spot.item is ∙ ap (λ n. n + shift change spot.item) one.starts;
  leads = ap (start_at (widen_item rooms change.item)) (target_if (nat_eq spot.item change.item) spot.room)
      ∙ changed_start rooms change (target_of spot.room) is ∙ ap (λ n. n + shift change (target_of spot.room)) one.leads;
} where
  room_here : (t : Bool) → nat_eq spot.item change.item ≡ t → room_at (widen_item rooms change.item) spot.item ≡ (if t then wide_room spot.room else spot.room)
  room_here true e =
      let same : spot.item ≡ change.item = eqb-true spot.item change.item e in
      ap (λ n. room_at (widen_item rooms n) spot.item) (sym same) ∙ same_room rooms spot.item ∙ ap wide_room one.here
  room_here false e = other_room rooms change.item spot.item (λ same. false≢true (sym e ∙ eq-eqb spot.item change.item same)) ∙ one.here

fits_start : (rooms : List Room) (change : Change) (k : ℕ) → IsChange rooms change → weight_of rooms < 4294967288 → start_at rooms k + shift change k < 4294967296
fits_start rooms change k is light =
    let new = widen_item rooms change.item in
    let begins = changed_start rooms change k is in
    let low = start_le_end 0 (widen_item rooms change.item) k in
    let bound = end_weight 0 (widen_item rooms change.item) in
    let same = weight-widen_item rooms change.item in
    omega arith

fits_one : (rooms : List Room) (change : Change) → IsChange rooms change → weight_of rooms < 4294967288 → (spot : Spot) → IsSpot rooms spot → FitsAfter change spot
fits_one rooms change is light spot one =
    let start = fits_start rooms change spot.item is light in
    let to = fits_start rooms change (target_of spot.room) is light in
    let starts = one.starts in
    let leads = one.leads in
    (omega arith, omega arith)

pub fits_all : (rooms : List Room) (spots : List Spot) (change : Change) → Tracks rooms spots → IsChange rooms change → AllByRecursion (FitsAfter change) spots
fits_all rooms spots change tracks is = AllByRecursion-weaker (IsSpot rooms) (FitsAfter change) (fits_one rooms change is tracks.weight) spots tracks.each

listed_moved : (change : Change) (k : ℕ) (spots : List Spot) → is_listed k (map (moved change) spots) ≡ is_listed k spots
listed_moved change k [] = refl
listed_moved change k (spot ∷ spots) = ap (λ t. nat_eq k spot.item || t) (listed_moved change k spots)

pub tracks_moved : (rooms : List Room) (spots : List Spot) (change : Change) → Tracks rooms spots → IsChange rooms change → Tracks (widen_item rooms change.item) (map (moved change) spots)
tracks_moved rooms spots change tracks is = record {
  each = AllByRecursion-mapped (IsSpot rooms) (IsSpot (widen_item rooms change.item)) (moved change) (λ spot one. moved_is rooms change spot is one) spots tracks.each;
  listed = λ k spotted. listed_moved change k spots ∙ tracks.listed k (sym (spot_kept rooms change.item k) ∙ spotted);
  weight = let same = weight-widen_item rooms change.item in let light = tracks.weight in omega arith;
}

-- ---- what is listed at first

each_from : (whole : List Room) (i start : ℕ) (rest : List Room) → ((k : ℕ) → room_at whole (i + k) ≡ room_at rest k) → ((k : ℕ) → start_at whole (i + k) ≡ get_or (starts_from start rest) k 0)
    → i + length rest ≡ length whole → AllByRecursion (IsSpot whole) (spots_from (starts_from 0 whole) start i rest)
each_from whole i start [] rooms starts size = tt
each_from whole i start (r ∷ rest) rooms starts size =
    AllByRecursion-append (IsSpot whole) (spot_in (starts_from 0 whole) start i r) (spots_from (starts_from 0 whole) (start + size_at start r) (i + 1) rest) (one (is_spot r))
    (each_from whole (i + 1) (start + size_at start r) rest (λ k. ap (room_at whole) (next k) ∙ rooms (suc k)) (λ k. ap (start_at whole) (next k) ∙ starts (suc k)) (omega arith)) where
      next : (k : ℕ) → (i + 1) + k ≡ i + suc k
      next k = omega arith

      here : i ≡ i + 0
      here = omega arith

      one : (t : Bool) → AllByRecursion (IsSpot whole) (if t then record { item = i; start = start; to = slice_index (starts_from 0 whole) (target_of r); room = r } ∷ [] else [])
      one true = (record { within = omega arith; here = ap (room_at whole) here ∙ rooms 0; starts = ap (start_at whole) here ∙ starts 0; leads = refl }, tt)
      one false = tt

listed_from : (starts : List ℕ) (i start : ℕ) (rest : List Room) (k : ℕ) → is_spot (room_at rest k) ≡ true → is_listed (i + k) (spots_from starts start i rest) ≡ true
listed_from starts i start [] k is = absurd (false≢true is)
listed_from starts i start (r ∷ rest) zero is = first (is_spot r) is where
  first : (t : Bool) → t ≡ true
      → is_listed (i + 0) ((if t then record { item = i; start = start; to = slice_index starts (target_of r); room = r } ∷ [] else []) ++ spots_from starts (start + size_at start r) (i + 1) rest) ≡ true
  first true e = ap (λ t. t || is_listed (i + 0) (spots_from starts (start + size_at start r) (i + 1) rest)) (eq-eqb (i + 0) i (omega arith))
  first false e = absurd (false≢true e)
listed_from starts i start (r ∷ rest) (suc k) is =
    let next : i + suc k ≡ (i + 1) + k = omega arith in
    list_any-append (λ (spot : Spot). nat_eq (i + suc k) spot.item) (spot_in starts start i r) (spots_from starts (start + size_at start r) (i + 1) rest)
    ∙ or_right (is_listed (i + suc k) (spot_in starts start i r)) (is_listed (i + suc k) (spots_from starts (start + size_at start r) (i + 1) rest))
    (ap (λ n. is_listed n (spots_from starts (start + size_at start r) (i + 1) rest)) next ∙ listed_from starts (i + 1) (start + size_at start r) rest k is)

-- all branches and switches of rooms
pub spots_track : (rooms : List Room) → weight_of rooms < 4294967288 → Tracks rooms (spots_from (starts_from 0 rooms) 0 0 rooms)
spots_track rooms light =
    let front : (k : ℕ) → 0 + k ≡ k = λ k. omega arith in
    record {
      each = each_from rooms 0 0 rooms (λ k. ap (room_at rooms) (front k)) (λ k. ap (start_at rooms) (front k)) (omega arith);
      listed = λ k is. ap (λ n. is_listed n (spots_from (starts_from 0 rooms) 0 0 rooms)) (sym (front k)) ∙ listed_from (starts_from 0 rooms) 0 0 rooms k is;
      weight = light;
    }

-- ---- one branch is widened

pub growth_le : (r : Room) → growth r ≤ 8
growth_le (room.Plain n) = omega arith
growth_le (room.Switch n) = omega arith
growth_le (room.Narrow b) = go b.condition where
  go : (taken : Option Condition) → branch_growth taken ≤ 8
  go None = omega arith
  go (Some taken) = omega arith
growth_le (room.Wide b) = omega arith

-- the change is that of this item
pub one_change : (rooms : List Room) (spots : List Spot) (item by : ℕ) (change : Change) → Tracks rooms spots → item < length rooms → by ≡ growth (room_at rooms item)
    → change ≡ change_in item by (length rooms) (next_in item (no_switch (length rooms)) spots) → IsChange rooms change × (change.item ≡ item)
one_change rooms spots item by change tracks within by_is is =
    let P : Change → Type 0 = λ x. IsChange rooms x × (x.item ≡ item) in
    let whole : change ≡ change_in item (growth (room_at rooms item)) (length rooms) (next_in item (no_switch (length rooms)) spots) =
    is ∙ ap (λ n. change_in item n (length rooms) (next_in item (no_switch (length rooms)) spots)) by_is in
    subst P (sym whole) (change_is rooms spots item tracks within, refl)

pub one_widened : (rooms : List Room) (item : ℕ) (wider : Room) → wider ≡ wide_room (room_at rooms item) → set rooms item wider ≡ widen_item rooms item
one_widened rooms item wider is = ap (λ r. set rooms item r) is ∙ set_is rooms item

pub one_moved : (rooms : List Room) (spots : List Spot) (item : ℕ) (change : Change) (wider : Room) (new : List Spot) → Tracks rooms spots → IsChange rooms change × (change.item ≡ item)
    → wider ≡ wide_room (room_at rooms item) → new ≡ map (moved change) spots → Tracks (set rooms item wider) new
one_moved rooms spots item change wider new tracks is wider_is new_is =
    let rooms_are : widen_item rooms change.item ≡ set rooms item wider = ap (λ n. widen_item rooms n) is.1 ∙ sym (one_widened rooms item wider wider_is) in
    subst (λ (rs : List Room). Tracks rs new) rooms_are
    (subst (λ (all : List Spot). Tracks (widen_item rooms change.item) all) (sym new_is) (tracks_moved rooms spots change tracks is.0))

-- ---- branches are widened one after the other

pub record FarSoFar (old rooms : List Room) (spots : List Spot) (far : List ℕ) (k : ℕ) : Type 0 where
  pub widened : widen_all rooms (drop k far) ≡ widen_all old far
  pub within : AllByRecursion (λ item. item < length rooms) (drop k far)
  pub tracks : Tracks rooms spots

module _ (old rooms : List Room) (spots : List Spot) (far : List ℕ) (k : ℕ) where
  abbrev first : ℕ
  first = get_or far k 0

  from_first : k < length far → drop k far ≡ first ∷ drop (k + 1) far
  from_first low = drop_here far k first low (get_or_default far k 0 first low)

  all_within : k < length far → FarSoFar old rooms spots far k → AllByRecursion (λ item. item < length rooms) (first ∷ drop (k + 1) far)
  all_within low so_far = subst (λ (items : List ℕ). AllByRecursion (λ item. item < length rooms) items) (from_first low) so_far.within

  pub FarSoFar-first : k < length far → FarSoFar old rooms spots far k → get_or far k 0 < length rooms
  FarSoFar-first low so_far = (all_within low so_far).0

  pub FarSoFar-next : (new : List Room) (after : List Spot) → k < length far → FarSoFar old rooms spots far k → new ≡ widen_item rooms (get_or far k 0) → Tracks new after
      → FarSoFar old new after far (k + 1)
  FarSoFar-next new after low so_far is tracks =
      let size : length new ≡ length rooms = ap (λ (rs : List Room). length rs) is ∙ length-widen_item rooms first in
      record {
        widened = ap (λ (rs : List Room). widen_all rs (drop (k + 1) far)) is ∙ ap (λ (items : List ℕ). widen_all rooms items) (sym (from_first low)) ∙ so_far.widened;
        within = AllByRecursion-weaker (λ item. item < length rooms) (λ item. item < length new) (λ item less. omega arith) (drop (k + 1) far) (all_within low so_far).1;
        tracks = tracks;
      }

  pub FarSoFar-all : length far ≤ k → FarSoFar old rooms spots far k → rooms ≡ widen_all old far
  FarSoFar-all past so_far = ap (λ (items : List ℕ). widen_all rooms items) (sym (drop_of_length-le far past)) ∙ so_far.widened

-- ---- rounds

pub far_within : (rooms : List Room) (spots : List Spot) → AllByRecursion (IsSpot rooms) spots → AllByRecursion (λ item. item < length rooms) (far_items spots)
far_within rooms [] each = tt
far_within rooms (spot ∷ spots) each = go (far_within rooms spots each.1) (is_far spot) where
  go : AllByRecursion (λ item. item < length rooms) (far_items spots) → (t : Bool)
      → AllByRecursion (λ item. item < length rooms) (if t then spot.item ∷ far_items spots else far_items spots)
  go others true = (each.0.within, others)
  go others false = others

pub light_end : (rooms : List Room) → weight_of rooms < 4294967288 → end_from 0 rooms < 4294967296
light_end rooms light = let bound = end_weight 0 rooms in omega arith

-- a round makes rooms no heavier
pub light_round : (starts : List ℕ) (rooms new : List Room) → weight_of rooms < 4294967288 → new ≡ widened_from starts 0 rooms → weight_of new < 4294967288
light_round starts rooms new light is =
    let same : weight_of new ≡ weight_of rooms = ap (λ (rs : List Room). weight_of rs) is ∙ weight-widened_from starts 0 rooms in
    omega arith

-- what is listed anew
pub listed_anew : (rooms : List Room) (spots : List Spot) (starts : List ℕ) → weight_of rooms < 4294967288 → starts ≡ starts_from 0 rooms → spots ≡ spots_from starts 0 0 rooms → Tracks rooms spots
listed_anew rooms spots starts light starts_are is =
    subst (λ (all : List Spot). Tracks rooms all) (sym (is ∙ ap (λ (ss : List ℕ). spots_from ss 0 0 rooms) starts_are)) (spots_track rooms light)

-- where no branch is far a round widens none
pub none_widened : (rooms : List Room) (spots : List Spot) (far : List ℕ) → Tracks rooms spots → far ≡ far_items spots → length far ≡ 0 → round_after rooms ≡ rooms
none_widened rooms spots [] tracks is none = sym (round_is rooms spots tracks) ∙ ap (λ (items : List ℕ). widen_all rooms items) (sym is)
none_widened rooms spots (item ∷ far) tracks is none = absurd (omega arith)

pub far_widened : (rooms : List Room) (spots : List Spot) (far : List ℕ) (new : List Room) → Tracks rooms spots → far ≡ far_items spots → new ≡ widen_all rooms far → new ≡ round_after rooms
far_widened rooms spots far new tracks is new_is = new_is ∙ ap (λ (items : List ℕ). widen_all rooms items) is ∙ round_is rooms spots tracks
