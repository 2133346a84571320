-- Where rooms begin and end, and what a round does to them.
use Rattle.std.proofs.Common.{◌≡◌, ℕ, zero, suc, ◌+◌, ◌-◌, ◌<◌, ◌≤◌, Bool, true, false, List, [], ◌∷◌, length, get_or, drop, refl, sym, ap, ◌∙◌, arith, if◌then◌else◌, Option, Some, None}
use Rattle.std.proofs.lemmas.List.{get_or_default}
use Rattle.std.proofs.Math.ListN.{drop_of_length-le}
use Rattle.fm_base.proofs.ListFacts.{drop_here}
use Rattle.fm_code.specs.declared.code_array.TheConstants.{MAX_CODE_BYTES}
use Rattle.fm_layout.specs.Laid.{item_count, branch_count}
use Rattle.fm_layout.specs.Rooms.{is_in_reach, size_at, wide_size, end_from, starts_from, widened_at, widened_from, round_after, rounds_after}
use Rattle.fm_layout.specs.inner.Weights.{weight, weight_of, AreOffsetsWithin}
use Rattle.fm_layout.specs.declared.rooms.Condition.{Condition}
use Rattle.fm_layout.specs.declared.rooms.Room.{Room}
use Rattle.fm_layout.specs.declared.rooms.Room.TheVariants as room

-- ---- where rooms end

-- rooms end at or after their start
pub end_grows : (start : ℕ) (rooms : List Room) → start ≤ end_from start rooms
end_grows start [] = omega arith
end_grows start (r ∷ rooms) = let later = end_grows (start + size_at start r) rooms in omega arith

-- the rest of the rooms ends where all do
pub end_next : (rooms : List Room) (i start : ℕ) (r : Room) (total : ℕ) → i < length rooms → r ≡ get_or rooms i r → end_from start (drop i rooms) ≡ total
    → end_from (start + size_at start r) (drop (i + 1) rooms) ≡ total
end_next rooms i start r total within is so_far = sym (ap (λ rs. end_from start rs) (drop_here rooms i r within is)) ∙ so_far

-- and the next room before that
pub next_fits : (rooms : List Room) (i start : ℕ) (r : Room) (total : ℕ) → i < length rooms → r ≡ get_or rooms i r → end_from start (drop i rooms) ≡ total
    → start + size_at start r ≤ total
next_fits rooms i start r total within is so_far =
    let later = end_grows (start + size_at start r) (drop (i + 1) rooms) in
    let e = end_next rooms i start r total within is so_far in
    omega arith

-- the same of the room that is read there
pub fits_at : (rooms : List Room) (i start total : ℕ) → i < length rooms → end_from start (drop i rooms) ≡ total
    → start + size_at start (get_or rooms i (room.Plain 0)) ≤ total
fits_at rooms i start total within so_far =
    let d = room.Plain 0 in
    next_fits rooms i start (get_or rooms i d) total within (get_or_default rooms i d (get_or rooms i d) within) so_far

pub end_last : (rooms : List Room) (i start total : ℕ) → length rooms ≤ i → end_from start (drop i rooms) ≡ total → start ≡ total
end_last rooms i start total past so_far = sym (ap (λ rs. end_from start rs) (drop_of_length-le rooms past)) ∙ so_far

-- no room begins after the end
pub start_le_end : (start : ℕ) (rooms : List Room) (k : ℕ) → get_or (starts_from start rooms) k 0 ≤ end_from start rooms
start_le_end start [] zero = omega arith
start_le_end start [] (suc k) = omega arith
start_le_end start (r ∷ rooms) zero = end_grows start (r ∷ rooms)
start_le_end start (r ∷ rooms) (suc k) = start_le_end (start + size_at start r) rooms k

pub starts_within : (rooms : List Room) → end_from 0 rooms ≤ MAX_CODE_BYTES → AreOffsetsWithin (starts_from 0 rooms)
starts_within rooms short k = let below = start_le_end 0 rooms k in omega arith

-- ---- rounds

-- once a round widens nothing, no round does
pub rounds_settled : (rounds : ℕ) (rooms : List Room) → round_after rooms ≡ rooms → rounds_after rounds rooms ≡ rooms
rounds_settled zero rooms settled = refl
rounds_settled (suc rounds) rooms settled = ap (λ rs. rounds_after rounds rs) settled ∙ rounds_settled rounds rooms settled

-- one round of those that are left
pub round_next : (count k : ℕ) (rooms : List Room) → k < count → rounds_after (count - k) rooms ≡ rounds_after (count - (k + 1)) (round_after rooms)
round_next count k rooms within = let e : count - k ≡ suc (count - (k + 1)) = omega arith in ap (λ n. rounds_after n rooms) e

pub no_rounds : (count k : ℕ) (rooms : List Room) → count ≤ k → rounds_after (count - k) rooms ≡ rooms
no_rounds count k rooms past = let e : count - k ≡ 0 = omega arith in ap (λ n. rounds_after n rooms) e

pub length-widened_from : (starts : List ℕ) (start : ℕ) (rooms : List Room) → length (widened_from starts start rooms) ≡ length rooms
length-widened_from starts start [] = refl
length-widened_from starts start (r ∷ rooms) = ap suc (length-widened_from starts (start + size_at start r) rooms)

pub length-rounds_after : (rounds : ℕ) (rooms : List Room) → length (rounds_after rounds rooms) ≡ length rooms
length-rounds_after zero rooms = refl
length-rounds_after (suc rounds) rooms = length-rounds_after rounds (round_after rooms) ∙ length-widened_from (starts_from 0 rooms) 0 rooms

-- ---- weights

pub weight_at : (start : ℕ) (r : Room) → size_at start r ≤ weight r
weight_at start (room.Plain n) = omega arith
weight_at start (room.Switch n) = omega arith
weight_at start (room.Narrow b) = omega arith
weight_at start (room.Wide b) = wide b.condition where
  wide : (taken : Option Condition) → wide_size taken ≤ 8
  wide None = omega arith
  wide (Some taken) = omega arith

pub end_weight : (start : ℕ) (rooms : List Room) → end_from start rooms ≤ start + weight_of rooms
end_weight start [] = omega arith
end_weight start (r ∷ rooms) =
    let here = weight_at start r in
    let later = end_weight (start + size_at start r) rooms in
    omega arith

weight-widened_at : (starts : List ℕ) (start : ℕ) (r : Room) → weight (widened_at starts start r) ≡ weight r
weight-widened_at starts start (room.Plain n) = refl
weight-widened_at starts start (room.Switch n) = refl
weight-widened_at starts start (room.Narrow b) = go (is_in_reach start (get_or starts b.target 0)) where
  go : (t : Bool) → weight (if t then room.Narrow b else room.Wide b) ≡ 8
  go true = refl
  go false = refl
weight-widened_at starts start (room.Wide b) = refl

pub weight-widened_from : (starts : List ℕ) (start : ℕ) (rooms : List Room) → weight_of (widened_from starts start rooms) ≡ weight_of rooms
weight-widened_from starts start [] = refl
weight-widened_from starts start (r ∷ rooms) =
    (λ k. weight-widened_at starts start r k + weight-widened_from starts (start + size_at start r) rooms k)

pub weight-rounds_after : (rounds : ℕ) (rooms : List Room) → weight_of (rounds_after rounds rooms) ≡ weight_of rooms
weight-rounds_after zero rooms = refl
weight-rounds_after (suc rounds) rooms = weight-rounds_after rounds (round_after rooms) ∙ weight-widened_from (starts_from 0 rooms) 0 rooms

-- ---- numbers of laid items

pub item_count-le : (r : Room) → item_count r ≤ 2
item_count-le (room.Plain n) = omega arith
item_count-le (room.Switch n) = omega arith
item_count-le (room.Narrow b) = omega arith
item_count-le (room.Wide b) = wide b.condition where
  wide : (taken : Option Condition) → branch_count taken ≤ 2
  wide None = omega arith
  wide (Some taken) = omega arith
