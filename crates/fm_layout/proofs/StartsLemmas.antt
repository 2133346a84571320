-- Where rooms begin once a branch is widened.
use Rattle.std.proofs.Common.{◌≡◌, ℕ, zero, suc, ◌+◌, ◌*◌, ◌/◌, ◌%◌, ◌<◌, ◌≤◌, ◌⊎◌, inl, inr, true, false, List, [], ◌∷◌, length, get_or, refl, sym, ap, ◌∙◌, arith, Option, Some, None}
use Rattle.std.proofs.lemmas.Bool.{cases_lt, false≢true, lt-ltb, le-ltb}
use Rattle.fm_layout.specs.Rooms.{size_at, starts_from}
use Rattle.fm_layout.specs.inner.Spots.{branch_growth, growth, is_switch, room_at, shift, start_at, wide_room, widen_item}
use Rattle.fm_layout.specs.declared.rooms.Condition.{Condition}
use Rattle.fm_layout.specs.declared.rooms.Room.{Room}
use Rattle.fm_layout.specs.declared.rooms.Room.TheVariants as room
use Rattle.fm_layout.specs.declared.spots.Change.{Change}

-- ---- rooms that begin later

-- where the room of a number begins, if the first one begins at an offset
abbrev start_in : ℕ → List Room → ℕ → ℕ
start_in start rooms k = get_or (starts_from start rooms) k 0

-- by how much later a room ends that begins later
abbrev carried : ℕ → ℕ → Room → ℕ
carried start by (room.Switch size) = (start % 4 + by) / 4 * 4
carried start by r = by

-- by how much later each begins
abbrev shift_in : ℕ → ℕ → List Room → ℕ → ℕ
shift_in start by [] zero = by
shift_in start by [] (suc k) = 0
shift_in start by (r ∷ rooms) zero = by
shift_in start by (r ∷ rooms) (suc k) = shift_in (start + size_at start r) (carried start by r) rooms k

carried_size : (start by : ℕ) (r : Room) → (start + by) + size_at (start + by) r ≡ (start + size_at start r) + carried start by r
carried_size start by (room.Plain n) = omega arith
carried_size start by (room.Switch n) = omega arith
carried_size start by (room.Narrow b) = omega arith
carried_size start by (room.Wide b) = omega arith

later_start : (start by : ℕ) (rooms : List Room) (k : ℕ) → start_in (start + by) rooms k ≡ start_in start rooms k + shift_in start by rooms k
later_start start by [] zero = refl
later_start start by [] (suc k) = refl
later_start start by (r ∷ rooms) zero = refl
later_start start by (r ∷ rooms) (suc k) =
    ap (λ n. start_in n rooms k) (carried_size start by r) ∙ later_start (start + size_at start r) (carried start by r) rooms k

-- ---- up to the next switch, and behind it

carried_plain : (start by : ℕ) (r : Room) → is_switch r ≡ false → carried start by r ≡ by
carried_plain start by (room.Plain n) none = refl
carried_plain start by (room.Switch n) none = absurd (false≢true (sym none))
carried_plain start by (room.Narrow b) none = refl
carried_plain start by (room.Wide b) none = refl

carried_fours : (start m : ℕ) (r : Room) → carried start (m * 4) r ≡ m * 4
carried_fours start m (room.Plain n) = refl
carried_fours start m (room.Switch n) = omega arith
carried_fours start m (room.Narrow b) = refl
carried_fours start m (room.Wide b) = refl

carried_switch : (start by : ℕ) (r : Room) → is_switch r ≡ true → carried start by r ≡ (start % 4 + by) / 4 * 4
carried_switch start by (room.Plain n) is = absurd (false≢true is)
carried_switch start by (room.Switch n) is = refl
carried_switch start by (room.Narrow b) is = absurd (false≢true is)
carried_switch start by (room.Wide b) is = absurd (false≢true is)

shift_plain : (start by : ℕ) (rooms : List Room) (k : ℕ) → ((i : ℕ) → i < k → is_switch (room_at rooms i) ≡ false) → k ≤ length rooms → shift_in start by rooms k ≡ by
shift_plain start by [] zero none within = refl
shift_plain start by [] (suc k) none within = absurd (omega arith)
shift_plain start by (r ∷ rooms) zero none within = refl
shift_plain start by (r ∷ rooms) (suc k) none within =
    ap (λ n. shift_in (start + size_at start r) n rooms k) (carried_plain start by r (none 0 (omega arith)))
    ∙ shift_plain (start + size_at start r) by rooms k (λ i low. none (suc i) (omega arith)) (omega arith)

shift_fours : (start m : ℕ) (rooms : List Room) (k : ℕ) → k ≤ length rooms → shift_in start (m * 4) rooms k ≡ m * 4
shift_fours start m [] zero within = refl
shift_fours start m [] (suc k) within = absurd (omega arith)
shift_fours start m (r ∷ rooms) zero within = refl
shift_fours start m (r ∷ rooms) (suc k) within =
    ap (λ n. shift_in (start + size_at start r) n rooms k) (carried_fours start m r) ∙ shift_fours (start + size_at start r) m rooms k (omega arith)

shift_switch : (start by : ℕ) (rooms : List Room) (q k : ℕ) → ((i : ℕ) → i < q → is_switch (room_at rooms i) ≡ false) → is_switch (room_at rooms q) ≡ true → q < k → k ≤ length rooms
    → shift_in start by rooms k ≡ (start_in start rooms q % 4 + by) / 4 * 4
shift_switch start by [] q zero none is behind within = absurd (omega arith)
shift_switch start by [] q (suc k) none is behind within = absurd (omega arith)
shift_switch start by (r ∷ rooms) q zero none is behind within = absurd (omega arith)
shift_switch start by (r ∷ rooms) zero (suc k) none is behind within =
    ap (λ n. shift_in (start + size_at start r) n rooms k) (carried_switch start by r is)
    ∙ shift_fours (start + size_at start r) ((start % 4 + by) / 4) rooms k (omega arith)
shift_switch start by (r ∷ rooms) (suc q) (suc k) none is behind within =
    ap (λ n. shift_in (start + size_at start r) n rooms k) (carried_plain start by r (none 0 (omega arith)))
    ∙ shift_switch (start + size_at start r) by rooms q k (λ i low. none (suc i) (omega arith)) is (omega arith) (omega arith)

shift_past : (start by : ℕ) (rooms : List Room) (k : ℕ) → length rooms < k → shift_in start by rooms k ≡ 0
shift_past start by [] zero past = absurd (omega arith)
shift_past start by [] (suc k) past = refl
shift_past start by (r ∷ rooms) zero past = absurd (omega arith)
shift_past start by (r ∷ rooms) (suc k) past = shift_past (start + size_at start r) (carried start by r) rooms k (omega arith)

-- ---- one branch is widened

-- by how much later each room begins then
abbrev widen_shift : ℕ → List Room → ℕ → ℕ → ℕ
widen_shift start [] item k = 0
widen_shift start (r ∷ rooms) item zero = 0
widen_shift start (r ∷ rooms) zero (suc k) = shift_in (start + size_at start r) (growth r) rooms k
widen_shift start (r ∷ rooms) (suc item) (suc k) = widen_shift (start + size_at start r) rooms item k

wide_grows : (start : ℕ) (r : Room) → start + size_at start (wide_room r) ≡ (start + size_at start r) + growth r
wide_grows start (room.Plain n) = omega arith
wide_grows start (room.Switch n) = omega arith
wide_grows start (room.Narrow b) = go b.condition where
  go : (taken : Option Condition) → start + size_at start (room.Wide (record { condition = taken; target = b.target })) ≡ (start + 3) + branch_growth taken
  go None = omega arith
  go (Some taken) = omega arith
wide_grows start (room.Wide b) = omega arith

widened_start : (start : ℕ) (rooms : List Room) (item k : ℕ) → start_in start (widen_item rooms item) k ≡ start_in start rooms k + widen_shift start rooms item k
widened_start start [] item k = omega arith
widened_start start (r ∷ rooms) zero zero = omega arith
widened_start start (r ∷ rooms) (suc item) zero = omega arith
widened_start start (r ∷ rooms) zero (suc k) = ap (λ n. start_in n rooms k) (wide_grows start r) ∙ later_start (start + size_at start r) (growth r) rooms k
widened_start start (r ∷ rooms) (suc item) (suc k) = widened_start (start + size_at start r) rooms item k

-- the rooms between two numbers are no switches
abbrev pub NoSwitch : List Room → ℕ → ℕ → Type 0
NoSwitch rooms from to = (i : ℕ) → from < i → i < to → is_switch (room_at rooms i) ≡ false

widen_low : (start : ℕ) (rooms : List Room) (item k : ℕ) → k ≤ item → widen_shift start rooms item k ≡ 0
widen_low start [] item k low = refl
widen_low start (r ∷ rooms) zero zero low = refl
widen_low start (r ∷ rooms) (suc item) zero low = refl
widen_low start (r ∷ rooms) zero (suc k) low = absurd (omega arith)
widen_low start (r ∷ rooms) (suc item) (suc k) low = widen_low (start + size_at start r) rooms item k (omega arith)

widen_next : (start : ℕ) (rooms : List Room) (item k : ℕ) → item < k → k ≤ length rooms → NoSwitch rooms item k → widen_shift start rooms item k ≡ growth (room_at rooms item)
widen_next start [] item k behind within none = absurd (omega arith)
widen_next start (r ∷ rooms) zero zero behind within none = absurd (omega arith)
widen_next start (r ∷ rooms) (suc item) zero behind within none = absurd (omega arith)
widen_next start (r ∷ rooms) zero (suc k) behind within none =
    shift_plain (start + size_at start r) (growth r) rooms k (λ i low. none (suc i) (omega arith) (omega arith)) (omega arith)
widen_next start (r ∷ rooms) (suc item) (suc k) behind within none =
    widen_next (start + size_at start r) rooms item k (omega arith) (omega arith) (λ i high low. none (suc i) (omega arith) (omega arith))

widen_later : (start : ℕ) (rooms : List Room) (item q k : ℕ) → item < q → q < k → k ≤ length rooms → NoSwitch rooms item q → is_switch (room_at rooms q) ≡ true
    → widen_shift start rooms item k ≡ (start_in start rooms q % 4 + growth (room_at rooms item)) / 4 * 4
widen_later start [] item q k first behind within none is = absurd (omega arith)
widen_later start (r ∷ rooms) item zero k first behind within none is = absurd (omega arith)
widen_later start (r ∷ rooms) zero (suc q) zero first behind within none is = absurd (omega arith)
widen_later start (r ∷ rooms) (suc item) (suc q) zero first behind within none is = absurd (omega arith)
widen_later start (r ∷ rooms) zero (suc q) (suc k) first behind within none is =
    shift_switch (start + size_at start r) (growth r) rooms q k (λ i low. none (suc i) (omega arith) (omega arith)) is (omega arith) (omega arith)
widen_later start (r ∷ rooms) (suc item) (suc q) (suc k) first behind within none is =
    widen_later (start + size_at start r) rooms item q k (omega arith) (omega arith) (omega arith) (λ i high low. none (suc i) (omega arith) (omega arith)) is

widen_past : (start : ℕ) (rooms : List Room) (item k : ℕ) → length rooms < k → widen_shift start rooms item k ≡ 0
widen_past start [] item k past = refl
widen_past start (r ∷ rooms) item zero past = refl
widen_past start (r ∷ rooms) zero (suc k) past = shift_past (start + size_at start r) (growth r) rooms k (omega arith)
widen_past start (r ∷ rooms) (suc item) (suc k) past = widen_past (start + size_at start r) rooms item k (omega arith)

-- ---- as a change says it

-- the change is that of the growth of its item
pub record IsChange (rooms : List Room) (change : Change) : Type 0 where
  pub grows : change.by ≡ growth (room_at rooms change.item)
  pub counts : change.count ≡ length rooms
  pub behind : change.item < change.switch
  pub within : change.switch ≤ length rooms
  pub none : NoSwitch rooms change.item change.switch
  pub next : change.switch < length rooms → is_switch (room_at rooms change.switch) ≡ true
  pub later : change.switch < length rooms → change.later ≡ (start_at rooms change.switch % 4 + growth (room_at rooms change.item)) / 4 * 4

shift_low : (change : Change) (k : ℕ) → k ≤ change.item → shift change k ≡ 0
shift_low change k low = rw (le-ltb change.item k low) refl

shift_by : (change : Change) (k : ℕ) → change.item < k → k ≤ change.switch → shift change k ≡ change.by
shift_by change k behind low = rw (lt-ltb change.item k behind, le-ltb change.switch k low) refl

shift_later : (change : Change) (k : ℕ) → change.item < k → change.switch < k → k ≤ change.count → shift change k ≡ change.later
shift_later change k behind last within = rw (lt-ltb change.item k behind, lt-ltb change.switch k last, le-ltb change.count k within) refl

shift_none : (change : Change) (k : ℕ) → change.item < k → change.switch < k → change.count < k → shift change k ≡ 0
shift_none change k behind last past = rw (lt-ltb change.item k behind, lt-ltb change.switch k last, lt-ltb change.count k past) refl

shift_is : (rooms : List Room) (change : Change) (k : ℕ) → IsChange rooms change → widen_shift 0 rooms change.item k ≡ shift change k
shift_is rooms change k is = first (cases_lt change.item k) where
  third : change.item < k → change.switch < k → (change.count < k) ⊎ (k ≤ change.count) → widen_shift 0 rooms change.item k ≡ shift change k
  third behind last (inl past) =
      let counts = is.counts in widen_past 0 rooms change.item k (omega arith) ∙ sym (shift_none change k behind last past)
  third behind last (inr within) =
      let counts = is.counts in
      widen_later 0 rooms change.item change.switch k is.behind last (omega arith) is.none (is.next (omega arith))
      ∙ sym (is.later (omega arith)) ∙ sym (shift_later change k behind last within)

  second : change.item < k → (change.switch < k) ⊎ (k ≤ change.switch) → widen_shift 0 rooms change.item k ≡ shift change k
  second behind (inl last) = third behind last (cases_lt change.count k)
  second behind (inr low) =
      let within = is.within in
      widen_next 0 rooms change.item k behind (omega arith) (λ i high less. is.none i high (omega arith)) ∙ sym is.grows ∙ sym (shift_by change k behind low)

  first : (change.item < k) ⊎ (k ≤ change.item) → widen_shift 0 rooms change.item k ≡ shift change k
  first (inl behind) = second behind (cases_lt change.switch k)
  first (inr low) = widen_low 0 rooms change.item k low ∙ sym (shift_low change k low)

-- each room begins by the change's shift later
pub changed_start : (rooms : List Room) (change : Change) (k : ℕ) → IsChange rooms change → start_at (widen_item rooms change.item) k ≡ start_at rooms k + shift change k
changed_start rooms change k is = widened_start 0 rooms change.item k ∙ ap (λ n. start_at rooms k + n) (shift_is rooms change k is)
