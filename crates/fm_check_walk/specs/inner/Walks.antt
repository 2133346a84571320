-- The state of the walk over the items of a method, and what is brought and carried to one of them.
use Rattle.std.specs.Prelude.{◌≡◌, ℕ, ◌+◌, ◌<◌, ◌≤◌, ◌⊎◌, Bool, true, false, List, length, map, replicate, Option, Some, None, IsSomeAnd, All, Contains, slice_set, count_by, sum_by}
use Rattle.std.specs.List.{slice_index_or}
use Rattle.std.specs.Option.{option_map}
use Rattle.fm_check_walk.specs.declared.walk.Walk.{Walk}
use Rattle.fm_code.specs.Edges.{IsReachable}
use Rattle.fm_check_walk.specs.inner.Tasks.{is_within, Task}
use Rattle.fm_check_walk.specs.inner.Turns.{Leaves}
use Rattle.fm_check_walk.specs.inner.Ranks.{rank_at}
use Rattle.fm_check_walk.specs.inner.Risen.{IsAlikeBut}
use Rattle.fm_types.specs.Typings.{known_state}
use Rattle.fm_types.specs.inner.Places.{slot_at}
use Rattle.fm_types.specs.declared.known_state.KnownState.{KnownState}
use Rattle.fm_types.specs.declared.known_state.SlotPlace.{SlotPlace}
use Rattle.fm_check_walk.specs.declared.risen.Rise.{Rise}
use Rattle.fm_types.specs.Fits.{fits}
use Rattle.fm_types.specs.States.{is_whole, state_fits, TypeState}
use Rattle.fm_types.specs.Typed.{entry_state, FitsAt, IsTypingOf, state_at}
use Rattle.fm_world.specs.Programs.{Outline}

-- ---- what no typing has

-- no states are a typing
abbrev pub Untypable : Task → Type 0
Untypable t = (states : List (Option TypeState)) → ¬ IsTypingOf t.program t.number t.code states

-- ---- states at items

-- the item is reachable, and in each typing it has a state that this one fits
pub record IsForced (t : Task) (j : ℕ) (s : TypeState) : Type 0 where
  pub reachable : IsReachable t.code j
  pub inside : j < length t.code.items
  pub whole : is_whole s.stack ≡ true
  pub below : (states : List (Option TypeState)) → IsTypingOf t.program t.number t.code states → FitsAt t.program states j s

-- and it is within the counts of the method
pub record IsKept (t : Task) (j : ℕ) (s : TypeState) : Type 0 where
  pub forced : IsForced t j s
  pub within : is_within t.code s ≡ true

-- ---- the walk

-- of each item what rose since it was gone over: these places, or more than places
pub record Walked : Type 0 where
  pub states : List (Option TypeState)
  pub marks : List Bool
  pub risen : List (Option (List SlotPlace))

-- the states that are kept
abbrev pub states_seen : List (Option KnownState) → List (Option TypeState)
states_seen states = map (option_map known_state) states

-- the walk as definitions speak of it
abbrev pub walked : Walk → Walked
walked w = record { states = states_seen w.states.items; marks = w.waiting; risen = w.risen.items }

-- no item has a state yet
abbrev pub not_begun : ℕ → Walked
not_begun items = record { states = replicate items None; marks = replicate items false; risen = replicate items None }

-- the item waits
abbrev pub is_marked : Walked → ℕ → Bool
is_marked w item = slice_index_or w.marks item false

-- the item is to be gone over
abbrev pub with_waiting : ℕ → Walked → Walked
with_waiting item w = record w { marks = slice_set w.marks item true }

-- none is
abbrev pub NoneWaits : Walked → Type 0
NoneWaits w = (j : ℕ) → is_marked w j ≡ false

-- what rose at an item
abbrev pub risen_at : Walked → ℕ → Option (List SlotPlace)
risen_at w item = slice_index_or w.risen item None

-- this is what rose there
abbrev pub with_risen : ℕ → Option (List SlotPlace) → Walked → Walked
with_risen item rose w = record w { risen = slice_set w.risen item rose }

-- the item has this state, and waits, since this rose
abbrev pub with_state : ℕ → Option (List SlotPlace) → TypeState → Walked → Walked
with_state item rose s w =
    with_waiting item (record w { states = slice_set w.states item (Some s); risen = slice_set w.risen item rose })

-- the item waited, and does no longer
pub record Pops (item : ℕ) (old new : Walked) : Type 0 where
  pub states : new.states ≡ old.states
  pub leaves : Leaves item old.marks new.marks
  pub risen : new.risen ≡ old.risen

-- how many items wait
abbrev pub waiting_count : Walked → ℕ
waiting_count w = count_by (λ mark. mark) w.marks

-- what is left to do: as far as the states may still rise, and the items that wait
abbrev pub work_left : Task → Walked → ℕ
work_left t w = sum_by (rank_at t.program.outline t.code) w.states + waiting_count w

-- each state is kept by all typings
pub record Stands (t : Task) (w : Walked) : Type 0 where
  pub one_each : length w.states ≡ length t.code.items
  pub one_mark : length w.marks ≡ length t.code.items
  pub one_rise : length w.risen ≡ length t.code.items
  pub first : state_at w.states 0 ≡ Some (entry_state t.program.outline t.number t.code)
  pub each : (j : ℕ) (s : TypeState) → state_at w.states j ≡ Some s → IsKept t j s

-- Where something rose at places of an item, it did at fewer before, and its state was the same but for these.
pub record IsTracked (old : Walked) (j : ℕ) (places : List SlotPlace) (s : TypeState) : Type 0 where
  pub known : List SlotPlace
  pub before : TypeState
  pub is_known : risen_at old j ≡ Some known
  pub was : state_at old.states j ≡ Some before
  pub among : (p : SlotPlace) → Contains known p → Contains places p
  pub alike : IsAlikeBut places s before

-- states only rise, items whose states do wait, and what rose there is noted
pub record Rises (o : Outline) (old new : Walked) : Type 0 where
  pub rises : (j : ℕ) (s : TypeState) → state_at old.states j ≡ Some s → IsSomeAnd (state_at new.states j) (λ t. state_fits o s t ≡ true)
  pub changed : (j : ℕ) → ((state_at new.states j ≡ state_at old.states j) × (risen_at new j ≡ risen_at old j)) ⊎ (is_marked new j ≡ true)
  pub still : (j : ℕ) → is_marked old j ≡ true → is_marked new j ≡ true
  pub tracks :
      (j : ℕ) (places : List SlotPlace) (s : TypeState) → risen_at new j ≡ Some places → state_at new.states j ≡ Some s → IsTracked old j places s

-- what each step of the walk leaves
pub record Went (t : Task) (old new : Walked) : Type 0 where
  pub stands : Stands t new
  pub rises : Rises t.program.outline old new
  pub falls : work_left t new ≤ work_left t old

-- ---- steps of the walk

-- a state was brought to an item
pub record Brings (t : Task) (item : ℕ) (s : TypeState) (old new : Walked) : Type 0 where
  pub went : Went t old new
  pub fits : FitsAt t.program new.states item s

-- ---- slots that are carried on

-- the item's state has room for a slot at its place
abbrev pub HasRoom : Task → List (Option TypeState) → ℕ → Rise → Type 0
HasRoom t states j rise = IsSomeAnd (state_at states j) (λ s. fits t.program.outline rise.slot (slot_at s rise.place) ≡ true)

-- an item has a state, and in each typing one that a state fits which has this slot at its place
pub record CanCarryOne (t : Task) (w : Walked) (j : ℕ) (rise : Rise) : Type 0 where
  pub state : TypeState
  pub there : state_at w.states j ≡ Some state
  pub brought : TypeState
  pub forced : IsForced t j brought
  pub slot : slot_at brought rise.place ≡ rise.slot

-- the same of several slots
pub record CanCarry (t : Task) (w : Walked) (j : ℕ) (rises : List Rise) : Type 0 where
  pub state : TypeState
  pub there : state_at w.states j ≡ Some state
  pub brought : TypeState
  pub forced : IsForced t j brought
  pub slots : All (λ rise. slot_at brought rise.place ≡ rise.slot) rises

-- a slot was carried to an item
pub record CarriesOne (t : Task) (item : ℕ) (rise : Rise) (old new : Walked) : Type 0 where
  pub went : Went t old new
  pub room : HasRoom t new.states item rise

-- several slots were carried to an item
pub record Carries (t : Task) (item : ℕ) (rises : List Rise) (old new : Walked) : Type 0 where
  pub went : Went t old new
  pub room : All (HasRoom t new.states item) rises
