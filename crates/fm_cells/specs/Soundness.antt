-- What holds of every store that calls can lead to.
use Rattle.std.specs.Prelude.{◌≡◌, ◌≢◌, false, ℕ, ◌+◌, ◌^◌, ◌<◌, ◌≤◌, List, [], length, nat_eq, IfSome}
use Rattle.std.specs.Prelude.{Some, None}
use Rattle.std.specs.List.{sum, AllByRecursion, IsDistinct}
use Rattle.fm_cells.specs.Objects.{Object, IsObject}
use Rattle.fm_cells.specs.Stores.{Store, opened, object_at, IsHeld, live_words, held_count, made_count, free_cells}

-- cells and births are in order, whatever the ranges of numbers: null isn't held, each held object was born before now,
-- and no two have one birth number
pub record IsOrderly (store : Store) : Type 0 where
  pub null_not_held : object_at store 0 ≡ None
  pub born : (cell : ℕ) (object : Object) → object_at store cell ≡ Some object → object.birth < store.births
  pub births_apart : (cell other : ℕ) (object second : Object) → object_at store cell ≡ Some object → object_at store other ≡ Some second → object.birth ≡ second.birth → cell ≡ other

-- the cells that are held are numbers of 32 bits
abbrev pub CellsFit : Store → Type 0
CellsFit store = (cell : ℕ) → IsHeld store cell → cell < 2 ^ 32

-- a store of any memory
pub record IsSound (store : Store) : Type 0 where
  pub orderly : IsOrderly store
  pub cells_fit : CellsFit store
  pub objects_fit : (cell : ℕ) (object : Object) → object_at store cell ≡ Some object → IsObject object
  pub live_within_peak : live_words store ≤ store.peak
  pub peak_within_budget : store.peak ≤ store.budget
  pub classes : length store.made ≡ 64
  pub made_within_births : sum store.made ≤ store.births
  pub births_fit : store.births < 2 ^ 32
  pub untouched : store.births ≡ 0 → store ≡ opened store.budget store.limit store.free

-- a store of memory that is never reused: its cells are numbered by births
pub record IsNeverReused (store : Store) : Type 0 where
  pub orderly : IsOrderly store
  pub within : (cell : ℕ) → IsHeld store cell → cell ≤ store.births
  pub no_lists : store.free ≡ []
  pub made_within_limit : IfSome store.limit (λ limit. store.made_words ≤ limit)

-- a freed cell was made, and isn't held
abbrev pub IsFree : Store → ℕ → Type 0
IsFree store cell = (0 < cell) × (cell ≤ store.made_words) × (object_at store cell ≡ None)

-- no cell is in both lists
abbrev pub SharesNoCell : List ℕ → List ℕ → Type 0
SharesNoCell cells others = AllByRecursion (λ cell. AllByRecursion (λ other. nat_eq cell other ≡ false) others) cells

-- a store of memory that takes the last freed cell: each freed cell is listed once, and the cells made of a size
-- class are those that are held and those that are free
pub record IsLastReused (store : Store) : Type 0 where
  pub orderly : IsOrderly store
  pub within : (cell : ℕ) → IsHeld store cell → cell ≤ store.made_words
  pub made_within_limit : IfSome store.limit (λ limit. store.made_words ≤ limit)
  pub counts : length store.made ≡ 64
  pub lists : length store.free ≡ 64
  pub free_not_held : (size_class : ℕ) → AllByRecursion (IsFree store) (free_cells store size_class)
  pub listed_once : (size_class : ℕ) → IsDistinct nat_eq (free_cells store size_class)
  pub lists_apart : (size_class other : ℕ) → size_class ≢ other → SharesNoCell (free_cells store size_class) (free_cells store other)
  pub balance : (size_class : ℕ) → size_class < 64 → held_count store size_class + length (free_cells store size_class) ≡ made_count store size_class
