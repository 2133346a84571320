-- What a holder may hold, and which objects it holds: one, or all those of its chain.
use Rattle.std.specs.Prelude.{◌≡◌, ℕ, Bool, true, false, List, Contains, nat_eq}
use Rattle.std.specs.List.{IsDistinct}
use Rattle.fm_cells.specs.Stores.{Store}
use Rattle.fm_frames.specs.Acts.{cell_of}
use Rattle.fm_frames.specs.declared.values.Value.{Value}
use Rattle.fm_law_chained.specs.Chain.{IsChain}
use Rattle.fm_law_holders.specs.Holding.{Holding, HoldsFreeable}
use Rattle.fm_same.specs.Colours.{Colour}
use Rattle.fm_same.specs.Regions.{Own}

-- the objects of a holder of a chain: a chain without repeats, each of the region of its class
pub record HoldsAll (store : Store) (colour : Colour) (depth class : ℕ) (v : Value) : Type 0 where
  pub births : List ℕ
  pub chain : IsChain store (cell_of v) births
  pub once : IsDistinct nat_eq births
  pub own : (birth : ℕ) → Contains births birth → colour birth ≡ Own depth class

-- the chain to which the value leads has an object of this birth
pub record HasInChain (store : Store) (v : Value) (birth : ℕ) : Type 0 where
  pub births : List ℕ
  pub chain : IsChain store (cell_of v) births
  pub among : Contains births birth

-- what a holder may hold, with a chain or without
abbrev pub HoldsOneOrAll : (looped : Bool) → Store → Colour → (depth class : ℕ) → Value → Type 0
HoldsOneOrAll true store colour depth class v = HoldsAll store colour depth class v
HoldsOneOrAll false store colour depth class v = Holding store colour depth class v

-- it holds an object of this birth, which may be freed
abbrev pub Has : (looped : Bool) → Store → Value → (birth : ℕ) → Type 0
Has true store v birth = HasInChain store v birth
Has false store v birth = HoldsFreeable store v birth
