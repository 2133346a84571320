-- Chains of objects in a store, by the births of their objects.
use Rattle.std.specs.Prelude.{◌≡◌, ℕ, false, List, [], ◌∷◌, Some}
use Rattle.fm_cells.specs.Objects.{Object}
use Rattle.fm_cells.specs.Stores.{object_at, Store}

-- the cell has an object of this birth, which may be freed
pub record IsLink (store : Store) (cell birth : ℕ) : Type 0 where
  pub object : Object
  pub held : object_at store cell ≡ Some object
  pub loose : object.fixed ≡ false
  pub born : object.birth ≡ birth

-- from this cell on each object leads to the next one, and the last one to null; they have these births, in this order
abbrev pub IsChain : Store → ℕ → List ℕ → Type 0
IsChain store cell [] = cell ≡ 0
IsChain store cell (birth ∷ births) = (link : IsLink store cell birth) × IsChain store link.object.chain births
