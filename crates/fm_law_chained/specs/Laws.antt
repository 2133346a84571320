-- The laws that the functions of `laws` prove.
use Rattle.std.specs.Prelude.{◌≡◌, ◌+◌, ◌⊎◌, ℕ, true, false, List, ◌∷◌, Some, Contains, nat_eq}
use Rattle.std.specs.List.{AllZip, IsDistinct}
use Rattle.fm_cells.specs.Changes.{chained_by}
use Rattle.fm_cells.specs.Objects.{Object}
use Rattle.fm_cells.specs.Soundness.{IsOrderly}
use Rattle.fm_cells.specs.Stores.{object_at, Store}
use Rattle.fm_frames.specs.Acts.{all_freed, chain_from, chained}
use Rattle.fm_frames.specs.States.{Areas, Frame}
use Rattle.fm_law_chained.specs.Chain.{IsChain, IsLink}
use Rattle.fm_law_two_memories.specs.Pairing.{AreasPaired, FramesPaired, Gone}
use Rattle.fm_world.specs.Programs.{Outline}

-- ---- one store

-- the walk from the cell finds these cells, which have the objects of these births
pub record IsWalked (store : Store) (cell : ℕ) (births : List ℕ) : Type 0 where
  pub cells : List ℕ
  pub found : chain_from store cell ≡ Some cells
  pub links : AllZip (IsLink store) cells births

-- from the first cell of a chain without repeats the walk finds the chain: no more cells follow than objects are held
abbrev pub ChainsAreWalked : Type 0
ChainsAreWalked =
    (store : Store) (cell : ℕ) (births : List ℕ) → IsOrderly store → IsChain store cell births → IsDistinct nat_eq births → IsWalked store cell births

-- an object that isn't in a chain is the first one of it once it is linked to its first cell
abbrev pub ChainsAreLinked : Type 0
ChainsAreLinked =
    (store : Store) (cell to : ℕ) (object : Object) (births : List ℕ) → object_at store cell ≡ Some object → object.fixed ≡ false
    → (Contains births object.birth → ⊥) → IsChain store to births → IsChain (chained_by store cell to) cell (object.birth ∷ births)

-- a chain that doesn't have the object stays as it is
abbrev pub ChainsStayLinked : Type 0
ChainsStayLinked =
    (store : Store) (cell to : ℕ) (object : Object) (first : ℕ) (births : List ℕ) → object_at store cell ≡ Some object
    → (Contains births object.birth → ⊥) → IsChain store first births → IsChain (chained_by store cell to) first births

-- the object stays in its cell, with its birth and its link, and may be freed if it might before
pub record StaysLinked (later : Store) (cell : ℕ) (object : Object) : Type 0 where
  pub now : Object
  pub held : object_at later cell ≡ Some now
  pub born : now.birth ≡ object.birth
  pub fixed : now.fixed ≡ object.fixed
  pub chain : now.chain ≡ object.chain

-- a chain whose objects stay so is a chain of the later store
abbrev pub LinksStay : Type 0
LinksStay =
    (store later : Store) (first : ℕ) (births : List ℕ)
    → ((cell : ℕ) (object : Object) → object_at store cell ≡ Some object → Contains births object.birth → StaysLinked later cell object)
    → IsChain store first births → IsChain later first births

-- ---- two memories

-- the second memory's areas with an object linked to another are paired with those of the first, and frames are as they were
pub record StaysPaired (gone : Gone) (o : Outline) (x y : Areas) (cell to : ℕ) : Type 0 where
  pub areas : AreasPaired gone o x (chained y cell to)
  pub frames : (fs gs : List Frame) → AllZip (FramesPaired gone x.store y.store) fs gs → AllZip (FramesPaired gone x.store (chained y cell to).store) fs gs

-- memories stay paired where an object that is held is linked to another one
abbrev pub ChainingKeepsPaired : Type 0
ChainingKeepsPaired =
    (gone : Gone) (o : Outline) (x y : Areas) → AreasPaired gone o x y → (cell to : ℕ) (object : Object) → object_at y.store cell ≡ Some object
    → StaysPaired gone o x y cell to

-- The second memory's areas once the objects in these cells are freed: just those of these births are gone too, and others stay where they are.
pub record AreLinksFreed (gone : Gone) (o : Outline) (x y : Areas) (cells births : List ℕ) : Type 0 where
  pub more : Gone
  pub areas : AreasPaired more o x (all_freed y cells)
  pub frames : (fs gs : List Frame) → AllZip (FramesPaired gone x.store y.store) fs gs → AllZip (FramesPaired more x.store (all_freed y cells).store) fs gs
  pub was : (birth : ℕ) → more.births birth ≡ true → (gone.births birth ≡ true) ⊎ Contains births birth
  pub stays : (birth : ℕ) → gone.births birth ≡ true → more.births birth ≡ true
  pub gone_now : (birth : ℕ) → Contains births birth → more.births birth ≡ true
  pub words : (all_freed y cells).freed_words + gone.words ≡ y.freed_words + more.words
  pub kept : (cell : ℕ) (object : Object) → object_at y.store cell ≡ Some object → (Contains births object.birth → ⊥)
      → object_at (all_freed y cells).store cell ≡ Some object
  pub before : (cell : ℕ) (object : Object) → object_at (all_freed y cells).store cell ≡ Some object → object_at y.store cell ≡ Some object

-- a chain is found, and freed
pub record IsChainFreed (gone : Gone) (o : Outline) (x y : Areas) (cell : ℕ) (births : List ℕ) : Type 0 where
  pub cells : List ℕ
  pub found : chain_from y.store cell ≡ Some cells
  pub freed : AreLinksFreed gone o x y cells births

-- each chain without repeats is found, and freed
abbrev pub EachChainIsFreed : Type 0
EachChainIsFreed =
    (gone : Gone) (o : Outline) (x y : Areas) → AreasPaired gone o x y → (cell : ℕ) (births : List ℕ) → IsChain y.store cell births
    → IsDistinct nat_eq births → IsChainFreed gone o x y cell births
