-- Cells in one list of words: how freed cells are linked, how cells tile the words, and the store that it all is.
use Rattle.std.specs.Prelude.{◌≡◌, ℕ, zero, suc, ◌+◌, ◌-◌, ◌<◌, ◌≤◌, ◌⊎◌, List, [], ◌∷◌, map, length, nat_eq, if◌then◌else◌, slice_index}
use Rattle.std.specs.Prelude.{Some}
use Rattle.std.specs.List.{range_with_len, AllByRecursion}
use Rattle.fm_cells.specs.Sizes.{class_words}
use Rattle.fm_cells.specs.Objects.{Object, size_class_of}
use Rattle.fm_cells.specs.Stores.{Store, object_at, IsHeld, free_cells}
use Rattle.fm_cells.specs.inner.Tables.{map_of}
use Rattle.fm_cells.specs.inner.Words.{marked_object}

-- up to n cells of a list of freed cells, from its head: each keeps the next in its first word, and 0 ends the list
abbrev pub linked_cells : ℕ → List ℕ → ℕ → List ℕ
linked_cells zero words cell = []
linked_cells (suc n) words cell = (if nat_eq cell 0 then [] else cell ∷ linked_cells n words (slice_index words cell))

-- the freed cells of each of the 64 size classes, of which no more were freed than made
abbrev pub free_lists : List ℕ → List ℕ → List ℕ → List (List ℕ)
free_lists words heads made = map (λ class. linked_cells (slice_index made class) words (slice_index heads class)) (range_with_len 0 64)

-- the store that the words, the marks, the heads of the lists and the numbers beside them are; word 0 isn't used
abbrev pub words_store : (words marks heads made : List ℕ) → (budget limit births peak : ℕ) → Store
words_store words marks heads made budget limit births peak =
    record {
      held = map_of (marked_object words marks) (length words);
      budget = budget;
      limit = Some limit;
      births = births;
      made_words = length words - 1;
      peak = peak;
      made = made;
      free = free_lists words heads made;
    }

-- the words are one cell after the other, from one word up to another: each has its first word and its size class
abbrev pub IsTiling : ℕ → List (ℕ × ℕ) → ℕ → Type 0
IsTiling from [] to = from ≡ to
IsTiling from (tile ∷ tiles) to = (tile.0 ≡ from) × (2 ≤ class_words tile.1) × IsTiling (from + class_words tile.1) tiles to

-- a cell of a size class is one of the tiles
abbrev pub IsTile : List (ℕ × ℕ) → ℕ → ℕ → Type 0
IsTile [] cell size_class = ⊥
IsTile (tile ∷ tiles) cell size_class = ((tile.0 ≡ cell) × (tile.1 ≡ size_class)) ⊎ IsTile tiles cell size_class

-- a list of freed cells is linked from its head through the first words of its cells, and ends
abbrev pub IsLinked : List ℕ → ℕ → List ℕ → Type 0
IsLinked words head [] = head ≡ 0
IsLinked words head (cell ∷ cells) = (head ≡ cell) × (0 < cell) × IsLinked words (slice_index words cell) cells

-- a cell is in a list
abbrev pub IsListed : ℕ → List ℕ → Type 0
IsListed cell [] = ⊥
IsListed cell (other ∷ cells) = (other ≡ cell) ⊎ IsListed cell cells

-- the words, the marks and the heads keep a store: the marks are exactly the held cells, the freed cells of each size
-- class are linked, and the held and the freed cells together tile the made words
pub record Keeps (words marks heads : List ℕ) (store : Store) : Type 0 where
  pub held : (cell : ℕ) → marked_object words marks cell ≡ object_at store cell
  pub words_made : length words - 1 ≡ store.made_words
  pub tiles : List (ℕ × ℕ)
  pub tiling : IsTiling 1 tiles (store.made_words + 1)
  pub held_tile : (cell : ℕ) (object : Object) → object_at store cell ≡ Some object → IsTile tiles cell (size_class_of object)
  pub free_tile : (size_class : ℕ) → AllByRecursion (λ cell. IsTile tiles cell size_class) (free_cells store size_class)
  pub linked : (size_class : ℕ) → size_class < 64 → IsLinked words (slice_index heads size_class) (free_cells store size_class)
  pub covered : (cell size_class : ℕ) → IsTile tiles cell size_class → IsHeld store cell ⊎ IsListed cell (free_cells store size_class)
