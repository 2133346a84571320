-- What a call does to a store: each change is a function of the store, of what is asked, and for a make of a choice.
use Rattle.std.specs.Prelude.{ℕ, ◌+◌, Bool, not, List, ◌∷◌, max, nat_eq, if◌then◌else◌, slice_set}
use Rattle.std.specs.Prelude.{Option, Some, None}
use Rattle.std.specs.List.{filter}
use Rattle.std.specs.FinMap as map
use Rattle.fm_cells.specs.Sizes.{cell_words}
use Rattle.fm_cells.specs.Objects.{Object, size_class_of, Request, request_words, request_size_class, new_object}
use Rattle.fm_cells.specs.Stores.{Store, object_at, words_needed, made_count, free_cells}

-- how a request within the word budget is met: an object is made in a cell, for which the made words rise by the words
-- of the cell or stay, or the memory refuses it as its store is full
pub data Choice : Type 0 where
  Take : (cell : ℕ) (grows : Bool) → Choice
  RefuseStore : Choice

-- the made words after a choice: a cell that is new adds its words
abbrev pub made_words_after : Store → Request → Bool → ℕ
made_words_after store request grows =
    (if grows then store.made_words + cell_words (request_words request) else store.made_words)

-- the cells made of each size class after a choice
abbrev pub made_after : Store → Request → Bool → List ℕ
made_after store request grows =
    (if grows then slice_set store.made (request_size_class request) (made_count store (request_size_class request) + 1) else store.made)

-- the list without a cell
abbrev pub without : ℕ → List ℕ → List ℕ
without cell cells = filter (λ other. not (nat_eq other cell)) cells

-- the store after a request was met by a choice
abbrev pub made_by : Store → Request → Choice → Store
made_by store request RefuseStore = store
made_by store request (Take cell grows) =
    record {
      held = map.insert store.held cell (new_object store.births request);
      budget = store.budget;
      limit = store.limit;
      births = store.births + 1;
      made_words = made_words_after store request grows;
      peak = max store.peak (words_needed store request);
      made = made_after store request grows;
      free = slice_set store.free (request_size_class request) (without cell (free_cells store (request_size_class request)));
    }

-- the store after the object in a cell was freed: its size class has the cell as the last freed one
abbrev pub without_object : Store → ℕ → Object → Store
without_object store cell object =
    record store {
      held = map.remove store.held cell;
      free = slice_set store.free (size_class_of object) (cell ∷ free_cells store (size_class_of object));
    }

-- the store with another object in a cell
abbrev pub with_object : Store → ℕ → Object → Store
with_object store cell object = record store { held = map.insert store.held cell object }

-- the object with another element at a place, or with another chain
abbrev pub with_element : Object → ℕ → ℕ → Object
with_element object place element = record object { elements = slice_set object.elements place element }

-- the object leads to another cell
abbrev pub with_chain : Object → ℕ → Object
with_chain object to = record object { chain = to }

-- a change of the object in a cell; nothing where the cell isn't held
abbrev pub on_object : Option Object → (Object → Store) → Store → Store
on_object None change store = store
on_object (Some object) change store = change object

-- the store after `free`: a fixed object stays
abbrev pub freed_by : Store → ℕ → Store
freed_by store cell =
    on_object (object_at store cell) (λ object. (if object.fixed then store else without_object store cell object)) store

-- the store after `put`
abbrev pub put_by : Store → ℕ → ℕ → ℕ → Store
put_by store cell place element =
    on_object (object_at store cell) (λ object. with_object store cell (with_element object place element)) store

-- the store after `set_chain`
abbrev pub chained_by : Store → ℕ → ℕ → Store
chained_by store cell to = on_object (object_at store cell) (λ object. with_object store cell (with_chain object to)) store
