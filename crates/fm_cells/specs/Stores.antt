-- A store: the objects that are held in cells, with the numbers beside them. One kind of value serves for memory that
-- is never reused and for memory that is.
use Rattle.std.specs.Prelude.{ℕ, ◌+◌, ◌<◌, Bool, false, List, [], replicate, nat_eq, nat_lt, IsSome, slice_index, slice_index_or, refl}
use Rattle.std.specs.Prelude.{Option}
use Rattle.std.specs.List.{sum_by, count_by}
use Rattle.std.specs.Option.{unwrap_or, option_map}
use Rattle.std.specs.Ordering.{nat_cmp}
use Rattle.std.specs.FinMap as map
use Rattle.std.specs.Coded.{Coded, code_by, coded×, coded_ℕ, coded_list, coded_option}
use Rattle.fm_cells.specs.Sizes.{cell_words}
use Rattle.fm_cells.specs.Objects.{Object, object_code, object_words, size_class_of, Request, request_words}

-- held: the object in each cell that is held
-- budget, limit: how many words may live, and how many words of cells may be made, where that is limited
-- births, made_words: how many objects were made so far, and the words of all cells made so far
-- peak: the most words that lived at once so far
-- made: for each of the 64 size classes, how many cells were made
-- free: for each size class its freed cells, the last freed first; no lists at all where memory is never reused
pub record Store : Type 0 where
  pub held : map.FinMap nat_cmp Object
  pub budget : ℕ
  pub limit : Option ℕ
  pub births : ℕ
  pub made_words : ℕ
  pub peak : ℕ
  pub made : List ℕ
  pub free : List (List ℕ)

-- a store is stored as the tuple of its fields
abbrev pub store_code : Coded Store
store_code =
    code_by (map.FinMap nat_cmp Object × (ℕ × (Option ℕ × (ℕ × (ℕ × (ℕ × (List ℕ × List (List ℕ))))))))
    (coded× (map.code coded_ℕ object_code) (coded× coded_ℕ (coded× (coded_option coded_ℕ) (coded× coded_ℕ (coded× coded_ℕ (coded× coded_ℕ (coded× (coded_list coded_ℕ) (coded_list (coded_list coded_ℕ)))))))))
    (λ s. (s.held, (s.budget, (s.limit, (s.births, (s.made_words, (s.peak, (s.made, s.free))))))))
    (λ t. record { held = t.0; budget = t.1.0; limit = t.1.1.0; births = t.1.1.1.0; made_words = t.1.1.1.1.0; peak = t.1.1.1.1.1.0; made = t.1.1.1.1.1.1.0; free = t.1.1.1.1.1.1.1 })
    (λ _. refl)

-- a store in which nothing was made, of memory with these lists of freed cells
abbrev pub opened : ℕ → Option ℕ → List (List ℕ) → Store
opened budget limit free =
    record { held = map.empty; budget = budget; limit = limit; births = 0; made_words = 0; peak = 0; made = replicate 64 0; free = free }

-- the lists of freed cells of memory that is never reused, and of memory that is
abbrev pub no_lists : List (List ℕ)
no_lists = []

-- the lists of a store in which nothing was freed
abbrev pub empty_lists : List (List ℕ)
empty_lists = replicate 64 []

-- the object in a cell, if the cell is held
abbrev pub object_at : Store → ℕ → Option Object
object_at store cell = map.get store.held cell

-- an object lies in the cell
abbrev pub IsHeld : Store → ℕ → Type 0
IsHeld store cell = IsSome (object_at store cell)

-- the elements of the object in a cell; none where the cell isn't held
abbrev pub elements_at : Store → ℕ → List ℕ
elements_at store cell = unwrap_or (option_map (λ object. object.elements) (object_at store cell)) []

-- the elements in a word of the object in a cell
abbrev pub pack_at : Store → ℕ → ℕ
pack_at store cell = unwrap_or (option_map (λ object. object.pack) (object_at store cell)) 1

-- the chain of the object in a cell
abbrev pub chain_at : Store → ℕ → ℕ
chain_at store cell = unwrap_or (option_map (λ object. object.chain) (object_at store cell)) 0

-- the words of all held objects
abbrev pub live_words : Store → ℕ
live_words store = sum_by object_words (map.values store.held)

-- how many held objects lie in cells of a size class
abbrev pub held_count : Store → ℕ → ℕ
held_count store size_class = count_by (λ object. nat_eq (size_class_of object) size_class) (map.values store.held)

-- how many cells of a size class were made
abbrev pub made_count : Store → ℕ → ℕ
made_count store size_class = slice_index store.made size_class

-- the freed cells of a size class, the last freed first
abbrev pub free_cells : Store → ℕ → List ℕ
free_cells store size_class = slice_index_or store.free size_class []

-- the words that live when the request is met
abbrev pub words_needed : Store → Request → ℕ
words_needed store request = live_words store + request_words request

-- the request would pass the word budget
abbrev pub IsOverBudget : Store → Request → Type 0
IsOverBudget store request = store.budget < words_needed store request

-- whether a new cell for the request would pass the store limit
abbrev pub passes_limit : Store → Request → Bool
passes_limit store request =
    unwrap_or (option_map (λ limit. nat_lt limit (store.made_words + cell_words (request_words request))) store.limit) false
