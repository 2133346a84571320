-- How a memory meets a request: its choice is a function of the store and the request.
use Rattle.std.specs.Prelude.{◌≡◌, ℕ, ◌+◌, ◌<◌, ◌≤◌, ◌&&◌, Bool, true, false, not, max, nat_lt, is_some, List, [], ◌∷◌, if◌then◌else◌}
use Rattle.std.specs.Prelude.{None}
use Rattle.std.specs.FinMap as map
use Rattle.fm_cells.specs.Objects.{Object, Request, request_size_class}
use Rattle.fm_cells.specs.Stores.{Store, object_at, words_needed, passes_limit, free_cells}
use Rattle.fm_cells.specs.Changes.{Choice, Take, RefuseStore}

-- memory that reuses cells in any way: it takes any cell above 0 that isn't held, and refuses only where a new cell
-- would pass the store limit
abbrev pub MayReuse : Store → Request → Choice → Type 0
MayReuse store request (Take cell grows) = (0 < cell) × (object_at store cell ≡ None)
MayReuse store request RefuseStore = passes_limit store request ≡ true

-- a function whose choices are all those of memory that reuses cells in any way
abbrev pub IsLawful : (Store → Request → Choice) → Type 0
IsLawful choose = (store : Store) (request : Request) → MayReuse store request (choose store request)

-- a new cell, or a refusal where it would pass the store limit
abbrev pub new_cell_choice : Store → Request → ℕ → Choice
new_cell_choice store request cell = (if passes_limit store request then RefuseStore else Take cell true)

-- memory that is never reused takes the next number that no object had
abbrev pub never_choice : Store → Request → Choice
never_choice store request = new_cell_choice store request (store.births + 1)

-- memory that takes the last freed cell of the size class, and where there is none the one after all made words
abbrev pub last_choice_among : List ℕ → Store → Request → Choice
last_choice_among [] store request = new_cell_choice store request (store.made_words + 1)
last_choice_among (cell ∷ _) store request = Take cell false

-- of a memory that reuses cells: the cell that was freed last of those of the request's size, and else a new one
abbrev pub last_choice : Store → Request → Choice
last_choice store request = last_choice_among (free_cells store (request_size_class request)) store request

-- the choice takes a cell
abbrev pub TakesCell : Choice → ℕ → Type 0
TakesCell choice cell = (grows : Bool) × (choice ≡ Take cell grows)

-- the request is within the word budget, and the choice is to refuse it
abbrev pub IsRefused : (Store → Request → Choice) → Store → Request → Type 0
IsRefused choose store request =
    (words_needed store request ≤ store.budget) × (choose store request ≡ RefuseStore)

-- the greatest of the cells in a list of entries, 0 if there are none
abbrev pub greatest_cell : List (ℕ × Object) → ℕ
greatest_cell [] = 0
greatest_cell (entry ∷ entries) = max entry.0 (greatest_cell entries)

-- a cell above all that are held
abbrev pub cell_above : Store → ℕ
cell_above store = greatest_cell (map.entries store.held) + 1

-- a choice as it is where memory that reuses cells in any way may make it, and else a cell above all that are held
abbrev pub lawful_choice : Store → Request → Choice → Choice
lawful_choice store request (Take cell grows) =
    (if nat_lt 0 cell && not (is_some (object_at store cell)) then Take cell grows else Take (cell_above store) true)
lawful_choice store request RefuseStore =
    (if passes_limit store request then RefuseStore else Take (cell_above store) true)

-- every function of choices, made one of memory that reuses cells in any way
abbrev pub lawful : (Store → Request → Choice) → (Store → Request → Choice)
lawful choose store request = lawful_choice store request (choose store request)
