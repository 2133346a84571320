-- What holds of choices and of stores whatever the ranges of numbers. The functions of the module `laws` prove it.
use Rattle.std.specs.Prelude.{◌≡◌, ℕ, ◌+◌, ◌*◌, ◌^◌, ◌<◌, ◌≤◌, Bool, false, List, Option}
use Rattle.std.specs.Prelude.{Some, None}
use Rattle.fm_cells.specs.Sizes.{cell_words}
use Rattle.fm_cells.specs.Objects.{Object, object_words, Request}
use Rattle.fm_cells.specs.Stores.{Store, opened, object_at, live_words, words_needed}
use Rattle.fm_cells.specs.Changes.{Choice, Take, made_by, freed_by, put_by, chained_by}
use Rattle.fm_cells.specs.Choices.{MayReuse, IsLawful, lawful}

-- a choice that may be made is left as it is
abbrev pub LeavesLawful : Type 0
LeavesLawful =
    (choose : Store → Request → Choice) (store : Store) (request : Request)
    → MayReuse store request (choose store request) → lawful choose store request ≡ choose store request

-- each choice that was made lawful may be made
abbrev pub GivesLawful : Type 0
GivesLawful = (choose : Store → Request → Choice) → IsLawful (lawful choose)

-- a choice may be made on each store that has a property
abbrev pub MayChoose : (Store → Type 0) → (Store → Request → Choice) → Type 0
MayChoose P choose = (store : Store) (request : Request) → P store → MayReuse store request (choose store request)

-- a choice is left as it is on each store that has a property
abbrev pub IsLeft : (Store → Type 0) → (Store → Request → Choice) → Type 0
IsLeft P choose = (store : Store) (request : Request) → P store → lawful choose store request ≡ choose store request

-- an opened store with these lists of freed cells has a property
abbrev pub HoldsOpened : (Store → Type 0) → List (List ℕ) → Type 0
HoldsOpened P free = (budget : ℕ) (limit : Option ℕ) → P (opened budget limit free)

-- a property is kept by each make whose choice may be made
abbrev pub KeptByMake : (Store → Type 0) → Type 0
KeptByMake P = (store : Store) (request : Request) (choice : Choice) → P store → MayReuse store request choice → P (made_by store request choice)

-- a property is kept by each make whose choice is that of a function
abbrev pub KeptByMakeOf : (Store → Type 0) → (Store → Request → Choice) → Type 0
KeptByMakeOf P choose = (store : Store) (request : Request) → P store → P (made_by store request (choose store request))

-- a property is kept by each free, by each put, and by each change of a chain
abbrev pub KeptByFree : (Store → Type 0) → Type 0
KeptByFree P = (store : Store) (cell : ℕ) → P store → P (freed_by store cell)

-- what a put of an element keeps
abbrev pub KeptByPut : (Store → Type 0) → Type 0
KeptByPut P = (store : Store) (cell place element : ℕ) → P store → P (put_by store cell place element)

-- what a change of a chain keeps
abbrev pub KeptByChain : (Store → Type 0) → Type 0
KeptByChain P = (store : Store) (cell to : ℕ) → P store → P (chained_by store cell to)

-- the live words after each call: a make in a cell that isn't held adds those of the request, a free takes those of the
-- object, and a put or a change of a chain leaves them
abbrev pub AddsLiveWords : Type 0
AddsLiveWords =
    (store : Store) (request : Request) (cell : ℕ) (grows : Bool) → object_at store cell ≡ None
    → live_words (made_by store request (Take cell grows)) ≡ words_needed store request

-- a free takes the words of the object from those that live
abbrev pub TakesLiveWords : Type 0
TakesLiveWords =
    (store : Store) (cell : ℕ) (object : Object) → object_at store cell ≡ Some object → object.fixed ≡ false
    → live_words (freed_by store cell) + object_words object ≡ live_words store

-- the change leaves the number of words that live
abbrev pub LeavesLiveWords : (Store → Store) → Type 0
LeavesLiveWords change = (store : Store) → live_words (change store) ≡ live_words store

-- a cell has room for the words that it is made for, and less than twice as many
abbrev pub HasRoom : Type 0
HasRoom = (words : ℕ) → words ≤ 2 ^ 36 → words ≤ cell_words words

-- a cell has less than twice the words that it is made for
abbrev pub IsBelowDouble : Type 0
IsBelowDouble = (words : ℕ) → 0 < words → words ≤ 2 ^ 36 → cell_words words < 2 * words
