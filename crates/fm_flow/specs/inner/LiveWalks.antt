-- Lists by item and by local, and the states of the walk that finds live locals.
use Rattle.std.specs.Prelude.{◌≡◌, ℕ, ◌+◌, ◌<◌, ◌⊎◌, ◌↔◌, Bool, true, List, [], ◌∷◌, length, Contains, IsSomeAnd}
use Rattle.std.specs.List.{slice_index_or}
use Rattle.fm_base.specs.Rows.{has}
use Rattle.fm_code.specs.Edges.{insn_of, IsEdge}
use Rattle.fm_code.specs.Live.{stores_over, Live, Loads}
use Rattle.fm_code.specs.declared.code_array.Code.{Code}
use Rattle.fm_code.specs.declared.operations.Reg.TheVariants as reg
use Rattle.fm_code.specs.declared.instructions.Insn.{Insn}
use Rattle.fm_code.specs.declared.instructions.Insn.TheVariants as insn

-- ---- lists of numbers

-- the list of an index
abbrev pub list_of : List (List ℕ) → ℕ → List ℕ
list_of lists k = slice_index_or lists k []

-- number j is put into the list of each of the indices
pub record AddsToEach (indices : List ℕ) (j : ℕ) (old new : List (List ℕ)) : Type 0 where
  pub same_length : length new ≡ length old
  pub members : (k x : ℕ) → Contains (list_of new k) x ↔ (Contains (list_of old k) x ⊎ (Contains indices k × (x ≡ j)))

-- each of the lists below n has the numbers that are related to its index
pub record AreListsBy (n : ℕ) (R : ℕ → ℕ → Type 0) (lists : List (List ℕ)) : Type 0 where
  pub one_each : length lists ≡ n
  pub each : (k : ℕ) → k < n → (x : ℕ) → Contains (list_of lists k) x ↔ R k x

-- ---- uses of locals

-- the local from which the instruction loads a reference
abbrev pub local_loaded : Insn → List ℕ
local_loaded (insn.Load reg.Ref local) = local ∷ []
local_loaded i = []

-- the locals over which the instruction stores
abbrev pub locals_stored : Insn → List ℕ
locals_stored (insn.Store reg.Int local) = local ∷ []
locals_stored (insn.Store reg.Ref local) = local ∷ []
locals_stored (insn.Store reg.Long local) = local ∷ (local + 1) ∷ []
locals_stored i = []

-- item j stores over local k
abbrev pub StoresOver : Code → ℕ → ℕ → Type 0
StoresOver code k j = IsSomeAnd (insn_of code j) (λ i. stores_over k i ≡ true)

-- the lists have for each local the items that load a reference from it, and those that store over it
pub record AreUsesOf (code : Code) (loads stores : List (List ℕ)) : Type 0 where
  pub loaded : AreListsBy code.max_locals (Loads code) loads
  pub stored : AreListsBy code.max_locals (StoresOver code) stores

-- ---- the items at which a local is live

-- the row has the items at which the local is live
pub record IsLiveRow (code : Code) (k : ℕ) (row : List Bool) : Type 0 where
  pub bits : length row ≡ length code.items
  pub each : (j : ℕ) → (has row j ≡ true) ↔ Live code k j

-- an item that is seen stores over the local, is in the row, or waits; all edges that lead to an item of the row come from seen items
pub record Tracing (code : Code) (k : ℕ) (row seen : List Bool) (waiting : List ℕ) : Type 0 where
  pub row_bits : length row ≡ length code.items
  pub seen_bits : length seen ≡ length code.items
  pub row_live : (j : ℕ) → has row j ≡ true → Live code k j
  pub waiting_live : (j : ℕ) → Contains waiting j → Live code k j
  pub stores : (j : ℕ) → StoresOver code k j → has seen j ≡ true
  pub loads : (j : ℕ) → Loads code k j → has seen j ≡ true
  pub each_seen : (j : ℕ) → has seen j ≡ true → StoresOver code k j ⊎ ((has row j ≡ true) ⊎ Contains waiting j)
  pub closed : (j source : ℕ) → has row j ≡ true → IsEdge code source j → has seen source ≡ true

-- ---- rows of bits

-- the row of an index
abbrev pub row_of : List (List Bool) → ℕ → List Bool
row_of rows j = slice_index_or rows j []

-- each row has this many bits
abbrev pub HaveWidth : ℕ → List (List Bool) → Type 0
HaveWidth bits rows = (j : ℕ) → j < length rows → length (row_of rows j) ≡ bits
