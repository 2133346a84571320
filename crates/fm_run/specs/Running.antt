-- The result of a run, with what it prints: each step's bytes go to the output in one put, and none where it prints nothing. What
-- holds of its state still, and of the cells that it makes.
use Rattle.std.specs.Prelude.{◌≡◌, ℕ, zero, suc, ◌+◌, ◌^◌, ◌<◌, List, [], ◌∷◌, ◌++◌}
use Rattle.std.specs.List.{concat}
use Rattle.fm_exec_calls.specs.inner.Actions.{unmade}
use Rattle.fm_cells.specs.Choices.{last_choice, lawful}
use Rattle.fm_cells.specs.Soundness.{IsLastReused}
use Rattle.fm_files.specs.Sink.{FailsPiece, Output, with_pieces}
use Rattle.fm_law_cells_made.specs.MostHeld.{MadeSince}
use Rattle.fm_world.specs.Programs.{Program}
use Rattle.fm_frames.specs.Acts.{Choose}
use Rattle.fm_frames.specs.Runs.{after, Goes, IsRun}
use Rattle.fm_frames.specs.States.{silent, State}
use Rattle.fm_frames.specs.Steps.{step}
use Rattle.fm_same.specs.Resolved.{CallsNoFreeMe, IsResolved}
use Rattle.fm_law_sound.specs.HeldCells.{HoldsCells}
use Rattle.fm_law_sound.specs.Sound.{IsSound, Typings}
use Rattle.fm_law_no_fault.specs.CellsResolved.{CellsAreResolved}
use Rattle.fm_law_no_fault.specs.Whole.{HasNoFault, IsWholeBy}

-- the state after this many steps
abbrev pub state_after : Program → Choose → ℕ → State → State
state_after p choose count x = (after p choose count (silent x)).state

-- what the step after this many steps prints
abbrev pub printed_at : Program → Choose → ℕ → State → List ℕ
printed_at p choose count x = (step p choose (state_after p choose count x)).printed

-- a step's bytes are one piece; where it prints nothing there is none
abbrev pub piece_of : List ℕ → List (List ℕ)
piece_of [] = []
piece_of (byte ∷ bytes) = (byte ∷ bytes) ∷ []

-- what the first steps print, in order
abbrev pub pieces_of : Program → Choose → State → ℕ → List (List ℕ)
pieces_of p choose x zero = []
pieces_of p choose x (suc count) = pieces_of p choose x count ++ piece_of (printed_at p choose count x)

-- this many steps are within the budget
abbrev pub GoFirst : Program → Choose → (budget : ℕ) → State → ℕ → Type 0
GoFirst p choose budget x count = (k : ℕ) → k < count → Goes p budget (state_after p choose k x)

-- the run within the budget leads from one state to the other, and what it printed went to the
-- output, each step's bytes in one put
pub record RunsTo (p : Program) (choose : Choose) (budget : ℕ) (x y : State) (old new : Output) : Type 0 where
  pub printed : List ℕ
  pub run : IsRun p choose budget (silent x) (record { state = y; printed = printed })
  pub joined : concat (pieces_of p choose x run.count) ≡ printed
  pub put : new ≡ with_pieces (pieces_of p choose x run.count) old

-- the put of what one step prints failed; what the steps before it printed went out
pub record FailsRun (p : Program) (choose : Choose) (budget : ℕ) (x : State) (old new : Output) : Type 0 where
  pub count : ℕ
  pub goes : GoFirst p choose budget x (count + 1)
  pub fails : FailsPiece (printed_at p choose count x) (with_pieces (pieces_of p choose x count) old) new

-- the first steps were done, and what they printed went out
pub record BreaksRun (p : Program) (choose : Choose) (budget : ℕ) (x : State) (old new : Output) : Type 0 where
  pub count : ℕ
  pub goes : GoFirst p choose budget x count
  pub put : new ≡ with_pieces (pieces_of p choose x count) old

-- what a run requires of the state from which it goes on: it is sound, and as many objects can be
-- numbered as steps may be done and literals aren't made yet
pub record CanGo (p : Program) (budget : ℕ) (x : State) : Type 0 where
  pub sound : IsSound p x
  pub cells : HoldsCells p x
  pub births : x.areas.store.births + unmade x.areas.literals + budget < 2 ^ 32

-- where the program is linked and calls no FreeMe, a whole state that is no fault leads to one, wherever the run stops
abbrev pub KeepsWhole : Program → (x y : State) → Type 0
KeepsWhole p x y =
    (typings : Typings) → IsResolved p → CellsAreResolved p → CallsNoFreeMe p → IsWholeBy p typings x → HasNoFault x
    → IsWholeBy p typings y × HasNoFault y

-- where memory takes the last freed cell, of each size class as many cells are made as were made before the run or held at once in its states
abbrev pub MakesMostHeld : Program → Choose → (budget : ℕ) → (x y : State) → Type 0
MakesMostHeld p choose budget x y =
    choose ≡ lawful last_choice → IsLastReused x.areas.store → (printed : List ℕ)
    → (run : IsRun p choose budget (silent x) (record { state = y; printed = printed })) → MadeSince p x y run.count
