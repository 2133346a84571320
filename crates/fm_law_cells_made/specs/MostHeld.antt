-- What is meant by as many cells as were held at once at most: over the states of a run on memory that takes the last freed cell.
use Rattle.std.specs.Prelude.{◌≡◌, ℕ, zero, suc, ◌<◌, List, map, max, Option}
use Rattle.std.specs.List.{range_with_len}
use Rattle.fm_cells.specs.Choices.{last_choice, lawful}
use Rattle.fm_cells.specs.Soundness.{IsLastReused}
use Rattle.fm_cells.specs.Stores.{empty_lists, held_count, made_count, opened, Store}
use Rattle.fm_world.specs.Programs.{Program}
use Rattle.fm_frames.specs.Runs.{after, Job, opening}
use Rattle.fm_frames.specs.States.{Moved, silent, State}
use Rattle.fm_law_can_step.specs.Ready.{CanRun}

-- a run as it is opened, where nothing was made before
abbrev pub first_state : Program → Job → (budget : ℕ) (limit : Option ℕ) → Moved
first_state p job budget limit = opening p (lawful last_choice) job (opened budget limit empty_lists)

-- its store after `count` steps
abbrev pub store_after : Program → (first : Moved) → (count : ℕ) → Store
store_after p first count = (after p (lawful last_choice) count first).state.areas.store

-- the most cells of a size class that were held at once: when the run was opened, and after each of
-- the first `count` steps
unfoldable pub most_held : Program → (first : Moved) → (count size_class : ℕ) → ℕ
most_held p first zero size_class = held_count (store_after p first zero) size_class
most_held p first (suc count) size_class =
    max (most_held p first count size_class) (held_count (store_after p first (suc count)) size_class)

-- of each of the 64 size classes
abbrev pub all_most_held : Program → (first : Moved) → (count : ℕ) → List ℕ
all_most_held p first count = map (most_held p first count) (range_with_len 0 64)

-- Whatever a program does and frees that the machine can run: of each size class as many cells are made as were held at once.
abbrev pub MadeIsMostHeld : Type 0
MadeIsMostHeld =
    (p : Program) → CanRun p → (job : Job) (budget : ℕ) (limit : Option ℕ) (count : ℕ)
    → (store_after p (first_state p job budget limit) count).made ≡ all_most_held p (first_state p job budget limit) count

-- ---- from any state on

-- After `count` steps from one state to the other memory still takes the last freed cell, and of
-- each size class as many cells are made as were made before or held at once since.
pub record MadeSince (p : Program) (x y : State) (count : ℕ) : Type 0 where
  pub last : IsLastReused y.areas.store
  pub made : (size_class : ℕ) → size_class < 64
      → made_count y.areas.store size_class ≡ max (made_count x.areas.store size_class) (most_held p (silent x) count size_class)

-- So it is after any steps from each state on such memory, whatever a program does and frees that the machine can run.
abbrev pub MadeSinceIsMostHeld : Type 0
MadeSinceIsMostHeld =
    (p : Program) → CanRun p → (x : State) → IsLastReused x.areas.store → (count : ℕ)
    → MadeSince p x (after p (lawful last_choice) count (silent x)).state count

-- A run as it is opened, where nothing was made before, is on such memory.
abbrev pub OpenedIsLastReused : Type 0
OpenedIsLastReused = (p : Program) (job : Job) (budget : ℕ) (limit : Option ℕ) → IsLastReused (first_state p job budget limit).state.areas.store
