-- Two runs that keep pace: at some states both go on alike, and from each such state on inserted steps alone lead to the next.
--
-- Of the machine only the costs of steps are looked at, and whether an end is a fault. `IsPace` says which states keep pace, by their numbers.
use Rattle.std.specs.Prelude.{◌≡◌, ℕ, suc, ◌+◌, ◌<◌, ◌≤◌, true, [], length, Some, None}
use Rattle.fm_cells.specs.Stores.{live_words}
use Rattle.fm_frames.specs.Steps.{cost}
use Rattle.fm_frames.specs.declared.ends.Ended.{Ended}
use Rattle.fm_law_no_fault.specs.Whole.{HasNoFault}
use Rattle.fm_law_two_memories.specs.Runs.{LacksWords}
use Rattle.fm_law_same_runs.specs.Beside.{AreAtInserted, Beside, FirstReaches, is_at_kept, IsWant, most_inserted_steps}

-- ---- one pair of states

-- Both go on, the second one at a kept item, and the next step of both costs the same; and they are as matched states are.
pub record KeepsPace (b : Beside) (k l : ℕ) : Type 0 where
  pub first_goes_on : (b.xs k).state.ended ≡ None
  pub second_goes_on : (b.ys l).state.ended ≡ None
  pub kept : is_at_kept b.marks (b.ys l).state ≡ true
  pub next_cost : cost b.other (b.ys l).state ≡ cost b.one (b.xs k).state
  pub printed : (b.ys l).printed ≡ (b.xs k).printed
  pub input : (b.ys l).state.input ≡ (b.xs k).state.input
  pub frames : length (b.ys l).state.frames ≡ length (b.xs k).state.frames
  pub births : (b.ys l).state.areas.store.births ≡ (b.xs k).state.areas.store.births
  pub words : live_words (b.ys l).state.areas.store ≤ live_words (b.xs k).state.areas.store

-- ---- from one pair to the next

-- few inserted steps, each of which costs 1, lead the second run from its l-th state to one that keeps pace with the k-th state of the first run
pub record CatchesUp (b : Beside) (IsPace : ℕ → ℕ → Type 0) (k l : ℕ) : Type 0 where
  pub count : ℕ
  pub few : count ≤ most_inserted_steps b.one b.other
  pub inserted : AreAtInserted b l count
  pub steps : (b.ys (l + count)).state.steps ≡ (b.ys l).state.steps + count
  pub pace : IsPace k (l + count)

-- How the runs open: the second one catches up, or both end alike and in no fault, or the second one ends for want of memory.
pub data Opens (b : Beside) (IsPace : ℕ → ℕ → Type 0) : Type 0 where
  OpensInPace : CatchesUp b IsPace 0 0 → Opens b IsPace
  OpensAtEnd : (e : Ended) → (b.xs 0).state.ended ≡ Some e → (b.ys 0).state.ended ≡ Some e → (b.ys 0).printed ≡ (b.xs 0).printed
      → HasNoFault (b.xs 0).state → Opens b IsPace
  OpensInWant : (e : Ended) → (b.ys 0).state.ended ≡ Some e → IsWant b e → (b.ys 0).printed ≡ [] → Opens b IsPace

-- How the runs go on from states that keep pace, by one step of each: the second one catches up; or both end alike and in no fault, and their steps rise by the
-- same; or the second one ends for want of memory in a step that isn't counted and prints nothing, while that of the first run costs something.
pub data GoesAlong (b : Beside) (IsPace : ℕ → ℕ → Type 0) (k l : ℕ) : Type 0 where
  StaysInPace : CatchesUp b IsPace (suc k) (suc l) → GoesAlong b IsPace k l
  EndsAlike : (e : Ended) → (b.xs (suc k)).state.ended ≡ Some e → (b.ys (suc l)).state.ended ≡ Some e
      → (b.ys (suc l)).printed ≡ (b.xs (suc k)).printed
      → (b.ys (suc l)).state.steps + (b.xs k).state.steps ≡ (b.xs (suc k)).state.steps + (b.ys l).state.steps
      → HasNoFault (b.xs (suc k)).state → GoesAlong b IsPace k l
  EndsInWant : (e : Ended) → (b.ys (suc l)).state.ended ≡ Some e → IsWant b e → (b.ys (suc l)).printed ≡ (b.ys l).printed
      → (b.ys (suc l)).state.steps ≡ (b.ys l).state.steps → (b.xs k).state.steps < (b.xs (suc k)).state.steps → GoesAlong b IsPace k l

-- The runs keep pace from the opening on: as far as the first one goes within its budget of steps, and has words enough.
pub record KeepPaces (b : Beside) (IsPace : ℕ → ℕ → Type 0) : Type 0 where
  pub paces : (k l : ℕ) → IsPace k l → KeepsPace b k l
  pub opens : Opens b IsPace
  pub next : (k l : ℕ) → IsPace k l → FirstReaches b (suc k) → ¬ LacksWords (b.xs (suc k)).state → GoesAlong b IsPace k l
