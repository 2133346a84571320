-- What a step costs, and what the memory of the first program has room for.
use Rattle.std.specs.Prelude.{◌≡◌, ℕ, ◌<◌, ◌≤◌, false, List, None}
use Rattle.fm_cells.specs.Choices.{lawful}
use Rattle.fm_cells.specs.Stores.{live_words}
use Rattle.fm_frames.specs.Acts.{Choose, FullAt, performed}
use Rattle.fm_frames.specs.Effects.{Action}
use Rattle.fm_frames.specs.States.{Areas, State}
use Rattle.fm_frames.specs.Steps.{is_deep, next_effect, step}
use Rattle.fm_frames.specs.declared.values.Value.{Value}
use Rattle.fm_law_no_fault.specs.CellsResolved.{CellsAreResolved}
use Rattle.fm_law_no_fault.specs.Whole.{IsWholeBy}
use Rattle.fm_law_same_runs.specs.Beside.{most_original_words}
use Rattle.fm_law_sound.specs.Making.{MakesFew}
use Rattle.fm_law_sound.specs.Sound.{IsSoundBy, Typings}
use Rattle.fm_law_two_memories.specs.Runs.{IsWithoutFrees, LacksWords}
use Rattle.fm_world.specs.Programs.{Outline, Program}

-- ---- stores

-- a store without a limit is never full
abbrev pub UnlimitedIsNeverFull : Type 0
UnlimitedIsNeverFull =
    (o : Outline) (choose : Choose) (locals stack : List Value) (actions : List Action) (x : Areas) (made : List ℕ) → x.store.limit ≡ None
    → (y : Areas) (words : ℕ) → ¬ (performed o (lawful choose) locals stack actions x made ≡ FullAt y words)

-- no more words live after a step than may, where none of its objects has too many
abbrev pub StepsStayWithin : Type 0
StepsStayWithin =
    (p : Program) (typings : Typings) → IsWithoutFrees p typings → (choose : Choose) (x : State) → IsSoundBy p typings x → MakesFew p x → x.ended ≡ None
    → x.areas.store.budget ≤ most_original_words → live_words x.areas.store ≤ x.areas.store.budget
    → live_words (step p (lawful choose) x).state.areas.store ≤ x.areas.store.budget

-- ---- costs

-- A step costs something, if it makes no more frames than may be and lacks no words: it is no fault, also where an object has too many words.
abbrev pub ShallowStepsCost : Type 0
ShallowStepsCost =
    (p : Program) (typings : Typings) → IsWithoutFrees p typings → CellsAreResolved p → (choose : Choose) (x : State) → IsWholeBy p typings x
    → x.ended ≡ None → x.areas.store.limit ≡ None → is_deep x (next_effect p x).next ≡ false → ¬ LacksWords (step p (lawful choose) x).state
    → x.steps < (step p (lawful choose) x).state.steps
