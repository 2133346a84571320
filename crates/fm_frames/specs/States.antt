-- A state of the machine (JVMS 2.5, 2.6).
use Rattle.std.specs.Prelude.{ℕ, Bool, List, [], Option}
use Rattle.std.specs.List.{slice_index_or}
use Rattle.fm_cells.specs.Stores.{Store}
use Rattle.fm_frames.specs.declared.ends.Ended.{Ended}
use Rattle.fm_frames.specs.declared.values.Value.{Value}
use Rattle.fm_frames.specs.declared.values.Value.TheVariants as value

-- a reference to a cell; null is the reference to cell 0
abbrev pub ref : ℕ → Value
ref cell = value.Ref (record { 0 = cell })

-- the reference that leads to no object
abbrev pub null : Value
null = ref 0

-- a frame: its method by number, the item that is next, one value for each word of the locals, and
-- the operand stack with its top first. A frame that called another one stays at the call until
-- that one returns.
pub record Frame : Type 0 where
  pub method : ℕ
  pub item : ℕ
  pub locals : List Value
  pub stack : List Value

-- The data areas that all frames share (JVMS 2.5.3, 2.5.4): the objects, the static fields, for each literal the cell of its object or 0, which classes have started, and what was
-- freed so far.
pub record Areas : Type 0 where
  pub store : Store
  pub statics : List Value
  pub literals : List ℕ
  pub started : List Bool
  pub frees : ℕ
  pub freed_words : ℕ

-- the frames, the topmost first; the input that isn't read yet; how many frames may be; the steps that were done; and the end, if there is one
pub record State : Type 0 where
  pub frames : List Frame
  pub areas : Areas
  pub input : List ℕ
  pub depth : ℕ
  pub steps : ℕ
  pub ended : Option Ended

-- a state with what was printed on the way to it
pub record Moved : Type 0 where
  pub state : State
  pub printed : List ℕ

-- a state to which nothing was printed on the way
abbrev pub silent : State → Moved
silent x = record { state = x; printed = [] }

-- a word of a stack, and a local, by its place
abbrev pub word_at : List Value → ℕ → Value
word_at words place = slice_index_or words place value.Top
