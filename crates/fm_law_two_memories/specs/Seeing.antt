-- What a step looks at isn't gone.
use Rattle.std.specs.Prelude.{◌≡◌, ℕ, true, false, Some}
use Rattle.std.specs.List.{AllByRecursion, slice_index_or}
use Rattle.fm_cells.specs.Objects.{Object}
use Rattle.fm_cells.specs.Stores.{object_at, Store}
use Rattle.fm_world.specs.Programs.{Outline}
use Rattle.fm_frames.specs.Acts.{cell_of, Sources, value_of}
use Rattle.fm_frames.specs.Effects.{JumpsIfSame, Next, Throws}
use Rattle.fm_frames.specs.Sights.{has_hidden_field, type_numbered}
use Rattle.fm_frames.specs.States.{Frame, State, word_at}
use Rattle.fm_frames.specs.Steps.{stack_of}
use Rattle.fm_frames.specs.declared.values.Value.{Value}
use Rattle.fm_law_two_memories.specs.Pairing.{Gone}

-- what the cell holds isn't gone
abbrev pub IsThere : Gone → Store → ℕ → Type 0
IsThere gone store cell = (object : Object) → object_at store cell ≡ Some object → gone.births object.birth ≡ false

-- what a word leads to isn't gone, nor is the text that an object there has hidden
pub record IsSeen (gone : Gone) (o : Outline) (store : Store) (v : Value) : Type 0 where
  pub word : IsThere gone store (cell_of v)
  pub hidden : (object : Object) → object_at store (cell_of v) ≡ Some object → has_hidden_field o (type_numbered o object.class) ≡ true
      → IsThere gone store (slice_index_or object.elements 0 0)

-- no word of the topmost stack leads to what is gone: of locals, of static fields, of elements and of the frames that wait nothing is asked
abbrev pub SeesNothingGone : Gone → Outline → State → Type 0
SeesNothingGone gone o x = AllByRecursion (IsSeen gone o x.areas.store) (stack_of x)

-- what is compared with another reference, and what is thrown, isn't gone
abbrev pub GoesOnByFound : Gone → Store → Sources → Frame → Next → Type 0
GoesOnByFound gone store from f (JumpsIfSame same) =
    IsThere gone store (cell_of (word_at f.stack 0)) × IsThere gone store (cell_of (word_at f.stack 1))
GoesOnByFound gone store from f (Throws source) = IsThere gone store (cell_of (value_of from source))
GoesOnByFound gone store from f next = Unit {0}
