-- What the holders of a frame hold: what may be freed, each object by one holder, and nothing that still has to be initialised.
use Rattle.std.specs.Prelude.{◌≡◌, ◌<◌, ℕ, List, [], ◌∷◌, length, Some, slice_get}
use Rattle.fm_cells.specs.Stores.{Store}
use Rattle.fm_chain.specs.Chained.{looped_at}
use Rattle.fm_code.specs.declared.code_array.Code.{Code}
use Rattle.fm_conn.specs.Facts.{Facts}
use Rattle.fm_frames.specs.States.{Frame, State}
use Rattle.fm_frames.specs.declared.values.Value.{Value}
use Rattle.fm_law_held_objects.specs.Contents.{Has, HoldsOneOrAll}
use Rattle.fm_law_held_objects.specs.Initialised.{IsInitialised}
use Rattle.fm_law_holders.specs.Holding.{holder_value}
use Rattle.fm_law_same_runs.specs.Beside.{kept_item, Marks}
use Rattle.fm_law_sound.specs.Sound.{Typings}
use Rattle.fm_law_unwoven.specs.WovenFrom.{inserted_by}
use Rattle.fm_place.specs.Insertions.{Holder, Insertions}
use Rattle.fm_place.specs.Rewriting.{Plans}
use Rattle.fm_same.specs.Colours.{Colour}
use Rattle.fm_world.specs.Programs.{code_at, Program}

-- the holder of this number has an object of this birth, which may be freed: alone, or in its chain
abbrev pub HolderHas : Store → Code → Insertions → List Value → (h birth : ℕ) → Type 0
HolderHas store code plan locals h birth = Has (looped_at plan h) store (holder_value code locals h) birth

-- Each holder of a frame that has this many others below it has what it may hold by these colours, no two of them have one object that may be freed, and such
-- an object is initialised in the state of the first program.
pub record AreHeld (typings : Typings) (x : State) (colour : Colour) (depth : ℕ) (store : Store) (code : Code) (plan : Insertions) (locals : List Value) : Type 0 where
  pub holds : (h : ℕ) (holder : Holder) → slice_get plan.holders h ≡ Some holder
      → HoldsOneOrAll (looped_at plan h) store colour depth holder.class (holder_value code locals h)
  pub apart : (h other birth : ℕ) → h < length plan.holders → other < length plan.holders → HolderHas store code plan locals h birth
      → HolderHas store code plan locals other birth → h ≡ other
  pub initialised : (h birth : ℕ) → h < length plan.holders → HolderHas store code plan locals h birth → IsInitialised typings x birth

-- so it is of a frame of the second program at a kept item; one that hasn't begun has no holders yet
abbrev pub FrameIsHeld : Program → Facts → Plans → Marks → State → Colour → (depth : ℕ) → Store → Frame → Type 0
FrameIsHeld p facts plans marks x colour depth store g =
    (item : ℕ) (code : Code) → kept_item marks g.method g.item ≡ Some item → code_at p g.method ≡ Some code
    → AreHeld facts.typing x colour depth store code (inserted_by (plans g.method)) g.locals

-- of all these frames
abbrev pub FramesAreHeld : Program → Facts → Plans → Marks → State → Colour → Store → List Frame → Type 0
FramesAreHeld p facts plans marks x colour store [] = Unit {0}
FramesAreHeld p facts plans marks x colour store (g ∷ callers) =
    FrameIsHeld p facts plans marks x colour (length callers) store g × FramesAreHeld p facts plans marks x colour store callers
