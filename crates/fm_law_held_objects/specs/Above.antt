-- What a frame still has to initialise has no own region of a frame above it: so what a frame above gives back is another object.
use Rattle.std.specs.Prelude.{◌≡◌, ◌<◌, ℕ, true, List, [], ◌∷◌, length, Some, None}
use Rattle.fm_cells.specs.Choices.{lawful}
use Rattle.fm_cells.specs.Stores.{Store}
use Rattle.fm_code.specs.declared.code_array.Code.{Code}
use Rattle.fm_conn.specs.Facts.{AreFacts, Facts}
use Rattle.fm_conn.specs.Links.{typed_method}
use Rattle.fm_frames.specs.Acts.{Choose}
use Rattle.fm_frames.specs.Runs.{Job, opening}
use Rattle.fm_frames.specs.States.{Frame, State}
use Rattle.fm_frames.specs.Steps.{step}
use Rattle.fm_law_held_objects.specs.Clean.{IsClean}
use Rattle.fm_law_held_objects.specs.Initialised.{FrameIsNotFor, IsInitialised}
use Rattle.fm_law_holders.specs.Holding.{HoldsFreeable}
use Rattle.fm_law_holders.specs.NewResults.{GoesOnBehind, HasNewResult}
use Rattle.fm_law_holders.specs.Uninitialised.{AreMade, Made}
use Rattle.fm_law_sound.specs.Resolved.{StepsAreResolved}
use Rattle.fm_law_sound.specs.Sound.{IsSoundBy, Typings}
use Rattle.fm_place.specs.Sites.{is_captured_site}
use Rattle.fm_same.specs.Advances.{GoesOver}
use Rattle.fm_same.specs.Colours.{Colour, Coloured}
use Rattle.fm_same.specs.Covering.{CoversAt}
use Rattle.fm_same.specs.Regions.{Own}
use Rattle.fm_same.specs.Resolved.{IsResolved}
use Rattle.fm_same.specs.Standing.{Stand}
use Rattle.fm_types.specs.States.{TypeState}
use Rattle.fm_types.specs.Typed.{state_at}
use Rattle.fm_world.specs.Programs.{code_at, Program}

-- no place of a frame with this many below it, live or not, is for an object of an own region of a frame above it (JVMS 4.10.2.4)
abbrev pub FrameIsForNoneAbove : Typings → Store → Colour → (depth : ℕ) → Frame → Type 0
FrameIsForNoneAbove typings store colour depth f =
    (birth above class : ℕ) → depth < above → colour birth ≡ Own above class → FrameIsNotFor typings store birth f

-- so it is of all these frames
abbrev pub AreForNoneAbove : Typings → Store → Colour → List Frame → Type 0
AreForNoneAbove typings store colour [] = Unit {0}
AreForNoneAbove typings store colour (f ∷ callers) =
    FrameIsForNoneAbove typings store colour (length callers) f × AreForNoneAbove typings store colour callers

-- what has an own region by the first colours has the same one by the second ones
abbrev pub AreSomeOf : (fewer colour : Colour) → Type 0
AreSomeOf fewer colour = (birth depth class : ℕ) → fewer birth ≡ Own depth class → colour birth ≡ Own depth class

-- ---- laws

-- At the opening it holds of any colours: nothing still has to be initialised.
abbrev pub OpeningIsForNoneAbove : Type 0
OpeningIsForNoneAbove =
    (p : Program) (typings : Typings) (choose : Choose) (job : Job) (store : Store) (colour : Colour)
    → IsSoundBy p typings (opening p (lawful choose) job store).state
    → AreForNoneAbove typings (opening p (lawful choose) job store).state.areas.store colour (opening p (lawful choose) job store).state.frames

-- A step after which the run goes on keeps it, where no object has an own region of a frame that isn't there, before the step and after it: of the colours
-- that go on from those before it any may be taken as long as own regions stay what they are or are given up.
abbrev pub StepsKeepForNoneAbove : Type 0
StepsKeepForNoneAbove =
    (p : Program) (facts : Facts) → AreFacts p facts → IsResolved p → (choose : Choose) (x : State) (colour : Colour) (made : Made)
    → x.ended ≡ None → (step p (lawful choose) x).state.ended ≡ None → Stand p facts x.frames → CoversAt p facts x x.frames → IsSoundBy p facts.typing x
    → IsSoundBy p facts.typing (step p (lawful choose) x).state → AreMade facts.typing x made → IsClean (length x.frames) colour
    → AreForNoneAbove facts.typing x.areas.store colour x.frames
    → (over : GoesOver p facts x (step p (lawful choose) x).state colour) → (fewer : Colour) → AreSomeOf fewer over.other
    → IsClean (length (step p (lawful choose) x).state.frames) fewer
    → AreForNoneAbove facts.typing (step p (lawful choose) x).state.areas.store fewer (step p (lawful choose) x).state.frames

-- So it stays where own regions are given up in a state.
abbrev pub FewerAreForNoneAbove : Type 0
FewerAreForNoneAbove =
    (typings : Typings) (store : Store) (colour fewer : Colour) (frames : List Frame) → AreSomeOf fewer colour → AreForNoneAbove typings store colour frames
    → AreForNoneAbove typings store fewer frames

-- The new result of a captured site is initialised: no place of any frame, live or not, is for it any longer.
abbrev pub NewResultsAreInitialised : Type 0
NewResultsAreInitialised =
    (p : Program) (facts : Facts) → AreFacts p facts → StepsAreResolved p
    → (x next : State) (colour other : Colour) (made : Made) (known : TypeState) (f : Frame) (callers : List Frame)
    → GoesOnBehind p x f callers → state_at (facts.typing f.method) f.item ≡ Some known
    → (r : HasNewResult facts x next colour known f callers) → Coloured p facts next other → Stand p facts next.frames → AreMade facts.typing next made
    → (code : Code) → code_at p f.method ≡ Some code → is_captured_site facts (typed_method p facts.typing f.method code) f.item ≡ true
    → AreForNoneAbove facts.typing x.areas.store colour x.frames → AreForNoneAbove facts.typing next.areas.store other next.frames
    → (birth : ℕ) → HoldsFreeable next.areas.store r.result birth → IsInitialised facts.typing next birth
