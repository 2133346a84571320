-- The lockstep: a program on memory that is never reused and its form with insertions on memory that reuses cells go together from kept item to kept item.
use Rattle.std.specs.Prelude.{◌≡◌, ℕ, ◌+◌, ◌*◌, ◌<◌, ◌≤◌, true, false, List, [], length, None, Some}
use Rattle.std.specs.List.{AllByRecursion}
use Rattle.fm_base.specs.declared.limits.TheConstants.{MAX_MADE_WORDS}
use Rattle.fm_cells.specs.Choices.{lawful}
use Rattle.fm_cells.specs.Stores.{live_words, opened, Store}
use Rattle.fm_code.specs.declared.code_array.Code.{Code}
use Rattle.fm_frames.specs.Acts.{Choose}
use Rattle.fm_frames.specs.Runs.{Job, opening}
use Rattle.fm_frames.specs.States.{Frame, Moved, null, State, word_at}
use Rattle.fm_frames.specs.Steps.{cost, step}
use Rattle.fm_frames.specs.declared.ends.Ended.{Ended}
use Rattle.fm_frames.specs.declared.ends.Ended.TheVariants as end
use Rattle.fm_law_holders.specs.Uninitialised.{Made}
use Rattle.fm_law_held_objects.specs.Held.{FramesAreHeld}
use Rattle.fm_law_lockstep.specs.Both.{Both}
use Rattle.fm_law_lockstep.specs.Known.{IsKnown, IsLinked}
use Rattle.fm_law_lockstep.specs.Stepping.{RiseAlike}
use Rattle.fm_law_no_fault.specs.Whole.{HasNoFault}
use Rattle.fm_law_same_runs.specs.Beside.{Beside, HasWords, kept_item, most_inserted_steps, most_original_words, runs_of}
use Rattle.fm_law_same_runs.specs.Paces.{KeepPaces}
use Rattle.fm_law_sound.specs.Making.{ArgumentsFit}
use Rattle.fm_law_two_memories.specs.Pairing.{Gone, StatesPaired}
use Rattle.fm_law_two_memories.specs.Runs.{LacksWords}
use Rattle.fm_law_unwoven.specs.Doing.{IsPassed}
use Rattle.fm_law_unwoven.specs.Kept.{IsAtKept, old_state}
use Rattle.fm_law_unwoven.specs.WovenFrom.{inserted_by, IsWovenFrom}
use Rattle.fm_place.specs.Woven.{local_of}
use Rattle.fm_same.specs.Colours.{Colour}
use Rattle.fm_same.specs.Regions.{Retired}
use Rattle.fm_world.specs.Programs.{code_at}

-- ---- states that go together

-- the stores have the limits with which they were opened, and no more words live in the first one than may
pub record AreLimited (b : Both) (x y : Store) : Type 0 where
  pub unlimited : x.limit ≡ None
  pub limited : y.limit ≡ Some MAX_MADE_WORDS
  pub budget : x.budget ≡ b.words
  pub other_budget : y.budget ≡ b.other_words
  pub within : live_words x ≤ b.words
  pub few : b.words ≤ most_original_words

-- Both go on, the second one at a kept item: its old state is that of the first program, but for cells and for what is gone, which is retired, and of which as
-- many words were freed; and holders hold what they may.
pub record GoTogetherAt (b : Both) (x y : State) : Type 0 where
  pub colour : Colour
  pub made : Made
  pub gone : Gone
  pub goes_on : x.ended ≡ None
  pub known : IsKnown b.one b.facts x colour made
  pub retired : (birth : ℕ) → gone.births birth ≡ true → colour birth ≡ Retired
  pub paired : StatesPaired gone b.one.outline x (old_state b.one b.marks x.steps y)
  pub kept : IsAtKept b.one b.other b.facts b.plans b.marks y
  pub held : FramesAreHeld b.one b.facts b.plans b.marks x colour y.areas.store y.frames
  pub freed : y.areas.freed_words ≡ gone.words
  pub limits : AreLimited b x.areas.store y.areas.store

-- ---- how they go on

-- the second run ends for want of words, of which the first one may have more, or of room, where not all words of the first budget fit twice
pub data IsWantOf (b : Both) (e : Ended) : Type 0 where
  OfWords : (live needed : ℕ) → e ≡ end.Exhausted live needed → b.other_words < b.words → IsWantOf b e
  OfRoom : (made needed : ℕ) → e ≡ end.StoreFull made needed → MAX_MADE_WORDS < 2 * b.words → IsWantOf b e

-- few inserted steps, each of which costs 1, lead the second run to a state that goes together with this one of the first
pub record CatchesUpAt (b : Both) (second : Choose) (x y : State) : Type 0 where
  pub count : ℕ
  pub few : count ≤ most_inserted_steps b.one b.other
  pub caught : State
  pub passed : IsPassed b.other b.marks (lawful second) count y caught
  pub steps : caught.steps ≡ y.steps + count
  pub together : GoTogetherAt b x caught

-- Both do their steps and the second one catches up; or both end alike, by no fault; or the second one ends in want, by a step that prints nothing and isn't
-- counted, while that of the first one costs something.
pub data LockStep (b : Both) (second : Choose) (x y : State) (next following : Moved) : Type 0 where
  StaysTogether : following.printed ≡ next.printed → CatchesUpAt b second next.state following.state → LockStep b second x y next following
  EndsTogether : (e : Ended) → next.state.ended ≡ Some e → following.state.ended ≡ Some e → HasNoFault next.state → following.printed ≡ next.printed
      → RiseAlike x y next.state following.state → LockStep b second x y next following
  EndsWanting : (e : Ended) → following.state.ended ≡ Some e → IsWantOf b e → following.printed ≡ [] → following.state.steps ≡ y.steps
      → x.steps < next.state.steps → LockStep b second x y next following

-- so they go on from states that go together, unless the first one lacks words
abbrev pub StepsGoTogether : Both → Type 0
StepsGoTogether b =
    (first second : Choose) (x y : State) → GoTogetherAt b x y → ¬ LacksWords (step b.one (lawful first) x).state
    → LockStep b second x y (step b.one (lawful first) x) (step b.other (lawful second) y)

-- ---- how they open

-- no holder of a frame at a kept item holds anything
abbrev pub HoldsNothing : Both → Frame → Type 0
HoldsNothing b g =
    (item : ℕ) (code : Code) (h : ℕ) → kept_item b.marks g.method g.item ≡ Some item → code_at b.one g.method ≡ Some code
    → h < length (inserted_by (b.plans g.method)).holders → word_at g.locals (local_of code h) ≡ null

-- The second run catches up, nothing is gone, and no holder holds anything; or both end alike, by no fault; or the second one ends in want.
pub data OpensTogether (b : Both) (second : Choose) (x y : State) : Type 0 where
  OpenTogether : (c : CatchesUpAt b second x y) → ((birth : ℕ) → c.together.gone.births birth ≡ false) → AllByRecursion (HoldsNothing b) c.caught.frames
      → OpensTogether b second x y
  OpenAtEnd : (e : Ended) → x.ended ≡ Some e → y.ended ≡ Some e → HasNoFault x → OpensTogether b second x y
  OpenWanting : (e : Ended) → y.ended ≡ Some e → IsWantOf b e → OpensTogether b second x y

-- so the runs of one job open, unless the first one lacks words
abbrev pub OpeningsGoTogether : Both → Type 0
OpeningsGoTogether b =
    (first second : Choose) (job : Job) → ArgumentsFit job.arguments → (free : List (List ℕ))
    → ¬ LacksWords (opening b.one (lawful first) job (opened b.words None [])).state
    → OpensTogether b second (opening b.one (lawful first) job (opened b.words None [])).state
    (opening b.other (lawful second) job (opened b.other_words (Some MAX_MADE_WORDS) free)).state

-- ---- what the next step costs

-- at states that go together the next step costs the same
abbrev pub CostsAreSame : Both → Type 0
CostsAreSame b = (x y : State) → GoTogetherAt b x y → cost b.other y ≡ cost b.one x

-- so it is, where the second program is the first one with insertions
abbrev pub TogetherCostsSame : Type 0
TogetherCostsSame =
    (b : Both) → IsWovenFrom b.one b.other b.facts b.plans b.marks → IsLinked b.one b.facts → CostsAreSame b

-- ---- runs

-- the states of these numbers go together, and the same was printed
abbrev pub GoTogetherIn : (b : Both) → Beside → (k l : ℕ) → Type 0
GoTogetherIn b r k l = GoTogetherAt b (r.xs k).state (r.ys l).state × ((r.ys l).printed ≡ (r.xs k).printed)

-- so runs keep pace, where they open so and each step of both goes on so
abbrev pub LockstepsKeepPace : Type 0
LockstepsKeepPace =
    (b : Both) → CostsAreSame b → StepsGoTogether b → OpeningsGoTogether b
    → (steps : ℕ) (job : Job) (choose : Choose) (free : List (List ℕ)) → ArgumentsFit job.arguments
    → HasWords (runs_of b.one b.other b.marks steps b.words b.other_words job choose free)
    → KeepPaces (runs_of b.one b.other b.marks steps b.words b.other_words job choose free)
    (GoTogetherIn b (runs_of b.one b.other b.marks steps b.words b.other_words job choose free))
