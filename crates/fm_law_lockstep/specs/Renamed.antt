-- What two runs keep under other cells.
use Rattle.std.specs.Prelude.{ℕ, ◌≤◌, List}
use Rattle.fm_base.specs.declared.limits.TheConstants.{MAX_LIVE_WORDS}
use Rattle.fm_frames.specs.Acts.{Choose}
use Rattle.fm_frames.specs.Runs.{Job}
use Rattle.fm_frames.specs.States.{State}
use Rattle.fm_law_lockstep.specs.Both.{Both}
use Rattle.fm_law_lockstep.specs.Known.{IsLinked}
use Rattle.fm_law_lockstep.specs.Reaching.{AreAtOneItem, IsUnreached}
use Rattle.fm_law_lockstep.specs.Together.{GoTogetherAt}
use Rattle.fm_law_same_runs.specs.Beside.{AreMatched, HasWords, most_original_words, runs_of}
use Rattle.fm_law_same_runs.specs.Renaming.{AreRenamed, StatesAreRenamed}
use Rattle.fm_law_sound.specs.Making.{ArgumentsFit}
use Rattle.fm_law_unwoven.specs.WovenFrom.{IsWovenFrom}

-- at states that go together the next item is the same one, and each object has another cell, but for what nothing leads to
abbrev pub TogetherIsRenamed : Type 0
TogetherIsRenamed =
    (b : Both) (x y : State) → GoTogetherAt b x y
    → AreAtOneItem b.marks x.frames y.frames × AreRenamed b.one.outline b.facts (IsUnreached b.one.outline b.facts x) x y

-- at matched states of the runs of one job each object has, but for what was retired before
abbrev pub MatchedAreRenamed : Type 0
MatchedAreRenamed =
    (b : Both) → IsWovenFrom b.one b.other b.facts b.plans b.marks → IsLinked b.one b.facts → b.words ≤ most_original_words
    → b.other_words ≤ MAX_LIVE_WORDS → (steps : ℕ) (job : Job) (choose : Choose) (free : List (List ℕ)) → ArgumentsFit job.arguments
    → HasWords (runs_of b.one b.other b.marks steps b.words b.other_words job choose free)
    → (k l : ℕ) → AreMatched (runs_of b.one b.other b.marks steps b.words b.other_words job choose free) k l
    → StatesAreRenamed b.facts (runs_of b.one b.other b.marks steps b.words b.other_words job choose free) k l
