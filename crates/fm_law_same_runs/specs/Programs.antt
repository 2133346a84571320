-- What holds of class files and of those that are written for them, as statements: proofs are made in crates above this one, where they are made.
use Rattle.std.specs.Prelude.{◌≡◌, ℕ, ◌+◌, ◌<◌, ◌≤◌, Bool, true, false, List, [], length, Some, None, slice_get}
use Rattle.std.specs.List.{AllByRecursion}
use Rattle.fm_base.specs.declared.limits.TheConstants.{MAX_CLASS_FILES, MAX_LIVE_WORDS, MAX_MADE_WORDS}
use Rattle.fm_cells.specs.Choices.{lawful}
use Rattle.fm_cells.specs.Stores.{live_words, opened}
use Rattle.fm_code.specs.Profile.{IsSupported}
use Rattle.fm_code.specs.Spells.{HasSpelling}
use Rattle.fm_code.specs.declared.class_file.ClassDef.{ClassDef}
use Rattle.fm_conn.specs.Facts.{Facts}
use Rattle.fm_conn.specs.Nodes.{TypedMethod}
use Rattle.fm_world.specs.Linking.{refusals}
use Rattle.fm_world.specs.Programs.{Program, program_of}
use Rattle.fm_frames.specs.Acts.{Choose}
use Rattle.fm_frames.specs.Runs.{IsRun, Job, opening}
use Rattle.fm_frames.specs.States.{Frame, Moved, null, word_at}
use Rattle.fm_frames.specs.declared.ends.Ended.{Ended}
use Rattle.fm_frames.specs.declared.ends.Ended.TheVariants as end
use Rattle.fm_law_two_memories.specs.Runs.{IsPrefix, LacksWords}
use Rattle.fm_place.specs.Insertions.{full_insertions, Holder, Insertions}
use Rattle.fm_place.specs.Places.{is_busy}
use Rattle.fm_place.specs.Safe.{FullOf, IsProgramOf, method_in_facts, Safe}
use Rattle.fm_place.specs.Woven.{local_of}
use Rattle.fm_same.specs.Resolved.{CallsNoFreeMe}
use Rattle.fm_law_same_runs.specs.Beside.{Beside, IsGiven, kept_item, Marks, reuse_run, Same, steps_allowed}

-- class files that are accepted and link, and whose program calls no FreeMe
pub record AreTaken (given : List ClassDef) (main : List ℕ) : Type 0 where
  pub spelled : AllByRecursion HasSpelling given
  pub supported : AllByRecursion IsSupported given
  pub linked : refusals given main ≡ []
  pub few : length given ≤ MAX_CLASS_FILES
  pub no_free : CallsNoFreeMe (program_of given main)

-- ---- matched steps

-- whatever is inserted safely, the classes written do the same
abbrev pub StepsAreMatched : Type 0
StepsAreMatched =
    (given : List ClassDef) (main : List ℕ) → AreTaken given main → (written : List ClassDef) (marks : Marks) → Safe given main written marks
    → Same (program_of given main) (program_of written main) marks

-- ---- two programs

-- the end of a run that went as far as its program goes
abbrev pub is_done : Ended → Bool
is_done end.Returned = true
is_done (end.Exit number) = true
is_done (end.Uncaught class) = true
is_done end.Running = false
is_done (end.Exhausted live needed) = false
is_done (end.TooDeep frames) = true
is_done (end.InitFailed class) = true
is_done (end.StoreFull made needed) = false
is_done (end.Fault method offset cell) = false

-- whole runs of two programs, and their budgets of steps and of words
pub record WholeRuns : Type 0 where
  pub one : Program
  pub other : Program
  pub steps : ℕ
  pub words : ℕ
  pub other_steps : ℕ
  pub other_words : ℕ
  pub x : Moved
  pub y : Moved

-- How the second run compares with the first one: it prints and ends the same; or its steps or its
-- words weren't enough, and it printed the first of the bytes.
pub data IsAsFar (r : WholeRuns) : Type 0 where
  EndsTheSame : r.y.state.ended ≡ r.x.state.ended → r.y.printed ≡ r.x.printed → IsAsFar r
  HasFewSteps : r.y.state.ended ≡ None → r.other_steps < steps_allowed r.one r.other (r.x.state.steps + 1) → IsPrefix r.y.printed r.x.printed → IsAsFar r
  HasFewWords : LacksWords r.y.state → r.other_words < r.words → IsPrefix r.y.printed r.x.printed → IsAsFar r

-- both are runs of one job over memory that reuses cells in any way, and the first one went as far as its program goes
pub record AreWholeRuns (r : WholeRuns) : Type 0 where
  pub job : Job
  pub given : IsGiven job
  pub words : r.words ≤ MAX_LIVE_WORDS
  pub other_words : r.other_words ≤ MAX_LIVE_WORDS
  pub first : Choose
  pub second : Choose
  pub free : List (List ℕ)
  pub freed : List (List ℕ)
  pub first_run : IsRun r.one (lawful first) r.steps (opening r.one (lawful first) job (opened r.words (Some MAX_MADE_WORDS) free)) r.x
  pub second_run : IsRun r.other (lawful second) r.other_steps (opening r.other (lawful second) job (opened r.other_words (Some MAX_MADE_WORDS) freed)) r.y
  pub end : Ended
  pub ended : r.x.state.ended ≡ Some end
  pub done : is_done end ≡ true

-- Where the program of the files read reaches its end, that of the files written reaches the same
-- one, given steps and words enough.
abbrev pub ProgramsEndTheSame : Type 0
ProgramsEndTheSame =
    (given : List ClassDef) (main : List ℕ) → AreTaken given main → (written : List ClassDef) (marks : Marks) → Safe given main written marks
    → (r : WholeRuns) → r.one ≡ program_of given main → r.other ≡ program_of written main → AreWholeRuns r → IsAsFar r

-- ---- prompt frees

-- in a frame at item j of the old code each holder whose class isn't busy there is null
pub record AreClear (facts : Facts) (x : TypedMethod) (plan : Insertions) (f : Frame) (j : ℕ) : Type 0 where
  pub clear : (number : ℕ) (h : Holder) → slice_get plan.holders number ≡ Some h → is_busy facts x h.class j ≡ false
      → word_at f.locals (local_of x.code number) ≡ null

-- where a frame is at a kept item of a method with holders, those of classes that aren't busy are
-- null
abbrev pub IsClear : Program → Facts → Marks → Frame → Type 0
IsClear p facts marks f =
    (j : ℕ) (x : TypedMethod) (plan : Insertions) → kept_item marks f.method f.item ≡ Some j → method_in_facts p facts f.method ≡ Some x
    → full_insertions facts x ≡ Some plan → AreClear facts x plan f j

-- In each run of the classes written with all held sites and all places, over memory that reuses cells in any way: so it is in all frames, also in those
-- that wait for a call to return.
abbrev pub HoldersAreCleared : Type 0
HoldersAreCleared =
    (given : List ClassDef) (main : List ℕ) → AreTaken given main → (p : Program) → IsProgramOf given main p
    → (written : List ClassDef) (marks : Marks) → (full : FullOf p given written marks)
    → (job : Job) → IsGiven job → (choose : Choose) (words : ℕ) → words ≤ MAX_LIVE_WORDS → (free : List (List ℕ)) (l : ℕ)
    → (reuse_run (program_of written main) choose job words free l).state.ended ≡ None
    → AllByRecursion (IsClear p full.facts marks) (reuse_run (program_of written main) choose job words free l).state.frames

-- the words that live, with those that were freed, are the words that live in the first run
abbrev pub WordsAreBalanced : Beside → (k l : ℕ) → Type 0
WordsAreBalanced b k l =
    live_words (b.ys l).state.areas.store + (b.ys l).state.areas.freed_words ≡ live_words (b.xs k).state.areas.store
