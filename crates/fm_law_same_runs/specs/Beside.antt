-- A run of a program beside a run of its rewritten form: which states match, and how both end (JVMS
-- 2.6, 2.10, 2.11).
--
-- The first program runs on memory that is never reused, the second on memory that reuses cells in
-- any way. Marks give the old item of each item of the second one; an item without one is inserted.
use Rattle.std.specs.Prelude.{◌≡◌, ℕ, zero, suc, ◌+◌, ◌-◌, ◌*◌, ◌^◌, ◌<◌, ◌≤◌, ◌⊎◌, Bool, true, false, List, [], ◌∷◌, length, map, max, Option, Some, None, is_some, option_and_then, if◌then◌else◌, slice_get}
use Rattle.std.specs.List.{AllByRecursion, range_with_len, slice_index_or}
use Rattle.fm_base.specs.declared.limits.TheConstants.{MAX_LIVE_WORDS, MAX_MADE_WORDS}
use Rattle.fm_cells.specs.Choices.{lawful, never_choice}
use Rattle.fm_cells.specs.Stores.{live_words, opened}
use Rattle.fm_world.specs.Programs.{Program}
use Rattle.fm_frames.specs.Acts.{Choose}
use Rattle.fm_frames.specs.Runs.{after, Goes, Job, opening}
use Rattle.fm_frames.specs.States.{Frame, Moved, State}
use Rattle.fm_frames.specs.Steps.{max_locals_of}
use Rattle.fm_frames.specs.declared.ends.Ended.{Ended}
use Rattle.fm_frames.specs.declared.ends.Ended.TheVariants as end
use Rattle.fm_law_no_fault.specs.Whole.{HasNoFault}
use Rattle.fm_law_two_memories.specs.Runs.{LacksWords}
use Rattle.fm_law_sound.specs.Making.{ArgumentsFit}

-- ---- kept items

-- by the number of a method and that of an item: the old item that it is, if it isn't inserted
abbrev pub Marks : Type 0
Marks = List (List (Option ℕ))

-- the old item that an item is, if it is one
abbrev pub kept_item : Marks → (method item : ℕ) → Option ℕ
kept_item marks method item = option_and_then (λ old. old) (slice_get (slice_index_or marks method []) item)

-- whether the next item of a state is a kept one
abbrev pub is_at_kept : Marks → State → Bool
is_at_kept marks x = of_frames x.frames where
  of_frames : List Frame → Bool
  of_frames [] = false
  of_frames (f ∷ callers) = is_some (kept_item marks f.method f.item)

-- What the steps at kept items cost, of this many steps from the first on. A step that ends a run
-- before it is done costs nothing, here as in a report.
abbrev pub kept_cost : Marks → (ℕ → Moved) → ℕ → ℕ
kept_cost marks ys zero = 0
kept_cost marks ys (suc l) =
    kept_cost marks ys l + (if is_at_kept marks (ys l).state then (ys (suc l)).state.steps - (ys l).state.steps else 0)

-- how many of this many steps from the first on are at kept items
abbrev pub kept_steps : Marks → (ℕ → Moved) → ℕ → ℕ
kept_steps marks ys zero = 0
kept_steps marks ys (suc l) = kept_steps marks ys l + (if is_at_kept marks (ys l).state then 1 else 0)

-- ---- how far the second run may be behind

-- the greatest of these numbers, 0 if there are none
abbrev pub greatest : List ℕ → ℕ
greatest [] = 0
greatest (n ∷ more) = max n (greatest more)

-- the most locals that the second program has more than the first in one method
abbrev pub most_added_locals : Program → Program → ℕ
most_added_locals one other = greatest (map (λ method. max_locals_of other method - max_locals_of one method) (range_with_len 0 (length one.codes)))

-- as many inserted steps may follow one another
abbrev pub most_inserted_steps : Program → Program → ℕ
most_inserted_steps one other = 6 * most_added_locals one other + 2

-- the budget of steps with which the second program gets as far as the first one with its own
abbrev pub steps_allowed : Program → Program → ℕ → ℕ
steps_allowed one other steps = steps + most_inserted_steps one other * (steps + 1)

-- ---- two runs

-- the programs and the marks of the second one; the first one's budget of steps, and both budgets of words; and the states of both runs by their numbers, with
-- what was printed on the way to them
pub record Beside : Type 0 where
  pub one : Program
  pub other : Program
  pub marks : Marks
  pub steps : ℕ
  pub words : ℕ
  pub other_words : ℕ
  pub xs : ℕ → Moved
  pub ys : ℕ → Moved

-- a run reaches a state within a budget of steps
abbrev pub Reaches : Program → (budget : ℕ) → (ℕ → Moved) → ℕ → Type 0
Reaches p budget xs k = (j : ℕ) → j < k → Goes p budget (xs j).state

-- the first run reaches its k-th state
abbrev pub FirstReaches : Beside → ℕ → Type 0
FirstReaches b k = Reaches b.one b.steps b.xs k

-- the second run reaches its l-th state
abbrev pub SecondReaches : Beside → ℕ → Type 0
SecondReaches b l = Reaches b.other (steps_allowed b.one b.other b.steps) b.ys l

-- ---- states that match

-- the second run goes on at a kept item, and what it did at kept items costs what the first run did
pub record StandsFor (b : Beside) (k l : ℕ) : Type 0 where
  pub reached : SecondReaches b l
  pub goes_on : (b.ys l).state.ended ≡ None
  pub kept : is_at_kept b.marks (b.ys l).state ≡ true
  pub cost : kept_cost b.marks b.ys l ≡ (b.xs k).state.steps

-- Both runs go on; the same was printed and read, as many frames exist and as many objects were
-- made; and no more words live in the second one.
pub record AreMatched (b : Beside) (k l : ℕ) : Type 0 where
  pub reached : FirstReaches b k
  pub goes_on : (b.xs k).state.ended ≡ None
  pub stands : StandsFor b k l
  pub printed : (b.ys l).printed ≡ (b.xs k).printed
  pub input : (b.ys l).state.input ≡ (b.xs k).state.input
  pub frames : length (b.ys l).state.frames ≡ length (b.xs k).state.frames
  pub births : (b.ys l).state.areas.store.births ≡ (b.xs k).state.areas.store.births
  pub words : live_words (b.ys l).state.areas.store ≤ live_words (b.xs k).state.areas.store

-- ---- the second run ends before the first one

-- the end is want of memory: of words only where the second budget of them is less, and of room only where not all words of the first budget fit twice
pub data IsWant (b : Beside) (e : Ended) : Type 0 where
  OfWords : (live needed : ℕ) → e ≡ end.Exhausted live needed → b.other_words < b.words → IsWant b e
  OfRoom : (made needed : ℕ) → e ≡ end.StoreFull made needed → MAX_MADE_WORDS < 2 * b.words → IsWant b e

-- it printed what the last matched states did, and nothing where there are none
pub data PrintedAsMatched (b : Beside) (printed : List ℕ) : Type 0 where
  NoneMatched : ((k l : ℕ) → ¬ AreMatched b k l) → printed ≡ [] → PrintedAsMatched b printed
  LastMatched : (k l : ℕ) → AreMatched b k l → ((later m : ℕ) → AreMatched b later m → later ≤ k) → printed ≡ (b.xs k).printed → PrintedAsMatched b printed

-- before it got as far as the k-th state of the first run, the second one ended for want of memory
pub record EndedBefore (b : Beside) (k : ℕ) : Type 0 where
  pub l : ℕ
  pub reached : SecondReaches b l
  pub end : Ended
  pub ended : (b.ys l).state.ended ≡ Some end
  pub want : IsWant b end
  pub before : (l ≡ 0) ⊎ (kept_cost b.marks b.ys l < (b.xs k).state.steps)
  pub printed : PrintedAsMatched b (b.ys l).printed

-- ---- the runs go together

-- exactly one state of the second run belongs to the k-th of the first one, they are matched, and as many steps at kept items lead to it
pub record HasMatch (b : Beside) (k : ℕ) : Type 0 where
  pub l : ℕ
  pub matched : AreMatched b k l
  pub number : kept_steps b.marks b.ys l ≡ k
  pub once : (m : ℕ) → StandsFor b k m → m ≡ l

-- the second run ends as the first one does in its k-th state: the same was printed, and at kept items the second one did as many steps, which cost as much
pub record EndsAs (b : Beside) (k : ℕ) (e : Ended) : Type 0 where
  pub l : ℕ
  pub reached : SecondReaches b l
  pub ended : (b.ys l).state.ended ≡ Some e
  pub printed : (b.ys l).printed ≡ (b.xs k).printed
  pub number : kept_steps b.marks b.ys l ≡ k
  pub cost : kept_cost b.marks b.ys l ≡ (b.xs k).state.steps

-- the state goes on at an inserted item
pub record IsAtInserted (marks : Marks) (x : State) : Type 0 where
  pub goes_on : x.ended ≡ None
  pub inserted : is_at_kept marks x ≡ false

-- this many states in a row go on at inserted items, from the l-th on
abbrev pub AreAtInserted : Beside → (l count : ℕ) → Type 0
AreAtInserted b l count = (j : ℕ) → j < count → IsAtInserted b.marks (b.ys (l + j)).state

-- few inserted steps follow one another, wherever the second run is
abbrev pub FewAreInserted : Beside → Type 0
FewAreInserted b = (l count : ℕ) → AreAtInserted b l count → count ≤ most_inserted_steps b.one b.other

-- Each state that the first run reaches has its match, and its end is that of the second run,
-- unless that ended before for want of memory; so the second run never ends in a fault before the
-- first one ends. And few inserted steps follow one another.
pub record GoTogether (b : Beside) : Type 0 where
  pub states : (k : ℕ) → FirstReaches b k → (b.xs k).state.ended ≡ None → EndedBefore b k ⊎ HasMatch b k
  pub ends : (k : ℕ) (e : Ended) → FirstReaches b k → (b.xs k).state.ended ≡ Some e → EndedBefore b k ⊎ EndsAs b k e
  pub few_inserted : FewAreInserted b

-- As long as the second run does no more kept steps than the first one did, it never reads, writes or frees a freed cell.
abbrev pub IsWithoutFault : Beside → Type 0
IsWithoutFault b = (k l : ℕ) → FirstReaches b k → SecondReaches b l → kept_steps b.marks b.ys l ≤ k → HasNoFault (b.ys l).state

-- ---- the programs do the same

-- the most words with which the first program runs: objects are then fewer than births have numbers
abbrev pub most_original_words : ℕ
most_original_words = 2 ^ 32

-- arguments that are texts, and bytes of input
pub record IsGiven (job : Job) : Type 0 where
  pub arguments : ArgumentsFit job.arguments
  pub input : AllByRecursion (λ byte. byte < 2 ^ 8) job.input

-- The states of a run on memory that is never reused, whose store has no limit. What that memory chooses is lawful as it is: `lawful` is here because the
-- laws of runs speak of lawful choices.
abbrev pub never_run : Program → Job → (words : ℕ) → ℕ → Moved
never_run p job words k = after p (lawful never_choice) k (opening p (lawful never_choice) job (opened words None []))

-- the states of a run on memory that reuses cells in any way, whose store has the limit of a run
abbrev pub reuse_run : Program → Choose → Job → (words : ℕ) → (free : List (List ℕ)) → ℕ → Moved
reuse_run p choose job words free k = after p (lawful choose) k (opening p (lawful choose) job (opened words (Some MAX_MADE_WORDS) free))

-- both runs of one job
abbrev pub runs_of : Program → Program → Marks → (steps words other_words : ℕ) → Job → Choose → (free : List (List ℕ)) → Beside
runs_of one other marks steps words other_words job choose free = record {
  one = one;
  other = other;
  marks = marks;
  steps = steps;
  words = words;
  other_words = other_words;
  xs = never_run one job words;
  ys = reuse_run other choose job other_words free;
}

-- the first run has words enough
abbrev pub HasWords : Beside → Type 0
HasWords b = (k : ℕ) → FirstReaches b k → ¬ LacksWords (b.xs k).state

-- The statement on two runs holds for all arguments, input, budgets and choices of cells, where the
-- first run has words enough.
abbrev pub InAllRuns : Program → Program → Marks → (Beside → Type 0) → Type 0
InAllRuns one other marks IsSo =
    (job : Job) → IsGiven job → (steps words other_words : ℕ) → words ≤ most_original_words → other_words ≤ MAX_LIVE_WORDS
    → (choose : Choose) (free : List (List ℕ)) → HasWords (runs_of one other marks steps words other_words job choose free)
    → IsSo (runs_of one other marks steps words other_words job choose free)

-- The second program, on memory that reuses cells in any way, does what the first one does on memory that is never reused, step for matched step.
abbrev pub Same : Program → Program → Marks → Type 0
Same one other marks = InAllRuns one other marks GoTogether
