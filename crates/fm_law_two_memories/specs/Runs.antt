-- One program on two memories: the first has no limit on its store, and the second reuses cells in any way.
use Rattle.std.specs.Prelude.{◌≡◌, ℕ, ◌+◌, ◌*◌, ◌<◌, ◌≤◌, ◌++◌, List, Option, Some, None}
use Rattle.fm_base.specs.declared.limits.TheConstants.{MAX_LIVE_WORDS}
use Rattle.fm_cells.specs.Choices.{lawful}
use Rattle.fm_cells.specs.Stores.{opened, Store}
use Rattle.fm_world.specs.Programs.{Outline, Program}
use Rattle.fm_frames.specs.Acts.{Choose}
use Rattle.fm_frames.specs.Runs.{after, IsRun, Job, opening}
use Rattle.fm_frames.specs.States.{Moved, State}
use Rattle.fm_frames.specs.declared.ends.Ended.TheVariants as end
use Rattle.fm_same.specs.Resolved.{CallsNoFreeMe}
use Rattle.fm_law_sound.specs.Making.{ArgumentsFit, MakesAreResolved}
use Rattle.fm_law_sound.specs.Resolved.{MainIsReady, StepsAreResolved}
use Rattle.fm_law_sound.specs.Sound.{AreTyped, Typings}
use Rattle.fm_law_two_memories.specs.Constants.{ConstantsFit}
use Rattle.fm_law_two_memories.specs.Hidden.{HiddenComesFirst}
use Rattle.fm_law_two_memories.specs.Pairing.{Gone, none_gone, StatesPaired}
use Rattle.fm_law_two_memories.specs.Results.{IsTooSmall}

-- what was printed up to now begins with what was printed then
abbrev pub IsPrefix : List ℕ → List ℕ → Type 0
IsPrefix printed all = (more : List ℕ) × (all ≡ printed ++ more)

-- the run ended as more words than may live were needed
abbrev pub LacksWords : State → Type 0
LacksWords x = (live needed : ℕ) × (x.ended ≡ Some (end.Exhausted live needed))

-- the run ended as the store was full
abbrev pub IsFull : State → Type 0
IsFull x = (made needed : ℕ) × (x.ended ≡ Some (end.StoreFull made needed))

-- The two runs go alike: they printed the same bytes, and their states are paired, ended ones too. Or one of them ended before the other for want of memory:
-- the one whose budget of words is less, where those that are gone count in the second one; or the second, where its store may have fewer words than twice
-- either budget.
pub data GoAlike (gone : Gone) (o : Outline) (budget other : ℕ) (limit : Option ℕ) (x y : Moved) : Type 0 where
  Alike : StatesPaired gone o x.state y.state → y.printed ≡ x.printed → GoAlike gone o budget other limit x y
  FirstLacks : budget < other + gone.words → LacksWords x.state → IsPrefix x.printed y.printed → GoAlike gone o budget other limit x y
  SecondLacks : other + gone.words < budget → LacksWords y.state → IsPrefix y.printed x.printed → GoAlike gone o budget other limit x y
  SecondIsFull : IsTooSmall gone limit budget other → IsFull y.state → IsPrefix y.printed x.printed → GoAlike gone o budget other limit x y

-- the run of a program after this many steps, over memory that reuses cells in any way
abbrev pub run_after : Program → Choose → Job → Store → ℕ → Moved
run_after p choose job store k = after p (lawful choose) k (opening p (lawful choose) job store)

-- the program is typed and linked, and calls no FreeMe
pub record IsWithoutFrees (p : Program) (typings : Typings) : Type 0 where
  pub typed : AreTyped p typings
  pub steps : StepsAreResolved p
  pub makes : MakesAreResolved p
  pub main : MainIsReady p
  pub no_free : CallsNoFreeMe p
  pub hidden : HiddenComesFirst p.outline
  pub constants : ConstantsFit p.outline

-- On two memories the program goes alike, step for step: on one without a limit on its store, such as one that is never reused, with any budget of words,
-- and on one that reuses cells in any way, with no more words than `fmrun` allows at most.
abbrev pub GoesAlikeOnMemories : Program → Type 0
GoesAlikeOnMemories p =
    (first second : Choose) (job : Job) → ArgumentsFit job.arguments → (budget other : ℕ) (limit : Option ℕ)
    (free freed : List (List ℕ)) → other ≤ MAX_LIVE_WORDS → (k : ℕ)
    → GoAlike none_gone p.outline budget other limit (run_after p first job (opened budget None free) k) (run_after p second job (opened other limit freed) k)

-- the store has no limit, or one of at least twice the words that may live
abbrev pub IsRoomy : Option ℕ → ℕ → Type 0
IsRoomy limit budget = (words : ℕ) → limit ≡ Some words → 2 * budget ≤ words

-- the same was printed, and the states are the same, whichever cells their objects lie in; so both ended alike, if they did
abbrev pub AreTheSame : Outline → Moved → Moved → Type 0
AreTheSame o x y = StatesPaired none_gone o x.state y.state × (y.printed ≡ x.printed)

-- With the same budget of words on both memories, and room for twice as many, the program prints the same and ends alike.
abbrev pub IsTheSameOnMemories : Program → Type 0
IsTheSameOnMemories p =
    (first second : Choose) (job : Job) → ArgumentsFit job.arguments → (budget : ℕ) (limit : Option ℕ)
    (free freed : List (List ℕ)) → budget ≤ MAX_LIVE_WORDS → IsRoomy limit budget → (k : ℕ)
    → AreTheSame p.outline (run_after p first job (opened budget None free) k) (run_after p second job (opened budget limit freed) k)

-- So do two whole runs that one budget of steps allows.
abbrev pub EndsAlikeOnMemories : Program → Type 0
EndsAlikeOnMemories p =
    (first second : Choose) (job : Job) → ArgumentsFit job.arguments → (budget : ℕ) (limit : Option ℕ)
    (free freed : List (List ℕ)) → budget ≤ MAX_LIVE_WORDS → IsRoomy limit budget → (steps : ℕ) (x y : Moved)
    → IsRun p (lawful first) steps (opening p (lawful first) job (opened budget None free)) x
    → IsRun p (lawful second) steps (opening p (lawful second) job (opened budget limit freed)) y → AreTheSame p.outline x y

-- So it is of each program that is typed and linked, and calls no FreeMe.
abbrev pub RunsGoAlike : Type 0
RunsGoAlike = (p : Program) (typings : Typings) → IsWithoutFrees p typings → GoesAlikeOnMemories p

-- with equal budgets too
abbrev pub RunsAreTheSame : Type 0
RunsAreTheSame = (p : Program) (typings : Typings) → IsWithoutFrees p typings → IsTheSameOnMemories p

-- and at the ends of whole runs
abbrev pub RunsEndAlike : Type 0
RunsEndAlike = (p : Program) (typings : Typings) → IsWithoutFrees p typings → EndsAlikeOnMemories p
