-- The results of the actions of a step on two memories, the first of which has no limit on its
-- store, and the second of which lacks what is gone.
use Rattle.std.specs.Prelude.{◌≡◌, ℕ, ◌+◌, ◌*◌, ◌^◌, ◌<◌, ◌≤◌, false, List, [], None, Option, Some}
use Rattle.std.specs.List.{AllByRecursion, AllZip}
use Rattle.fm_base.specs.declared.limits.TheConstants.{MAX_LIVE_WORDS}
use Rattle.fm_cells.specs.Choices.{lawful}
use Rattle.fm_cells.specs.Stores.{Store}
use Rattle.fm_world.specs.Members.{size_of}
use Rattle.fm_world.specs.Programs.{Outline}
use Rattle.fm_frames.specs.Acts.{Choose, Did, FullAt, LostAt, performed, Performed}
use Rattle.fm_frames.specs.Effects.{Action}
use Rattle.fm_frames.specs.States.{Areas, Frame}
use Rattle.fm_frames.specs.Steps.{is_over}
use Rattle.fm_law_sound.specs.Acting.{ActsFit}
use Rattle.fm_law_sound.specs.Placing.{PutAgrees}
use Rattle.fm_law_sound.specs.Sound.{AreasAreSound}
use Rattle.fm_law_two_memories.specs.Laws.{KeepsBirths, KeepsClasses}
use Rattle.fm_law_two_memories.specs.Pairing.{AreasPaired, FramesPaired, Gone, SameFound}
use Rattle.fm_law_two_memories.specs.Reading.{ActsAlike}
use Rattle.fm_law_two_memories.specs.Seeing.{IsSeen}

-- the limit is less than twice the words that may live: in the second store with those that are gone, and in the first one
abbrev pub IsTooSmall : Gone → Option ℕ → (budget other : ℕ) → Type 0
IsTooSmall gone limit budget other = (words : ℕ) × (limit ≡ Some words) × (words < 2 * (other + gone.words)) × (words < 2 * budget)

-- what is gone has fewer words than any run that is compared can make
abbrev pub IsFewGone : Gone → Type 0
IsFewGone gone = gone.words ≤ 2 ^ 35

-- the store has the budget of words and the limit that it had
pub record KeepsLimits (store later : Store) : Type 0 where
  pub limit : later.limit ≡ store.limit
  pub budget : later.budget ≡ store.budget

-- All actions were done on both memories, and made cells that correspond to each other; or the
-- store of the second, which is named first, was full, as it may have less than twice the words
-- that may live there with those that are gone, and less than twice those that may in the first.
abbrev pub ResultsAlike : Gone → Outline → Store → Store → Performed → Performed → Type 0
ResultsAlike gone o one other (FullAt y words) result = IsTooSmall gone other.limit one.budget other.budget
ResultsAlike gone o one other (LostAt v) result = ⊥
ResultsAlike gone o one other (Did y others) (FullAt x words) = ⊥
ResultsAlike gone o one other (Did y others) (LostAt v) = ⊥
ResultsAlike gone o one other (Did y others) (Did x made) =
    AreasPaired gone o x y × KeepsBirths one x.store × KeepsBirths other y.store × KeepsClasses one x.store × KeepsLimits one x.store × KeepsLimits other y.store
    × AllZip (SameFound x.store y.store) made others

-- Actions that free nothing and put values by their kinds, and are within both budgets, lead paired areas to paired ones, or the second store is full.
abbrev pub ActionsKeepPaired : Type 0
ActionsKeepPaired =
    (gone : Gone) → IsFewGone gone → (o : Outline) → ((class : ℕ) → size_of o.classes class < 2 ^ 31) → (first second : Choose) → (f g : Frame) (x y : Areas)
    → FramesPaired gone x.store y.store f g → AllByRecursion (IsSeen gone o x.store) f.stack → AreasPaired gone o x y → AreasAreSound o x → x.store.limit ≡ None → y.store.budget ≤ MAX_LIVE_WORDS
    → (actions : List Action) → is_over o x actions ≡ false → is_over o y actions ≡ false
    → ActsFit o x.store f [] actions → AllByRecursion (PutAgrees o x.store f.stack) actions → AllByRecursion (ActsAlike o x.store f) actions
    → ResultsAlike gone o x.store y.store (performed o (lawful second) g.locals g.stack actions y []) (performed o (lawful first) f.locals f.stack actions x [])
