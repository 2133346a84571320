-- What is dead isn't looked at: a run goes on alike where it is freed.
use Rattle.std.specs.Prelude.{◌≡◌, ℕ, suc, ◌≤◌, ◌⊎◌, false, List, [], Some, None}
use Rattle.fm_base.specs.declared.limits.TheConstants.{MAX_LIVE_WORDS}
use Rattle.fm_cells.specs.Choices.{lawful}
use Rattle.fm_cells.specs.Objects.{Object}
use Rattle.fm_cells.specs.Stores.{object_at, opened}
use Rattle.fm_conn.specs.Facts.{Facts}
use Rattle.fm_world.specs.Programs.{Outline, Program}
use Rattle.fm_frames.specs.Acts.{Choose, freed}
use Rattle.fm_frames.specs.Runs.{after, Job}
use Rattle.fm_frames.specs.States.{Moved, State}
use Rattle.fm_law_sound.specs.Making.{ArgumentsFit}
use Rattle.fm_law_two_memories.specs.Pairing.{Gone, none_gone, StatesPaired, with_gone}
use Rattle.fm_law_two_memories.specs.Runs.{IsPrefix, IsWithoutFrees, LacksWords}
use Rattle.fm_same.specs.DeadRegions.{IsDead, states_of}

-- the state with the object in the cell freed
abbrev pub with_freed : State → ℕ → State
with_freed x cell = record x { areas = freed x.areas cell }

-- the run from the state on: what it reaches after this many steps, with what they print
abbrev pub run_from : Program → Choose → State → ℕ → Moved
run_from p choose x k = after p (lawful choose) k (record { state = x; printed = [] })

-- The second run, whose memory lacks what is gone, goes as the first one does: the same was printed, and the states are the same but for cells and for what
-- is gone, ended ones too; or the first one has ended for want of words, of which the second one has more.
abbrev pub GoesAsFar : Gone → Outline → Moved → Moved → Type 0
GoesAsFar gone o x y = (StatesPaired gone o x.state y.state × (y.printed ≡ x.printed)) ⊎ (LacksWords x.state × IsPrefix x.printed y.printed)

-- No step from the state on looks at the object of that birth: where it is freed at this state, the run goes on as it does where it isn't, on memories that
-- reuse cells in any way.
abbrev pub IsUnseen : Program → Choose → (birth : ℕ) → State → Type 0
IsUnseen p choose birth x =
    (cell : ℕ) (object : Object) → object_at x.areas.store cell ≡ Some object → object.fixed ≡ false → object.birth ≡ birth → (other : Choose) (k : ℕ)
    → GoesAsFar (with_gone none_gone object) p.outline (run_from p choose x k) (run_from p other (with_freed x cell) k)

-- what is dead in each of the states from one on, which hasn't ended, is unseen from that one on
abbrev pub DeadIsUnseenIn : Program → Facts → Choose → (ℕ → State) → Type 0
DeadIsUnseenIn p facts choose xs =
    (birth first : ℕ) → ((k : ℕ) → first ≤ k → IsDead p facts birth (xs k) (xs (suc k))) → (xs first).ended ≡ None
    → IsUnseen p choose birth (xs first)

-- So it is in each run, on memory without a limit on its store, of a program that is typed and linked and calls no FreeMe.
abbrev pub DeadIsUnseen : Type 0
DeadIsUnseen =
    (p : Program) (facts : Facts) → IsWithoutFrees p facts.typing → (choose : Choose) (job : Job) → ArgumentsFit job.arguments
    → (budget : ℕ) (free : List (List ℕ)) → budget ≤ MAX_LIVE_WORDS
    → DeadIsUnseenIn p facts choose (states_of p choose job (opened budget None free))
