-- What lies ahead of a frame: what is done before anything is freed, and what is freed.
use Rattle.std.proofs.Common.{◌≡◌, ℕ, List, [], ◌++◌, refl}
use Rattle.fm_cells.specs.Stores.{Store}
use Rattle.fm_conn.specs.Facts.{Facts}
use Rattle.fm_frames.specs.Acts.{cell_of}
use Rattle.fm_frames.specs.States.{Frame, State, word_at}
use Rattle.fm_law_held_objects.specs.Laws.{frees_of}
use Rattle.fm_law_same_runs.specs.Beside.{Marks}
use Rattle.fm_law_unwoven.specs.Doing.{joins_in}
use Rattle.fm_law_unwoven.specs.Kept.{Begins, FrameGoes, GoesBefore, GoesBehind, GoesByJump, InMethod, Resumes}
use Rattle.fm_law_unwoven.specs.Laid.{keeps_at, starts_of, Todo}
use Rattle.fm_law_unwoven.specs.Reached.{todos_ahead}
use Rattle.fm_law_unwoven.specs.WovenFrom.{inserted_by}
use Rattle.fm_place.specs.Insertions.{after_at, before_at}
use Rattle.fm_place.specs.Rewriting.{Plans}
use Rattle.fm_world.specs.Programs.{Program}

module _ (p q : Program) (facts : Facts) (plans : Plans) (marks : Marks) (before : State) (store : Store) (f g : Frame) (below : List Frame) where
  -- holders start, or keep what a site gave
  abbrev pub first_ahead : FrameGoes p q facts plans marks before f g below → List Todo
  first_ahead (InMethod j old code_is w was (GoesBehind past item next) edge stand) =
      keeps_at (inserted_by (plans g.method)) (joins_in store (cell_of (word_at g.stack 0))) j
  first_ahead (InMethod j old code_is w was (GoesBefore next) edge stand) = []
  first_ahead (InMethod j old code_is w was (GoesByJump jump mark) edge stand) = []
  first_ahead (Begins old_first first empty width on) = starts_of (inserted_by (plans g.method))
  first_ahead (Resumes stands is above frames_are) = []

  -- these get what a site gave
  abbrev pub given_ahead : FrameGoes p q facts plans marks before f g below → List ℕ
  given_ahead (InMethod j old code_is w was (GoesBehind past item next) edge stand) = after_at (inserted_by (plans g.method)) j
  given_ahead (InMethod j old code_is w was (GoesBefore next) edge stand) = []
  given_ahead (InMethod j old code_is w was (GoesByJump jump mark) edge stand) = []
  given_ahead (Begins old_first first empty width on) = []
  given_ahead (Resumes stands is above frames_are) = []

  -- these are freed then
  abbrev pub freed_ahead : FrameGoes p q facts plans marks before f g below → List ℕ
  freed_ahead (InMethod j old code_is w was (GoesBehind past item next) edge stand) = before_at (inserted_by (plans g.method)) f.item
  freed_ahead (InMethod j old code_is w was (GoesBefore next) edge stand) = before_at (inserted_by (plans g.method)) f.item
  freed_ahead (InMethod j old code_is w was (GoesByJump jump mark) edge stand) = before_at (inserted_by (plans g.method)) f.item
  freed_ahead (Begins old_first first empty width on) = before_at (inserted_by (plans g.method)) f.item
  freed_ahead (Resumes stands is above frames_are) = []

  pub ahead_is : (go : FrameGoes p q facts plans marks before f g below)
      → todos_ahead p q facts plans marks before store f g below go ≡ first_ahead go ++ frees_of (inserted_by (plans g.method)) (freed_ahead go)
  ahead_is (InMethod j old code_is w was (GoesBehind past item next) edge stand) = refl
  ahead_is (InMethod j old code_is w was (GoesBefore next) edge stand) = refl
  ahead_is (InMethod j old code_is w was (GoesByJump jump mark) edge stand) = refl
  ahead_is (Begins old_first first empty width on) = refl
  ahead_is (Resumes stands is above frames_are) = refl
