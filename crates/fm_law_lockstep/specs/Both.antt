-- Two programs beside one another.
use Rattle.std.specs.Prelude.{ℕ}
use Rattle.fm_conn.specs.Facts.{Facts}
use Rattle.fm_law_same_runs.specs.Beside.{Marks}
use Rattle.fm_place.specs.Rewriting.{Plans}
use Rattle.fm_world.specs.Programs.{Program}

-- the programs, the second of which has insertions by these plans; what is known of the first one; and how many words may live in each run
pub record Both : Type 0 where
  pub one : Program
  pub other : Program
  pub facts : Facts
  pub plans : Plans
  pub marks : Marks
  pub words : ℕ
  pub other_words : ℕ
