-- What built-in methods require of the texts and the arrays of chars that are held, so that their
-- elements are units; each has it in the run of a typed program.
use Rattle.std.specs.Prelude.{◌≡◌, ℕ, ◌^◌, ◌<◌, true, Some, length}
use Rattle.std.specs.List.{All}
use Rattle.fm_cells.specs.Objects.{Object}
use Rattle.fm_cells.specs.Stores.{object_at, Store}
use Rattle.fm_frames.specs.Elements.{shows_units}
use Rattle.fm_frames.specs.Sights.{type_numbered}
use Rattle.fm_world.specs.Programs.{Outline}

-- the elements of such an object are 16-bit units, and an int counts them
pub record IsText (object : Object) : Type 0 where
  pub units : All (λ unit. unit < 2 ^ 16) object.elements
  pub short : length object.elements < 2 ^ 31

-- each text and each array of chars that is held has such elements
pub record HoldsTexts (o : Outline) (store : Store) : Type 0 where
  pub texts : (cell : ℕ) (object : Object) → object_at store cell ≡ Some object → shows_units o (type_numbered o object.class) ≡ true → IsText object
