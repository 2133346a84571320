-- Arrays of arrays, as they are made one after the other.
use Rattle.std.specs.Prelude.{◌≡◌, ℕ, ◌+◌, ◌*◌, ◌^◌, ◌<◌, ◌≤◌, false, List, [], ◌∷◌, ◌++◌, length, Option, Some, None}
use Rattle.std.specs.List.{AllByRecursion}
use Rattle.fm_base.specs.declared.kinds.TypeRef.{TypeRef}
use Rattle.fm_cells.specs.Objects.{request_words}
use Rattle.fm_cells.specs.Stores.{live_words, Store}
use Rattle.fm_cells.specs.declared.answers.Cell.{Cell}
use Rattle.fm_frames.specs.Acts.{Choose, requested}
use Rattle.fm_frames.specs.ArrayRows.{array_actions, arrays_made, element_type}
use Rattle.fm_frames.specs.Effects.{Action, Effect, OfMade, words}
use Rattle.fm_frames.specs.States.{State}
use Rattle.fm_frames.specs.inner.Doings.{DoesIn, Underway}
use Rattle.fm_frames.specs.inner.Places.{IsWide}
use Rattle.fm_world.specs.Programs.{Outline, Program}

-- the words of all arrays: those of the outer one, and for each of its elements those of all that it holds
abbrev pub nest_words : Outline → TypeRef → List ℕ → ℕ
nest_words o t [] = 0
nest_words o t (len ∷ lens) = request_words (requested o t len false) + len * nest_words o (element_type t) lens

-- the outer array takes the place of this many words
abbrev pub nest_effect : ℕ → TypeRef → List ℕ → Effect
nest_effect takes t lens = record (words takes (OfMade 0 ∷ [])) { actions = array_actions t lens 0 }

-- ---- before they are made

-- there is a length for at least one dimension, and for no more than the type has
pub record AreLens (t : TypeRef) (lens : List ℕ) : Type 0 where
  pub some : 0 < length lens
  pub deep : length lens ≤ t.dims
  pub fit : AllByRecursion (λ len. len < 2 ^ 31) lens

-- and all arrays can be numbered, and their words may live
pub record CanNest (o : Outline) (x : State) (t : TypeRef) (lens : List ℕ) : Type 0 where
  pub are : AreLens t lens
  pub births : x.areas.store.births + arrays_made lens < 2 ^ 32
  pub room : live_words x.areas.store + nest_words o t lens ≤ x.areas.store.budget

-- all arrays can be numbered, and the step of each can be counted
pub record CanGive (x : State) (t : TypeRef) (lens : List ℕ) : Type 0 where
  pub are : AreLens t lens
  pub births : x.areas.store.births + arrays_made lens < 2 ^ 32
  pub steps : x.steps + arrays_made lens < 2 ^ 64

-- ---- once they are made

-- the store has `objects` objects more, which have `words` words, and wide objects are so still
pub record Grows (x y : Store) (objects words : ℕ) : Type 0 where
  pub births : y.births ≡ x.births + objects
  pub live : live_words y ≡ live_words x + words
  pub budget : y.budget ≡ x.budget
  pub wide : (cell : ℕ) → IsWide x cell → IsWide y cell

-- what an effect has left begins with these actions, and once they are done they have made these cells
abbrev pub Leads : Program → Choose → (y z : State) → (ℕ → List Action) → List ℕ → Type 0
Leads p choose y z actions cells =
    (x : State) (e : Effect) (made : List ℕ) (left : List Action)
    → Underway p choose x y e made (actions (length made) ++ left) → Underway p choose x z e (made ++ cells) left

-- all arrays are made, the outer one in this cell
pub record IsNest (p : Program) (choose : Choose) (y z : State) (t : TypeRef) (lens : List ℕ) (array : ℕ) : Type 0 where
  pub others : List ℕ
  pub many : 1 + length others ≡ arrays_made lens
  pub leads : Leads p choose y z (array_actions t lens) (array ∷ others)
  pub grows : Grows y.areas.store z.areas.store (arrays_made lens) (nest_words p.outline t lens)

-- or the run has ended
abbrev pub Nests : Program → Choose → (y z : State) → TypeRef → List ℕ → Option Cell → Type 0
Nests p choose y z t lens (Some array) = IsNest p choose y z t lens array.0
Nests p choose y z t lens None =
    (x : State) (e : Effect) (made : List ℕ) (left : List Action)
    → Underway p choose x y e made (array_actions t lens (length made) ++ left) → DoesIn p choose x z e
