-- How colours go on from one state to the next.
use Rattle.std.specs.Prelude.{◌≡◌, ℕ, ◌+◌, ◌<◌, ◌≤◌, ◌⊎◌, false, List, [], ◌∷◌, length, Some}
use Rattle.fm_cells.specs.Objects.{Object}
use Rattle.fm_cells.specs.Stores.{object_at, Store}
use Rattle.fm_code.specs.declared.code_array.Code.{Code}
use Rattle.fm_conn.specs.Facts.{Facts}
use Rattle.fm_conn.specs.Nodes.{Return}
use Rattle.fm_world.specs.Programs.{Program}
use Rattle.fm_frames.specs.Effects.{Effect}
use Rattle.fm_frames.specs.States.{Frame, State}
use Rattle.fm_law_sound.specs.Placing.{PlacesAgree}
use Rattle.fm_same.specs.Colours.{Colour, Coloured}
use Rattle.fm_same.specs.Evenness.{Obeys, Point}
use Rattle.fm_same.specs.Regions.{Own, Region, Retired}
use Rattle.fm_same.specs.Standing.{method_of, StandsAt}

-- the point at which a frame is
abbrev pub point_of : Program → Facts → Frame → Code → Point
point_of p facts f code = record {
  method = method_of p facts f code;
  item = f.item;
  depth = length f.stack;
  class = facts.class f.method;
  live = facts.live f.method;
}

-- what the effect of a state's topmost frame owes to the classes, and requires of places
abbrev pub OwesAt : Program → Facts → Store → Effect → List Frame → Type 0
OwesAt p facts store e [] = e.actions ≡ []
OwesAt p facts store e (f ∷ callers) =
    (at : StandsAt p facts f) → Obeys p.outline (point_of p facts f at.code) at.insn e × PlacesAgree p.outline store f.stack e

-- the own region of the class of the topmost frame's result, which a return gives up
abbrev pub IsResult : Facts → List Frame → Region → Type 0
IsResult facts [] r = ⊥
IsResult facts (f ∷ callers) r = r ≡ Own (length callers) (facts.class f.method Return)

-- each object that was born keeps its region, but for those of the result's class
abbrev pub Advances : Facts → List Frame → Colour → Colour → ℕ → Type 0
Advances facts frames colour other births =
    (birth : ℕ) → birth < births → (other birth ≡ colour birth) ⊎ IsResult facts frames (colour birth)

-- no own region of the topmost of these frames, nor of one above it
abbrev pub IsLower : List Frame → Region → Type 0
IsLower frames r = (depth class : ℕ) → r ≡ Own depth class → depth + 1 < length frames

-- what an object that was born goes over to, if it doesn't keep its region, is lower
abbrev pub Lowers : List Frame → Colour → Colour → ℕ → Type 0
Lowers frames colour other births = (birth : ℕ) → birth < births → (other birth ≡ colour birth) ⊎ IsLower frames (other birth)

-- what is retired stays as it is
abbrev pub IsStill : Store → Colour → Store → Type 0
IsStill store colour later =
    (cell : ℕ) (object : Object) → object_at store cell ≡ Some object → object.fixed ≡ false → colour object.birth ≡ Retired
    → object_at later cell ≡ Some object

-- colours of the next state that go on from those of this one
pub record GoesOver (p : Program) (facts : Facts) (x next : State) (colour : Colour) : Type 0 where
  pub other : Colour
  pub coloured : Coloured p facts next other
  pub advances : Advances facts x.frames colour other x.areas.store.births
  pub lowers : Lowers x.frames colour other x.areas.store.births
  pub still : IsStill x.areas.store colour next.areas.store
  pub births : x.areas.store.births ≤ next.areas.store.births
