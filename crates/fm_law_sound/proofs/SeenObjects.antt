-- What is seen of a reference is an object that is held in its cell, as it is seen.
use Rattle.std.proofs.Common.{◌≡◌, ℕ, zero, suc, List, [], ◌∷◌, Option, Some, None, refl, sym, ◌∙◌, ap, slice_get}
use Rattle.std.proofs.lemmas.Option.{none-some, same_Some}
use Rattle.fm_cells.specs.Objects.{Object}
use Rattle.fm_cells.specs.Stores.{object_at, Store}
use Rattle.fm_world.specs.Programs.{Outline}
use Rattle.fm_frames.specs.Acts.{cell_of}
use Rattle.fm_frames.specs.Sights.{Looks, looks, sight, sight_of_cell, sight_of_object, sights, Thing, type_numbered}
use Rattle.fm_frames.specs.States.{word_at}
use Rattle.fm_frames.specs.declared.values.Value.{Value}
use Rattle.fm_frames.specs.declared.values.Value.TheVariants as value

-- the object that the cell holds looks so, and is of the type that is seen
pub record IsSeen (o : Outline) (store : Store) (cell : ℕ) (it : Looks) : Type 0 where
  pub object : Object
  pub held : object_at store cell ≡ Some object
  pub looks_so : looks o store object ≡ it
  pub type_is : it.type ≡ type_numbered o object.class

pub looks_type : (o : Outline) (store : Store) (object : Object) → (looks o store object).type ≡ type_numbered o object.class
unfolding looks
looks_type o store object = refl

seen_object : (o : Outline) (store : Store) (cell : ℕ) (it : Looks) (found : Option Object) → object_at store cell ≡ found
    → sight_of_object o store found ≡ Thing it → IsSeen o store cell it
seen_object o store cell it None is e = absurd (cc)
seen_object o store cell it (Some object) is e =
    let same : looks o store object ≡ it = cc in
    record { object = object; held = is; looks_so = same; type_is = ap (λ (l : Looks). l.type) (sym same) ∙ looks_type o store object }

seen_cell : (o : Outline) (store : Store) (cell : ℕ) (it : Looks) → sight_of_cell o store cell ≡ Thing it → IsSeen o store cell it
seen_cell o store zero it e = absurd (cc)
seen_cell o store (suc cell) it e = seen_object o store (suc cell) it (object_at store (suc cell)) refl e

seen_value : (o : Outline) (store : Store) (v : Value) (it : Looks) → sight o store v ≡ Thing it → IsSeen o store (cell_of v) it
seen_value o store (value.Ref cell) it e = seen_cell o store cell.0 it e
seen_value o store value.Top it e = absurd (cc)
seen_value o store (value.Int n) it e = absurd (cc)
seen_value o store (value.Long n) it e = absurd (cc)

pub seen_at : (o : Outline) (store : Store) (stack : List Value) (n : ℕ) (it : Looks) → slice_get (sights o store stack) n ≡ Some (Thing it)
    → IsSeen o store (cell_of (word_at stack n)) it
seen_at o store [] n it e = absurd (none-some (Thing it) e)
seen_at o store (v ∷ stack) zero it e = seen_value o store v it (same_Some (sight o store v) (Thing it) e)
seen_at o store (v ∷ stack) (suc n) it e = seen_at o store stack n it e
