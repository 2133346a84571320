-- A live place that the checker has for the object of a `new` leads to no object of an own region of a frame above.
use Rattle.std.proofs.Common.{◌≡◌, ℕ, ◌≤◌, List, [], ◌∷◌, length, Some, sym, ◌∙◌, ap, subst, inl, inr, slice_get, arith}
use Rattle.std.specs.List.{AllByRecursion}
use Rattle.std.proofs.lemmas.Bool.{false≢true}
use Rattle.std.proofs.lemmas.Option.{get_or_from_slice_get, none-some, same_Some}
use Rattle.fm_cells.specs.Objects.{Object}
use Rattle.fm_cells.specs.Soundness.{IsOrderly}
use Rattle.fm_cells.specs.Stores.{object_at, Store}
use Rattle.fm_conn.specs.Facts.{Facts}
use Rattle.fm_conn.specs.Nodes.{Local}
use Rattle.fm_types.specs.declared.slots.Slot.{Slot}
use Rattle.fm_types.specs.declared.slots.Slot.TheVariants as slot
use Rattle.fm_world.specs.Programs.{Outline, Program}
use Rattle.fm_frames.specs.Acts.{cell_of}
use Rattle.fm_frames.specs.States.{Frame, State}
use Rattle.fm_frames.specs.declared.values.Value.{Value}
use Rattle.fm_frames.specs.declared.values.Value.TheVariants as value
use Rattle.fm_same.specs.Colours.{AreFramesColoured, Colour, Coloured, HasColour, IsOf, node_of_word, OfNull, OfObject, region_of}
use Rattle.fm_same.specs.Laws.{IsWithin}
use Rattle.fm_same.specs.Regions.{Region}
use Rattle.fm_same.proofs.RegionLemmas.{region_within}
use Rattle.fm_law_sound.proofs.FramesLeft.{related_at}
use Rattle.fm_law_no_fault.specs.Whole.{lowest}
use Rattle.fm_law_holders.specs.Uninitialised.{AreMade, AreMadeIn, FrameIsMade, FramesAreBelow, IsBelow, IsMadeAt, Made}
use Rattle.fm_law_holders.proofs.Slots.{Are, Is}

module _ (o : Outline) (facts : Facts) (store : Store) (colour : Colour) (made : Made) (orderly : IsOrderly store) where
  -- an object that has the region of a node is below
  cell_below : (depth class item cell : ℕ) (r : Region) → IsWithin depth class r → IsMadeAt store made item cell → IsOf store colour r cell
      → IsBelow store colour depth cell
  cell_below depth class item cell r within is (OfNull null) =
      absurd (none-some is.object (sym orderly.null_not_held ∙ ap (λ c. object_at store c) (sym null) ∙ is.held))
  cell_below depth class item cell r within is (OfObject object held (inl fixed)) =
      let same : is.object ≡ object = same_Some is.object object (sym is.held ∙ held) in
      absurd (false≢true (sym is.not_fixed ∙ ap (λ (a : Object). a.fixed) same ∙ fixed))
  cell_below depth class item cell r within is (OfObject object held (inr has)) = record {
    object = object;
    held = held;
    below = λ d own above region_is. let le : d ≤ depth = within.below d own (sym has ∙ region_is) in absurd (omega (arith, le, above));
  }

  value_below : (depth class item : ℕ) (v : Value) (r : Region) → IsWithin depth class r → IsMadeAt store made item (cell_of v) → HasColour store colour r v
      → IsBelow store colour depth (cell_of v)
  value_below depth class item (value.Ref cell) r within is has = cell_below depth class item cell.0 r within is has
  value_below depth class item value.Top r within is has = absurd (none-some is.object (sym orderly.null_not_held ∙ is.held))
  value_below depth class item (value.Int n) r within is has = absurd (none-some is.object (sym orderly.null_not_held ∙ is.held))
  value_below depth class item (value.Long n) r within is has = absurd (none-some is.object (sym orderly.null_not_held ∙ is.held))

  -- the value at a place
  made_at_place : (xs : List Slot) (values : List Value) (n item : ℕ) (v : Value) → Are store made xs values → slice_get xs n ≡ Some (slot.Uninit item)
      → slice_get values n ≡ Some v → IsMadeAt store made item (cell_of v)
  made_at_place xs values n item v are at found =
      subst (λ w. IsMadeAt store made item (cell_of w)) (get_or_from_slice_get values n v value.Top found)
      (related_at (Is store made) xs values n (slot.Uninit item) are at)

  frames_below : (frames : List Frame) → AreFramesColoured o facts store colour frames → AllByRecursion (FrameIsMade facts.typing store made) frames
      → FramesAreBelow facts store colour frames
  frames_below [] coloured are = tt
  frames_below (f ∷ callers) coloured are = (
    λ known at.
        let is : AreMadeIn store made known f = are.0 known at in
        record {
          locals = λ k item v typed found live.
              value_below (length callers) (facts.class f.method (Local k)) item v (region_of o facts f callers (Local k))
              (region_within o facts f.method callers (facts.class f.method (Local k)))
              (made_at_place known.locals f.locals k item v is.in_locals typed found) (coloured.0.locals k v found live);
          words = λ n item v typed found.
              value_below (length callers) (facts.class f.method (node_of_word f n)) item v (region_of o facts f callers (node_of_word f n))
              (region_within o facts f.method callers (facts.class f.method (node_of_word f n)))
              (made_at_place (lowest (length f.stack) known.stack) f.stack n item v is.in_stack typed found) (coloured.0.words n v found);
        },
    frames_below callers coloured.1 are.1,
  )

pub all_below : (p : Program) (facts : Facts) (x : State) (colour : Colour) (made : Made) → Coloured p facts x colour → AreMade facts.typing x made
    → FramesAreBelow facts x.areas.store colour x.frames
all_below p facts x colour made coloured are =
    frames_below p.outline facts x.areas.store colour made coloured.areas.orderly x.frames coloured.frames are
