-- What is new: no place that isn't initialised leads to it, whichever way it is new.
use Rattle.std.proofs.Common.{◌≡◌, ◌≢◌, ℕ, suc, ◌≤◌, false, sym, ◌∙◌, ap, inl, inr, arith}
use Rattle.std.proofs.lemmas.Bool.{false≢true}
use Rattle.std.proofs.lemmas.Option.{none-some, same_Some}
use Rattle.fm_cells.specs.Objects.{Object}
use Rattle.fm_cells.specs.Soundness.{IsOrderly}
use Rattle.fm_cells.specs.Stores.{object_at, Store}
use Rattle.fm_types.specs.States.{TypeState}
use Rattle.fm_types.specs.declared.slots.Slot.{Slot}
use Rattle.fm_types.specs.declared.slots.Slot.TheVariants as slot
use Rattle.fm_frames.specs.Acts.{cell_of}
use Rattle.fm_frames.specs.States.{Frame, State}
use Rattle.fm_frames.specs.declared.values.Value.{Value}
use Rattle.fm_same.proofs.ActsKeep.{cell_has, object_has}
use Rattle.fm_same.proofs.StoreChanges.{Extends, IsKept}
use Rattle.fm_same.specs.Colours.{Colour, HasColour, IsFixed, IsNull, IsOf, OfNull, OfObject}
use Rattle.fm_same.specs.Laws.{IsWithin}
use Rattle.fm_same.specs.Regions.{Own, Region}
use Rattle.fm_law_holders.proofs.Apart.{items_same}
use Rattle.fm_law_holders.proofs.BornObjects.{IsBornSince, IsNullOrBorn}
use Rattle.fm_law_holders.proofs.SiteStates.{Any, Others}
use Rattle.fm_law_holders.specs.NewResults.{IsBorn, IsBuilt, IsCallees, IsHeldByAll, IsNew, IsNoCallees, IsUnbuilt}
use Rattle.fm_law_holders.specs.Uninitialised.{IsMadeAt, Made, ValueIsMade}

-- where the checker has the object of a `new`, it isn't of a region of a frame right above the one with this many below it
abbrev pub ValueIsBelow : Store → Colour → (depth : ℕ) → Slot → Value → Type 0
ValueIsBelow store colour depth (slot.Uninit item) v = IsNoCallees store colour depth (cell_of v)
ValueIsBelow store colour depth s v = Unit {0}

-- what has a region of the frame's own classes isn't
pub coloured_below : (store : Store) (colour : Colour) (made : Made) (depth class : ℕ) (r : Region) (s : Slot) (v : Value) → IsOrderly store
    → IsWithin depth class r → HasColour store colour r v → ValueIsMade store made s v → ValueIsBelow store colour depth s v
coloured_below store colour made depth class r (slot.Uninit item) v orderly within has is = λ object held other own.
    let same : is.object ≡ object = same_Some is.object object (sym is.held ∙ held) in
    let loose : object.fixed ≡ false = ap (λ (o : Object). o.fixed) (sym same) ∙ is.not_fixed in
    let region : colour object.birth ≡ r = object_has store colour r (cell_of v) object orderly (cell_has store colour r v has) held loose in
    let deep : suc depth ≤ depth = within.below (suc depth) other (sym region ∙ own) in
    absurd (omega (arith, deep))
coloured_below store colour made depth class r slot.Top v orderly within has is = tt
coloured_below store colour made depth class r slot.Int v orderly within has is = tt
coloured_below store colour made depth class r slot.Long v orderly within has is = tt
coloured_below store colour made depth class r slot.Null v orderly within has is = tt
coloured_below store colour made depth class r (slot.Ref t) v orderly within has is = tt
coloured_below store colour made depth class r slot.UninitThis v orderly within has is = tt

-- what is known of the places before the step
abbrev pub Holds : Store → Made → Colour → ℕ → Slot → Value → Type 0
Holds store made colour depth s v = ValueIsMade store made s v × ValueIsBelow store colour depth s v

module _ (x : State) (colour : Colour) (made : Made) (known : TypeState) (f : Frame) (depth : ℕ) (later : Store) (orderly : IsOrderly x.areas.store) (extends : Extends x.areas.store later) where
  abbrev store : Store
  store = x.areas.store

  -- places of one of these items lead elsewhere
  abbrev Avoids : (ℕ → Type 0) → ℕ → Type 0
  Avoids IsOne cell = (item : ℕ) (v : Value) → IsOne item → Holds store made colour depth (slot.Uninit item) v → cell_of v ≢ cell

  -- the cell is new, and they do
  pub record IsNewAnd (IsOne : ℕ → Type 0) (cell : ℕ) : Type 0 where
    pub new : IsNew x colour known f depth later cell
    pub avoids : Avoids IsOne cell

  null_avoids : (cell : ℕ) → cell ≡ 0 → Avoids Any cell
  null_avoids cell null item v one h same =
      none-some h.0.object (sym orderly.null_not_held ∙ ap (λ c. object_at store c) (sym (same ∙ null)) ∙ h.0.held)

  born_avoids : (cell : ℕ) → IsBornSince store.births later cell → Avoids Any cell
  born_avoids cell born item v one h same =
      let kept : IsKept later (cell_of v) h.0.object = extends.kept (cell_of v) h.0.object h.0.held in
      let object : kept.now ≡ born.object = same_Some kept.now born.object (sym kept.is ∙ ap (λ c. object_at later c) same ∙ born.held) in
      let birth : kept.now.birth ≡ born.object.birth = ap (λ (found : Object). found.birth) object in
      let before = kept.birth in
      let older = h.0.born in
      let since = born.since in
      absurd (omega (arith, birth, before, older, since))

  -- what the step made
  pub made_new : (cell : ℕ) → IsNullOrBorn store.births later cell → IsNewAnd Any cell
  made_new cell (inl null) = record { new = IsHeldByAll (IsNull null); avoids = null_avoids cell null }
  made_new cell (inr born) = record { new = IsBorn born.object born.held born.since; avoids = born_avoids cell born }

  -- what has a region of the frame that returns
  pub callees_new : (class cell : ℕ) → IsOf store colour (Own (suc depth) class) cell → IsNewAnd Any cell
  callees_new class cell (OfNull null) = record { new = IsHeldByAll (IsNull null); avoids = null_avoids cell null }
  callees_new class cell (OfObject object held (inl fixed)) =
      let kept : IsKept later cell object = extends.kept cell object held in
      record {
        new = IsHeldByAll (IsFixed kept.now kept.is (kept.fixed ∙ fixed));
        avoids = λ item v one h same.
            let found : h.0.object ≡ object = same_Some h.0.object object (sym h.0.held ∙ ap (λ c. object_at store c) same ∙ held) in
            false≢true (sym h.0.not_fixed ∙ ap (λ (o : Object). o.fixed) found ∙ fixed);
      }
  callees_new class cell (OfObject object held (inr own)) =
      let kept : IsKept later cell object = extends.kept cell object held in
      record {
        new = IsCallees kept.now kept.is class (ap colour kept.birth ∙ own);
        avoids = λ item v one h same. h.1 object (ap (λ c. object_at store c) same ∙ held) class own;
      }

  -- what wasn't initialised
  pub built_new : (built : ℕ) (cell : ℕ) → IsUnbuilt known f cell → IsMadeAt store made built cell → IsNewAnd (Others built) cell
  built_new built cell unbuilt is_made = record {
    new = IsBuilt unbuilt;
    avoids = λ item v other h same. other (items_same store made item built (cell_of v) cell h.0 is_made same);
  }
