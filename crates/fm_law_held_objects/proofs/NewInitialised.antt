-- The new result of a captured site is initialised: of frames below it has the region of a frame above, and in the frame itself no place, live or not, leads
-- to it.
use Rattle.std.proofs.Common.{◌≡◌, ◌≢◌, ◌≤◌, ℕ, suc, List, [], ◌∷◌, length, Some, refl, sym, ◌∙◌, ap, subst, arith}
use Rattle.std.specs.List.{AllByRecursion}
use Rattle.std.proofs.lemmas.Option.{same_Some}
use Rattle.fm_cells.specs.Choices.{lawful}
use Rattle.fm_cells.specs.Soundness.{IsOrderly}
use Rattle.fm_cells.specs.Stores.{Store}
use Rattle.fm_conn.specs.Facts.{AreFacts, Facts}
use Rattle.fm_conn.specs.Links.{typed_method}
use Rattle.fm_frames.specs.Acts.{cell_of}
use Rattle.fm_frames.specs.Runs.{opening}
use Rattle.fm_frames.specs.States.{Frame, State}
use Rattle.fm_frames.specs.declared.values.Value.{Value}
use Rattle.fm_law_held_objects.proofs.Holdings.{own_of}
use Rattle.fm_law_held_objects.proofs.Initialised.{frames_after}
use Rattle.fm_law_held_objects.specs.Above.{AreForNoneAbove, FrameIsForNoneAbove, NewResultsAreInitialised, OpeningIsForNoneAbove}
use Rattle.fm_law_held_objects.specs.Initialised.{AreNotFor, FrameIsNotFor, IsNotFor}
use Rattle.fm_law_holders.proofs.ApartPlaces.{zip_by_places, zip_found}
use Rattle.fm_law_holders.specs.Holding.{HasOther, HoldsFreeable}
use Rattle.fm_law_holders.specs.Laws.{KeptResultsAreOwn, OpeningIsMade}
use Rattle.fm_law_holders.specs.NewResults.{frame_behind, GoesOnBehind, HasNewResult, IsDone, IsReturnedTo, LocalsAreNoCallees}
use Rattle.fm_law_holders.specs.Uninitialised.{AreMade, AreMadeIn, FrameIsMade, Made, ValueIsMade}
use Rattle.fm_law_no_fault.specs.Whole.{lowest}
use Rattle.fm_law_sound.specs.Sound.{Typings}
use Rattle.fm_place.specs.Sites.{site_class}
use Rattle.fm_same.specs.Colours.{Colour}
use Rattle.fm_same.specs.Regions.{Own}
use Rattle.fm_types.specs.States.{TypeState}
use Rattle.fm_types.specs.Typed.{state_at}
use Rattle.fm_types.specs.declared.slots.Slot.{Slot}
use Rattle.fm_types.specs.declared.slots.Slot.TheVariants as slot
use Rattle.fm_world.specs.Programs.{Program}

-- ---- the opening

none_at : (typings : Typings) (store : Store) (colour : Colour) (frames : List Frame)
    → ((birth : ℕ) → AllByRecursion (FrameIsNotFor typings store birth) frames) → AreForNoneAbove typings store colour frames
none_at typings store colour [] each = tt
none_at typings store colour (f ∷ callers) each =
    ((λ birth above class less own. (each birth).0), none_at typings store colour callers (λ birth. (each birth).1))

-- it holds whatever is beside the births that no place leads elsewhere, so no place is for an object
pub opening_for_none_above : OpeningIsMade → OpeningIsForNoneAbove
opening_for_none_above stay_made p typings choose job store colour sound =
    let x : State = (opening p (lawful choose) job store).state in
    none_at typings x.areas.store colour x.frames
    (λ birth. frames_after typings x.areas.store (λ b. 0) (λ b. 1) birth refl refl x.frames
    (stay_made p typings choose job store (λ b. 0) sound) (stay_made p typings choose job store (λ b. 1) sound))

-- ---- frames below

below_initialised : (typings : Typings) (store : Store) (colour : Colour) (birth above class : ℕ) → colour birth ≡ Own above class → (frames : List Frame)
    → length frames ≤ above → AreForNoneAbove typings store colour frames → AllByRecursion (FrameIsNotFor typings store birth) frames
below_initialised typings store colour birth above class own [] low none = tt
below_initialised typings store colour birth above class own (g ∷ rest) low none =
    (none.0 birth above class (omega (arith, low)) own, below_initialised typings store colour birth above class own rest (omega (arith, low)) none.1)

-- ---- the frame itself

-- of a frame of the state nothing of a frame right above is still to be initialised
no_callees : (typings : Typings) (store : Store) (colour : Colour) (depth : ℕ) (f : Frame) (known : TypeState) → state_at (typings f.method) f.item ≡ Some known
    → FrameIsForNoneAbove typings store colour depth f → LocalsAreNoCallees known f store colour depth
no_callees typings store colour depth f known at none k item v there found object held class own =
    let other : AreNotFor store object.birth known f = none object.birth (suc depth) class (omega arith) own known at in
    let place = zip_found (IsNotFor store object.birth) known.locals f.locals k (slot.Uninit item) other.in_locals there in
    subst (λ w. HasOther store object.birth (cell_of w)) (same_Some place.0 v (sym place.1 ∙ found)) place.2 object held refl

module _ (p : Program) (facts : Facts) (exact : AreFacts p facts) (x next : State) (colour other : Colour) (made : Made) (known : TypeState) (f : Frame) (callers : List Frame) (r : HasNewResult facts x next colour known f callers) (orderly : IsOrderly next.areas.store) (are : AreMade facts.typing next made) (birth : ℕ) (may : HoldsFreeable next.areas.store r.result birth) where
  abbrev now : Frame
  now = frame_behind f (r.result ∷ r.below)

  -- a value that leads elsewhere
  not_for : (s : Slot) (v : Value) → ((item : ℕ) → s ≡ slot.Uninit item → cell_of v ≢ cell_of r.result) → IsNotFor next.areas.store birth s v
  not_for (slot.Uninit item) v apart = λ object held same.
      apart item refl (orderly.births_apart (cell_of v) (cell_of r.result) object may.object held may.held (same ∙ sym may.birth_is))
  not_for slot.Top v apart = tt
  not_for slot.Int v apart = tt
  not_for slot.Long v apart = tt
  not_for slot.Null v apart = tt
  not_for (slot.Ref t) v apart = tt
  not_for slot.UninitThis v apart = tt

  frame_initialised : LocalsAreNoCallees known f x.areas.store colour (length callers) → FrameIsNotFor facts.typing next.areas.store birth now
  frame_initialised none after after_is =
      let is : AreMadeIn next.areas.store made after now =
      (subst (λ frames. AllByRecursion (FrameIsMade facts.typing next.areas.store made) frames) r.frames_are are).0 after after_is in
      record {
        in_locals = zip_by_places (ValueIsMade next.areas.store made) (IsNotFor next.areas.store birth) after.locals now.locals is.in_locals
            (λ k s v there found at. not_for s v (λ item slot_is. r.dead_apart none after after_is k item v (there ∙ ap Some slot_is) found));
        in_stack = zip_by_places (ValueIsMade next.areas.store made) (IsNotFor next.areas.store birth) (lowest (length now.stack) after.stack) now.stack
            is.in_stack
            (λ n s v there found at. not_for s v (λ item slot_is. (r.apart after after_is).in_stack n item v (there ∙ ap Some slot_is) found));
      }

-- the frame is one of the state
frame_of : (typings : Typings) (p : Program) (x : State) (colour : Colour) (f : Frame) (callers : List Frame) → GoesOnBehind p x f callers
    → AreForNoneAbove typings x.areas.store colour x.frames → FrameIsForNoneAbove typings x.areas.store colour (length callers) f
frame_of typings p x colour f callers (IsDone is falls) none =
    (subst (λ frames. AreForNoneAbove typings x.areas.store colour frames) is none).0
frame_of typings p x colour f callers (IsReturnedTo above words is no_start returns) none =
    (subst (λ frames. AreForNoneAbove typings x.areas.store colour frames) is none).1.0

pub new_results_are_initialised : KeptResultsAreOwn → NewResultsAreInitialised
new_results_are_initialised kept_own p facts exact steps x next colour other made known f callers behind at r coloured stand are code code_is site none later_none birth may =
    let class : ℕ = site_class facts (typed_method p facts.typing f.method code) f.item in
    let own : other birth ≡ Own (length callers) class =
    own_of next.areas.store other (length callers) class r.result birth coloured.areas.orderly
    (kept_own p facts exact steps x next colour other known f callers r coloured stand code code_is site) may in
    let below : AreForNoneAbove facts.typing next.areas.store other (frame_behind f (r.result ∷ r.below) ∷ callers) =
    subst (λ frames. AreForNoneAbove facts.typing next.areas.store other frames) r.frames_are later_none in
    let none_here : LocalsAreNoCallees known f x.areas.store colour (length callers) =
    no_callees facts.typing x.areas.store colour (length callers) f known at (frame_of facts.typing p x colour f callers behind none) in
    subst (λ frames. AllByRecursion (FrameIsNotFor facts.typing next.areas.store birth) frames) (sym r.frames_are) (
      frame_initialised p facts exact x next colour other made known f callers r coloured.areas.orderly are birth may none_here,
      below_initialised facts.typing next.areas.store other birth (length callers) class own callers (omega arith) below.1,
    )
