-- What is initialised stays so. An object of whose birth no place is may have been made at any item: by the law of objects that
-- aren't initialised, with item 0 beside its birth and with item 1, a place that led to it would be for both.
use Rattle.std.proofs.Common.{◌≡◌, ◌<◌, ◌==◌, ℕ, true, cond, nat_lt, List, [], ◌∷◌, refl, sym, ◌∙◌, ap, arith}
use Rattle.std.specs.List.{AllByRecursion}
use Rattle.std.proofs.lemmas.Bool.{eq-eqb, ne_eqb}
use Rattle.std.proofs.lemmas.Bool.Decides.{nat_tests}
use Rattle.std.proofs.lemmas.Option.{same_Some}
use Rattle.fm_cells.specs.Choices.{lawful}
use Rattle.fm_cells.specs.Objects.{Object}
use Rattle.fm_cells.specs.Stores.{Store}
use Rattle.fm_types.specs.declared.slots.Slot.{Slot}
use Rattle.fm_types.specs.declared.slots.Slot.TheVariants as slot
use Rattle.fm_frames.specs.States.{Frame, State}
use Rattle.fm_frames.specs.Steps.{step}
use Rattle.fm_frames.specs.declared.values.Value.{Value}
use Rattle.fm_law_held_objects.specs.Initialised.{AreNotFor, FrameIsNotFor, IsNotFor, StepsKeepInitialised}
use Rattle.fm_law_holders.specs.Laws.{StepsKeepMade}
use Rattle.fm_law_holders.specs.Uninitialised.{AreMade, AreMadeIn, FrameIsMade, item_of, Made, made_after, ValueIsMade}
use Rattle.fm_law_no_fault.proofs.ReturnsKeep.{zip_both}
use Rattle.fm_law_sound.specs.Sound.{Typings}

-- this item beside the birth
abbrev made_with : Made → (birth item : ℕ) → Made
made_with made birth item = λ b. cond (b == birth) item (made b)

-- ---- before

module _ (typings : Typings) (store : Store) (made : Made) (birth item : ℕ) where
  value_before : (s : Slot) (v : Value) → ValueIsMade store made s v → IsNotFor store birth s v → ValueIsMade store (made_with made birth item) s v
  value_before (slot.Uninit at) v h other = record {
    object = h.object;
    held = h.held;
    born = h.born;
    made_is = ap (λ b. cond b item (made h.object.birth)) (ne_eqb h.object.birth birth (other h.object h.held)) ∙ h.made_is;
    not_fixed = h.not_fixed;
  }
  value_before slot.Top v h other = tt
  value_before slot.Int v h other = tt
  value_before slot.Long v h other = tt
  value_before slot.Null v h other = tt
  value_before (slot.Ref t) v h other = tt
  value_before slot.UninitThis v h other = tt

  frame_before : (f : Frame) → FrameIsMade typings store made f → FrameIsNotFor typings store birth f
      → FrameIsMade typings store (made_with made birth item) f
  frame_before f h other known at =
      let is : AreMadeIn store made known f = h known at in
      let apart : AreNotFor store birth known f = other known at in
      record {
        in_locals = zip_both (ValueIsMade store made) (IsNotFor store birth) (ValueIsMade store (made_with made birth item)) value_before _ _
            is.in_locals apart.in_locals;
        in_stack = zip_both (ValueIsMade store made) (IsNotFor store birth) (ValueIsMade store (made_with made birth item)) value_before _ _
            is.in_stack apart.in_stack;
      }

  frames_before : (frames : List Frame) → AllByRecursion (FrameIsMade typings store made) frames → AllByRecursion (FrameIsNotFor typings store birth) frames
      → AllByRecursion (FrameIsMade typings store (made_with made birth item)) frames
  frames_before [] h other = tt
  frames_before (f ∷ callers) h other = (frame_before f h.0 other.0, frames_before callers h.1 other.1)

-- ---- after

module _ (typings : Typings) (later : Store) (first second : Made) (birth : ℕ) (zero_is : first birth ≡ 0) (one_is : second birth ≡ 1) where
  value_after : (s : Slot) (v : Value) → ValueIsMade later first s v → ValueIsMade later second s v → IsNotFor later birth s v
  value_after (slot.Uninit item) v one two = λ object held same.
      let of_one : one.object.birth ≡ birth = ap (λ (o : Object). o.birth) (same_Some one.object object (sym one.held ∙ held)) ∙ same in
      let of_two : two.object.birth ≡ birth = ap (λ (o : Object). o.birth) (same_Some two.object object (sym two.held ∙ held)) ∙ same in
      let is_zero : item ≡ 0 = sym one.made_is ∙ ap first of_one ∙ zero_is in
      let is_one : item ≡ 1 = sym two.made_is ∙ ap second of_two ∙ one_is in
      absurd (omega (arith, is_zero, is_one))
  value_after slot.Top v one two = tt
  value_after slot.Int v one two = tt
  value_after slot.Long v one two = tt
  value_after slot.Null v one two = tt
  value_after (slot.Ref t) v one two = tt
  value_after slot.UninitThis v one two = tt

  frame_after : (f : Frame) → FrameIsMade typings later first f → FrameIsMade typings later second f → FrameIsNotFor typings later birth f
  frame_after f one two known at =
      let here : AreMadeIn later first known f = one known at in
      let too : AreMadeIn later second known f = two known at in
      record {
        in_locals = zip_both (ValueIsMade later first) (ValueIsMade later second) (IsNotFor later birth) value_after _ _ here.in_locals too.in_locals;
        in_stack = zip_both (ValueIsMade later first) (ValueIsMade later second) (IsNotFor later birth) value_after _ _ here.in_stack too.in_stack;
      }

  pub frames_after : (frames : List Frame) → AllByRecursion (FrameIsMade typings later first) frames → AllByRecursion (FrameIsMade typings later second) frames
      → AllByRecursion (FrameIsNotFor typings later birth) frames
  frames_after [] one two = tt
  frames_after (f ∷ callers) one two = (frame_after f one.0 two.0, frames_after callers one.1 two.1)

-- ---- a step

-- an old birth keeps its item
kept_item : (x : State) (made : Made) (birth item : ℕ) → birth < x.areas.store.births → made_after x (made_with made birth item) birth ≡ item
kept_item x made birth item old =
    let is_old : nat_lt birth x.areas.store.births ≡ true = grind (arith, nat_tests, old) in
    ap (λ b. cond b (made_with made birth item birth) (item_of x)) is_old
    ∙ ap (λ b. cond b item (made birth)) (eq-eqb birth birth refl)

pub step_initialised : StepsKeepMade → StepsKeepInitialised
step_initialised stay_made p typings linked steps makes cells free choose x made whole few are birth old before =
    let with_item : (item : ℕ) → AreMade typings (step p (lawful choose) x).state (made_after x (made_with made birth item)) =
    λ item. stay_made p typings linked steps makes cells free choose x (made_with made birth item) whole few
    (frames_before typings x.areas.store made birth item x.frames are before) in
    frames_after typings (step p (lawful choose) x).state.areas.store (made_after x (made_with made birth 0)) (made_after x (made_with made birth 1)) birth
    (kept_item x made birth 0 old) (kept_item x made birth 1 old) (step p (lawful choose) x).state.frames (with_item 0) (with_item 1)
