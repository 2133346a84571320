-- A step keeps it that what frames still have to initialise has no own region of a frame above. What a frame that waits leads to was born before the step,
-- and its region was one of a frame above before the step, if it is one after it: what was recoloured had a region of the frame that returns.
use Rattle.std.proofs.Common.{◌≡◌, ◌<◌, ◌≤◌, ℕ, suc, None, List, [], ◌∷◌, length, refl, sym, ◌∙◌, ap, subst, arith, ⊎_elim}
use Rattle.std.proofs.lemmas.Bool.{cases_lt}
use Rattle.std.proofs.lemmas.Option.{same_Some}
use Rattle.fm_cells.specs.Choices.{lawful}
use Rattle.fm_cells.specs.Objects.{Object}
use Rattle.fm_cells.specs.Stores.{Store}
use Rattle.fm_conn.specs.Facts.{AreFacts, Facts}
use Rattle.fm_conn.specs.Nodes.{Return}
use Rattle.fm_frames.specs.Acts.{cell_of, Choose}
use Rattle.fm_frames.specs.Effects.{Effect}
use Rattle.fm_frames.specs.States.{Areas, Frame, State}
use Rattle.fm_frames.specs.Steps.{next_effect, step}
use Rattle.fm_frames.specs.declared.values.Value.{Value}
use Rattle.fm_types.specs.declared.slots.Slot.{Slot}
use Rattle.fm_types.specs.declared.slots.Slot.TheVariants as slot
use Rattle.fm_types.proofs.Zips.{zip-implied}
use Rattle.fm_law_held_objects.proofs.FramesUnder.{AllUnder, AreLeft, next_left, under_both, under_waiting}
use Rattle.fm_law_held_objects.specs.Above.{AreForNoneAbove, AreSomeOf, FewerAreForNoneAbove, StepsKeepForNoneAbove}
use Rattle.fm_law_held_objects.specs.Clean.{IsClean}
use Rattle.fm_law_held_objects.specs.Initialised.{AreNotFor, FrameIsNotFor, IsNotFor}
use Rattle.fm_law_holders.proofs.StepsBehind.{done_areas, follows, IsDoneTo, step_done}
use Rattle.fm_law_holders.proofs.StepsWent.{step_went}
use Rattle.fm_law_holders.specs.NewResults.{KeepsObjects}
use Rattle.fm_law_holders.specs.Uninitialised.{AreMade, AreMadeIn, FrameIsMade, Made, ValueIsMade}
use Rattle.fm_law_no_fault.proofs.ReturnsKeep.{zip_both}
use Rattle.fm_law_sound.proofs.Following.{followed}
use Rattle.fm_law_sound.specs.Leading.{sources_of}
use Rattle.fm_law_sound.specs.Sound.{IsSoundBy, Stand as SoundlyStand, Typings}
use Rattle.fm_same.proofs.ProgramNumbers.{holds_numbers}
use Rattle.fm_same.specs.Advances.{GoesOver, IsLower, IsResult}
use Rattle.fm_same.specs.Colours.{Colour}
use Rattle.fm_same.specs.Covering.{CoversAt}
use Rattle.fm_same.specs.Regions.{Own}
use Rattle.fm_same.specs.Resolved.{IsResolved}
use Rattle.fm_same.specs.Standing.{Stand}
use Rattle.fm_world.specs.Programs.{Program}

-- ---- one frame

module _ (typings : Typings) (store : Store) (made : Made) (birth : ℕ) where
  -- what is born later isn't what a place leads to
  value_before : store.births ≤ birth → (s : Slot) (v : Value) → ValueIsMade store made s v → IsNotFor store birth s v
  value_before since (slot.Uninit item) v h = λ object held same.
      let is : h.object ≡ object = same_Some h.object object (sym h.held ∙ held) in
      let births : h.object.birth ≡ object.birth = ap (λ (o : Object). o.birth) is in
      let old = h.born in
      absurd (omega (arith, since, births, old, same))
  value_before since slot.Top v h = tt
  value_before since slot.Int v h = tt
  value_before since slot.Long v h = tt
  value_before since slot.Null v h = tt
  value_before since (slot.Ref t) v h = tt
  value_before since slot.UninitThis v h = tt

  frame_before : store.births ≤ birth → (f : Frame) → FrameIsMade typings store made f → FrameIsNotFor typings store birth f
  frame_before since f h known at =
      let is : AreMadeIn store made known f = h known at in
      record {
        in_locals = zip-implied (ValueIsMade store made) (IsNotFor store birth) (value_before since) _ _ is.in_locals;
        in_stack = zip-implied (ValueIsMade store made) (IsNotFor store birth) (value_before since) _ _ is.in_stack;
      }

  module _ (later : Store) (kept : KeepsObjects store later) where
    value_later : (s : Slot) (v : Value) → ValueIsMade store made s v → IsNotFor store birth s v → IsNotFor later birth s v
    value_later (slot.Uninit item) v h other = λ object held same.
        let now = kept (cell_of v) h.object h.held in
        let is : now.0 ≡ object = same_Some now.0 object (sym now.1 ∙ held) in
        other h.object h.held (sym now.2 ∙ ap (λ (o : Object). o.birth) is ∙ same)
    value_later slot.Top v h other = tt
    value_later slot.Int v h other = tt
    value_later slot.Long v h other = tt
    value_later slot.Null v h other = tt
    value_later (slot.Ref t) v h other = tt
    value_later slot.UninitThis v h other = tt

    frame_later : (f : Frame) → FrameIsMade typings store made f → FrameIsNotFor typings store birth f → FrameIsNotFor typings later birth f
    frame_later f h other known at =
        let is : AreMadeIn store made known f = h known at in
        let apart : AreNotFor store birth known f = other known at in
        record {
          in_locals = zip_both (ValueIsMade store made) (IsNotFor store birth) (IsNotFor later birth) value_later _ _ is.in_locals apart.in_locals;
          in_stack = zip_both (ValueIsMade store made) (IsNotFor store birth) (IsNotFor later birth) value_later _ _ is.in_stack apart.in_stack;
        }

-- ---- all frames

module _ (typings : Typings) (store : Store) where
  -- for what has a region of a frame that is no lower
  under : (colour : Colour) (birth depth above class : ℕ) → depth ≤ above → colour birth ≡ Own above class → (frames : List Frame)
      → AreForNoneAbove typings store colour frames → AllUnder (FrameIsNotFor typings store birth) depth frames
  under colour birth depth above class high own [] none = tt
  under colour birth depth above class high own (f ∷ callers) none =
      ((λ less. none.0 birth above class (omega (arith, high, less)) own), under colour birth depth above class high own callers none.1)

  none_above : (colour : Colour) (frames : List Frame)
      → ((birth above class : ℕ) → colour birth ≡ Own above class → AllUnder (FrameIsNotFor typings store birth) above frames)
      → AreForNoneAbove typings store colour frames
  none_above colour [] each = tt
  none_above colour (f ∷ callers) each =
      ((λ birth above class less own. (each birth above class own).0 less), none_above colour callers (λ birth above class own. (each birth above class own).1))

  fewer_above : (colour fewer : Colour) (frames : List Frame) → AreSomeOf fewer colour → AreForNoneAbove typings store colour frames
      → AreForNoneAbove typings store fewer frames
  fewer_above colour fewer [] some none = tt
  fewer_above colour fewer (f ∷ callers) some none =
      ((λ birth above class less own. none.0 birth above class less (some birth above class own)), fewer_above colour fewer callers some none.1)

pub fewer_are_for_none_above : FewerAreForNoneAbove
fewer_are_for_none_above typings store colour fewer frames some none = fewer_above typings store colour fewer frames some none

-- ---- a step

-- where the region was before the step: of a frame that isn't lower
record WasAbove (colour : Colour) (birth depth : ℕ) : Type 0 where
  high : ℕ
  class : ℕ
  no_lower : depth ≤ high
  own : colour birth ≡ Own high class

module _ (p : Program) (facts : Facts) (exact : AreFacts p facts) (ready : IsResolved p) (choose : Choose) (z : State) (f : Frame) (callers : List Frame) (colour : Colour) (made : Made) (going : z.ended ≡ None) (goes : (step p (lawful choose) (record z { frames = f ∷ callers })).state.ended ≡ None) (stand : Stand p facts (f ∷ callers)) (covers : CoversAt p facts (record z { frames = f ∷ callers }) (f ∷ callers)) (sound : IsSoundBy p facts.typing (record z { frames = f ∷ callers })) (later_sound : IsSoundBy p facts.typing (step p (lawful choose) (record z { frames = f ∷ callers })).state) (are : AreMade facts.typing (record z { frames = f ∷ callers }) made) (clean : IsClean (suc (length callers)) colour) (none : AreForNoneAbove facts.typing z.areas.store colour (f ∷ callers)) (over : GoesOver p facts (record z { frames = f ∷ callers }) (step p (lawful choose) (record z { frames = f ∷ callers })).state colour) (fewer : Colour) (some : AreSomeOf fewer over.other) (later_clean : IsClean (length (step p (lawful choose) (record z { frames = f ∷ callers })).state.frames) fewer) where
  abbrev y : State
  y = record z { frames = f ∷ callers }

  abbrev s : State
  s = (step p (lawful choose) y).state

  abbrev e : Effect
  e = next_effect p y

  done : IsDoneTo p (lawful choose) z f callers s
  done = step_done p (lawful choose) z f callers going goes

  -- objects stay
  kept : KeepsObjects z.areas.store s.areas.store
  kept =
      let went = step_went p facts exact (holds_numbers p ready) choose z f callers stand covers s done in
      subst (λ (a : Areas). KeepsObjects z.areas.store a.store) (sym (done_areas p (lawful choose) z f callers s done))
      (λ cell object held. let now = went.extends.kept cell object held in (now.now, now.is, now.birth, now.fixed, now.chain))

  abbrev acted : State
  acted = record y { areas = done.areas; input = done.input; steps = done.steps }

  abbrev next : State
  next = followed p (sources_of f done.areas done.made) e f callers acted e.next

  same : s ≡ next
  same = follows p (lawful choose) z f callers s done

  -- what waits then
  left : (P : Frame → Type 0) (depth : ℕ) → depth ≤ length callers → AllUnder P depth (f ∷ callers)
      → AreLeft p facts.typing sound.typed z.areas.store made P depth s.frames
  left P depth high below =
      subst (λ (t : State). AreLeft p facts.typing sound.typed z.areas.store made P depth t.frames) (sym same)
      (next_left p facts.typing sound.typed z.areas.store made P depth (sources_of f done.areas done.made) e f callers acted refl sound.frames.0 high are below
      e.next (subst (λ (t : State). SoundlyStand p facts.typing t.frames) same later_sound.frames))

  -- of what was born before
  region_before : (birth depth class : ℕ) → birth < z.areas.store.births → over.other birth ≡ Own depth class
      → (depth ≤ length callers) × WasAbove colour birth depth
  region_before birth depth class old own = (no_higher, was) where
    no_higher : depth ≤ length callers
    no_higher = ⊎_elim
        (λ same_region. let there = clean birth depth class (sym same_region ∙ own) in omega (arith, there))
        (λ (lower : IsLower (f ∷ callers) (over.other birth)). let there = lower depth class own in omega (arith, there))
        (over.lowers birth old)

    was : WasAbove colour birth depth
    was = ⊎_elim
        (λ same_region. record { high = depth; class = class; no_lower = omega arith; own = sym same_region ∙ own })
        (λ (result : IsResult facts (f ∷ callers) (colour birth)).
        record { high = length callers; class = facts.class f.method Return; no_lower = no_higher; own = result })
        (over.advances birth old)

  old_under : (birth depth class : ℕ) → birth < z.areas.store.births → over.other birth ≡ Own depth class → depth < length s.frames
      → AllUnder (FrameIsNotFor facts.typing s.areas.store birth) depth s.frames
  old_under birth depth class old own there =
      let before = region_before birth depth class old own in
      let rest = left (FrameIsNotFor facts.typing z.areas.store birth) depth before.0
      (under facts.typing z.areas.store colour birth depth before.1.high before.1.class before.1.no_lower before.1.own (f ∷ callers) none) in
      under_both (FrameIsMade facts.typing z.areas.store made) (FrameIsNotFor facts.typing z.areas.store birth)
      (FrameIsNotFor facts.typing s.areas.store birth) depth s.frames there
      (λ g is other. frame_later facts.typing z.areas.store made birth s.areas.store kept g is other) rest.wait (rest.under there)

  -- and of what was born since
  nothing_under : (frames : List Frame) → AllUnder (FrameIsNotFor facts.typing z.areas.store 0) 0 frames
  nothing_under [] = tt
  nothing_under (g ∷ rest) = ((λ less. absurd (omega (arith, less))), nothing_under rest)

  new_under : (birth depth : ℕ) → z.areas.store.births ≤ birth → depth < length s.frames
      → AllUnder (FrameIsNotFor facts.typing s.areas.store birth) depth s.frames
  new_under birth depth since there =
      under_waiting (FrameIsMade facts.typing z.areas.store made) (FrameIsNotFor facts.typing s.areas.store birth) depth s.frames there
      (λ g is. frame_later facts.typing z.areas.store made birth s.areas.store kept g is (frame_before facts.typing z.areas.store made birth since g is))
      (left (FrameIsNotFor facts.typing z.areas.store 0) 0 (omega arith) (nothing_under (f ∷ callers))).wait

  pub step_above : AreForNoneAbove facts.typing s.areas.store fewer s.frames
  step_above =
      none_above facts.typing s.areas.store fewer s.frames
      (λ birth above class own. ⊎_elim
      (λ old. old_under birth above class old (some birth above class own) (later_clean birth above class own))
      (λ since. new_under birth above since (later_clean birth above class own))
      (cases_lt birth z.areas.store.births))

-- by the frames of the state
by_frames : (p : Program) (facts : Facts) → AreFacts p facts → IsResolved p → (choose : Choose) (z : State) (frames : List Frame) (colour : Colour) (made : Made)
    → z.ended ≡ None → (step p (lawful choose) (record z { frames = frames })).state.ended ≡ None → Stand p facts frames
    → CoversAt p facts (record z { frames = frames }) frames → IsSoundBy p facts.typing (record z { frames = frames })
    → IsSoundBy p facts.typing (step p (lawful choose) (record z { frames = frames })).state → AreMade facts.typing (record z { frames = frames }) made
    → IsClean (length frames) colour → AreForNoneAbove facts.typing z.areas.store colour frames
    → (over : GoesOver p facts (record z { frames = frames }) (step p (lawful choose) (record z { frames = frames })).state colour) (fewer : Colour)
    → AreSomeOf fewer over.other → IsClean (length (step p (lawful choose) (record z { frames = frames })).state.frames) fewer
    → AreForNoneAbove facts.typing (step p (lawful choose) (record z { frames = frames })).state.areas.store fewer
    (step p (lawful choose) (record z { frames = frames })).state.frames
by_frames p facts exact ready choose z [] colour made going goes stand covers sound later_sound are clean none over fewer some later_clean =
    let running = sound.running going in absurd (omega (arith, running))
by_frames p facts exact ready choose z (f ∷ callers) colour made going goes stand covers sound later_sound are clean none over fewer some later_clean =
    step_above p facts exact ready choose z f callers colour made going goes stand covers sound later_sound are clean none over fewer some later_clean

pub steps_keep_for_none_above : StepsKeepForNoneAbove
steps_keep_for_none_above p facts exact ready choose x colour made going goes stand covers sound later_sound are clean none over fewer some later_clean =
    by_frames p facts exact ready choose x x.frames colour made going goes stand covers sound later_sound are clean none over fewer some later_clean
