-- A step keeps colours, where its effect owes to the classes what it should.
use Rattle.std.proofs.Common.{◌≡◌, ℕ, ◌+◌, ◌≤◌, max, Bool, true, false, cond, List, [], ◌∷◌, length, Option, Some, None, refl, sym, ◌∙◌, ap, subst, inl, inr, arith, ⊎_elim}
use Rattle.fm_cells.specs.Choices.{MayReuse}
use Rattle.fm_cells.specs.Objects.{Request}
use Rattle.fm_cells.specs.Stores.{live_words, object_at, Store}
use Rattle.fm_conn.specs.Facts.{AreFacts, Facts}
use Rattle.fm_world.specs.Programs.{Program}
use Rattle.fm_frames.specs.Acts.{Choose, Did, FullAt, LostAt, performed, Performed, Sources}
use Rattle.fm_frames.specs.Effects.{Action, Effect}
use Rattle.fm_frames.specs.States.{Areas, Frame, Moved, State}
use Rattle.fm_frames.specs.Steps.{attempted, done_by, finished, halted, input_after, is_deep, is_done, is_over, next_effect, objects_made, step, words_made}
use Rattle.fm_frames.specs.declared.ends.Ended.{Ended}
use Rattle.fm_frames.specs.declared.ends.Ended.TheVariants as end
use Rattle.fm_frames.proofs.StepCounts.{step_is, stepped}
use Rattle.fm_same.specs.Advances.{GoesOver, IsResult, IsStill, OwesAt, point_of}
use Rattle.fm_same.specs.Colours.{AreAreasColoured, AreFramesColoured, Colour, Coloured}
use Rattle.fm_same.specs.Evenness.{HoldsNumbers, Obeys}
use Rattle.fm_same.specs.Regions.{Region, region}
use Rattle.fm_same.specs.Standing.{Stand}
use Rattle.fm_same.proofs.ActsKeep.{acts_go, WentTo}
use Rattle.fm_same.proofs.GoesOnKeep.{areas-agree, frames-agree, frames-later, grown, grown_agrees, grown_new, went_first}
use Rattle.fm_same.proofs.NextKeeps.{next_kept}
use Rattle.fm_same.proofs.ReturnsKeep.{ReturnIsColoured}
use Rattle.fm_same.proofs.SourcesKeep.{acts_have}
use Rattle.fm_same.proofs.StoreChanges.{Agree}
use Rattle.fm_law_sound.specs.Placing.{PlacesAgree}
use Rattle.fm_law_sound.proofs.KindsAgree.{gives_agree}
use Rattle.fm_law_sound.proofs.Following.{continued_is, followed, followed_areas}

-- a state that has the same frames and areas
pub stays_over : (p : Program) (facts : Facts) (x next : State) (colour : Colour) → Coloured p facts x colour → next.frames ≡ x.frames → next.areas ≡ x.areas
    → GoesOver p facts x next colour
stays_over p facts x next colour h same_frames same_areas = record {
  other = colour;
  coloured = record {
    frames = subst (λ (y : Areas). AreFramesColoured p.outline facts y.store colour next.frames) (sym same_areas)
        (subst (λ frames. AreFramesColoured p.outline facts x.areas.store colour frames) (sym same_frames) h.frames);
    areas = subst (λ (y : Areas). AreAreasColoured p.outline colour y) (sym same_areas) h.areas;
  };
  advances = λ birth lt. inl refl;
  lowers = λ birth lt. inl refl;
  still = λ cell object held not_fixed retired.
      ap (λ (y : Areas). object_at y.store cell) same_areas ∙ held;
  births = subst (λ (y : Areas). x.areas.store.births ≤ y.store.births) (sym same_areas) (omega arith);
}

module _ (p : Program) (facts : Facts) (exact : AreFacts p facts) (choose : Choose) (may : (s : Store) (request : Request) → MayReuse s request (choose s request)) (numbers : HoldsNumbers p.outline) (y : State) (f : Frame) (callers : List Frame) (colour : Colour) (coloured : Coloured p facts (record y { frames = f ∷ callers }) colour) (stand : Stand p facts (f ∷ callers)) (e : Effect) (owes : OwesAt p facts y.areas.store e (f ∷ callers)) where
  abbrev before : State
  before = record y { frames = f ∷ callers }

  obeys : Obeys p.outline (point_of p facts f stand.0.at.code) stand.0.at.insn e
  obeys = (owes stand.0.at).0

  agrees : PlacesAgree p.outline y.areas.store f.stack e
  agrees = (owes stand.0.at).1

  abbrev home : Region
  home = region p.outline facts f.method callers obeys.home

  -- the colours with what is born in this step
  abbrev with_born : Colour
  with_born = grown y.areas.store home colour

  agree : Agree y.areas.store colour with_born
  agree = grown_agrees y.areas.store home colour

  frames_born : AreFramesColoured p.outline facts y.areas.store with_born (f ∷ callers)
  frames_born = frames-agree p.outline facts y.areas.store colour with_born (f ∷ callers) coloured.areas.orderly agree coloured.frames

  abbrev result : Performed
  result = performed p.outline choose f.locals f.stack e.actions y.areas []

  went : WentTo p.outline y.areas.store with_born home result
  went =
      acts_go p.outline choose may numbers y.areas.store with_born home (grown_new y.areas.store home colour) f.locals f.stack e.actions y.areas []
      (acts_have p facts f callers stand.0.at y.areas.store with_born frames_born.0 obeys.home e.actions obeys.acts agrees.puts)
      (went_first p.outline with_born home y.areas (areas-agree p.outline y.areas colour with_born agree coloured.areas))

  over : (births : ℕ) (next : State) → y.areas.store.births ≤ births → next.areas.store.births ≡ births → IsStill y.areas.store with_born next.areas.store
      → ReturnIsColoured p facts (f ∷ callers) with_born births next.frames next.areas → GoesOver p facts before next colour
  over births next le same still kept = record {
    other = kept.other;
    coloured = record { frames = kept.frames_coloured; areas = kept.areas_coloured };
    advances = λ birth lt. ⊎_elim
        (λ same. inl (same ∙ agree birth lt))
        (λ result_is. inr (subst (λ r. IsResult facts (f ∷ callers) r) (agree birth lt) result_is))
        (kept.advances birth (omega arith));
    lowers = λ birth lt. ⊎_elim
        (λ same. inl (same ∙ agree birth lt))
        (λ lower. inr lower)
        (kept.lowers birth (omega arith));
    still = λ cell object held not_fixed retired.
        still cell object held not_fixed (agree object.birth (coloured.areas.orderly.born cell object held) ∙ retired);
    births = omega arith;
  }

  finished_over : (price : ℕ) (r : Performed) → WentTo p.outline y.areas.store with_born home r → Stand p facts (finished p price e before r).frames
      → GoesOver p facts before (finished p price e before r) colour
  finished_over price (Did areas made) gone after =
      let x : State = record before {
        areas = areas;
        input = input_after e.reads y.input;
        steps = cond (is_done e.next) (y.steps + price) y.steps;
      } in
      let from : Sources = record { locals = f.locals; stack = f.stack; areas = areas; made = made } in
      let is = continued_is p from e f callers x in
      let same : (followed p from e f callers x e.next).areas ≡ areas = followed_areas p from e f callers x e.next in
      subst (λ (next : State). GoesOver p facts before next colour) (sym is)
      (let stands = subst (λ (next : State). Stand p facts next.frames) is after in
      over areas.store.births (followed p from e f callers x e.next) gone.extends.births (ap (λ (z : Areas). z.store.births) same)
      (subst (λ (z : Areas). IsStill y.areas.store with_born z.store) (sym same) gone.still)
      (next_kept p facts exact f callers stand.0.at stand.1 y.areas.store with_born frames_born obeys.home x refl made gone e (gives_agree p.outline y.areas.store f.stack e agrees) stand.0.depth e.next
      obeys.leads obeys.goes obeys.ends stands))
  finished_over price (FullAt areas needed) gone after =
      over areas.store.births (finished p price e before (FullAt areas needed)) gone.1.births refl gone.2
      (record {
        other = with_born;
        frames_coloured = frames-later p.outline facts y.areas.store areas.store with_born (f ∷ callers) gone.1 frames_born;
        areas_coloured = gone.0;
        advances = λ birth lt. inl refl;
        lowers = λ birth lt. inl refl;
      })
  finished_over price (LostAt v) gone after = stays_over p facts before (finished p price e before (LostAt v)) colour coloured refl refl

  -- ---- the whole step

  either_moved : (b : Bool) (one other : Moved) → (Stand p facts one.state.frames → GoesOver p facts before one.state colour)
      → (Stand p facts other.state.frames → GoesOver p facts before other.state colour) → Stand p facts (cond b one other).state.frames
      → GoesOver p facts before (cond b one other).state colour
  either_moved true one other first second after = first after
  either_moved false one other first second after = second after

  halted_over : (ended : Ended) → Stand p facts (f ∷ callers) → GoesOver p facts before (halted before ended).state colour
  halted_over ended after = stays_over p facts before (halted before ended).state colour coloured refl refl

  pub attempted_over : Stand p facts (attempted p choose before e).state.frames → GoesOver p facts before (attempted p choose before e).state colour
  attempted_over =
      either_moved (is_deep before e.next) (halted before (end.TooDeep (length (f ∷ callers))))
      (cond (is_over p.outline y.areas e.actions) (halted before (end.Exhausted (live_words y.areas.store) (words_made p.outline y.areas e.actions)))
      (done_by p (max 1 (objects_made e.actions)) e before result))
      (halted_over (end.TooDeep (length (f ∷ callers))))
      (either_moved (is_over p.outline y.areas e.actions)
      (halted before (end.Exhausted (live_words y.areas.store) (words_made p.outline y.areas e.actions)))
      (done_by p (max 1 (objects_made e.actions)) e before result)
      (halted_over (end.Exhausted (live_words y.areas.store) (words_made p.outline y.areas e.actions)))
      (finished_over (max 1 (objects_made e.actions)) result went))

-- ---- no frames

either_frameless : (p : Program) (facts : Facts) (x : State) (colour : Colour) (b : Bool) (one other : Moved) → GoesOver p facts x one.state colour
    → GoesOver p facts x other.state colour → GoesOver p facts x (cond b one other).state colour
either_frameless p facts x colour true one other first second = first
either_frameless p facts x colour false one other first second = second

frameless_over : (p : Program) (facts : Facts) (choose : Choose) (y : State) (colour : Colour) → Coloured p facts (record y { frames = [] }) colour
    → (e : Effect) → e.actions ≡ []
    → GoesOver p facts (record y { frames = [] }) (attempted p choose (record y { frames = [] }) e).state colour
unfolding performed
frameless_over p facts choose y colour coloured e none =
    let x : State = record y { frames = [] } in
    either_frameless p facts x colour (is_deep x e.next) (halted x (end.TooDeep 0))
    (cond (is_over p.outline y.areas e.actions) (halted x (end.Exhausted (live_words y.areas.store) (words_made p.outline y.areas e.actions)))
    (done_by p (max 1 (objects_made e.actions)) e x (performed p.outline choose [] [] e.actions y.areas [])))
    (stays_over p facts x (halted x (end.TooDeep 0)).state colour coloured refl refl)
    (either_frameless p facts x colour (is_over p.outline y.areas e.actions)
    (halted x (end.Exhausted (live_words y.areas.store) (words_made p.outline y.areas e.actions)))
    (done_by p (max 1 (objects_made e.actions)) e x (performed p.outline choose [] [] e.actions y.areas []))
    (stays_over p facts x (halted x (end.Exhausted (live_words y.areas.store) (words_made p.outline y.areas e.actions))).state colour coloured refl refl)
    (subst (λ (actions : List Action). GoesOver p facts x
    (done_by p (max 1 (objects_made e.actions)) e x (performed p.outline choose [] [] actions y.areas [])).state colour) (sym none)
    (stays_over p facts x (done_by p (max 1 (objects_made e.actions)) e x (Did y.areas [])).state colour coloured refl refl)))

-- ---- from a state to the next

module _ (p : Program) (facts : Facts) (exact : AreFacts p facts) (choose : Choose) (may : (s : Store) (request : Request) → MayReuse s request (choose s request)) (numbers : HoldsNumbers p.outline) where
  attempt_over : (y : State) (frames : List Frame) (colour : Colour) (e : Effect) → Coloured p facts (record y { frames = frames }) colour
      → Stand p facts frames → OwesAt p facts y.areas.store e frames
      → Stand p facts (attempted p choose (record y { frames = frames }) e).state.frames
      → GoesOver p facts (record y { frames = frames }) (attempted p choose (record y { frames = frames }) e).state colour
  attempt_over y [] colour e coloured stand owes after = frameless_over p facts choose y colour coloured e owes
  attempt_over y (f ∷ callers) colour e coloured stand owes after =
      attempted_over p facts exact choose may numbers y f callers colour coloured stand e owes after

  stepped_over : (x : State) (colour : Colour) (o : Option Ended) → Coloured p facts x colour → Stand p facts x.frames
      → OwesAt p facts x.areas.store (next_effect p x) x.frames → Stand p facts (stepped p choose x o).state.frames
      → GoesOver p facts x (stepped p choose x o).state colour
  stepped_over x colour (Some e) coloured stand owes after = stays_over p facts x x colour coloured refl refl
  stepped_over x colour None coloured stand owes after = attempt_over x x.frames colour (next_effect p x) coloured stand owes after

  -- colours of a state lead to colours of the next
  pub step_over : (x : State) (colour : Colour) → Coloured p facts x colour → Stand p facts x.frames
      → OwesAt p facts x.areas.store (next_effect p x) x.frames → Stand p facts (step p choose x).state.frames
      → GoesOver p facts x (step p choose x).state colour
  step_over x colour coloured stand owes after =
      subst (λ (m : Moved). GoesOver p facts x m.state colour) (sym (step_is p choose x))
      (stepped_over x colour x.ended coloured stand owes (subst (λ (m : Moved). Stand p facts m.state.frames) (step_is p choose x) after))
