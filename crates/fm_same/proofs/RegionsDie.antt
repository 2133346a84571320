-- The law of dead regions, along a run: what a captured class leads to keeps the class's own region
-- while the activation lasts, is retired when the class isn't busy, and is dead from then on.
use Rattle.std.proofs.Common.{◌≡◌, refl, ℕ, zero, suc, ◌+◌, ◌-◌, ◌<◌, ◌≤◌, ◌⊎◌, true, List, [], ◌∷◌, length, sym, ◌∙◌, ap, subst, inl, inr, arith}
use Rattle.fm_cells.specs.Choices.{lawful, MayReuse}
use Rattle.fm_cells.specs.Objects.{Request}
use Rattle.fm_cells.specs.Stores.{Store}
use Rattle.fm_conn.specs.Facts.{AreFacts, Facts}
use Rattle.fm_conn.specs.Links.{typed_method}
use Rattle.fm_conn.specs.Nodes.{Return, TypedMethod}
use Rattle.fm_world.specs.Programs.{Program}
use Rattle.fm_frames.specs.Acts.{Choose}
use Rattle.fm_frames.specs.Runs.{after, Job, opening}
use Rattle.fm_frames.specs.States.{Frame, State}
use Rattle.fm_frames.specs.Steps.{next_effect}
use Rattle.fm_same.specs.Advances.{GoesOver, IsResult, OwesAt}
use Rattle.fm_same.specs.Colours.{Colour, Coloured}
use Rattle.fm_same.specs.DeadRegions.{IsDead, IsMethodAt, IsRetired, AreSound, AreSteps, states_of}
use Rattle.fm_same.specs.Evenness.{HoldsNumbers}
use Rattle.fm_place.specs.Sites.{is_captured}
use Rattle.fm_same.specs.Regions.{Own, Region, Retired}
use Rattle.fm_same.specs.Resolved.{CallsNoFreeMe, IsResolved}
use Rattle.fm_same.specs.Standing.{Stand}
use Rattle.fm_same.specs.Targets.{AreCovered, Covers}
use Rattle.fm_same.proofs.CallsCovered.{state_covers}
use Rattle.fm_same.proofs.CoveredFrames.{step_covered}
use Rattle.fm_same.proofs.PlacesSound.{places_agree}
use Rattle.fm_same.proofs.SoundFrames.{stand_soundly}
use Rattle.fm_same.proofs.ProgramNumbers.{holds_numbers}
use Rattle.fm_same.proofs.CapturedClasses.{captured_holds}
use Rattle.fm_same.proofs.Retiring.{dead_if_retired, held_at_has, led_has, method_there, retire, retired_on}
use Rattle.fm_same.proofs.ReturnsKeep.{mapped, moved, moved_own}
use Rattle.fm_same.proofs.Starting.{state_owes}
use Rattle.fm_same.proofs.StepKeeps.{step_over}

-- the own region of a captured class stays while the activation does
own_on : (facts : Facts) (x : TypedMethod) (frames : List Frame) (depth class : ℕ) (before after : Region) → is_captured facts x class ≡ true
    → IsMethodAt x.number depth frames → before ≡ Own depth class → (after ≡ before) ⊎ IsResult facts frames before → after ≡ Own depth class
own_on facts x frames depth class before after captured at own (inl same) = same ∙ own
own_on facts x [] depth class before after captured at own (inr result) = absurd result
own_on facts x (f ∷ callers) depth class before after captured at own (inr result) =
    let both : Own (length callers) (facts.class f.method Return) ≡ Own depth class = sym result ∙ own in
    let level : length callers ≡ depth = cc in
    let returned : facts.class f.method Return ≡ class = cc in
    absurd
    ((captured_holds facts x class captured).not_result
    (ap (λ m. facts.class m Return) (sym (method_there x.number depth f callers at level)) ∙ returned))

module _ (p : Program) (facts : Facts) (exact : AreFacts p facts) (ready : IsResolved p) (no_free : CallsNoFreeMe p) (choose : Choose) (may : (s : Store) (request : Request) → MayReuse s request (choose s request)) (xs : ℕ → State) (steps : AreSteps p choose xs) (run : AreSound p facts xs) (covers : (k : ℕ) → Covers p facts (xs k)) (begins : AreCovered p facts (xs 0).frames) where
  numbers : HoldsNumbers p.outline
  numbers = holds_numbers p ready

  stand_by : (k : ℕ) → AreCovered p facts (xs k).frames → Stand p facts (xs k).frames
  stand_by k covered = stand_soundly p facts exact ready (xs k).frames (run k).frames covered

  owes_by : (k : ℕ) → Stand p facts (xs k).frames → OwesAt p facts (xs k).areas.store (next_effect p (xs k)) (xs k).frames
  owes_by k stand =
      state_owes p facts exact numbers (xs k) stand (state_covers p facts exact ready no_free (xs k) stand (covers k) (places_agree p facts ready (xs k) stand))

  -- called methods stay among the targets
  covered_at : (k : ℕ) → AreCovered p facts (xs k).frames
  covered_at zero = begins
  covered_at (suc k) =
      let before : AreCovered p facts (xs k).frames = covered_at k in
      let stand : Stand p facts (xs k).frames = stand_by k before in
      subst (λ (next : State). AreCovered p facts next.frames) (sym (steps k)) (step_covered p facts choose (xs k) stand before (owes_by k stand))

  stand_at : (k : ℕ) → Stand p facts (xs k).frames
  stand_at k = stand_by k (covered_at k)

  over_at : (k : ℕ) (colour : Colour) → Coloured p facts (xs k) colour → GoesOver p facts (xs k) (xs (suc k)) colour
  over_at k colour h =
      subst (λ next. GoesOver p facts (xs k) next colour) (sym (steps k))
      (step_over p facts exact choose may numbers (xs k) colour h (stand_at k) (owes_by k (stand_at k))
      (subst (λ (next : State). Stand p facts next.frames) (steps k) (stand_at (suc k))))

  -- each state has colours
  colours_at : (k : ℕ) (colour : Colour) → Coloured p facts (xs 0) colour → (other : Colour) × Coloured p facts (xs k) other
  colours_at zero colour h = (colour, h)
  colours_at (suc k) colour h =
      let before : (other : Colour) × Coloured p facts (xs k) other = colours_at k colour h in
      let over : GoesOver p facts (xs k) (xs (suc k)) before.0 = over_at k before.0 before.1 in (over.other, over.coloured)

  -- colours of a state by which an object that was born has the region
  record HasAt (k birth : ℕ) (r : Region) : Type 0 where
    colour : Colour
    coloured : Coloured p facts (xs k) colour
    born : birth < (xs k).areas.store.births
    has : colour birth ≡ r

  retired_step : (k birth : ℕ) → HasAt k birth Retired → HasAt (suc k) birth Retired
  retired_step k birth h =
      let over : GoesOver p facts (xs k) (xs (suc k)) h.colour = over_at k h.colour h.coloured in
      let more = over.births in
      let lt = h.born in
      record {
        colour = over.other;
        coloured = over.coloured;
        born = omega arith;
        has = retired_on facts (xs k).frames h.colour over.other birth h.has (over.advances birth h.born);
      }

  retired_later : (j k birth : ℕ) → HasAt k birth Retired → HasAt (j + k) birth Retired
  retired_later zero k birth h = let same : k ≡ 0 + k = omega arith in subst (λ i. HasAt i birth Retired) same h
  retired_later (suc j) k birth h =
      let same : suc (j + k) ≡ suc j + k = omega arith in
      subst (λ i. HasAt i birth Retired) same (retired_step (j + k) birth (retired_later j k birth h))

  module _ (colour : Colour) (first_colours : Coloured p facts (xs 0) colour) (method depth class birth first count : ℕ) (h : IsRetired p facts xs method depth class birth first count) where
    own_first : HasAt first birth (Own depth class)
    own_first =
        let here : (other : Colour) × Coloured p facts (xs first) other = colours_at first colour first_colours in
        let index : first + 0 ≡ first = omega arith in
        let stands : IsMethodAt method depth (xs first).frames =
        subst (λ i. IsMethodAt method depth (xs i).frames) index (h.stands 0 (omega arith)) in
        record {
          colour = here.0;
          coloured = here.1;
          born = subst (λ b. b < (xs first).areas.store.births) h.leads.is (here.1.areas.orderly.born h.leads.last h.leads.object h.leads.held);
          has = led_has p.outline here.0 (xs first).areas (Own depth class) h.from birth here.1.areas
              (held_at_has facts (typed_method p facts.typing method h.code) (xs first).areas.store here.0 depth class (xs first).frames h.from here.1.frames
              h.captured stands h.held)
              h.leads;
        }

    own_step : (i : ℕ) → i ≤ count → HasAt (first + i) birth (Own depth class) → HasAt (suc (first + i)) birth (Own depth class)
    own_step i le at =
        let over : GoesOver p facts (xs (first + i)) (xs (suc (first + i))) at.colour = over_at (first + i) at.colour at.coloured in
        let more = over.births in
        let lt = at.born in
        record {
          colour = over.other;
          coloured = over.coloured;
          born = omega arith;
          has = own_on facts (typed_method p facts.typing method h.code) (xs (first + i)).frames depth class (at.colour birth) (over.other birth) h.captured
              (h.stands i le) at.has (over.advances birth at.born);
        }

    own_at : (i : ℕ) → i ≤ suc count → HasAt (first + i) birth (Own depth class)
    own_at zero le = let index : first ≡ first + 0 = omega arith in subst (λ k. HasAt k birth (Own depth class)) index own_first
    own_at (suc i) le =
        let index : suc (first + i) ≡ first + suc i = omega arith in
        subst (λ k. HasAt k birth (Own depth class)) index (own_step i (omega arith) (own_at i (omega arith)))

    retired_first : HasAt (first + suc count) birth Retired
    retired_first =
        let at : HasAt (first + suc count) birth (Own depth class) = own_at (suc count) (omega arith) in
        record {
          colour = mapped (moved depth class Retired) at.colour;
          coloured = retire p facts (xs (first + suc count)) at.colour method depth class at.coloured (stand_at (first + suc count)) h.over;
          born = at.born;
          has = ap (moved depth class Retired) at.has ∙ moved_own depth class Retired;
        }

    pub dead_later : (later : ℕ) → first + suc count ≤ later → IsDead p facts birth (xs later) (xs (suc later))
    dead_later later le =
        let index : (later - (first + suc count)) + (first + suc count) ≡ later = omega arith in
        let at : HasAt later birth Retired =
        subst (λ k. HasAt k birth Retired) index (retired_later (later - (first + suc count)) (first + suc count) birth retired_first) in
        dead_if_retired p facts (xs later) (xs (suc later)) at.colour birth at.coloured at.has (over_at later at.colour at.coloured)

-- the states of a run are steps
pub states_are_steps : (p : Program) (choose : Choose) (job : Job) (store : Store) → AreSteps p (lawful choose) (states_of p choose job store)
unfolding after
states_are_steps p choose job store k = refl

pub first_is : (p : Program) (choose : Choose) (job : Job) (store : Store) → states_of p choose job store 0 ≡ (opening p (lawful choose) job store).state
unfolding after
first_is p choose job store = refl
