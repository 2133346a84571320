-- What is known of a state of the first program is known of the next one.
use Rattle.std.proofs.Common.{◌≡◌, ℕ, Bool, true, false, cond, length, None, nat_lt, ap}
use Rattle.fm_cells.specs.Choices.{lawful}
use Rattle.fm_conn.specs.Facts.{Facts}
use Rattle.fm_frames.specs.Acts.{Choose}
use Rattle.fm_frames.specs.States.{State}
use Rattle.fm_frames.specs.Steps.{step}
use Rattle.fm_law_held_objects.specs.Above.{AreSomeOf, StepsKeepForNoneAbove}
use Rattle.fm_law_held_objects.specs.Clean.{cleaned, ColoursAreCleaned}
use Rattle.fm_law_holders.specs.Laws.{StepsKeepMade}
use Rattle.fm_law_holders.specs.Uninitialised.{Made}
use Rattle.fm_law_lockstep.specs.Known.{IsKnown, IsKnownOn, IsLinked, KnownStatesStand, StepsStayKnown}
use Rattle.fm_law_no_fault.specs.Laws.{StepsKeepWhole}
use Rattle.fm_law_reached.specs.Laws.{IsReady, ReachedStatesCover, ReachedStatesStep}
use Rattle.fm_law_no_fault.specs.Whole.{HasNoFault, IsWholeBy}
use Rattle.fm_law_sound.specs.Making.{MakesFew}
use Rattle.fm_same.specs.Advances.{GoesOver, OwesAt}
use Rattle.fm_same.specs.Colours.{Colour}
use Rattle.fm_same.specs.Covering.{CoversAt}
use Rattle.fm_same.specs.Laws.{CallsAreCovered, EffectsOwe, FramesStayCovered, PlacesAreByKinds, ResolvedHoldsNumbers, SoundFramesStand, StepsKeepColours}
use Rattle.fm_same.specs.Regions.{Everywhere, Given, Own, Region, Retired}
use Rattle.fm_same.specs.Standing.{Stand}
use Rattle.fm_same.specs.Targets.{AreCovered}
use Rattle.fm_frames.specs.Steps.{next_effect}
use Rattle.fm_world.specs.Programs.{Program}

-- the laws of one step, each for itself
pub record StepLaws : Type 0 where
  pub numbers : ResolvedHoldsNumbers
  pub stand : SoundFramesStand
  pub covered : CallsAreCovered
  pub stays : FramesStayCovered
  pub places : PlacesAreByKinds
  pub targets : ReachedStatesCover
  pub reached : ReachedStatesStep
  pub owe : EffectsOwe
  pub colours : StepsKeepColours
  pub whole : StepsKeepWhole
  pub made : StepsKeepMade
  pub clean : ColoursAreCleaned
  pub for_none_above : StepsKeepForNoneAbove

-- ---- regions that are given up

-- what is retired stays so where regions are given up, and no region becomes another own one
still_cleaned : (frames : ℕ) (r : Region) → r ≡ Retired → cleaned frames r ≡ Retired
still_cleaned frames r is = ap (cleaned frames) is

was_own : (frames : ℕ) (r : Region) (depth class : ℕ) → cleaned frames r ≡ Own depth class → r ≡ Own depth class
was_own frames Everywhere depth class is = is
was_own frames Given depth class is = is
was_own frames Retired depth class is = is
was_own frames (Own d c) depth class is = by_test (nat_lt d frames) is where
  by_test : (b : Bool) → cond b (Own d c) Retired ≡ Own depth class → Own d c ≡ Own depth class
  by_test true same = same
  by_test false same = absurd (cc)

-- what linking makes sure of, as the laws of reached states use it
pub ready_of : (p : Program) (facts : Facts) → IsLinked p facts → IsReady p
ready_of p facts linked = record { steps = linked.without.steps; makes = linked.without.makes; resolved = linked.resolved }

-- ---- a state that is known

module _ (laws : StepLaws) (p : Program) (facts : Facts) (linked : IsLinked p facts) (x : State) (colour : Colour) (made : Made) (known : IsKnown p facts x colour made) where
  pub stand_here : Stand p facts x.frames
  stand_here = laws.stand p facts linked.exact linked.resolved x known.whole.sound known.covered

  pub covers_here : CoversAt p facts x x.frames
  covers_here =
      laws.covered p facts linked.exact linked.resolved linked.without.no_free x stand_here (laws.targets p linked.resolved facts x known.whole.sound known.reached)
      (laws.places p facts linked.resolved x stand_here)

-- ---- the next one

module _ (laws : StepLaws) (p : Program) (facts : Facts) (linked : IsLinked p facts) (choose : Choose) (x : State) (colour : Colour) (made : Made) (few : MakesFew p x)
    (known : IsKnown p facts x colour made) where
  abbrev next : State
  next = (step p (lawful choose) x).state

  whole : IsWholeBy p facts.typing (step p (lawful choose) x).state × HasNoFault (step p (lawful choose) x).state
  whole =
      laws.whole p facts.typing linked.resolved linked.without.steps linked.without.makes linked.cells linked.without.no_free choose x known.whole known.no_fault few

  -- ---- colours

  here : Stand p facts x.frames
  here = stand_here laws p facts linked x colour made known

  covers : CoversAt p facts x x.frames
  covers = covers_here laws p facts linked x colour made known

  owes : OwesAt p facts x.areas.store (next_effect p x) x.frames
  owes = laws.owe p facts linked.exact (laws.numbers p linked.resolved) x here covers

  covered : AreCovered p facts (step p (lawful choose) x).state.frames
  covered = laws.stays p facts choose x here known.covered owes

  next_stand : Stand p facts (step p (lawful choose) x).state.frames
  next_stand = laws.stand p facts linked.exact linked.resolved next whole.0.sound covered

  over : GoesOver p facts x (step p (lawful choose) x).state colour
  over = laws.colours p facts linked.exact (laws.numbers p linked.resolved) choose x colour known.coloured here owes next_stand

  some_of : AreSomeOf (λ birth. cleaned (length next.frames) (over.other birth)) over.other
  some_of birth depth class is = was_own (length next.frames) (over.other birth) depth class is

  -- ---- the next state

  pub known_on : x.ended ≡ None → next.ended ≡ None → IsKnownOn p facts x (step p (lawful choose) x).state colour made
  known_on going goes =
      let clean = laws.clean p facts next over.other over.coloured in
      record {
        over = over;
        fewer = λ birth. cleaned (length next.frames) (over.other birth);
        stays = clean.2;
        still = λ birth is. still_cleaned (length next.frames) (over.other birth) is;
        known = record {
          coloured = clean.0;
          covered = covered;
          whole = whole.0;
          reached = laws.reached p facts.typing (ready_of p facts linked) (lawful choose) x known.whole.sound known.reached;
          no_fault = whole.1;
          made_at = laws.made p facts.typing linked.resolved linked.without.steps linked.without.makes linked.cells linked.without.no_free choose x made known.whole
              few known.made_at;
          clean = clean.1;
          for_none_above = laws.for_none_above p facts linked.exact linked.resolved choose x colour made going goes here covers known.whole.sound
              whole.0.sound known.made_at known.clean known.for_none_above over (λ birth. cleaned (length next.frames) (over.other birth)) some_of clean.1;
        };
      }

  pub no_fault_next : HasNoFault (step p (lawful choose) x).state
  no_fault_next = whole.1

pub steps_stay_known : StepLaws → StepsStayKnown
steps_stay_known laws p facts linked choose x colour made few known =
    (no_fault_next laws p facts linked choose x colour made few known, known_on laws p facts linked choose x colour made few known)

pub known_states_stand : StepLaws → KnownStatesStand
known_states_stand laws p facts linked x colour made known =
    (stand_here laws p facts linked x colour made known, covers_here laws p facts linked x colour made known)
