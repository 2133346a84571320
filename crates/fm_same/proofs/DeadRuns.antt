-- The law of dead regions along a run from its opening on.
use Rattle.std.proofs.Common.{IsSomeAnd, subst, sym}
use Rattle.fm_cells.proofs.Choices.{lawful_choice-may}
use Rattle.fm_cells.specs.Choices.{lawful}
use Rattle.fm_cells.specs.Stores.{opened}
use Rattle.fm_code.specs.declared.code_array.Code.{Code}
use Rattle.fm_conn.specs.Facts.{AreFacts, Facts}
use Rattle.fm_frames.specs.States.{State}
use Rattle.fm_law_sound.proofs.RunsSound.{runs_sound}
use Rattle.fm_law_sound.specs.Making.{MakesAreResolved}
use Rattle.fm_law_sound.specs.Resolved.{MainIsReady, StepsAreResolved}
use Rattle.fm_law_sound.specs.Sound.{AreTyped}
use Rattle.fm_types.specs.Typed.{IsTypingOf}
use Rattle.fm_world.specs.Programs.{Program}
use Rattle.fm_same.specs.Colours.{Coloured}
use Rattle.fm_same.specs.DeadRegions.{AreSound, InEachRun, states_of}
use Rattle.fm_same.specs.Laws.{DeadRegions, DeadRegionsOfSoundRuns}
use Rattle.fm_same.specs.Targets.{AreCovered}
use Rattle.fm_same.proofs.CoveredFrames.{opening_covered}
use Rattle.fm_same.proofs.Opening.{opened_colour, opening_coloured}
use Rattle.fm_same.proofs.ProgramNumbers.{holds_numbers}
use Rattle.fm_same.proofs.RegionsDie.{dead_later, first_is, states_are_steps}

-- the states of facts are typings
pub facts_type : (p : Program) (facts : Facts) → AreFacts p facts → AreTyped p facts.typing
facts_type p facts exact method code code_is =
    subst (λ o. IsSomeAnd o (λ (c : Code). IsTypingOf p method c (facts.typing method))) (sym code_is) (exact.methods method code code_is).typing

pub dead_of_sound_run : DeadRegionsOfSoundRuns
dead_of_sound_run p facts exact ready no_free choose job budget limit free run covers method depth class birth first count h later le =
    dead_later p facts exact ready no_free (lawful choose) (λ s request. lawful_choice-may s request (choose s request))
    (states_of p choose job (opened budget limit free)) (states_are_steps p choose job (opened budget limit free)) run covers
    (subst (λ (x : State). AreCovered p facts x.frames) (sym (first_is p choose job (opened budget limit free)))
    (opening_covered p facts (lawful choose) job (opened budget limit free)))
    (opened_colour p facts (lawful choose) (λ s request. lawful_choice-may s request (choose s request)) (holds_numbers p ready))
    (subst (λ (x : State). Coloured p facts x
    (opened_colour p facts (lawful choose) (λ s request. lawful_choice-may s request (choose s request)) (holds_numbers p ready)))
    (sym (first_is p choose job (opened budget limit free)))
    (opening_coloured p facts (lawful choose) (λ s request. lawful_choice-may s request (choose s request)) (holds_numbers p ready) job budget limit free))
    method depth class birth first count h later le

-- each state of a run is sound
pub run_is_sound : (p : Program) (facts : Facts) → AreFacts p facts → StepsAreResolved p → MakesAreResolved p → MainIsReady p → InEachRun p (AreSound p facts)
run_is_sound p facts exact steps made main choose job given budget limit free few k =
    runs_sound p facts.typing (facts_type p facts exact) steps made main choose job given budget limit free few k

pub dead_of_run : DeadRegions
dead_of_run p facts exact ready steps made main no_free choose job given budget limit free few covers =
    dead_of_sound_run p facts exact ready no_free choose job budget limit free
    (run_is_sound p facts exact steps made main choose job given budget limit free few) covers
