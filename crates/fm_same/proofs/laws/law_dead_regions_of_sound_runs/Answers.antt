use Rattle.fm_cells.proofs.Choices.{lawful_choice-may}
use Rattle.fm_cells.specs.Choices.{lawful}
use Rattle.fm_same.proofs.DeadRuns.{dead_of_sound_run}
use Rattle.fm_same.proofs.RegionsDie.{dead_later}
use Rattle.fm_same.proofs.laws.law_dead_regions_of_sound_runs.Goals as goal

pub returns-clause-of_steps : goal.returns-clause-of_steps
returns-clause-of_steps c =
    λ p facts exact ready no_free choose xs steps run covers begins colour coloured method depth class birth first count h later le.
    dead_later p facts exact ready no_free (lawful choose) (λ s request. lawful_choice-may s request (choose s request)) xs steps run covers begins colour coloured method
    depth class birth first count h later le

pub returns-clause-of_runs : goal.returns-clause-of_runs
returns-clause-of_runs c = dead_of_sound_run
