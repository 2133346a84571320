use Rattle.std.proofs.Common.{refl}
use Rattle.fm_cells.specs.Stores.{opened}
use Rattle.fm_same.proofs.DeadRuns.{run_is_sound}
use Rattle.fm_same.specs.DeadRegions.{states_of}
use Rattle.fm_world.specs.Programs.{program_of}
use Rattle.fm_law_linked.proofs.law_linked_regions.Goals as goal

pub returns : goal.returns
unfolding program_of
returns c given main spelled supported none few facts exact no_free choose job fits budget limit free room =
    let p = program_of given main in
    let resolved = c.law_resolved.ensures given main spelled none few in
    let steps = c.law_sound_steps.ensures given main spelled supported none few in
    let makes = c.law_makeable.ensures given main spelled none few in
    let ready = c.law_main.ensures given main spelled supported none in
    c.law_dead_regions.ensures p facts exact resolved steps makes ready no_free choose job fits budget limit free room
    (λ k. c.law_targets.ensures p resolved refl facts (states_of p choose job (opened budget limit free) k)
    (run_is_sound p facts exact steps makes ready choose job fits budget limit free room k))
