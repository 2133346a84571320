use Rattle.std.proofs.Common.{None, arith}
use Rattle.fm_law_sound.specs.Sound.{AreTyped}
use Rattle.fm_same.proofs.DeadRuns.{run_is_sound}
use Rattle.fm_world.specs.Programs.{program_of}
use Rattle.fm_law_linked.proofs.law_unseen_regions.Goals as goal

pub returns : goal.returns
returns c given main spelled supported none few facts exact no_free choose job fits budget free room method depth class birth first count retired later le going =
    let p = program_of given main in
    let typed : AreTyped p facts.typing =
    (run_is_sound p facts exact (c.law_sound_steps.ensures given main spelled supported none few) (c.law_makeable.ensures given main spelled none few)
    (c.law_main.ensures given main spelled supported none) choose job fits budget None free room 0).typed in
    let plain = c.law_without_frees.ensures given main spelled supported none few facts.typing typed no_free in
    c.law_unseen.ensures p facts plain choose job fits budget free room birth later
    (λ k more. c.law_linked_regions.ensures given main spelled supported none few facts exact no_free choose job fits budget None free room
    method depth class birth first count retired k (omega (arith, le, more)))
    going
