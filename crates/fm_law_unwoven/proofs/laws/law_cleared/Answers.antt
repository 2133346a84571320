use Rattle.fm_law_unwoven.proofs.ClearedPrograms.{few_inserted, full_cleared, safe_cleared}
use Rattle.fm_law_unwoven.proofs.laws.law_cleared.Goals as goal

pub returns-clause-runs : goal.returns-clause-runs
returns-clause-runs c = safe_cleared c.law_runs.ensures c.law_woven.ensures c.law_sound_steps.ensures c.law_makeable.ensures c.law_main.ensures

pub returns-clause-few : goal.returns-clause-few
returns-clause-few c =
    few_inserted (safe_cleared c.law_runs.ensures c.law_woven.ensures c.law_sound_steps.ensures c.law_makeable.ensures c.law_main.ensures)

pub returns-clause-full : goal.returns-clause-full
returns-clause-full c =
    full_cleared (safe_cleared c.law_runs.ensures c.law_woven.ensures c.law_sound_steps.ensures c.law_makeable.ensures c.law_main.ensures)
