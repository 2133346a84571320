use Rattle.fm_law_no_fault.proofs.AllRows.{rows_owe}
use Rattle.fm_law_no_fault.proofs.RunsWhole.{kept_while_few, runs_kept}
use Rattle.fm_law_no_fault.proofs.StepKeeps.{step_kept}
use Rattle.fm_law_no_fault.proofs.laws.law_no_fault.Goals as goal

pub returns-clause-steps : goal.returns-clause-steps
returns-clause-steps c = λ p typings linked steps makes cells free choose x whole no_fault few.
    let kept = step_kept p typings whole.sound.typed steps makes cells linked.constants (rows_owe p typings whole.sound.typed steps cells free) choose x
    (record { whole = whole; no_fault = no_fault }) few in
    (kept.whole, kept.no_fault)

pub returns-clause-runs : goal.returns-clause-runs
returns-clause-runs c = λ p typings linked steps makes cells main typed free choose job given budget limit available few k.
    let kept = runs_kept p typings typed steps makes cells linked.constants (rows_owe p typings typed steps cells free) choose main job given budget limit
    available few k in
    (kept.whole, kept.no_fault)

pub returns-clause-while_few : goal.returns-clause-while_few
returns-clause-while_few c = λ p typings linked steps makes cells main typed free choose job given budget limit available k few.
    let kept = kept_while_few p typings typed steps makes cells linked.constants (rows_owe p typings typed steps cells free) choose main job given budget limit
    available k few in
    (kept.whole, kept.no_fault)
