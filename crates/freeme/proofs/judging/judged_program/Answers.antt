use Rattle.fm_base.proofs.ListFacts.{AllByRecursion-weaker}
use Rattle.fm_code.specs.Profile.{IsWithinLimits, Profile}
use Rattle.std.proofs.lemmas.Result.{err_from_is_err_and}
use Rattle.freeme.proofs.JobLemmas.{judged_as, may_be_analysed, may_open}
use Rattle.freeme.proofs.judging.judged_program.Goals as goal

pub judge_program-requires-clause-within : goal.judge_program-requires-clause-within
judge_program-requires-clause-within c =
    AllByRecursion-weaker Profile IsWithinLimits (λ given accepted. accepted.limits) c.args.classes.now c.requires.accepted

pub returns-in_err-judged : goal.returns-in_err-judged
returns-in_err-judged c =
    let handed = err_from_is_err_and c.from_residual.result c.from_residual.ensures.1 in
    rw (handed.1, handed.2) c.in_err-judged.ensures

pub analysed-requires-clause-analysable : goal.analysed-requires-clause-analysable
analysed-requires-clause-analysable c = may_be_analysed c.args.classes.now c.requires.accepted c.requires.spelled _ c.in_ok-judged.ensures

pub analysed-requires-clause-opening : goal.analysed-requires-clause-opening
analysed-requires-clause-opening c = may_open c.args.classes.now c.requires.accepted c.requires.spelled _ c.in_ok-judged.ensures

pub returns-in_err-analysed : goal.returns-in_err-analysed
returns-in_err-analysed c =
    let handed = err_from_is_err_and c.from_residual-in_err-analysed.result c.from_residual-in_err-analysed.ensures.1 in
    rw (handed.1, handed.2) tt

pub returns : goal.returns
returns c = judged_as c.args.classes.now c.requires.accepted c.requires.spelled _ c.in_ok-judged.ensures c.args.rapid _ c.in_ok-analysed.ensures
