use Rattle.std.proofs.Common.{◌≡◌, refl, sym, subst}
use Rattle.std.proofs.lemmas.Result.{IfOk-weaker}
use Rattle.fm_code.proofs.EdgesLemmas.{falling_meets_rules}
use Rattle.fm_code.specs.Edges.{HasNoLeftOut, MeetsCodeRules}
use Rattle.fm_code.specs.EdgesExample.{falling_code}
use Rattle.fm_code.specs.declared.code_array.Code.{Code}
use Rattle.fm_tests_linked.proofs.flows.nop.Goals as goal

pub returns-clause-rules : goal.returns-clause-rules
returns-clause-rules c =
    let Meets : Code → Type 0 = λ code. MeetsCodeRules code × HasNoLeftOut code in
    IfOk-weaker c.written_nop.result (λ code. code ≡ falling_code) Meets (λ code same. subst Meets (sym same) (falling_meets_rules, (refl, tt))) c.written_nop.ensures
