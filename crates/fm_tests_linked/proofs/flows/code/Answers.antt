use Rattle.std.proofs.Common.{◌≡◌, refl, sym, subst}
use Rattle.std.proofs.lemmas.Result.{IfOk-weaker}
use Rattle.fm_code.proofs.EdgesLemmas.{example_meets_rules}
use Rattle.fm_code.specs.Edges.{HasNoLeftOut, MeetsCodeRules}
use Rattle.fm_code.specs.EdgesExample.{example_code}
use Rattle.fm_code.specs.declared.code_array.Code.{Code}
use Rattle.fm_tests_linked.proofs.flows.code.Goals as goal

pub returns-clause-rules : goal.returns-clause-rules
returns-clause-rules c =
    let Meets : Code → Type 0 = λ code. MeetsCodeRules code × HasNoLeftOut code in
    IfOk-weaker c.written_code.result (λ code. code ≡ example_code) Meets (λ code same. subst Meets (sym same) (example_meets_rules, (refl, (refl, (refl, (refl, (refl, (refl, (refl, (refl, (refl, (refl, (refl, (refl, tt)))))))))))))) c.written_code.ensures
