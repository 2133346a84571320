use Rattle.std.proofs.Common.{◌≡◌, ◌∙◌, arith, eqb-true, sym}
use Rattle.fm_world.proofs.TypeTests.{tested_same}
use Rattle.fm_summ.proofs.ListLemmas.{alike_calls}
use Rattle.fm_summ.proofs.target_lists.leads_alike.Goals as goal

pub returns-then-eq : goal.returns-then-eq
returns-then-eq c = λ is.
    let number : c.args.one.method.0 ≡ c.args.other.method.0 = omega (arith, c.if-one-other.false) in
    alike_calls c.args.one c.args.other _ number (tested_same c.args.one.named c.args.other.named (sym c.eq.ensures ∙ c.if-eq.true))
    (λ same. eqb-true c.args.one.caller.0 c.args.other.caller.0 same) (sym c.kinds_alike.ensures ∙ is)
