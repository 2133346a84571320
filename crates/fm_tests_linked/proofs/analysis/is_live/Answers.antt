use Rattle.std.proofs.Common.{◌∙◌, sym, ap}
use Rattle.fm_conn.proofs.CodedLemmas.{coded_at}
use Rattle.fm_world.specs.declared.records.MethodInfo.{MethodInfo}
use Rattle.fm_tests_linked.proofs.analysis.is_live.Goals as goal

pub of-requires-clause-code : goal.of-requires-clause-code
of-requires-clause-code c =
    coded_at c.args.program.now c.args.method.0 c.in-Coded.code (ap (λ (m : MethodInfo). m.body) (sym c.method.ensures) ∙ c.in-Coded.is)

pub live-requires : goal.live-requires
live-requires c = c.in_ok-typed.ensures.flow.spelled
