use Rattle.std.proofs.Common.{List, subst}
use Rattle.std.specs.List.{Any}
use Rattle.fm_code.specs.Edges.{Catches}
use Rattle.fm_code.specs.declared.code_array.Handler.{Handler}
use Rattle.fm_flow.proofs.EdgesOfLemmas.{OpensRun-push}
use Rattle.fm_flow.specs.inner.Walks.{AreHandlersAt, IsRisingListOf}
use Rattle.fm_flow.proofs.edge_tables.push_handlers.Goals as goal

pub returns : goal.returns
returns c =
    let list = c.in_ok-handlers.handlers.items in
    let Handlers : List Handler → Type 0 = λ hs. IsRisingListOf (λ x. Any (Catches c.args.j x) hs) list in
    let are : AreHandlersAt c.args.code.now c.args.j list = subst Handlers c.as_slice.ensures c.in_ok-handlers.ensures in
    rw (c.in_ok-push.ensures.pushed, c.as_slice-2.ensures.value) (OpensRun-push c.args.code.now c.args.j c.args.caught.now list are.members)
