use Rattle.std.proofs.Common.{arith}
use Rattle.fm_summ.proofs.CallsMade.{calls_made, none_known}
use Rattle.fm_summ.specs.declared.calls.Calls.{Calls}
use Rattle.fm_summ.proofs.calls.Calls.of.Goals as goal

pub list_calls-requires-clause-known : goal.list_calls-requires-clause-known
list_calls-requires-clause-known c = none_known c.args.program.now _ _ c.none-known.ensures.lists c.none-known.ensures.calls

pub returns : goal.returns
returns c =
    let known = c.list_calls.new.known in
    let made : Calls = record { known = known; of_methods = c.in_ok-of_methods.of_methods; callers = c.in_ok-callers.callers; leading = c.in_ok-leading.leading } in
    calls_made c.args.program.now c.args.shapes.now made _ _ _ _ c.in_ok-of_methods.ensures
    (let ok = known.lists.ok.0 in omega (arith, c.len.ensures)) c.as_slice.ensures.value c.in_ok-callers.ensures
    (let ok = made.of_methods.ok.0 in omega (arith, c.len-2.ensures)) c.as_slice-2.ensures.value c.in_ok-leading.ensures
