use Rattle.std.proofs.Common.{arith}
use Rattle.fm_summ.proofs.EndLemmas.{callers_count, callers_here}
use Rattle.fm_rapid.proofs.lists.list_at.Goals as goal

pub bounds-lists-number : goal.bounds-lists-number
bounds-lists-number c = omega (arith, c.requires, callers_count c.args.lists.now)

pub returns : goal.returns
returns c =
    callers_here c.args.lists.now c.args.number c.index-lists-number.result c.as_slice.result.now
    (omega (arith, c.requires, callers_count c.args.lists.now)) c.index-lists-number.is c.as_slice.ensures.value
