use Rattle.std.proofs.Common.{arith}
use Rattle.fm_summ.proofs.EndLemmas.{callers_here}
use Rattle.fm_summ.proofs.ListLemmas.{no_list}
use Rattle.fm_summ.proofs.target_lists.list_at.Goals as goal

pub returns-then-number-lists : goal.returns-then-number-lists
returns-then-number-lists c =
    callers_here c.args.lists.now c.args.number c.index-lists-number.result c.as_slice.result.now
    (omega (arith, c.if-number-lists.true)) c.index-lists-number.is c.as_slice.ensures.value

pub returns-else-number-lists : goal.returns-else-number-lists
returns-else-number-lists c = no_list c.args.lists.now c.args.number (omega (arith, c.if-number-lists.false))
