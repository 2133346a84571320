use Rattle.std.proofs.Common.{rules}
use Rattle.fm_summ.proofs.CallerLemmas.{lists_made, one_more_list}
use Rattle.fm_summ.proofs.calls.listed_in.Goals as goal

pub loop-number-preserved : goal.loop-number-preserved
loop-number-preserved c = one_more_list c.loop-number.found.items c.push.new.self.items c.new.result c.loop-number._number c.loop-number.invariant c.in_ok-push.ensures.items c.new.ensures.items

pub returns : goal.returns
returns c = lists_made c.args.count c.args.lists.now c.loop-number.found.items c.push_all.new.found.items c.loop-number._number c.loop-number.invariant (search rules) c.in_ok-push_all.ensures
