use Rattle.fm_summ.proofs.CallerLemmas.{one_more_list}
use Rattle.fm_rapid.proofs.lists.empty_lists.Goals as goal

pub loop-list-preserved : goal.loop-list-preserved
loop-list-preserved c =
    one_more_list c.loop-list.lists.items c.push.new.self.items c.new.result c.loop-list._list c.loop-list.invariant c.in_ok-push.ensures.items
    c.new.ensures.items
