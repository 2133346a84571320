use Rattle.fm_link_members.proofs.AskedLemmas.{one_asked}
use Rattle.fm_link_members.specs.inner.Asked.{asked_at}
use Rattle.fm_link_members.proofs.asked.add_asked.Goals as goal

pub loop-index-preserved : goal.loop-index-preserved
loop-index-preserved c =
    one_asked (asked_at c.args.by_text.now c.args.file.now) c.loop-index.index c.asked_at.result c.args.asked.now.items c.loop-index.asked.items
    c.push_some.new.asked.items c.asked_at.ensures c.loop-index.invariant c.in_ok-push_some.ensures
