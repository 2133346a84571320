use Rattle.std.proofs.Common.{arith}
use Rattle.fm_rapid.proofs.Elements.{pushed_at}
use Rattle.fm_summ.proofs.EndLemmas.{callers_count}
use Rattle.fm_rapid.proofs.lists.push_at.Goals as goal

pub index_mut-requires : goal.index_mut-requires
index_mut-requires c = let ok = c.args.lists.now.ok.0 in omega (arith, c.requires, callers_count c.args.lists.now.items, ok)

pub returns : goal.returns
returns c =
    pushed_at c.args.lists.now.items c.args.number c.args.one c.index_mut.result.now c.push.new.self
    (omega (arith, c.requires, callers_count c.args.lists.now.items)) c.index_mut.ensures.value c.in_ok-push.ensures.items
