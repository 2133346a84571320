use Rattle.std.proofs.Common.{arith}
use Rattle.fm_summ.proofs.CodeLemmas.{pushed_at}
use Rattle.fm_summ.proofs.calls.push_at.Goals as goal

pub returns-in_ok-push_once : goal.returns-in_ok-push_once
returns-in_ok-push_once c =
    pushed_at c.args.found.now.items c.args.at c.args.number c.index_mut.result.now c.push_once.new.list (let ok = c.args.found.now.ok.0 in omega (arith, c.if-place-len.true, c.len.ensures))
    c.index_mut.ensures.value c.in_ok-push_once.ensures
