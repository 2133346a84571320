use Rattle.std.proofs.Common.{◌-◌, length}
use Rattle.fm_link_supers.proofs.ChainSteps.{chain_end, chain_step}
use Rattle.fm_link_supers.specs.inner.ParentTable.{chain_by}
use Rattle.fm_link_supers.proofs.chains.chain_of.Goals as goal

pub returns-in-None : goal.returns-in-None
returns-in-None c =
    let parents = c.args.parents.now in
    chain_end c.loop.chain.items (chain_by parents c.args.class) (length parents - c.loop.counter) parents c.loop.next c.in-None.is c.loop.invariant

pub loop-preserved : goal.loop-preserved
loop-preserved c =
    let parents = c.args.parents.now in
    chain_step c.loop.chain.items c.push-in-Some.new.self.items (chain_by parents c.args.class) (length parents) c.loop.counter parents c.loop.next c.at-next-in-Some.result c.in-Some.class
    c.loop-test.true c.in-Some.is c.in_ok-push-in-Some.ensures.items c.at-next-in-Some.ensures c.loop.invariant
