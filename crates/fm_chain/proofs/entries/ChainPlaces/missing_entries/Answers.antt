use Rattle.fm_chain.proofs.EntriesLemmas.{all_placed}
use Rattle.fm_chain.proofs.entries.ChainPlaces.missing_entries.Goals as goal

pub returns-clause-calls : goal.returns-clause-calls
returns-clause-calls c =
    (all_placed c.args.pool.now.entries c.args.self _ _ c.in_ok-free.free.class c.in_ok-free.free.method c.in_ok-free.free.descriptor c.in_ok-link.link.0 c.in_ok-link.link.1
    c.in_ok-free_chain.free_chain.0 c.in_ok-free_chain.free_chain.1 _ _ _
    c.requires.found c.in_ok-free.ensures.count c.in_ok-link.ensures.count c.in_ok-free.ensures.placed c.in_ok-free.ensures.class c.in_ok-free.ensures.descriptor
    c.in_ok-link.ensures.placed (rw c.with_descriptor.ensures at c.in_ok-free_chain.ensures.placed)).calls

pub returns-clause-missing : goal.returns-clause-missing
returns-clause-missing c =
    (all_placed c.args.pool.now.entries c.args.self _ _ c.in_ok-free.free.class c.in_ok-free.free.method c.in_ok-free.free.descriptor c.in_ok-link.link.0 c.in_ok-link.link.1
    c.in_ok-free_chain.free_chain.0 c.in_ok-free_chain.free_chain.1 _ _ _
    c.requires.found c.in_ok-free.ensures.count c.in_ok-link.ensures.count c.in_ok-free.ensures.placed c.in_ok-free.ensures.class c.in_ok-free.ensures.descriptor
    c.in_ok-link.ensures.placed (rw c.with_descriptor.ensures at c.in_ok-free_chain.ensures.placed)).missing_is
