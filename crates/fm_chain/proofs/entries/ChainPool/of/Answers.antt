use Rattle.std.proofs.Common.{arith}
use Rattle.fm_chain.proofs.EntriesLemmas.{counted, refused_short}
use Rattle.fm_chain.specs.ChainEntries.{with_chains}
use Rattle.fm_chain.proofs.entries.ChainPool.of.Goals as goal

pub returns-then-count-gt-MAX_INDICES-clause-refused : goal.returns-then-count-gt-MAX_INDICES-clause-refused
returns-then-count-gt-MAX_INDICES-clause-refused c =
    let is = counted c.args.class.now.pool.entries c.of-places.result c.len.result c.missing.result c.of-places.ensures c.len.ensures c.missing.ensures.is in
    (omega (arith, is, c.if-count-gt-MAX_INDICES.true), is)

pub returns-clause-fits : goal.returns-clause-fits
returns-clause-fits c =
    let is = counted c.args.class.now.pool.entries c.of-places.result c.len.result c.missing.result c.of-places.ensures c.len.ensures c.missing.ensures.is in
    omega (arith, is, c.if-count-gt-MAX_INDICES.false)

pub returns-in_err-calls-clause-refused : goal.returns-in_err-calls-clause-refused
returns-in_err-calls-clause-refused c =
    let is = counted c.args.class.now.pool.entries c.of-places.result c.len.result c.missing.result c.of-places.ensures c.len.ensures c.missing.ensures.is in
    refused_short c.from_residual.result (with_chains c.args.class.now.pool.entries) c.from_residual.ensures.1
    (omega (arith, is, c.if-count-gt-MAX_INDICES.false))

pub returns-in_err-pool-clause-refused : goal.returns-in_err-pool-clause-refused
returns-in_err-pool-clause-refused c =
    let is = counted c.args.class.now.pool.entries c.of-places.result c.len.result c.missing.result c.of-places.ensures c.len.ensures c.missing.ensures.is in
    refused_short c.from_residual-in_err-pool.result (with_chains c.args.class.now.pool.entries) c.from_residual-in_err-pool.ensures.1
    (omega (arith, is, c.if-count-gt-MAX_INDICES.false))

pub returns-in_err-append_to-clause-refused : goal.returns-in_err-append_to-clause-refused
returns-in_err-append_to-clause-refused c =
    let is = counted c.args.class.now.pool.entries c.of-places.result c.len.result c.missing.result c.of-places.ensures c.len.ensures c.missing.ensures.is in
    refused_short c.from_residual-in_err-append_to.result (with_chains c.args.class.now.pool.entries) c.from_residual-in_err-append_to.ensures.1
    (omega (arith, is, c.if-count-gt-MAX_INDICES.false))
