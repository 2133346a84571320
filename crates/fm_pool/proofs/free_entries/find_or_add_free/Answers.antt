use Rattle.std.proofs.Common.{◌+◌, length, arith}
use Rattle.fm_code.specs.FreeEntries.{with_free}
use Rattle.fm_pool.proofs.FreeEntriesLemmas.{counted, is_full, room_if_done, room_if_short}
use Rattle.fm_pool.proofs.FreeEntriesAdded.{free_named, free_spelled}
use Rattle.fm_pool.proofs.free_entries.find_or_add_free.Goals as goal

pub returns-then-count-gt-MAX_INDICES-clause-full : goal.returns-then-count-gt-MAX_INDICES-clause-full
returns-then-count-gt-MAX_INDICES-clause-full c = λ n.
    let entries = c.args.pool.now.entries in
    let is = counted entries c.of-places.result c.len.result c.missing.result c.of-places.ensures c.len.ensures c.missing.ensures.is in
    is_full (c.len.result + c.missing.result) (length (with_free entries)) is c.if-count-gt-MAX_INDICES.true n

pub returns-in_err-free-clause-full : goal.returns-in_err-free-clause-full
returns-in_err-free-clause-full c = λ n.
    let entries = c.args.pool.now.entries in
    let is = counted entries c.of-places.result c.len.result c.missing.result c.of-places.ensures c.len.ensures c.missing.ensures.is in
    room_if_short c.from_residual.result (c.len.result + c.missing.result) (length (with_free entries)) c.from_residual.ensures.1 is c.if-count-gt-MAX_INDICES.false n

pub returns-in_err-append_to-clause-full : goal.returns-in_err-append_to-clause-full
returns-in_err-append_to-clause-full c = λ n.
    let entries = c.args.pool.now.entries in
    let is = counted entries c.of-places.result c.len.result c.missing.result c.of-places.ensures c.len.ensures c.missing.ensures.is in
    room_if_short c.from_residual-in_err-append_to.result (c.len.result + c.missing.result) (length (with_free entries)) c.from_residual-in_err-append_to.ensures.1 is c.if-count-gt-MAX_INDICES.false n

pub returns-clause-named : goal.returns-clause-named
returns-clause-named c = free_named c.args.pool.now.entries c.append_to.new.pool.entries c.in_ok-free.missing.entries.items c.in_ok-free.free.method c.in_ok-free.ensures.placed c.in_ok-append_to.ensures.added

pub returns-clause-spelled : goal.returns-clause-spelled
returns-clause-spelled c =
    let entries = c.args.pool.now.entries in
    let is = counted entries c.of-places.result c.len.result c.missing.result c.of-places.ensures c.len.ensures c.missing.ensures.is in
    free_spelled c.args.pool.now c.append_to.new.pool c.in_ok-free.missing.entries.items c.in_ok-free.free.method c.requires (omega (arith, is, c.if-count-gt-MAX_INDICES.false)) c.in_ok-free.ensures.placed c.in_ok-append_to.ensures.added

pub returns-clause-full : goal.returns-clause-full
returns-clause-full c = λ n.
    let entries = c.args.pool.now.entries in
    let is = counted entries c.of-places.result c.len.result c.missing.result c.of-places.ensures c.len.ensures c.missing.ensures.is in
    room_if_done (c.len.result + c.missing.result) (length (with_free entries)) c.in_ok-free.free.method is c.if-count-gt-MAX_INDICES.false n
