use Rattle.std.proofs.Common.{◌≡◌, ◌-◌, ◌++◌, length, take, sym, eqb-true, arith}
use Rattle.std.proofs.KnownBytes.{Appends-trans, Appends-kept}
use Rattle.fm_files.proofs.TransferLemmas.{none_more, prefix_done, part_moved_slice}
use Rattle.fm_files.proofs.transfer.write_whole.Goals as goal
use Rattle.fm_files.proofs.transfer.write_whole.Goals.{in-Ok-write, in-Err-write}

pub returns-in-Err-clause-part : goal.returns-in-Err-clause-part
returns-in-Err-clause-part g c =
    let (done, split, appended) = c.loop.invariant in
    let all : length c.args.bytes.now - length c.loop.rest.now ≡ length c.args.bytes.now = omega (arith, eqb-true (length c.loop.rest.now) 0 (sym c.if-is_empty.ensures)) in
    rw (← all) (prefix_done _ _ _ done _ split (Appends-kept _ _ _ done appended c.in-Err.ensures.bytes))

pub returns-in-Ok-eq0-clause-part : goal.returns-in-Ok-eq0-clause-part
returns-in-Ok-eq0-clause-part g c =
    let (done, split, appended) = c.loop.invariant in
    let more = rw c.in-Ok-eq0.is at c.write.ensures.bytes in
    rw c.saturating_sub.ensures (prefix_done _ _ _ done _ split (none_more _ _ _ done c.loop.rest.now c.in-Ok-eq0.field-0 c.in-Ok-eq0.field-0-test appended more))

pub returns-in-Err-2-clause-part : goal.returns-in-Err-2-clause-part
returns-in-Err-2-clause-part g c =
    let (done, split, appended) = c.loop.invariant in
    rw c.saturating_sub-in-Err-2.ensures (prefix_done _ _ _ done _ split (Appends-kept _ _ _ done appended c.in-Err-write.ensures.bytes))

pub loop-preserved : goal.loop-preserved
loop-preserved g c =
    let (done, split, appended) = c.loop.invariant in
    let rest = c.loop.rest.now in
    elim c.match-write.branch [
      | in-Ok-write w ↦ (done ++ take w.in-Ok-write.n rest, rw w.rest-is (part_moved_slice _ done rest w.in-Ok-write.n split), Appends-trans _ _ _ done _ appended w.in-Ok-write.ensures.bytes)
      | in-Err-write w ↦ (done, rw w.rest-is split, Appends-kept _ _ _ done appended w.in-Err-write.ensures.bytes)
    ]

pub returns-clause-part : goal.returns-clause-part
returns-clause-part g c =
    let (done, split, appended) = c.loop.invariant in
    rw c.saturating_sub-2.ensures (prefix_done _ _ _ done _ split appended)
