use Rattle.std.proofs.Common.{◌≡◌, ◌++◌, ◌∷◌, [], map}
use Rattle.std.proofs.lemmas.Result.{err_from_is_err_and}
use Rattle.std.proofs.lemmas.List.{map_push}
use Rattle.fm_code.specs.inner.Reading.{counted_at}
use Rattle.fm_code.proofs.Several.{goes_on, ends, is_done}
use Rattle.fm_read.specs.inner.Parts.{member_view}
use Rattle.fm_read.specs.inner.Reading.{member_at}
use Rattle.fm_read.proofs.parts.take_members.Goals as goal

pub returns-in_err-member : goal.returns-in_err-member
returns-in_err-member c =
    let p = err_from_is_err_and c.from_residual-in_err-member.result c.from_residual-in_err-member.ensures.1 in
    rw (p.1, p.2) (ends member_at c.in_err-member.field-0.0 (map member_view c.loop.members.items) c.in_ok-count.count c.loop.counter c.loop.rest.now
    (counted_at member_at c.args.bytes.now) c.loop-test.true c.in_err-member.ensures c.loop.invariant)

pub loop-preserved : goal.loop-preserved
loop-preserved c =
    let one = c.in_ok-member.member in
    let e : map member_view c.push.new.self.items ≡ map member_view c.loop.members.items ++ member_view one ∷ [] = rw c.in_ok-push.ensures.items (map_push _ c.loop.members.items one) in
    rw e (goes_on member_at (map member_view c.loop.members.items) c.in_ok-count.count c.loop.counter c.loop.rest.now (member_view one) c.in_ok-member.after.now
    (counted_at member_at c.args.bytes.now) c.loop-test.true c.in_ok-member.ensures c.loop.invariant)

pub returns : goal.returns
returns c = is_done member_at (map member_view c.loop.members.items) c.in_ok-count.count c.loop.counter c.loop.rest.now
    (counted_at member_at c.args.bytes.now) c.loop-test.false c.loop.invariant
