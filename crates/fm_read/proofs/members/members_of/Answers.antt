use Rattle.std.proofs.Common.{List, map, subst, take}
use Rattle.std.proofs.lemmas.Result.{err_from_is_err_and}
use Rattle.fm_code.specs.Fits.{MemberFits}
use Rattle.fm_read.specs.inner.MemberRules.{AreMembersOf, MemberIsValid}
use Rattle.fm_read.specs.inner.Parts.{RawMember, RawMemberFits, member_view, raw_of_member}
use Rattle.fm_code.proofs.FailureLemmas.{handed_out, returned}
use Rattle.fm_read.proofs.ReadInTurn.{AreRead-more, AreRead-none, AreRead-nowhere, all_parts, at_hand, turn}
use Rattle.fm_read.proofs.members.members_of.Goals as goal

pub member_of-requires : goal.member_of-requires
member_of-requires c =
    let part = c.part-item.result in at_hand RawMemberFits member_view c.args.parts.now c.loop-part.part-index part part c.loop-part-test.true c.part-item.is c.requires

pub loop-part-init : goal.loop-part-init
loop-part-init c = rw c.in_ok-members.ensures.items (AreRead-none raw_of_member MemberFits (MemberIsValid c.args.kind c.args.in_interface c.args.known.now.entries))

pub loop-part-preserved : goal.loop-part-preserved
loop-part-preserved c =
    let parts = c.args.parts.now in
    let i = c.loop-part.part-index in
    let part = c.part-item.result in
    rw (turn member_view parts i part part c.loop-part-test.true c.part-item.is, c.in_ok-push.ensures.items)
    (AreRead-more raw_of_member MemberFits (MemberIsValid c.args.kind c.args.in_interface c.args.known.now.entries) (map member_view (take i parts)) c.loop-part.members.items (member_view part) c.in_ok-member_of.field-0 c.loop-part.invariant c.in_ok-member_of.ensures.found)

pub returns-clause-found : goal.returns-clause-found
returns-clause-found c =
    subst (λ (raws : List RawMember). AreMembersOf c.args.kind c.args.in_interface c.args.known.now.entries raws c.loop-part.members.items)
    (all_parts member_view c.args.parts.now c.loop-part.part-index c.loop-part-test.false) c.loop-part.invariant

pub returns-in_err-member_of-clause-malformed : goal.returns-in_err-member_of-clause-malformed
returns-in_err-member_of-clause-malformed c = λ e.
    let exit = c.from_residual-in_err-member_of in
    let p = err_from_is_err_and exit.result exit.ensures.1 in
    let malformed = handed_out exit.result p.0 c.in_err-member_of.field-0.0 p.1 p.2 e in
    let none = c.in_err-member_of.ensures.malformed (returned c.in_err-member_of.field-0.0 malformed) in
    let part = c.part-item.result in
    AreRead-nowhere raw_of_member MemberFits (MemberIsValid c.args.kind c.args.in_interface c.args.known.now.entries) member_view c.args.parts.now c.loop-part.part-index part part c.loop-part-test.true c.part-item.is none
