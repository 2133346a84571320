use Rattle.std.proofs.Common.{List, map, subst}
use Rattle.fm_base.proofs.TestFacts.{refuted}
use Rattle.fm_code.specs.Members.{AreDistinct}
use Rattle.fm_code.specs.declared.class_file.Member.{Member}
use Rattle.fm_read.specs.declared.attributes.MemberKind.TheVariants as kind
use Rattle.fm_read.specs.inner.Parts.{member_view}
use Rattle.fm_read.proofs.MembersLemmas.{members_from_fields, none_distinct}
use Rattle.fm_read.proofs.members.fields_of.Goals as goal

pub returns-then-not-branch-clause-malformed : goal.returns-then-not-branch-clause-malformed
returns-then-not-branch-clause-malformed c = λ _ members are.
    let entries = c.args.known.now.entries in
    let raws = map member_view c.args.parts.now in
    let fields = c.in_ok-fields.fields.items in
    let agree = refuted c.in_ok-are_distinct.field-0 (AreDistinct entries c.as_slice.result.now) c.in_ok-are_distinct.ensures c.if-not-branch.true in
    none_distinct kind.Field c.args.in_interface entries raws fields members c.in_ok-fields.ensures.found
    (subst (λ (ms : List Member). AreDistinct entries ms → ⊥) c.as_slice.ensures.value agree) (members_from_fields c.args.in_interface entries raws members are) are.distinct
