use Rattle.std.proofs.Common.{List, map, sym, subst}
use Rattle.std.specs.List.{AllByRecursion}
use Rattle.std.proofs.lemmas.Result.{err_from_is_err_and}
use Rattle.fm_base.proofs.TestFacts.{refuted}
use Rattle.fm_code.specs.Fits.{RawFits}
use Rattle.fm_code.specs.declared.cursor.AttributeParts.{AttributeParts}
use Rattle.fm_read.specs.inner.MemberRules.{MeetsRules}
use Rattle.fm_code.specs.inner.Reading.{attribute_view}
use Rattle.fm_read.specs.inner.Parts.{member_view}
use Rattle.fm_code.proofs.FailureLemmas.{handed_out, returned}
use Rattle.fm_read.proofs.MembersLemmas.{IsMemberOf-made, made, no_attributes, rules_broken}
use Rattle.fm_read.proofs.members.member_of.Goals as goal

pub attributes_of-requires : goal.attributes_of-requires
attributes_of-requires c = subst (λ (parts : List AttributeParts). AllByRecursion RawFits (map attribute_view parts)) (sym c.as_slice.ensures.value) c.requires.attributes.each

pub returns-in_err-attributes-clause-malformed : goal.returns-in_err-attributes-clause-malformed
returns-in_err-attributes-clause-malformed c = λ e.
    let p = err_from_is_err_and c.from_residual.result c.from_residual.ensures.1 in
    let malformed = handed_out c.from_residual.result p.0 c.in_err-attributes.field-0.0 p.1 p.2 e in
    let none = rw c.as_slice.ensures.value at (c.in_err-attributes.ensures.malformed (returned c.in_err-attributes.field-0.0 malformed)) in
    no_attributes c.args.kind c.args.in_interface c.args.known.now.entries (member_view c.args.part.now) none

pub returns-then-not-meets_rules-clause-malformed : goal.returns-then-not-meets_rules-clause-malformed
returns-then-not-meets_rules-clause-malformed c = λ _.
    let raw = member_view c.args.part.now in
    let entries = c.args.known.now.entries in
    let are = rw (c.as_slice.ensures.value, ← c.new.ensures) at c.in_ok-attributes.ensures.found in
    rules_broken c.args.kind c.args.in_interface entries raw c.new.result are
    (refuted c.meets_rules.result (MeetsRules c.args.kind c.args.in_interface entries (made raw c.new.result)) c.meets_rules.ensures c.if-not-meets_rules.true)

pub returns-clause-found : goal.returns-clause-found
returns-clause-found c =
    let are = rw (c.as_slice.ensures.value, ← c.new.ensures) at c.in_ok-attributes.ensures.found in
    IsMemberOf-made c.args.kind c.args.in_interface c.args.known.now.entries (member_view c.args.part.now) c.new.result c.requires are (c.meets_rules.ensures.0 c.if-not-meets_rules.false)
