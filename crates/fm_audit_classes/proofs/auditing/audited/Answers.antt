use Rattle.std.proofs.Common.{List, subst}
use Rattle.fm_audit.specs.NewCodes.{AllStay}
use Rattle.fm_audit.specs.SafeMethods.{AreSafelyInserted, AreSafelyJudged}
use Rattle.fm_audit.specs.declared.methods.NewCode.{NewCode}
use Rattle.fm_audit_classes.proofs.AuditedLemmas.{parts_of}
use Rattle.fm_audit_classes.proofs.FoundLemmas.{comes_of_judged}
use Rattle.fm_audit_classes.proofs.StillLemmas.{are_still}
use Rattle.fm_rewrite.proofs.JudgedLemmas.{judged_analysable, judged_spelled}
use Rattle.fm_audit_classes.proofs.auditing.audited.Goals as goal

pub new_codes-requires-clause-spelled : goal.new_codes-requires-clause-spelled
new_codes-requires-clause-spelled c = judged_spelled c.args.classes.now c.args.program.now c.requires.judged

pub judged_methods-requires : goal.judged_methods-requires
judged_methods-requires c = judged_analysable c.args.classes.now c.args.program.now c.requires.judged

pub are_written_by-requires-clause-own : goal.are_written_by-requires-clause-own
are_written_by-requires-clause-own c =
    (parts_of c.args.classes.now c.args.program.now c.as_slice.result.now c.in_ok-found.found.planned.items c.requires.judged c.requires.short
    c.in_ok-found.ensures.safe.safe).all

pub are_written_by-requires-clause-planned : goal.are_written_by-requires-clause-planned
are_written_by-requires-clause-planned c =
    (parts_of c.args.classes.now c.args.program.now c.as_slice.result.now c.in_ok-found.found.planned.items c.requires.judged c.requires.short
    c.in_ok-found.ensures.safe.safe).compared

pub are_written_by-requires-clause-still : goal.are_written_by-requires-clause-still
are_written_by-requires-clause-still c =
    let p = c.args.program.now in
    let done = c.in_ok-found.found.planned.items in
    let are : AreSafelyInserted p c.in_ok-codes.codes.items done =
    subst (λ (new : List NewCode). AreSafelyInserted p new done) c.as_slice.ensures.value c.in_ok-found.ensures.safe.safe in
    let stay : AllStay p c.in_ok-codes.codes.items done =
    subst (λ (new : List NewCode). AllStay p new done) c.as_slice.ensures.value c.in_ok-found.ensures.still in
    are_still c.args.classes.now p c.in_ok-codes.codes.items c.requires.judged c.in_ok-codes.ensures.one_each done are stay c.args.written.now
    c.in_ok-codes.ensures.codes

pub returns : goal.returns
returns c =
    let p = c.args.program.now in
    let done = c.in_ok-found.found.planned.items in
    let failing = c.in_ok-found.found.failing.items in
    let are : AreSafelyJudged p c.in_ok-codes.codes.items failing done =
    subst (λ (new : List NewCode). AreSafelyJudged p new failing done) c.as_slice.ensures.value c.in_ok-found.ensures.safe in
    let stay : AllStay p c.in_ok-codes.codes.items done =
    subst (λ (new : List NewCode). AllStay p new done) c.as_slice.ensures.value c.in_ok-found.ensures.still in
    comes_of_judged c.args.classes.now p c.in_ok-codes.codes.items done c.args.written.now c.requires.judged failing are stay c.in_ok-codes.ensures.one_each
    c.requires.spelled c.in_ok-codes.ensures.codes c.are_written_by.result c.are_written_by.ensures.same c.are_written_by.ensures.found
    c.are_written_by.ensures.whole c.are_written_by.ensures.first c.are_written_by.ensures.part
