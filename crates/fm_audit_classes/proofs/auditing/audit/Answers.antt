use Rattle.std.proofs.Common.{rules, ◌≡◌, ℕ, sym, subst, None, Some}
use Rattle.fm_audit_classes.proofs.FoundLemmas.{not_written}
use Rattle.fm_audit_classes.specs.inner.Found.{ComesOfJudged}
use Rattle.fm_rewrite.proofs.CallOffsetLemmas.{call_offset}
use Rattle.fm_rewrite.proofs.JudgedLemmas.{judged_analysable}
use Rattle.fm_rewrite.specs.FreeCalls.{first_call}
use Rattle.fm_audit_classes.proofs.auditing.audit.Goals as goal

pub first_free_call-requires : goal.first_free_call-requires
first_free_call-requires c = (judged_analysable c.args.classes.now c.args.program.now c.requires.judged).uses

pub calls_free-requires : goal.calls_free-requires
calls_free-requires c =
    let call : ℕ × ℕ = (c.in-Some.method.0, c.in-Some.offset) in
    let found : first_call c.args.program.now ≡ Some call = sym c.in-Some.ensures in
    call_offset c.args.program.now call (judged_analysable c.args.classes.now c.args.program.now c.requires.judged) found

pub first_cause-requires-clause-refused : goal.first_cause-requires-clause-refused
first_cause-requires-clause-refused c = subst (ComesOfJudged c.args.program.now c.args.classes.now c.args.written.now) c.in-Err.is c.audited.ensures

pub returns-in-Ok : goal.returns-in-Ok
returns-in-Ok c =
    let none : first_call c.args.program.now ≡ None = search rules in
    subst (ComesOfJudged c.args.program.now c.args.classes.now c.args.written.now) c.in-Ok.is c.audited.ensures none

pub returns-in_ok-named-in-Err : goal.returns-in_ok-named-in-Err
returns-in_ok-named-in-Err c =
    let none : first_call c.args.program.now ≡ None = search rules in
    λ main is.
    not_written c.args.program.now c.args.classes.now main c.args.written.now c.in_ok-named-in-Err.named none c.in_ok-named-in-Err.ensures is
