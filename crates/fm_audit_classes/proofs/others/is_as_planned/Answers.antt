use Rattle.std.proofs.Common.{rules, ◌≡◌, ◌∙◌, sym, subst, refl, Some, None, Option, IfOk, IsTrue, ◌↔◌}
use Rattle.std.proofs.lemmas.Bool.{false≢true}
use Rattle.fm_code.specs.Members.{code_of}
use Rattle.fm_code.specs.declared.code_array.Code.{Code}
use Rattle.fm_place_weave.specs.declared.planned.Planned.{Planned}
use Rattle.fm_place_weave.specs.declared.planned.Planned.TheVariants as planned
use Rattle.fm_audit_classes.proofs.MemberLemmas.{may_woven}
use Rattle.fm_audit_classes.specs.inner.Methods.{IsAsPlanned}
use Rattle.fm_audit_classes.proofs.others.is_as_planned.Goals as goal

pub has_woven_code-requires-clause-may : goal.has_woven_code-requires-clause-may
has_woven_code-requires-clause-may c =
    let planned_is : c.args.planned.now ≡ planned.Woven c.in-Woven.plan = search rules in
    let code_is : code_of c.args.old.now ≡ Some c.in-Some.code.now = search rules in
    may_woven c.args.calls c.args.planned.now c.in-Woven.plan c.args.old.now c.in-Some.code.now planned_is code_is c.requires.may

pub returns-in-Same : goal.returns-in-Same
returns-in-Same c =
    let planned_is : c.args.planned.now ≡ planned.Same = search rules in
    subst (λ (d : Planned). IsTrue c.has_same_code.result ↔ IsAsPlanned c.args.calls d (code_of c.args.old.now) (code_of c.args.new.now)) (sym planned_is)
    c.has_same_code.ensures

pub returns-in-Some : goal.returns-in-Some
returns-in-Some c =
    let planned_is : c.args.planned.now ≡ planned.Woven c.in-Woven.plan = search rules in
    let code_is : code_of c.args.old.now ≡ Some c.in-Some.code.now = search rules in
    subst (λ (q : Planned × Option Code). IfOk c.has_woven_code.result (λ same. IsTrue same ↔ IsAsPlanned c.args.calls q.0 q.1 (code_of c.args.new.now)))
    (λ k. (sym planned_is k, sym code_is k)) c.has_woven_code.ensures

pub returns-in-None : goal.returns-in-None
returns-in-None c =
    let planned_is : c.args.planned.now ≡ planned.Woven c.in-Woven.plan = search rules in
    let code_is : code_of c.args.old.now ≡ None = search rules in
    subst (λ (q : Planned × Option Code). IsTrue c.has_same_code-in-None.result ↔ IsAsPlanned c.args.calls q.0 q.1 (code_of c.args.new.now))
    (λ k. (sym planned_is k, sym code_is k)) (
      λ is. (refl, c.has_same_code-in-None.ensures.0 is ∙ code_is),
      λ both. c.has_same_code-in-None.ensures.1 (both.1 ∙ sym code_is),
    )

pub returns-in-TooLong : goal.returns-in-TooLong
returns-in-TooLong c = (
  λ is. absurd (false≢true is),
  λ well. absurd (subst (λ (d : Planned). IsAsPlanned c.args.calls d (code_of c.args.old.now) (code_of c.args.new.now)) c.in-TooLong.is well),
)
