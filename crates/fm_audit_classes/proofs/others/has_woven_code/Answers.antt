use Rattle.std.proofs.Common.{rules, ◌≡◌, ◌∙◌, sym, ap, subst, false, true, Some, None}
use Rattle.std.proofs.lemmas.Bool.{false≢true}
use Rattle.std.proofs.lemmas.Option.{none-some, same_Some}
use Rattle.fm_code.specs.contracts.code_array.CodePartialEq.TheImpl as same_code
use Rattle.fm_code.specs.Members.{code_of}
use Rattle.fm_code.specs.declared.code_array.Code.{Code}
use Rattle.fm_layout.specs.Laid.{IsCause}
use Rattle.fm_place_weave.specs.ByPlan.{code_by, items_by}
use Rattle.fm_audit_classes.proofs.MemberLemmas.{never_long_code}
use Rattle.fm_audit.proofs.SameLemmas.{code_decides}
use Rattle.fm_audit_classes.specs.inner.Low.{is_low_code}
use Rattle.fm_audit_classes.proofs.others.has_woven_code.Goals as goal

pub returns-then-not-is_low_code : goal.returns-then-not-is_low_code
returns-then-not-is_low_code c =
    let high : is_low_code c.args.code.now c.args.plan.now.plan ≡ false = search rules in (
      λ is. absurd (false≢true is),
      λ both. absurd (false≢true (sym high ∙ both.0)),
    )

pub returns-in_default : goal.returns-in_default
returns-in_default c =
    let none : code_of c.args.new.now ≡ None = search rules in (
      λ is. absurd (false≢true is),
      λ both. absurd (none-some (code_by c.args.calls c.args.code.now c.args.plan.now) (sym none ∙ both.1)),
    )

pub returns-in-Ok : goal.returns-in-Ok
returns-in-Ok c =
    let low : is_low_code c.args.code.now c.args.plan.now.plan ≡ true = search rules in
    let tested : c.eq.result ≡ (same_code.ghosts).eq c.in-Some.written.now c.in-Ok.woven = c.eq.ensures in
    let decides = code_decides c.in-Some.written.now c.in-Ok.woven in
    let new_is : code_of c.args.new.now ≡ Some c.in-Some.written.now = search rules in
    let woven_is : c.in-Ok.woven ≡ code_by c.args.calls c.args.code.now c.args.plan.now = c.in-Ok.ensures.woven in (
      λ is. (low, new_is ∙ ap (λ (code : Code). Some code) (decides.0 (sym tested ∙ is) ∙ woven_is)),
      λ both. tested ∙ decides.1 (same_Some _ _ (sym new_is ∙ both.1) ∙ sym woven_is),
    )

pub returns-in-Err-TooLong : goal.returns-in-Err-TooLong
returns-in-Err-TooLong c =
    let code = c.args.code.now in
    let plan = c.args.plan.now in
    let cause = subst (IsCause code.items (items_by c.args.calls code plan)) c.in-Err-TooLong.field-0-is c.in-Err-TooLong.ensures.refused in (
      λ is. absurd (false≢true is),
      λ both. absurd (never_long_code c.args.calls plan code c.args.new.now c.requires.short cause.0 both.1),
    )
