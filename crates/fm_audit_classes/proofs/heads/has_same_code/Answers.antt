use Rattle.std.proofs.Common.{◌≡◌, ◌∙◌, sym, ap, Some}
use Rattle.std.proofs.lemmas.Option.{same_Some}
use Rattle.fm_audit.proofs.SameLemmas.{code_decides}
use Rattle.fm_code.specs.contracts.code_array.CodePartialEq.TheImpl as same_code
use Rattle.fm_code.specs.Members.{code_of}
use Rattle.fm_code.specs.declared.code_array.Code.{Code}
use Rattle.fm_audit_classes.proofs.heads.has_same_code.Goals as goal

pub returns-in-Some-code : goal.returns-in-Some-code
returns-in-Some-code c =
    let tested : c.eq.result ≡ (same_code.ghosts).eq c.in-Some.code.now c.in-Some-code.other.now = c.eq.ensures in
    let decides = code_decides c.in-Some.code.now c.in-Some-code.other.now in
    let old_is : Some c.in-Some.code.now ≡ code_of c.args.old.now = c.in-Some.ensures in
    let new_is : Some c.in-Some-code.other.now ≡ code_of c.args.new.now = c.in-Some-code.ensures in (
      λ is. sym new_is ∙ ap (λ (code : Code). Some code) (sym (decides.0 (sym tested ∙ is))) ∙ old_is,
      λ same. tested ∙ decides.1 (same_Some _ _ (old_is ∙ sym same ∙ sym new_is)),
    )
