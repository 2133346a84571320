use Rattle.std.proofs.Common.{rules, ◌≡◌, sym, ◌∙◌, ap, subst, Bool, map}
use Rattle.std.specs.Prelude.{Decides}
use Rattle.fm_code.specs.Members.{code_of}
use Rattle.fm_audit_classes.proofs.HeadLemmas.{class_still}
use Rattle.fm_audit.proofs.SameLemmas.{class_decides}
use Rattle.fm_audit_classes.specs.Parts.{class_codes}
use Rattle.fm_audit_classes.proofs.heads.is_class_of.Goals as goal

pub returns-then-have_same_codes : goal.returns-then-have_same_codes
returns-then-have_same_codes c =
    let old = c.args.class.now in
    let new = c.args.written.now in
    let old_is : c.deref.result.now ≡ old.methods = search rules in
    let new_is : c.deref-2.result.now ≡ new.methods = search rules in
    let codes : class_codes new ≡ class_codes old =
    ap (map code_of) (sym new_is) ∙ c.have_same_codes.ensures.0 c.if-have_same_codes.true ∙ ap (map code_of) old_is in
    class_still old new codes c.eq.result (subst (λ (r : Bool). Decides r (old ≡ new)) (sym c.eq.ensures) (class_decides old new))
