use Rattle.std.proofs.Common.{◌≡◌, ◌∙◌, sym, ap, subst, ℕ, List}
use Rattle.std.proofs.lemmas.Slice.Eq.{bytes_eq-Decides}
use Rattle.fm_code.proofs.ClassLaw.{one_record}
use Rattle.fm_code.specs.ClassBytes.{class_bytes}
use Rattle.fm_code.specs.Spells.{Spells}
use Rattle.fm_audit_classes.proofs.comparing.is_same.Goals as goal

pub returns-clause-same : goal.returns-clause-same
returns-clause-same c = λ same.
    let first = c.in_ok-bytes.bytes.items in
    let second = c.in_ok-others.others.items in
    let read : c.as_slice.result.now ≡ c.as_slice-2.result.now =
    (bytes_eq-Decides c.as_slice.result.now c.as_slice-2.result.now).0 (sym c.eq.ensures ∙ same) in
    let equal : first ≡ second = sym c.as_slice.ensures.value ∙ read ∙ c.as_slice-2.ensures.value in
    one_record first c.args.first.now c.args.second.now c.in_ok-bytes.ensures.spells
    (subst (λ (bytes : List ℕ). Spells bytes c.args.second.now) (sym equal) c.in_ok-others.ensures.spells)

pub returns-clause-all : goal.returns-clause-all
returns-clause-all c = λ same.
    let written : c.in_ok-bytes.bytes.items ≡ c.in_ok-others.others.items =
    c.in_ok-bytes.ensures.written ∙ ap class_bytes same ∙ sym c.in_ok-others.ensures.written in
    c.eq.ensures
    ∙ (bytes_eq-Decides c.as_slice.result.now c.as_slice-2.result.now).1 (c.as_slice.ensures.value ∙ written ∙ sym c.as_slice-2.ensures.value)
