use Rattle.std.proofs.Common.{◌≡◌, ◌∙◌, ap, subst}
use Rattle.std.specs.Prelude.{IfOk}
use Rattle.fm_link_records.specs.inner.Methods.{methods_told}
use Rattle.fm_link_records.specs.inner.Rows.{lent_codes, lent_kinds}
use Rattle.fm_link_program.proofs.MemberInfoSteps.{codes-given}
use Rattle.fm_world.specs.Members.{methods_of}
use Rattle.fm_link_program.proofs.member_infos.method_infos_of.Goals as goal

pub returns : goal.returns
returns c =
    subst (λ cs. IfOk c.method_infos.result (λ infos. infos.items ≡ methods_told (lent_kinds c.args.kinds.now) cs 0 (methods_of c.args.classes.now)))
    (ap lent_codes c.as_slice-codes.ensures.value ∙ c.in_ok-found.ensures ∙ codes-given c.args.files.now) c.method_infos.ensures
