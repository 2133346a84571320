use Rattle.std.proofs.Common.{◌∙◌, ap, cond, Some}
use Rattle.fm_link_members.specs.inner.MemberTables.{number_of_key}
use Rattle.fm_link_members.proofs.SignatureSteps.{key_test}
use Rattle.fm_link_members.proofs.members.add_signature.Goals as goal

pub returns-in_ok-insert-in-None-clause-updates : goal.returns-in_ok-insert-in-None-clause-updates
returns-in_ok-insert-in-None-clause-updates c = λ n d.
    c.in_ok-insert-in-None.ensures.updates.0 (n, d)
    ∙ ap (λ b. cond b (Some c.args.fresh) (number_of_key c.args.numbers.now n d)) (key_test c.args.name c.args.descriptor n d)
