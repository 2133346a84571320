use Rattle.std.proofs.Common.{sym, ◌∙◌}
use Rattle.fm_read_limits.proofs.FloatingLemmas.{floating_field}
use Rattle.fm_read_limits.proofs.support.floating_types.is_floating_field.Goals as goal

pub returns : goal.returns
returns c =
    let decides = floating_field c.args.descriptor.now c.requires in
    (λ t. decides.0 (sym c.ends_floating.ensures ∙ t), λ floats. c.ends_floating.ensures ∙ decides.1 floats)
