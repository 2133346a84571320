use Rattle.std.proofs.Common.{sym, ◌∙◌}
use Rattle.fm_read_limits.proofs.FloatingLemmas.{floating_array}
use Rattle.fm_read_limits.proofs.support.floating_types.is_floating_array.Goals as goal

pub returns : goal.returns
returns c =
    let decides = floating_array c.args.name.now c.requires (sym c.begins_an_array.ensures ∙ c.if-not-begins_an_array.false) in
    (λ t. decides.0 (sym c.ends_floating.ensures ∙ t), λ floats. c.ends_floating.ensures ∙ decides.1 floats)
