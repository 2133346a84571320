use Rattle.std.proofs.Common.{◌∙◌, ap, is_none}
use Rattle.fm_link_refusals.proofs.MissingNames.{is_none_from, met_more, none_copied}
use Rattle.fm_link_refusals.specs.inner.Naming.{is_descriptor_met}
use Rattle.fm_link_refusals.proofs.missing.descriptors_met.Goals as goal

pub loop-text-preserved : goal.loop-text-preserved
loop-text-preserved c = λ classes n.
    met_more (is_descriptor_met classes) c.args.texts.now c.loop-text.text-index _ c.loop-text.met.items c.push.new.self.items c.is_none.result
    c.loop-text-test.true
    c.in_ok-push.ensures.items
    (is_none_from c.missing_in.result c.is_none.result c.is_none.ensures ∙ none_copied c.missing_in.result
    ∙ ap is_none (c.missing_in.ensures classes n))
    (c.loop-text.invariant classes n)
