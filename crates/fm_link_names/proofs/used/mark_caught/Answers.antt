use Rattle.std.proofs.Common.{◌∙◌, ap}
use Rattle.std.specs.List.{flat_map}
use Rattle.fm_link_names.proofs.MarkLemmas.{marks_step}
use Rattle.fm_base.specs.Rows.{marked}
use Rattle.fm_world.specs.Uses.{caught_by}
use Rattle.fm_link_names.proofs.used.mark_caught.Goals as goal

pub loop-method-preserved : goal.loop-method-preserved
loop-method-preserved c =
    let old = c.loop-method.used.items in
    marks_step caught_by c.args.methods.now c.loop-method.method-index c.method-item.result old c.mark_handlers.new.used.items
    (marked c.args.used.now.items (flat_map caught_by c.args.methods.now)) c.loop-method-test.true c.method-item.is
    (c.mark_handlers.ensures ∙ ap (marked old) c.handlers_of.ensures) c.loop-method.invariant
