use Rattle.std.proofs.Common.{ap, ◌∙◌}
use Rattle.fm_world.specs.Numbers.{type_of_class}
use Rattle.fm_link_records.specs.inner.TypeNumbers.{with_type}
use Rattle.fm_link_records.proofs.TypeSteps.{numbers_step}
use Rattle.fm_link_records.proofs.types.Types.add_classes.Goals as goal

pub loop-class-preserved : goal.loop-class-preserved
loop-class-preserved c =
    let now = c.loop-class.self.types.keys in
    numbers_step type_of_class c.loop-class.class c.args.count now _ _ c.loop-class-test.true
    (c.in_ok-add.ensures ∙ ap (λ n. with_type now (type_of_class n)) c.in_ok-number_of.ensures) c.loop-class.invariant
