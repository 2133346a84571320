use Rattle.std.proofs.Common.{sym, ◌∙◌}
use Rattle.fm_pool_texts.proofs.MethodDescriptors.{result_nothing, result_field, result_none}
use Rattle.fm_pool_texts.proofs.descriptors.result_facts.Goals as goal

pub returns-then-eq : goal.returns-then-eq
returns-then-eq c = λ m.
    let eq = rw c.as_slice.ensures at c.eq.ensures in result_nothing m c.args.argument_words c.args.descriptor.now (sym eq ∙ c.if-eq.true)

pub returns-then-is_field_descriptor : goal.returns-then-is_field_descriptor
returns-then-is_field_descriptor c = λ m.
    let eq = rw c.as_slice.ensures at c.eq.ensures in
    result_field m c.args.argument_words c.args.descriptor.now (sym eq ∙ c.if-eq.false) (c.is_field_descriptor.ensures.0 c.if-is_field_descriptor.true)

pub returns : goal.returns
returns c = λ m.
    let eq = rw c.as_slice.ensures at c.eq.ensures in (
      λ e. absurd cc,
      λ w. absurd (result_none m c.args.argument_words c.args.descriptor.now (sym eq ∙ c.if-eq.false) (λ field. let yes = c.is_field_descriptor.ensures.1 field in cc) w),
    )
