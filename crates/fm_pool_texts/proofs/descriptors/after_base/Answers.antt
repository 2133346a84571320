use Rattle.std.proofs.Common.{arith, sym, ◌∙◌}
use Rattle.fm_pool_texts.proofs.DescriptorsLemmas.{base_class_at, base_letter_at}
use Rattle.fm_pool_texts.proofs.descriptors.after_base.Goals as goal

pub returns-in-76 : goal.returns-in-76
returns-in-76 c = λ rest.
    let class = base_class_at c.args.bytes.now rest (omega arith) (omega arith) in
    let behind = c.after_class.ensures rest in
    (λ w. behind.0 (class.0 w), λ e. class.1 (behind.1 e))

pub returns-in-len1-up : goal.returns-in-len1-up
returns-in-len1-up c = λ rest. base_letter_at c.args.bytes.now rest (omega arith) (sym c.is_primitive_letter.ensures ∙ c.if-is_primitive_letter.true)
