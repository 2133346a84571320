use Rattle.std.proofs.Common.{arith}
use Rattle.std.proofs.lemmas.List.{take_rest}
use Rattle.fm_pool_texts.proofs.DescriptorsLemmas.{field_parts}
use Rattle.fm_pool_texts.proofs.descriptors.after_field.Goals as goal

pub returns-then-dimensions-gt-MAX_DIMENSIONS : goal.returns-then-dimensions-gt-MAX_DIMENSIONS
returns-then-dimensions-gt-MAX_DIMENSIONS c = λ rest.
    let parts = field_parts c.args.bytes.now rest _ c.count_leading-dimensions.ensures.count in
    (λ w. absurd (let few = (parts.0 w).0 in omega arith), λ e. absurd cc)

pub returns : goal.returns
returns c = λ rest.
    let parts = field_parts c.args.bytes.now rest _ c.count_leading-dimensions.ensures.count in
    let base = rw take_rest at (c.after_base.ensures rest) in
    (λ w. base.0 (parts.0 w).1, λ e. parts.1 (omega arith, base.1 e))
