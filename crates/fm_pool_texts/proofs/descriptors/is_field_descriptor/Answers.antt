use Rattle.std.proofs.Common.{[]}
use Rattle.fm_pool_texts.proofs.DescriptorsLemmas.{field_alone, field_decided}
use Rattle.fm_pool_texts.proofs.descriptors.is_field_descriptor.Goals as goal

pub returns-in-Some : goal.returns-in-Some
returns-in-Some c = field_decided c.args.descriptor.now c.in-Some.rest.now c.is_empty.result c.is_empty.ensures (λ rest. c.in-Some.ensures rest)

pub returns-in-None : goal.returns-in-None
returns-in-None c = (λ t. absurd cc, λ w. absurd (let none = (c.in-None.ensures []).0 ((field_alone c.args.descriptor.now).0 w) in cc))
