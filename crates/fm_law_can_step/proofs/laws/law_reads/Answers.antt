use Rattle.fm_law_can_step.proofs.Heap.{holds_elements, holds_field, holds_length}
use Rattle.fm_law_can_step.proofs.laws.law_reads.Goals as goal

pub returns : goal.returns
returns c = record { lengths = holds_length; elements = holds_elements; fields = holds_field }
