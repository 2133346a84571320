-- What the code of each instruction asks, of each state from which a run goes on.
pub use Rattle.fm_law_can_step.proofs.Standing.{at_insn, births, caller_inside, can_step, IsStanding, standing}
pub use Rattle.fm_frames.proofs.StepCounts.{costs_some}
pub use Rattle.fm_law_can_step.proofs.Named.{dimensions_within, literal_inside, meets, MeetsRow, named_at, use_inside, wanted}
pub use Rattle.fm_law_can_step.proofs.Heap.{element_fits, holds_elements, holds_field, holds_length}
pub use Rattle.fm_law_can_step.proofs.Puts.{keeps_static, takes_element, takes_field_value}
pub use Rattle.fm_law_can_step.proofs.Serving.{serves}
pub use Rattle.fm_law_can_step.proofs.Constants.{rows, start_fits, suit}
pub use Rattle.fm_law_can_step.proofs.Loops.{opened_first, opened_steady, steady}
pub use Rattle.fm_law_can_step.proofs.Openings.{opened_births}
