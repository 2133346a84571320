use Rattle.fm_law_can_step.proofs.Puts.{keeps_static, takes_element, takes_field_value}
use Rattle.fm_law_can_step.proofs.laws.law_puts.Goals as goal

pub returns : goal.returns
returns c = record { elements = takes_element; fields = takes_field_value; statics = keeps_static }
