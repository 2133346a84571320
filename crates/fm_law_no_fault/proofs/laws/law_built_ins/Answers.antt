use Rattle.fm_law_no_fault.proofs.LinkedMethods.{built_ins_asked}
use Rattle.fm_law_no_fault.proofs.LinkedTypes.{all_thrown, builders_hide, class_is_plain, input_is_plain, input_slot, output_is_plain, output_slot, text_is_plain, throwables_hide}
use Rattle.fm_law_no_fault.proofs.laws.law_built_ins.Goals as goal

pub returns : goal.returns
returns c = λ p resolved. record {
  text_plain = text_is_plain p resolved.runnable;
  class_plain = class_is_plain p resolved.runnable;
  output_plain = output_is_plain p resolved.runnable;
  input_plain = input_is_plain p resolved.runnable;
  builders = builders_hide p resolved.runnable;
  throwables = throwables_hide p resolved.runnable;
  thrown = all_thrown p resolved.runnable;
  output = output_slot p resolved.runnable;
  input = input_slot p resolved.runnable;
  methods = built_ins_asked p resolved.runnable resolved.tree resolved.rows;
}
