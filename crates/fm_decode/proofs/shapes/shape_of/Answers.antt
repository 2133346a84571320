use Rattle.std.proofs.Common.{◌∙◌, arith}
use Rattle.fm_decode.proofs.ShapesLemmas.{constant_opcodes-as_listed, load_opcodes-as_listed, store_opcodes-as_listed, arithmetic_opcodes-as_listed, conversion_opcodes-as_listed, jump_opcodes-as_listed, object_opcodes-as_listed, reading_of-past}
use Rattle.fm_decode.proofs.shapes.shape_of.Goals as goal

pub returns-in-0-to-20 : goal.returns-in-0-to-20
returns-in-0-to-20 c = c.constant_shape.ensures ∙ constant_opcodes-as_listed c.args.opcode (omega arith) (omega arith)

pub returns-in-21-to-53 : goal.returns-in-21-to-53
returns-in-21-to-53 c = c.load_shape.ensures ∙ load_opcodes-as_listed c.args.opcode (omega arith) (omega arith)

pub returns-in-54-to-95 : goal.returns-in-54-to-95
returns-in-54-to-95 c = c.store_shape.ensures ∙ store_opcodes-as_listed c.args.opcode (omega arith) (omega arith)

pub returns-in-96-to-131 : goal.returns-in-96-to-131
returns-in-96-to-131 c = c.arithmetic_shape.ensures ∙ arithmetic_opcodes-as_listed c.args.opcode (omega arith) (omega arith)

pub returns-in-132-to-152 : goal.returns-in-132-to-152
returns-in-132-to-152 c = c.conversion_shape.ensures ∙ conversion_opcodes-as_listed c.args.opcode (omega arith) (omega arith)

pub returns-in-153-to-177 : goal.returns-in-153-to-177
returns-in-153-to-177 c = c.jump_shape.ensures ∙ jump_opcodes-as_listed c.args.opcode (omega arith) (omega arith)

pub returns-in-178-to-201 : goal.returns-in-178-to-201
returns-in-178-to-201 c = c.object_shape.ensures ∙ object_opcodes-as_listed c.args.opcode (omega arith) (omega arith)

pub returns-in_default : goal.returns-in_default
returns-in_default c = reading_of-past c.args.opcode (omega arith)
