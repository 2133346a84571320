-- The table of the machine: the effect of each instruction (JVMS 6.5).
use Rattle.std.specs.Prelude.{ℕ, List, [], length, Option}
use Rattle.fm_code.specs.declared.instructions.Insn.{Insn}
use Rattle.fm_code.specs.declared.instructions.Insn.TheVariants as insn
use Rattle.fm_world.specs.Programs.{Outline}
use Rattle.fm_world.specs.declared.uses.Use.{Use}
use Rattle.fm_frames.specs.ArrayRows.{array_load_effect, array_store_effect, length_effect, multi_array_effect, new_array_effect, new_references_effect}
use Rattle.fm_frames.specs.CallRows.{interface_effect, special_effect, static_effect, virtual_effect}
use Rattle.fm_frames.specs.Effects.{Effect, Jumps, words, going, stuck, int_word, long_words, null_word}
use Rattle.fm_frames.specs.JumpRows.{int_jump_effect, lookup_effect, null_jump_effect, pair_jump_effect, return_effect, same_jump_effect, table_effect, throw_effect}
use Rattle.fm_frames.specs.NumberRows.{compare_effect, constant_effect, convert_effect, increment_effect, int_negate_effect, int_op_effect, int_shift_effect, load_effect, long_negate_effect, long_op_effect, long_shift_effect, move_effect, store_effect}
use Rattle.fm_frames.specs.ObjectRows.{cast_effect, get_field_effect, get_static_effect, is_a_effect, new_effect, put_field_effect, put_static_effect}
use Rattle.fm_frames.specs.Sights.{Sight}

-- The effect of an instruction. It depends on the outline of the program, the number of the method,
-- what the index that the instruction names is resolved to, the next byte of the input, and what it
-- sees of the words of the stack; and nothing else.
unfoldable pub effect_of : Outline → ℕ → Use → Insn → Option ℕ → List Sight → Effect
-- constants and locals
effect_of o method u insn.Nop byte s = words 0 []
effect_of o method u insn.Null byte s = words 0 null_word
effect_of o method u (insn.Const n) byte s = words 0 (int_word n)
effect_of o method u (insn.LongConst n) byte s = words 0 (long_words n)
effect_of o method u (insn.LoadPool index) byte s = constant_effect o u
effect_of o method u (insn.Load kind local) byte s = load_effect kind local
effect_of o method u (insn.Store kind local) byte s = store_effect kind local
effect_of o method u (insn.Inc local by) byte s = increment_effect local by
-- moves of the stack
effect_of o method u insn.Pop byte s = move_effect insn.Pop
effect_of o method u insn.Pop2 byte s = move_effect insn.Pop2
effect_of o method u insn.Dup byte s = move_effect insn.Dup
effect_of o method u insn.DupX1 byte s = move_effect insn.DupX1
effect_of o method u insn.DupX2 byte s = move_effect insn.DupX2
effect_of o method u insn.Dup2 byte s = move_effect insn.Dup2
effect_of o method u insn.Dup2X1 byte s = move_effect insn.Dup2X1
effect_of o method u insn.Dup2X2 byte s = move_effect insn.Dup2X2
effect_of o method u insn.Swap byte s = move_effect insn.Swap
-- numbers
effect_of o method u (insn.IntOp op) byte s = int_op_effect o op s
effect_of o method u (insn.LongOp op) byte s = long_op_effect o op s
effect_of o method u insn.IntNeg byte s = int_negate_effect s
effect_of o method u insn.LongNeg byte s = long_negate_effect s
effect_of o method u (insn.IntShift shift) byte s = int_shift_effect shift s
effect_of o method u (insn.LongShift shift) byte s = long_shift_effect shift s
effect_of o method u (insn.Convert to) byte s = convert_effect to s
effect_of o method u insn.LongCompare byte s = compare_effect s
-- jumps and returns
effect_of o method u (insn.IfInt test target) byte s = int_jump_effect test s
effect_of o method u (insn.IfPair test target) byte s = pair_jump_effect test s
effect_of o method u (insn.IfSame same target) byte s = same_jump_effect same
effect_of o method u (insn.IfNull null target) byte s = null_jump_effect null s
effect_of o method u (insn.Goto target) byte s = going 0 (Jumps 0)
effect_of o method u (insn.Table low others targets) byte s = table_effect low (length targets) s
effect_of o method u (insn.Lookup others keys targets) byte s = lookup_effect keys (length targets) s
effect_of o method u (insn.Return value) byte s = return_effect value
effect_of o method u insn.Throw byte s = throw_effect o s
-- objects and fields
effect_of o method u (insn.New index) byte s = new_effect o u
effect_of o method u (insn.GetStatic index) byte s = get_static_effect o u
effect_of o method u (insn.PutStatic index) byte s = put_static_effect o u
effect_of o method u (insn.GetField index) byte s = get_field_effect o u s
effect_of o method u (insn.PutField index) byte s = put_field_effect o u s
effect_of o method u (insn.Cast index) byte s = cast_effect o u s
effect_of o method u (insn.IsA index) byte s = is_a_effect o u s
-- arrays
effect_of o method u (insn.ArrayLoad elem) byte s = array_load_effect o elem s
effect_of o method u (insn.ArrayStore elem) byte s = array_store_effect o elem s
effect_of o method u insn.Length byte s = length_effect o s
effect_of o method u (insn.NewArray elem) byte s = new_array_effect o elem s
effect_of o method u (insn.NewRefs index) byte s = new_references_effect o u s
effect_of o method u (insn.MultiArray index dimensions) byte s = multi_array_effect o u dimensions s
-- calls
effect_of o method u (insn.Virtual index) byte s = virtual_effect o u byte s
effect_of o method u (insn.Interface index) byte s = interface_effect o u byte s
effect_of o method u (insn.Special index) byte s = special_effect o method u byte s
effect_of o method u (insn.Static index) byte s = static_effect o u byte s
-- left out of what is supported
effect_of o method u (insn.LeftOut opcode) byte s = stuck
