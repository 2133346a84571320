-- The table of the rows by groups of instructions: the first three go on to the next group, and the others have none for what isn't theirs.
use Rattle.std.specs.Prelude.{ℕ, [], ◌∷◌, ◌++◌, Option, Some, None}
use Rattle.fm_code.specs.declared.instructions.Insn.{Insn}
use Rattle.fm_code.specs.declared.instructions.Insn.TheVariants as insn
use Rattle.fm_types.specs.ArrayRows.{array_load_row, array_store_row, length_row, multi_array_row, new_array_row, new_references_row}
use Rattle.fm_types.specs.CallRows.{instance_call_row, return_row, static_call_row}
use Rattle.fm_types.specs.Named.{object_slot}
use Rattle.fm_types.specs.NumberRows.{constant_row, convert_row, increment_row, load_row, move_row, store_row}
use Rattle.fm_types.specs.ObjectRows.{cast_row, get_field_row, get_static_row, is_a_row, put_field_row, put_static_row, throw_row}
use Rattle.fm_types.specs.States.{int_word, long_words, pushed, TypeState, worked}
use Rattle.fm_types.specs.Typed.{use_in}
use Rattle.fm_types.specs.declared.slots.Slot.TheVariants as slot
use Rattle.fm_world.specs.Programs.{Program}

-- jumps and switches; others are moves of the stack
abbrev pub jump_rows : Program → Insn → TypeState → Option TypeState
jump_rows p (insn.IfInt test target) s = worked p.outline int_word [] s
jump_rows p (insn.IfPair test target) s = worked p.outline (int_word ++ int_word) [] s
jump_rows p (insn.IfSame same target) s = worked p.outline (object_slot p.outline ∷ object_slot p.outline ∷ []) [] s
jump_rows p (insn.IfNull null target) s = worked p.outline (object_slot p.outline ∷ []) [] s
jump_rows p (insn.Goto target) s = Some s
jump_rows p (insn.Table low others targets) s = worked p.outline int_word [] s
jump_rows p (insn.Lookup others keys targets) s = worked p.outline int_word [] s
jump_rows p i s = move_row i s

-- operations on numbers; others go on to jumps
abbrev pub number_rows : Program → Insn → TypeState → Option TypeState
number_rows p (insn.IntOp op) s = worked p.outline (int_word ++ int_word) int_word s
number_rows p (insn.LongOp op) s = worked p.outline (long_words ++ long_words) long_words s
number_rows p insn.IntNeg s = worked p.outline int_word int_word s
number_rows p insn.LongNeg s = worked p.outline long_words long_words s
number_rows p (insn.IntShift shift) s = worked p.outline (int_word ++ int_word) int_word s
number_rows p (insn.LongShift shift) s = worked p.outline (int_word ++ long_words) long_words s
number_rows p (insn.Convert conv) s = convert_row p.outline conv s
number_rows p insn.LongCompare s = worked p.outline (long_words ++ long_words) int_word s
number_rows p i s = jump_rows p i s

-- constants and locals; others go on to numbers
abbrev pub local_rows : Program → ℕ → Insn → TypeState → Option TypeState
local_rows p method insn.Nop s = Some s
local_rows p method insn.Null s = Some (pushed (slot.Null ∷ []) s)
local_rows p method (insn.Const value) s = Some (pushed int_word s)
local_rows p method (insn.LongConst value) s = Some (pushed long_words s)
local_rows p method (insn.LoadPool index) s = constant_row p.outline (use_in p method index) s
local_rows p method (insn.Load kind local) s = load_row kind local s
local_rows p method (insn.Store kind local) s = store_row p.outline kind local s
local_rows p method (insn.Inc local by) s = increment_row local s
local_rows p method i s = number_rows p i s

-- arrays
abbrev pub array_rows : Program → ℕ → Insn → TypeState → Option TypeState
array_rows p method (insn.ArrayLoad elem) s = array_load_row p.outline elem s
array_rows p method (insn.ArrayStore elem) s = array_store_row p.outline elem s
array_rows p method insn.Length s = length_row p.outline s
array_rows p method (insn.NewArray elem) s = new_array_row p.outline elem s
array_rows p method (insn.NewRefs index) s = new_references_row p.outline (use_in p method index) s
array_rows p method (insn.MultiArray index dimensions) s = multi_array_row p.outline (use_in p method index) dimensions s
array_rows p method i s = None

-- fields, tests of types, and throwing
abbrev pub object_rows : Program → ℕ → Insn → TypeState → Option TypeState
object_rows p method (insn.GetStatic index) s = get_static_row p.outline (use_in p method index) s
object_rows p method (insn.PutStatic index) s = put_static_row p.outline (use_in p method index) s
object_rows p method (insn.GetField index) s = get_field_row p.outline (use_in p method index) s
object_rows p method (insn.PutField index) s = put_field_row p.outline method (use_in p method index) s
object_rows p method (insn.Cast index) s = cast_row p.outline (use_in p method index) s
object_rows p method (insn.IsA index) s = is_a_row p.outline (use_in p method index) s
object_rows p method insn.Throw s = throw_row p.outline s
object_rows p method i s = None

-- calls, but for special ones, and returns
abbrev pub call_rows : Program → ℕ → Insn → TypeState → Option TypeState
call_rows p method (insn.Virtual index) s = instance_call_row p.outline (use_in p method index) s
call_rows p method (insn.Interface index) s = instance_call_row p.outline (use_in p method index) s
call_rows p method (insn.Static index) s = static_call_row p.outline (use_in p method index) s
call_rows p method (insn.Return value) s = return_row p.outline method value s
call_rows p method i s = None
