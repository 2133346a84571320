-- The table of the checker: what each instruction asks of the state before it, and the state after it (JVMS 4.10.1.9, 6.5).
use Rattle.std.specs.Prelude.{ℕ, [], ◌∷◌, ◌++◌, Option, Some, None}
use Rattle.fm_base.specs.declared.kinds.TypeRef.{TypeRef}
use Rattle.fm_code.specs.declared.instructions.Insn.{Insn}
use Rattle.fm_code.specs.declared.instructions.Insn.TheVariants as insn
use Rattle.fm_types.specs.ArrayRows.{array_load_row, array_store_row, length_row, multi_array_row, new_array_row, new_references_row}
use Rattle.fm_types.specs.CallRows.{instance_call_row, return_row, special_call_row, static_call_row}
use Rattle.fm_types.specs.Named.{object_slot}
use Rattle.fm_types.specs.NumberRows.{constant_row, convert_row, increment_row, load_row, move_row, store_row}
use Rattle.fm_types.specs.ObjectRows.{cast_row, get_field_row, get_static_row, is_a_row, new_row, put_field_row, put_static_row, throw_row}
use Rattle.fm_types.specs.States.{int_word, long_words, pushed, TypeState, worked}
use Rattle.fm_types.specs.declared.slots.Slot.TheVariants as slot
use Rattle.fm_world.specs.Programs.{Outline}
use Rattle.fm_world.specs.declared.uses.Use.{Use}

-- The state after an instruction, where the state before meets its row. Its arguments are the outline of the program, the number of the method, that of the
-- item, the types that the `new` of items of the method name, and what the index that the instruction names is resolved to. A jump has one state for
-- all its ends; after a return or athrow there is no item.
unfoldable pub row_after : Outline → ℕ → ℕ → (ℕ → Option TypeRef) → Use → Insn → TypeState → Option TypeState
-- constants and locals
row_after o method item news u insn.Nop s = Some s
row_after o method item news u insn.Null s = Some (pushed (slot.Null ∷ []) s)
row_after o method item news u (insn.Const value) s = Some (pushed int_word s)
row_after o method item news u (insn.LongConst value) s = Some (pushed long_words s)
row_after o method item news u (insn.LoadPool index) s = constant_row o u s
row_after o method item news u (insn.Load kind local) s = load_row kind local s
row_after o method item news u (insn.Store kind local) s = store_row o kind local s
row_after o method item news u (insn.Inc local by) s = increment_row local s
-- moves of the stack
row_after o method item news u insn.Pop s = move_row insn.Pop s
row_after o method item news u insn.Pop2 s = move_row insn.Pop2 s
row_after o method item news u insn.Dup s = move_row insn.Dup s
row_after o method item news u insn.DupX1 s = move_row insn.DupX1 s
row_after o method item news u insn.DupX2 s = move_row insn.DupX2 s
row_after o method item news u insn.Dup2 s = move_row insn.Dup2 s
row_after o method item news u insn.Dup2X1 s = move_row insn.Dup2X1 s
row_after o method item news u insn.Dup2X2 s = move_row insn.Dup2X2 s
row_after o method item news u insn.Swap s = move_row insn.Swap s
-- numbers
row_after o method item news u (insn.IntOp op) s = worked o (int_word ++ int_word) int_word s
row_after o method item news u (insn.LongOp op) s = worked o (long_words ++ long_words) long_words s
row_after o method item news u insn.IntNeg s = worked o int_word int_word s
row_after o method item news u insn.LongNeg s = worked o long_words long_words s
row_after o method item news u (insn.IntShift shift) s = worked o (int_word ++ int_word) int_word s
row_after o method item news u (insn.LongShift shift) s = worked o (int_word ++ long_words) long_words s
row_after o method item news u (insn.Convert conv) s = convert_row o conv s
row_after o method item news u insn.LongCompare s = worked o (long_words ++ long_words) int_word s
-- jumps and returns
row_after o method item news u (insn.IfInt test target) s = worked o int_word [] s
row_after o method item news u (insn.IfPair test target) s = worked o (int_word ++ int_word) [] s
row_after o method item news u (insn.IfSame same target) s = worked o (object_slot o ∷ object_slot o ∷ []) [] s
row_after o method item news u (insn.IfNull null target) s = worked o (object_slot o ∷ []) [] s
row_after o method item news u (insn.Goto target) s = Some s
row_after o method item news u (insn.Table low others targets) s = worked o int_word [] s
row_after o method item news u (insn.Lookup others keys targets) s = worked o int_word [] s
row_after o method item news u (insn.Return value) s = return_row o method value s
row_after o method item news u insn.Throw s = throw_row o s
-- objects and fields
row_after o method item news u (insn.New index) s = new_row o item u s
row_after o method item news u (insn.GetStatic index) s = get_static_row o u s
row_after o method item news u (insn.PutStatic index) s = put_static_row o u s
row_after o method item news u (insn.GetField index) s = get_field_row o u s
row_after o method item news u (insn.PutField index) s = put_field_row o method u s
row_after o method item news u (insn.Cast index) s = cast_row o u s
row_after o method item news u (insn.IsA index) s = is_a_row o u s
-- arrays
row_after o method item news u (insn.ArrayLoad elem) s = array_load_row o elem s
row_after o method item news u (insn.ArrayStore elem) s = array_store_row o elem s
row_after o method item news u insn.Length s = length_row o s
row_after o method item news u (insn.NewArray elem) s = new_array_row o elem s
row_after o method item news u (insn.NewRefs index) s = new_references_row o u s
row_after o method item news u (insn.MultiArray index dimensions) s = multi_array_row o u dimensions s
-- calls
row_after o method item news u (insn.Virtual index) s = instance_call_row o u s
row_after o method item news u (insn.Interface index) s = instance_call_row o u s
row_after o method item news u (insn.Special index) s = special_call_row o method news u s
row_after o method item news u (insn.Static index) s = static_call_row o u s
-- left out of what is supported
row_after o method item news u (insn.LeftOut opcode) s = None
