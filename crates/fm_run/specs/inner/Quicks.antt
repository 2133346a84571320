-- Instructions in eight bytes, and what is done by them.
use Rattle.std.specs.Prelude.{◌≡◌, ℕ, List, [], map, length, Option, Some, None}
use Rattle.std.specs.List.{range_with_len}
use Rattle.fm_code.specs.declared.code_array.Code.{Code}
use Rattle.fm_code.specs.declared.code_array.Item.{Item}
use Rattle.fm_code.specs.declared.instructions.Insn.{Insn}
use Rattle.fm_code.specs.declared.instructions.Insn.TheVariants as insn
use Rattle.fm_code.specs.declared.operations.Elem.{Elem}
use Rattle.fm_code.specs.declared.operations.Elem.TheVariants as elem
use Rattle.fm_code.specs.declared.operations.Op.{Op}
use Rattle.fm_code.specs.declared.operations.Op.TheVariants as op
use Rattle.fm_code.specs.declared.operations.Reg.{Reg}
use Rattle.fm_code.specs.declared.operations.Reg.TheVariants as reg
use Rattle.fm_code.specs.declared.operations.Test.{Test}
use Rattle.fm_code.specs.declared.operations.Test.TheVariants as test
use Rattle.fm_fast.specs.Operands.{AsksOf}
use Rattle.fm_frames.specs.Acts.{Choose}
use Rattle.fm_frames.specs.States.{Frame, State}
use Rattle.fm_run.specs.declared.quick.Quick.{Quick}
use Rattle.fm_run.specs.declared.quick.Quick.TheVariants as quick
use Rattle.fm_run.specs.inner.Flats.{DoesAlone, FlowsNext, IsFlatNext, method_in}
use Rattle.fm_run.specs.inner.Operands.{quick_checkcast, quick_getfield, quick_getstatic, quick_putfield, quick_special, quick_static, quick_virtual}
use Rattle.fm_types.specs.Typed.{use_in}
use Rattle.fm_world.specs.Members.{methods_of}
use Rattle.fm_world.specs.Programs.{code_at, Program}

-- ---- the quick code of an instruction

-- that of iload, lload and aload
abbrev pub quick_load : Reg → (place : ℕ) → Quick
quick_load reg.Int place = quick.Iload place
quick_load reg.Long place = quick.Lload place
quick_load reg.Ref place = quick.Aload place

-- that of istore, lstore and astore
abbrev pub quick_store : Reg → (place : ℕ) → Quick
quick_store reg.Int place = quick.Istore place
quick_store reg.Long place = quick.Lstore place
quick_store reg.Ref place = quick.Astore place

-- that of iadd and its like
abbrev pub quick_int_op : Op → Quick
quick_int_op op.Add = quick.Iadd
quick_int_op op.Sub = quick.Isub
quick_int_op op.Mul = quick.Imul
quick_int_op op.Div = quick.Idiv
quick_int_op op.Rem = quick.Irem
quick_int_op op.And = quick.Iand
quick_int_op op.Or = quick.Ior
quick_int_op op.Xor = quick.Ixor

-- that of ifeq and its like
abbrev pub quick_if_int : Test → (target : ℕ) → Quick
quick_if_int test.Eq target = quick.Ifeq target
quick_if_int test.Ne target = quick.Ifne target
quick_if_int test.Lt target = quick.Iflt target
quick_if_int test.Ge target = quick.Ifge target
quick_if_int test.Gt target = quick.Ifgt target
quick_if_int test.Le target = quick.Ifle target

-- that of if_icmpeq and its like
abbrev pub quick_if_pair : Test → (target : ℕ) → Quick
quick_if_pair test.Eq target = quick.IfIcmpeq target
quick_if_pair test.Ne target = quick.IfIcmpne target
quick_if_pair test.Lt target = quick.IfIcmplt target
quick_if_pair test.Ge target = quick.IfIcmpge target
quick_if_pair test.Gt target = quick.IfIcmpgt target
quick_if_pair test.Le target = quick.IfIcmple target

-- that of return, ireturn, lreturn and areturn
abbrev pub quick_return : Option Reg → Quick
quick_return None = quick.Return
quick_return (Some reg.Int) = quick.Ireturn
quick_return (Some reg.Long) = quick.Lreturn
quick_return (Some reg.Ref) = quick.Areturn

-- that of baload and its like
abbrev pub quick_array_load : Elem → Quick
quick_array_load elem.Boolean = quick.Other
quick_array_load elem.Byte = quick.Baload
quick_array_load elem.Char = quick.Caload
quick_array_load elem.Short = quick.Saload
quick_array_load elem.Int = quick.Iaload
quick_array_load elem.Long = quick.Laload
quick_array_load elem.Ref = quick.Aaload

-- that of bastore and its like; an aastore has no variant of its own
abbrev pub quick_array_store : Elem → Quick
quick_array_store elem.Boolean = quick.Other
quick_array_store elem.Byte = quick.Bastore
quick_array_store elem.Char = quick.Castore
quick_array_store elem.Short = quick.Sastore
quick_array_store elem.Int = quick.Iastore
quick_array_store elem.Long = quick.Lastore
quick_array_store elem.Ref = quick.Other

-- that of an instruction of a method: another one, where it has no variant of its own
abbrev pub quick_of : Program → (method : ℕ) → Insn → Quick
quick_of p method (insn.Const n) = quick.Iconst n
quick_of p method (insn.Load kind place) = quick_load kind place
quick_of p method (insn.Store kind place) = quick_store kind place
quick_of p method (insn.Inc place by) = quick.Iinc place by
quick_of p method insn.Dup = quick.Dup
quick_of p method (insn.IntOp o) = quick_int_op o
quick_of p method (insn.IfInt t target) = quick_if_int t target
quick_of p method (insn.IfPair t target) = quick_if_pair t target
quick_of p method (insn.Goto target) = quick.Goto target
quick_of p method (insn.ArrayLoad e) = quick_array_load e
quick_of p method (insn.ArrayStore e) = quick_array_store e
quick_of p method insn.Length = quick.Arraylength
quick_of p method (insn.GetField index) = quick_getfield p.outline (use_in p method index) index
quick_of p method (insn.PutField index) = quick_putfield p.outline (use_in p method index) index
quick_of p method (insn.GetStatic index) = quick_getstatic p.outline (use_in p method index) index
quick_of p method (insn.Cast index) = quick_checkcast (use_in p method index)
quick_of p method (insn.Virtual index) = quick_virtual p.outline (use_in p method index)
quick_of p method (insn.Interface index) = quick.Invokeinterface index
quick_of p method (insn.Special index) = quick_special p.outline method (use_in p method index)
quick_of p method (insn.Static index) = quick_static p.outline (use_in p method index)
quick_of p method (insn.Return value) = quick_return value
quick_of p method i = quick.Other

-- ---- steps by the quick code alone: what is said of each instruction that has it

-- an instruction of this quick code is next, as `IsFlatNext` says
abbrev pub IsQuickNext : Program → (budget : ℕ) → State → (method : ℕ) → Quick → Type 0
IsQuickNext p budget x method q = (i : Insn) × (quick_of p method i ≡ q) × IsFlatNext p budget x method i

-- the frames have what the row of an instruction of this quick code asks
abbrev pub AsksOfQuick : Quick → List Frame → Type 0
AsksOfQuick q frames = (p : Program) × (method : ℕ) × (i : Insn) × (quick_of p method i ≡ q) × AsksOf i frames

-- the step of each instruction of this quick code leads from the one frames to the others, as `FlowsNext` says
abbrev pub QuickFlows : Program → (method : ℕ) → (old new : List Frame) → Quick → Type 0
QuickFlows p method old new q = (i : Insn) → quick_of p method i ≡ q → FlowsNext p method old new i

-- the step of each instruction of this quick code leads from one state to the other, as `DoesAlone` says
abbrev pub QuickDoes : Program → Choose → (method : ℕ) → Quick → (x y : State) → Type 0
QuickDoes p choose method q x y = (i : Insn) → quick_of p method i ≡ q → DoesAlone p choose i x y

-- ---- the quick codes of a program

-- those of items of a method, one for each
abbrev pub quicks_for : Program → (method : ℕ) → List Item → List Quick
quicks_for p method items = map (λ (i : Item). quick_of p method i.insn) items

-- those of the code of a method, if it has code
abbrev pub quicks_in : Program → (method : ℕ) → Option Code → List Quick
quicks_in p method None = []
quicks_in p method (Some code) = quicks_for p method code.items

-- those of the method that the topmost frame is in
abbrev pub AreNextQuicks : Program → List Frame → List Quick → Type 0
AreNextQuicks p frames quicks = (method : ℕ) → method_in frames ≡ Some method → quicks ≡ quicks_in p method (code_at p method)

-- those of each method, by its number
abbrev pub codes_of : Program → List (List Quick)
codes_of p = map (λ m. quicks_in p m (code_at p m)) (range_with_len 0 (length (methods_of p.outline.classes)))
