-- Effects that a reader can go over by hand: of a main that prints a sum; and of one that makes an object, divides by 0, and prints the object's hash
-- where the exception is caught.
use Rattle.std.specs.Prelude.{ℕ, ℤ, pos, false, List, [], ◌∷◌, map, codes, None}
use Rattle.fm_code.specs.declared.class_file.ClassDef.{ClassDef}
use Rattle.fm_code.specs.declared.class_file.MemberAttr.TheVariants as attribute
use Rattle.fm_code.specs.declared.code_array.Handler.{Handler}
use Rattle.fm_code.specs.declared.code_array.Item.{Item}
use Rattle.fm_code.specs.declared.constant_pool.Entry.{Entry}
use Rattle.fm_code.specs.declared.constant_pool.Entry.TheVariants as entry
use Rattle.fm_code.specs.declared.instructions.Insn.{Insn}
use Rattle.fm_code.specs.declared.instructions.Insn.TheVariants as insn
use Rattle.fm_code.specs.declared.operations.Op.TheVariants as op
use Rattle.fm_code.specs.declared.operations.Reg.TheVariants as reg
use Rattle.fm_types.specs.Typed.{use_by}
use Rattle.fm_world.specs.BuiltIns.{built_in_methods}
use Rattle.fm_world.specs.Example.{class_with, item}
use Rattle.fm_world.specs.Numbers.{type_of_class}
use Rattle.fm_world.specs.Programs.{Program, program_of}
use Rattle.fm_frames.specs.Effects.{Effect, OfOperand, OfStatic, OfMade, Make, Returns, Throws, words, making, printing, going, faulty, int_word}
use Rattle.fm_frames.specs.ObjectRows.{starting}
use Rattle.fm_frames.specs.Rows.{effect_of}
use Rattle.fm_frames.specs.Sights.{Sight, Word, Null, Thing, Gone, NoField}
use Rattle.fm_frames.specs.States.{Frame, null, ref}
use Rattle.fm_frames.specs.declared.values.Value.TheVariants as value

-- class M with a main of that code
abbrev pub entries : List Entry
entries =
    entry.Second ∷ entry.Utf8 (codes "M") ∷ entry.Class 1 ∷ entry.Utf8 (codes "java/lang/Object") ∷ entry.Class 3
    -- 5
    ∷ entry.Utf8 (codes "java/lang/System") ∷ entry.Class 5 ∷ entry.Utf8 (codes "out") ∷ entry.Utf8 (codes "Ljava/io/PrintStream;") ∷ entry.NameAndType 7 8
    -- 10
    ∷ entry.Field 6 9 ∷ entry.Utf8 (codes "java/io/PrintStream") ∷ entry.Class 11 ∷ entry.Utf8 (codes "println") ∷ entry.Utf8 (codes "(I)V")
    -- 15
    ∷ entry.NameAndType 13 14 ∷ entry.Method 12 15 ∷ entry.Utf8 (codes "main") ∷ entry.Utf8 (codes "([Ljava/lang/String;)V") ∷ entry.Utf8 (codes "Code")
    -- 20
    ∷ entry.Utf8 (codes "<init>") ∷ entry.Utf8 (codes "()V") ∷ entry.NameAndType 20 21 ∷ entry.Method 4 22 ∷ entry.Utf8 (codes "hashCode")
    -- 25
    ∷ entry.Utf8 (codes "()I") ∷ entry.NameAndType 24 25 ∷ entry.Method 4 26 ∷ entry.Utf8 (codes "java/lang/ArithmeticException") ∷ entry.Class 28
    ∷ []

-- class M whose main has this code
abbrev pub main_with : List Item → List Handler → ClassDef
main_with items handlers =
    class_with entries []
    (record {
      flags = 9;
      name = 17;
      descriptor = 18;
      attributes =
          attribute.Coded 19 (record { max_stack = 2; max_locals = 3; items = items; length = 1; handlers = handlers; attributes = [] }) ∷ [];
    } ∷ [])

-- the program of only class M
abbrev pub program_with : List Item → List Handler → Program
program_with items handlers = program_of (main_with items handlers ∷ []) (codes "M")

-- what the instructions of a method see, each with the words of the stack before it, and their effects
abbrev pub effects_in : Program → ℕ → List (Insn × List Sight) → List Effect
effects_in p method seen = map (λ x. effect_of p.outline method (use_by p method x.0) x.0 None x.1) seen

-- main is the method after the built-in ones
abbrev pub main_number : ℕ
main_number = built_in_methods

-- ---- what is seen

-- an int that is seen on the stack
abbrev pub an_int : ℤ → Sight
an_int n = Word (value.Int n)

-- an object of a class, as the one that was made as this one
abbrev pub an_object : ℕ → ℕ → Sight
an_object class birth =
    Thing (record { type = type_of_class class; birth = birth; len = 0; fixed = false; units = []; inner = NoField })

-- ---- the sum of 2 and 3 is printed: PrintStream is class 5

-- its code: System.out, 2, 3, their sum, and the call of println
abbrev pub sum_items : List Item
sum_items =
    item (insn.GetStatic 10) ∷ item (insn.Const (pos 2)) ∷ item (insn.Const (pos 3)) ∷ item (insn.IntOp op.Add) ∷ item (insn.Virtual 16)
    ∷ item (insn.Return None) ∷ []

-- each instruction with what it sees on the stack
abbrev pub sum_seen : List (Insn × List Sight)
sum_seen =
    (insn.GetStatic 10, [])
    ∷ (insn.Const (pos 2), an_object 5 0 ∷ [])
    ∷ (insn.Const (pos 3), an_int (pos 2) ∷ an_object 5 0 ∷ [])
    ∷ (insn.IntOp op.Add, an_int (pos 3) ∷ an_int (pos 2) ∷ an_object 5 0 ∷ [])
    ∷ (insn.Virtual 16, an_int (pos 5) ∷ an_object 5 0 ∷ [])
    ∷ (insn.Return None, [])
    ∷ []

-- System is class 4, and its field out the first static one; 53 and 10 are the digit 5 and the line end
abbrev pub sum_effects : List Effect
sum_effects =
    starting 4 (words 0 (OfStatic 0 ∷ []))
    ∷ words 0 (int_word (pos 2))
    ∷ words 0 (int_word (pos 3))
    ∷ words 2 (int_word (pos 5))
    ∷ printing 2 (53 ∷ 10 ∷ [])
    ∷ going 0 (Returns 0)
    ∷ []

-- ---- 1 is divided by 0 while an object is in local 1; its hash is printed by the handler, which
-- begins at item 9

-- its code: the object is made, 1 is divided by 0, and the handler prints the object's hash
abbrev pub object_items : List Item
object_items =
    item (insn.New 4) ∷ item insn.Dup ∷ item (insn.Special 23) ∷ item (insn.Store reg.Ref 1)
    ∷ item (insn.Const (pos 1)) ∷ item (insn.Const (pos 0)) ∷ item (insn.IntOp op.Div) ∷ item insn.Pop ∷ item (insn.Return None)
    ∷ item (insn.Store reg.Ref 2) ∷ item (insn.GetStatic 10) ∷ item (insn.Load reg.Ref 1) ∷ item (insn.Virtual 27) ∷ item (insn.Virtual 16)
    ∷ item (insn.Return None) ∷ []

-- an ArithmeticException of the items from 4 on and before 8 goes to item 9
abbrev pub object_handler : Handler
object_handler = record { start = 4; end = 8; handler = 9; catch_class = 29 }

-- each instruction with what it sees on the stack
abbrev pub object_seen : List (Insn × List Sight)
object_seen =
    (insn.New 4, [])
    ∷ (insn.Dup, an_object 0 3 ∷ [])
    ∷ (insn.Special 23, an_object 0 3 ∷ an_object 0 3 ∷ [])
    ∷ (insn.Store reg.Ref 1, an_object 0 3 ∷ [])
    ∷ (insn.IntOp op.Div, an_int (pos 0) ∷ an_int (pos 1) ∷ [])
    ∷ (insn.Virtual 27, an_object 0 3 ∷ an_object 5 0 ∷ [])
    -- the same of null, and of a cell that isn't held
    ∷ (insn.Virtual 27, Null ∷ an_object 5 0 ∷ [])
    ∷ (insn.Virtual 27, Gone ∷ an_object 5 0 ∷ [])
    ∷ []

-- ArithmeticException is class 13 and NullPointerException 18; an exception has only the hidden
-- field
abbrev pub exception_thrown : ℕ → Effect
exception_thrown class = record (going 0 (Throws (OfMade 0))) { actions = Make (type_of_class class) 1 [] ∷ [] }

-- the effect of each of them
abbrev pub object_effects : List Effect
object_effects =
    starting 0 (making 0 (Make (type_of_class 0) 0 []))
    ∷ words 1 (OfOperand 0 ∷ OfOperand 0 ∷ [])
    ∷ words 1 []
    ∷ record (words 1 []) { writes = (1, OfOperand 0) ∷ [] }
    ∷ exception_thrown 13
    ∷ words 1 (int_word (pos 3))
    ∷ exception_thrown 18
    ∷ faulty 0
    ∷ []

-- main's frame at the division, and where the exception in cell 9 is caught
abbrev pub dividing : Frame
dividing = record {
  method = main_number;
  item = 6;
  locals = null ∷ ref 7 ∷ value.Top ∷ [];
  stack = value.Int (pos 0) ∷ value.Int (pos 1) ∷ [];
}

-- main's frame once the exception in cell 9 is caught
abbrev pub catching : Frame
catching = record dividing { item = 9; stack = ref 9 ∷ [] }
