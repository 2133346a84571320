-- A class file of 123 bytes whose main makes an array of ints and pops it, and the one of 186 bytes that is written: both by hand.
use Rattle.std.specs.Prelude.{ℕ, ◌+◌, ◌*◌, ◌^◌, ◌==◌, true, false, List, [], ◌∷◌, ◌++◌, codes, Option, Some, None, pos, if◌then◌else◌}
use Rattle.fm_base.specs.declared.kinds.Base.TheVariants as base
use Rattle.fm_code.specs.EdgesExample.{item_of}
use Rattle.fm_code.specs.Example.{example_record}
use Rattle.fm_code.specs.declared.class_file.ClassDef.{ClassDef}
use Rattle.fm_code.specs.declared.class_file.MemberAttr.TheVariants as attribute
use Rattle.fm_code.specs.declared.code_array.Code.{Code}
use Rattle.fm_code.specs.declared.instructions.Insn.{Insn}
use Rattle.fm_code.specs.declared.instructions.Insn.TheVariants as insn
use Rattle.fm_code.specs.declared.operations.Elem.TheVariants as elem
use Rattle.fm_code.specs.declared.operations.Reg.TheVariants as reg
use Rattle.fm_conn.specs.Facts.{Facts}
use Rattle.fm_conn.specs.Links.{typed_method}
use Rattle.fm_conn.specs.Nodes.{Global, Local, Node, Return, Slot, TypedMethod}
use Rattle.fm_layout.specs.declared.new_items.NewItem.{NewItem}
use Rattle.fm_types.specs.States.{TypeState}
use Rattle.fm_types.specs.declared.slots.Slot as slots
use Rattle.fm_types.specs.declared.slots.Slot.TheVariants as slot
use Rattle.fm_world.specs.BuiltIns.{built_in_methods}
use Rattle.fm_world.specs.Descriptors.{of_class}
use Rattle.fm_world.specs.Programs.{Program, program_of}
use Rattle.fm_place.specs.Insertions.{Holder, Insertions}
use Rattle.fm_place.specs.Woven.{inserted}

-- ---- the class

-- iconst_1, newarray int, pop, return
abbrev pub popping_code : Code
popping_code = record {
  max_stack = 1;
  max_locals = 1;
  items =
      item_of 0 (4 ∷ []) (insn.Const (pos 1))
      ∷ item_of 1 (188 ∷ 10 ∷ []) (insn.NewArray elem.Int)
      ∷ item_of 3 (87 ∷ []) insn.Pop
      ∷ item_of 4 (177 ∷ []) (insn.Return None)
      ∷ [];
  length = 5;
  handlers = [];
  attributes = [];
}

-- class M, whose main has this code
abbrev pub popping_class : ClassDef
popping_class = record example_record {
  methods = record { flags = 9; name = 5; descriptor = 6; attributes = attribute.Coded 7 popping_code ∷ [] } ∷ [];
}

-- the program of this one class
abbrev pub popping_program : Program
popping_program = program_of (popping_class ∷ []) (codes "M")

-- main is the method after the built-in ones
abbrev pub main_number : ℕ
main_number = built_in_methods

-- ---- what is known of it

-- the arguments are in local 0
abbrev pub state : List slots.Slot → Option TypeState
state stack = Some (record { locals = slot.Ref (record { dims = 1; base = of_class 1 }) ∷ []; stack = stack; built = true })

-- the states of its items: an int, and then the array, on the stack
abbrev pub popping_states : List (Option TypeState)
popping_states =
    state []
    ∷ state (slot.Int ∷ [])
    ∷ state (slot.Ref (record { dims = 1; base = base.Int }) ∷ [])
    ∷ state []
    ∷ []

-- no two nodes are joined, and so each has a number of its own
abbrev pub own_number : Node → ℕ
own_number Return = 0
own_number Global = 1
own_number (Local k) = 2 * k + 2
own_number (Slot j depth) = 2 * (2 ^ j * 3 ^ depth) + 1

-- no local is live, and no ends are linked but each with itself
abbrev pub popping_facts : Facts
popping_facts = record {
  typing = λ method. if method == main_number then popping_states else [];
  linked = λ method a b. false;
  live = λ method local item. false;
  class = λ method. own_number;
}

-- main with its states
abbrev pub popping_main : TypedMethod
popping_main = typed_method popping_program popping_facts.typing main_number popping_code

-- ---- what is inserted

-- the array's word at item 2 is numbered 9
abbrev pub array_holder : Holder
array_holder = record { site = 1; class = 9; looped = false }

-- it is freed before the return
abbrev pub popping_plan : Insertions
popping_plan = record { holders = array_holder ∷ []; before = [] ∷ [] ∷ [] ∷ (0 ∷ []) ∷ [] }

-- a new item that keeps an old one
abbrev pub kept_as : ℕ → Insn → NewItem
kept_as j i = record { insn = i; kept = Some j }

-- the holder is local 1, and FreeMe.free is entry 13 of the pool
abbrev pub popping_woven : List NewItem
popping_woven =
    inserted insn.Null
    ∷ inserted (insn.Store reg.Ref 1)
    ∷ kept_as 0 (insn.Const (pos 1))
    ∷ kept_as 1 (insn.NewArray elem.Int)
    ∷ inserted insn.Dup
    ∷ inserted (insn.Store reg.Ref 1)
    ∷ kept_as 2 insn.Pop
    ∷ inserted (insn.Load reg.Ref 1)
    ∷ inserted (insn.Static 13)
    ∷ inserted insn.Null
    ∷ inserted (insn.Store reg.Ref 1)
    ∷ kept_as 3 (insn.Return None)
    ∷ []

-- ---- the files

-- up to the name Code: M, java/lang/Object, main and its descriptor, in a pool of this many slots
abbrev pub head_bytes : ℕ → List ℕ
head_bytes slots =
    0xca ∷ 0xfe ∷ 0xba ∷ 0xbe ∷ 0x00 ∷ 0x00 ∷ 0x00 ∷ 0x31 ∷ 0x00 ∷ slots
    ∷ 0x01 ∷ 0x00 ∷ 0x01 ∷ 0x4d
    ∷ 0x07 ∷ 0x00 ∷ 0x01
    ∷ 0x01 ∷ 0x00 ∷ 0x10 ∷ 0x6a ∷ 0x61 ∷ 0x76 ∷ 0x61 ∷ 0x2f ∷ 0x6c ∷ 0x61 ∷ 0x6e ∷ 0x67 ∷ 0x2f ∷ 0x4f ∷ 0x62 ∷ 0x6a ∷ 0x65 ∷ 0x63 ∷ 0x74
    ∷ 0x07 ∷ 0x00 ∷ 0x03
    ∷ 0x01 ∷ 0x00 ∷ 0x04 ∷ 0x6d ∷ 0x61 ∷ 0x69 ∷ 0x6e
    ∷ 0x01 ∷ 0x00 ∷ 0x16 ∷ 0x28 ∷ 0x5b ∷ 0x4c ∷ 0x6a ∷ 0x61 ∷ 0x76 ∷ 0x61 ∷ 0x2f ∷ 0x6c ∷ 0x61 ∷ 0x6e ∷ 0x67 ∷ 0x2f ∷ 0x53 ∷ 0x74 ∷ 0x72 ∷ 0x69 ∷ 0x6e
    ∷ 0x67 ∷ 0x3b ∷ 0x29 ∷ 0x56
    ∷ 0x01 ∷ 0x00 ∷ 0x04 ∷ 0x43 ∷ 0x6f ∷ 0x64 ∷ 0x65 ∷ []

-- flags, this class, its superclass, no interface, no field, and main with a Code attribute
abbrev pub member_bytes : List ℕ
member_bytes =
    0x00 ∷ 0x21 ∷ 0x00 ∷ 0x02 ∷ 0x00 ∷ 0x04 ∷ 0x00 ∷ 0x00 ∷ 0x00 ∷ 0x00 ∷ 0x00 ∷ 0x01
    ∷ 0x00 ∷ 0x09 ∷ 0x00 ∷ 0x05 ∷ 0x00 ∷ 0x06 ∷ 0x00 ∷ 0x01 ∷ 0x00 ∷ 0x07 ∷ []

-- a Code attribute of 17 bytes: max_stack 1, max_locals 1, five bytes of code
abbrev pub read_bytes : List ℕ
read_bytes =
    head_bytes 8 ++ member_bytes
    ++ 0x00 ∷ 0x00 ∷ 0x00 ∷ 0x11 ∷ 0x00 ∷ 0x01 ∷ 0x00 ∷ 0x01 ∷ 0x00 ∷ 0x00 ∷ 0x00 ∷ 0x05
    ∷ 0x04 ∷ 0xbc ∷ 0x0a ∷ 0x57 ∷ 0xb1
    ∷ 0x00 ∷ 0x00 ∷ 0x00 ∷ 0x00 ∷ 0x00 ∷ 0x00 ∷ []

-- six entries more, from FreeMe to its method free, and one of 27 bytes: max_stack 2, max_locals 2, fifteen bytes of code
abbrev pub written_bytes : List ℕ
written_bytes =
    head_bytes 14
    ++ (0x01 ∷ 0x00 ∷ 0x06 ∷ 0x46 ∷ 0x72 ∷ 0x65 ∷ 0x65 ∷ 0x4d ∷ 0x65
    ∷ 0x07 ∷ 0x00 ∷ 0x08
    ∷ 0x01 ∷ 0x00 ∷ 0x04 ∷ 0x66 ∷ 0x72 ∷ 0x65 ∷ 0x65
    ∷ 0x01 ∷ 0x00 ∷ 0x15 ∷ 0x28 ∷ 0x4c ∷ 0x6a ∷ 0x61 ∷ 0x76 ∷ 0x61 ∷ 0x2f ∷ 0x6c ∷ 0x61 ∷ 0x6e ∷ 0x67 ∷ 0x2f ∷ 0x4f ∷ 0x62 ∷ 0x6a ∷ 0x65 ∷ 0x63 ∷ 0x74
    ∷ 0x3b ∷ 0x29 ∷ 0x56
    ∷ 0x0c ∷ 0x00 ∷ 0x0a ∷ 0x00 ∷ 0x0b
    ∷ 0x0a ∷ 0x00 ∷ 0x09 ∷ 0x00 ∷ 0x0c ∷ [])
    ++ member_bytes
    ++ 0x00 ∷ 0x00 ∷ 0x00 ∷ 0x1b ∷ 0x00 ∷ 0x02 ∷ 0x00 ∷ 0x02 ∷ 0x00 ∷ 0x00 ∷ 0x00 ∷ 0x0f
    ∷ 0x01 ∷ 0x4c ∷ 0x04 ∷ 0xbc ∷ 0x0a ∷ 0x59 ∷ 0x4c ∷ 0x57 ∷ 0x2b ∷ 0xb8 ∷ 0x00 ∷ 0x0d ∷ 0x01 ∷ 0x4c ∷ 0xb1
    ∷ 0x00 ∷ 0x00 ∷ 0x00 ∷ 0x00 ∷ 0x00 ∷ 0x00 ∷ []

-- of the fifteen bytes' twelve items, those that were there
abbrev pub popping_marks : List (Option ℕ)
popping_marks =
    None ∷ None ∷ Some 0 ∷ Some 1 ∷ None ∷ None ∷ Some 2 ∷ None ∷ None ∷ None ∷ None ∷ Some 3 ∷ []
