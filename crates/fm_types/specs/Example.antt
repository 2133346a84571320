-- A method that is typed, with a state for each of its items, one that isn't, and joins that a reader can go over by hand.
use Rattle.std.specs.Prelude.{ℕ, ◌+◌, true, List, [], ◌∷◌, codes, Option, Some, None}
use Rattle.fm_base.specs.declared.kinds.Base.{Base}
use Rattle.fm_code.specs.declared.class_file.ClassDef.{ClassDef}
use Rattle.fm_code.specs.declared.class_file.MemberAttr.TheVariants as attribute
use Rattle.fm_code.specs.declared.code_array.Code.{Code}
use Rattle.fm_code.specs.declared.code_array.Handler.{Handler}
use Rattle.fm_code.specs.declared.code_array.Item.{Item}
use Rattle.fm_code.specs.declared.instructions.Insn.TheVariants as insn
use Rattle.fm_code.specs.declared.operations.Reg.TheVariants as reg
use Rattle.fm_types.specs.Joins.{join}
use Rattle.fm_types.specs.States.{TypeState}
use Rattle.fm_types.specs.declared.slots.Slot.{Slot}
use Rattle.fm_types.specs.declared.slots.Slot.TheVariants as slot
use Rattle.fm_world.specs.BuiltIns.{built_in_classes, built_in_methods}
use Rattle.fm_world.specs.Descriptors.{of_class}
use Rattle.fm_world.specs.Example.{class_with, example_lower, example_upper, item, main_entries}
use Rattle.fm_world.specs.Programs.{Program, program_of}

-- ---- a class M with a main of this code, beside A and B below A; M is the first class after the built-in ones, A the second and B the third

-- the main is the method after the built-in ones
abbrev pub main_number : ℕ
main_number = built_in_methods

-- the code of the main
abbrev pub with_main : List Item → List Handler → Code
with_main items handlers = record { max_stack = 2; max_locals = 2; items = items; length = 1; handlers = handlers; attributes = [] }

-- the class M with that main
abbrev pub main_class_with : Code → ClassDef
main_class_with code =
    class_with main_entries [] (record { flags = 9; name = 22; descriptor = 23; attributes = attribute.Coded 24 code ∷ [] } ∷ [])

-- the program of M and the two classes
abbrev pub program_with : Code → Program
program_with code = program_of (main_class_with code ∷ example_upper ∷ example_lower ∷ []) (codes "M")

-- ---- typed: a B is made and kept in local 1; what is thrown meanwhile is dropped

-- its items
abbrev pub typed_items : List Item
typed_items =
    item (insn.New 6) ∷ item insn.Dup ∷ item (insn.Special 10) ∷ item (insn.Store reg.Ref 1) ∷ item (insn.Return None)
    ∷ item insn.Pop ∷ item (insn.Return None) ∷ []

-- its code: the handler takes what the first three items throw
abbrev pub typed_code : Code
typed_code = with_main typed_items (record { start = 0; end = 3; handler = 5; catch_class = 0 } ∷ [])

-- the slots of String[], of B and of Throwable
abbrev pub strings : Slot
strings = slot.Ref (record { dims = 1; base = of_class 1 })

-- that of B
abbrev pub of_b : Slot
of_b = slot.Ref (record { dims = 0; base = of_class (built_in_classes + 2) })

-- that of Throwable
abbrev pub of_throwable : Slot
of_throwable = slot.Ref (record { dims = 0; base = of_class 7 })

-- a state of the main
abbrev pub state : Slot → List Slot → Option TypeState
state second stack = Some (record { locals = strings ∷ second ∷ []; stack = stack; built = true })

-- a state for each item
abbrev pub typed_states : List (Option TypeState)
typed_states =
    state slot.Top []
    ∷ state slot.Top (slot.Uninit 0 ∷ [])
    ∷ state slot.Top (slot.Uninit 0 ∷ slot.Uninit 0 ∷ [])
    ∷ state slot.Top (of_b ∷ [])
    ∷ state of_b []
    ∷ state slot.Top (of_throwable ∷ [])
    ∷ state slot.Top []
    ∷ []

-- ---- not typed: the array of arguments is loaded as an int

-- its code
abbrev pub untyped_code : Code
untyped_code = with_main (item (insn.Load reg.Int 0) ∷ item insn.Pop ∷ item (insn.Return None) ∷ []) []

-- ---- joins

-- the slot of an array, or with no dimensions of what it is made of
abbrev pub array : ℕ → Base → Slot
array dims b = slot.Ref (record { dims = dims; base = b })

-- the slot of the class of this number
abbrev pub of_number : ℕ → Slot
of_number class = array 0 (of_class class)

-- the join of two slots in that program
abbrev pub joined : Slot → Slot → Slot
joined a b = join (program_with typed_code).outline a b
