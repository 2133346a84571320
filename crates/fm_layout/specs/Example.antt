-- Codes that are laid out, written out by hand: a loop, a switch whose padding changes, and branches at the ends of their reach.
use Rattle.std.specs.Prelude.{ℕ, List, [], ◌∷◌, Some, None, pos, negsuc}
use Rattle.fm_code.specs.EdgesExample.{item_of}
use Rattle.fm_code.specs.declared.code_array.Code.{Code}
use Rattle.fm_code.specs.declared.code_array.Item.{Item}
use Rattle.fm_code.specs.declared.operations.Elem.TheVariants as elem
use Rattle.fm_code.specs.declared.operations.Reg.TheVariants as reg
use Rattle.fm_code.specs.declared.operations.Test.TheVariants as test
use Rattle.fm_code.specs.declared.instructions.Insn.{Insn}
use Rattle.fm_code.specs.declared.instructions.Insn.TheVariants as insn
use Rattle.fm_layout.specs.declared.new_items.NewItem.{NewItem}
use Rattle.fm_layout.specs.declared.rooms.Room.{Room}
use Rattle.fm_layout.specs.declared.rooms.Room.TheVariants as room
use Rattle.fm_layout.specs.Rooms.{narrow}

-- a new item that keeps an old one
abbrev pub kept : ℕ → Insn → NewItem
kept k i = record { insn = i; kept = Some k }

-- a new item that is inserted
abbrev pub inserted : Insn → NewItem
inserted i = record { insn = i; kept = None }

-- ---- a loop

-- a loop that makes an array in each round and pops it
abbrev pub loop_old : List Item
loop_old =
    item_of 0 (26 ∷ []) (insn.Load reg.Int 0)
    ∷ item_of 1 (158 ∷ 0 ∷ 13 ∷ []) (insn.IfInt test.Le 7)
    ∷ item_of 4 (4 ∷ []) (insn.Const (pos 1))
    ∷ item_of 5 (188 ∷ 10 ∷ []) (insn.NewArray elem.Int)
    ∷ item_of 7 (87 ∷ []) insn.Pop
    ∷ item_of 8 (132 ∷ 0 ∷ 255 ∷ []) (insn.Inc 0 (negsuc 0))
    ∷ item_of 11 (167 ∷ 255 ∷ 245 ∷ []) (insn.Goto 0)
    ∷ item_of 14 (177 ∷ []) (insn.Return None)
    ∷ []

-- the array is kept in local 1, and freed before the iinc
abbrev pub loop_new : List NewItem
loop_new =
    inserted insn.Null
    ∷ inserted (insn.Store reg.Ref 1)
    ∷ kept 0 (insn.Load reg.Int 0)
    ∷ kept 1 (insn.IfInt test.Le 15)
    ∷ kept 2 (insn.Const (pos 1))
    ∷ kept 3 (insn.NewArray elem.Int)
    ∷ inserted insn.Dup
    ∷ inserted (insn.Store reg.Ref 1)
    ∷ kept 4 insn.Pop
    ∷ inserted (insn.Load reg.Ref 1)
    ∷ inserted (insn.Static 17)
    ∷ inserted insn.Null
    ∷ inserted (insn.Store reg.Ref 1)
    ∷ kept 5 (insn.Inc 0 (negsuc 0))
    ∷ kept 6 (insn.Goto 2)
    ∷ kept 7 (insn.Return None)
    ∷ []

-- the bytes of the loop, laid out
abbrev pub loop_bytes : List ℕ
loop_bytes =
    1 ∷ 76 ∷ 26 ∷ 158 ∷ 0 ∷ 21 ∷ 4 ∷ 188 ∷ 10 ∷ 89 ∷ 76 ∷ 87 ∷ 43 ∷ 184 ∷ 0 ∷ 17 ∷ 1 ∷ 76 ∷ 132 ∷ 0 ∷ 255 ∷ 167 ∷ 255 ∷ 237 ∷ 177 ∷ []

-- ---- a switch

-- an array that is popped, and then a tableswitch with two bytes of padding
abbrev pub switch_old : List Item
switch_old =
    item_of 0 (4 ∷ []) (insn.Const (pos 1))
    ∷ item_of 1 (188 ∷ 10 ∷ []) (insn.NewArray elem.Int)
    ∷ item_of 3 (87 ∷ []) insn.Pop
    ∷ item_of 4 (3 ∷ []) (insn.Const (pos 0))
    ∷ item_of 5 (170 ∷ 0 ∷ 0 ∷ 0 ∷ 0 ∷ 0 ∷ 19 ∷ 0 ∷ 0 ∷ 0 ∷ 0 ∷ 0 ∷ 0 ∷ 0 ∷ 0 ∷ 0 ∷ 0 ∷ 0 ∷ 19 ∷ []) (insn.Table (pos 0) 5 (5 ∷ []))
    ∷ item_of 24 (177 ∷ []) (insn.Return None)
    ∷ []

-- the array is kept in local 1, and freed before the switch
abbrev pub switch_new : List NewItem
switch_new =
    inserted insn.Null
    ∷ inserted (insn.Store reg.Ref 1)
    ∷ kept 0 (insn.Const (pos 1))
    ∷ kept 1 (insn.NewArray elem.Int)
    ∷ inserted insn.Dup
    ∷ inserted (insn.Store reg.Ref 1)
    ∷ kept 2 insn.Pop
    ∷ inserted (insn.Load reg.Ref 1)
    ∷ inserted (insn.Static 13)
    ∷ inserted insn.Null
    ∷ inserted (insn.Store reg.Ref 1)
    ∷ kept 3 (insn.Const (pos 0))
    ∷ kept 4 (insn.Table (pos 0) 13 (13 ∷ []))
    ∷ kept 5 (insn.Return None)
    ∷ []

-- the switch is at 15, with no padding
abbrev pub switch_bytes : List ℕ
switch_bytes =
    1 ∷ 76 ∷ 4 ∷ 188 ∷ 10 ∷ 89 ∷ 76 ∷ 87 ∷ 43 ∷ 184 ∷ 0 ∷ 13 ∷ 1 ∷ 76 ∷ 3
    ∷ 170 ∷ 0 ∷ 0 ∷ 0 ∷ 17 ∷ 0 ∷ 0 ∷ 0 ∷ 0 ∷ 0 ∷ 0 ∷ 0 ∷ 0 ∷ 0 ∷ 0 ∷ 0 ∷ 17 ∷ 177 ∷ []

-- ---- the reach of branches

-- a goto over a given number of bytes
abbrev pub goto_over : ℕ → List Room
goto_over bytes = narrow None 2 ∷ room.Plain bytes ∷ room.Plain 1 ∷ []

-- a goto back over a given number of bytes
abbrev pub goto_back : ℕ → List Room
goto_back bytes = room.Plain bytes ∷ narrow None 0 ∷ []

-- a goto that was widened
abbrev pub wide_goto : ℕ → Room
wide_goto target = room.Wide (record { condition = None; target = target })

-- a goto whose target is far, and one back over it that no longer reaches once the first one is widened
abbrev pub two_gotos : List Room
two_gotos = room.Plain 32764 ∷ narrow None 4 ∷ narrow None 0 ∷ room.Plain 32768 ∷ room.Plain 1 ∷ []

-- ---- a method that frees an array

-- a main that makes an array and pops it
abbrev pub popped_old : List Item
popped_old =
    item_of 0 (4 ∷ []) (insn.Const (pos 1))
    ∷ item_of 1 (188 ∷ 10 ∷ []) (insn.NewArray elem.Int)
    ∷ item_of 3 (87 ∷ []) insn.Pop
    ∷ item_of 4 (177 ∷ []) (insn.Return None)
    ∷ []

-- the array is kept in local 1, and freed before the return
abbrev pub popped_new : List NewItem
popped_new =
    inserted insn.Null
    ∷ inserted (insn.Store reg.Ref 1)
    ∷ kept 0 (insn.Const (pos 1))
    ∷ kept 1 (insn.NewArray elem.Int)
    ∷ inserted insn.Dup
    ∷ inserted (insn.Store reg.Ref 1)
    ∷ kept 2 insn.Pop
    ∷ inserted (insn.Load reg.Ref 1)
    ∷ inserted (insn.Static 13)
    ∷ inserted insn.Null
    ∷ inserted (insn.Store reg.Ref 1)
    ∷ kept 3 (insn.Return None)
    ∷ []

-- all but the return has it as its handler
abbrev pub popped_code : Code
popped_code = record {
  max_stack = 1;
  max_locals = 1;
  items = popped_old;
  length = 5;
  handlers = record { start = 0; end = 3; handler = 3; catch_class = 0 } ∷ [];
  attributes = [];
}

-- the new items to which jumps go
abbrev pub popped_anchors : List ℕ
popped_anchors = 2 ∷ 3 ∷ 6 ∷ 7 ∷ 12 ∷ []
