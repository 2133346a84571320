-- A code with a loop, a switch and a handler, and the edges that its reader expects.
use Rattle.std.specs.Prelude.{ℕ, List, [], ◌∷◌, None, pos}
use Rattle.fm_code.specs.declared.code_array.Code.{Code}
use Rattle.fm_code.specs.declared.code_array.Item.{Item}
use Rattle.fm_code.specs.declared.operations.Reg.TheVariants as reg
use Rattle.fm_code.specs.declared.instructions.Insn.{Insn}
use Rattle.fm_code.specs.declared.instructions.Insn.TheVariants as insn

-- an item by its offset, its bytes and its meaning
abbrev pub item_of : ℕ → List ℕ → Insn → Item
item_of offset bytes i = record { offset = offset; bytes = bytes; insn = i }

-- a tableswitch with two bytes of padding, and two keys from 0 on
abbrev pub switch_bytes : List ℕ
switch_bytes = 170 ∷ 0 ∷ 0 ∷ 0 ∷ 0 ∷ 0 ∷ 31 ∷ 0 ∷ 0 ∷ 0 ∷ 0 ∷ 0 ∷ 0 ∷ 0 ∷ 1 ∷ 0 ∷ 0 ∷ 0 ∷ 23 ∷ 0 ∷ 0 ∷ 0 ∷ 25 ∷ []

-- the items of the code
abbrev pub example_items : List Item
example_items =
    item_of 0 (27 ∷ []) (insn.Load reg.Int 1)
    ∷ item_of 1 switch_bytes (insn.Table (pos 0) 6 (2 ∷ 4 ∷ []))
    ∷ item_of 24 (42 ∷ []) (insn.Load reg.Ref 0)
    ∷ item_of 25 (191 ∷ []) insn.Throw
    ∷ item_of 26 (132 ∷ 1 ∷ 1 ∷ []) (insn.Inc 1 (pos 1))
    ∷ item_of 29 (167 ∷ 255 ∷ 227 ∷ []) (insn.Goto 0)
    ∷ item_of 32 (177 ∷ []) (insn.Return None)
    ∷ item_of 33 (77 ∷ []) (insn.Store reg.Ref 2)
    ∷ item_of 34 (42 ∷ []) (insn.Load reg.Ref 0)
    ∷ item_of 35 (87 ∷ []) insn.Pop
    ∷ item_of 36 (44 ∷ []) (insn.Load reg.Ref 2)
    ∷ item_of 37 (191 ∷ []) insn.Throw
    ∷ []

-- the code with its exception table
abbrev pub example_code : Code
example_code = record {
  max_stack = 1;
  max_locals = 3;
  items = example_items;
  length = 38;
  handlers = record { start = 2; end = 4; handler = 7; catch_class = 0 } ∷ [];
  attributes = [];
}

-- of each item, and of the number after the last one
abbrev pub example_edges : List (List ℕ)
example_edges =
    (1 ∷ [])
    ∷ (6 ∷ 2 ∷ 4 ∷ [])
    ∷ (3 ∷ 7 ∷ [])
    ∷ (7 ∷ [])
    ∷ (5 ∷ [])
    ∷ (0 ∷ [])
    ∷ []
    ∷ (8 ∷ [])
    ∷ (9 ∷ [])
    ∷ (10 ∷ [])
    ∷ (11 ∷ [])
    ∷ []
    ∷ []
    ∷ []

-- a nop, which nothing follows
abbrev pub falling_code : Code
falling_code =
    record { max_stack = 0; max_locals = 0; items = item_of 0 (0 ∷ []) insn.Nop ∷ []; length = 1; handlers = []; attributes = [] }
