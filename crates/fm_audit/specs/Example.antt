-- Items of small methods with what is inserted, by hand: an array that is popped, and a branch that is widened.
use Rattle.std.specs.Prelude.{List, [], ◌∷◌, None, pos}
use Rattle.fm_code.specs.EdgesExample.{item_of}
use Rattle.fm_code.specs.declared.code_array.Item.{Item}
use Rattle.fm_code.specs.declared.instructions.Insn.TheVariants as insn
use Rattle.fm_code.specs.declared.operations.Elem.TheVariants as elem
use Rattle.fm_code.specs.declared.operations.Reg.TheVariants as reg
use Rattle.fm_code.specs.declared.operations.Test.TheVariants as test
use Rattle.fm_audit.specs.Reading.{Read}

-- ---- an array that is popped, in a method whose own local is 0

-- iconst_2, newarray int, pop, return
abbrev pub popping : List Item
popping =
    item_of 0 (5 ∷ []) (insn.Const (pos 2))
    ∷ item_of 1 (188 ∷ 10 ∷ []) (insn.NewArray elem.Int)
    ∷ item_of 3 (87 ∷ []) insn.Pop
    ∷ item_of 4 (177 ∷ []) (insn.Return None)
    ∷ []

-- local 1 is null, and holds the array from where it is made; before the return it is freed by entry 13 of the pool, and null again
abbrev pub freeing : List Item
freeing =
    item_of 0 (1 ∷ []) insn.Null
    ∷ item_of 1 (76 ∷ []) (insn.Store reg.Ref 1)
    ∷ item_of 2 (5 ∷ []) (insn.Const (pos 2))
    ∷ item_of 3 (188 ∷ 10 ∷ []) (insn.NewArray elem.Int)
    ∷ item_of 5 (89 ∷ []) insn.Dup
    ∷ item_of 6 (76 ∷ []) (insn.Store reg.Ref 1)
    ∷ item_of 7 (87 ∷ []) insn.Pop
    ∷ item_of 8 (43 ∷ []) (insn.Load reg.Ref 1)
    ∷ item_of 9 (184 ∷ 0 ∷ 13 ∷ []) (insn.Static 13)
    ∷ item_of 12 (1 ∷ []) insn.Null
    ∷ item_of 13 (76 ∷ []) (insn.Store reg.Ref 1)
    ∷ item_of 14 (177 ∷ []) (insn.Return None)
    ∷ []

-- the same without the last two before the return
abbrev pub freeing_uncleared : List Item
freeing_uncleared =
    item_of 0 (1 ∷ []) insn.Null
    ∷ item_of 1 (76 ∷ []) (insn.Store reg.Ref 1)
    ∷ item_of 2 (5 ∷ []) (insn.Const (pos 2))
    ∷ item_of 3 (188 ∷ 10 ∷ []) (insn.NewArray elem.Int)
    ∷ item_of 5 (89 ∷ []) insn.Dup
    ∷ item_of 6 (76 ∷ []) (insn.Store reg.Ref 1)
    ∷ item_of 7 (87 ∷ []) insn.Pop
    ∷ item_of 8 (43 ∷ []) (insn.Load reg.Ref 1)
    ∷ item_of 9 (184 ∷ 0 ∷ 13 ∷ []) (insn.Static 13)
    ∷ item_of 12 (177 ∷ []) (insn.Return None)
    ∷ []

-- the holder 0 is null at the start, takes the object of item 1, and is freed before item 3
abbrev pub freeing_read : Read
freeing_read = record { starts = 0 ∷ []; pairs = record { before = (3, 0) ∷ []; after = (1, 0) ∷ [] } }

-- ---- a branch

-- iconst_1, ifeq to the return, nop, return
abbrev pub branching : List Item
branching =
    item_of 0 (4 ∷ []) (insn.Const (pos 1))
    ∷ item_of 1 (153 ∷ 0 ∷ 4 ∷ []) (insn.IfInt test.Eq 3)
    ∷ item_of 4 (0 ∷ []) insn.Nop
    ∷ item_of 5 (177 ∷ []) (insn.Return None)
    ∷ []

-- ifne skips a goto_w to the return
abbrev pub branching_far : List Item
branching_far =
    item_of 0 (4 ∷ []) (insn.Const (pos 1))
    ∷ item_of 1 (154 ∷ 0 ∷ 8 ∷ []) (insn.IfInt test.Ne 3)
    ∷ item_of 4 (200 ∷ 0 ∷ 0 ∷ 0 ∷ 6 ∷ []) (insn.Goto 4)
    ∷ item_of 9 (0 ∷ []) insn.Nop
    ∷ item_of 10 (177 ∷ []) (insn.Return None)
    ∷ []

-- nothing is inserted for a holder
abbrev pub nothing_read : Read
nothing_read = record { starts = []; pairs = record { before = []; after = [] } }
