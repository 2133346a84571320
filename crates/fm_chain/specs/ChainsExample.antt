-- A class whose main puts a thousand nodes before a list, and the one that is written with a chain of them: both by hand.
use Rattle.std.specs.Prelude.{ℕ, ◌==◌, false, List, [], ◌∷◌, ◌++◌, codes, Some, None, pos, if◌then◌else◌}
use Rattle.fm_code.specs.EdgesExample.{item_of}
use Rattle.fm_code.specs.Example.{example_record}
use Rattle.fm_code.specs.declared.class_file.ClassDef.{ClassDef}
use Rattle.fm_code.specs.declared.class_file.MemberAttr.TheVariants as attribute
use Rattle.fm_code.specs.declared.code_array.Code.{Code}
use Rattle.fm_code.specs.declared.constant_pool.Entry.{Entry}
use Rattle.fm_code.specs.declared.constant_pool.Entry.TheVariants as entry
use Rattle.fm_code.specs.declared.instructions.Insn.TheVariants as insn
use Rattle.fm_code.specs.declared.operations.Reg.TheVariants as reg
use Rattle.fm_code.specs.declared.operations.Test.TheVariants as test
use Rattle.fm_layout.specs.declared.new_items.NewItem.{NewItem}
use Rattle.fm_place.specs.Example.{kept_as, member_bytes}
use Rattle.fm_place.specs.Insertions.{Insertions}
use Rattle.fm_place.specs.Rewriting.{Plans}
use Rattle.fm_place.specs.Woven.{inserted}
use Rattle.fm_world.specs.BuiltIns.{built_in_methods}
use Rattle.fm_chain.specs.SafeChains.{with_loops}
use Rattle.fm_chain.specs.declared.calls.Calls.{Calls}

-- ---- the class

-- Node n = null; for (int i = 0; i < 1000; i++) { Node m = new Node(); m.next = n; n = m; }
abbrev pub list_code : Code
list_code = record {
  max_stack = 2;
  max_locals = 4;
  items =
      item_of 0 (1 ∷ []) insn.Null
      ∷ item_of 1 (76 ∷ []) (insn.Store reg.Ref 1)
      ∷ item_of 2 (3 ∷ []) (insn.Const (pos 0))
      ∷ item_of 3 (61 ∷ []) (insn.Store reg.Int 2)
      ∷ item_of 4 (28 ∷ []) (insn.Load reg.Int 2)
      ∷ item_of 5 (17 ∷ 3 ∷ 232 ∷ []) (insn.Const (pos 1000))
      ∷ item_of 8 (162 ∷ 0 ∷ 24 ∷ []) (insn.IfPair test.Ge 18)
      ∷ item_of 11 (187 ∷ 0 ∷ 9 ∷ []) (insn.New 9)
      ∷ item_of 14 (89 ∷ []) insn.Dup
      ∷ item_of 15 (183 ∷ 0 ∷ 13 ∷ []) (insn.Special 13)
      ∷ item_of 18 (78 ∷ []) (insn.Store reg.Ref 3)
      ∷ item_of 19 (45 ∷ []) (insn.Load reg.Ref 3)
      ∷ item_of 20 (43 ∷ []) (insn.Load reg.Ref 1)
      ∷ item_of 21 (181 ∷ 0 ∷ 17 ∷ []) (insn.PutField 17)
      ∷ item_of 24 (45 ∷ []) (insn.Load reg.Ref 3)
      ∷ item_of 25 (76 ∷ []) (insn.Store reg.Ref 1)
      ∷ item_of 26 (132 ∷ 2 ∷ 1 ∷ []) (insn.Inc 2 (pos 1))
      ∷ item_of 29 (167 ∷ 255 ∷ 231 ∷ []) (insn.Goto 4)
      ∷ item_of 32 (177 ∷ []) (insn.Return None)
      ∷ [];
  length = 33;
  handlers = [];
  attributes = [];
}

-- its constant pool
abbrev pub list_entries : List Entry
list_entries =
    entry.Second ∷ entry.Utf8 (codes "M") ∷ entry.Class 1 ∷ entry.Utf8 (codes "java/lang/Object") ∷ entry.Class 3 ∷ entry.Utf8 (codes "main")
    ∷ entry.Utf8 (codes "([Ljava/lang/String;)V") ∷ entry.Utf8 (codes "Code") ∷ entry.Utf8 (codes "Node") ∷ entry.Class 8
    ∷ entry.Utf8 (codes "<init>") ∷ entry.Utf8 (codes "()V") ∷ entry.NameAndType 10 11 ∷ entry.Method 9 12 ∷ entry.Utf8 (codes "next")
    ∷ entry.Utf8 (codes "LNode;") ∷ entry.NameAndType 14 15 ∷ entry.Field 9 16 ∷ []

-- class M, whose main has this code
abbrev pub list_class : ClassDef
list_class = record example_record {
  pool = record { entries = list_entries };
  methods = record { flags = 9; name = 5; descriptor = 6; attributes = attribute.Coded 7 list_code ∷ [] } ∷ [];
}

-- ---- what is inserted

-- the nodes have a holder, which is freed before the return; the number of their class plays no part
abbrev pub list_plan : Insertions
list_plan = record {
  holders = record { site = 9; class = 0; looped = false } ∷ [];
  before =
      [] ∷ [] ∷ [] ∷ [] ∷ [] ∷ [] ∷ [] ∷ [] ∷ [] ∷ [] ∷ [] ∷ [] ∷ [] ∷ [] ∷ [] ∷ [] ∷ [] ∷ [] ∷ (0 ∷ []) ∷ [];
}

-- main is the method after the built-in ones
abbrev pub list_plans : Plans
list_plans method = if method == built_in_methods then Some (with_loops list_code list_plan) else None

-- the entries of the pool: FreeMe.free, link and freeChain
abbrev pub list_calls : Calls
list_calls = record { free = 23; link = 27; free_chain = 30 }

-- the holder is local 4; item 6 jumps to what is inserted before item 18
abbrev pub list_items : List NewItem
list_items =
    inserted insn.Null
    ∷ inserted (insn.Store reg.Ref 4)
    ∷ kept_as 0 insn.Null
    ∷ kept_as 1 (insn.Store reg.Ref 1)
    ∷ kept_as 2 (insn.Const (pos 0))
    ∷ kept_as 3 (insn.Store reg.Int 2)
    ∷ kept_as 4 (insn.Load reg.Int 2)
    ∷ kept_as 5 (insn.Const (pos 1000))
    ∷ kept_as 6 (insn.IfPair test.Ge 24)
    ∷ kept_as 7 (insn.New 9)
    ∷ kept_as 8 insn.Dup
    ∷ kept_as 9 (insn.Special 13)
    ∷ inserted insn.Dup
    ∷ inserted (insn.Load reg.Ref 4)
    ∷ inserted (insn.Static 27)
    ∷ inserted (insn.Store reg.Ref 4)
    ∷ kept_as 10 (insn.Store reg.Ref 3)
    ∷ kept_as 11 (insn.Load reg.Ref 3)
    ∷ kept_as 12 (insn.Load reg.Ref 1)
    ∷ kept_as 13 (insn.PutField 17)
    ∷ kept_as 14 (insn.Load reg.Ref 3)
    ∷ kept_as 15 (insn.Store reg.Ref 1)
    ∷ kept_as 16 (insn.Inc 2 (pos 1))
    ∷ kept_as 17 (insn.Goto 6)
    ∷ inserted (insn.Load reg.Ref 4)
    ∷ inserted (insn.Static 30)
    ∷ inserted insn.Null
    ∷ inserted (insn.Store reg.Ref 4)
    ∷ kept_as 18 (insn.Return None)
    ∷ []

-- ---- the files

-- magic, version 49.0, and how many slots the pool has
abbrev pub list_magic : ℕ → List ℕ
list_magic slots = 0xca ∷ 0xfe ∷ 0xba ∷ 0xbe ∷ 0x00 ∷ 0x00 ∷ 0x00 ∷ 0x31 ∷ 0x00 ∷ slots ∷ []

-- the entries of the pool that both have, up to Node.next
abbrev pub list_head : List ℕ
list_head =
    0x01 ∷ 0x00 ∷ 0x01 ∷ 0x4d ∷ 0x07 ∷ 0x00 ∷ 0x01 ∷ 0x01 ∷ 0x00 ∷ 0x10 ∷ 0x6a ∷ 0x61 ∷ 0x76 ∷ 0x61 ∷ 0x2f ∷ 0x6c ∷ 0x61 ∷ 0x6e ∷ 0x67 ∷ 0x2f ∷ 0x4f ∷ 0x62 ∷ 0x6a ∷ 0x65
    ∷ 0x63 ∷ 0x74 ∷ 0x07 ∷ 0x00 ∷ 0x03 ∷ 0x01 ∷ 0x00 ∷ 0x04 ∷ 0x6d ∷ 0x61 ∷ 0x69 ∷ 0x6e ∷ 0x01 ∷ 0x00 ∷ 0x16 ∷ 0x28 ∷ 0x5b ∷ 0x4c ∷ 0x6a ∷ 0x61 ∷ 0x76 ∷ 0x61 ∷ 0x2f ∷ 0x6c
    ∷ 0x61 ∷ 0x6e ∷ 0x67 ∷ 0x2f ∷ 0x53 ∷ 0x74 ∷ 0x72 ∷ 0x69 ∷ 0x6e ∷ 0x67 ∷ 0x3b ∷ 0x29 ∷ 0x56 ∷ 0x01 ∷ 0x00 ∷ 0x04 ∷ 0x43 ∷ 0x6f ∷ 0x64 ∷ 0x65 ∷ 0x01 ∷ 0x00 ∷ 0x04 ∷ 0x4e
    ∷ 0x6f ∷ 0x64 ∷ 0x65 ∷ 0x07 ∷ 0x00 ∷ 0x08 ∷ 0x01 ∷ 0x00 ∷ 0x06 ∷ 0x3c ∷ 0x69 ∷ 0x6e ∷ 0x69 ∷ 0x74 ∷ 0x3e ∷ 0x01 ∷ 0x00 ∷ 0x03 ∷ 0x28 ∷ 0x29 ∷ 0x56 ∷ 0x0c ∷ 0x00 ∷ 0x0a
    ∷ 0x00 ∷ 0x0b ∷ 0x0a ∷ 0x00 ∷ 0x09 ∷ 0x00 ∷ 0x0c ∷ 0x01 ∷ 0x00 ∷ 0x04 ∷ 0x6e ∷ 0x65 ∷ 0x78 ∷ 0x74 ∷ 0x01 ∷ 0x00 ∷ 0x06 ∷ 0x4c ∷ 0x4e ∷ 0x6f ∷ 0x64 ∷ 0x65 ∷ 0x3b ∷ 0x0c
    ∷ 0x00 ∷ 0x0e ∷ 0x00 ∷ 0x0f ∷ 0x09 ∷ 0x00 ∷ 0x09 ∷ 0x00 ∷ 0x10
    ∷ []

-- a pool of 18 slots, and a Code attribute of 45 bytes: max_stack 2, max_locals 4, 33 bytes of code
abbrev pub list_read : List ℕ
list_read =
    list_magic 18 ++ list_head ++ member_bytes
    ++ 0x00 ∷ 0x00 ∷ 0x00 ∷ 0x2d ∷ 0x00 ∷ 0x02 ∷ 0x00 ∷ 0x04 ∷ 0x00 ∷ 0x00 ∷ 0x00 ∷ 0x21 ∷ 0x01 ∷ 0x4c ∷ 0x03 ∷ 0x3d ∷ 0x1c ∷ 0x11 ∷ 0x03 ∷ 0xe8 ∷ 0xa2 ∷ 0x00 ∷ 0x18 ∷ 0xbb
    ∷ 0x00 ∷ 0x09 ∷ 0x59 ∷ 0xb7 ∷ 0x00 ∷ 0x0d ∷ 0x4e ∷ 0x2d ∷ 0x2b ∷ 0xb5 ∷ 0x00 ∷ 0x11 ∷ 0x2d ∷ 0x4c ∷ 0x84 ∷ 0x02 ∷ 0x01 ∷ 0xa7 ∷ 0xff ∷ 0xe7 ∷ 0xb1 ∷ 0x00 ∷ 0x00 ∷ 0x00
    ∷ 0x00 ∷ 0x00 ∷ 0x00
    ∷ []

-- a pool of 31 slots with the entries of the three methods, and one of 64 bytes: max_stack 4, max_locals 5, 52 bytes of code
abbrev pub list_written : List ℕ
list_written =
    list_magic 31 ++ list_head
    ++ (0x01 ∷ 0x00 ∷ 0x06 ∷ 0x46 ∷ 0x72 ∷ 0x65 ∷ 0x65 ∷ 0x4d ∷ 0x65 ∷ 0x07 ∷ 0x00 ∷ 0x12 ∷ 0x01 ∷ 0x00 ∷ 0x04 ∷ 0x66 ∷ 0x72 ∷ 0x65 ∷ 0x65 ∷ 0x01 ∷ 0x00 ∷ 0x15 ∷ 0x28 ∷ 0x4c
    ∷ 0x6a ∷ 0x61 ∷ 0x76 ∷ 0x61 ∷ 0x2f ∷ 0x6c ∷ 0x61 ∷ 0x6e ∷ 0x67 ∷ 0x2f ∷ 0x4f ∷ 0x62 ∷ 0x6a ∷ 0x65 ∷ 0x63 ∷ 0x74 ∷ 0x3b ∷ 0x29 ∷ 0x56 ∷ 0x0c ∷ 0x00 ∷ 0x14 ∷ 0x00 ∷ 0x15
    ∷ 0x0a ∷ 0x00 ∷ 0x13 ∷ 0x00 ∷ 0x16 ∷ 0x01 ∷ 0x00 ∷ 0x04 ∷ 0x6c ∷ 0x69 ∷ 0x6e ∷ 0x6b ∷ 0x01 ∷ 0x00 ∷ 0x38 ∷ 0x28 ∷ 0x4c ∷ 0x6a ∷ 0x61 ∷ 0x76 ∷ 0x61 ∷ 0x2f ∷ 0x6c ∷ 0x61
    ∷ 0x6e ∷ 0x67 ∷ 0x2f ∷ 0x4f ∷ 0x62 ∷ 0x6a ∷ 0x65 ∷ 0x63 ∷ 0x74 ∷ 0x3b ∷ 0x4c ∷ 0x6a ∷ 0x61 ∷ 0x76 ∷ 0x61 ∷ 0x2f ∷ 0x6c ∷ 0x61 ∷ 0x6e ∷ 0x67 ∷ 0x2f ∷ 0x4f ∷ 0x62 ∷ 0x6a
    ∷ 0x65 ∷ 0x63 ∷ 0x74 ∷ 0x3b ∷ 0x29 ∷ 0x4c ∷ 0x6a ∷ 0x61 ∷ 0x76 ∷ 0x61 ∷ 0x2f ∷ 0x6c ∷ 0x61 ∷ 0x6e ∷ 0x67 ∷ 0x2f ∷ 0x4f ∷ 0x62 ∷ 0x6a ∷ 0x65 ∷ 0x63 ∷ 0x74 ∷ 0x3b ∷ 0x0c
    ∷ 0x00 ∷ 0x18 ∷ 0x00 ∷ 0x19 ∷ 0x0a ∷ 0x00 ∷ 0x13 ∷ 0x00 ∷ 0x1a ∷ 0x01 ∷ 0x00 ∷ 0x09 ∷ 0x66 ∷ 0x72 ∷ 0x65 ∷ 0x65 ∷ 0x43 ∷ 0x68 ∷ 0x61 ∷ 0x69 ∷ 0x6e ∷ 0x0c ∷ 0x00 ∷ 0x1c
    ∷ 0x00 ∷ 0x15 ∷ 0x0a ∷ 0x00 ∷ 0x13 ∷ 0x00 ∷ 0x1d
    ∷ [])
    ++ member_bytes
    ++ 0x00 ∷ 0x00 ∷ 0x00 ∷ 0x40 ∷ 0x00 ∷ 0x04 ∷ 0x00 ∷ 0x05 ∷ 0x00 ∷ 0x00 ∷ 0x00 ∷ 0x34 ∷ 0x01 ∷ 0x3a ∷ 0x04 ∷ 0x01 ∷ 0x4c ∷ 0x03 ∷ 0x3d ∷ 0x1c ∷ 0x11 ∷ 0x03 ∷ 0xe8 ∷ 0xa2
    ∷ 0x00 ∷ 0x20 ∷ 0xbb ∷ 0x00 ∷ 0x09 ∷ 0x59 ∷ 0xb7 ∷ 0x00 ∷ 0x0d ∷ 0x59 ∷ 0x19 ∷ 0x04 ∷ 0xb8 ∷ 0x00 ∷ 0x1b ∷ 0x3a ∷ 0x04 ∷ 0x4e ∷ 0x2d ∷ 0x2b ∷ 0xb5 ∷ 0x00 ∷ 0x11 ∷ 0x2d
    ∷ 0x4c ∷ 0x84 ∷ 0x02 ∷ 0x01 ∷ 0xa7 ∷ 0xff ∷ 0xdf ∷ 0x19 ∷ 0x04 ∷ 0xb8 ∷ 0x00 ∷ 0x1e ∷ 0x01 ∷ 0x3a ∷ 0x04 ∷ 0xb1 ∷ 0x00 ∷ 0x00 ∷ 0x00 ∷ 0x00 ∷ 0x00 ∷ 0x00
    ∷ []
