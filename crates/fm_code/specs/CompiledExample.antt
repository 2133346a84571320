-- A class file of 506 bytes that a compiler wrote, and its record, which is written by hand. The compiler is javac 17 with --release 8 and
-- -g:lines,vars; of its bytes the version alone is changed, to 49.0. The source is
--
--     class R {
--         static final long L = 5L;
--
--         static int m(int i) {
--             try {
--                 i += 1000;
--                 switch (i + 1) {
--                     case 7:
--                         return 1;
--                 }
--                 return (int) (i + L);
--             } catch (RuntimeException e) {
--                 return 0;
--             }
--         }
--     }
use Rattle.std.specs.Prelude.{ℕ, false, List, [], ◌∷◌, codes, pos, Some, None}
use Rattle.std.specs.List.{concat}
use Rattle.fm_code.specs.declared.constant_pool.Entry.{Entry}
use Rattle.fm_code.specs.declared.constant_pool.Entry.TheVariants as entry
use Rattle.fm_code.specs.declared.class_file.ClassDef.{ClassDef}
use Rattle.fm_code.specs.declared.class_file.Member.{Member}
use Rattle.fm_code.specs.declared.class_file.MemberAttr.TheVariants as attribute
use Rattle.fm_code.specs.declared.code_array.Code.{Code}
use Rattle.fm_code.specs.declared.code_array.Item.{Item}
use Rattle.fm_code.specs.declared.code_array.CodeAttr.TheVariants as code_attribute
use Rattle.fm_code.specs.declared.operations.Reg.TheVariants as reg
use Rattle.fm_code.specs.declared.operations.Op.TheVariants as op
use Rattle.fm_code.specs.declared.operations.Conv.TheVariants as conv
use Rattle.fm_code.specs.declared.instructions.Insn.TheVariants as insn

-- ---- the bytes, with the number of each entry of the pool in front of it

-- magic number, version and pool
abbrev pub pool_part : List ℕ
pool_part =
    concat (
    -- the magic number and the version 49.0
    (0xca ∷ 0xfe ∷ 0xba ∷ 0xbe ∷ 0x00 ∷ 0x00 ∷ 0x00 ∷ 0x31 ∷ [])
    -- 28 indices of the pool
    ∷ (0x00 ∷ 0x1c ∷ [])
    -- 1 the method 3 of the class 2
    ∷ (0x0a ∷ 0x00 ∷ 0x02 ∷ 0x00 ∷ 0x03 ∷ [])
    -- 2 the class named at 4
    ∷ (0x07 ∷ 0x00 ∷ 0x04 ∷ [])
    -- 3 the name 5 with the descriptor 6
    ∷ (0x0c ∷ 0x00 ∷ 0x05 ∷ 0x00 ∷ 0x06 ∷ [])
    -- 4
    ∷ (0x01 ∷ 0x00 ∷ 0x10 ∷ codes "java/lang/Object")
    -- 5
    ∷ (0x01 ∷ 0x00 ∷ 0x06 ∷ codes "<init>")
    -- 6
    ∷ (0x01 ∷ 0x00 ∷ 0x03 ∷ codes "()V")
    -- 7 the class named at 8
    ∷ (0x07 ∷ 0x00 ∷ 0x08 ∷ [])
    -- 8
    ∷ (0x01 ∷ 0x00 ∷ 0x01 ∷ codes "R")
    -- 9 the long 5, at two indices
    ∷ (0x05 ∷ 0x00 ∷ 0x00 ∷ 0x00 ∷ 0x00 ∷ 0x00 ∷ 0x00 ∷ 0x00 ∷ 0x05 ∷ [])
    -- 11 the class named at 12
    ∷ (0x07 ∷ 0x00 ∷ 0x0c ∷ [])
    -- 12
    ∷ (0x01 ∷ 0x00 ∷ 0x1a ∷ codes "java/lang/RuntimeException")
    -- 13
    ∷ (0x01 ∷ 0x00 ∷ 0x01 ∷ codes "L")
    -- 14
    ∷ (0x01 ∷ 0x00 ∷ 0x01 ∷ codes "J")
    -- 15
    ∷ (0x01 ∷ 0x00 ∷ 0x0d ∷ codes "ConstantValue")
    -- 16
    ∷ (0x01 ∷ 0x00 ∷ 0x04 ∷ codes "Code")
    -- 17
    ∷ (0x01 ∷ 0x00 ∷ 0x0f ∷ codes "LineNumberTable")
    -- 18
    ∷ (0x01 ∷ 0x00 ∷ 0x12 ∷ codes "LocalVariableTable")
    -- 19
    ∷ (0x01 ∷ 0x00 ∷ 0x04 ∷ codes "this")
    -- 20
    ∷ (0x01 ∷ 0x00 ∷ 0x03 ∷ codes "LR;")
    -- 21
    ∷ (0x01 ∷ 0x00 ∷ 0x01 ∷ codes "m")
    -- 22
    ∷ (0x01 ∷ 0x00 ∷ 0x04 ∷ codes "(I)I")
    -- 23
    ∷ (0x01 ∷ 0x00 ∷ 0x01 ∷ codes "e")
    -- 24
    ∷ (0x01 ∷ 0x00 ∷ 0x1c ∷ codes "Ljava/lang/RuntimeException;")
    -- 25
    ∷ (0x01 ∷ 0x00 ∷ 0x01 ∷ codes "i")
    -- 26
    ∷ (0x01 ∷ 0x00 ∷ 0x01 ∷ codes "I")
    -- 27
    ∷ (0x01 ∷ 0x00 ∷ 0x0d ∷ codes "StackMapTable")
    ∷ [])

-- what is between the pool and the methods
abbrev pub field_part : List ℕ
field_part =
    concat (
    -- flags, this class, its superclass, no interface
    (0x00 ∷ 0x20 ∷ 0x00 ∷ 0x07 ∷ 0x00 ∷ 0x02 ∷ 0x00 ∷ 0x00 ∷ [])
    -- 1 field
    ∷ (0x00 ∷ 0x01 ∷ [])
    -- field L: flags, name, descriptor, 1 attribute
    ∷ (0x00 ∷ 0x18 ∷ 0x00 ∷ 0x0d ∷ 0x00 ∷ 0x0e ∷ 0x00 ∷ 0x01 ∷ [])
    -- ConstantValue
    ∷ (0x00 ∷ 0x0f ∷ 0x00 ∷ 0x00 ∷ 0x00 ∷ 0x02 ∷ 0x00 ∷ 0x09 ∷ [])
    -- 2 methods
    ∷ (0x00 ∷ 0x02 ∷ [])
    ∷ [])

-- the constructor
abbrev pub constructor_part : List ℕ
constructor_part =
    concat (
    -- method <init>()V: flags, name, descriptor, 1 attribute
    (0x00 ∷ 0x00 ∷ 0x00 ∷ 0x05 ∷ 0x00 ∷ 0x06 ∷ 0x00 ∷ 0x01 ∷ [])
    -- Code of 47 bytes: max_stack 1, max_locals 1, 5 bytes of code
    ∷ (0x00 ∷ 0x10 ∷ 0x00 ∷ 0x00 ∷ 0x00 ∷ 0x2f ∷ 0x00 ∷ 0x01 ∷ 0x00 ∷ 0x01 ∷ 0x00 ∷ 0x00 ∷ 0x00 ∷ 0x05 ∷ [])
    -- the code
    ∷ (0x2a ∷ 0xb7 ∷ 0x00 ∷ 0x01 ∷ 0xb1 ∷ [])
    -- no entry of the exception table
    ∷ (0x00 ∷ 0x00 ∷ [])
    -- 2 attributes of the code
    ∷ (0x00 ∷ 0x02 ∷ [])
    -- LineNumberTable of 1
    ∷ (0x00 ∷ 0x11 ∷ 0x00 ∷ 0x00 ∷ 0x00 ∷ 0x06 ∷ 0x00 ∷ 0x01 ∷ 0x00 ∷ 0x00 ∷ 0x00 ∷ 0x01 ∷ [])
    -- LocalVariableTable of 1
    ∷ (0x00 ∷ 0x12 ∷ 0x00 ∷ 0x00 ∷ 0x00 ∷ 0x0c ∷ 0x00 ∷ 0x01 ∷ 0x00 ∷ 0x00 ∷ 0x00 ∷ 0x05 ∷ 0x00 ∷ 0x13 ∷ 0x00 ∷ 0x14 ∷ 0x00 ∷ 0x00 ∷ [])
    ∷ [])

-- the method m, and the end
abbrev pub method_part : List ℕ
method_part =
    concat (
    -- method m(I)I: flags, name, descriptor, 1 attribute
    (0x00 ∷ 0x08 ∷ 0x00 ∷ 0x15 ∷ 0x00 ∷ 0x16 ∷ 0x00 ∷ 0x01 ∷ [])
    -- Code of 143 bytes: max_stack 4, max_locals 2, 41 bytes of code
    ∷ (0x00 ∷ 0x10 ∷ 0x00 ∷ 0x00 ∷ 0x00 ∷ 0x8f ∷ 0x00 ∷ 0x04 ∷ 0x00 ∷ 0x02 ∷ 0x00 ∷ 0x00 ∷ 0x00 ∷ 0x29 ∷ [])
    -- the code
    ∷ (0xc4 ∷ 0x84 ∷ 0x00 ∷ 0x00 ∷ 0x03 ∷ 0xe8 ∷ 0x1a ∷ 0x04 ∷ 0x60 ∷ 0xab ∷ 0x00 ∷ 0x00 ∷ 0x00 ∷ 0x00 ∷ 0x00 ∷ 0x15 ∷ 0x00 ∷ 0x00 ∷ 0x00
    ∷ 0x01 ∷ 0x00 ∷ 0x00 ∷ 0x00 ∷ 0x07 ∷ 0x00 ∷ 0x00 ∷ 0x00 ∷ 0x13 ∷ 0x04 ∷ 0xac ∷ 0x1a ∷ 0x85 ∷ 0x14 ∷ 0x00 ∷ 0x09 ∷ 0x61 ∷ 0x88 ∷ 0xac
    ∷ 0x4c ∷ 0x03 ∷ 0xac ∷ [])
    -- 2 entries of the exception table
    ∷ (0x00 ∷ 0x02 ∷ 0x00 ∷ 0x00 ∷ 0x00 ∷ 0x1d ∷ 0x00 ∷ 0x26 ∷ 0x00 ∷ 0x0b ∷ 0x00 ∷ 0x1e ∷ 0x00 ∷ 0x25 ∷ 0x00 ∷ 0x26 ∷ 0x00 ∷ 0x0b ∷ [])
    -- 3 attributes of the code
    ∷ (0x00 ∷ 0x03 ∷ [])
    -- LineNumberTable of 6
    ∷ (0x00 ∷ 0x11 ∷ 0x00 ∷ 0x00 ∷ 0x00 ∷ 0x1a ∷ 0x00 ∷ 0x06 ∷ 0x00 ∷ 0x00 ∷ 0x00 ∷ 0x06 ∷ 0x00 ∷ 0x06 ∷ 0x00 ∷ 0x07 ∷ 0x00 ∷ 0x1c ∷ 0x00
    ∷ 0x09 ∷ 0x00 ∷ 0x1e ∷ 0x00 ∷ 0x0b ∷ 0x00 ∷ 0x26 ∷ 0x00 ∷ 0x0c ∷ 0x00 ∷ 0x27 ∷ 0x00 ∷ 0x0d ∷ [])
    -- LocalVariableTable of 2
    ∷ (0x00 ∷ 0x12 ∷ 0x00 ∷ 0x00 ∷ 0x00 ∷ 0x16 ∷ 0x00 ∷ 0x02 ∷ 0x00 ∷ 0x27 ∷ 0x00 ∷ 0x02 ∷ 0x00 ∷ 0x17 ∷ 0x00 ∷ 0x18 ∷ 0x00 ∷ 0x01 ∷ 0x00
    ∷ 0x00 ∷ 0x00 ∷ 0x29 ∷ 0x00 ∷ 0x19 ∷ 0x00 ∷ 0x1a ∷ 0x00 ∷ 0x00 ∷ [])
    -- StackMapTable, which is kept as it is
    ∷ (0x00 ∷ 0x1b ∷ 0x00 ∷ 0x00 ∷ 0x00 ∷ 0x08 ∷ 0x00 ∷ 0x03 ∷ 0x1c ∷ 0x01 ∷ 0x47 ∷ 0x07 ∷ 0x00 ∷ 0x0b ∷ [])
    -- no attribute of the class
    ∷ (0x00 ∷ 0x00 ∷ [])
    ∷ [])

-- the whole class file
abbrev pub compiled_bytes : List ℕ
compiled_bytes = concat (pool_part ∷ field_part ∷ constructor_part ∷ method_part ∷ [])

-- ---- the record

-- its constant pool
abbrev pub compiled_entries : List Entry
compiled_entries =
    entry.Second ∷ entry.Method 2 3 ∷ entry.Class 4 ∷ entry.NameAndType 5 6 ∷ entry.Utf8 (codes "java/lang/Object") ∷ entry.Utf8 (codes "<init>")
    ∷ entry.Utf8 (codes "()V") ∷ entry.Class 8 ∷ entry.Utf8 (codes "R") ∷ entry.Long (pos 5) ∷ entry.Second ∷ entry.Class 12
    ∷ entry.Utf8 (codes "java/lang/RuntimeException") ∷ entry.Utf8 (codes "L") ∷ entry.Utf8 (codes "J") ∷ entry.Utf8 (codes "ConstantValue")
    ∷ entry.Utf8 (codes "Code") ∷ entry.Utf8 (codes "LineNumberTable") ∷ entry.Utf8 (codes "LocalVariableTable") ∷ entry.Utf8 (codes "this")
    ∷ entry.Utf8 (codes "LR;") ∷ entry.Utf8 (codes "m") ∷ entry.Utf8 (codes "(I)I") ∷ entry.Utf8 (codes "e")
    ∷ entry.Utf8 (codes "Ljava/lang/RuntimeException;") ∷ entry.Utf8 (codes "i") ∷ entry.Utf8 (codes "I") ∷ entry.Utf8 (codes "StackMapTable") ∷ []

-- static final long L = 5L
abbrev pub compiled_field : Member
compiled_field = record { flags = 24; name = 13; descriptor = 14; attributes = attribute.Constant 15 9 ∷ [] }

-- the code of its constructor
abbrev pub constructor_code : Code
constructor_code = record {
  max_stack = 1;
  max_locals = 1;
  items =
      record { offset = 0; bytes = 0x2a ∷ []; insn = insn.Load reg.Ref 0 }
      ∷ record { offset = 1; bytes = 0xb7 ∷ 0x00 ∷ 0x01 ∷ []; insn = insn.Special 1 }
      ∷ record { offset = 4; bytes = 0xb1 ∷ []; insn = insn.Return None } ∷ [];
  length = 5;
  handlers = [];
  attributes =
      code_attribute.Lines 17 (record { item = 0; line = 1 } ∷ [])
      ∷ code_attribute.Vars 18 false (record { start = 0; end = 3; name = 19; kind = 20; index = 0 } ∷ []) ∷ [];
}

-- its constructor
abbrev pub compiled_constructor : Member
compiled_constructor = record { flags = 0; name = 5; descriptor = 6; attributes = attribute.Coded 16 constructor_code ∷ [] }

-- of the switch two bytes are padding; the key 7 leads to item 5, all others to item 7
abbrev pub method_items : List Item
method_items =
    record { offset = 0; bytes = 0xc4 ∷ 0x84 ∷ 0x00 ∷ 0x00 ∷ 0x03 ∷ 0xe8 ∷ []; insn = insn.Inc 0 (pos 1000) }
    ∷ record { offset = 6; bytes = 0x1a ∷ []; insn = insn.Load reg.Int 0 }
    ∷ record { offset = 7; bytes = 0x04 ∷ []; insn = insn.Const (pos 1) }
    ∷ record { offset = 8; bytes = 0x60 ∷ []; insn = insn.IntOp op.Add }
    ∷ record {
      offset = 9;
      bytes =
          0xab ∷ 0x00 ∷ 0x00 ∷ 0x00 ∷ 0x00 ∷ 0x00 ∷ 0x15 ∷ 0x00 ∷ 0x00 ∷ 0x00 ∷ 0x01 ∷ 0x00 ∷ 0x00 ∷ 0x00 ∷ 0x07 ∷ 0x00 ∷ 0x00 ∷ 0x00 ∷ 0x13 ∷ [];
      insn = insn.Lookup 7 (pos 7 ∷ []) (5 ∷ []);
    }
    ∷ record { offset = 28; bytes = 0x04 ∷ []; insn = insn.Const (pos 1) }
    ∷ record { offset = 29; bytes = 0xac ∷ []; insn = insn.Return (Some reg.Int) }
    ∷ record { offset = 30; bytes = 0x1a ∷ []; insn = insn.Load reg.Int 0 }
    ∷ record { offset = 31; bytes = 0x85 ∷ []; insn = insn.Convert conv.IntToLong }
    ∷ record { offset = 32; bytes = 0x14 ∷ 0x00 ∷ 0x09 ∷ []; insn = insn.LoadPool 9 }
    ∷ record { offset = 35; bytes = 0x61 ∷ []; insn = insn.LongOp op.Add }
    ∷ record { offset = 36; bytes = 0x88 ∷ []; insn = insn.Convert conv.LongToInt }
    ∷ record { offset = 37; bytes = 0xac ∷ []; insn = insn.Return (Some reg.Int) }
    ∷ record { offset = 38; bytes = 0x4c ∷ []; insn = insn.Store reg.Ref 1 }
    ∷ record { offset = 39; bytes = 0x03 ∷ []; insn = insn.Const (pos 0) }
    ∷ record { offset = 40; bytes = 0xac ∷ []; insn = insn.Return (Some reg.Int) } ∷ []

-- the code of its method
abbrev pub method_code : Code
method_code = record {
  max_stack = 4;
  max_locals = 2;
  items = method_items;
  length = 41;
  handlers = record { start = 0; end = 6; handler = 13; catch_class = 11 } ∷ record { start = 7; end = 12; handler = 13; catch_class = 11 } ∷ [];
  attributes =
      code_attribute.Lines 17
      (record { item = 0; line = 6 } ∷ record { item = 1; line = 7 } ∷ record { item = 5; line = 9 } ∷ record { item = 7; line = 11 }
      ∷ record { item = 13; line = 12 } ∷ record { item = 14; line = 13 } ∷ [])
      ∷ code_attribute.Vars 18 false
      (record { start = 14; end = 16; name = 23; kind = 24; index = 1 } ∷ record { start = 0; end = 16; name = 25; kind = 26; index = 0 } ∷ [])
      ∷ code_attribute.Other (record { name = 27; bytes = 0x00 ∷ 0x03 ∷ 0x1c ∷ 0x01 ∷ 0x47 ∷ 0x07 ∷ 0x00 ∷ 0x0b ∷ [] }) ∷ [];
}

-- its method
abbrev pub compiled_method : Member
compiled_method = record { flags = 8; name = 21; descriptor = 22; attributes = attribute.Coded 16 method_code ∷ [] }

-- the record of the class file
abbrev pub compiled_record : ClassDef
compiled_record = record {
  minor = 0;
  major = 49;
  pool = record { entries = compiled_entries };
  flags = 32;
  this_class = 7;
  super_class = 2;
  interfaces = [];
  fields = compiled_field ∷ [];
  methods = compiled_constructor ∷ compiled_method ∷ [];
  attributes = [];
}
