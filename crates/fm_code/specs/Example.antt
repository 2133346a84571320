-- A class file of 119 bytes and its record, both written by hand: class M with main, which only returns.
use Rattle.std.specs.Prelude.{ℕ, List, [], ◌∷◌, ◌++◌, codes, None, slice_set}
use Rattle.fm_code.specs.declared.constant_pool.Entry.{Entry}
use Rattle.fm_code.specs.declared.constant_pool.Entry.TheVariants as entry
use Rattle.fm_code.specs.declared.class_file.ClassDef.{ClassDef}
use Rattle.fm_code.specs.declared.class_file.Member.{Member}
use Rattle.fm_code.specs.declared.class_file.MemberAttr.TheVariants as attribute
use Rattle.fm_code.specs.declared.code_array.Code.{Code}
use Rattle.fm_code.specs.declared.instructions.Insn.TheVariants as insn

-- the class file
abbrev pub example_bytes : List ℕ
example_bytes =
    -- magic, version 49.0, eight slots of the pool
    0xca ∷ 0xfe ∷ 0xba ∷ 0xbe ∷ 0x00 ∷ 0x00 ∷ 0x00 ∷ 0x31 ∷ 0x00 ∷ 0x08
    -- 1 M
    ∷ 0x01 ∷ 0x00 ∷ 0x01 ∷ 0x4d
    -- 2 the class of that name
    ∷ 0x07 ∷ 0x00 ∷ 0x01
    -- 3 java/lang/Object
    ∷ 0x01 ∷ 0x00 ∷ 0x10 ∷ 0x6a ∷ 0x61 ∷ 0x76 ∷ 0x61 ∷ 0x2f ∷ 0x6c ∷ 0x61 ∷ 0x6e ∷ 0x67 ∷ 0x2f ∷ 0x4f ∷ 0x62 ∷ 0x6a ∷ 0x65 ∷ 0x63 ∷ 0x74
    -- 4 the class of that name
    ∷ 0x07 ∷ 0x00 ∷ 0x03
    -- 5 main
    ∷ 0x01 ∷ 0x00 ∷ 0x04 ∷ 0x6d ∷ 0x61 ∷ 0x69 ∷ 0x6e
    -- 6 ([Ljava/lang/String;)V
    ∷ 0x01 ∷ 0x00 ∷ 0x16 ∷ 0x28 ∷ 0x5b ∷ 0x4c ∷ 0x6a ∷ 0x61 ∷ 0x76 ∷ 0x61 ∷ 0x2f ∷ 0x6c ∷ 0x61 ∷ 0x6e ∷ 0x67 ∷ 0x2f ∷ 0x53 ∷ 0x74 ∷ 0x72 ∷ 0x69 ∷ 0x6e
    ∷ 0x67 ∷ 0x3b ∷ 0x29 ∷ 0x56
    -- 7 Code
    ∷ 0x01 ∷ 0x00 ∷ 0x04 ∷ 0x43 ∷ 0x6f ∷ 0x64 ∷ 0x65
    -- flags, this class, its superclass, no interface, no field, one method
    ∷ 0x00 ∷ 0x21 ∷ 0x00 ∷ 0x02 ∷ 0x00 ∷ 0x04 ∷ 0x00 ∷ 0x00 ∷ 0x00 ∷ 0x00 ∷ 0x00 ∷ 0x01
    -- the method's flags, name and descriptor, one attribute
    ∷ 0x00 ∷ 0x09 ∷ 0x00 ∷ 0x05 ∷ 0x00 ∷ 0x06 ∷ 0x00 ∷ 0x01
    -- Code of 13 bytes: max_stack 0, max_locals 1, one byte of code, return, no handler, no attribute
    ∷ 0x00 ∷ 0x07 ∷ 0x00 ∷ 0x00 ∷ 0x00 ∷ 0x0d ∷ 0x00 ∷ 0x00 ∷ 0x00 ∷ 0x01 ∷ 0x00 ∷ 0x00 ∷ 0x00 ∷ 0x01 ∷ 0xb1 ∷ 0x00 ∷ 0x00 ∷ 0x00 ∷ 0x00
    -- no attribute of the class
    ∷ 0x00 ∷ 0x00 ∷ []

-- its constant pool
abbrev pub example_entries : List Entry
example_entries =
    entry.Second ∷ entry.Utf8 (codes "M") ∷ entry.Class 1 ∷ entry.Utf8 (codes "java/lang/Object") ∷ entry.Class 3 ∷ entry.Utf8 (codes "main")
    ∷ entry.Utf8 (codes "([Ljava/lang/String;)V") ∷ entry.Utf8 (codes "Code") ∷ []

-- the code of its main
abbrev pub example_code : Code
example_code = record {
  max_stack = 0;
  max_locals = 1;
  items = record { offset = 0; bytes = 177 ∷ []; insn = insn.Return None } ∷ [];
  length = 1;
  handlers = [];
  attributes = [];
}

-- its main
abbrev pub example_method : Member
example_method = record { flags = 9; name = 5; descriptor = 6; attributes = attribute.Coded 7 example_code ∷ [] }

-- the record of the class file
abbrev pub example_record : ClassDef
example_record = record {
  minor = 0;
  major = 49;
  pool = record { entries = example_entries };
  flags = 33;
  this_class = 2;
  super_class = 4;
  interfaces = [];
  fields = [];
  methods = example_method ∷ [];
  attributes = [];
}

-- ---- neighbours that are no class files

-- the length of the Code attribute is one short
abbrev pub short_length_bytes : List ℕ
short_length_bytes = slice_set example_bytes 103 12

-- the first entry has the tag 2, which isn't one
abbrev pub wrong_tag_bytes : List ℕ
wrong_tag_bytes = slice_set example_bytes 10 2

-- a byte follows
abbrev pub longer_bytes : List ℕ
longer_bytes = example_bytes ++ 0 ∷ []
