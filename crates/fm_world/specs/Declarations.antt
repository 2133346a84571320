-- What a class declares, built in or given, as records of the code: all of it but code (JVMS 4.1, 4.5, 4.6). A class goes by the names that it
-- names, and a built-in method by the number of its row.
use Rattle.std.specs.Prelude.{ℕ, ◌+◌, false, List, [], ◌∷◌, map, Option, Some, None, is_some, unwrap_or, bit_or, if◌then◌else◌}
use Rattle.fm_code.specs.AccessFlags.{is_static}
use Rattle.fm_code.specs.ConstantPool.{entry_at, utf8_at, class_name_at}
use Rattle.fm_world.specs.BuiltIns.{built_in}
use Rattle.fm_world.specs.Descriptors.{class_number}
use Rattle.fm_world.specs.declared.declarations.Constant.{Constant}
use Rattle.fm_world.specs.declared.declarations.Constant.TheVariants as constant
use Rattle.fm_world.specs.declared.declarations.DeclaredClass.{DeclaredClass}
use Rattle.fm_world.specs.declared.declarations.DeclaredField.{DeclaredField}
use Rattle.fm_world.specs.declared.declarations.DeclaredMethod.{DeclaredMethod}
use Rattle.fm_code.specs.declared.constant_pool.Entry.{Entry}
use Rattle.fm_code.specs.declared.constant_pool.Entry.TheVariants as entry
use Rattle.fm_code.specs.declared.access_flags.TheConstants.{ACC_ABSTRACT}
use Rattle.fm_code.specs.declared.class_file.ClassDef.{ClassDef}
use Rattle.fm_code.specs.declared.class_file.Member.{Member}
use Rattle.fm_code.specs.declared.class_file.MemberAttr.{MemberAttr}
use Rattle.fm_code.specs.declared.class_file.MemberAttr.TheVariants as attribute

-- ---- where there is none

-- the value for a member or a class whose number is too high: none of the program is like it
abbrev pub no_field : DeclaredField
no_field = record { name = []; descriptor = []; flags = 0; value = None }

-- the method of a number that no method has
abbrev pub no_method : DeclaredMethod
no_method = record { name = []; descriptor = []; flags = 0; row = None }

-- the class of a number that no class has
abbrev pub no_class : DeclaredClass
no_class = record { name = []; superclass = None; interfaces = []; flags = 0; hidden = false; fields = []; methods = []; file = None }

-- ---- what a class file declares

-- the text at an index, and the name of the class at one; in a class file that is spelled there is one
abbrev pub text_at : List Entry → ℕ → List ℕ
text_at entries index = unwrap_or (utf8_at entries index) []

-- the name of the class that an index names
abbrev pub name_at : List Entry → ℕ → List ℕ
name_at entries index = unwrap_or (class_name_at entries index) []

-- the value that an entry of a pool gives to a field of its kind
abbrev pub constant_at : List Entry → ℕ → Option Constant
constant_at entries index = constant_of (entry_at entries index) where
  constant_of : Entry → Option Constant
  constant_of (entry.Integer value) = Some (constant.Int value)
  constant_of (entry.Long value) = Some (constant.Long value)
  constant_of (entry.Text units) = Some (constant.Text (text_at entries units))
  constant_of e = None

-- the value that the first ConstantValue among the attributes gives
abbrev pub first_constant : List Entry → List MemberAttr → Option Constant
first_constant entries [] = None
first_constant entries (attribute.Constant name value ∷ attributes) = constant_at entries value
first_constant entries (a ∷ attributes) = first_constant entries attributes

-- a ConstantValue of an instance field has no effect
abbrev pub declared_field : List Entry → Member → DeclaredField
declared_field entries m = record {
  name = text_at entries m.name;
  descriptor = text_at entries m.descriptor;
  flags = m.flags;
  value = (if is_static m.flags then first_constant entries m.attributes else None);
}

-- a method as its file declares it
abbrev pub declared_method : List Entry → Member → DeclaredMethod
declared_method entries m = record { name = text_at entries m.name; descriptor = text_at entries m.descriptor; flags = m.flags; row = None }

-- the flags of a file's class; what completes a built-in class has no objects: these are of the class that it completes
abbrev pub declared_flags : ClassDef → ℕ
declared_flags c =
    if is_some (class_number built_in (name_at c.pool.entries c.this_class)) then bit_or c.flags ACC_ABSTRACT else c.flags

-- the class of a file; super_class 0 names none
abbrev pub declared_of : ℕ → ClassDef → DeclaredClass
declared_of file c = record {
  name = name_at c.pool.entries c.this_class;
  superclass = class_name_at c.pool.entries c.super_class;
  interfaces = map (name_at c.pool.entries) c.interfaces;
  flags = declared_flags c;
  hidden = false;
  fields = map (declared_field c.pool.entries) c.fields;
  methods = map (declared_method c.pool.entries) c.methods;
  file = Some file;
}

-- the classes of the files, which are numbered from this one on
abbrev pub declared_from : ℕ → List ClassDef → List DeclaredClass
declared_from file [] = []
declared_from file (c ∷ given) = declared_of file c ∷ declared_from (file + 1) given
