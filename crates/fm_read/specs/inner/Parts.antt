-- A class file cut into its parts: each attribute is its name and its bytes, whatever it means.
use Rattle.std.specs.Prelude.{ℕ, List, map}
use Rattle.fm_code.specs.ClassBytes.{code_bytes}
use Rattle.fm_code.specs.Fits.{CountedFits, FitsTwo, RawFits}
use Rattle.fm_code.specs.Numbers.{two}
use Rattle.fm_code.specs.inner.Reading.{attribute_view}
use Rattle.fm_code.specs.declared.class_file.ClassDef.{ClassDef}
use Rattle.fm_code.specs.declared.class_file.Member.{Member}
use Rattle.fm_code.specs.declared.class_file.MemberAttr.{MemberAttr}
use Rattle.fm_code.specs.declared.class_file.MemberAttr.TheVariants as attribute
use Rattle.fm_code.specs.declared.class_file.Raw.{Raw}
use Rattle.fm_read.specs.declared.parts.MemberParts.{MemberParts}
use Rattle.fm_read.specs.declared.parts.BodyParts.{BodyParts}

-- a field or a method
pub record RawMember : Type 0 where
  pub flags : ℕ
  pub name : ℕ
  pub descriptor : ℕ
  pub attributes : List Raw

-- what a class file has after its constant pool
pub record RawBody : Type 0 where
  pub flags : ℕ
  pub this_class : ℕ
  pub super_class : ℕ
  pub interfaces : List ℕ
  pub fields : List RawMember
  pub methods : List RawMember
  pub attributes : List Raw

-- ---- the parts that the code cuts

abbrev pub member_view : MemberParts → RawMember
member_view m = record { flags = m.flags; name = m.name; descriptor = m.descriptor; attributes = map attribute_view m.attributes.items }

abbrev pub body_view : BodyParts → RawBody
body_view b =
    record {
      flags = b.flags;
      this_class = b.this_class;
      super_class = b.super_class;
      interfaces = b.interfaces.items;
      fields = map member_view b.fields.items;
      methods = map member_view b.methods.items;
      attributes = map attribute_view b.attributes.items;
    }

-- ---- the parts of a record

-- an attribute by the bytes that spell what it means
abbrev pub raw_of_attribute : MemberAttr → Raw
raw_of_attribute (attribute.Constant name value) = record { name = name; bytes = two value }
raw_of_attribute (attribute.Coded name code) = record { name = name; bytes = code_bytes code }
raw_of_attribute (attribute.Other raw) = raw

abbrev pub raw_of_member : Member → RawMember
raw_of_member m = record { flags = m.flags; name = m.name; descriptor = m.descriptor; attributes = map raw_of_attribute m.attributes }

abbrev pub raw_of_class : ClassDef → RawBody
raw_of_class c =
    record {
      flags = c.flags;
      this_class = c.this_class;
      super_class = c.super_class;
      interfaces = c.interfaces;
      fields = map raw_of_member c.fields;
      methods = map raw_of_member c.methods;
      attributes = c.attributes;
    }

-- ---- numbers and lengths that fit the bytes that they are spelled in

pub record RawMemberFits (m : RawMember) : Type 0 where
  pub flags : FitsTwo m.flags
  pub name : FitsTwo m.name
  pub descriptor : FitsTwo m.descriptor
  pub attributes : CountedFits RawFits m.attributes

pub record RawBodyFits (b : RawBody) : Type 0 where
  pub flags : FitsTwo b.flags
  pub this_class : FitsTwo b.this_class
  pub super_class : FitsTwo b.super_class
  pub interfaces : CountedFits FitsTwo b.interfaces
  pub fields : CountedFits RawMemberFits b.fields
  pub methods : CountedFits RawMemberFits b.methods
  pub attributes : CountedFits RawFits b.attributes
