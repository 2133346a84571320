-- A record that some bytes spell can be written.
use Rattle.std.proofs.Common.{◌≡◌, ℕ, ◌≤◌, inl, inr, Bool, true, false, List, length, subst, sym, ◌∙◌, arith}
use Rattle.std.specs.List.{AllByRecursion}
use Rattle.std.proofs.lemmas.Bool.{cases_order}
use Rattle.fm_base.proofs.ListFacts.{AllByRecursion-both, AllByRecursion-weaker}
use Rattle.fm_code.specs.AccessFlags.{is_interface}
use Rattle.fm_code.specs.ClassBytes.{offset_of, class_bytes}
use Rattle.fm_code.specs.Fits.{CountedFits, CodeAttrFits, CodeFits, MemberAttrFits, MemberFits}
use Rattle.fm_code.specs.CodeRules.{VarIsValid, CodeAttrIsValid, CodeIsValid}
use Rattle.fm_code.specs.Members.{FieldAttrIsValid, FieldIsValid, MethodAttrIsValid, MethodIsValid}
use Rattle.fm_code.specs.Spells.{Spells}
use Rattle.fm_code.specs.declared.constant_pool.Entry.{Entry}
use Rattle.fm_code.specs.declared.class_file.ClassDef.{ClassDef}
use Rattle.fm_code.specs.declared.class_file.Member.{Member}
use Rattle.fm_code.specs.declared.class_file.MemberAttr.{MemberAttr}
use Rattle.fm_code.specs.declared.class_file.MemberAttr.TheVariants as attribute
use Rattle.fm_code.specs.declared.code_array.Code.{Code}
use Rattle.fm_code.specs.declared.code_array.CodeAttr.{CodeAttr}
use Rattle.fm_code.specs.declared.code_array.CodeAttr.TheVariants as code_attribute
use Rattle.fm_code.specs.declared.code_array.Var.{Var}
use Rattle.fm_code.proofs.CodeItems.{offset_le_end, offset_rises}
use Rattle.fm_code.proofs.CodePrefixes.{AreLaid-items}
use Rattle.fm_write.specs.inner.Writable.{OffsetsFit, RangeRises, CodeAttrIsWritable, CodeIsWritable, MemberAttrIsWritable, MemberIsWritable, ClassIsWritable}

OffsetsFit-code : (entries : List Entry) (code : Code) → CodeIsValid entries code → OffsetsFit code
OffsetsFit-code entries code valid = record {
  each = λ index. (let inside = offset_le_end 0 code.length code.items index (AreLaid-items entries code valid) in let short = valid.not_long in omega arith);
}

RangeRises-var : (entries : List Entry) (code : Code) → CodeIsValid entries code → (v : Var) → VarIsValid entries (length code.items) v → RangeRises code v
RangeRises-var entries code valid v v_valid =
    let start = v_valid.start in
    elim (cases_order v.start v.end) [
      | inl same ↦ subst (λ (end : ℕ). offset_of code v.start ≤ offset_of code end) same (omega arith)
      | inr (inl before) ↦ (let rises = offset_rises 0 code.length code.items v.start v.end (AreLaid-items entries code valid) before v_valid.end in omega arith)
      | inr (inr after) ↦ absurd (omega arith)
    ]

-- an attribute of the code
attribute_writable : (entries : List Entry) (code : Code) → CodeIsValid entries code → (a : CodeAttr) → CodeAttrFits a × CodeAttrIsValid entries (length code.items) a → CodeAttrIsWritable code a
attribute_writable entries code valid (code_attribute.Lines name lines) (fits, a_valid) = fits.1.count
attribute_writable entries code valid (code_attribute.Vars name false vars) (fits, a_valid) =
    (fits.1.count, AllByRecursion-weaker (VarIsValid entries (length code.items)) (RangeRises code) (RangeRises-var entries code valid) vars a_valid.1)
attribute_writable entries code valid (code_attribute.Vars name true vars) (fits, a_valid) =
    (fits.1.count, AllByRecursion-weaker (VarIsValid entries (length code.items)) (RangeRises code) (RangeRises-var entries code valid) vars a_valid.1)
attribute_writable entries code valid (code_attribute.Other raw) (fits, a_valid) = fits

code_writable : (entries : List Entry) (code : Code) → CodeFits code → CodeIsValid entries code → CodeIsWritable code
code_writable entries code fits valid =
    let both = AllByRecursion-both CodeAttrFits (CodeAttrIsValid entries (length code.items)) code.attributes fits.attributes.each valid.attributes in
    record {
      attributes = record {
        offsets = OffsetsFit-code entries code valid;
        attributes = record {
          count = fits.attributes.count;
          each = AllByRecursion-weaker (λ a. CodeAttrFits a × CodeAttrIsValid entries (length code.items) a) (CodeAttrIsWritable code) (attribute_writable entries code valid) code.attributes both;
        };
      };
      handlers = fits.handlers.count;
      size = fits.size;
    }

-- an attribute of a field, and one of a method
field_attribute_writable : (entries : List Entry) (a : MemberAttr) → MemberAttrFits a × FieldAttrIsValid entries a → MemberAttrIsWritable a
field_attribute_writable entries (attribute.Constant name value) (fits, valid) = tt
field_attribute_writable entries (attribute.Coded name code) (fits, valid) = absurd valid
field_attribute_writable entries (attribute.Other raw) (fits, valid) = fits

method_attribute_writable : (entries : List Entry) (a : MemberAttr) → MemberAttrFits a × MethodAttrIsValid entries a → MemberAttrIsWritable a
method_attribute_writable entries (attribute.Constant name value) (fits, valid) = tt
method_attribute_writable entries (attribute.Coded name code) (fits, valid) = code_writable entries code fits.1 valid.1
method_attribute_writable entries (attribute.Other raw) (fits, valid) = fits

-- a member, by its attributes
member_writable : (Valid : MemberAttr → Type 0) → ((a : MemberAttr) → MemberAttrFits a × Valid a → MemberAttrIsWritable a) →
    (m : Member) → MemberFits m → AllByRecursion Valid m.attributes → MemberIsWritable m
member_writable Valid writable m fits valid = record {
  count = fits.attributes.count;
  each = AllByRecursion-weaker (λ a. MemberAttrFits a × Valid a) MemberAttrIsWritable writable m.attributes
      (AllByRecursion-both MemberAttrFits Valid m.attributes fits.attributes.each valid);
}

-- members that fit, and of which a property gives that they can be written
members_writable : (Valid : Member → Type 0) → ((m : Member) → MemberFits m × Valid m → MemberIsWritable m) →
    (members : List Member) → CountedFits MemberFits members → AllByRecursion Valid members → CountedFits MemberIsWritable members
members_writable Valid writable members fits valid = record {
  count = fits.count;
  each = AllByRecursion-weaker (λ m. MemberFits m × Valid m) MemberIsWritable writable members (AllByRecursion-both MemberFits Valid members fits.each valid);
}

field_writable : (in_interface : Bool) (entries : List Entry) (m : Member) → MemberFits m × FieldIsValid in_interface entries m → MemberIsWritable m
field_writable in_interface entries m (fits, valid) =
    member_writable (FieldAttrIsValid entries) (field_attribute_writable entries) m fits valid.attributes

method_writable : (in_interface : Bool) (entries : List Entry) (m : Member) → MemberFits m × MethodIsValid in_interface entries m → MemberIsWritable m
method_writable in_interface entries m (fits, valid) =
    member_writable (MethodAttrIsValid entries) (method_attribute_writable entries) m fits valid.attributes

-- the whole class
pub class_writable : (bytes : List ℕ) (c : ClassDef) → Spells bytes c → ClassIsWritable c
class_writable bytes c spells =
    let entries = c.pool.entries in
    let in_interface = is_interface c.flags in
    record {
      pool = spells.pool;
      interfaces = spells.fits.interfaces.count;
      fields = members_writable (FieldIsValid in_interface entries) (field_writable in_interface entries) c.fields spells.fits.fields spells.fields;
      methods = members_writable (MethodIsValid in_interface entries) (method_writable in_interface entries) c.methods spells.fits.methods spells.methods;
      attributes = spells.fits.attributes;
    }

-- and the bytes of its record spell it
pub class_spelled : (bytes written : List ℕ) (c : ClassDef) → Spells bytes c → written ≡ class_bytes c → Spells written c
class_spelled bytes written c spells e = subst (λ (bs : List ℕ). Spells bs c) (spells.bytes_are ∙ sym e) spells
