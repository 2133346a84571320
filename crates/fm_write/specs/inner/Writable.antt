-- What a record has to meet so that its bytes can be written: counts, lengths and offsets fit their bytes. Each record that bytes spell meets it.
use Rattle.std.specs.Prelude.{ℕ, ◌≤◌, length}
use Rattle.std.specs.List.{AllByRecursion}
use Rattle.fm_code.specs.ClassBytes.{code_bytes, offset_of, pool_bytes}
use Rattle.fm_code.specs.ConstantPool.{SpellsPool}
use Rattle.fm_code.specs.Fits.{FitsTwo, FitsFour, CountedFits, RawFits}
use Rattle.fm_code.specs.declared.class_file.ClassDef.{ClassDef}
use Rattle.fm_code.specs.declared.class_file.Member.{Member}
use Rattle.fm_code.specs.declared.class_file.MemberAttr.{MemberAttr}
use Rattle.fm_code.specs.declared.class_file.MemberAttr.TheVariants as attribute
use Rattle.fm_code.specs.declared.code_array.Code.{Code}
use Rattle.fm_code.specs.declared.code_array.CodeAttr.{CodeAttr}
use Rattle.fm_code.specs.declared.code_array.CodeAttr.TheVariants as code_attribute
use Rattle.fm_code.specs.declared.code_array.Var.{Var}

-- the offset of each item, and the length of the code
pub record OffsetsFit (code : Code) : Type 0 where
  pub each : (index : ℕ) → FitsTwo (offset_of code index)

-- a variable's range doesn't end before it begins
abbrev pub RangeRises : Code → Var → Type 0
RangeRises code v = offset_of code v.start ≤ offset_of code v.end

abbrev pub CodeAttrIsWritable : Code → CodeAttr → Type 0
CodeAttrIsWritable code (code_attribute.Lines name lines) = FitsTwo (length lines)
CodeAttrIsWritable code (code_attribute.Vars name types vars) = FitsTwo (length vars) × AllByRecursion (RangeRises code) vars
CodeAttrIsWritable code (code_attribute.Other raw) = RawFits raw

pub record CodeAttrsAreWritable (code : Code) : Type 0 where
  pub offsets : OffsetsFit code
  pub attributes : CountedFits (CodeAttrIsWritable code) code.attributes

pub record CodeIsWritable (code : Code) : Type 0 where
  pub attributes : CodeAttrsAreWritable code
  pub handlers : FitsTwo (length code.handlers)
  pub size : FitsFour (length (code_bytes code))

abbrev pub MemberAttrIsWritable : MemberAttr → Type 0
MemberAttrIsWritable (attribute.Constant name value) = Unit {0}
MemberAttrIsWritable (attribute.Coded name code) = CodeIsWritable code
MemberAttrIsWritable (attribute.Other raw) = RawFits raw

abbrev pub MemberIsWritable : Member → Type 0
MemberIsWritable m = CountedFits MemberAttrIsWritable m.attributes

pub record ClassIsWritable (c : ClassDef) : Type 0 where
  pub pool : SpellsPool (pool_bytes c.pool) c.pool
  pub interfaces : FitsTwo (length c.interfaces)
  pub fields : CountedFits MemberIsWritable c.fields
  pub methods : CountedFits MemberIsWritable c.methods
  pub attributes : CountedFits RawFits c.attributes
