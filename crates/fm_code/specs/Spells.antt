-- What it means that bytes are the class file of a record (JVMS 4.1 to 4.10).
use Rattle.std.specs.Prelude.{◌≡◌, ℕ, ◌⊎◌, true, List, IsSome, IsSomeAnd}
use Rattle.std.specs.List.{AllByRecursion}
use Rattle.fm_code.specs.AccessFlags.{is_interface}
use Rattle.fm_code.specs.ClassBytes.{pool_bytes, class_bytes}
use Rattle.fm_code.specs.ConstantPool.{SpellsPool, utf8_at, class_name_at}
use Rattle.fm_code.specs.Fits.{ClassFits}
use Rattle.fm_code.specs.Members.{FieldIsValid, MethodIsValid, AreDistinct}
use Rattle.fm_code.specs.Names.{is_binary_name}
use Rattle.fm_code.specs.declared.class_file.ClassDef.{ClassDef}
use Rattle.fm_code.specs.declared.class_file.Raw.{Raw}

-- the bytes are those of the record, and the record meets each rule of a class file
pub record Spells (bytes : List ℕ) (c : ClassDef) : Type 0 where
  pub bytes_are : bytes ≡ class_bytes c
  pub fits : ClassFits c
  pub pool : SpellsPool (pool_bytes c.pool) c.pool
  -- the class names itself, and is no array
  pub this_class : IsSomeAnd (class_name_at c.pool.entries c.this_class) (λ name. is_binary_name name ≡ true)
  -- 0, or a class
  pub super_class : (c.super_class ≡ 0) ⊎ IsSome (class_name_at c.pool.entries c.super_class)
  pub interfaces : AllByRecursion (λ index. IsSome (class_name_at c.pool.entries index)) c.interfaces
  pub fields : AllByRecursion (FieldIsValid (is_interface c.flags) c.pool.entries) c.fields
  pub distinct_fields : AreDistinct c.pool.entries c.fields
  pub methods : AllByRecursion (MethodIsValid (is_interface c.flags) c.pool.entries) c.methods
  pub distinct_methods : AreDistinct c.pool.entries c.methods
  pub attributes : AllByRecursion (λ (raw : Raw). IsSome (utf8_at c.pool.entries raw.name)) c.attributes

-- some bytes spell the record
abbrev pub HasSpelling : ClassDef → Type 0
HasSpelling c = (bytes : List ℕ) × Spells bytes c
