-- The class of a version, a constant pool and the parts after it.
use Rattle.std.specs.Prelude.{◌≡◌, ℕ, ◌⊎◌, true, List, ◌++◌, IsSome, IsSomeAnd}
use Rattle.std.specs.List.{AllByRecursion}
use Rattle.fm_code.specs.AccessFlags.{is_interface}
use Rattle.fm_code.specs.ClassBytes.{pool_bytes}
use Rattle.fm_code.specs.ConstantPool.{SpellsPool, utf8_at, class_name_at}
use Rattle.fm_code.specs.Names.{is_binary_name}
use Rattle.fm_code.specs.declared.constant_pool.Entry.{Entry}
use Rattle.fm_code.specs.declared.constant_pool.Pool.{Pool}
use Rattle.fm_code.specs.declared.class_file.ClassDef.{ClassDef}
use Rattle.fm_code.specs.declared.class_file.Member.{Member}
use Rattle.fm_code.specs.declared.class_file.Raw.{Raw}
use Rattle.fm_code.specs.declared.cursor.AttributeParts.{AttributeParts}
use Rattle.fm_read.specs.declared.head.Version.{Version}
use Rattle.fm_read.specs.inner.Parts.{RawBody}
use Rattle.fm_read.specs.inner.Rules.{AreFieldsOf, AreMethodsOf}

-- the bytes begin with the pool, and go on with the rest
pub record StartsWithPool (bytes : List ℕ) (pool : Pool) (rest : List ℕ) : Type 0 where
  pub bytes_are : bytes ≡ pool_bytes pool ++ rest
  pub spelled : SpellsPool (pool_bytes pool) pool

-- 0, or the index of a class
abbrev pub IsSuperclass : List Entry → ℕ → Type 0
IsSuperclass entries index = (index ≡ 0) ⊎ IsSome (class_name_at entries index)

-- the indices of classes
abbrev pub AreClasses : List Entry → List ℕ → Type 0
AreClasses entries indices = AllByRecursion (λ index. IsSome (class_name_at entries index)) indices

-- the name of each attribute is a text
abbrev pub HaveNames : List Entry → List Raw → Type 0
HaveNames entries raws = AllByRecursion (λ (raw : Raw). IsSome (utf8_at entries raw.name)) raws

-- the same of attributes that are cut and not read yet
abbrev pub PartsHaveNames : List Entry → List AttributeParts → Type 0
PartsHaveNames entries attributes = AllByRecursion (λ (a : AttributeParts). IsSome (utf8_at entries a.name)) attributes

-- what a class names by itself is there (JVMS 4.1)
pub record HasValidNames (entries : List Entry) (body : RawBody) : Type 0 where
  pub this_class : IsSomeAnd (class_name_at entries body.this_class) (λ name. is_binary_name name ≡ true)
  pub super_class : IsSuperclass entries body.super_class
  pub interfaces : AreClasses entries body.interfaces
  pub attributes : HaveNames entries body.attributes

-- the record of the parts, and of the fields and the methods that were read of them
abbrev pub class_made : Version → Pool → RawBody → List Member → List Member → ClassDef
class_made version pool body fields methods =
    record {
      minor = version.minor;
      major = version.major;
      pool = pool;
      flags = body.flags;
      this_class = body.this_class;
      super_class = body.super_class;
      interfaces = body.interfaces;
      fields = fields;
      methods = methods;
      attributes = body.attributes;
    }

-- the class has these parts, and meets each rule but those of the pool
pub record IsClassOf (version : Version) (pool : Pool) (body : RawBody) (c : ClassDef) : Type 0 where
  pub made : c ≡ class_made version pool body c.fields c.methods
  pub names : HasValidNames pool.entries body
  pub fields : AreFieldsOf (is_interface body.flags) pool.entries body.fields c.fields
  pub methods : AreMethodsOf (is_interface body.flags) pool.entries body.methods c.methods
