-- The keys by which names and types are hashed: a digest of all texts of the class files, and one of all types.
use Rattle.std.specs.Prelude.{ℕ, ◌+◌, List, [], ◌∷◌, ◌++◌, length}
use Rattle.std.specs.Hash.DefaultHasher as sip
use Rattle.std.specs.Int.{to_le_bytes, w64}
use Rattle.std.specs.List.{flat_map}
use Rattle.sha2.specs.Sha256.{sha256}
use Rattle.fm_base.specs.declared.kinds.Base.{Base}
use Rattle.fm_base.specs.declared.kinds.Base.TheVariants as base
use Rattle.fm_base.specs.declared.kinds.TypeRef.{TypeRef}
use Rattle.fm_code.specs.declared.class_file.ClassDef.{ClassDef}
use Rattle.fm_code.specs.declared.constant_pool.Entry.{Entry}
use Rattle.fm_code.specs.declared.constant_pool.Entry.TheVariants as entry
use Rattle.fm_world.specs.declared.name_key.NameKey.{NameKey}

-- the text that an entry is, after its length in eight bytes
abbrev pub framed_text : Entry → List ℕ
framed_text (entry.Utf8 text) = to_le_bytes w64 (length text) ++ text
framed_text e = []

-- all texts of class files in turn
abbrev pub framed_texts : List ClassDef → List ℕ
framed_texts given = flat_map (λ (c : ClassDef). flat_map framed_text c.pool.entries) given

-- the hasher that has taken the digest of all texts
abbrev pub key_of : List ClassDef → NameKey
key_of given = record { initial = sip.write sip.initial (sha256 (framed_texts given)) }

-- a base as a number: the letters, and then the classes
abbrev pub base_number : Base → ℕ
base_number base.Boolean = 0
base_number base.Byte = 1
base_number base.Char = 2
base_number base.Short = 3
base_number base.Int = 4
base_number base.Long = 5
base_number (base.OfClass class) = 6 + class.0

-- a type's dimensions in a byte and its base in eight
abbrev pub type_bytes : TypeRef → List ℕ
type_bytes t = t.dims ∷ to_le_bytes w64 (base_number t.base)

-- how many classes there are, how many types are named, these types, and those that are made
abbrev pub framed_types : ℕ → List TypeRef → List TypeRef → List ℕ
framed_types classes named made =
    to_le_bytes w64 classes ++ to_le_bytes w64 (length named) ++ flat_map type_bytes named ++ flat_map type_bytes made

-- the hasher that has taken the digest of all types
abbrev pub key_of_types : ℕ → List TypeRef → List TypeRef → NameKey
key_of_types classes named made = record { initial = sip.write sip.initial (sha256 (framed_types classes named made)) }
