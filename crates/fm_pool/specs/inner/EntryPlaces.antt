-- Where the entries of a method are in a pool, and how those that are missing are put behind the others. It only serves the proofs.
use Rattle.std.specs.Prelude.{ℕ, ◌+◌, List, Option, Some, None}
use Rattle.fm_code.specs.ConstantPool.{MemberName}
use Rattle.fm_code.specs.FreeEntries.{index_of, of_method, of_name_and_type, of_utf8, placed}
use Rattle.fm_code.specs.declared.constant_pool.Entry.{Entry}
use Rattle.fm_code.specs.declared.constant_pool.Entry.TheVariants as entry
use Rattle.fm_pool.specs.declared.sought.MethodPlaces.{MethodPlaces}

-- ---- where they are

-- a method by its class, name and descriptor
abbrev pub method_name : (class name descriptor : List ℕ) → MemberName
method_name class name descriptor = record { class = class; name = name; descriptor = descriptor }

-- where its entries are, if they are there
abbrev pub method_places : List Entry → MemberName → MethodPlaces
method_places entries m = record {
  name = index_of entries (of_utf8 m.name);
  descriptor = index_of entries (of_utf8 m.descriptor);
  pair = index_of entries (of_name_and_type m.name m.descriptor);
  method = index_of entries (of_method m);
}

-- the same places, but that the descriptor is at this index
abbrev pub with_descriptor : MethodPlaces → ℕ → MethodPlaces
with_descriptor p index = record p { descriptor = Some index }

-- ---- how many are missing

-- an entry that isn't found takes one index more
abbrev pub missing_at : Option ℕ → ℕ
missing_at (Some index) = 0
missing_at None = 1

-- how many of the four entries of a method
abbrev pub missing_of : MethodPlaces → ℕ
missing_of p = missing_at p.name + missing_at p.descriptor + missing_at p.pair + missing_at p.method

-- ---- how they are put

-- the index of a method's Methodref, that of its descriptor, and what is missing then
pub record MethodPlaced : Type 0 where
  pub method : ℕ
  pub descriptor : ℕ
  pub missing : List Entry

-- of these parts
abbrev pub placed_at : (method descriptor : ℕ) → List Entry → MethodPlaced
placed_at method descriptor missing = record { method = method; descriptor = descriptor; missing = missing }

-- the entries of a method, whose class has this index, are put behind what is missing so far: name, descriptor, both, and the Methodref
abbrev pub method_placed : (count : ℕ) → List Entry → (class : ℕ) → (name descriptor : List ℕ) → MethodPlaces → MethodPlaced
method_placed count missing class name descriptor p =
    let n = placed count missing (entry.Utf8 name) p.name in
    let d = placed count n.missing (entry.Utf8 descriptor) p.descriptor in
    let pair = placed count d.missing (entry.NameAndType n.index d.index) p.pair in
    let method = placed count pair.missing (entry.Method class pair.index) p.method in
    placed_at method.index d.index method.missing
