-- The entries of a constant pool by which instructions call the static method FreeMe.free(Ljava/lang/Object;)V.
use Rattle.std.specs.Prelude.{ℕ, ◌+◌, ◌&&◌, Bool, false, List, [], ◌∷◌, ◌++◌, length, codes, Option, Some, None, position}
use Rattle.std.specs.Str.{bytes_eq}
use Rattle.fm_code.specs.ConstantPool.{utf8_at, class_name_at, named_and_typed_at, MemberName}
use Rattle.fm_code.specs.declared.constant_pool.Entry.{Entry}
use Rattle.fm_code.specs.declared.constant_pool.Entry.TheVariants as entry

-- ---- entries by their content

-- the content of an entry: its tag, and its own text or the texts to which its indices lead
pub data Content : Type 0 where
  of_utf8 : List ℕ → Content
  of_class : List ℕ → Content
  of_name_and_type : List ℕ → List ℕ → Content
  of_method : MemberName → Content

-- whether there is a text, and it is this one
abbrev pub is_some_text : Option (List ℕ) → List ℕ → Bool
is_some_text None text = false
is_some_text (Some found) text = bytes_eq found text

-- whether there are a name and a descriptor, and they are these
abbrev pub is_some_pair : Option (List ℕ × List ℕ) → List ℕ → List ℕ → Bool
is_some_pair None name descriptor = false
is_some_pair (Some pair) name descriptor = bytes_eq pair.0 name && bytes_eq pair.1 descriptor

-- whether an entry has the content; indices of equal texts count alike, and a method of an interface is none of a class
abbrev pub has_content : List Entry → Content → Entry → Bool
has_content entries (of_utf8 text) (entry.Utf8 name) = bytes_eq name text
has_content entries (of_class text) (entry.Class name) = is_some_text (utf8_at entries name) text
has_content entries (of_name_and_type name descriptor) (entry.NameAndType n d) = is_some_text (utf8_at entries n) name && is_some_text (utf8_at entries d) descriptor
has_content entries (of_method m) (entry.Method class member) =
    is_some_text (class_name_at entries class) m.class && is_some_pair (named_and_typed_at entries member) m.name m.descriptor
has_content entries content e = false

-- the lowest index whose entry has the content, where one has it
abbrev pub index_of : List Entry → Content → Option ℕ
index_of entries content = position (has_content entries content) entries

-- ---- found, or missing

-- the index of an entry that is looked for, and the entries that are missing so far
pub record Sought : Type 0 where
  pub index : ℕ
  pub missing : List Entry

-- an entry by where it is found in a pool of a given number of indices; where it isn't, it is missing too, and its index is the next one
abbrev pub placed : ℕ → List Entry → Entry → Option ℕ → Sought
placed count missing e (Some index) = record { index = index; missing = missing }
placed count missing e None = record { index = count + length missing; missing = missing ++ e ∷ [] }

-- the content is looked for among the entries of the pool alone
abbrev pub sought : List Entry → List Entry → Content → Entry → Sought
sought entries missing content e = placed (length entries) missing e (index_of entries content)

-- the name of the class
abbrev pub free_class : List ℕ
free_class = codes "FreeMe"

-- the name of its method
abbrev pub free_name : List ℕ
free_name = codes "free"

-- the descriptor of the method
abbrev pub free_descriptor : List ℕ
free_descriptor = codes "(Ljava/lang/Object;)V"

-- the method
abbrev pub free_method : MemberName
free_method = record { class = free_class; name = free_name; descriptor = free_descriptor }

-- ---- the six entries in turn, each with what is missing of it and of those before

-- the text of the class
unfoldable pub sought_class_text : List Entry → Sought
sought_class_text entries = sought entries [] (of_utf8 free_class) (entry.Utf8 free_class)

-- the class
unfoldable pub sought_class : List Entry → Sought
sought_class entries = let text = sought_class_text entries in sought entries text.missing (of_class free_class) (entry.Class text.index)

-- the name
unfoldable pub sought_name : List Entry → Sought
sought_name entries = sought entries (sought_class entries).missing (of_utf8 free_name) (entry.Utf8 free_name)

-- the descriptor
unfoldable pub sought_descriptor : List Entry → Sought
sought_descriptor entries = sought entries (sought_name entries).missing (of_utf8 free_descriptor) (entry.Utf8 free_descriptor)

-- the name with the descriptor
unfoldable pub sought_pair : List Entry → Sought
sought_pair entries =
    let descriptor = sought_descriptor entries in
    sought entries descriptor.missing (of_name_and_type free_name free_descriptor) (entry.NameAndType (sought_name entries).index descriptor.index)

-- the last one is the Methodref of FreeMe.free
unfoldable pub sought_free : List Entry → Sought
sought_free entries = let pair = sought_pair entries in sought entries pair.missing (of_method free_method) (entry.Method (sought_class entries).index pair.index)

-- the pool with what was missing
abbrev pub with_free : List Entry → List Entry
with_free entries = entries ++ (sought_free entries).missing
