-- The main class and its main method, by the tables.
use Rattle.std.specs.Prelude.{◌≡◌, ℕ, ◌-◌, ◌&&◌, Bool, false, List, codes, Option, None, Some, option_and_then, option_map, slice_get}
use Rattle.std.specs.Str.{bytes_eq}
use Rattle.fm_code.specs.AccessFlags.{is_static}
use Rattle.fm_code.specs.declared.class_file.ClassDef.{ClassDef}
use Rattle.fm_link_names.specs.inner.Numbering.{text_of, texts_in}
use Rattle.fm_link_members.specs.declared.members.MemberRow.{MemberRow}
use Rattle.fm_link_supers.specs.inner.ListTables.{list_in}
use Rattle.fm_link_members.specs.inner.MemberRows.{section_of}
use Rattle.fm_link_members.specs.inner.MemberTables.{first_from}
use Rattle.fm_link_refusals.specs.declared.linking.Linking.{Linking}
use Rattle.fm_world.specs.Chains.{first_found, given_number}
use Rattle.fm_world.specs.Programs.{classes_of, main_of}
use Rattle.fm_world.specs.declared.declarations.DeclaredClass.{DeclaredClass}

-- ---- by names

-- the name of a main method
abbrev pub main_name : List ℕ
main_name = codes "main"

-- its descriptor
abbrev pub main_descriptor : List ℕ
main_descriptor = codes "([Ljava/lang/String;)V"

-- the class of that name with its main method, where there are both
abbrev pub main_found : List DeclaredClass → List ℕ → Option (ℕ × ℕ)
main_found classes name = option_and_then (λ class. option_map (λ method. (class, method)) (main_of classes class)) (given_number classes name)

-- ---- by the tables

-- a static main([Ljava/lang/String;)V
abbrev pub is_main_row : List (List ℕ) → MemberRow → Bool
is_main_row texts row =
    bytes_eq (text_of texts row.name) main_name && bytes_eq (text_of texts row.descriptor) main_descriptor && is_static row.flags

-- the same of a row that may be missing
abbrev pub is_main_in : List (List ℕ) → Option MemberRow → Bool
is_main_in texts None = false
is_main_in texts (Some row) = is_main_row texts row

-- the same of the member of a number
abbrev pub is_main_at : List (List ℕ) → List MemberRow → ℕ → Bool
is_main_at texts rows member = is_main_in texts (slice_get rows member)

-- the first one among members that are together
abbrev pub main_between : List (List ℕ) → List MemberRow → ℕ × ℕ → Option ℕ
main_between texts rows section = first_from (is_main_at texts rows) (section.1 - section.0) section.0

-- that of a class
abbrev pub own_main_in : Linking → ℕ → Option ℕ
own_main_in l class = main_between (texts_in l.texts.now) l.methods.now.members.rows.items (section_of l.methods.now.members.first.items class)

-- the first one of a class and its superclasses
abbrev pub main_method_in : Linking → ℕ → Option ℕ
main_method_in l class = first_found (own_main_in l) (list_in l.hierarchy.now.chains.items class)

-- these are the program's main class and its main method
pub record AreMain (given : List ClassDef) (main : List ℕ) (found : ℕ × ℕ) : Type 0 where
  pub class_is : given_number (classes_of given) main ≡ Some found.0
  pub method_is : main_of (classes_of given) found.0 ≡ Some found.1
