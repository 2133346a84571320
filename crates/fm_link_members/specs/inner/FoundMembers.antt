-- What is found in the tables of members, by numbers only.
use Rattle.std.specs.Prelude.{ℕ, ◌-◌, ◌==◌, ◌&&◌, not, Bool, false, List, drop, Option, Some, None, slice_get, if◌then◌else◌}
use Rattle.std.specs.List.{slice_index_or}
use Rattle.std.specs.Option.{option_and_then, unwrap_or}
use Rattle.fm_code.specs.AccessFlags.{is_private, is_static}
use Rattle.fm_world.specs.Chains.{first_found}
use Rattle.fm_world.specs.Lookups.{is_interface_at}
use Rattle.fm_link_supers.specs.declared.hierarchy.Hierarchy.{Hierarchy}
use Rattle.fm_link_members.specs.declared.lookups.Fields.{Fields}
use Rattle.fm_link_members.specs.declared.lookups.Methods.{Methods}
use Rattle.fm_link_members.specs.declared.members.MemberRow.{MemberRow}
use Rattle.fm_link_members.specs.declared.members.Nearest.{Nearest}
use Rattle.fm_link_members.specs.declared.search_starts.SearchStarts.{SearchStarts}
use Rattle.fm_link_supers.specs.inner.Hierarchy.{completing_in, is_superclass_in}
use Rattle.fm_link_supers.specs.inner.ListTables.{list_in}
use Rattle.fm_link_members.specs.inner.MemberRows.{section_of}
use Rattle.fm_link_members.specs.inner.MemberTables.{first_from, flags_of, nearest_in, number_of_key, own_in, start_in}
use Rattle.fm_link_members.specs.inner.NearestSteps.{is_signed, or_else}
use Rattle.fm_link_members.specs.inner.Overriding.{is_restricted_in, overriding_in}

-- the mark at a place; past the end none is set
abbrev pub is_marked : List Bool → ℕ → Bool
is_marked marks place = slice_index_or marks place false

-- the first member of the signature that a class of the list declares, from the noted place on
abbrev pub first_along : Nearest → List MemberRow → SearchStarts → ℕ → List ℕ → ℕ → Option ℕ
first_along n rows s class list signature = first_found (own_in n rows signature) (drop (start_in s class signature) list)

-- the field of a signature from a class on
abbrev pub field_in : Fields → Hierarchy → ℕ → ℕ → Option ℕ
field_in f h class signature =
    if is_marked f.in_interfaces.items signature
    then first_along f.nearest f.members.rows.items f.starts class (list_in h.paths.items class) signature
    else nearest_in f.nearest class signature

-- the class's own method of a signature
abbrev pub own_method_in : Methods → ℕ → ℕ → Option ℕ
own_method_in m signature class = own_in m.nearest m.members.rows.items signature class

-- the first method of the signature that an interface of the list declares, from the noted place of the class on
abbrev pub interface_method_in : Methods → ℕ → List ℕ → ℕ → Option ℕ
interface_method_in m class list signature = first_along m.nearest m.members.rows.items m.starts class list signature

-- the constructor of a signature of a class, or else of the class that completes it
abbrev pub constructor_in : Methods → Hierarchy → ℕ → ℕ → Option ℕ
constructor_in m h signature class =
    or_else (own_method_in m signature class) (option_and_then (own_method_in m signature) (completing_in h class))

-- the method of a class's superinterfaces; of those of an interface, or of Object
abbrev pub method_above_in : Methods → Hierarchy → ℕ → ℕ → Option ℕ
method_above_in m h class signature =
    if is_interface_at h.classes.now class
    then or_else (interface_method_in m class (list_in h.above.items class) signature) (option_and_then (own_method_in m signature) h.object)
    else interface_method_in m class (list_in h.interfaces.items class) signature

-- the method of a signature from a class or an interface on
abbrev pub method_in : Methods → Hierarchy → ℕ → ℕ → Option ℕ
method_in m h class signature =
    or_else (if is_interface_at h.classes.now class then own_method_in m signature class else nearest_in m.nearest class signature)
    (method_above_in m h class signature)

-- the nearest method of objects in the superclasses of a class
abbrev pub above_in : Methods → Hierarchy → ℕ → ℕ → Option ℕ
above_in m h caller method =
    option_and_then (λ parent. option_and_then (nearest_in m.of_objects parent) (slice_get m.signatures.of_members.items method))
    (slice_index_or h.parents.items caller None)

-- the method's name is <init>
abbrev pub is_constructor_in : Methods → ℕ → Bool
is_constructor_in m method = named (slice_get m.members.rows.items method) where
  named : Option MemberRow → Bool
  named None = false
  named (Some row) = row.name == m.constructor

-- a special call searches from the caller's superclass
abbrev pub searches_in : Methods → Hierarchy → ℕ → Option ℕ → ℕ → Bool
searches_in m h caller None method = false
searches_in m h caller (Some named) method = not (is_constructor_in m method) && is_superclass_in h caller named

-- ---- what the public calls return

-- the field of a name and a descriptor from a class on
abbrev pub field_found_in : Fields → Hierarchy → Option ℕ → ℕ → ℕ → Option ℕ
field_found_in f h class name descriptor =
    option_and_then (λ c. option_and_then (field_in f h c) (number_of_key f.signatures.numbers name descriptor)) class

-- the method of a name and a descriptor: a constructor of the named class or of what completes it, another one from the class that is searched on
abbrev pub method_found_in : Methods → Hierarchy → Option ℕ → Option ℕ → ℕ → ℕ → Option ℕ
method_found_in m h named searched name descriptor =
    option_and_then (λ signature.
    if name == m.constructor then option_and_then (constructor_in m h signature) named
    else option_and_then (λ class. method_in m h class signature) searched)
    (number_of_key m.signatures.numbers name descriptor)

-- the nearest method of the signature, or the nearest one by which the method is overridden where that is restricted
abbrev pub selected_by : Methods → Hierarchy → ℕ → ℕ → ℕ → Option ℕ
selected_by m h class method signature =
    if is_restricted_in m h method then first_found (overriding_in m h method signature) (list_in h.chains.items class)
    else nearest_in m.selectable class signature

-- the method itself where it is private, and else the nearest one that overrides it
abbrev pub selected_in : Methods → Hierarchy → ℕ → ℕ → Option ℕ
selected_in m h class method =
    if is_private (flags_of m.members.rows.items method) then Some method
    else option_and_then (selected_by m h class method) (slice_get m.signatures.of_members.items method)

-- the nearest method above the caller where a special call searches there, and else the method itself
abbrev pub special_in : Methods → Hierarchy → ℕ → Option ℕ → ℕ → ℕ
special_in m h caller named method = if searches_in m h caller named method then unwrap_or (above_in m h caller method) method else method

-- the first static method of a signature that the class declares
abbrev pub own_static_in : Methods → ℕ → ℕ → Option ℕ
own_static_in m signature class =
    first_from (is_signed m.members.rows.items m.signatures.of_members.items is_static signature)
    ((section_of m.members.first.items class).1 - (section_of m.members.first.items class).0) (section_of m.members.first.items class).0

-- the first static method of a name and a descriptor that one of the classes declares
abbrev pub static_among_in : Methods → List ℕ → ℕ → ℕ → Option ℕ
static_among_in m classes name descriptor =
    option_and_then (λ signature. first_found (own_static_in m signature) classes) (number_of_key m.signatures.numbers name descriptor)
