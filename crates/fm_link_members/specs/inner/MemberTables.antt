-- The tables from which one reads which member a class has, or inherits, of a name with a descriptor. All members of one name with one descriptor go by the
-- number of the first one of them, which is their signature.
use Rattle.std.specs.Prelude.{◌≡◌, ℕ, zero, suc, ◌<◌, ◌&&◌, Bool, true, List, length, map, nat_eq, position, option_and_then, Option, Some, None, slice_get, slice_index, unwrap_or, if◌then◌else◌}
use Rattle.std.specs.BTreeMap.{BTreeMap, get_by}
use Rattle.std.specs.List.{slice_index_or}
use Rattle.std.specs.Ordering.{nat_cmp, ordering_then}
use Rattle.fm_world.specs.Chains.{chain_of, first_found, interfaces_of, superinterfaces_of}
use Rattle.fm_world.specs.Lookups.{any_flags, constructor_name, is_interface_at, is_selectable}
use Rattle.fm_world.specs.Members.{is_instance}
use Rattle.fm_world.specs.declared.declarations.DeclaredClass.{DeclaredClass}
use Rattle.fm_world.specs.inner.Layers.{value_at, HasRoom}
use Rattle.fm_link_members.specs.declared.lookups.Fields.{Fields}
use Rattle.fm_link_members.specs.declared.lookups.Methods.{Methods}
use Rattle.fm_link_members.specs.declared.members.MemberFilter.{MemberFilter}
use Rattle.fm_link_members.specs.declared.members.MemberFilter.TheVariants as kept
use Rattle.fm_link_members.specs.declared.members.MemberRow.{MemberRow}
use Rattle.fm_link_members.specs.declared.members.Nearest.{Nearest}
use Rattle.fm_link_members.specs.declared.members.Signatures.{Signatures}
use Rattle.fm_link_members.specs.declared.search_starts.SearchStarts.{SearchStarts}
use Rattle.fm_link_supers.specs.inner.Hierarchy.{distinct_path}
use Rattle.fm_link_members.specs.inner.MemberRows.{no_row, AreFieldRows, AreMethodRows}

-- ---- signatures

-- the row has the name and the descriptor of these numbers
abbrev pub has_key : ℕ → ℕ → MemberRow → Bool
has_key name descriptor r = nat_eq r.name name && nat_eq r.descriptor descriptor

-- the signature of a name with a descriptor
abbrev pub signature_of : List MemberRow → ℕ → ℕ → Option ℕ
signature_of rows name descriptor = position (has_key name descriptor) rows

-- what the map has at a name with a descriptor
abbrev pub number_of_key : BTreeMap (ℕ × ℕ) ℕ → ℕ → ℕ → Option ℕ
number_of_key numbers name descriptor =
    get_by (λ (k : ℕ × ℕ). ordering_then (nat_cmp name k.0) (nat_cmp descriptor k.1)) numbers

-- the signatures of rows, and the signature of each row
pub record AreSignatures (rows : List MemberRow) (s : Signatures) : Type 0 where
  pub numbered : (name descriptor : ℕ) → number_of_key s.numbers name descriptor ≡ signature_of rows name descriptor
  pub of_members : map Some s.of_members.items ≡ map (λ (r : MemberRow). signature_of rows r.name r.descriptor) rows
  pub count : s.count ≡ length rows

-- ---- members by signature

-- the first of a given number of numbers from one on that passes
abbrev pub first_from : (ℕ → Bool) → ℕ → ℕ → Option ℕ
first_from passes zero start = None
first_from passes (suc count) start = if passes start then Some start else first_from passes count (suc start)

-- the member is the class's own one of the signature, with flags that pass
abbrev pub is_own : List MemberRow → List ℕ → (ℕ → Bool) → ℕ → ℕ → ℕ → Bool
is_own rows signatures passes signature class member =
    nat_eq (slice_index_or rows member no_row).class class && nat_eq (slice_index_or signatures member 0) signature
    && passes (slice_index_or rows member no_row).flags

-- the class's own member of the signature with flags that pass
abbrev pub own_by : List MemberRow → List ℕ → (ℕ → Bool) → ℕ → ℕ → Option ℕ
own_by rows signatures passes signature class = first_from (is_own rows signatures passes signature class) (length rows) 0

-- the flags of a member, 0 past the end
abbrev pub flags_of : List MemberRow → ℕ → ℕ
flags_of rows member = (slice_index_or rows member no_row).flags

-- which flags a table keeps
abbrev pub passes_of : MemberFilter → ℕ → Bool
passes_of kept.All = any_flags
passes_of kept.OfObjects = is_instance
passes_of kept.Selectable = is_selectable

-- what the table of a class has at a signature
abbrev pub nearest_in : Nearest → ℕ → ℕ → Option ℕ
nearest_in n class signature = option_and_then (λ table. value_at n.layers table signature) (slice_get n.tops.items class)

-- the same, where it is a member of the class itself
abbrev pub own_in : Nearest → List MemberRow → ℕ → ℕ → Option ℕ
own_in n rows signature class = option_and_then owned (nearest_in n class signature) where
  of_class : ℕ → MemberRow → Option ℕ
  of_class member row = if nat_eq row.class class then Some member else None

  owned : ℕ → Option ℕ
  owned member = option_and_then (of_class member) (slice_get rows member)

-- for each class a table of the nearest members of it and its superclasses, by signature
pub record AreNearest (classes : List DeclaredClass) (rows : List MemberRow) (signatures : List ℕ) (passes : ℕ → Bool) (n : Nearest) : Type 0 where
  pub one_each : length n.tops.items ≡ length classes
  pub room : (signature : ℕ) → signature < length rows → HasRoom n.layers signature
  pub nearest : (class signature : ℕ) → class < length classes → HasRoom n.layers signature
      → nearest_in n class signature ≡ first_found (own_by rows signatures passes signature) (chain_of classes class)

-- each signature of an interface's member has a mark
abbrev pub MarksInterfaces : List DeclaredClass → List MemberRow → List ℕ → List Bool → Type 0
MarksInterfaces classes rows signatures marks =
    (member : ℕ) → member < length rows → is_interface_at classes (slice_index_or rows member no_row).class ≡ true
    → slice_get marks (slice_index_or signatures member 0) ≡ Some true

-- ---- from where members are looked for

-- no class of the list before the place declares a member of the signature
abbrev pub IsStart : List ℕ → List MemberRow → List ℕ → ℕ → ℕ → Type 0
IsStart list rows signatures signature start =
    (i k : ℕ) → i < start → i < length list → k < length rows → slice_index signatures k ≡ signature
    → (slice_index_or rows k no_row).class ≡ slice_index list i → ⊥

-- the place that is noted for a class and a signature; 0 where none is
abbrev pub start_in : SearchStarts → ℕ → ℕ → ℕ
start_in s class signature = unwrap_or (number_of_key s.places class signature) 0

-- each place is so in the list of its class
abbrev pub AreStarts : (ℕ → List ℕ) → List MemberRow → List ℕ → SearchStarts → Type 0
AreStarts list_of rows signatures s = (class signature : ℕ) → IsStart (list_of class) rows signatures signature (start_in s class signature)

-- each place of the program's classes is so
abbrev pub AreStartsOf : List DeclaredClass → (ℕ → List ℕ) → List MemberRow → List ℕ → SearchStarts → Type 0
AreStartsOf classes list_of rows signatures s =
    (class signature : ℕ) → class < length classes → IsStart (list_of class) rows signatures signature (start_in s class signature)

-- the superinterfaces where a method of a class is looked for; of an interface those by its own list
abbrev pub searched_interfaces : List DeclaredClass → ℕ → List ℕ
searched_interfaces classes class = if is_interface_at classes class then superinterfaces_of classes class else interfaces_of classes class

-- ---- all tables

-- no text occurs twice
abbrev pub AreDistinct : List (List ℕ) → Type 0
AreDistinct texts = (m n : ℕ) (text : List ℕ) → slice_get texts m ≡ Some text → slice_get texts n ≡ Some text → m ≡ n

-- the tables of the classes' fields
pub record AreFields (texts : List (List ℕ)) (classes : List DeclaredClass) (f : Fields) : Type 0 where
  pub distinct : AreDistinct texts
  pub rows : AreFieldRows texts classes f.members
  pub signatures : AreSignatures f.members.rows.items f.signatures
  pub nearest : AreNearest classes f.members.rows.items f.signatures.of_members.items any_flags f.nearest
  pub in_interfaces : MarksInterfaces classes f.members.rows.items f.signatures.of_members.items f.in_interfaces.items
  pub starts : AreStartsOf classes (distinct_path classes) f.members.rows.items f.signatures.of_members.items f.starts

-- the tables of the classes' methods
pub record AreMethods (texts : List (List ℕ)) (classes : List DeclaredClass) (m : Methods) : Type 0 where
  pub distinct : AreDistinct texts
  pub rows : AreMethodRows texts classes m.members
  pub signatures : AreSignatures m.members.rows.items m.signatures
  pub nearest : AreNearest classes m.members.rows.items m.signatures.of_members.items any_flags m.nearest
  pub of_objects : AreNearest classes m.members.rows.items m.signatures.of_members.items is_instance m.of_objects
  pub selectable : AreNearest classes m.members.rows.items m.signatures.of_members.items is_selectable m.selectable
  pub starts : AreStartsOf classes (searched_interfaces classes) m.members.rows.items m.signatures.of_members.items m.starts
  pub constructor : slice_get texts m.constructor ≡ Some constructor_name
