-- The class that declares the field that is found: it is no interface and not Object, and it is the named class or above it (JVMS 5.4.3.2).
use Rattle.std.proofs.Common.{◌≡◌, refl, sym, ◌∙◌, ap, subst, ℕ, zero, suc, ◌+◌, ◌-◌, ◌<◌, ◌≤◌, ◌⊎◌, inl, inr, ◌==◌, ◌||◌, ◌&&◌, Bool, true, false, List, [], ◌∷◌, ◌++◌, length, map, replicate, Option, Some, None, IsSomeAnd, nat_eq, nat_lt, slice_get, get_or, take, unwrap_or, length-append, zero-add, arith}
use Rattle.std.specs.List.{AllByRecursion, flat_map, position}
use Rattle.std.specs.Option.{option_map}
use Rattle.std.specs.Str.{bytes_eq}
use Rattle.std.specs.Cmp.Lexicographic.{same_text}
use Rattle.std.proofs.lemmas.Bool.{and_from, and_parts, cases_lt, eqb-true, false≢true, lt-ltb, or_cases, or_right}
use Rattle.std.proofs.lemmas.List.{get_or-append-add, get_or-map, get_or-replicate, get_or_append_left, length-map}
use Rattle.std.proofs.lemmas.List.FromFn.{get_or-map-range_with_len}
use Rattle.std.proofs.lemmas.List.Quantifiers.{position-Some}
use Rattle.std.proofs.lemmas.List.Sums.{sum_by-cons}
use Rattle.std.proofs.lemmas.Option.{none-some, same_Some}
use Rattle.fm_base.proofs.ListFacts.{AllByRecursion-append}
use Rattle.fm_code.specs.AccessFlags.{is_interface, is_static}
use Rattle.fm_code.specs.ConstantPool.{class_name_at}
use Rattle.fm_code.specs.Members.{FieldIsValid}
use Rattle.fm_code.specs.Names.{is_binary_name}
use Rattle.fm_code.specs.Spells.{HasSpelling}
use Rattle.fm_code.specs.declared.class_file.ClassDef.{ClassDef}
use Rattle.fm_code.specs.declared.class_file.Member.{Member}
use Rattle.fm_code.specs.declared.constant_pool.Entry.{Entry}
use Rattle.fm_world.proofs.Completions.{count_is, interface-declared}
use Rattle.fm_link_supers.proofs.Downwards.{among_head}
use Rattle.fm_link_supers.proofs.HierarchyLemmas.{superinterfaces_only}
use Rattle.fm_link_supers.proofs.ParentRefusals.{tree_object, length-declared, past_none, spelled_at}
use Rattle.fm_link_supers.specs.inner.Hierarchy.{AreSound}
use Rattle.fm_law_linked.proofs.GivenFiles.{class_of_file}
use Rattle.fm_types.proofs.ClassTree.{interface-within}
use Rattle.fm_types.specs.Fits.{is_seen_as_object, object_of}
use Rattle.fm_world.specs.BuiltIns.{built_in, built_in_classes}
use Rattle.fm_world.specs.Causes.{field_flags}
use Rattle.fm_world.specs.Chains.{chain_of, class_at, first_found, is_among, superinterfaces_of}
use Rattle.fm_world.specs.Declarations.{declared_field, declared_from, declared_of, no_class, no_field}
use Rattle.fm_world.specs.Descriptors.{class_number}
use Rattle.fm_world.specs.Lookups.{field_path, is_interface_at}
use Rattle.fm_world.specs.Members.{field_among, field_at, fields_from, fields_of, first_field, own_field, owned_fields, OwnedField}
use Rattle.fm_world.specs.Programs.{classes_of}
use Rattle.fm_world.specs.declared.declarations.DeclaredClass.{DeclaredClass}
use Rattle.fm_world.specs.declared.declarations.DeclaredField.{DeclaredField}
use Rattle.fm_world.specs.inner.Tables.{numbers_below}
use Rattle.fm_link_refusals.proofs.Among.{among_either}
use Rattle.fm_frames.proofs.ClassStarts.{no_owner}

-- ---- lists

pub found_among : (find : ℕ → Option ℕ) (path : List ℕ) (n : ℕ) → first_found find path ≡ Some n
    → (above : ℕ) × ((is_among above path ≡ true) × (find above ≡ Some n))
found_among find [] n is = absurd (none-some n is)
found_among find (x ∷ path) n is = by_first (find x) refl is (found_among find path n) where
  by_first : (o : Option ℕ) → find x ≡ o → first_found find (x ∷ path) ≡ Some n
      → (first_found find path ≡ Some n → (above : ℕ) × ((is_among above path ≡ true) × (find above ≡ Some n)))
      → (above : ℕ) × ((is_among above (x ∷ path) ≡ true) × (find above ≡ Some n))
  by_first None here e later =
      let rest = later (rw here at e) in (rest.0, (or_right (nat_eq rest.0 x) (is_among rest.0 path) rest.1.0, rest.1.1))
  by_first (Some j) here e later = (x, (among_head x path, here ∙ (rw here at e)))

pub among_each : (f : ℕ → List ℕ) (xs : List ℕ) (x : ℕ) → is_among x (flat_map f xs) ≡ true
    → (a : ℕ) × ((is_among a xs ≡ true) × (is_among x (f a) ≡ true))
among_each f [] x among = absurd (false≢true among)
among_each f (z ∷ xs) x among = by_first (among_each f xs x) (among_either x (f z) (flat_map f xs) among) where
  by_first : (is_among x (flat_map f xs) ≡ true → (a : ℕ) × ((is_among a xs ≡ true) × (is_among x (f a) ≡ true)))
      → (is_among x (f z) ≡ true) ⊎ (is_among x (flat_map f xs) ≡ true)
      → (a : ℕ) × ((is_among a (z ∷ xs) ≡ true) × (is_among x (f a) ≡ true))
  by_first later (inl here) = (z, (among_head z xs, here))
  by_first later (inr rest) = let found = later rest in (found.0, (or_right (nat_eq found.0 z) (is_among found.0 xs) found.1.0, found.1.1))

pub all_inside : {X : Type 0} (P : X → Type 0) (xs : List X) (k : ℕ) (d : X) → AllByRecursion P xs → k < length xs → P (get_or xs k d)
all_inside P [] k d all within = absurd (omega (arith, within))
all_inside P (x ∷ xs) zero d all within = all.0
all_inside P (x ∷ xs) (suc k) d all within = all_inside P xs k d all.1 (omega (arith, within))

-- ---- a field by its number

abbrev owned : ℕ → DeclaredField → OwnedField
owned class f = record { class = class; field = f }

fields_at : (number : ℕ) (classes : List DeclaredClass) (class j : ℕ) → j < length (class_at classes class).fields
    → get_or (fields_from number classes) (first_field classes class + j) no_owner ≡ owned (number + class) (get_or (class_at classes class).fields j no_field)
fields_at number [] class j inside = absurd (omega (arith, inside))
fields_at number (c ∷ classes) zero j inside =
    let long = length-map c.fields (owned number) in
    let same : number ≡ number + 0 = omega arith in
    get_or_append_left (owned_fields number c) (fields_from (number + 1) classes) no_owner (0 + j) (omega (arith, long, inside))
    ∙ ap (λ i. get_or (owned_fields number c) i no_owner) (omega arith) ∙ get_or-map (owned number) c.fields j no_field no_owner inside
    ∙ ap (λ n. owned n (get_or c.fields j no_field)) same
fields_at number (c ∷ classes) (suc class) j inside =
    let long = length-map c.fields (owned number) in
    let before = first_field classes class in
    let counted = sum_by-cons (λ (d : DeclaredClass). length d.fields) c (take class classes) in
    let place : first_field (c ∷ classes) (suc class) + j ≡ length (owned_fields number c) + (before + j) = omega (arith, long, counted) in
    let same : number + 1 + class ≡ number + suc class = omega arith in
    ap (λ i. get_or (fields_from number (c ∷ classes)) i no_owner) place
    ∙ get_or-append-add (owned_fields number c) (fields_from (number + 1) classes) (before + j) no_owner
    ∙ fields_at (number + 1) classes class j inside ∙ ap (λ n. owned n (get_or (class_at classes class).fields j no_field)) same

-- the field is the one at this place of the class
record IsFieldOf (classes : List DeclaredClass) (class field : ℕ) : Type 0 where
  place : ℕ
  inside : place < length (class_at classes class).fields
  at : field_at classes field ≡ owned class (get_or (class_at classes class).fields place no_field)

field_of : (classes : List DeclaredClass) (name descriptor : List ℕ) (class field : ℕ) → own_field classes name descriptor class ≡ Some field
    → IsFieldOf classes class field
unfolding fields_of
field_of classes name descriptor class field is = by_place (position test (class_at classes class).fields) refl is where
  test : DeclaredField → Bool
  test f = bytes_eq f.name name && bytes_eq f.descriptor descriptor

  by_place : (o : Option ℕ) → position test (class_at classes class).fields ≡ o → option_map (λ k. first_field classes class + k) o ≡ Some field
      → IsFieldOf classes class field
  by_place None e is = absurd (none-some field is)
  by_place (Some k) e is =
      let inside = (position-Some test (class_at classes class).fields k no_field e).0 in
      record {
        place = k;
        inside = inside;
        at = ap (λ n. get_or (fields_from 0 classes) n no_owner) (sym (same_Some (first_field classes class + k) field is)) ∙ fields_at 0 classes class k inside
            ∙ ap (λ n. owned n (get_or (class_at classes class).fields k no_field)) (zero-add class);
      }

-- ---- fields of interfaces are static

abbrev has_fields : ℕ → Bool
has_fields k = is_interface_at built_in k && nat_lt 0 (length (class_at built_in k).fields)

bare_table : map has_fields (numbers_below built_in_classes) ≡ replicate built_in_classes false
unfolding built_in
bare_table = refl

built_in_bare : (more : List DeclaredClass) (k j : ℕ) → k < length built_in → is_interface_at (built_in ++ more) k ≡ true
    → j < length (class_at (built_in ++ more) k).fields → ⊥
built_in_bare more k j within is inside =
    let inner : k < built_in_classes = let count = count_is in omega (arith, within, count) in
    let same : class_at (built_in ++ more) k ≡ class_at built_in k = get_or_append_left built_in more no_class k within in
    let table : has_fields k ≡ false =
    sym (get_or-map-range_with_len has_fields 0 built_in_classes k k true inner (zero-add k)) ∙ ap (λ row. get_or row k true) bare_table ∙ get_or-replicate built_in_classes k false true inner in
    let here : is_interface_at built_in k ≡ true = sym (ap (λ (c : DeclaredClass). is_interface c.flags) same) ∙ is in
    let many : length (class_at (built_in ++ more) k).fields ≡ length (class_at built_in k).fields = ap (λ (c : DeclaredClass). length c.fields) same in
    false≢true
    (sym table ∙ and_from (is_interface_at built_in k) (nat_lt 0 (length (class_at built_in k).fields)) here
    (lt-ltb 0 (length (class_at built_in k).fields) (omega (arith, many, inside))))

static_members : (in_interface : Bool) (entries : List Entry) (members : List Member) → in_interface ≡ true → AllByRecursion (FieldIsValid in_interface entries) members
    → AllByRecursion (λ (f : DeclaredField). is_static f.flags ≡ true) (map (declared_field entries) members)
static_members in_interface entries [] is valid = tt
static_members in_interface entries (m ∷ members) is valid = (valid.0.of_interface is, static_members in_interface entries members is valid.1)

abbrev HasStatics : ℕ → DeclaredClass → Type 0
HasStatics j c = is_interface c.flags ≡ true → j < length c.fields → is_static (get_or c.fields j no_field).flags ≡ true

file_statics : (c : ClassDef) (n j : ℕ) → HasSpelling c → HasStatics j (declared_of n c)
file_statics c n j spelled is inside =
    all_inside (λ (f : DeclaredField). is_static f.flags ≡ true) (map (declared_field c.pool.entries) c.fields) j no_field
    (static_members (is_interface c.flags) c.pool.entries c.fields (sym (interface-declared c) ∙ is) spelled.1.fields) inside

interface_statics : (given : List ClassDef) → AllByRecursion HasSpelling given → (class j : ℕ) → HasStatics j (class_at (classes_of given) class)
unfolding classes_of
interface_statics given spelled class j is inside = by_place (cases_lt class (length built_in)) where
  more : List DeclaredClass
  more = declared_from 0 given

  file : (k : ℕ) → class ≡ length built_in + k → (o : Option ClassDef) → slice_get given k ≡ o
      → is_static (get_or (class_at (built_in ++ more) class).fields j no_field).flags ≡ true
  file k place None e =
      let past = past_none given k e in
      let within = interface-within (built_in ++ more) class is in
      absurd (let l = length-append built_in more in let d = length-declared 0 given in omega (arith, place, past, l, d, within))
  file k place (Some c) e =
      let declared = class_of_file given k c e in
      let same : class_at (built_in ++ more) class ≡ declared_of declared.number c = ap (class_at (built_in ++ more)) place ∙ declared.declared in
      subst (HasStatics j) (sym same) (file_statics c declared.number j (spelled_at given k c spelled e)) is inside

  by_place : (class < length built_in) ⊎ (length built_in ≤ class) → is_static (get_or (class_at (built_in ++ more) class).fields j no_field).flags ≡ true
  by_place (inl own) = absurd (built_in_bare more class j own is inside)
  by_place (inr later) = file (class - length built_in) (omega (arith, later)) (slice_get given (class - length built_in)) refl

object_bare : (given : List ClassDef) → length (class_at (classes_of given) 0).fields ≡ 0
unfolding classes_of built_in
object_bare given = refl

-- ---- the class of an instance field that is found

-- the class that declares it is no interface and not Object, and it is in the chain of the class that is named
pub record IsInstanceAbove (classes : List DeclaredClass) (class field : ℕ) : Type 0 where
  pub above : ℕ
  pub among : is_among above (chain_of classes class) ≡ true
  pub plain : is_seen_as_object classes above ≡ false
  pub class_is : (field_at classes field).class ≡ above

pub instance_above : (given : List ClassDef) → AllByRecursion HasSpelling given → AreSound (classes_of given) → (name descriptor : List ℕ) (class field : ℕ)
    → field_among (classes_of given) name descriptor (field_path (classes_of given) class) ≡ Some field
    → is_static (field_flags (classes_of given) field) ≡ false
    → IsInstanceAbove (classes_of given) class field
instance_above given spelled sound name descriptor class field is instance =
    let found = found_among (own_field classes name descriptor) (field_path classes class) field is in
    let its = field_of classes name descriptor found.0 field found.1.1 in
    let plain = not_interface found.0 its (is_interface_at classes found.0) refl in
    let at = among_each (λ above. above ∷ superinterfaces_of classes above) (chain_of classes class) found.0 found.1.0 in
    record {
      above = found.0;
      among = by_path found.0 plain at.0 at.1.0 (or_cases (nat_eq found.0 at.0) (is_among found.0 (superinterfaces_of classes at.0)) at.1.1);
      plain = ap (λ b. b || (found.0 == object_of classes)) plain ∙ not_object found.0 its (found.0 == object_of classes) refl;
      class_is = ap (λ (f : OwnedField). f.class) its.at;
    } where
      classes : List DeclaredClass
      classes = classes_of given

      not_interface : (above : ℕ) → IsFieldOf classes above field → (b : Bool) → is_interface_at classes above ≡ b → is_interface_at classes above ≡ false
      not_interface above its false e = e
      not_interface above its true e =
          absurd (false≢true
          (sym instance ∙ ap (λ (f : OwnedField). is_static f.field.flags) its.at ∙ interface_statics given spelled above its.place e its.inside))

      not_object : (above : ℕ) → IsFieldOf classes above field → (b : Bool) → (above == object_of classes) ≡ b → b ≡ false
      not_object above its false e = refl
      not_object above its true e =
          let first : object_of classes ≡ 0 = ap (λ o. unwrap_or o 0) (tree_object given) in
          let none_here = ap (λ k. length (class_at classes k).fields) (eqb-true above (object_of classes) e ∙ first) ∙ object_bare given in
          let inside = its.inside in
          absurd (omega (arith, none_here, inside))

      by_path : (above : ℕ) → is_interface_at classes above ≡ false → (a : ℕ) → is_among a (chain_of classes class) ≡ true
          → (nat_eq above a ≡ true) ⊎ (is_among above (superinterfaces_of classes a) ≡ true)
          → is_among above (chain_of classes class) ≡ true
      by_path above plain a among (inl same) = ap (λ k. is_among k (chain_of classes class)) (eqb-true above a same) ∙ among
      by_path above plain a among (inr higher) = absurd (false≢true (sym plain ∙ superinterfaces_only classes sound a above higher))

-- ---- no class has the name of an array

abbrev HasBinaryName : DeclaredClass → Type 0
HasBinaryName c = is_binary_name c.name ≡ true

some_name : (o : Option (List ℕ)) → IsSomeAnd o (λ name. is_binary_name name ≡ true) → is_binary_name (unwrap_or o []) ≡ true
some_name None is = absurd is
some_name (Some name) is = is

binary_from : (n : ℕ) (given : List ClassDef) → AllByRecursion HasSpelling given → AllByRecursion HasBinaryName (declared_from n given)
binary_from n [] spelled = tt
binary_from n (c ∷ given) spelled =
    (some_name (class_name_at c.pool.entries c.this_class) spelled.0.1.this_class, binary_from (n + 1) given spelled.1)

abbrev all_binary : List DeclaredClass → Bool
all_binary [] = true
all_binary (c ∷ classes) = is_binary_name c.name && all_binary classes

built_in_names : all_binary built_in ≡ true
unfolding built_in
built_in_names = refl

each_binary : (classes : List DeclaredClass) → all_binary classes ≡ true → AllByRecursion HasBinaryName classes
each_binary [] all = tt
each_binary (c ∷ classes) all = let parts = and_parts (is_binary_name c.name) (all_binary classes) all in (parts.0, each_binary classes parts.1)

-- a class that is found has a binary name
pub binary_found : (given : List ClassDef) → AllByRecursion HasSpelling given → (name : List ℕ) (class : ℕ) → class_number (classes_of given) name ≡ Some class
    → is_binary_name name ≡ true
unfolding classes_of
binary_found given spelled name class is =
    let classes = built_in ++ declared_from 0 given in
    let there = position-Some (λ (c : DeclaredClass). bytes_eq c.name name) classes class no_class is in
    let same : (class_at classes class).name ≡ name = same_text (class_at classes class).name name (sym there.1) in
    ap is_binary_name (sym same)
    ∙ all_inside HasBinaryName classes class no_class
    (AllByRecursion-append HasBinaryName built_in (declared_from 0 given) (each_binary built_in built_in_names) (binary_from 0 given spelled)) there.0
