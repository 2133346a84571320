-- What is at the indices of a pool whose entries are valid, and what is resolved there, stays where
-- more entries follow.
use Rattle.std.proofs.Common.{◌≡◌, refl, sym, ◌∙◌, ap, ℕ, ◌<◌, List, [], ◌++◌, length, Option, Some, None, IsSome, IsSomeAnd, option_map, option_and_then, unwrap_or}
use Rattle.std.specs.List.{AllByRecursion}
use Rattle.std.proofs.lemmas.List.{get_or_append_left}
use Rattle.fm_base.proofs.ListFacts.{AllByRecursion-get_or}
use Rattle.fm_base.proofs.OptionFacts.{IsSome-from_some, Some-from_is_some, Some-from_some_and}
use Rattle.fm_base.specs.Texts.{units}
use Rattle.fm_code.specs.ConstantPool.{class_name_at, entry_at, EntryIsValid, IsFieldPair, IsMethodPair, member_named, MemberName, method_ref_at, named_and_typed_at, NamesMember, utf8_at}
use Rattle.fm_code.specs.Names.{IsClassName}
use Rattle.fm_code.specs.declared.constant_pool.Entry.{Entry}
use Rattle.fm_code.specs.declared.constant_pool.Entry.TheVariants as entry
use Rattle.fm_link_names.proofs.NameLemmas.{named_member_by}
use Rattle.fm_link_names.specs.inner.Files.{by_class, class_of_entry, member_of_entry}
use Rattle.fm_pool.proofs.GrownPool.{class_kept, pair_kept, text_kept}
use Rattle.fm_link_records.proofs.UseLaws.{resolved_at-by, resolved_by}
use Rattle.fm_world.specs.Declarations.{constant_at, text_at}
use Rattle.fm_world.specs.Descriptors.{class_type, type_in}
use Rattle.fm_world.specs.Lookups.{resolved_field, resolved_method}
use Rattle.fm_world.specs.Numbers.{text_number, text_units, type_number}
use Rattle.fm_world.specs.Programs.{field_use, method_use, Outline, resolved_at, type_number_at, with_number}
use Rattle.fm_world.specs.Uses.{named_class, named_member, named_type}
use Rattle.fm_world.specs.declared.declarations.Constant.{Constant}
use Rattle.fm_world.specs.declared.declarations.Constant.TheVariants as constant
use Rattle.fm_world.specs.declared.declarations.DeclaredClass.{DeclaredClass}
use Rattle.fm_world.specs.declared.uses.Use.{Use}
use Rattle.fm_world.specs.declared.uses.Use.TheVariants as resolved
use Rattle.fm_law_spelled.proofs.KeptNames.{no_member}

-- ---- what is at an index, by its entry

abbrev units_in : (ℕ → List ℕ) → Entry → Option (List ℕ)
units_in text_of (entry.Text text) = Some (units (text_of text))
units_in text_of e = None

units_by : (entries : List Entry) (index : ℕ) (e : Entry) → entry_at entries index ≡ e → text_units entries index ≡ units_in (text_at entries) e
units_by entries index (entry.Text text) is = rw is refl
units_by entries index e is = rw is refl

abbrev constant_in : (ℕ → List ℕ) → Entry → Option Constant
constant_in text_of (entry.Integer value) = Some (constant.Int value)
constant_in text_of (entry.Long value) = Some (constant.Long value)
constant_in text_of (entry.Text text) = Some (constant.Text (text_of text))
constant_in text_of e = None

constant_by : (entries : List Entry) (index : ℕ) (e : Entry) → entry_at entries index ≡ e → constant_at entries index ≡ constant_in (text_at entries) e
constant_by entries index (entry.Integer value) is = rw is refl
constant_by entries index (entry.Long value) is = rw is refl
constant_by entries index (entry.Text text) is = rw is refl
constant_by entries index e is = rw is refl

-- ---- a method

-- the entry that names a method
pub method_entry : (entries : List Entry) (index : ℕ) (m : MemberName) → method_ref_at entries index ≡ Some m
    → (class : ℕ) × (member : ℕ) × (entry_at entries index ≡ entry.Method class member) × (member_named entries class member ≡ Some m)
method_entry entries index m is = by (entry_at entries index) refl where
  by : (e : Entry) → entry_at entries index ≡ e
      → (class : ℕ) × (member : ℕ) × (entry_at entries index ≡ entry.Method class member) × (member_named entries class member ≡ Some m)
  by (entry.Method class member) here = (class, member, here, rw here at is)
  by e here = absurd (no_member m (rw here at is))

pub method_named : (entries : List Entry) (index : ℕ) (m : MemberName) → method_ref_at entries index ≡ Some m → named_member entries index ≡ Some m
method_named entries index m is = let e = method_entry entries index m is in named_member_by entries index (entry.Method e.0 e.1) e.2 ∙ e.3

pub method_class : (entries : List Entry) (index : ℕ) (m : MemberName) → method_ref_at entries index ≡ Some m → named_class entries index ≡ Some m.class
method_class entries index m is =
    let e = method_entry entries index m is in
    ap (by_class (class_name_at entries index) (option_map (λ (n : MemberName). n.class) (named_member entries index))) e.2
    ∙ ap (option_map (λ (n : MemberName). n.class)) (method_named entries index m is)

pub method_no_units : (entries : List Entry) (index : ℕ) (m : MemberName) → method_ref_at entries index ≡ Some m → text_units entries index ≡ None
method_no_units entries index m is = let e = method_entry entries index m is in units_by entries index (entry.Method e.0 e.1) e.2

-- ---- what an entry is resolved to, by what it names

abbrev use_by : Outline → (type text : Option ℕ) → Option MemberName → Entry → Use
use_by o type text member (entry.Integer value) = resolved.OfInt value
use_by o type text member (entry.Long value) = resolved.OfLong value
use_by o type text member (entry.Text units) = with_number resolved.OfText text
use_by o type text member (entry.Class name) = with_number (λ t. resolved.OfType (record { 0 = t })) type
use_by o type text member (entry.Field class named) =
    with_number (λ t. with_number (field_use t) (option_and_then (resolved_field o.classes) member)) type
use_by o type text member (entry.Method class named) =
    with_number (λ t. with_number (method_use t) (option_and_then (resolved_method o.classes) member)) type
use_by o type text member (entry.InterfaceMethod class named) =
    with_number (λ t. with_number (method_use t) (option_and_then (resolved_method o.classes) member)) type
use_by o type text member e = resolved.Unused

use_of_entry : (o : Outline) (entries : List Entry) (index : ℕ) (e : Entry)
    → resolved_by o entries index e
    ≡ use_by o (type_number_at o entries index) (option_and_then (text_number o.texts) (text_units entries index)) (named_member entries index) e
use_of_entry o entries index (entry.Integer value) = refl
use_of_entry o entries index (entry.Long value) = refl
use_of_entry o entries index (entry.Text text) = refl
use_of_entry o entries index (entry.Class name) = refl
use_of_entry o entries index (entry.Field class member) = refl
use_of_entry o entries index (entry.Method class member) = refl
use_of_entry o entries index (entry.InterfaceMethod class member) = refl
use_of_entry o entries index e = refl

use_is : (o : Outline) (entries : List Entry) (index : ℕ)
    → resolved_at o entries index
    ≡ use_by o (type_number_at o entries index) (option_and_then (text_number o.texts) (text_units entries index)) (named_member entries index)
    (entry_at entries index)
use_is o entries index = resolved_at-by o entries index ∙ use_of_entry o entries index (entry_at entries index)

-- ---- more entries

module _ (entries more : List Entry) where
  pub text_stays : (index : ℕ) → IsSome (utf8_at entries index) → utf8_at (entries ++ more) index ≡ utf8_at entries index
  text_stays index there = let v = Some-from_is_some (utf8_at entries index) there in text_kept entries more index v.0 v.1 ∙ sym v.1

  pub class_stays : (index : ℕ) → IsSome (class_name_at entries index) → class_name_at (entries ++ more) index ≡ class_name_at entries index
  class_stays index there = let v = Some-from_is_some (class_name_at entries index) there in class_kept entries more index v.0 v.1 ∙ sym v.1

  pair_stays : (index : ℕ) → IsSome (named_and_typed_at entries index) → named_and_typed_at (entries ++ more) index ≡ named_and_typed_at entries index
  pair_stays index there = let v = Some-from_is_some (named_and_typed_at entries index) there in pair_kept entries more index v.0 v.1 ∙ sym v.1

  some_text : (P : List ℕ → Type 0) (index : ℕ) → IsSomeAnd (utf8_at entries index) P → IsSome (utf8_at entries index)
  some_text P index there = let v = Some-from_some_and (utf8_at entries index) P there in IsSome-from_some (utf8_at entries index) v.0 v.1

  members_stay : (IsPair : List ℕ × List ℕ → Type 0) (class member : ℕ) → NamesMember IsPair entries class member
      → member_named (entries ++ more) class member ≡ member_named entries class member
  members_stay IsPair class member names =
      let pair = Some-from_some_and (named_and_typed_at entries member) IsPair names.1 in
      let first = class_stays class names.0 in
      let second = pair_stays member (IsSome-from_some (named_and_typed_at entries member) pair.0 pair.1) in
      λ k. option_and_then (λ c. option_and_then (λ p. Some (record { class = c; name = p.0; descriptor = p.1 })) (second k)) (first k)

  -- ---- what valid entries name

  member_of_valid : (e : Entry) → EntryIsValid entries e → member_of_entry (member_named (entries ++ more)) e ≡ member_of_entry (member_named entries) e
  member_of_valid (entry.Field class member) valid = members_stay IsFieldPair class member valid
  member_of_valid (entry.Method class member) valid = members_stay IsMethodPair class member valid
  member_of_valid (entry.InterfaceMethod class member) valid = members_stay IsMethodPair class member valid
  member_of_valid e valid = refl

  name_of_valid : (e : Entry) → EntryIsValid entries e
      → option_and_then (utf8_at (entries ++ more)) (class_of_entry e) ≡ option_and_then (utf8_at entries) (class_of_entry e)
  name_of_valid (entry.Class name) valid = text_stays name (some_text IsClassName name valid)
  name_of_valid e valid = refl

  units_of_valid : (e : Entry) → EntryIsValid entries e → units_in (text_at (entries ++ more)) e ≡ units_in (text_at entries) e
  units_of_valid (entry.Text text) valid = ap (λ (o : Option (List ℕ)). Some (units (unwrap_or o []))) (text_stays text valid)
  units_of_valid e valid = refl

  constant_of_valid : (e : Entry) → EntryIsValid entries e → constant_in (text_at (entries ++ more)) e ≡ constant_in (text_at entries) e
  constant_of_valid (entry.Text text) valid = ap (λ (o : Option (List ℕ)). Some (constant.Text (unwrap_or o []))) (text_stays text valid)
  constant_of_valid e valid = refl

  module _ (valid : AllByRecursion (EntryIsValid entries) entries) (index : ℕ) (within : index < length entries) where
    pub entry_same : entry_at (entries ++ more) index ≡ entry_at entries index
    entry_same = get_or_append_left entries more entry.Second index within

    valid_here : EntryIsValid entries (entry_at entries index)
    valid_here = AllByRecursion-get_or (EntryIsValid entries) entries entry.Second valid tt index

    pub member_same : named_member (entries ++ more) index ≡ named_member entries index
    member_same =
        named_member_by (entries ++ more) index (entry_at entries index) entry_same ∙ member_of_valid (entry_at entries index) valid_here
        ∙ sym (named_member_by entries index (entry_at entries index) refl)

    pub name_same : class_name_at (entries ++ more) index ≡ class_name_at entries index
    name_same =
        ap (λ e. option_and_then (utf8_at (entries ++ more)) (class_of_entry e)) entry_same ∙ name_of_valid (entry_at entries index) valid_here

    pub class_same : named_class (entries ++ more) index ≡ named_class entries index
    class_same = λ k. by_class (name_same k) (option_map (λ (m : MemberName). m.class) (member_same k)) (entry_same k)

    pub type_same : (classes : List DeclaredClass) → named_type classes (entries ++ more) index ≡ named_type classes entries index
    type_same classes = ap (option_and_then (λ (name : List ℕ). type_in classes (class_type name))) class_same

    pub units_same : text_units (entries ++ more) index ≡ text_units entries index
    units_same =
        units_by (entries ++ more) index (entry_at entries index) entry_same ∙ units_of_valid (entry_at entries index) valid_here
        ∙ sym (units_by entries index (entry_at entries index) refl)

    pub constant_same : constant_at (entries ++ more) index ≡ constant_at entries index
    constant_same =
        constant_by (entries ++ more) index (entry_at entries index) entry_same ∙ constant_of_valid (entry_at entries index) valid_here
        ∙ sym (constant_by entries index (entry_at entries index) refl)

    pub use_same : (o : Outline) → resolved_at o (entries ++ more) index ≡ resolved_at o entries index
    use_same o =
        use_is o (entries ++ more) index
        ∙ (λ k. use_by o (option_and_then (type_number o.types) (type_same o.classes k)) (option_and_then (text_number o.texts) (units_same k)) (member_same k)
        (entry_same k))
        ∙ sym (use_is o entries index)
