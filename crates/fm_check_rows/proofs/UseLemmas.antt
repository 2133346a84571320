-- Each use of a program of class files names a member that is there.
use Rattle.std.proofs.Common.{◌≡◌, refl, sym, ◌∙◌, ap, ℕ, zero, suc, ◌+◌, ◌<◌, ◌&&◌, Bool, true, false, cond, List, [], ◌∷◌, length, map, take, replicate, Option, Some, None, option_and_then, option_map, position, sum_by, if◌then◌else◌, length-append, arith}
use Rattle.std.specs.List.{AllByRecursion, slice_index_or}
use Rattle.std.specs.Str.{bytes_eq}
use Rattle.std.proofs.lemmas.List.{length-map}
use Rattle.std.proofs.lemmas.List.Quantifiers.{position-Some}
use Rattle.std.proofs.lemmas.List.Sums.{sum_by-cons}
use Rattle.fm_base.proofs.ListFacts.{AllByRecursion-append, AllByRecursion-get_or}
use Rattle.fm_code.specs.ConstantPool.{entry_at, MemberName}
use Rattle.fm_code.specs.declared.class_file.ClassDef.{ClassDef}
use Rattle.fm_code.specs.declared.constant_pool.Entry.{Entry}
use Rattle.fm_code.specs.declared.constant_pool.Entry.TheVariants as entry
use Rattle.fm_check_rows.specs.Members.{NamesMember, UsesNameMembers}
use Rattle.fm_world.specs.BuiltIns.{built_in}
use Rattle.fm_world.specs.Chains.{class_at, first_found}
use Rattle.fm_world.specs.Declarations.{no_field, no_method}
use Rattle.fm_world.specs.Descriptors.{class_number}
use Rattle.fm_world.specs.Lookups.{any_flags, class_searched, constructor_name, constructor_path, field_path, method_path, resolved_field, resolved_method}
use Rattle.fm_world.specs.Members.{field_among, fields_from, fields_of, first_field, first_method, method_among, methods_from, methods_of, own_field, own_method, owned_fields, owned_methods}
use Rattle.fm_world.specs.Numbers.{text_number, text_units}
use Rattle.fm_world.specs.Programs.{class_uses, field_use, method_use, Outline, outline_of, program_of, resolved_at, type_number_at, uses_of, with_number}
use Rattle.fm_world.specs.Uses.{is_used, named_member, pool_indices}
use Rattle.fm_world.specs.declared.declarations.DeclaredClass.{DeclaredClass}
use Rattle.fm_world.specs.declared.declarations.DeclaredField.{DeclaredField}
use Rattle.fm_world.specs.declared.declarations.DeclaredMethod.{DeclaredMethod}
use Rattle.fm_world.specs.declared.uses.Use.{Use}
use Rattle.fm_world.specs.declared.uses.Use.TheVariants as resolved
use Rattle.std.proofs.lemmas.Option.{none-some, same_Some}

-- ---- members by number

-- what comes after all of the classes before, and within one class
within_sum : (size : DeclaredClass → ℕ) (classes : List DeclaredClass) (class k : ℕ) → size (class_at [] 0) ≡ 0 → k < size (class_at classes class)
    → sum_by size (take class classes) + k < sum_by size classes
within_sum size [] class k none inside = absurd (omega (arith, none, inside))
within_sum size (c ∷ classes) zero k none inside = omega (arith, inside, sum_by-cons size c classes)
within_sum size (c ∷ classes) (suc class) k none inside =
    omega (arith, within_sum size classes class k none inside, sum_by-cons size c classes, sum_by-cons size c (take class classes))

length-fields : (classes : List DeclaredClass) (class : ℕ) → length (fields_from class classes) ≡ sum_by (λ c. length c.fields) classes
length-fields [] class = refl
length-fields (c ∷ classes) class =
    length-append (owned_fields class c) (fields_from (class + 1) classes)
    ∙ ap (λ n. n + length (fields_from (class + 1) classes)) (length-map c.fields (λ f. record { class = class; field = f }))
    ∙ ap (λ n. length c.fields + n) (length-fields classes (class + 1)) ∙ sym (sum_by-cons (λ (d : DeclaredClass). length d.fields) c classes)

length-methods : (classes : List DeclaredClass) (class : ℕ) → length (methods_from class classes) ≡ sum_by (λ c. length c.methods) classes
length-methods [] class = refl
length-methods (c ∷ classes) class =
    length-append (owned_methods class c) (methods_from (class + 1) classes)
    ∙ ap (λ n. n + length (methods_from (class + 1) classes)) (length-map c.methods (λ m. record { class = class; method = m }))
    ∙ ap (λ n. length c.methods + n) (length-methods classes (class + 1)) ∙ sym (sum_by-cons (λ (d : DeclaredClass). length d.methods) c classes)

-- ---- members by name

own_within : {X : Type 0} (test : X → Bool) (members : List X) (none : X) (first total n : ℕ) → ((k : ℕ) → k < length members → first + k < total)
    → option_map (λ k. first + k) (position test members) ≡ Some n → n < total
own_within test members none first total n inside found = go (position test members) refl found where
  go : (o : Option ℕ) → position test members ≡ o → option_map (λ k. first + k) o ≡ Some n → n < total
  go None at e = absurd (none-some _ e)
  go (Some k) at e = omega (arith, inside k (position-Some test members k none at).0, same_Some _ _ e)

first_within : (find : ℕ → Option ℕ) (total : ℕ) → ((class n : ℕ) → find class ≡ Some n → n < total) → (path : List ℕ) (n : ℕ)
    → first_found find path ≡ Some n → n < total
first_within find total each [] n found = absurd (none-some _ found)
first_within find total each (class ∷ path) n found = go (find class) refl found (first_within find total each path n) where
  go : (o : Option ℕ) → find class ≡ o → first_found find (class ∷ path) ≡ Some n → (first_found find path ≡ Some n → n < total) → n < total
  go None here e after = after (rw here at e)
  go (Some j) here e after = each class n (here ∙ (rw here at e))

then_within : (find : ℕ → Option ℕ) (total : ℕ) → ((class n : ℕ) → find class ≡ Some n → n < total) → (o : Option ℕ) (n : ℕ)
    → option_and_then find o ≡ Some n → n < total
then_within find total each None n e = absurd (none-some _ e)
then_within find total each (Some class) n e = each class n e

field_inside : (classes : List DeclaredClass) (class k : ℕ) → k < length (class_at classes class).fields
    → first_field classes class + k < length (fields_of classes)
unfolding fields_of
field_inside classes class k h =
    omega (arith, within_sum (λ (c : DeclaredClass). length c.fields) classes class k refl h, length-fields classes 0)

field_within : (classes : List DeclaredClass) (name descriptor path : List ℕ) (n : ℕ)
    → field_among classes name descriptor path ≡ Some n → n < length (fields_of classes)
field_within classes name descriptor path n found =
    first_within (own_field classes name descriptor) (length (fields_of classes)) each path n found where
      each : (class m : ℕ) → own_field classes name descriptor class ≡ Some m → m < length (fields_of classes)
      each class m e =
          own_within (λ (f : DeclaredField). bytes_eq f.name name && bytes_eq f.descriptor descriptor) (class_at classes class).fields no_field
          (first_field classes class) (length (fields_of classes)) m (field_inside classes class) e

method_inside : (classes : List DeclaredClass) (class k : ℕ) → k < length (class_at classes class).methods
    → first_method classes class + k < length (methods_of classes)
unfolding methods_of
method_inside classes class k h =
    omega (arith, within_sum (λ (c : DeclaredClass). length c.methods) classes class k refl h, length-methods classes 0)

method_within : (classes : List DeclaredClass) (name descriptor path : List ℕ) (n : ℕ)
    → method_among classes any_flags name descriptor path ≡ Some n → n < length (methods_of classes)
method_within classes name descriptor path n found =
    first_within (own_method classes any_flags name descriptor) (length (methods_of classes)) each path n found where
      each : (class m : ℕ) → own_method classes any_flags name descriptor class ≡ Some m → m < length (methods_of classes)
      each class m e =
          own_within (λ (x : DeclaredMethod). bytes_eq x.name name && bytes_eq x.descriptor descriptor && any_flags x.flags)
          (class_at classes class).methods no_method
          (first_method classes class) (length (methods_of classes)) m (method_inside classes class) e

resolved_field-within : (classes : List DeclaredClass) (m : MemberName) (n : ℕ) → resolved_field classes m ≡ Some n → n < length (fields_of classes)
unfolding resolved_field
resolved_field-within classes m n found =
    then_within (λ class. field_among classes m.name m.descriptor (field_path classes class)) (length (fields_of classes))
    (λ class k e. field_within classes m.name m.descriptor (field_path classes class) k e) (class_number classes m.class) n found

resolved_method-within : (classes : List DeclaredClass) (m : MemberName) (n : ℕ) → resolved_method classes m ≡ Some n
    → n < length (methods_of classes)
unfolding resolved_method
resolved_method-within classes m n found = by_name (bytes_eq m.name constructor_name) found where
  by_path : (path_of : ℕ → List ℕ) (o : Option ℕ)
      → option_and_then (λ class. method_among classes any_flags m.name m.descriptor (path_of class)) o ≡ Some n → n < length (methods_of classes)
  by_path path_of o e =
      then_within (λ class. method_among classes any_flags m.name m.descriptor (path_of class)) (length (methods_of classes))
      (λ class k f. method_within classes m.name m.descriptor (path_of class) k f) o n e

  by_name : (b : Bool) → cond b (option_and_then (λ class. method_among classes any_flags m.name m.descriptor (constructor_path classes class))
      (class_number classes m.class))
      (option_and_then (λ class. method_among classes any_flags m.name m.descriptor (method_path classes class)) (class_searched classes m.class))
      ≡ Some n
      → n < length (methods_of classes)
  by_name true e = by_path (constructor_path classes) (class_number classes m.class) e
  by_name false e = by_path (method_path classes) (class_searched classes m.class) e

-- ---- uses

names_type : (o : Outline) (t : Option ℕ) → NamesMember o (with_number (λ type. resolved.OfType (record { 0 = type })) t)
names_type o None = tt
names_type o (Some t) = tt

names_text : (o : Outline) (t : Option ℕ) → NamesMember o (with_number resolved.OfText t)
names_text o None = tt
names_text o (Some t) = tt

names_field : (o : Outline) (t f : Option ℕ) → ((n : ℕ) → f ≡ Some n → n < length (fields_of o.classes))
    → NamesMember o (with_number (λ type. with_number (field_use type) f) t)
names_field o None f inside = tt
names_field o (Some t) None inside = tt
names_field o (Some t) (Some n) inside = inside n refl

names_method : (o : Outline) (t m : Option ℕ) → ((n : ℕ) → m ≡ Some n → n < length (methods_of o.classes))
    → NamesMember o (with_number (λ type. with_number (method_use type) m) t)
names_method o None m inside = tt
names_method o (Some t) None inside = tt
names_method o (Some t) (Some n) inside = inside n refl

-- what an entry is resolved to, from the numbers that are looked up for it
abbrev use_with : (type field method text : Option ℕ) → Entry → Use
use_with type field method text (entry.Integer value) = resolved.OfInt value
use_with type field method text (entry.Long value) = resolved.OfLong value
use_with type field method text (entry.Text n) = with_number resolved.OfText text
use_with type field method text (entry.Class name) = with_number (λ t. resolved.OfType (record { 0 = t })) type
use_with type field method text (entry.Field class member) = with_number (λ t. with_number (field_use t) field) type
use_with type field method text (entry.Method class member) = with_number (λ t. with_number (method_use t) method) type
use_with type field method text (entry.InterfaceMethod class member) = with_number (λ t. with_number (method_use t) method) type
use_with type field method text e = resolved.Unused

use_names : (o : Outline) (type field method text : Option ℕ) → ((n : ℕ) → field ≡ Some n → n < length (fields_of o.classes))
    → ((n : ℕ) → method ≡ Some n → n < length (methods_of o.classes)) → (e : Entry) → NamesMember o (use_with type field method text e)
use_names o type field method text of_field of_method (entry.Integer value) = tt
use_names o type field method text of_field of_method (entry.Long value) = tt
use_names o type field method text of_field of_method (entry.Text n) = names_text o text
use_names o type field method text of_field of_method (entry.Class name) = names_type o type
use_names o type field method text of_field of_method (entry.Field class member) = names_field o type field of_field
use_names o type field method text of_field of_method (entry.Method class member) = names_method o type method of_method
use_names o type field method text of_field of_method (entry.InterfaceMethod class member) = names_method o type method of_method
use_names o type field method text of_field of_method e = tt

resolved_names : (o : Outline) (entries : List Entry) (index : ℕ) → NamesMember o (resolved_at o entries index)
resolved_names o entries index =
    use_names o (type_number_at o entries index) (option_and_then (resolved_field o.classes) (named_member entries index))
    (option_and_then (resolved_method o.classes) (named_member entries index))
    (option_and_then (text_number o.texts) (text_units entries index))
    (λ n e. of_member (resolved_field o.classes) (length (fields_of o.classes)) (resolved_field-within o.classes) (named_member entries index) n e)
    (λ n e. of_member (resolved_method o.classes) (length (methods_of o.classes)) (resolved_method-within o.classes) (named_member entries index) n e)
    (entry_at entries index) where
      of_member : (look_up : MemberName → Option ℕ) (total : ℕ) → ((m : MemberName) (n : ℕ) → look_up m ≡ Some n → n < total)
          → (o : Option MemberName) (n : ℕ) → option_and_then look_up o ≡ Some n → n < total
      of_member look_up total each None n e = absurd (none-some _ e)
      of_member look_up total each (Some m) n e = each m n e

-- ---- the program

index_names : (o : Outline) (c : ClassDef) (index : ℕ) → NamesMember o (if is_used c index then resolved_at o c.pool.entries index else resolved.Unused)
index_names o c index = go (is_used c index) where
  go : (b : Bool) → NamesMember o (if b then resolved_at o c.pool.entries index else resolved.Unused)
  go true = resolved_names o c.pool.entries index
  go false = tt

indices_name : (o : Outline) (c : ClassDef) (indices : List ℕ)
    → AllByRecursion (NamesMember o) (map (λ index. if is_used c index then resolved_at o c.pool.entries index else resolved.Unused) indices)
indices_name o c [] = tt
indices_name o c (index ∷ indices) = (index_names o c index, indices_name o c indices)

classes_name : (o : Outline) (given : List ClassDef) → AllByRecursion (AllByRecursion (NamesMember o)) (map (class_uses o) given)
classes_name o [] = tt
classes_name o (c ∷ given) = (indices_name o c (pool_indices c), classes_name o given)

none_name : (o : Outline) (n : ℕ) → AllByRecursion (AllByRecursion (NamesMember o)) (replicate n [])
none_name o zero = tt
none_name o (suc n) = (tt, none_name o n)

all_name : (o : Outline) (given : List ClassDef) → AllByRecursion (AllByRecursion (NamesMember o)) (uses_of o given)
unfolding uses_of
all_name o given =
    AllByRecursion-append (AllByRecursion (NamesMember o)) (replicate (length built_in) []) (map (class_uses o) given)
    (none_name o (length built_in)) (classes_name o given)

pub uses_name_members : (given : List ClassDef) (main : List ℕ) → UsesNameMembers (program_of given main)
unfolding program_of
uses_name_members given main class index =
    let o = outline_of given main in
    AllByRecursion-get_or (NamesMember o) (slice_index_or (uses_of o given) class []) resolved.Unused
    (AllByRecursion-get_or (AllByRecursion (NamesMember o)) (uses_of o given) [] (all_name o given) tt class) tt index
