-- What has a number in a program of class files is there: classes of methods, codes, and what uses name.
use Rattle.std.proofs.Common.{◌≡◌, refl, sym, ◌∙◌, ap, ℕ, zero, suc, ◌<◌, ◌≤◌, ◌⊎◌, inl, inr, Bool, true, false, List, [], ◌∷◌, length, map, replicate, Option, Some, None, option_and_then, if◌then◌else◌, arith}
use Rattle.std.specs.List.{AllByRecursion, slice_index_or}
use Rattle.std.specs.Str.{bytes_eq}
use Rattle.std.proofs.lemmas.Bool.{cases_lt}
use Rattle.std.proofs.lemmas.List.{get_or_past}
use Rattle.std.proofs.lemmas.List.Quantifiers.{position-Some}
use Rattle.std.proofs.lemmas.Option.{none-some}
use Rattle.fm_base.proofs.ListFacts.{AllByRecursion-append, AllByRecursion-get_or}
use Rattle.fm_base.specs.declared.kinds.TypeRef.{TypeRef}
use Rattle.fm_code.specs.ConstantPool.{entry_at}
use Rattle.fm_code.specs.declared.class_file.ClassDef.{ClassDef}
use Rattle.fm_code.specs.declared.code_array.Code.{Code}
use Rattle.fm_code.specs.declared.constant_pool.Entry.{Entry}
use Rattle.fm_code.specs.declared.constant_pool.Entry.TheVariants as entry
use Rattle.fm_frames.specs.Runnable.{IsUseIn}
use Rattle.fm_link_records.proofs.CodeLaws.{AreCodes-all}
use Rattle.fm_link_records.proofs.UseLaws.{resolved_by}
use Rattle.fm_check_rows.proofs.UseLemmas.{uses_name_members}
use Rattle.fm_check_rows.specs.Members.{NamesMember}
use Rattle.fm_world.proofs.OwnedMethods.{owner_within}
use Rattle.fm_world.specs.BuiltIns.{built_in}
use Rattle.fm_world.specs.Chains.{same_type}
use Rattle.fm_world.specs.Declarations.{no_method}
use Rattle.fm_world.specs.Lookups.{resolved_field, resolved_method}
use Rattle.fm_world.specs.Members.{method_at, methods_of, OwnedMethod}
use Rattle.fm_world.specs.Numbers.{text_number, text_units, type_number, type_of_class}
use Rattle.fm_world.specs.Programs.{class_uses, classes_of, codes_of, field_use, method_use, Outline, outline_of, program_of, resolved_at, use_of, uses_of, with_number}
use Rattle.fm_world.specs.Uses.{is_used, named_member, named_type, pool_indices}
use Rattle.fm_world.specs.declared.uses.Use.{Use}
use Rattle.fm_world.specs.declared.uses.Use.TheVariants as resolved
use Rattle.fm_law_linked.proofs.FewStarts.{some_classes}

-- ---- the classes of methods

pub owner_there : (given : List ClassDef) (method : ℕ) → (method_at (classes_of given) method).class < length (classes_of given)
owner_there given method = by_place (cases_lt method (length (methods_of (classes_of given)))) where
  by_place : (method < length (methods_of (classes_of given))) ⊎ (length (methods_of (classes_of given)) ≤ method)
      → (method_at (classes_of given) method).class < length (classes_of given)
  by_place (inl within) = owner_within (classes_of given) method within
  by_place (inr past) =
      let none : OwnedMethod = record { class = 0; method = no_method } in
      let at : (method_at (classes_of given) method).class ≡ 0 = ap (λ (m : OwnedMethod). m.class) (get_or_past (methods_of (classes_of given)) method none past) in
      let some = some_classes given in
      omega (arith, at, some)

-- ---- codes

pub one_code_each : (given : List ClassDef) → length (codes_of given) ≡ length (methods_of (classes_of given))
one_code_each given = (AreCodes-all given).count

-- a method that has code has no row
pub coded_without_row : (given : List ClassDef) (method : ℕ) (code : Code) → slice_index_or (codes_of given) method None ≡ Some code
    → (method_at (classes_of given) method).method.row ≡ None
coded_without_row given method code is = by_row (method_at (classes_of given) method).method.row refl where
  at_place : (row : ℕ) → (method_at (classes_of given) method).method.row ≡ Some row
      → (method < length (methods_of (classes_of given))) ⊎ (length (methods_of (classes_of given)) ≤ method) → ⊥
  at_place row there (inl within) = none-some code (sym ((AreCodes-all given).built_in method row within there) ∙ is)
  at_place row there (inr past) =
      none-some row
      (sym (ap (λ (m : OwnedMethod). m.method.row) (get_or_past (methods_of (classes_of given)) method (record { class = 0; method = no_method }) past)) ∙ there)

  by_row : (o : Option ℕ) → (method_at (classes_of given) method).method.row ≡ o → o ≡ None
  by_row None e = refl
  by_row (Some row) e = absurd (at_place row e (cases_lt method (length (methods_of (classes_of given)))))

-- ---- types and texts that uses name

abbrev NamesNumber : Outline → Use → Type 0
NamesNumber o (resolved.OfType t) = t.0 < length o.types
NamesNumber o (resolved.OfField f t) = t.0 < length o.types
NamesNumber o (resolved.OfMethod m t) = t.0 < length o.types
NamesNumber o (resolved.OfText text) = text < length o.texts
NamesNumber o u = Unit {0}

type_named : (o : Outline) (make : ℕ → Use) → ((type : ℕ) → type < length o.types → NamesNumber o (make type)) → (t : Option TypeRef)
    → NamesNumber o (with_number make (option_and_then (type_number o.types) t))
type_named o make each None = tt
type_named o make each (Some t) = by_number (type_number o.types t) refl where
  by_number : (n : Option ℕ) → type_number o.types t ≡ n → NamesNumber o (with_number make n)
  by_number None e = tt
  by_number (Some n) e = each n (position-Some (same_type t) o.types n (type_of_class 0) e).0

text_named : (o : Outline) (units : Option (List ℕ)) → NamesNumber o (with_number resolved.OfText (option_and_then (text_number o.texts) units))
text_named o None = tt
text_named o (Some units) = by_number (text_number o.texts units) refl where
  by_number : (n : Option ℕ) → text_number o.texts units ≡ n → NamesNumber o (with_number resolved.OfText n)
  by_number None e = tt
  by_number (Some n) e = (position-Some (bytes_eq units) o.texts n [] e).0

field_named : (o : Outline) (found : Option ℕ) (type : ℕ) → type < length o.types → NamesNumber o (with_number (field_use type) found)
field_named o None type within = tt
field_named o (Some f) type within = within

method_named : (o : Outline) (found : Option ℕ) (type : ℕ) → type < length o.types → NamesNumber o (with_number (method_use type) found)
method_named o None type within = tt
method_named o (Some m) type within = within

entry_named : (o : Outline) (entries : List Entry) (index : ℕ) (e : Entry) → NamesNumber o (resolved_by o entries index e)
entry_named o entries index (entry.Integer value) = tt
entry_named o entries index (entry.Long value) = tt
entry_named o entries index (entry.Text text) = text_named o (text_units entries index)
entry_named o entries index (entry.Class name) =
    type_named o (λ type. resolved.OfType (record { 0 = type })) (λ type within. within) (named_type o.classes entries index)
entry_named o entries index (entry.Field class member) =
    let found = option_and_then (resolved_field o.classes) (named_member entries index) in
    type_named o (λ type. with_number (field_use type) found) (field_named o found) (named_type o.classes entries index)
entry_named o entries index (entry.Method class member) =
    let found = option_and_then (resolved_method o.classes) (named_member entries index) in
    type_named o (λ type. with_number (method_use type) found) (method_named o found) (named_type o.classes entries index)
entry_named o entries index (entry.InterfaceMethod class member) =
    let found = option_and_then (resolved_method o.classes) (named_member entries index) in
    type_named o (λ type. with_number (method_use type) found) (method_named o found) (named_type o.classes entries index)
entry_named o entries index e = tt

index_named : (o : Outline) (c : ClassDef) (index : ℕ) → NamesNumber o (if is_used c index then resolved_at o c.pool.entries index else resolved.Unused)
index_named o c index = by_use (is_used c index) where
  by_use : (b : Bool) → NamesNumber o (if b then resolved_at o c.pool.entries index else resolved.Unused)
  by_use true = entry_named o c.pool.entries index (entry_at c.pool.entries index)
  by_use false = tt

indices_named : (o : Outline) (c : ClassDef) (indices : List ℕ)
    → AllByRecursion (NamesNumber o) (map (λ index. if is_used c index then resolved_at o c.pool.entries index else resolved.Unused) indices)
indices_named o c [] = tt
indices_named o c (index ∷ indices) = (index_named o c index, indices_named o c indices)

classes_named : (o : Outline) (given : List ClassDef) → AllByRecursion (AllByRecursion (NamesNumber o)) (map (class_uses o) given)
classes_named o [] = tt
classes_named o (c ∷ given) = (indices_named o c (pool_indices c), classes_named o given)

none_named : (o : Outline) (n : ℕ) → AllByRecursion (AllByRecursion (NamesNumber o)) (replicate n [])
none_named o zero = tt
none_named o (suc n) = (tt, none_named o n)

all_named : (o : Outline) (given : List ClassDef) → AllByRecursion (AllByRecursion (NamesNumber o)) (uses_of o given)
unfolding uses_of
all_named o given =
    AllByRecursion-append (AllByRecursion (NamesNumber o)) (replicate (length built_in) []) (map (class_uses o) given) (none_named o (length built_in))
    (classes_named o given)

both_there : (o : Outline) (u : Use) → NamesMember o u → NamesNumber o u → IsUseIn o u
both_there o (resolved.OfType t) member number = number
both_there o (resolved.OfField f t) member number = (member, number)
both_there o (resolved.OfMethod m t) member number = (member, number)
both_there o (resolved.OfInt n) member number = tt
both_there o (resolved.OfLong n) member number = tt
both_there o (resolved.OfText text) member number = number
both_there o resolved.Unused member number = tt

-- what an index of a class's constant pool refers to is there
pub use_there : (given : List ClassDef) (main : List ℕ) (class index : ℕ) → IsUseIn (program_of given main).outline (use_of (program_of given main) class index)
unfolding program_of
use_there given main class index =
    let o = outline_of given main in
    both_there o (use_of (program_of given main) class index) (uses_name_members given main class index)
    (AllByRecursion-get_or (NamesNumber o) (slice_index_or (uses_of o given) class []) resolved.Unused
    (AllByRecursion-get_or (AllByRecursion (NamesNumber o)) (uses_of o given) [] (all_named o given) tt class) tt index)
