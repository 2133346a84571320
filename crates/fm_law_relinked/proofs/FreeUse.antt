-- The indices by which a written class calls methods of FreeMe refer to these where it uses them.
use Rattle.std.proofs.Common.{◌≡◌, refl, sym, ◌∙◌, ap, subst, ℕ, ◌+◌, ◌<◌, ◌≤◌, ◌⊎◌, inl, inr, Bool, true, false, cond, List, ◌++◌, length, length-append, get_or, Some, option_and_then, option_map, arith}
use Rattle.std.specs.Prelude.{slice_get}
use Rattle.std.proofs.lemmas.Bool.{cases_lt}
use Rattle.std.proofs.lemmas.List.Quantifiers.{position-Some}
use Rattle.std.proofs.lemmas.Option.{slice_get-get_or}
use Rattle.fm_world.proofs.Completions.{count_is}
use Rattle.fm_link_supers.proofs.ParentRefusals.{spelled_at}
use Rattle.fm_law_relinked.proofs.FreeMethod.{class_number_is, free_class_number, free_type, method_found, number_of, type_is}
use Rattle.fm_law_spelled.proofs.Growing.{class_of_called, either_class, grown_class, grows, more}
use Rattle.fm_law_relinked.proofs.Outlines.{outline_same}
use Rattle.fm_law_relinked.proofs.PoolStays.{entry_same, member_same, method_entry, method_named}
use Rattle.fm_law_relinked.proofs.Uses.{row_past, row_within, use_at, written_at}
use Rattle.fm_law_relinked.specs.Again.{CallsStand, first_at, IsUseOf}
use Rattle.fm_law_spelled.specs.Calling.{FreeMeMethod, entry_of, MayCall, member_name_of}
use Rattle.fm_base.specs.declared.kinds.TypeRef.{TypeRef}
use Rattle.fm_chain.specs.Chaining.{chained_class, chained_classes, class_calls, class_has_chain}
use Rattle.fm_code.specs.ConstantPool.{class_name_at, entry_at, MemberName, method_ref_at}
use Rattle.fm_code.specs.FreeEntries.{free_class}
use Rattle.fm_code.specs.Spells.{HasSpelling}
use Rattle.fm_code.specs.declared.class_file.ClassDef.{ClassDef}
use Rattle.fm_code.specs.declared.constant_pool.Entry.{Entry}
use Rattle.fm_code.specs.declared.constant_pool.Entry.TheVariants as entry
use Rattle.fm_link_names.specs.inner.Files.{by_class}
use Rattle.fm_place.specs.Rewriting.{first_given, Plans}
use Rattle.fm_link_records.proofs.UseLaws.{resolved_at-by, resolved_by}
use Rattle.fm_types.proofs.LeastJoins.{same_type-eq}
use Rattle.fm_world.specs.BuiltIns.{built_in}
use Rattle.fm_world.specs.Chains.{same_type}
use Rattle.fm_world.specs.Declarations.{declared_from}
use Rattle.fm_world.specs.Descriptors.{class_number, class_type, type_in}
use Rattle.fm_world.specs.Lookups.{resolved_method}
use Rattle.fm_world.specs.Numbers.{type_number, type_of_class, types_of}
use Rattle.fm_world.specs.Programs.{class_uses, classes_of, method_use, Outline, outline_of, program_of, resolved_at, type_number_at, use_of, with_number}
use Rattle.fm_world.specs.Uses.{is_used, named_class, named_member}
use Rattle.fm_world.specs.declared.declarations.DeclaredClass.{DeclaredClass}
use Rattle.fm_world.specs.declared.uses.Use.{Use}
use Rattle.fm_world.specs.declared.uses.Use.TheVariants as resolved

-- the type of a class has its number
abbrev pub ClassTypesAreNumbered : Type 0
ClassTypesAreNumbered = (classes : List DeclaredClass) (given : List ClassDef) (class : ℕ) → class < length classes
    → type_number (types_of classes given) (type_of_class class) ≡ Some class

-- ---- an outline with FreeMe

-- what is known of an outline: the numbers of FreeMe, of its type and of its method
pub record HasFree (o : Outline) : Type 0 where
  pub class : class_number o.classes free_class ≡ Some free_class_number
  pub type : type_in o.classes (class_type free_class) ≡ Some free_type
  pub number : type_number o.types free_type ≡ Some free_class_number
  pub method : (m : FreeMeMethod) → resolved_method o.classes (member_name_of m) ≡ Some (number_of m)

few_built_in : (given : List ClassDef) → free_class_number < length (classes_of given)
unfolding classes_of
few_built_in given = let both = length-append built_in (declared_from 0 given) in let count = count_is in omega (arith, both, count)

pub has_free : ClassTypesAreNumbered → (given : List ClassDef) (main : List ℕ) → HasFree (outline_of given main)
unfolding outline_of
has_free numbered given main = record {
  class = class_number_is given;
  type = type_is given;
  number = numbered (classes_of given) given free_class_number (few_built_in given);
  method = method_found given;
}

-- ---- an entry that names a method of FreeMe

-- its use
abbrev pub called_use : FreeMeMethod → Use
called_use m = method_use free_class_number (number_of m)

module _ (o : Outline) (has : HasFree o) (m : FreeMeMethod) (entries : List Entry) (index class member : ℕ) (is : entry_at entries index ≡ entry.Method class member)
    (named : named_member entries index ≡ Some (member_name_of m)) where
  class_named : named_class entries index ≡ Some free_class
  class_named =
      ap (by_class (class_name_at entries index) (option_map (λ (n : MemberName). n.class) (named_member entries index))) is
      ∙ ap (option_map (λ (n : MemberName). n.class)) named ∙ ap Some (class_of_called m)

  type_named : type_number_at o entries index ≡ Some free_class_number
  type_named =
      ap (λ n. option_and_then (type_number o.types) (option_and_then (λ (name : List ℕ). type_in o.classes (class_type name)) n)) class_named
      ∙ ap (option_and_then (type_number o.types)) has.type ∙ has.number

  pub call_resolved : resolved_at o entries index ≡ called_use m
  call_resolved =
      resolved_at-by o entries index ∙ ap (resolved_by o entries index) is
      ∙ (λ k. with_number (λ type. with_number (method_use type) (option_and_then (resolved_method o.classes) (named k))) (type_named k))
      ∙ ap (with_number (method_use free_class_number)) (has.method m)

-- ---- a class

-- a use that is none, or that of the method
abbrev pub NoneOr : FreeMeMethod → Use → Type 0
NoneOr m u = (u ≡ resolved.Unused) ⊎ (u ≡ called_use m)

if_used : (m : FreeMeMethod) (b : Bool) (u : Use) → u ≡ called_use m → NoneOr m (cond b u resolved.Unused)
if_used m true u is = inr is
if_used m false u is = inl refl

-- the entries of the class with those that it calls
abbrev pub all_entries : Plans → (first : ℕ) → ClassDef → List Entry
all_entries plans first c = c.pool.entries ++ more plans first c

-- the entry by which it calls a method
abbrev pub call_of : Plans → (first : ℕ) → ClassDef → FreeMeMethod → ℕ
call_of plans first c m = entry_of (class_calls plans first c) m

-- names the method
pub call_named : (plans : Plans) (first : ℕ) (c : ClassDef) (m : FreeMeMethod) → MayCall (class_has_chain plans first c) m
    → method_ref_at (all_entries plans first c) (call_of plans first c m) ≡ Some (member_name_of m)
call_named plans first c m may = (grows plans first c).named m may

module _ (o : Outline) (has : HasFree o) (plans : Plans) (first : ℕ) (c : ClassDef) (spelled : HasSpelling c) (m : FreeMeMethod)
    (may : MayCall (class_has_chain plans first c) m) where
  abbrev entries : List Entry
  entries = all_entries plans first c

  abbrev call : ℕ
  call = call_of plans first c m

  -- of the grown class
  grown_row : NoneOr m (get_or (class_uses o (grown_class plans first c)) call resolved.Unused)
  grown_row = by_place (cases_lt call (length entries)) where
    by_place : (call < length entries) ⊎ (length entries ≤ call) → NoneOr m (get_or (class_uses o (grown_class plans first c)) call resolved.Unused)
    by_place (inl within) =
        let e = method_entry entries call (member_name_of m) (call_named plans first c m may) in
        subst (NoneOr m) (sym (row_within o (grown_class plans first c) call within))
        (if_used m (is_used (grown_class plans first c) call) (resolved_at o entries call)
        (call_resolved o has m entries call e.0 e.1 e.2 (method_named entries call (member_name_of m) (call_named plans first c m may))))
    by_place (inr past) = inl (row_past o (grown_class plans first c) call past)

  -- of the class itself
  pub own_row : NoneOr m (get_or (class_uses o c) call resolved.Unused)
  own_row = by_place (cases_lt call (length c.pool.entries)) where
    by_place : (call < length c.pool.entries) ⊎ (length c.pool.entries ≤ call) → NoneOr m (get_or (class_uses o c) call resolved.Unused)
    by_place (inl within) =
        let valid = spelled.1.pool.entries in
        let e = method_entry entries call (member_name_of m) (call_named plans first c m may) in
        let is = sym (entry_same c.pool.entries (more plans first c) valid call within) ∙ e.2 in
        let member = sym (member_same c.pool.entries (more plans first c) valid call within) ∙ method_named entries call (member_name_of m) (call_named plans first c m may) in
        subst (NoneOr m) (sym (row_within o c call within))
        (if_used m (is_used c call) (resolved_at o c.pool.entries call) (call_resolved o has m c.pool.entries call e.0 e.1 is member))
    by_place (inr past) = inl (row_past o c call past)

  pub written_row : NoneOr m (get_or (class_uses o (chained_class plans first c)) call resolved.Unused)
  written_row = either_class plans first c (λ (d : ClassDef). NoneOr m (get_or (class_uses o d) call resolved.Unused)) own_row grown_row

-- ---- all classes

-- the type of that number is FreeMe's
pub type_found : (types : List TypeRef) → type_number types free_type ≡ Some free_class_number → slice_get types free_class_number ≡ Some free_type
type_found types number =
    let found = position-Some (same_type free_type) types free_class_number free_type number in
    slice_get-get_or types free_class_number free_type found.0
    ∙ ap (λ (t : TypeRef). Some t) (sym (same_type-eq free_type (get_or types free_class_number free_type) found.1))

is_use : (given : List ClassDef) (main : List ℕ) → HasFree (outline_of given main) → (m : FreeMeMethod) (u : Use) → u ≡ called_use m
    → IsUseOf (outline_of given main) m u
is_use given main has m u is = record {
  class = free_class_number;
  type = free_class_number;
  method = number_of m;
  class_is = has.class;
  type_is = type_found (outline_of given main).types has.number;
  method_is = has.method m;
  use_is = is;
}

pub calls_stand : ClassTypesAreNumbered → CallsStand
calls_stand numbered given main plans spelled place c there m may =
    let o = outline_of given main in
    let has = has_free numbered given main in
    let first = first_at first_given given place in
    let new = written_at plans first_given given place c there in
    let call = entry_of (class_calls plans first c) m in
    let use_is =
    use_at (chained_classes plans given) main place (chained_class plans first c) new call
    ∙ ap (λ p. get_or (class_uses p (chained_class plans first c)) call resolved.Unused) (outline_same plans given main spelled) in
    by_row (get_or (class_uses o (chained_class plans first c)) call resolved.Unused) use_is
    (written_row o has plans first c (spelled_at given place c spelled there) m may) where
      found : Use
      found =
          use_of (program_of (chained_classes plans given) main) (length built_in + place)
          (entry_of (class_calls plans (first_at first_given given place) c) m)

      by_row : (u : Use) → found ≡ u → NoneOr m u → (found ≡ resolved.Unused) ⊎ IsUseOf (outline_of given main) m found
      by_row u same (inl none) = inl (same ∙ none)
      by_row u same (inr is) = inr (is_use given main (has_free numbered given main) m found (same ∙ is))
