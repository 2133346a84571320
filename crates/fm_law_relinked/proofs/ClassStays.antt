-- A changed class declares what the old one does, and names the same types and texts in the same order.
use Rattle.std.proofs.Common.{◌≡◌, refl, sym, ◌∙◌, ap, ℕ, ◌+◌, ◌<◌, ◌&&◌, ◌||◌, ◌⊎◌, inl, inr, Bool, true, false, cond, not, List, [], ◌∷◌, ◌++◌, length, length-append, map, nat_eq, Option, Some, None, IsSome, IsSomeAnd, option_and_then, unwrap_or, arith, is_some}
use Rattle.std.specs.Prelude.{bit_or}
use Rattle.std.specs.List.{AllByRecursion, cons_option, filter, filter_map, range_with_len}
use Rattle.std.proofs.lemmas.Bool.{eqb-true, false≢true, or_right}
use Rattle.std.proofs.lemmas.List.{append-nil}
use Rattle.std.proofs.lemmas.List.Elements.{filter-append}
use Rattle.fm_link_supers.proofs.ParentRefusals.{name_within, some_entries}
use Rattle.fm_law_relinked.proofs.ClassLists.{arrays_same, used_same}
use Rattle.fm_law_relinked.proofs.FreeMethod.{free_type}
use Rattle.fm_law_relinked.proofs.PassedOver.{filter_map-kept, filters_agree, none_in_range, values_kept}
use Rattle.fm_law_relinked.proofs.PoolStays.{class_stays, constant_same, method_class, method_no_units, name_same, text_stays, type_same, units_same}
use Rattle.fm_law_relinked.proofs.UsedWithin.{all_items_valid, class_below, filter_map-below, such_there, unused_past, uses_below, value_within}
use Rattle.fm_law_spelled.proofs.Growing.{class_of_called}
use Rattle.fm_law_spelled.specs.Calling.{FreeMeMethod, CallsChain, CallsFree, CallsLink, entry_of, grown, Grows, IsCall, MayCall, member_name_of}
use Rattle.fm_base.proofs.OptionFacts.{IsSome-from_some, Some-from_some_and, same_value}
use Rattle.fm_base.proofs.TestFacts.{same-nat_eq}
use Rattle.fm_base.specs.declared.kinds.TypeRef.{TypeRef}
use Rattle.fm_chain.specs.Chaining.{chained_method, chained_methods}
use Rattle.fm_chain.specs.declared.calls.Calls.{Calls}
use Rattle.fm_code.specs.AccessFlags.{is_interface, is_static}
use Rattle.fm_code.specs.ConstantPool.{class_name_at, EntryIsValid, utf8_at}
use Rattle.fm_code.specs.FreeEntries.{free_class}
use Rattle.fm_code.specs.Members.{FieldAttrIsValid, FieldIsValid, MethodIsValid, receiver_words}
use Rattle.fm_code.specs.Names.{is_binary_name, is_method_name, is_unqualified, IsFieldDescriptor, IsMethodDescriptor}
use Rattle.fm_code.specs.Operands.{OperandIsValid}
use Rattle.fm_code.specs.Spells.{Spells}
use Rattle.fm_code.specs.declared.access_flags.TheConstants.{ACC_ABSTRACT}
use Rattle.fm_code.specs.declared.class_file.ClassDef.{ClassDef}
use Rattle.fm_code.specs.declared.class_file.Member.{Member}
use Rattle.fm_code.specs.declared.class_file.MemberAttr.{MemberAttr}
use Rattle.fm_code.specs.declared.class_file.MemberAttr.TheVariants as attribute
use Rattle.fm_code.specs.declared.code_array.Item.{Item}
use Rattle.fm_code.specs.declared.constant_pool.Entry.{Entry}
use Rattle.fm_code.specs.declared.instructions.Insn.{Insn}
use Rattle.fm_code.specs.declared.instructions.Insn.TheVariants as insn
use Rattle.fm_place.specs.Insertions.{Insertions}
use Rattle.fm_place.specs.Rewriting.{Plans}
use Rattle.fm_types.proofs.LeastJoins.{same_type-refl}
use Rattle.fm_world.specs.Causes.{own_name}
use Rattle.fm_world.specs.Chains.{same_type}
use Rattle.fm_world.specs.Declarations.{declared_field, declared_method, declared_of, first_constant, name_at, text_at}
use Rattle.fm_world.specs.Descriptors.{class_type, type_in, class_number}
use Rattle.fm_world.specs.BuiltIns.{built_in}
use Rattle.fm_world.specs.Numbers.{text_units}
use Rattle.fm_world.specs.Uses.{array_of, class_items, is_used, made_array, named_type, uses_in_order}
use Rattle.fm_world.specs.declared.declarations.DeclaredClass.{DeclaredClass}
use Rattle.fm_link_records.proofs.MarkedPlaces.{range-append}

such_text : (entries : List Entry) (index : ℕ) (P : List ℕ → Type 0) → IsSomeAnd (utf8_at entries index) P → IsSome (utf8_at entries index)
such_text entries index P such = let v = Some-from_some_and (utf8_at entries index) P such in IsSome-from_some (utf8_at entries index) v.0 v.1

-- the index is the entry of a method that may be called
abbrev is_call : (chains : Bool) → Calls → ℕ → Bool
is_call chains calls index = nat_eq calls.free index || (chains && (nat_eq calls.link index || nat_eq calls.free_chain index))

-- all others
abbrev pub is_other : (chains : Bool) → Calls → ℕ → Bool
is_other chains calls index = not (is_call chains calls index)

calls_index : (chains : Bool) (calls : Calls) (index : ℕ) → IsCall chains calls index → is_call chains calls index ≡ true
calls_index chains calls index (CallsFree, may, is) =
    ap (λ b. b || (chains && (nat_eq calls.link index || nat_eq calls.free_chain index))) (ap (nat_eq calls.free) is ∙ same-nat_eq calls.free)
calls_index chains calls index (CallsLink, may, is) =
    or_right (nat_eq calls.free index) (chains && (nat_eq calls.link index || nat_eq calls.free_chain index))
    ((λ k. may k && (nat_eq calls.link index || nat_eq calls.free_chain index))
    ∙ ap (λ b. b || nat_eq calls.free_chain index) (ap (nat_eq calls.link) is ∙ same-nat_eq calls.link))
calls_index chains calls index (CallsChain, may, is) =
    or_right (nat_eq calls.free index) (chains && (nat_eq calls.link index || nat_eq calls.free_chain index))
    ((λ k. may k && (nat_eq calls.link index || nat_eq calls.free_chain index))
    ∙ or_right (nat_eq calls.link index) (nat_eq calls.free_chain index) (ap (nat_eq calls.free_chain) is ∙ same-nat_eq calls.free_chain))

index_calls : (chains : Bool) (calls : Calls) (index : ℕ) → is_call chains calls index ≡ true → IsCall chains calls index
index_calls chains calls index is = by_free (nat_eq calls.free index) refl is where
  by_chain : chains ≡ true → (b : Bool) → nat_eq calls.free_chain index ≡ b → b ≡ true → IsCall chains calls index
  by_chain may true same is = (CallsChain, may, sym (eqb-true calls.free_chain index same))
  by_chain may false same is = absurd (false≢true is)

  by_link : chains ≡ true → (b : Bool) → nat_eq calls.link index ≡ b → (b || nat_eq calls.free_chain index) ≡ true → IsCall chains calls index
  by_link may true same is = (CallsLink, may, sym (eqb-true calls.link index same))
  by_link may false other is = by_chain may (nat_eq calls.free_chain index) refl is

  by_chains : (b : Bool) → chains ≡ b → (b && (nat_eq calls.link index || nat_eq calls.free_chain index)) ≡ true → IsCall chains calls index
  by_chains true may is = by_link may (nat_eq calls.link index) refl is
  by_chains false none is = absurd (false≢true is)

  by_free : (b : Bool) → nat_eq calls.free index ≡ b → (b || (chains && (nat_eq calls.link index || nat_eq calls.free_chain index))) ≡ true → IsCall chains calls index
  by_free true same is = (CallsFree, tt, sym (eqb-true calls.free index same))
  by_free false other is = by_chains chains refl is

pub other_index : (chains : Bool) (calls : Calls) (index : ℕ) → is_other chains calls index ≡ true → IsCall chains calls index → ⊥
other_index chains calls index other may = false≢true (sym (ap not (calls_index chains calls index may)) ∙ other)

pub that_index : (chains : Bool) (calls : Calls) (index : ℕ) → is_other chains calls index ≡ false → IsCall chains calls index
that_index chains calls index is = by_test (is_call chains calls index) refl is where
  by_test : (b : Bool) → is_call chains calls index ≡ b → not b ≡ false → IsCall chains calls index
  by_test true call no_other = index_calls chains calls index call
  by_test false other no_other = absurd (false≢true (sym no_other))

-- an index is one of them or isn't
pub call_or_not : (chains : Bool) (calls : Calls) (index : ℕ) → IsCall chains calls index ⊎ (IsCall chains calls index → ⊥)
call_or_not chains calls index = by_test (is_other chains calls index) refl where
  by_test : (b : Bool) → is_other chains calls index ≡ b → IsCall chains calls index ⊎ (IsCall chains calls index → ⊥)
  by_test true other = inr (other_index chains calls index other)
  by_test false is = inl (that_index chains calls index is)

-- ---- what members declare

module _ (entries more : List Entry) (valid : AllByRecursion (EntryIsValid entries) entries) where
  pub text_same : (index : ℕ) (P : List ℕ → Type 0) → IsSomeAnd (utf8_at entries index) P → text_at (entries ++ more) index ≡ text_at entries index
  text_same index P such = ap (λ o. unwrap_or o []) (text_stays entries more index (such_text entries index P such))

  constants_same : (attributes : List MemberAttr) → AllByRecursion (FieldAttrIsValid entries) attributes
      → first_constant (entries ++ more) attributes ≡ first_constant entries attributes
  constants_same [] fit = refl
  constants_same (attribute.Constant name value ∷ attributes) fit = constant_same entries more valid value (value_within entries value fit.0.1)
  constants_same (attribute.Coded name code ∷ attributes) fit = absurd fit.0
  constants_same (attribute.Other raw ∷ attributes) fit = constants_same attributes fit.1

  field_same : (in_interface : Bool) (m : Member) → FieldIsValid in_interface entries m → declared_field (entries ++ more) m ≡ declared_field entries m
  field_same in_interface m fit =
      let names = text_same m.name (λ name. is_unqualified name ≡ true) fit.name in
      let descriptors = text_same m.descriptor IsFieldDescriptor fit.descriptor in
      λ k. record {
        name = names k;
        descriptor = descriptors k;
        flags = m.flags;
        value = cond (is_static m.flags) (constants_same m.attributes fit.attributes k) None;
      }

  fields_same : (in_interface : Bool) (fields : List Member) → AllByRecursion (FieldIsValid in_interface entries) fields
      → map (declared_field (entries ++ more)) fields ≡ map (declared_field entries) fields
  fields_same in_interface [] fit = refl
  fields_same in_interface (m ∷ fields) fit = λ k. field_same in_interface m fit.0 k ∷ fields_same in_interface fields fit.1 k

  method_same : (in_interface : Bool) (calls : Calls) (plan : Option Insertions) (m : Member) → MethodIsValid in_interface entries m
      → declared_method (entries ++ more) (chained_method calls plan m) ≡ declared_method entries m
  method_same in_interface calls None m fit =
      let names = text_same m.name (λ name. is_method_name name ≡ true) fit.name in
      let descriptors = text_same m.descriptor (IsMethodDescriptor (receiver_words m.flags)) fit.descriptor in
      λ k. record { name = names k; descriptor = descriptors k; flags = m.flags; row = None }
  method_same in_interface calls (Some plan) m fit =
      let names = text_same m.name (λ name. is_method_name name ≡ true) fit.name in
      let descriptors = text_same m.descriptor (IsMethodDescriptor (receiver_words m.flags)) fit.descriptor in
      λ k. record { name = names k; descriptor = descriptors k; flags = m.flags; row = None }

  methods_same : (in_interface : Bool) (calls : Calls) (plans : Plans) (first : ℕ) (methods : List Member) → AllByRecursion (MethodIsValid in_interface entries) methods
      → map (declared_method (entries ++ more)) (chained_methods plans calls first methods) ≡ map (declared_method entries) methods
  methods_same in_interface calls plans first [] fit = refl
  methods_same in_interface calls plans first (m ∷ methods) fit =
      λ k. method_same in_interface calls (plans first) m fit.0 k ∷ methods_same in_interface calls plans (first + 1) methods fit.1 k

  names_same : (indices : List ℕ) → AllByRecursion (λ index. IsSome (class_name_at entries index)) indices
      → map (name_at (entries ++ more)) indices ≡ map (name_at entries) indices
  names_same [] there = refl
  names_same (index ∷ indices) there = λ k. unwrap_or (class_stays entries more index there.0 k) [] ∷ names_same indices there.1 k

  -- ---- arrays that are made

  array_same : (classes : List DeclaredClass) (offset : ℕ) (bytes : List ℕ) (i : Insn) → OperandIsValid entries (record { offset = offset; bytes = bytes; insn = i })
      → made_array classes (entries ++ more) i ≡ made_array classes entries i
  array_same classes offset bytes (insn.NewRefs index) there = ap (option_and_then array_of) (type_same entries more valid index (name_within entries index there) classes)
  array_same classes offset bytes i there = refl

  items_arrays : (classes : List DeclaredClass) (items : List Item) → AllByRecursion (OperandIsValid entries) items
      → filter_map (λ (item : Item). made_array classes (entries ++ more) item.insn) items
      ≡ filter_map (λ (item : Item). made_array classes entries item.insn) items
  items_arrays classes [] there = refl
  items_arrays classes (item ∷ items) there =
      λ k. cons_option (array_same classes item.offset item.bytes item.insn there.0 k) (items_arrays classes items there.1 k)

-- ---- a changed class

module _ (chains : Bool) (more_entries : List Entry) (calls : Calls) (plans : Plans) (first : ℕ) (c : ClassDef)
    (grows : Grows chains more_entries calls plans first c) (bytes : List ℕ) (spells : Spells bytes c) where
  pub name_is : own_name (grown more_entries calls plans first c) ≡ own_name c
  name_is = ap (λ o. unwrap_or o []) (class_stays c.pool.entries more_entries c.this_class (such_there c.pool.entries c.this_class (λ name. is_binary_name name ≡ true) spells.this_class))

  pub superclass_within : c.super_class < length c.pool.entries
  superclass_within = class_below c.pool.entries (some_entries c.pool.entries spells.pool.slots) c.super_class spells.super_class

  -- what it declares
  pub declared_same : (file : ℕ) → declared_of file (grown more_entries calls plans first c) ≡ declared_of file c
  declared_same file =
      let entries = c.pool.entries in
      let valid = spells.pool.entries in
      λ k. record {
        name = name_is k;
        superclass = name_same entries more_entries valid c.super_class superclass_within k;
        interfaces = names_same entries more_entries valid c.interfaces spells.interfaces k;
        flags = cond (is_some (class_number built_in (name_is k))) (bit_or c.flags ACC_ABSTRACT) c.flags;
        hidden = false;
        fields = fields_same entries more_entries valid (is_interface c.flags) c.fields spells.fields k;
        methods = methods_same entries more_entries valid (is_interface c.flags) calls plans first c.methods spells.methods k;
        file = Some file;
      }

  -- ---- used indices

  -- but for those by which methods are called the used ones are the same in the same order
  pub uses_alike : filter (is_other chains calls) (uses_in_order (grown more_entries calls plans first c)) ≡ filter (is_other chains calls) (uses_in_order c)
  uses_alike =
      let other = is_other chains calls in
      let used = is_used (grown more_entries calls plans first c) in
      let n = length c.pool.entries in
      let m = length more_entries in
      let old = range_with_len 0 n in
      let new = range_with_len (0 + n) m in
      let all : range_with_len 0 (length (c.pool.entries ++ more_entries)) ≡ old ++ new = ap (range_with_len 0) (length-append c.pool.entries more_entries) ∙ range-append 0 n m in
      let old_ones : filter other (filter used old) ≡ filter other (filter (is_used c) old) =
      filters_agree other used (is_used c) (λ k passes. used_same chains more_entries calls plans first c grows k (other_index chains calls k passes)) old in
      let new_ones : filter other (filter used new) ≡ [] =
      none_in_range other used (0 + n) m
      (λ k from passes. used_same chains more_entries calls plans first c grows k (other_index chains calls k passes) ∙ unused_past c (bytes, spells) k (omega (arith, from))) in
      ap (λ ks. filter other (filter used ks)) all ∙ ap (filter other) (filter-append used old new) ∙ filter-append other (filter used old) (filter used new)
      ∙ (λ k. old_ones k ++ new_ones k) ∙ append-nil (filter other (filter (is_used c) old))

  -- the texts that it names
  pub texts_same : filter_map (text_units (c.pool.entries ++ more_entries)) (uses_in_order (grown more_entries calls plans first c))
      ≡ filter_map (text_units c.pool.entries) (uses_in_order c)
  texts_same =
      let entries = c.pool.entries in
      let other = is_other chains calls in
      let units = text_units (entries ++ more_entries) in
      let none : (k : ℕ) → other k ≡ false → units k ≡ None =
      λ k is.
      let found = that_index chains calls k is in
      ap units found.2
      ∙ method_no_units (entries ++ more_entries) (entry_of calls found.0) (member_name_of found.0) (grows.named found.0 found.1) in
      sym (filter_map-kept units other none (uses_in_order (grown more_entries calls plans first c))) ∙ ap (filter_map units) uses_alike
      ∙ filter_map-kept units other none (uses_in_order c)
      ∙ filter_map-below (length entries) units (text_units entries) (λ k within. units_same entries more_entries spells.pool.entries k within) (uses_in_order c)
      (uses_below c)

  module _ (classes : List DeclaredClass) (free_is : type_in classes (class_type free_class) ≡ Some free_type) where
    abbrev pub unlike_free : TypeRef → Bool
    unlike_free t = not (same_type free_type t)

    type_called : (m : FreeMeMethod) → MayCall chains m → named_type classes (c.pool.entries ++ more_entries) (entry_of calls m) ≡ Some free_type
    type_called m may =
        ap (option_and_then (λ (name : List ℕ). type_in classes (class_type name)))
        (method_class (c.pool.entries ++ more_entries) (entry_of calls m) (member_name_of m) (grows.named m may))
        ∙ ap (λ (name : List ℕ). type_in classes (class_type name)) (class_of_called m) ∙ free_is

    -- the types that it names, but for FreeMe
    pub types_alike : filter unlike_free (filter_map (named_type classes (c.pool.entries ++ more_entries)) (uses_in_order (grown more_entries calls plans first c)))
        ≡ filter unlike_free (filter_map (named_type classes c.pool.entries) (uses_in_order c))
    types_alike =
        let entries = c.pool.entries in
        let other = is_other chains calls in
        let types = named_type classes (entries ++ more_entries) in
        let fails : (k : ℕ) → other k ≡ false → (t : TypeRef) → types k ≡ Some t → unlike_free t ≡ false =
        λ k is t found.
        let call = that_index chains calls k is in
        let own : free_type ≡ t = same_value (types k) free_type t (ap types call.2 ∙ type_called call.0 call.1) found in
        ap (λ u. not (same_type free_type u)) (sym own) ∙ ap not (same_type-refl free_type) in
        sym (values_kept types other unlike_free fails (uses_in_order (grown more_entries calls plans first c)))
        ∙ ap (λ ks. filter unlike_free (filter_map types ks)) uses_alike
        ∙ values_kept types other unlike_free fails (uses_in_order c)
        ∙ ap (filter unlike_free)
        (filter_map-below (length entries) types (named_type classes entries) (λ k within. type_same entries more_entries spells.pool.entries k within classes)
        (uses_in_order c) (uses_below c))

    -- the arrays that it makes
    pub made_same : filter_map (λ (item : Item). made_array classes (c.pool.entries ++ more_entries) item.insn) (class_items (grown more_entries calls plans first c))
        ≡ filter_map (λ (item : Item). made_array classes c.pool.entries item.insn) (class_items c)
    made_same =
        arrays_same chains more_entries calls plans first c grows classes (c.pool.entries ++ more_entries)
        ∙ items_arrays c.pool.entries more_entries spells.pool.entries classes (class_items c)
        (all_items_valid c.pool.entries (is_interface c.flags) c.methods spells.methods)
