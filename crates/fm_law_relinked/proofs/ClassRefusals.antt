-- A changed class is refused for what the old one is refused for.
use Rattle.std.proofs.Common.{◌≡◌, refl, sym, ◌∙◌, ap, ℕ, zero, suc, ◌+◌, ◌<◌, ◌≤◌, ◌==◌, ◌||◌, ◌⊎◌, inl, inr, Bool, true, false, cond, List, [], ◌∷◌, ◌++◌, length, length-append, map, Option, Some, None, is_none, unwrap_or, arith, ◌&&◌, not}
use Rattle.std.specs.List.{AllByRecursion, cons_option, filter, filter_map, flat_map, list_any, range_with_len}
use Rattle.std.proofs.lemmas.Grind.{flat_map-append}
use Rattle.std.proofs.lemmas.List.{append-nil}
use Rattle.fm_law_relinked.proofs.ClassLists.{fields_wanted, instances_wanted, methods_wanted, special_operand, specials_same}
use Rattle.fm_law_relinked.proofs.ClassStays.{call_or_not, is_other, name_is, superclass_within, text_same, that_index, uses_alike}
use Rattle.fm_law_relinked.proofs.FreeMethod.{free_class_number, KnowsFree}
use Rattle.fm_law_relinked.proofs.PoolStays.{class_same, entry_same, member_same, method_class, method_entry, method_named, name_same}
use Rattle.fm_law_relinked.proofs.UsedWithin.{all_items_valid, below_option, flat_map-below, indices_below, insn_below, IsBelow, unused_past, uses_below}
use Rattle.fm_chain.specs.Chaining.{chained_method, chained_methods}
use Rattle.fm_chain.specs.declared.calls.Calls.{Calls}
use Rattle.fm_code.specs.AccessFlags.{is_abstract, is_interface}
use Rattle.fm_code.specs.ConstantPool.{entry_at, method_ref_at}
use Rattle.fm_code.specs.FreeEntries.{free_class}
use Rattle.fm_code.specs.Members.{FieldIsValid, MethodIsValid, receiver_words}
use Rattle.fm_code.specs.Names.{FieldType, IsFieldDescriptor, IsMethodDescriptor}
use Rattle.fm_code.specs.Operands.{OperandIsValid}
use Rattle.fm_code.specs.Spells.{Spells}
use Rattle.fm_code.specs.declared.class_file.ClassDef.{ClassDef}
use Rattle.fm_code.specs.declared.class_file.Member.{Member}
use Rattle.fm_code.specs.declared.code_array.Item.{Item}
use Rattle.fm_code.specs.declared.constant_pool.Entry.{Entry}
use Rattle.fm_code.specs.declared.instructions.Insn.{Insn}
use Rattle.fm_code.specs.declared.instructions.Insn.TheVariants as insn
use Rattle.fm_law_spelled.proofs.Growing.{class_of_called}
use Rattle.fm_law_spelled.specs.Calling.{FreeMeMethod, entry_of, grown, Grows, IsCall, MayCall, member_name_of}
use Rattle.fm_place.specs.Insertions.{Insertions}
use Rattle.fm_place.specs.Rewriting.{Plans}
use Rattle.fm_link_refusals.proofs.ParentNames.{parents_all, unused}
use Rattle.fm_link_refusals.proofs.UsedIndices.{flat_map-kept}
use Rattle.fm_link_refusals.proofs.WantedMembers.{fields_all, is_wrong_method, method_refusals, methods_all, no_field_refused, no_method_refused, unwanted}
use Rattle.fm_world.specs.BuiltIns.{built_in}
use Rattle.fm_world.specs.Causes.{abstract_call, abstract_methods, bad_interface, bad_parent_at, bad_parents, bad_superclass, BadParent, built_in_named, BuiltIn, calls_abstract, Cause, declared_name, differs, field_flags, field_text, is_bad_interface, is_bad_superclass, is_left_over, is_not_as_wanted, is_there_and, left_over, method_flags, method_text, missing, missing_at, missing_classes, missing_field_at, missing_fields, missing_in, missing_method_at, missing_methods, MissingClass, MissingField, MissingMethod, names_wrong_sort, not_implemented, NotImplemented, Refusal, refused, refused_if, refused_where, static_field_wanted, static_method_wanted, wanted_at, may_be_completed, may_have_fields, same_name}
use Rattle.fm_world.specs.Chains.{chain_of, interfaces_of, is_among, class_at, self_of}
use Rattle.fm_world.specs.Members.{is_instance}
use Rattle.fm_world.specs.Declarations.{name_at, text_at}
use Rattle.fm_world.specs.Descriptors.{class_in, class_number, class_type, types_in}
use Rattle.fm_world.specs.Lookups.{is_interface_at, resolved_field, resolved_method}
use Rattle.fm_world.specs.Uses.{class_items, named_member, pool_indices, uses_in_order}
use Rattle.fm_world.specs.declared.declarations.DeclaredClass.{DeclaredClass}
use Rattle.fm_link_records.proofs.MarkedPlaces.{range-append}
use Rattle.fm_link_supers.proofs.InterfaceLemmas.{AreWithin}

-- ---- lists over indices

none_past : {A : Type 0} (f : ℕ → List A) (a n : ℕ) → ((k : ℕ) → a ≤ k → f k ≡ []) → flat_map f (range_with_len a n) ≡ []
none_past f a zero none = refl
none_past f a (suc n) none = λ k. none a (omega arith) k ++ none_past f (a + 1) n (λ j within. none j (omega (arith, within))) k

-- what longer lists of indices give, where only the old ones give something
longer : {A : Type 0} (n m l : ℕ) (f g : ℕ → List A) → l ≡ n + m → ((k : ℕ) → k < n → f k ≡ g k) → ((k : ℕ) → n ≤ k → f k ≡ [])
    → AreWithin n (range_with_len 0 n) → flat_map f (range_with_len 0 l) ≡ flat_map g (range_with_len 0 n)
longer n m l f g long agree none below =
    ap (λ k. flat_map f (range_with_len 0 k)) long ∙ ap (flat_map f) (range-append 0 n m)
    ∙ flat_map-append f (range_with_len 0 n) (range_with_len (0 + n) m)
    ∙ (λ k. flat_map-below n f g agree (range_with_len 0 n) below k ++ none_past f (0 + n) m (λ j within. none j (omega (arith, within))) k)
    ∙ append-nil (flat_map g (range_with_len 0 n))

-- ---- special calls

-- the refusals of an index that a special call names
abbrev special_refusals : List DeclaredClass → ClassDef → ℕ → ℕ → List Refusal
special_refusals classes c caller index =
    refused_where (λ m. refused_if (calls_abstract classes caller m) (refused NotImplemented c (method_text m))) (named_member c.pool.entries index)

one_special : (classes : List DeclaredClass) (c : ClassDef) (caller offset : ℕ) (bytes : List ℕ) (i : Insn) (rest : List ℕ)
    → abstract_call classes c caller (record { offset = offset; bytes = bytes; insn = i }) ++ flat_map (special_refusals classes c caller) rest
    ≡ flat_map (special_refusals classes c caller) (cons_option (special_operand i) rest)
one_special classes c caller offset bytes (insn.Special index) rest = refl
one_special classes c caller offset bytes i rest = refl

specials_listed : (classes : List DeclaredClass) (c : ClassDef) (caller : ℕ) (items : List Item)
    → flat_map (abstract_call classes c caller) items
    ≡ flat_map (special_refusals classes c caller) (filter_map (λ (item : Item). special_operand item.insn) items)
specials_listed classes c caller [] = refl
specials_listed classes c caller (item ∷ items) =
    ap (λ l. abstract_call classes c caller item ++ l) (specials_listed classes c caller items)
    ∙ one_special classes c caller item.offset item.bytes item.insn (filter_map (λ (i : Item). special_operand i.insn) items)

special_below : (entries : List Entry) (offset : ℕ) (bytes : List ℕ) (i : Insn) → OperandIsValid entries (record { offset = offset; bytes = bytes; insn = i })
    → IsBelow entries (special_operand i)
special_below entries offset bytes (insn.Special index) valid = insn_below entries offset bytes (insn.Special index) valid
special_below entries offset bytes i valid = tt

specials_below : (entries : List Entry) (items : List Item) → AllByRecursion (OperandIsValid entries) items
    → AreWithin (length entries) (filter_map (λ (item : Item). special_operand item.insn) items)
specials_below entries [] valid = tt
specials_below entries (item ∷ items) valid =
    below_option entries (special_operand item.insn) (filter_map (λ (i : Item). special_operand i.insn) items)
    (special_below entries item.offset item.bytes item.insn valid.0) (specials_below entries items valid.1)

-- ---- a changed class

module _ (chains : Bool) (more : List Entry) (calls : Calls) (plans : Plans) (first : ℕ) (c : ClassDef) (grows : Grows chains more calls plans first c)
    (bytes : List ℕ) (spells : Spells bytes c) where
  abbrev new : ClassDef
  new = grown more calls plans first c

  -- a refusal is the same
  told : (cause : Cause) (name : List ℕ) → refused cause new name ≡ refused cause c name
  told cause name = λ k. record { cause = cause; name = name; user = name_is chains more calls plans first c grows bytes spells k }

  -- it has the name of a built-in class, which it completes where the old one did
  pub built_in_same : built_in_named new ≡ built_in_named c
  built_in_same =
      let name = name_is chains more calls plans first c grows bytes spells in
      let super = name_same c.pool.entries more spells.pool.entries c.super_class (superclass_within chains more calls plans first c grows bytes spells) in
      λ k. refused_where (λ class. refused_if (not (may_be_completed (class_at built_in class).name
      && ((not (is_interface c.flags) && not (is_abstract c.flags))
      && (same_name (class_at built_in class).superclass (super k)
      && (may_have_fields (class_at built_in class) || not (list_any (λ (f : Member). is_instance f.flags) c.fields))))))
      (record { cause = BuiltIn; name = name k; user = name k })) (class_number built_in (name k))

  module _ (classes : List DeclaredClass) where
    -- ---- classes that aren't there

    missing_same : (t : FieldType) → missing classes new t ≡ missing classes c t
    missing_same t = λ k. refused_where (λ name. refused_if (is_none (class_number classes name)) (told MissingClass name k)) (class_in t)

    missing_here : (index : ℕ) → index < length c.pool.entries → missing_at classes new index ≡ missing_at classes c index
    missing_here index within =
        let class = class_same c.pool.entries more spells.pool.entries index within in
        λ k. refused_where (λ name. missing_same (class_type name) k) (class k)

    missing_called : class_number classes free_class ≡ Some free_class_number → (index : ℕ) → is_other chains calls index ≡ false
        → missing_at classes new index ≡ []
    missing_called number index is =
        let call = that_index chains calls index is in
        let m = call.0 in
        ap (missing_at classes new) call.2
        ∙ ap (refused_where (λ name. missing classes new (class_type name)))
        (method_class (c.pool.entries ++ more) (entry_of calls m) (member_name_of m) (grows.named m call.1))
        ∙ ap (λ name. missing classes new (class_type name)) (class_of_called m)
        ∙ ap (λ o. refused_if (is_none o) (refused MissingClass new free_class)) number

    used_missing : class_number classes free_class ≡ Some free_class_number
        → flat_map (missing_at classes new) (uses_in_order new) ≡ flat_map (missing_at classes c) (uses_in_order c)
    used_missing number =
        let other = is_other chains calls in
        sym (flat_map-kept (missing_at classes new) other (uses_in_order new) (missing_called number))
        ∙ ap (flat_map (missing_at classes new)) (uses_alike chains more calls plans first c grows bytes spells)
        ∙ flat_map-kept (missing_at classes new) other (uses_in_order c) (missing_called number)
        ∙ flat_map-below (length c.pool.entries) (missing_at classes new) (missing_at classes c) missing_here (uses_in_order c) (uses_below c)

    missing_of_text : (text other : List ℕ) → text ≡ other → flat_map (missing classes new) (types_in text) ≡ flat_map (missing classes c) (types_in other)
    missing_of_text text other same = λ k. flat_map (λ t. missing_same t k) (types_in (same k))

    missing_of_fields : (fields : List Member) → AllByRecursion (FieldIsValid (is_interface c.flags) c.pool.entries) fields
        → flat_map (missing_in classes new) fields ≡ flat_map (missing_in classes c) fields
    missing_of_fields [] valid = refl
    missing_of_fields (m ∷ fields) valid =
        let descriptor = text_same c.pool.entries more spells.pool.entries m.descriptor IsFieldDescriptor valid.0.descriptor in
        λ k. missing_of_text (text_at (c.pool.entries ++ more) m.descriptor) (text_at c.pool.entries m.descriptor) descriptor k ++ missing_of_fields fields valid.1 k

    missing_of_method : (plan : Option Insertions) (m : Member) → MethodIsValid (is_interface c.flags) c.pool.entries m
        → missing_in classes new (chained_method calls plan m) ≡ missing_in classes c m
    missing_of_method None m valid =
        missing_of_text (text_at (c.pool.entries ++ more) m.descriptor) (text_at c.pool.entries m.descriptor)
        (text_same c.pool.entries more spells.pool.entries m.descriptor (IsMethodDescriptor (receiver_words m.flags)) valid.descriptor)
    missing_of_method (Some plan) m valid =
        missing_of_text (text_at (c.pool.entries ++ more) m.descriptor) (text_at c.pool.entries m.descriptor)
        (text_same c.pool.entries more spells.pool.entries m.descriptor (IsMethodDescriptor (receiver_words m.flags)) valid.descriptor)

    missing_of_methods : (number : ℕ) (methods : List Member) → AllByRecursion (MethodIsValid (is_interface c.flags) c.pool.entries) methods
        → flat_map (missing_in classes new) (chained_methods plans calls number methods) ≡ flat_map (missing_in classes c) methods
    missing_of_methods number [] valid = refl
    missing_of_methods number (m ∷ methods) valid =
        λ k. missing_of_method (plans number) m valid.0 k ++ missing_of_methods (number + 1) methods valid.1 k

    pub classes_missing : class_number classes free_class ≡ Some free_class_number → missing_classes classes new ≡ missing_classes classes c
    classes_missing number =
        λ k. used_missing number k ++ (missing_of_fields c.fields spells.fields k ++ missing_of_methods first c.methods spells.methods k)

    -- ---- superclasses and interfaces

    superclass_same : bad_superclass classes new ≡ bad_superclass classes c
    superclass_same =
        let own = name_is chains more calls plans first c grows bytes spells in
        let name : name_at (c.pool.entries ++ more) c.super_class ≡ name_at c.pool.entries c.super_class =
        ap (λ o. unwrap_or o []) (name_same c.pool.entries more spells.pool.entries c.super_class (superclass_within chains more calls plans first c grows bytes spells)) in
        λ k.
        cond (c.super_class == 0) (record { cause = BadParent; name = own k; user = own k } ∷ [])
        (refused_if (is_bad_superclass classes c (name k)) (record { cause = BadParent; name = name k; user = own k }))

    interface_same : (index : ℕ) → index < length c.pool.entries → bad_interface classes new index ≡ bad_interface classes c index
    interface_same index within =
        let own = name_is chains more calls plans first c grows bytes spells in
        let name : name_at (c.pool.entries ++ more) index ≡ name_at c.pool.entries index =
        ap (λ o. unwrap_or o []) (name_same c.pool.entries more spells.pool.entries index within) in
        λ k. refused_if (is_bad_interface classes (name k)) (record { cause = BadParent; name = name k; user = own k })

    parent_same : (index : ℕ) → index < length c.pool.entries → bad_parent_at classes new index ≡ bad_parent_at classes c index
    parent_same index within =
        λ k. cond (index == c.super_class) (superclass_same k) [] ++ cond (is_among index c.interfaces) (interface_same index within k) []

    no_parent : (index : ℕ) → length c.pool.entries ≤ index → bad_parent_at classes new index ≡ []
    no_parent index past =
        let none = unused c index (unused_past c (bytes, spells) index past) in
        ap (λ b. cond b (bad_superclass classes new) [] ++ cond (is_among index c.interfaces) (bad_interface classes new index) []) none.superclass
        ∙ ap (λ b. cond b (bad_interface classes new index) []) none.interfaces

    all_indices : (f g : ℕ → List Refusal) → ((k : ℕ) → k < length c.pool.entries → f k ≡ g k) → ((k : ℕ) → length c.pool.entries ≤ k → f k ≡ [])
        → flat_map f (pool_indices new) ≡ flat_map g (pool_indices c)
    all_indices f g agree none =
        longer (length c.pool.entries) (length more) (length (c.pool.entries ++ more)) f g (length-append c.pool.entries more) agree none (indices_below c)

    pub parents_same : bad_parents classes new ≡ bad_parents classes c
    parents_same =
        parents_all classes new ∙ all_indices (bad_parent_at classes new) (bad_parent_at classes c) parent_same no_parent ∙ sym (parents_all classes c)

    -- ---- fields

    field_same : (index : ℕ) → index < length c.pool.entries → missing_field_at classes new index ≡ missing_field_at classes c index
    field_same index within =
        let member = member_same c.pool.entries more spells.pool.entries index within in
        let wanted = fields_wanted chains more calls plans first c grows index in
        λ k. refused_where (λ m. refused_if (is_not_as_wanted (field_flags classes) (resolved_field classes m) (wanted k)) (told MissingField (field_text m) k)) (member k)

    no_field : (index : ℕ) → length c.pool.entries ≤ index → missing_field_at classes new index ≡ []
    no_field index past =
        no_field_refused classes new index
        (fields_wanted chains more calls plans first c grows index ∙ unwanted static_field_wanted c index (unused_past c (bytes, spells) index past))

    pub fields_same : missing_fields classes new ≡ missing_fields classes c
    fields_same = fields_all classes new ∙ all_indices (missing_field_at classes new) (missing_field_at classes c) field_same no_field ∙ sym (fields_all classes c)

    -- ---- methods

    method_same : (index : ℕ) → index < length c.pool.entries → (IsCall chains calls index → ⊥) → missing_method_at classes new index ≡ missing_method_at classes c index
    method_same index within other =
        let member = member_same c.pool.entries more spells.pool.entries index within in
        let e = entry_same c.pool.entries more spells.pool.entries index within in
        let wanted = methods_wanted chains more calls plans first c grows index other in
        λ k. refused_where (λ m. refused_if (is_wrong_method classes (e k) m (wanted k)) (told MissingMethod (method_text m) k)) (member k)

    no_method : (index : ℕ) → length c.pool.entries ≤ index → (IsCall chains calls index → ⊥) → missing_method_at classes new index ≡ []
    no_method index past other =
        no_method_refused classes new index
        (methods_wanted chains more calls plans first c grows index other ∙ unwanted static_method_wanted c index (unused_past c (bytes, spells) index past))

    module _ (knows : KnowsFree classes) where
      judged : (m : FreeMeMethod) (e : Entry) → names_wrong_sort classes e (member_name_of m).class ≡ false → (wanted : List Bool)
          → is_wrong_method classes e (member_name_of m) wanted ≡ list_any (differs true) wanted
      judged m e sort [] = refl
      judged m e sort (w ∷ ws) =
          ap (λ b. b || is_not_as_wanted (method_flags classes) (resolved_method classes (member_name_of m)) (w ∷ ws)) sort
          ∙ ap (λ o. is_not_as_wanted (method_flags classes) o (w ∷ ws)) (knows.method m) ∙ ap (λ b. list_any (differs b) (w ∷ ws)) (knows.static m)

      module _ (m : FreeMeMethod) (may : MayCall chains m) where
        abbrev call : ℕ
        call = entry_of calls m

        named : method_ref_at (c.pool.entries ++ more) (entry_of calls m) ≡ Some (member_name_of m)
        named = grows.named m may

        right_sort : names_wrong_sort classes (entry_at (c.pool.entries ++ more) call) (member_name_of m).class ≡ false
        right_sort =
            let e = method_entry (c.pool.entries ++ more) call (member_name_of m) named in
            ap (names_wrong_sort classes (entry_at (c.pool.entries ++ more) call)) (class_of_called m)
            ∙ ap (λ x. names_wrong_sort classes x free_class) e.2 ∙ ap (is_there_and (is_interface_at classes)) knows.class ∙ knows.no_interface

        -- the method is missing where it is called on an object
        call_by : missing_method_at classes new call
            ≡ refused_if (list_any (differs true) (wanted_at static_method_wanted c call)) (refused MissingMethod c (method_text (member_name_of m)))
        call_by =
            ap (refused_where (method_refusals classes new call (wanted_at static_method_wanted new call)))
            (method_named (c.pool.entries ++ more) call (member_name_of m) named)
            ∙ (λ k. refused_if (judged m (entry_at (c.pool.entries ++ more) call) right_sort (wanted_at static_method_wanted new call) k)
            (told MissingMethod (method_text (member_name_of m)) k))
            ∙ ap (λ b. refused_if b (refused MissingMethod c (method_text (member_name_of m)))) (instances_wanted chains more calls plans first c grows call)

        call_same : call < length c.pool.entries → missing_method_at classes new call ≡ missing_method_at classes c call
        call_same within =
            let e = entry_same c.pool.entries more spells.pool.entries call within in
            let member =
            sym (member_same c.pool.entries more spells.pool.entries call within) ∙ method_named (c.pool.entries ++ more) call (member_name_of m) named in
            let sort : names_wrong_sort classes (entry_at c.pool.entries call) (member_name_of m).class ≡ false =
            ap (λ x. names_wrong_sort classes x (member_name_of m).class) (sym e) ∙ right_sort in
            call_by
            ∙ sym (ap (λ b. refused_if b (refused MissingMethod c (method_text (member_name_of m))))
            (judged m (entry_at c.pool.entries call) sort (wanted_at static_method_wanted c call)))
            ∙ sym (ap (refused_where (method_refusals classes c call (wanted_at static_method_wanted c call))) member)

        no_call : length c.pool.entries ≤ call → missing_method_at classes new call ≡ []
        no_call past =
            call_by
            ∙ ap (λ ws. refused_if (list_any (differs true) ws) (refused MissingMethod c (method_text (member_name_of m))))
            (unwanted static_method_wanted c call (unused_past c (bytes, spells) call past))

      each_method : (index : ℕ) → index < length c.pool.entries → missing_method_at classes new index ≡ missing_method_at classes c index
      each_method index within = by_index (call_or_not chains calls index) where
        by_index : IsCall chains calls index ⊎ (IsCall chains calls index → ⊥) → missing_method_at classes new index ≡ missing_method_at classes c index
        by_index (inl (m, may, same)) =
            ap (missing_method_at classes new) same ∙ call_same m may (omega (arith, same, within)) ∙ sym (ap (missing_method_at classes c) same)
        by_index (inr other) = method_same index within other

      each_other : (index : ℕ) → length c.pool.entries ≤ index → missing_method_at classes new index ≡ []
      each_other index past = by_index (call_or_not chains calls index) where
        by_index : IsCall chains calls index ⊎ (IsCall chains calls index → ⊥) → missing_method_at classes new index ≡ []
        by_index (inl (m, may, same)) = ap (missing_method_at classes new) same ∙ no_call m may (omega (arith, same, past))
        by_index (inr other) = no_method index past other

      pub methods_same : missing_methods classes new ≡ missing_methods classes c
      methods_same =
          methods_all classes new ∙ all_indices (missing_method_at classes new) (missing_method_at classes c) each_method each_other ∙ sym (methods_all classes c)

    -- ---- methods without code

    left_over_same : (class : ℕ) → left_over classes new class ≡ left_over classes c class
    left_over_same class =
        λ k.
        cond (is_abstract c.flags || is_interface c.flags) []
        (map (λ method. told NotImplemented (method_text (declared_name classes method)) k)
        (filter (is_left_over classes class) (flat_map (abstract_methods classes) (chain_of classes class ++ interfaces_of classes class))))

    special_same : (caller index : ℕ) → index < length c.pool.entries → special_refusals classes new caller index ≡ special_refusals classes c caller index
    special_same caller index within =
        let member = member_same c.pool.entries more spells.pool.entries index within in
        λ k. refused_where (λ m. refused_if (calls_abstract classes caller m) (told NotImplemented (method_text m) k)) (member k)

    calls_same : (caller : ℕ) → flat_map (abstract_call classes new caller) (class_items new) ≡ flat_map (abstract_call classes c caller) (class_items c)
    calls_same caller =
        let specials = filter_map (λ (item : Item). special_operand item.insn) (class_items c) in
        specials_listed classes new caller (class_items new) ∙ ap (flat_map (special_refusals classes new caller)) (specials_same chains more calls plans first c grows)
        ∙ flat_map-below (length c.pool.entries) (special_refusals classes new caller) (special_refusals classes c caller) (special_same caller) specials
        (specials_below c.pool.entries (class_items c) (all_items_valid c.pool.entries (is_interface c.flags) c.methods spells.methods))
        ∙ sym (specials_listed classes c caller (class_items c))

    pub implemented_same : (class : ℕ) → not_implemented classes new class ≡ not_implemented classes c class
    implemented_same class = λ k. left_over_same (self_of classes class) k ++ calls_same class k
