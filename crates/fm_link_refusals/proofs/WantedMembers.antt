-- What instructions want of a member, and what is found.
use Rattle.std.proofs.Common.{◌≡◌, refl, sym, ◌∙◌, ap, subst, ℕ, ◌==◌, ◌||◌, Bool, true, false, cond, List, [], ◌∷◌, ◌++◌, map, nat_eq, get_or, Option, Some, None, option_map, append_assoc}
use Rattle.std.specs.List.{cons_option, filter_map, flat_map, list_any}
use Rattle.std.proofs.Math.ListN as list
use Rattle.std.proofs.lemmas.Bool.{not-false, not-true}
use Rattle.std.proofs.lemmas.Option.{get_or_from_slice_get}
use Rattle.fm_base.proofs.ListFacts.{map-map}
use Rattle.fm_base.proofs.TestFacts.{nat_eq-comm, or_left_fails, or_right_fails}
use Rattle.fm_base.specs.declared.characters.TheConstants.{DOT}
use Rattle.fm_link_names.specs.declared.given.GivenFile.{GivenFile}
use Rattle.fm_link_names.specs.declared.given.MemberTexts.{MemberTexts}
use Rattle.fm_link_names.specs.inner.Files.{member_in}
use Rattle.fm_link_names.specs.inner.Numbering.{text_of}
use Rattle.fm_link_refusals.proofs.FileNames.{member_numbered, NamesMember}
use Rattle.fm_link_refusals.specs.inner.GivenClasses.{class_in, IsNumbered}
use Rattle.fm_code.specs.ConstantPool.{entry_at, MemberName}
use Rattle.fm_code.specs.declared.class_file.ClassDef.{ClassDef}
use Rattle.fm_code.specs.declared.code_array.Item.{Item}
use Rattle.fm_code.specs.declared.constant_pool.Entry.{Entry}
use Rattle.fm_code.specs.declared.instructions.Insn.{Insn}
use Rattle.fm_link_names.specs.inner.Wanting.{is_something, wanted_of}
use Rattle.fm_link_members.specs.declared.members.MemberRow.{MemberRow}
use Rattle.fm_link_members.specs.declared.members.Members.{Members}
use Rattle.fm_link_members.specs.inner.MemberRows.{field_alike, method_alike, row_alike, AreFieldRows, AreMethodRows, Owned}
use Rattle.fm_link_members.specs.inner.MemberTables.{flags_of}
use Rattle.fm_world.specs.Causes.{MissingField, MissingMethod, field_flags, field_text, is_not_as_wanted, method_flags, method_text, missing_field_at, missing_fields, missing_method_at, missing_methods, names_wrong_sort, refused, refused_if, refused_where, static_field_wanted, static_method_wanted, wanted_at, Refusal}
use Rattle.fm_world.specs.Chains.{is_among}
use Rattle.fm_world.specs.Lookups.{class_searched, object_number, resolved_field, resolved_method}
use Rattle.fm_world.specs.Descriptors.{class_number, class_type}
use Rattle.fm_world.specs.Members.{OwnedField, OwnedMethod, fields_of, methods_of}
use Rattle.fm_code.specs.Operands.{pool_index}
use Rattle.fm_world.specs.Uses.{class_items, is_used, named_member, pool_indices}
use Rattle.fm_world.specs.declared.declarations.DeclaredClass.{DeclaredClass}
use Rattle.fm_link_refusals.proofs.ParentNames.{unused}
use Rattle.fm_link_refusals.proofs.UsedIndices.{flat_map-kept, indices_from}
use Rattle.fm_link_refusals.specs.inner.Linking.{is_unlike, names_array, IsMemberOf}

-- ---- what is wanted

pub none_wanted : (flags : List Bool) → is_something (wanted_of flags) ≡ false → flags ≡ []
none_wanted [] e = refl
none_wanted (true ∷ flags) e = cc
none_wanted (false ∷ flags) e = go (list_any (λ b. b) flags) e where
  go : (a : Bool) → (a || true) ≡ false → false ∷ flags ≡ []
  go true e = cc
  go false e = cc

-- where something is wanted, what is found is judged by its flags alone
pub judged_by_flags : (flags_at : ℕ → ℕ) (found : Option ℕ) (flags : List Bool) → is_something (wanted_of flags) ≡ true
    → is_not_as_wanted flags_at found flags ≡ is_unlike (option_map flags_at found) flags
judged_by_flags flags_at found [] e = cc
judged_by_flags flags_at None (w ∷ flags) e = refl
judged_by_flags flags_at (Some m) (w ∷ flags) e = refl

-- ---- indices that no instruction names

abbrev pub names : ℕ → Option ℕ → Bool
names index None = false
names index (Some operand) = operand == index

wanted_none : (wanted : Insn → Option Bool) (index : ℕ) (items : List Item)
    → is_among index (filter_map (λ (item : Item). pool_index item.insn) items) ≡ false
    → filter_map (λ (item : Item). cond (names index (pool_index item.insn)) (wanted item.insn) None) items ≡ []
wanted_none wanted index [] e = refl
wanted_none wanted index (item ∷ items) e = go (pool_index item.insn) e (wanted_none wanted index items) where
  others : List ℕ
  others = filter_map (λ (i : Item). pool_index i.insn) items

  rest : List Bool
  rest = filter_map (λ (i : Item). cond (names index (pool_index i.insn)) (wanted i.insn) None) items

  go : (o : Option ℕ) → is_among index (cons_option o others) ≡ false → (is_among index others ≡ false → rest ≡ [])
      → cons_option (cond (names index o) (wanted item.insn) None) rest ≡ []
  go None e after = after e
  go (Some operand) e after =
      ap (λ b. cons_option (cond b (wanted item.insn) None) rest)
      (nat_eq-comm operand index ∙ or_left_fails (nat_eq index operand) (is_among index others) e)
      ∙ after (or_right_fails (nat_eq index operand) (is_among index others) e)

pub unwanted : (wanted : Insn → Option Bool) (c : ClassDef) (index : ℕ) → is_used c index ≡ false → wanted_at wanted c index ≡ []
unwanted wanted c index e = let u = unused c index e in wanted_none wanted index (class_items c) u.operands

-- ---- fields

abbrev pub field_refusals : List DeclaredClass → ClassDef → List Bool → MemberName → List Refusal
field_refusals classes c wanted m = refused_if (is_not_as_wanted (field_flags classes) (resolved_field classes m) wanted)
    (refused MissingField c (field_text m))

pub fields_by : (classes : List DeclaredClass) (c : ClassDef) (index : ℕ)
    → missing_field_at classes c index ≡ refused_where (field_refusals classes c (wanted_at static_field_wanted c index))
    (named_member c.pool.entries index)
fields_by classes c index = refl

field_unwanted : (classes : List DeclaredClass) (c : ClassDef) (o : Option MemberName) → refused_where (field_refusals classes c []) o ≡ []
field_unwanted classes c None = refl
field_unwanted classes c (Some m) = refl

pub no_field_refused : (classes : List DeclaredClass) (c : ClassDef) (index : ℕ) → wanted_at static_field_wanted c index ≡ []
    → missing_field_at classes c index ≡ []
no_field_refused classes c index none =
    fields_by classes c index
    ∙ ap (λ w. refused_where (field_refusals classes c w) (named_member c.pool.entries index)) none
    ∙ field_unwanted classes c (named_member c.pool.entries index)

pub fields_all : (classes : List DeclaredClass) (c : ClassDef) → missing_fields classes c ≡ flat_map (missing_field_at classes c) (indices_from 0 c)
fields_all classes c =
    flat_map-kept (missing_field_at classes c) (is_used c) (pool_indices c)
    (λ index e. no_field_refused classes c index (unwanted static_field_wanted c index e))

-- ---- methods

abbrev pub is_wrong_method : List DeclaredClass → Entry → MemberName → List Bool → Bool
is_wrong_method classes e m [] = false
is_wrong_method classes e m (first ∷ others) = names_wrong_sort classes e m.class
    || is_not_as_wanted (method_flags classes) (resolved_method classes m) (first ∷ others)

abbrev pub method_refusals : List DeclaredClass → ClassDef → ℕ → List Bool → MemberName → List Refusal
method_refusals classes c index wanted m = refused_if (is_wrong_method classes (entry_at c.pool.entries index) m wanted)
    (refused MissingMethod c (method_text m))

pub methods_by : (classes : List DeclaredClass) (c : ClassDef) (index : ℕ)
    → missing_method_at classes c index ≡ refused_where (method_refusals classes c index (wanted_at static_method_wanted c index))
    (named_member c.pool.entries index)
methods_by classes c index = refl

method_unwanted : (classes : List DeclaredClass) (c : ClassDef) (index : ℕ) (o : Option MemberName)
    → refused_where (method_refusals classes c index []) o ≡ []
method_unwanted classes c index None = refl
method_unwanted classes c index (Some m) = refl

pub no_method_refused : (classes : List DeclaredClass) (c : ClassDef) (index : ℕ) → wanted_at static_method_wanted c index ≡ []
    → missing_method_at classes c index ≡ []
no_method_refused classes c index none =
    methods_by classes c index
    ∙ ap (λ w. refused_where (method_refusals classes c index w) (named_member c.pool.entries index)) none
    ∙ method_unwanted classes c index (named_member c.pool.entries index)

pub methods_all : (classes : List DeclaredClass) (c : ClassDef) → missing_methods classes c
    ≡ flat_map (missing_method_at classes c) (indices_from 0 c)
methods_all classes c =
    flat_map-kept (missing_method_at classes c) (is_used c) (pool_indices c)
    (λ index e. no_method_refused classes c index (unwanted static_method_wanted c index e))

-- ---- flags by number

pub field_flags_are : (texts : List (List ℕ)) (classes : List DeclaredClass) (m : Members) → AreFieldRows texts classes m → (field : ℕ)
    → flags_of m.rows.items field ≡ field_flags classes field
field_flags_are texts classes m are field =
    let flags = λ (o : Owned). o.flags in
    let same : map (λ (r : MemberRow). r.flags) m.rows.items ≡ map (λ (f : OwnedField). f.field.flags) (fields_of classes) =
    sym (map-map (row_alike texts) flags m.rows.items) ∙ ap (map flags) are.rows.same ∙ map-map field_alike flags (fields_of classes) in
    sym (list.get_or-map (λ (r : MemberRow). r.flags) m.rows.items field _) ∙ ap (λ fs. get_or fs field 0) same
    ∙ list.get_or-map (λ (f : OwnedField). f.field.flags) (fields_of classes) field _

pub method_flags_are : (texts : List (List ℕ)) (classes : List DeclaredClass) (m : Members) → AreMethodRows texts classes m → (method : ℕ)
    → flags_of m.rows.items method ≡ method_flags classes method
method_flags_are texts classes m are method =
    let flags = λ (o : Owned). o.flags in
    let same : map (λ (r : MemberRow). r.flags) m.rows.items ≡ map (λ (f : OwnedMethod). f.method.flags) (methods_of classes) =
    sym (map-map (row_alike texts) flags m.rows.items) ∙ ap (map flags) are.rows.same ∙ map-map method_alike flags (methods_of classes) in
    sym (list.get_or-map (λ (r : MemberRow). r.flags) m.rows.items method _) ∙ ap (λ fs. get_or fs method 0) same
    ∙ list.get_or-map (λ (f : OwnedMethod). f.method.flags) (methods_of classes) method _

-- ---- the class that methods are looked for in

pub searched_in_object : (classes : List DeclaredClass) (name : List ℕ) → names_array name ≡ true → class_searched classes name
    ≡ object_number classes
searched_in_object classes name e =
    let plain = (class_type name).dimensions == 0 in
    ap (λ b. cond b (class_number classes name) (object_number classes)) (not-true plain e)

pub searched_by_name : (classes : List DeclaredClass) (name : List ℕ) → names_array name ≡ false → class_searched classes name
    ≡ class_number classes name
searched_by_name classes name e =
    let plain = (class_type name).dimensions == 0 in
    ap (λ b. cond b (class_number classes name) (object_number classes)) (not-false plain e)

-- ---- members at an index

pub member_at_index : (texts : List (List ℕ)) (file : GivenFile) → IsNumbered texts file → (i j : ℕ) (t : MemberTexts) (r : Option MemberTexts) → j
    ≡ i → r ≡ member_in file j → r ≡ Some t
    → (m : MemberName) × (named_member (class_in file).pool.entries i ≡ Some m) × IsMemberOf texts m t
member_at_index texts file is i j t r same found some =
    go (named_member (class_in file).pool.entries i)
    (subst (NamesMember texts (named_member (class_in file).pool.entries i)) (ap (member_in file) (sym same) ∙ sym found ∙ some)
    (member_numbered texts file is i)) where
      go : (o : Option MemberName) → NamesMember texts o (Some t) → (m : MemberName) × (o ≡ Some m) × IsMemberOf texts m t
      go None names = absurd names
      go (Some m) names = (m, refl, names)

pub no_member_at_index : (texts : List (List ℕ)) (file : GivenFile) → IsNumbered texts file → (i j : ℕ) (r : Option MemberTexts) → j ≡ i → r
    ≡ member_in file j → r ≡ None
    → named_member (class_in file).pool.entries i ≡ None
no_member_at_index texts file is i j r same found none =
    go (named_member (class_in file).pool.entries i)
    (subst (NamesMember texts (named_member (class_in file).pool.entries i)) (ap (member_in file) (sym same) ∙ sym found ∙ none)
    (member_numbered texts file is i)) where
      go : (o : Option MemberName) → NamesMember texts o None → o ≡ None
      go None names = refl
      go (Some m) names = absurd names

-- ---- what an index gives

pub field_unnamed : (classes : List DeclaredClass) (c : ClassDef) (index : ℕ) → named_member c.pool.entries index ≡ None
    → missing_field_at classes c index ≡ []
field_unnamed classes c index none = fields_by classes c index
    ∙ ap (refused_where (field_refusals classes c (wanted_at static_field_wanted c index))) none

pub field_judged : (classes : List DeclaredClass) (c : ClassDef) (index : ℕ) (m : MemberName) (b : Bool) → named_member c.pool.entries index ≡ Some m
    → is_something (wanted_of (wanted_at static_field_wanted c index)) ≡ true
    → is_unlike (option_map (field_flags classes) (resolved_field classes m)) (wanted_at static_field_wanted c index) ≡ b
    → missing_field_at classes c index ≡ refused_if b (refused MissingField c (field_text m))
field_judged classes c index m b named some judged =
    let wanted = wanted_at static_field_wanted c index in
    fields_by classes c index
    ∙ ap (refused_where (field_refusals classes c wanted)) named
    ∙ ap (λ wrong. refused_if wrong (refused MissingField c (field_text m)))
    (judged_by_flags (field_flags classes) (resolved_field classes m) wanted some ∙ judged)

pub method_unnamed : (classes : List DeclaredClass) (c : ClassDef) (index : ℕ) → named_member c.pool.entries index ≡ None
    → missing_method_at classes c index ≡ []
method_unnamed classes c index none = methods_by classes c index
    ∙ ap (refused_where (method_refusals classes c index (wanted_at static_method_wanted c index))) none

wrong_method : (classes : List DeclaredClass) (e : Entry) (m : MemberName) (wanted : List Bool) → is_something (wanted_of wanted) ≡ true
    → is_wrong_method classes e m wanted ≡ (names_wrong_sort classes e m.class
    || is_unlike (option_map (method_flags classes) (resolved_method classes m)) wanted)
wrong_method classes e m [] some = cc
wrong_method classes e m (w ∷ wanted) some =
    ap (λ b. names_wrong_sort classes e m.class || b) (judged_by_flags (method_flags classes) (resolved_method classes m) (w ∷ wanted) some)

pub method_judged : (classes : List DeclaredClass) (c : ClassDef) (index : ℕ) (m : MemberName) (sort b : Bool) → named_member c.pool.entries index
    ≡ Some m
    → is_something (wanted_of (wanted_at static_method_wanted c index)) ≡ true → names_wrong_sort classes (entry_at c.pool.entries index) m.class
    ≡ sort
    → (sort || is_unlike (option_map (method_flags classes) (resolved_method classes m)) (wanted_at static_method_wanted c index)) ≡ b
    → missing_method_at classes c index ≡ refused_if b (refused MissingMethod c (method_text m))
method_judged classes c index m sort b named some sorted judged =
    let wanted = wanted_at static_method_wanted c index in
    let unlike = is_unlike (option_map (method_flags classes) (resolved_method classes m)) wanted in
    methods_by classes c index
    ∙ ap (refused_where (method_refusals classes c index wanted)) named
    ∙ ap (λ wrong. refused_if wrong (refused MissingMethod c (method_text m)))
    (wrong_method classes (entry_at c.pool.entries index) m wanted some ∙ ap (λ s. s || unlike) sorted ∙ judged)

-- ---- names of members by the numbers of their texts

pub field_name : (texts : List (List ℕ)) (m : MemberName) (t : MemberTexts) → IsMemberOf texts m t → text_of texts t.class
    ++ DOT ∷ text_of texts t.name ≡ field_text m
field_name texts m t is =
    ap (λ x. x ++ DOT ∷ text_of texts t.name) (get_or_from_slice_get texts t.class m.class [] is.class)
    ∙ ap (λ x. m.class ++ DOT ∷ x) (get_or_from_slice_get texts t.name m.name [] is.name)

pub method_name : (texts : List (List ℕ)) (m : MemberName) (t : MemberTexts) → IsMemberOf texts m t
    → text_of texts t.class ++ DOT ∷ (text_of texts t.name ++ text_of texts t.descriptor) ≡ method_text m
method_name texts m t is =
    ap (λ x. x ++ DOT ∷ (text_of texts t.name ++ text_of texts t.descriptor)) (get_or_from_slice_get texts t.class m.class [] is.class)
    ∙ ap (λ x. m.class ++ DOT ∷ (x ++ text_of texts t.descriptor)) (get_or_from_slice_get texts t.name m.name [] is.name)
    ∙ ap (λ x. m.class ++ DOT ∷ (m.name ++ x)) (get_or_from_slice_get texts t.descriptor m.descriptor [] is.descriptor)

pub field_spelled : (texts : List (List ℕ)) (m : MemberName) (t : MemberTexts) → IsMemberOf texts m t → (class name begun dotted whole : List ℕ)
    → class ≡ text_of texts t.class
    → name ≡ text_of texts t.name → begun ≡ class → dotted ≡ begun ++ DOT ∷ [] → whole ≡ dotted ++ name → whole ≡ field_text m
field_spelled texts m t is class name begun dotted whole class_is name_is begun_is dotted_is whole_is =
    whole_is
    ∙ ap (λ x. x ++ name) (dotted_is ∙ ap (λ x. x ++ DOT ∷ []) (begun_is ∙ class_is))
    ∙ append_assoc (text_of texts t.class) (DOT ∷ []) name
    ∙ ap (λ x. text_of texts t.class ++ DOT ∷ x) name_is
    ∙ field_name texts m t is

pub method_spelled : (texts : List (List ℕ)) (m : MemberName) (t : MemberTexts) → IsMemberOf texts m t
    → (class name descriptor begun dotted named whole : List ℕ)
    → class ≡ text_of texts t.class → name ≡ text_of texts t.name → descriptor ≡ text_of texts t.descriptor → begun ≡ class → dotted ≡ begun
    ++ DOT ∷ [] → named ≡ dotted ++ name
    → whole ≡ named ++ descriptor → whole ≡ method_text m
method_spelled texts m t is class name descriptor begun dotted named whole class_is name_is descriptor_is begun_is dotted_is named_is whole_is =
    whole_is
    ∙ ap (λ x. x ++ descriptor)
    (named_is ∙ ap (λ x. x ++ name) (dotted_is ∙ ap (λ x. x ++ DOT ∷ []) (begun_is ∙ class_is)) ∙ append_assoc (text_of texts t.class) (DOT ∷ []) name
    ∙ ap (λ x. text_of texts t.class ++ DOT ∷ x) name_is)
    ∙ append_assoc (text_of texts t.class) (DOT ∷ text_of texts t.name) descriptor
    ∙ ap (λ x. text_of texts t.class ++ DOT ∷ (text_of texts t.name ++ x)) descriptor_is
    ∙ method_name texts m t is
