-- What calls name is as they want it: nothing is refused of the methods that instructions name (JVMS 5.4.3.3, 6.5).
use Rattle.std.proofs.Common.{◌≡◌, refl, sym, ◌∙◌, ap, ℕ, zero, suc, ◌+◌, ◌<◌, Bool, true, false, cond, List, [], ◌∷◌, length, Contains, Option, Some, None, option_and_then, if◌then◌else◌, slice_get, get_or, arith}
use Rattle.std.specs.List.{cons_option, filter_map, list_any}
use Rattle.std.proofs.lemmas.Bool.{false≢true, or_parts}
use Rattle.fm_base.proofs.TestFacts.{same-nat_eq}
use Rattle.fm_base.specs.declared.ids.MethodId.{MethodId}
use Rattle.fm_base.specs.declared.ids.TypeId.{TypeId}
use Rattle.fm_code.specs.AccessFlags.{is_static}
use Rattle.fm_code.specs.ConstantPool.{entry_at, MemberName}
use Rattle.fm_code.specs.Edges.{insn_of}
use Rattle.fm_code.specs.Members.{code_of}
use Rattle.fm_code.specs.declared.class_file.ClassDef.{ClassDef}
use Rattle.fm_code.specs.declared.class_file.Member.{Member}
use Rattle.fm_code.specs.declared.code_array.Code.{Code}
use Rattle.fm_code.specs.declared.code_array.Item.{Item}
use Rattle.fm_code.specs.declared.constant_pool.Entry.{Entry}
use Rattle.fm_code.specs.declared.constant_pool.Entry.TheVariants as entry
use Rattle.fm_code.specs.declared.instructions.Insn.{Insn}
use Rattle.fm_link_records.proofs.UseLaws.{resolved_by}
use Rattle.fm_link_refusals.proofs.WantedMembers.{is_wrong_method, method_refusals, names}
use Rattle.fm_law_linked.proofs.CodedMethods.{code_there, item_there, use_at, uses_of_file}
use Rattle.fm_law_linked.proofs.GivenFiles.{none_used}
use Rattle.fm_types.specs.Named.{class_of_method}
use Rattle.fm_types.specs.Typed.{use_in}
use Rattle.fm_world.specs.BuiltIns.{built_in}
use Rattle.fm_world.specs.Causes.{differs, is_not_as_wanted, method_flags, missing_method_at, missing_methods, method_text, MissingMethod, names_wrong_sort, refused, refused_where, static_method_wanted, wanted_at}
use Rattle.fm_world.specs.Linking.{refused_methods}
use Rattle.fm_world.specs.Lookups.{resolved_field, resolved_method}
use Rattle.fm_world.specs.Numbers.{text_number, text_units}
use Rattle.fm_world.specs.Programs.{classes_of, code_at, field_use, method_use, Outline, outline_of, program_of, type_number_at, uses_of, with_number}
use Rattle.fm_code.specs.Operands.{pool_index}
use Rattle.fm_world.specs.Uses.{class_items, named_member}
use Rattle.fm_world.specs.declared.declarations.DeclaredClass.{DeclaredClass}
use Rattle.fm_world.specs.declared.uses.Use.{Use}
use Rattle.fm_world.specs.declared.uses.Use.TheVariants as resolved
use Rattle.fm_link_supers.proofs.ParentRefusals.{none_of, refused_not}

-- ---- what is wanted

-- it is one of the flags
abbrev pub IsWanted : Bool → List Bool → Type 0
IsWanted flag flags = (test : Bool → Bool) → list_any test flags ≡ false → test flag ≡ false

some_wanted : (f : Item → Option Bool) (items : List Item) (item : Item) (flag : Bool) → Contains items item → f item ≡ Some flag
    → IsWanted flag (filter_map f items)
some_wanted f [] item flag (k, within, there) is test none = absurd (omega (arith, within))
some_wanted f (x ∷ items) item flag (zero, within, there) is test none =
    (or_parts (test flag) (list_any test (filter_map f items)) (sym (ap (λ o. list_any test (cons_option o (filter_map f items))) (ap f there ∙ is)) ∙ none)).0
some_wanted f (x ∷ items) item flag (suc k, within, there) is test none =
    by_first (some_wanted f items item flag (k, omega (arith, within), there) is test) (f x) refl none where
      by_first : (list_any test (filter_map f items) ≡ false → test flag ≡ false) → (o : Option Bool) → f x ≡ o
          → list_any test (cons_option o (filter_map f items)) ≡ false
          → test flag ≡ false
      by_first later None e none = later none
      by_first later (Some b) e none = later (or_parts (test b) (list_any test (filter_map f items)) none).1

pub is_wanted : (wanted : Insn → Option Bool) (c : ClassDef) (index : ℕ) (item : Item) (flag : Bool) → Contains (class_items c) item
    → pool_index item.insn ≡ Some index
    → wanted item.insn ≡ Some flag
    → IsWanted flag (wanted_at wanted c index)
is_wanted wanted c index item flag among named is =
    some_wanted (λ x. if names index (pool_index x.insn) then wanted x.insn else None) (class_items c) item flag among
    (ap (λ o. cond (names index o) (wanted item.insn) None) named ∙ ap (λ b. cond b (wanted item.insn) None) (same-nat_eq index) ∙ is)

pub same_flag : (a b : Bool) → differs a b ≡ false → a ≡ b
same_flag true true e = refl
same_flag true false e = absurd (false≢true (sym e))
same_flag false true e = absurd (false≢true (sym e))
same_flag false false e = refl

-- ---- what is named

abbrev method_in : Use → ℕ
method_in (resolved.OfMethod m t) = m.0
method_in u = 0

abbrev type_of_method : Use → ℕ
type_of_method (resolved.OfMethod m t) = t.0
type_of_method u = 0

abbrev pub names_method : Use → Bool
names_method (resolved.OfMethod m t) = true
names_method u = false

-- the member that an index names, the method and the type that it is resolved to
pub record IsMethodAt (o : Outline) (entries : List Entry) (index method type : ℕ) : Type 0 where
  pub member : MemberName
  pub named : named_member entries index ≡ Some member
  pub found : resolved_method o.classes member ≡ Some method
  pub type_is : type_number_at o entries index ≡ Some type

no_method_used : {A : Type 0} (m : MethodId) (t : TypeId) (u : Use) → names_method u ≡ false → u ≡ resolved.OfMethod m t → A
no_method_used m t u none is = absurd (false≢true (sym none ∙ ap names_method is))

by_parts : (o : Outline) (entries : List Entry) (index : ℕ) (m : MethodId) (t : TypeId) (named : Option MemberName) (type : Option ℕ)
    → named_member entries index ≡ named
    → type_number_at o entries index ≡ type
    → with_number (λ n. with_number (method_use n) (option_and_then (resolved_method o.classes) named)) type ≡ resolved.OfMethod m t
    → IsMethodAt o entries index m.0 t.0
by_parts o entries index m t named None e f is = no_method_used m t resolved.Unused refl is
by_parts o entries index m t None (Some n) e f is = no_method_used m t resolved.Unused refl is
by_parts o entries index m t (Some member) (Some n) e f is = by_method (resolved_method o.classes member) refl is where
  by_method : (found : Option ℕ) → resolved_method o.classes member ≡ found → with_number (method_use n) found ≡ resolved.OfMethod m t
      → IsMethodAt o entries index m.0 t.0
  by_method None g is = no_method_used m t resolved.Unused refl is
  by_method (Some k) g is = record {
    member = member;
    named = e;
    found = g ∙ ap Some (ap method_in is);
    type_is = f ∙ ap Some (ap type_of_method is);
  }

no_text : (text : Option ℕ) → names_method (with_number resolved.OfText text) ≡ false
no_text None = refl
no_text (Some n) = refl

no_type : (type : Option ℕ) → names_method (with_number (λ n. resolved.OfType (record { 0 = n })) type) ≡ false
no_type None = refl
no_type (Some n) = refl

no_field : (type field : Option ℕ) → names_method (with_number (λ n. with_number (field_use n) field) type) ≡ false
no_field None field = refl
no_field (Some n) None = refl
no_field (Some n) (Some f) = refl

method_by : (o : Outline) (entries : List Entry) (index : ℕ) (m : MethodId) (t : TypeId) (e : Entry) → resolved_by o entries index e ≡ resolved.OfMethod m t
    → IsMethodAt o entries index m.0 t.0
method_by o entries index m t (entry.Integer value) is = no_method_used m t (resolved.OfInt value) refl is
method_by o entries index m t (entry.Long value) is = no_method_used m t (resolved.OfLong value) refl is
method_by o entries index m t (entry.Text text) is =
    let number = option_and_then (text_number o.texts) (text_units entries index) in
    no_method_used m t (with_number resolved.OfText number) (no_text number) is
method_by o entries index m t (entry.Class name) is =
    let type = type_number_at o entries index in
    no_method_used m t (with_number (λ n. resolved.OfType (record { 0 = n })) type) (no_type type) is
method_by o entries index m t (entry.Field class member) is =
    let type = type_number_at o entries index in
    let field = option_and_then (resolved_field o.classes) (named_member entries index) in
    no_method_used m t (with_number (λ n. with_number (field_use n) field) type) (no_field type field) is
method_by o entries index m t (entry.Method class member) is =
    by_parts o entries index m t (named_member entries index) (type_number_at o entries index) refl refl is
method_by o entries index m t (entry.InterfaceMethod class member) is =
    by_parts o entries index m t (named_member entries index) (type_number_at o entries index) refl refl is
method_by o entries index m t e is = no_method_used m t resolved.Unused refl is

-- ---- what a call names

-- the file of a call, in a method of the class that calls, the index that it names, and what is
-- there
pub record IsCall (given : List ClassDef) (o : Outline) (code : Code) (caller index method type : ℕ) (wanted : Bool) : Type 0 where
  pub place : ℕ
  pub file : ClassDef
  pub file_is : slice_get given place ≡ Some file
  pub class_is : caller ≡ length built_in + place
  pub member : Member
  pub among : Contains file.methods member
  pub code_is : code_of member ≡ Some code
  pub within : index < length file.pool.entries
  pub at : IsMethodAt o file.pool.entries index method type
  pub sort : names_wrong_sort o.classes (entry_at file.pool.entries index) at.member.class ≡ false
  pub static_is : is_static (method_flags o.classes method) ≡ wanted

not_wrong : (classes : List DeclaredClass) (e : Entry) (m : MemberName) (flags : List Bool) (flag : Bool) (method : ℕ) → IsWanted flag flags
    → resolved_method classes m ≡ Some method
    → is_wrong_method classes e m flags ≡ false
    → (names_wrong_sort classes e m.class ≡ false) × (is_static (method_flags classes method) ≡ flag)
not_wrong classes e m [] flag method wanted found right = absurd (false≢true (sym (wanted (λ b. true) refl)))
not_wrong classes e m (first ∷ others) flag method wanted found right =
    let parts = or_parts (names_wrong_sort classes e m.class) (is_not_as_wanted (method_flags classes) (resolved_method classes m) (first ∷ others)) right in
    let all = sym (ap (λ o. is_not_as_wanted (method_flags classes) o (first ∷ others)) found) ∙ parts.1 in
    (parts.0, same_flag (is_static (method_flags classes method)) flag (wanted (differs (is_static (method_flags classes method))) all))

pub call_there : (given : List ClassDef) (main : List ℕ) → refused_methods given ≡ [] → (method place : ℕ) (code : Code) (i : Insn) (index : ℕ) (m : MethodId)
    (t : TypeId) (wanted : Bool)
    → code_at (program_of given main) method ≡ Some code
    → insn_of code place ≡ Some i
    → pool_index i ≡ Some index
    → use_in (program_of given main) method index ≡ resolved.OfMethod m t
    → static_method_wanted i ≡ Some wanted
    → IsCall given (outline_of given main) code (class_of_method (outline_of given main) method) index m.0 t.0 wanted
unfolding program_of outline_of refused_methods
call_there given main none method place code i index m t wanted code_is insn_is operand use_is flag =
    let o = outline_of given main in
    let classes = classes_of given in
    let there = code_there given method code code_is in
    let c = there.file in
    let uses = ap (λ k. get_or (uses_of o given) k []) there.class_is ∙ uses_of_file o given there.place c there.file_is in
    let at = use_at o c index (resolved.OfMethod m t) (no_method_used m t resolved.Unused refl) (sym (ap (λ us. get_or us index resolved.Unused) uses) ∙ use_is) in
    let e = entry_at c.pool.entries index in
    let named = method_by o c.pool.entries index m t e at.resolved_is in
    let found = item_there c there.member code place i there.among there.code_is insn_is in
    let flags = wanted_at static_method_wanted c index in
    let judged = none_used (missing_method_at classes c) c index (none_of (missing_methods classes) given there.place c none there.file_is) at.within at.used in
    let is = is_wanted static_method_wanted c index found.item wanted found.among (ap pool_index found.insn_is ∙ operand)
    (ap static_method_wanted found.insn_is ∙ flag) in
    let right = refused_not (is_wrong_method classes e named.member flags) (refused MissingMethod c (method_text named.member))
    (sym (ap (refused_where (method_refusals classes c index flags)) named.named) ∙ judged) in
    let both = not_wrong classes e named.member flags wanted m.0 is named.found right in
    record {
      place = there.place;
      file = c;
      file_is = there.file_is;
      class_is = there.class_is;
      member = there.member;
      among = there.among;
      code_is = there.code_is;
      within = at.within;
      at = named;
      sort = both.0;
      static_is = both.1;
    }
