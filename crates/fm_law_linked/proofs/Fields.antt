-- What getfield and putfield name is an instance field of a class that the named one is, or is below; and what fits the named class is below it too
-- (JVMS 5.4.3.2).
use Rattle.std.proofs.Common.{◌≡◌, refl, sym, ◌∙◌, ap, ℕ, Bool, true, false, List, [], ◌∷◌, Option, Some, None, option_and_then, slice_get, get_or}
use Rattle.std.proofs.lemmas.Bool.{false≢true}
use Rattle.fm_base.specs.declared.ids.FieldId.{FieldId}
use Rattle.fm_base.specs.declared.ids.TypeId.{TypeId}
use Rattle.fm_code.specs.AccessFlags.{is_static}
use Rattle.fm_code.specs.ConstantPool.{entry_at, MemberName}
use Rattle.fm_code.specs.Edges.{insn_of}
use Rattle.fm_code.specs.declared.class_file.ClassDef.{ClassDef}
use Rattle.fm_code.specs.declared.code_array.Code.{Code}
use Rattle.fm_code.specs.declared.constant_pool.Entry.{Entry}
use Rattle.fm_code.specs.declared.constant_pool.Entry.TheVariants as entry
use Rattle.fm_code.specs.declared.instructions.Insn.{Insn}
use Rattle.fm_link_records.proofs.UseLaws.{resolved_by}
use Rattle.fm_link_refusals.proofs.WantedMembers.{field_refusals}
use Rattle.fm_law_linked.proofs.Calls.{is_wanted, IsWanted, same_flag}
use Rattle.fm_law_linked.proofs.CodedMethods.{code_there, item_there, use_at, uses_of_file}
use Rattle.fm_law_linked.proofs.GivenFiles.{none_used}
use Rattle.fm_types.specs.Typed.{use_in}
use Rattle.fm_world.specs.Causes.{differs, field_flags, field_text, is_not_as_wanted, missing_field_at, missing_fields, MissingField, refused, refused_where, static_field_wanted, wanted_at}
use Rattle.fm_world.specs.Linking.{refused_fields}
use Rattle.fm_world.specs.Lookups.{resolved_field, resolved_method}
use Rattle.fm_world.specs.Numbers.{text_number, text_units}
use Rattle.fm_world.specs.Programs.{classes_of, code_at, field_use, method_use, Outline, outline_of, program_of, type_number_at, uses_of, with_number}
use Rattle.fm_code.specs.Operands.{pool_index}
use Rattle.fm_world.specs.Uses.{named_member}
use Rattle.fm_world.specs.declared.declarations.DeclaredClass.{DeclaredClass}
use Rattle.fm_world.specs.declared.uses.Use.{Use}
use Rattle.fm_world.specs.declared.uses.Use.TheVariants as resolved
use Rattle.fm_link_supers.proofs.ParentRefusals.{none_of, refused_not}

-- ---- what is named

abbrev field_in : Use → ℕ
field_in (resolved.OfField f t) = f.0
field_in u = 0

abbrev type_of_field : Use → ℕ
type_of_field (resolved.OfField f t) = t.0
type_of_field u = 0

abbrev names_field : Use → Bool
names_field (resolved.OfField f t) = true
names_field u = false

-- the member that an index names, the field and the type that it is resolved to
pub record IsFieldAt (o : Outline) (entries : List Entry) (index field type : ℕ) : Type 0 where
  pub class : ℕ
  pub name_and_type : ℕ
  pub entry_is : entry_at entries index ≡ entry.Field class name_and_type
  pub member : MemberName
  pub named : named_member entries index ≡ Some member
  pub found : resolved_field o.classes member ≡ Some field
  pub type_is : type_number_at o entries index ≡ Some type

no_field_used : {A : Type 0} (f : FieldId) (t : TypeId) (u : Use) → names_field u ≡ false → u ≡ resolved.OfField f t → A
no_field_used f t u none is = absurd (false≢true (sym none ∙ ap names_field is))

by_parts : (o : Outline) (entries : List Entry) (index class name_and_type : ℕ) (f : FieldId) (t : TypeId)
    → entry_at entries index ≡ entry.Field class name_and_type
    → (named : Option MemberName) (type : Option ℕ)
    → named_member entries index ≡ named
    → type_number_at o entries index ≡ type
    → with_number (λ n. with_number (field_use n) (option_and_then (resolved_field o.classes) named)) type ≡ resolved.OfField f t
    → IsFieldAt o entries index f.0 t.0
by_parts o entries index class name_and_type f t at named None e g is = no_field_used f t resolved.Unused refl is
by_parts o entries index class name_and_type f t at None (Some n) e g is = no_field_used f t resolved.Unused refl is
by_parts o entries index class name_and_type f t at (Some member) (Some n) e g is = by_field (resolved_field o.classes member) refl is where
  by_field : (found : Option ℕ) → resolved_field o.classes member ≡ found → with_number (field_use n) found ≡ resolved.OfField f t
      → IsFieldAt o entries index f.0 t.0
  by_field None h is = no_field_used f t resolved.Unused refl is
  by_field (Some k) h is = record {
    class = class;
    name_and_type = name_and_type;
    entry_is = at;
    member = member;
    named = e;
    found = h ∙ ap Some (ap field_in is);
    type_is = g ∙ ap Some (ap type_of_field is);
  }

no_text : (text : Option ℕ) → names_field (with_number resolved.OfText text) ≡ false
no_text None = refl
no_text (Some n) = refl

no_type : (type : Option ℕ) → names_field (with_number (λ n. resolved.OfType (record { 0 = n })) type) ≡ false
no_type None = refl
no_type (Some n) = refl

no_method : (type method : Option ℕ) → names_field (with_number (λ n. with_number (method_use n) method) type) ≡ false
no_method None method = refl
no_method (Some n) None = refl
no_method (Some n) (Some m) = refl

field_by : (o : Outline) (entries : List Entry) (index : ℕ) (f : FieldId) (t : TypeId) (e : Entry) → entry_at entries index ≡ e
    → resolved_by o entries index e ≡ resolved.OfField f t
    → IsFieldAt o entries index f.0 t.0
field_by o entries index f t (entry.Integer value) at is = no_field_used f t (resolved.OfInt value) refl is
field_by o entries index f t (entry.Long value) at is = no_field_used f t (resolved.OfLong value) refl is
field_by o entries index f t (entry.Text text) at is =
    let number = option_and_then (text_number o.texts) (text_units entries index) in
    no_field_used f t (with_number resolved.OfText number) (no_text number) is
field_by o entries index f t (entry.Class name) at is =
    let type = type_number_at o entries index in
    no_field_used f t (with_number (λ n. resolved.OfType (record { 0 = n })) type) (no_type type) is
field_by o entries index f t (entry.Field class member) at is =
    by_parts o entries index class member f t at (named_member entries index) (type_number_at o entries index) refl refl is
field_by o entries index f t (entry.Method class member) at is =
    let type = type_number_at o entries index in
    let method = option_and_then (resolved_method o.classes) (named_member entries index) in
    no_field_used f t (with_number (λ n. with_number (method_use n) method) type) (no_method type method) is
field_by o entries index f t (entry.InterfaceMethod class member) at is =
    let type = type_number_at o entries index in
    let method = option_and_then (resolved_method o.classes) (named_member entries index) in
    no_field_used f t (with_number (λ n. with_number (method_use n) method) type) (no_method type method) is
field_by o entries index f t e at is = no_field_used f t resolved.Unused refl is

-- ---- the field of an instruction

-- the file of the instruction, and what is at its index
pub record IsAccess (given : List ClassDef) (o : Outline) (index field type : ℕ) (wanted : Bool) : Type 0 where
  pub place : ℕ
  pub file : ClassDef
  pub file_is : slice_get given place ≡ Some file
  pub at : IsFieldAt o file.pool.entries index field type
  pub static_is : is_static (field_flags o.classes field) ≡ wanted

not_wrong : (classes : List DeclaredClass) (m : MemberName) (flags : List Bool) (flag : Bool) (field : ℕ) → IsWanted flag flags
    → resolved_field classes m ≡ Some field
    → is_not_as_wanted (field_flags classes) (resolved_field classes m) flags ≡ false
    → is_static (field_flags classes field) ≡ flag
not_wrong classes m [] flag field wanted found right = absurd (false≢true (sym (wanted (λ b. true) refl)))
not_wrong classes m (first ∷ others) flag field wanted found right =
    let all = sym (ap (λ o. is_not_as_wanted (field_flags classes) o (first ∷ others)) found) ∙ right in
    same_flag (is_static (field_flags classes field)) flag (wanted (differs (is_static (field_flags classes field))) all)

pub access_there : (given : List ClassDef) (main : List ℕ) → refused_fields given ≡ [] → (method place : ℕ) (code : Code) (i : Insn) (index : ℕ) (f : FieldId)
    (t : TypeId) (wanted : Bool)
    → code_at (program_of given main) method ≡ Some code
    → insn_of code place ≡ Some i
    → pool_index i ≡ Some index
    → use_in (program_of given main) method index ≡ resolved.OfField f t
    → static_field_wanted i ≡ Some wanted
    → IsAccess given (outline_of given main) index f.0 t.0 wanted
unfolding program_of outline_of refused_fields
access_there given main none method place code i index f t wanted code_is insn_is operand use_is flag =
    let o = outline_of given main in
    let classes = classes_of given in
    let there = code_there given method code code_is in
    let c = there.file in
    let uses = ap (λ k. get_or (uses_of o given) k []) there.class_is ∙ uses_of_file o given there.place c there.file_is in
    let at = use_at o c index (resolved.OfField f t) (no_field_used f t resolved.Unused refl) (sym (ap (λ us. get_or us index resolved.Unused) uses) ∙ use_is) in
    let named = field_by o c.pool.entries index f t (entry_at c.pool.entries index) refl at.resolved_is in
    let found = item_there c there.member code place i there.among there.code_is insn_is in
    let flags = wanted_at static_field_wanted c index in
    let judged = none_used (missing_field_at classes c) c index (none_of (missing_fields classes) given there.place c none there.file_is) at.within at.used in
    let is = is_wanted static_field_wanted c index found.item wanted found.among (ap pool_index found.insn_is ∙ operand)
    (ap static_field_wanted found.insn_is ∙ flag) in
    let right = refused_not (is_not_as_wanted (field_flags classes) (resolved_field classes named.member) flags) (refused MissingField c (field_text named.member))
    (sym (ap (refused_where (field_refusals classes c flags)) named.named) ∙ judged) in
    record {
      place = there.place;
      file = c;
      file_is = there.file_is;
      at = named;
      static_is = not_wrong classes named.member flags wanted f.0 is named.found right;
    }
