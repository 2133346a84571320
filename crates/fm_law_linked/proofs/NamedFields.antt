-- An object of a type that fits the one that getfield or putfield names has the field: its class is below the one that declares it.
use Rattle.std.proofs.Common.{◌≡◌, refl, sym, ◌∙◌, ap, subst, ℕ, ◌<◌, Bool, true, false, List, [], length, Option, Some, None, option_and_then, slice_get}
use Rattle.std.specs.List.{AllByRecursion}
use Rattle.std.specs.Option.{option_map}
use Rattle.std.proofs.lemmas.Bool.{false≢true}
use Rattle.std.proofs.lemmas.Option.{none-some, same_Some}
use Rattle.fm_base.specs.declared.ids.FieldId.{FieldId}
use Rattle.fm_base.specs.declared.ids.TypeId.{TypeId}
use Rattle.fm_base.specs.declared.kinds.TypeRef.{TypeRef}
use Rattle.fm_code.specs.ConstantPool.{MemberName}
use Rattle.fm_code.specs.Spells.{HasSpelling}
use Rattle.fm_code.specs.declared.class_file.ClassDef.{ClassDef}
use Rattle.fm_code.specs.declared.instructions.Insn.{Insn}
use Rattle.fm_code.specs.declared.instructions.Insn.TheVariants as insn
use Rattle.fm_link_supers.proofs.ParentRefusals.{are_sound}
use Rattle.fm_law_linked.proofs.FieldOwners.{binary_found, instance_above}
use Rattle.fm_law_linked.proofs.Fields.{access_there, IsAccess}
use Rattle.fm_law_linked.proofs.InterfaceCalls.{binary_type, named_by, type_named}
use Rattle.fm_law_linked.proofs.Messages.{below_inside, below_of}
use Rattle.fm_check_rows.proofs.UseLemmas.{uses_name_members}
use Rattle.fm_check_rows.specs.Members.{NamesMember}
use Rattle.fm_frames.specs.ObjectRows.{kind_of_field}
use Rattle.fm_law_sound.proofs.FieldPlaces.{field_place}
use Rattle.fm_law_sound.specs.Resolved.{IsNamed}
use Rattle.fm_types.proofs.ClassTree.{among-trans, seen_above}
use Rattle.fm_types.specs.Fits.{AreTree, fits_type, is_seen_as_object}
use Rattle.fm_types.specs.Named.{class_of_method}
use Rattle.fm_types.specs.Typed.{use_in}
use Rattle.fm_world.proofs.Displays.{class_number-within}
use Rattle.fm_world.specs.Causes.{static_field_wanted}
use Rattle.fm_world.specs.Chains.{chain_of, is_among}
use Rattle.fm_world.specs.Descriptors.{class_number, class_type, of_class, type_in, type_with}
use Rattle.fm_world.specs.Linking.{refused_built_ins, refused_fields, refused_parents}
use Rattle.fm_world.specs.Lookups.{field_path, resolved_field}
use Rattle.fm_world.specs.Members.{field_among, field_at, slot_of}
use Rattle.fm_world.specs.Numbers.{type_of_class}
use Rattle.fm_world.specs.Programs.{classes_of, kind_at, Outline, outline_of, program_of}
use Rattle.fm_code.specs.Operands.{pool_index}
use Rattle.fm_world.specs.declared.declarations.DeclaredClass.{DeclaredClass}
use Rattle.fm_world.specs.declared.uses.Use.TheVariants as resolved

-- the class of the objects that fit what an access names
pub record IsHolder (given : List ClassDef) (of : TypeRef) (field : ℕ) : Type 0 where
  pub class : ℕ
  pub within : class < length (classes_of given)
  pub type_is : of ≡ type_of_class class
  pub below : is_among (field_at (classes_of given) field).class (chain_of (classes_of given) class) ≡ true

pub holder : (given : List ClassDef) (main : List ℕ) → AllByRecursion HasSpelling given → refused_built_ins given ≡ [] → refused_parents given ≡ [] → AreTree (classes_of given) → (index : ℕ)
    (f : FieldId) (t : TypeId) (named of : TypeRef)
    → IsAccess given (outline_of given main) index f.0 t.0 false
    → slice_get (outline_of given main).types t.0 ≡ Some named
    → fits_type (classes_of given) of named ≡ true
    → IsHolder given of f.0
unfolding outline_of resolved_field
holder given main spelled apart no_bad tree index f t named of access at fits =
    by_class (class_number classes access.at.member.class) refl access.at.found where
      classes : List DeclaredClass
      classes = classes_of given

      name_is : (name : List ℕ) → name ≡ access.at.member.class → type_in classes (class_type name) ≡ Some named → (k : ℕ)
          → class_number classes access.at.member.class ≡ Some k
          → type_of_class k ≡ named
      name_is name same type_is k e =
          same_Some (type_of_class k) named
          (sym (ap (λ n. option_and_then (type_with 0) (option_map of_class n)) e)
          ∙ ap (type_in classes) (sym (binary_type access.at.member.class (binary_found given spelled access.at.member.class k e)))
          ∙ ap (λ n. type_in classes (class_type n)) (sym same) ∙ type_is)

      named_is : (k : ℕ) → class_number classes access.at.member.class ≡ Some k → type_of_class k ≡ named
      named_is k e =
          let o = outline_of given main in
          let entries = access.file.pool.entries in
          let of_type = type_named o entries index t.0 named access.at.type_is at in
          name_is of_type.name
          (same_Some of_type.name access.at.member.class
          (sym of_type.named ∙ ap (named_by entries index) access.at.entry_is ∙ ap (option_map (λ (m : MemberName). m.class)) access.at.named))
          of_type.type_is k e

      not_seen : (k above : ℕ) → is_among above (chain_of classes k) ≡ true → is_seen_as_object classes above ≡ false → (b : Bool)
          → is_seen_as_object classes k ≡ b
          → b ≡ false
      not_seen k above among plain false e = refl
      not_seen k above among plain true e = absurd (false≢true (sym plain ∙ seen_above classes tree k above e among))

      by_class : (o : Option ℕ) → class_number classes access.at.member.class ≡ o
          → option_and_then (λ class. field_among classes access.at.member.name access.at.member.descriptor (field_path classes class)) o ≡ Some f.0
          → IsHolder given of f.0
      by_class None e is = absurd (none-some f.0 is)
      by_class (Some k) e is =
          let its = instance_above given spelled (are_sound given spelled apart no_bad) access.at.member.name access.at.member.descriptor k f.0 is access.static_is in
          let plain : is_seen_as_object classes k ≡ false = not_seen k its.above its.among its.plain (is_seen_as_object classes k) refl in
          let found = below_of classes of k plain (ap (fits_type classes of) (named_is k e) ∙ fits) in
          record {
            class = found.below;
            within = below_inside classes found.below k found.among (class_number-within classes access.at.member.class k e);
            type_is = found.type_is;
            below =
                ap (λ n. is_among n (chain_of classes found.below)) its.class_is
                ∙ among-trans classes tree found.below k its.above found.among its.among;
          }

-- the object has the field at its place
abbrev HasField : Outline → TypeRef → ℕ → Type 0
HasField o of field = kind_at o.classes of (slot_of o.classes field) ≡ Some (kind_of_field o field)

-- an access by an instruction of the program
accessed : (given : List ClassDef) (main : List ℕ) → AllByRecursion HasSpelling given → refused_built_ins given ≡ [] → refused_parents given ≡ [] → refused_fields given ≡ []
    → AreTree (classes_of given)
    → (method : ℕ) (i : Insn) (index : ℕ) (f : FieldId) (t : TypeId) (named of : TypeRef)
    → IsNamed (program_of given main) method i (resolved.OfField f t)
    → pool_index i ≡ Some index
    → use_in (program_of given main) method index ≡ resolved.OfField f t
    → static_field_wanted i ≡ Some false
    → slice_get (outline_of given main).types t.0 ≡ Some named
    → fits_type (classes_of given) of named ≡ true
    → HasField (outline_of given main) of f.0
unfolding program_of outline_of
accessed given main spelled apart no_bad no_field tree method i index f t named of x operand use_is flag at fits =
    let o = outline_of given main in
    let access = access_there given main no_field method x.item x.code i index f t false x.code_is x.insn_is operand use_is flag in
    let its = holder given main spelled apart no_bad tree index f t named of access at fits in
    let inside = subst (NamesMember o) use_is (uses_name_members given main (class_of_method o method) index) in
    ap (λ u. kind_at o.classes u (slot_of o.classes f.0)) its.type_is ∙ field_place o.classes tree its.class f.0 its.within inside access.static_is its.below

true_wanted : {A : Type 0} → Some true ≡ Some false → A
true_wanted is = absurd (false≢true (sym (same_Some true false is)))

-- an object of a type that fits what is named has the field
pub fields_there : (given : List ClassDef) (main : List ℕ) → AllByRecursion HasSpelling given → refused_built_ins given ≡ [] → refused_parents given ≡ [] → refused_fields given ≡ []
    → AreTree (classes_of given)
    → (method : ℕ) (i : Insn) (f : FieldId) (t : TypeId) (named of : TypeRef)
    → IsNamed (program_of given main) method i (resolved.OfField f t)
    → static_field_wanted i ≡ Some false
    → slice_get (outline_of given main).types t.0 ≡ Some named
    → fits_type (classes_of given) of named ≡ true
    → HasField (outline_of given main) of f.0
fields_there given main spelled apart no_bad no_field tree method (insn.GetField index) f t named of x flag at fits =
    accessed given main spelled apart no_bad no_field tree method (insn.GetField index) index f t named of x refl x.use_is flag at fits
fields_there given main spelled apart no_bad no_field tree method (insn.PutField index) f t named of x flag at fits =
    accessed given main spelled apart no_bad no_field tree method (insn.PutField index) index f t named of x refl x.use_is flag at fits
fields_there given main spelled apart no_bad no_field tree method (insn.GetStatic index) f t named of x flag at fits = true_wanted flag
fields_there given main spelled apart no_bad no_field tree method (insn.PutStatic index) f t named of x flag at fits = true_wanted flag
fields_there given main spelled apart no_bad no_field tree method i f t named of x flag at fits = absurd (none-some false flag)
