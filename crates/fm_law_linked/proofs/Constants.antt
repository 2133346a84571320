-- A field whose constant is a number is a field of numbers, and one whose constant is a text is one of references: descriptors suit constants (JVMS 4.7.2).
use Rattle.std.proofs.Common.{◌≡◌, codes, refl, sym, subst, ℕ, ◌+◌, Bool, true, false, cond, List, [], ◌∷◌, ◌++◌, length, map, Contains, Option, Some, None, IsSomeAnd, unwrap_or}
use Rattle.std.specs.List.{AllByRecursion}
use Rattle.fm_base.proofs.ListFacts.{AllByRecursion-append, AllByRecursion-get_or}
use Rattle.fm_base.specs.declared.kinds.Kind.{Kind}
use Rattle.fm_base.specs.declared.kinds.Kind.TheVariants as kind
use Rattle.fm_code.specs.AccessFlags.{is_interface, is_static}
use Rattle.fm_code.specs.ConstantPool.{entry_at, utf8_at}
use Rattle.fm_code.specs.Members.{FieldIsValid, suited_descriptors, Suits}
use Rattle.fm_code.specs.Spells.{HasSpelling}
use Rattle.fm_code.specs.declared.class_file.ClassDef.{ClassDef}
use Rattle.fm_code.specs.declared.class_file.Member.{Member}
use Rattle.fm_code.specs.declared.class_file.MemberAttr.{MemberAttr}
use Rattle.fm_code.specs.declared.class_file.MemberAttr.TheVariants as attribute
use Rattle.fm_code.specs.declared.constant_pool.Entry.{Entry}
use Rattle.fm_code.specs.declared.constant_pool.Entry.TheVariants as entry
use Rattle.fm_law_linked.proofs.GivenFiles.{each_one}
use Rattle.fm_law_sound.proofs.HiddenFields.{hidden_kind}
use Rattle.fm_same.specs.Evenness.{IsNumber, IsPlainKind}
use Rattle.fm_world.proofs.TableLemmas.{fields_from-append}
use Rattle.fm_world.specs.BuiltIns.{built_in}
use Rattle.fm_world.specs.Declarations.{declared_field, declared_from, first_constant, no_field, text_at}
use Rattle.fm_world.specs.Descriptors.{declared_kind, field_type}
use Rattle.fm_world.specs.Members.{field_at, field_kind, fields_from, fields_of, OwnedField}
use Rattle.fm_world.specs.Programs.{classes_of}
use Rattle.fm_world.specs.Numbers.{type_of_class}
use Rattle.fm_world.specs.declared.declarations.Constant.{Constant}
use Rattle.fm_world.specs.declared.declarations.Constant.TheVariants as constant
use Rattle.fm_world.specs.declared.declarations.DeclaredClass.{DeclaredClass}
use Rattle.fm_link_records.proofs.FirstLaws.{constant_by}

-- what the constants of fields give for the kinds of the fields, where it holds of each entry and
-- the descriptors that suit it, and of no constant at all
pub record Tells (classes : List DeclaredClass) (Q : Option Constant → Kind → Type 0) : Type 0 where
  pub none : (k : Kind) → Q None k
  pub entry : (entries : List Entry) (descriptor : List ℕ) (e : Entry) → Contains (suited_descriptors e) descriptor
      → Q (constant_by entries e) (declared_kind classes (field_type descriptor))

module _ (classes : List DeclaredClass) (Q : Option Constant → Kind → Type 0) (tells : Tells classes Q) where
  -- ---- one field of a file

  abbrev IsTold : OwnedField → Type 0
  IsTold f = Q f.field.value (field_kind classes f.field)

  by_first : (entries : List Entry) (descriptor : List ℕ) (attributes : List MemberAttr) → AllByRecursion (Suits entries descriptor) attributes
      → Q (first_constant entries attributes) (declared_kind classes (field_type descriptor))
  by_first entries descriptor [] suits = tells.none (declared_kind classes (field_type descriptor))
  by_first entries descriptor (attribute.Constant name value ∷ attributes) suits = tells.entry entries descriptor (entry_at entries value) suits.0
  by_first entries descriptor (attribute.Coded name code ∷ attributes) suits = by_first entries descriptor attributes suits.1
  by_first entries descriptor (attribute.Other raw ∷ attributes) suits = by_first entries descriptor attributes suits.1

  told_field : (class : ℕ) (in_interface : Bool) (entries : List Entry) (m : Member) → FieldIsValid in_interface entries m
      → IsTold (record { class = class; field = declared_field entries m })
  told_field class in_interface entries m valid = by_flag (is_static m.flags) refl where
    by_text : (o : Option (List ℕ)) → IsSomeAnd o (λ d. AllByRecursion (Suits entries d) m.attributes)
        → Q (first_constant entries m.attributes) (declared_kind classes (field_type (unwrap_or o [])))
    by_text None suits = absurd suits
    by_text (Some d) suits = by_first entries d m.attributes suits

    by_flag : (b : Bool) → is_static m.flags ≡ b
        → Q (cond b (first_constant entries m.attributes) None) (declared_kind classes (field_type (text_at entries m.descriptor)))
    by_flag true static = by_text (utf8_at entries m.descriptor) (valid.value static).suits
    by_flag false static = tells.none (declared_kind classes (field_type (text_at entries m.descriptor)))

  -- ---- all fields

  told_members : (class : ℕ) (in_interface : Bool) (entries : List Entry) (members : List Member) → AllByRecursion (FieldIsValid in_interface entries) members
      → AllByRecursion IsTold (map (λ f. record { class = class; field = f }) (map (declared_field entries) members))
  told_members class in_interface entries [] valid = tt
  told_members class in_interface entries (m ∷ members) valid =
      (told_field class in_interface entries m valid.0, told_members class in_interface entries members valid.1)

  told_from : (class file : ℕ) (given : List ClassDef) → AllByRecursion HasSpelling given → AllByRecursion IsTold (fields_from class (declared_from file given))
  told_from class file [] spelled = tt
  told_from class file (c ∷ given) spelled =
      AllByRecursion-append IsTold (map (λ f. record { class = class; field = f }) (map (declared_field c.pool.entries) c.fields))
      (fields_from (class + 1) (declared_from (file + 1) given))
      (told_members class (is_interface c.flags) c.pool.entries c.fields spelled.0.1.fields)
      (told_from (class + 1) (file + 1) given spelled.1)

  told_built_in : AllByRecursion IsTold (fields_of built_in)
  unfolding fields_of built_in
  told_built_in = (tells.none _, (tells.none _, tt))

pub all_fields : (given : List ClassDef) → fields_of (classes_of given) ≡ fields_of built_in ++ fields_from (0 + length built_in) (declared_from 0 given)
unfolding fields_of classes_of
all_fields given = fields_from-append 0 built_in (declared_from 0 given)

-- it holds of each field of class files
told_constants : (given : List ClassDef) → AllByRecursion HasSpelling given → (Q : Option Constant → Kind → Type 0) → Tells (classes_of given) Q → (field : ℕ)
    → Q (field_at (classes_of given) field).field.value (field_kind (classes_of given) (field_at (classes_of given) field).field)
told_constants given spelled Q tells field =
    let classes = classes_of given in
    let rest = fields_from (0 + length built_in) (declared_from 0 given) in
    AllByRecursion-get_or (IsTold classes Q tells) (fields_of classes) (record { class = 0; field = no_field })
    (subst (AllByRecursion (IsTold classes Q tells)) (sym (all_fields given))
    (AllByRecursion-append (IsTold classes Q tells) (fields_of built_in) rest (told_built_in classes Q tells)
    (told_from classes Q tells (0 + length built_in) 0 given spelled)))
    (tells.none _) field

-- ---- numbers

-- a field with a number for its constant declares a kind of numbers
abbrev TellsNumber : Option Constant → Kind → Type 0
TellsNumber value k = IsNumber value → IsPlainKind k

abbrev DeclaresNumber : List DeclaredClass → List ℕ → Type 0
DeclaresNumber classes descriptor = IsPlainKind (declared_kind classes (field_type descriptor))

number_entry : (classes : List DeclaredClass) (entries : List Entry) (descriptor : List ℕ) (e : Entry) → Contains (suited_descriptors e) descriptor
    → TellsNumber (constant_by entries e) (declared_kind classes (field_type descriptor))
number_entry classes entries descriptor (entry.Integer value) suits number =
    each_one (DeclaresNumber classes) (suited_descriptors (entry.Integer value)) descriptor (tt, (tt, (tt, (tt, (tt, tt))))) suits
number_entry classes entries descriptor (entry.Long value) suits number =
    each_one (DeclaresNumber classes) (suited_descriptors (entry.Long value)) descriptor (tt, tt) suits
number_entry classes entries descriptor e suits number = absurd number

-- a number is the constant of a field of numbers
pub plain_constants : (given : List ClassDef) → AllByRecursion HasSpelling given → (field : ℕ) → IsNumber (field_at (classes_of given) field).field.value
    → IsPlainKind (field_kind (classes_of given) (field_at (classes_of given) field).field)
plain_constants given spelled =
    told_constants given spelled TellsNumber (record { none = λ k number. absurd number; entry = number_entry (classes_of given) })

-- ---- texts

-- a field with a text for its constant declares texts
abbrev TellsText : Option Constant → Kind → Type 0
TellsText value k = (text : List ℕ) → value ≡ Some (constant.Text text) → k ≡ kind.Ref (type_of_class 1)

text_kind : (given : List ClassDef) → declared_kind (classes_of given) (field_type (codes "Ljava/lang/String;")) ≡ kind.Ref (type_of_class 1)
unfolding classes_of
text_kind given = hidden_kind (declared_from 0 given)

text_entry : (given : List ClassDef) (entries : List Entry) (descriptor : List ℕ) (e : Entry) → Contains (suited_descriptors e) descriptor
    → TellsText (constant_by entries e) (declared_kind (classes_of given) (field_type descriptor))
text_entry given entries descriptor (entry.Text units) suits text is =
    each_one (λ d. declared_kind (classes_of given) (field_type d) ≡ kind.Ref (type_of_class 1)) (suited_descriptors (entry.Text units)) descriptor
    (text_kind given, tt) suits
text_entry given entries descriptor (entry.Integer value) suits text is = absurd (cc)
text_entry given entries descriptor (entry.Long value) suits text is = absurd (cc)
text_entry given entries descriptor e suits text is = absurd (cc)

-- a text is the constant of a field of texts, whose class has the number 1
pub text_constants : (given : List ClassDef) → AllByRecursion HasSpelling given → (field : ℕ) (text : List ℕ)
    → (field_at (classes_of given) field).field.value ≡ Some (constant.Text text)
    → field_kind (classes_of given) (field_at (classes_of given) field).field ≡ kind.Ref (type_of_class 1)
text_constants given spelled =
    told_constants given spelled TellsText (record { none = λ k text is. absurd (cc); entry = text_entry given })
