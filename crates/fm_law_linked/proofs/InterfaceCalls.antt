-- invokevirtual names no interface: its entry is a Methodref, whose class is none (JVMS 4.9.1, 5.4.3.3).
use Rattle.std.proofs.Common.{◌≡◌, refl, sym, ◌∙◌, ap, subst, ℕ, zero, suc, ◌<◌, inl, inr, ◌==◌, Bool, true, false, cond, List, [], ◌∷◌, ◌++◌, replicate, get_or, slice_get, Contains, Option, Some, None, IsSome, option_and_then, append-nil, arith}
use Rattle.std.specs.List.{AllByRecursion}
use Rattle.std.specs.Option.{option_map}
use Rattle.std.proofs.lemmas.Bool.{eqb-true, false≢true}
use Rattle.std.proofs.lemmas.List.Quantifiers.{position-Some}
use Rattle.std.proofs.lemmas.Option.{get_or_from_slice_get, none-some, same_Some}
use Rattle.fm_base.specs.declared.characters.TheConstants.{LEFT_BRACKET}
use Rattle.fm_base.specs.declared.kinds.Base.{Base}
use Rattle.fm_base.specs.declared.kinds.Base.TheVariants as base
use Rattle.fm_base.specs.declared.kinds.TypeRef.{TypeRef}
use Rattle.fm_code.specs.AccessFlags.{is_interface}
use Rattle.fm_code.specs.CodeRules.{CodeIsValid}
use Rattle.fm_code.specs.ConstantPool.{class_name_at, entry_at, MemberName, method_ref_at}
use Rattle.fm_code.specs.Edges.{insn_of}
use Rattle.fm_code.specs.Members.{code_of, MethodAttrIsValid, MethodIsValid}
use Rattle.fm_code.specs.Names.{base_descriptor, field_descriptor, FieldType, IsClassName, IsFieldType, is_binary_name, object}
use Rattle.fm_code.specs.Operands.{OperandIsValid}
use Rattle.fm_code.specs.Spells.{HasSpelling}
use Rattle.fm_code.specs.declared.class_file.ClassDef.{ClassDef}
use Rattle.fm_code.specs.declared.class_file.Member.{Member}
use Rattle.fm_code.specs.declared.class_file.MemberAttr.{MemberAttr}
use Rattle.fm_code.specs.declared.class_file.MemberAttr.TheVariants as attribute
use Rattle.fm_code.specs.declared.code_array.Code.{Code}
use Rattle.fm_code.specs.declared.code_array.Item.{Item}
use Rattle.fm_code.specs.declared.constant_pool.Entry.{Entry}
use Rattle.fm_code.specs.declared.constant_pool.Entry.TheVariants as entry
use Rattle.fm_code.specs.declared.instructions.Insn.{Insn}
use Rattle.fm_code.specs.declared.instructions.Insn.TheVariants as insn
use Rattle.fm_link_names.proofs.SpelledNames.{named_class-is}
use Rattle.fm_link_names.proofs.SpelledTypes.{types_in-field}
use Rattle.fm_law_linked.proofs.Calls.{IsCall}
use Rattle.fm_law_linked.proofs.CodedMethods.{contains_at}
use Rattle.fm_law_linked.proofs.GivenFiles.{each_one}
use Rattle.fm_types.proofs.LeastJoins.{same_type-eq}
use Rattle.fm_world.specs.Causes.{is_there_and, names_wrong_sort}
use Rattle.fm_world.specs.Chains.{same_type}
use Rattle.fm_world.specs.Descriptors.{base_in, class_number, class_type, first_type, of_class, type_in, type_with, typed, types_in}
use Rattle.fm_world.specs.Lookups.{is_interface_at}
use Rattle.fm_world.specs.Numbers.{type_number}
use Rattle.fm_world.specs.Programs.{class_of_type, Outline, type_number_at}
use Rattle.fm_world.specs.Uses.{named_class, named_member}
use Rattle.fm_world.specs.declared.declarations.DeclaredClass.{DeclaredClass}
use Rattle.fm_link_supers.proofs.ParentRefusals.{spelled_at}

-- ---- the entry of an instruction

-- the first code of attributes
abbrev pub first_coded : List MemberAttr → Option Code
first_coded [] = None
first_coded (attribute.Coded name code ∷ attributes) = Some code
first_coded (a ∷ attributes) = first_coded attributes

valid_among : (entries : List Entry) (attributes : List MemberAttr) (code : Code) → AllByRecursion (MethodAttrIsValid entries) attributes
    → first_coded attributes ≡ Some code
    → CodeIsValid entries code
valid_among entries [] code valid is = absurd (none-some code is)
valid_among entries (attribute.Coded name found ∷ attributes) code valid is = subst (CodeIsValid entries) (same_Some found code is) valid.0.1
valid_among entries (attribute.Constant name value ∷ attributes) code valid is = absurd valid.0
valid_among entries (attribute.Other raw ∷ attributes) code valid is = valid_among entries attributes code valid.1 is

-- the code of a method of a spelled file meets the rules over the file's pool
pub valid_code : (c : ClassDef) → HasSpelling c → (m : Member) (code : Code) → Contains c.methods m → code_of m ≡ Some code → CodeIsValid c.pool.entries code
valid_code c spelled m code among is =
    valid_among c.pool.entries m.attributes code
    (each_one (MethodIsValid (is_interface c.flags) c.pool.entries) c.methods m spelled.1.methods among).attributes is

-- an instruction of the code names an entry of its tag
operand_valid : (entries : List Entry) (code : Code) (place : ℕ) (i : Insn) → CodeIsValid entries code → insn_of code place ≡ Some i
    → (item : Item) × OperandIsValid entries (record item { insn = i })
operand_valid entries code place i valid is = by_item (slice_get code.items place) refl is where
  by_item : (o : Option Item) → slice_get code.items place ≡ o → option_map (λ (item : Item). item.insn) o ≡ Some i
      → (item : Item) × OperandIsValid entries (record item { insn = i })
  by_item None at e = absurd (none-some i e)
  by_item (Some item) at e =
      let P : Insn → Type 0 = λ j. OperandIsValid entries (record item { insn = j }) in
      (item, subst P (same_Some item.insn i e) (each_one (OperandIsValid entries) code.items item valid.operands (contains_at code.items place item at)))

-- the entry is a Methodref
record IsMethodref (entries : List Entry) (index : ℕ) : Type 0 where
  class : ℕ
  named : ℕ
  entry_is : entry_at entries index ≡ entry.Method class named

methodref : (entries : List Entry) (index : ℕ) → IsSome (method_ref_at entries index) → IsMethodref entries index
methodref entries index some = by_entry (entry_at entries index) refl where
  by_entry : (e : Entry) → entry_at entries index ≡ e → IsMethodref entries index
  by_entry (entry.Method class named) is = record { class = class; named = named; entry_is = is }
  by_entry e is = absurd (false≢true (rw is at some))

-- ---- the class of a type

first_is : (t : FieldType) → IsFieldType t → first_type (types_in (field_descriptor t)) ≡ t
first_is t is = ap (λ d. first_type (types_in d)) (sym (append-nil (field_descriptor t))) ∙ ap first_type (types_in-field t [] is)

array_type : (dims : ℕ) (t : FieldType) → IsFieldType t → t.dimensions ≡ suc dims → class_type (field_descriptor t) ≡ t
array_type dims t is many =
    begins (field_descriptor t) (replicate dims LEFT_BRACKET ++ base_descriptor t.base) (ap (λ n. replicate n LEFT_BRACKET ++ base_descriptor t.base) many)
    ∙ first_is t is where
      begins : (name rest : List ℕ) → name ≡ LEFT_BRACKET ∷ rest → class_type name ≡ first_type (types_in name)
      begins name rest is = ap class_type is ∙ sym (ap (λ d. first_type (types_in d)) is)

pub binary_type : (name : List ℕ) → is_binary_name name ≡ true → class_type name ≡ typed 0 (object name)
binary_type [] ok = refl
binary_type (c ∷ cs) ok = by_first (c == LEFT_BRACKET) refl where
  by_first : (b : Bool) → (c == LEFT_BRACKET) ≡ b → class_type (c ∷ cs) ≡ typed 0 (object (c ∷ cs))
  by_first true is = absurd (false≢true (ap (λ k. is_binary_name (k ∷ cs)) (sym (eqb-true c LEFT_BRACKET is)) ∙ ok))
  by_first false is = ap (λ b. cond b (first_type (types_in (c ∷ cs))) (typed 0 (object (c ∷ cs)))) is

kept_if : (b : Bool) (t named : TypeRef) → cond b None (Some t) ≡ Some named → named.dims ≡ t.dims
kept_if true t named is = absurd (none-some named is)
kept_if false t named is = ap (λ (u : TypeRef). u.dims) (sym (same_Some t named is))

pub dims_kept : (dims : ℕ) (b : Base) (named : TypeRef) → type_with dims b ≡ Some named → named.dims ≡ dims
dims_kept dims (base.OfClass class) named is = ap (λ (u : TypeRef). u.dims) (sym (same_Some (record { dims = dims; base = base.OfClass class }) named is))
dims_kept dims base.Boolean named is = kept_if (dims == 0) (record { dims = dims; base = base.Boolean }) named is
dims_kept dims base.Byte named is = kept_if (dims == 0) (record { dims = dims; base = base.Byte }) named is
dims_kept dims base.Char named is = kept_if (dims == 0) (record { dims = dims; base = base.Char }) named is
dims_kept dims base.Short named is = kept_if (dims == 0) (record { dims = dims; base = base.Short }) named is
dims_kept dims base.Int named is = kept_if (dims == 0) (record { dims = dims; base = base.Int }) named is
dims_kept dims base.Long named is = kept_if (dims == 0) (record { dims = dims; base = base.Long }) named is

no_array : (dims : ℕ) (named : TypeRef) (class : ℕ) → named.dims ≡ suc dims → class_of_type named ≡ Some class → ⊥
no_array dims named class many is = by_flag (named.dims == 0) refl where
  by_flag : (b : Bool) → (named.dims == 0) ≡ b → ⊥
  by_flag true zero_is = let none = eqb-true named.dims 0 zero_is in omega (arith, many, none)
  by_flag false other = none-some class (rw other at is)

by_dims : (dims dimensions : ℕ) (o : Option Base) (named : TypeRef) → dimensions ≡ suc dims → option_and_then (type_with dimensions) o ≡ Some named
    → named.dims ≡ suc dims
by_dims dims dimensions None named many is = absurd (none-some named is)
by_dims dims dimensions (Some b) named many is = dims_kept dimensions b named is ∙ many

-- the class of a type that a name names is that of the name
pub class_of_name : (classes : List DeclaredClass) (name : List ℕ) (named : TypeRef) (class : ℕ) → IsClassName name → type_in classes (class_type name) ≡ Some named
    → class_of_type named ≡ Some class
    → class_number classes name ≡ Some class
class_of_name classes name named class (inl binary) typed_is is =
    by_number (class_number classes name) refl (ap (type_in classes) (sym (binary_type name binary)) ∙ typed_is) where
      by_number : (o : Option ℕ) → class_number classes name ≡ o → option_and_then (type_with 0) (option_map of_class o) ≡ Some named
          → class_number classes name ≡ Some class
      by_number None e f = absurd (none-some named f)
      by_number (Some k) e f = e ∙ ap class_of_type (same_Some (record { dims = 0; base = of_class k }) named f) ∙ is
class_of_name classes name named class (inr (t, (good, (some, spelled)))) typed_is is = by_count t.dimensions refl some where
  by_count : (n : ℕ) → t.dimensions ≡ n → 0 < n → class_number classes name ≡ Some class
  by_count zero e positive = absurd (omega (arith, positive))
  by_count (suc dims) e positive =
      absurd (no_array dims named class
      (by_dims dims t.dimensions (base_in classes t.base) named e
      (ap (type_in classes) (sym (array_type dims t good e)) ∙ ap (λ n. type_in classes (class_type n)) (sym spelled) ∙ typed_is)) is)

-- ---- the class that is named

abbrev pub named_by : List Entry → ℕ → Entry → Option (List ℕ)
named_by entries index (entry.Class name) = class_name_at entries index
named_by entries index e = option_map (λ (m : MemberName). m.class) (named_member entries index)

-- the name of the type with a number that an index names
pub record IsTypeNamed (o : Outline) (entries : List Entry) (index : ℕ) (t : TypeRef) : Type 0 where
  pub name : List ℕ
  pub named : named_class entries index ≡ Some name
  pub type_is : type_in o.classes (class_type name) ≡ Some t

pub type_named : (o : Outline) (entries : List Entry) (index type : ℕ) (t : TypeRef) → type_number_at o entries index ≡ Some type → slice_get o.types type ≡ Some t
    → IsTypeNamed o entries index t
type_named o entries index type t number at = by_name (named_class entries index) refl number where
  by_type : (name : List ℕ) → named_class entries index ≡ Some name → (u : Option TypeRef) → type_in o.classes (class_type name) ≡ u
      → option_and_then (type_number o.types) u ≡ Some type
      → IsTypeNamed o entries index t
  by_type name e None f is = absurd (none-some type is)
  by_type name e (Some u) f is =
      let same : u ≡ t = same_type-eq u (get_or o.types type t) (position-Some (same_type u) o.types type t is).1 ∙ get_or_from_slice_get o.types type t t at in
      record { name = name; named = e; type_is = f ∙ ap Some same }

  by_name : (n : Option (List ℕ)) → named_class entries index ≡ n
      → option_and_then (type_number o.types) (option_and_then (λ name. type_in o.classes (class_type name)) n) ≡ Some type
      → IsTypeNamed o entries index t
  by_name None e is = absurd (none-some type is)
  by_name (Some name) e is = by_type name e (type_in o.classes (class_type name)) refl is

-- what invokevirtual names is no interface
pub no_interface_named : (given : List ClassDef) → AllByRecursion HasSpelling given → (o : Outline) (code : Code) (caller index method type place : ℕ) (wanted : Bool)
    → IsCall given o code caller index method type wanted
    → insn_of code place ≡ Some (insn.Virtual index)
    → (t : TypeRef) (class : ℕ) → slice_get o.types type ≡ Some t → class_of_type t ≡ Some class → is_interface_at o.classes class ≡ false
no_interface_named given spelled o code caller index method type place wanted call insn_is t class at class_is =
    let c = call.file in
    let entries = c.pool.entries in
    let own = spelled_at given call.place c spelled call.file_is in
    let operand = operand_valid entries code place (insn.Virtual index) (valid_code c own call.member code call.among call.code_is) insn_is in
    let ref = methodref entries index operand.1 in
    let of_type = type_named o entries index type t call.at.type_is at in
    let same : of_type.name ≡ call.at.member.class =
    same_Some of_type.name call.at.member.class
    (sym of_type.named ∙ ap (named_by entries index) ref.entry_is ∙ ap (option_map (λ (m : MemberName). m.class)) call.at.named) in
    let number = class_of_name o.classes of_type.name t class (named_class-is c own index of_type.name of_type.named) of_type.type_is class_is in
    sym (ap (λ n. is_there_and (is_interface_at o.classes) (class_number o.classes n)) (sym same) ∙ ap (is_there_and (is_interface_at o.classes)) number)
    ∙ sym (ap (λ e. names_wrong_sort o.classes e call.at.member.class) ref.entry_is) ∙ call.sort
