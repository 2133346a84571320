-- What a class names in its constant pool stays there where more entries follow.
use Rattle.std.proofs.Common.{◌≡◌, ℕ, ◌==◌, ◌⊎◌, inl, inr, Bool, true, false, List, [], ◌∷◌, ◌++◌, codes, Option, Some, None, IsSome, IsSomeAnd, Contains, refl, sym, ap, subst, ◌∙◌}
use Rattle.std.specs.List.{AllByRecursion}
use Rattle.fm_base.proofs.ListFacts.{AllByRecursion-weaker}
use Rattle.fm_base.proofs.OptionFacts.{IsSome-from_some, IsSomeAnd-from_some, Some-from_is_some, Some-from_some_and, same_value}
use Rattle.fm_code.specs.CodeRules.{CodeAttrIsValid, HandlerIsValid, VarIsValid}
use Rattle.fm_code.specs.ConstantPool.{class_name_at, entry_at, field_ref_at, interface_method_ref_at, member_named, MemberName, method_ref_at, named_and_typed_at, utf8_at}
use Rattle.fm_code.specs.Members.{FieldAttrIsValid, FieldIsValid, IsValue, Suits, suited_descriptors}
use Rattle.fm_code.specs.Operands.{IsAnyMethod, IsConstant, opcode_of, OperandIsValid}
use Rattle.fm_code.specs.declared.class_file.Member.{Member}
use Rattle.fm_code.specs.declared.class_file.MemberAttr.{MemberAttr}
use Rattle.fm_code.specs.declared.class_file.MemberAttr.TheVariants as attribute
use Rattle.fm_code.specs.declared.code_array.CodeAttr.{CodeAttr}
use Rattle.fm_code.specs.declared.code_array.CodeAttr.TheVariants as code_attribute
use Rattle.fm_code.specs.declared.code_array.Handler.{Handler}
use Rattle.fm_code.specs.declared.code_array.Item.{Item}
use Rattle.fm_code.specs.declared.code_array.Var.{Var}
use Rattle.fm_code.specs.declared.constant_pool.Entry.{Entry}
use Rattle.fm_code.specs.declared.constant_pool.Entry.TheVariants as entry
use Rattle.fm_code.specs.declared.instructions.Insn.{Insn}
use Rattle.fm_code.specs.declared.instructions.Insn.TheVariants as insn
use Rattle.fm_code.specs.declared.opcodes.TheConstants.{LDC2_W}
use Rattle.fm_pool.proofs.GrownPool.{and_kept, class_kept, entry_kept, method_kept, pair_kept, text_kept, there_kept}

-- ---- results that stay

pub no_member : (m : MemberName) → None ≡ Some m → ⊥
no_member m e = cc

module _ (entries more : List Entry) where
  -- ---- members

  named_kept : (class member : ℕ) (m : MemberName) → member_named entries class member ≡ Some m → member_named (entries ++ more) class member ≡ Some m
  named_kept class member m is = by (class_name_at entries class) refl (named_and_typed_at entries member) refl where
    by : (c : Option (List ℕ)) → class_name_at entries class ≡ c → (pair : Option (List ℕ × List ℕ)) → named_and_typed_at entries member ≡ pair
        → member_named (entries ++ more) class member ≡ Some m
    by (Some c) named (Some pair) typed =
        rw (class_kept entries more class c named, pair_kept entries more member pair typed) (rw (named, typed) at is)
    by (Some c) named None typed = absurd (no_member m (rw (named, typed) at is))
    by None named pair typed = absurd (no_member m (rw named at is))

  pub field_kept : (index : ℕ) (m : MemberName) → field_ref_at entries index ≡ Some m → field_ref_at (entries ++ more) index ≡ Some m
  field_kept index m is = by (entry_at entries index) refl where
    by : (e : Entry) → entry_at entries index ≡ e → field_ref_at (entries ++ more) index ≡ Some m
    by (entry.Field class member) at_index =
        let stays = entry_kept entries more index (entry.Field class member) at_index (λ e. cc) in rw stays (named_kept class member m (rw at_index at is))
    by e at_index = absurd (no_member m (rw at_index at is))

  pub interface_method_kept : (index : ℕ) (m : MemberName) → interface_method_ref_at entries index ≡ Some m → interface_method_ref_at (entries ++ more) index ≡ Some m
  interface_method_kept index m is = by (entry_at entries index) refl where
    by : (e : Entry) → entry_at entries index ≡ e → interface_method_ref_at (entries ++ more) index ≡ Some m
    by (entry.InterfaceMethod class member) at_index =
        let stays = entry_kept entries more index (entry.InterfaceMethod class member) at_index (λ e. cc) in
        rw stays (named_kept class member m (rw at_index at is))
    by e at_index = absurd (no_member m (rw at_index at is))

  -- ---- instructions

  constant_kept : (two_words : Bool) (index : ℕ) → IsConstant two_words (entry_at entries index) → IsConstant two_words (entry_at (entries ++ more) index)
  constant_kept two_words index is = by two_words (entry_at entries index) refl is where
    by : (two : Bool) (e : Entry) → entry_at entries index ≡ e → IsConstant two e → IsConstant two (entry_at (entries ++ more) index)
    by false (entry.Integer value) at_index own = rw (entry_kept entries more index (entry.Integer value) at_index (λ e. cc)) tt
    by false (entry.Float bits) at_index own = rw (entry_kept entries more index (entry.Float bits) at_index (λ e. cc)) tt
    by false (entry.Class name) at_index own = rw (entry_kept entries more index (entry.Class name) at_index (λ e. cc)) tt
    by false (entry.Text units) at_index own = rw (entry_kept entries more index (entry.Text units) at_index (λ e. cc)) tt
    by false (entry.MethodHandle kind member) at_index own = rw (entry_kept entries more index (entry.MethodHandle kind member) at_index (λ e. cc)) tt
    by false (entry.MethodType descriptor) at_index own = rw (entry_kept entries more index (entry.MethodType descriptor) at_index (λ e. cc)) tt
    by true (entry.Long value) at_index own = rw (entry_kept entries more index (entry.Long value) at_index (λ e. cc)) tt
    by true (entry.Double bits) at_index own = rw (entry_kept entries more index (entry.Double bits) at_index (λ e. cc)) tt
    by two e at_index own = absurd own

  any_kept : (index : ℕ) → IsAnyMethod entries index → IsAnyMethod (entries ++ more) index
  any_kept index (inl of_class) = inl (there_kept (method_ref_at entries index) (method_ref_at (entries ++ more) index) (method_kept entries more index) of_class)
  any_kept index (inr of_interface) =
      inr (there_kept (interface_method_ref_at entries index) (interface_method_ref_at (entries ++ more) index) (interface_method_kept index) of_interface)

  operand_in : (offset : ℕ) (bytes : List ℕ) (i : Insn) → OperandIsValid entries (record { offset = offset; bytes = bytes; insn = i })
      → OperandIsValid (entries ++ more) (record { offset = offset; bytes = bytes; insn = i })
  operand_in offset bytes (insn.LoadPool index) valid = constant_kept (opcode_of (record { offset = offset; bytes = bytes; insn = insn.LoadPool index }) == LDC2_W) index valid
  operand_in offset bytes (insn.GetStatic index) valid = there_kept (field_ref_at entries index) (field_ref_at (entries ++ more) index) (field_kept index) valid
  operand_in offset bytes (insn.PutStatic index) valid = there_kept (field_ref_at entries index) (field_ref_at (entries ++ more) index) (field_kept index) valid
  operand_in offset bytes (insn.GetField index) valid = there_kept (field_ref_at entries index) (field_ref_at (entries ++ more) index) (field_kept index) valid
  operand_in offset bytes (insn.PutField index) valid = there_kept (field_ref_at entries index) (field_ref_at (entries ++ more) index) (field_kept index) valid
  operand_in offset bytes (insn.Virtual index) valid = there_kept (method_ref_at entries index) (method_ref_at (entries ++ more) index) (method_kept entries more index) valid
  operand_in offset bytes (insn.Special index) valid = any_kept index valid
  operand_in offset bytes (insn.Static index) valid = any_kept index valid
  operand_in offset bytes (insn.Interface index) valid =
      and_kept (interface_method_ref_at entries index) (interface_method_ref_at (entries ++ more) index) _ (interface_method_kept index) valid
  operand_in offset bytes (insn.New index) valid = there_kept (class_name_at entries index) (class_name_at (entries ++ more) index) (class_kept entries more index) valid
  operand_in offset bytes (insn.NewRefs index) valid = there_kept (class_name_at entries index) (class_name_at (entries ++ more) index) (class_kept entries more index) valid
  operand_in offset bytes (insn.Cast index) valid = there_kept (class_name_at entries index) (class_name_at (entries ++ more) index) (class_kept entries more index) valid
  operand_in offset bytes (insn.IsA index) valid = there_kept (class_name_at entries index) (class_name_at (entries ++ more) index) (class_kept entries more index) valid
  operand_in offset bytes (insn.MultiArray index dimensions) valid =
      there_kept (class_name_at entries index) (class_name_at (entries ++ more) index) (class_kept entries more index) valid
  operand_in offset bytes i valid = tt

  pub operand_kept : (item : Item) → OperandIsValid entries item → OperandIsValid (entries ++ more) item
  operand_kept item valid = operand_in item.offset item.bytes item.insn valid

  -- ---- tables

  class_or_none : (index : ℕ) → (index ≡ 0) ⊎ IsSome (class_name_at entries index) → (index ≡ 0) ⊎ IsSome (class_name_at (entries ++ more) index)
  class_or_none index (inl none) = inl none
  class_or_none index (inr there) = inr (there_kept (class_name_at entries index) (class_name_at (entries ++ more) index) (class_kept entries more index) there)

  pub super_kept : (index : ℕ) → (index ≡ 0) ⊎ IsSome (class_name_at entries index) → (index ≡ 0) ⊎ IsSome (class_name_at (entries ++ more) index)
  super_kept = class_or_none

  pub handler_kept : (count : ℕ) (h : Handler) → HandlerIsValid entries count h → HandlerIsValid (entries ++ more) count h
  handler_kept count h valid = record {
    not_empty = valid.not_empty;
    end = valid.end;
    handler = valid.handler;
    catch_class = class_or_none h.catch_class valid.catch_class;
  }

  var_kept : (count : ℕ) (v : Var) → VarIsValid entries count v → VarIsValid (entries ++ more) count v
  var_kept count v valid = record {
    start = valid.start;
    end = valid.end;
    name = there_kept (utf8_at entries v.name) (utf8_at (entries ++ more) v.name) (text_kept entries more v.name) valid.name;
    kind = there_kept (utf8_at entries v.kind) (utf8_at (entries ++ more) v.kind) (text_kept entries more v.kind) valid.kind;
  }

  pub code_attribute_kept : (count : ℕ) (a : CodeAttr) → CodeAttrIsValid entries count a → CodeAttrIsValid (entries ++ more) count a
  code_attribute_kept count (code_attribute.Lines name lines) valid = (text_kept entries more name (codes "LineNumberTable") valid.0, valid.1)
  code_attribute_kept count (code_attribute.Vars name false vars) valid =
      (text_kept entries more name (codes "LocalVariableTable") valid.0, AllByRecursion-weaker (VarIsValid entries count) (VarIsValid (entries ++ more) count) (var_kept count) vars valid.1)
  code_attribute_kept count (code_attribute.Vars name true vars) valid =
      (text_kept entries more name (codes "LocalVariableTypeTable") valid.0, AllByRecursion-weaker (VarIsValid entries count) (VarIsValid (entries ++ more) count) (var_kept count) vars valid.1)
  code_attribute_kept count (code_attribute.Other raw) valid =
      and_kept (utf8_at entries raw.name) (utf8_at (entries ++ more) raw.name) _ (text_kept entries more raw.name) valid

  -- ---- members

  -- a text that is there is the same one
  pub text_back : (index : ℕ) (text : List ℕ) → IsSome (utf8_at entries index) → utf8_at (entries ++ more) index ≡ Some text → utf8_at entries index ≡ Some text
  text_back index text there is =
      let v = Some-from_is_some (utf8_at entries index) there in
      v.1 ∙ ap (λ t. Some t) (same_value (utf8_at (entries ++ more) index) v.0 text (text_kept entries more index v.0 v.1) is)

  -- and so each look-up of it returns the same
  pub text_same : (index : ℕ) → IsSome (utf8_at entries index) → utf8_at (entries ++ more) index ≡ utf8_at entries index
  text_same index there = let v = Some-from_is_some (utf8_at entries index) there in text_kept entries more index v.0 v.1 ∙ sym v.1

  pub some_of_such : (index : ℕ) (P : List ℕ → Type 0) → IsSomeAnd (utf8_at entries index) P → IsSome (utf8_at entries index)
  some_of_such index P there = let v = Some-from_some_and (utf8_at entries index) P there in IsSome-from_some (utf8_at entries index) v.0 v.1

  pub such_kept : (index : ℕ) (P : List ℕ → Type 0) → IsSomeAnd (utf8_at entries index) P → IsSomeAnd (utf8_at (entries ++ more) index) P
  such_kept index P there = and_kept (utf8_at entries index) (utf8_at (entries ++ more) index) P (text_kept entries more index) there

  -- a value is an entry that stays
  value_kept : (index : ℕ) → IsValue (entry_at entries index) → entry_at (entries ++ more) index ≡ entry_at entries index
  value_kept index is = entry_kept entries more index (entry_at entries index) refl (λ second. is (ap suited_descriptors (sym second)))

  field_attribute_kept : (a : MemberAttr) → FieldAttrIsValid entries a → FieldAttrIsValid (entries ++ more) a
  field_attribute_kept (attribute.Constant name value) valid =
      (text_kept entries more name (codes "ConstantValue") valid.0, subst IsValue (sym (value_kept value valid.1)) valid.1)
  field_attribute_kept (attribute.Coded name code) valid = valid
  field_attribute_kept (attribute.Other raw) valid = such_kept raw.name _ valid

  suits_kept : (descriptor : List ℕ) (a : MemberAttr) → FieldAttrIsValid entries a → Suits entries descriptor a → Suits (entries ++ more) descriptor a
  suits_kept descriptor (attribute.Constant name value) valid suits = subst (λ (e : Entry). Contains (suited_descriptors e) descriptor) (sym (value_kept value valid.1)) suits
  suits_kept descriptor (attribute.Coded name code) valid suits = tt
  suits_kept descriptor (attribute.Other raw) valid suits = tt

  all_suit : (descriptor : List ℕ) (attributes : List MemberAttr) → AllByRecursion (FieldAttrIsValid entries) attributes
      → AllByRecursion (Suits entries descriptor) attributes → AllByRecursion (Suits (entries ++ more) descriptor) attributes
  all_suit descriptor [] valid suit = tt
  all_suit descriptor (a ∷ attributes) valid suit = (suits_kept descriptor a valid.0 suit.0, all_suit descriptor attributes valid.1 suit.1)

  pub field_valid_kept : (in_interface : Bool) (m : Member) → FieldIsValid in_interface entries m → FieldIsValid in_interface (entries ++ more) m
  field_valid_kept in_interface m valid = record {
    name = such_kept m.name _ valid.name;
    descriptor = such_kept m.descriptor _ valid.descriptor;
    attributes = AllByRecursion-weaker (FieldAttrIsValid entries) (FieldAttrIsValid (entries ++ more)) field_attribute_kept m.attributes valid.attributes;
    value = λ static. let was = valid.value static in record {
      one_value = was.one_value;
      suits =
          let v = Some-from_some_and (utf8_at entries m.descriptor) _ was.suits in
          IsSomeAnd-from_some (utf8_at (entries ++ more) m.descriptor) _ v.0 (text_kept entries more m.descriptor v.0 v.1) (all_suit v.0 m.attributes valid.attributes v.2);
    };
    of_interface = valid.of_interface;
  }
