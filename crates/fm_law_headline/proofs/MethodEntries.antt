-- Only calls name methods: any other instruction of a class file names an entry of another tag, or none (JVMS 4.9.1).
use Rattle.std.proofs.Common.{◌≡◌, refl, sym, ◌∙◌, ap, subst, ℕ, ◌==◌, Bool, true, false, List, [], Option, Some, None, option_and_then, slice_get, get_or}
use Rattle.std.specs.List.{AllByRecursion}
use Rattle.std.specs.Prelude.{IsSome}
use Rattle.std.specs.Option.{option_map}
use Rattle.std.proofs.lemmas.Bool.{false≢true}
use Rattle.std.proofs.lemmas.Option.{none-some, same_Some}
use Rattle.fm_base.specs.declared.ids.MethodId.{MethodId}
use Rattle.fm_base.specs.declared.ids.TypeId.{TypeId}
use Rattle.fm_code.specs.ConstantPool.{class_name_at, entry_at, field_ref_at}
use Rattle.fm_code.specs.Operands.{IsConstant, opcode_of, OperandIsValid}
use Rattle.fm_code.specs.Spells.{HasSpelling}
use Rattle.fm_code.specs.declared.class_file.ClassDef.{ClassDef}
use Rattle.fm_code.specs.declared.code_array.Item.{Item}
use Rattle.fm_code.specs.declared.constant_pool.Entry.{Entry}
use Rattle.fm_code.specs.declared.constant_pool.Entry.TheVariants as entry
use Rattle.fm_code.specs.declared.instructions.Insn.{Insn}
use Rattle.fm_code.specs.declared.instructions.Insn.TheVariants as insn
use Rattle.fm_code.specs.declared.opcodes.TheConstants.{LDC2_W}
use Rattle.fm_law_linked.proofs.CodedMethods.{code_there, contains_at, use_at, uses_of_file}
use Rattle.fm_law_linked.proofs.GivenFiles.{each_one}
use Rattle.fm_law_linked.proofs.InterfaceCalls.{valid_code}
use Rattle.fm_law_sound.specs.Resolved.{IsNamed}
use Rattle.fm_link_records.proofs.UseLaws.{resolved_at-by, resolved_by}
use Rattle.fm_link_supers.proofs.ParentRefusals.{spelled_at}
use Rattle.fm_types.specs.Typed.{use_in}
use Rattle.fm_world.specs.Causes.{static_method_wanted}
use Rattle.fm_world.specs.Lookups.{resolved_field}
use Rattle.fm_world.specs.Numbers.{text_number, text_units}
use Rattle.fm_world.specs.Programs.{field_use, Outline, outline_of, program_of, type_number_at, uses_of, with_number}
use Rattle.fm_world.specs.Uses.{named_member}
use Rattle.fm_world.specs.declared.uses.Use.{Use}
use Rattle.fm_world.specs.declared.uses.Use.TheVariants as resolved
use Rattle.fm_law_linked.proofs.Calls.{names_method}

-- ---- entries

abbrev is_method_entry : Entry → Bool
is_method_entry (entry.Method class member) = true
is_method_entry (entry.InterfaceMethod class member) = true
is_method_entry e = false

no_method : (make : ℕ → Use) → ((n : ℕ) → names_method (make n) ≡ false) → (number : Option ℕ) → names_method (with_number make number) ≡ false
no_method make each None = refl
no_method make each (Some n) = each n

-- an entry of another tag is resolved to no method
other_use : (o : Outline) (entries : List Entry) (index : ℕ) (e : Entry) → is_method_entry e ≡ false → names_method (resolved_by o entries index e) ≡ false
other_use o entries index (entry.Integer value) other = refl
other_use o entries index (entry.Long value) other = refl
other_use o entries index (entry.Text text) other =
    no_method resolved.OfText (λ n. refl) (option_and_then (text_number o.texts) (text_units entries index))
other_use o entries index (entry.Class name) other =
    no_method (λ n. resolved.OfType (record { 0 = n })) (λ n. refl) (type_number_at o entries index)
other_use o entries index (entry.Field class member) other =
    let field = option_and_then (resolved_field o.classes) (named_member entries index) in
    no_method (λ n. with_number (field_use n) field) (λ n. no_method (field_use n) (λ f. refl) field) (type_number_at o entries index)
other_use o entries index (entry.Method class member) other = absurd (false≢true (sym other))
other_use o entries index (entry.InterfaceMethod class member) other = absurd (false≢true (sym other))
other_use o entries index e other = refl

-- a constant, a field and a class are entries of other tags
constant_entry : (entries : List Entry) (index : ℕ) (two_words : Bool) → IsConstant two_words (entry_at entries index)
    → is_method_entry (entry_at entries index) ≡ false
constant_entry entries index two_words valid = by_entry (entry_at entries index) two_words valid where
  by_entry : (e : Entry) (two_words : Bool) → IsConstant two_words e → is_method_entry e ≡ false
  by_entry (entry.Method class member) true valid = absurd valid
  by_entry (entry.Method class member) false valid = absurd valid
  by_entry (entry.InterfaceMethod class member) true valid = absurd valid
  by_entry (entry.InterfaceMethod class member) false valid = absurd valid
  by_entry e two_words valid = refl

field_entry : (entries : List Entry) (index : ℕ) → IsSome (field_ref_at entries index) → is_method_entry (entry_at entries index) ≡ false
field_entry entries index some = by_entry (entry_at entries index) refl where
  by_entry : (e : Entry) → entry_at entries index ≡ e → is_method_entry e ≡ false
  by_entry (entry.Method class member) is = absurd (false≢true (rw is at some))
  by_entry (entry.InterfaceMethod class member) is = absurd (false≢true (rw is at some))
  by_entry e is = refl

class_entry : (entries : List Entry) (index : ℕ) → IsSome (class_name_at entries index) → is_method_entry (entry_at entries index) ≡ false
class_entry entries index some = by_entry (entry_at entries index) refl where
  by_entry : (e : Entry) → entry_at entries index ≡ e → is_method_entry e ≡ false
  by_entry (entry.Method class member) is = absurd (false≢true (rw is at some))
  by_entry (entry.InterfaceMethod class member) is = absurd (false≢true (rw is at some))
  by_entry e is = refl

-- ---- instructions

-- the entry that the instruction names, where that is valid, is no method
abbrev NamesNoEntry : Insn → ℕ → Type 0
NamesNoEntry i index = (entries : List Entry) (item : Item) → OperandIsValid entries (record item { insn = i }) → is_method_entry (entry_at entries index) ≡ false

-- an item with this instruction, whose entry is valid
valid_item : (entries : List Entry) (items : List Item) (place : ℕ) (i : Insn) → AllByRecursion (OperandIsValid entries) items
    → option_map (λ (item : Item). item.insn) (slice_get items place) ≡ Some i → (item : Item) × OperandIsValid entries (record item { insn = i })
valid_item entries items place i all named = by_item (slice_get items place) refl named where
  by_item : (o : Option Item) → slice_get items place ≡ o → option_map (λ (item : Item). item.insn) o ≡ Some i
      → (item : Item) × OperandIsValid entries (record item { insn = i })
  by_item None at is = absurd (none-some i is)
  by_item (Some item) at is =
      let P : Insn → Type 0 = λ j. OperandIsValid entries (record item { insn = j }) in
      (item, subst P (same_Some item.insn i is) (each_one (OperandIsValid entries) items item all (contains_at items place item at)))

module _ (given : List ClassDef) (main : List ℕ) (spelled : AllByRecursion HasSpelling given) (method : ℕ) (m : MethodId) (t : TypeId) where
  -- an instruction whose entry is no method names none
  names_other : (i : Insn) (index : ℕ) → IsNamed (program_of given main) method i (resolved.OfMethod m t)
      → use_in (program_of given main) method index ≡ resolved.OfMethod m t → NamesNoEntry i index → ⊥
  unfolding program_of outline_of
  names_other i index x use_is other =
      let o = outline_of given main in
      let there = code_there given method x.code x.code_is in
      let c = there.file in
      let entries = c.pool.entries in
      let uses = ap (λ k. get_or (uses_of o given) k []) there.class_is ∙ uses_of_file o given there.place c there.file_is in
      let some : resolved.Unused ≡ resolved.OfMethod m t → ⊥ = λ is. false≢true (ap names_method is) in
      let at = use_at o c index (resolved.OfMethod m t) some (sym (ap (λ us. get_or us index resolved.Unused) uses) ∙ use_is) in
      let valid = valid_code c (spelled_at given there.place c spelled there.file_is) there.member x.code there.among there.code_is in
      let item = valid_item entries x.code.items x.item i valid.operands x.insn_is in
      false≢true
      (sym (other_use o entries index (entry_at entries index) (other entries item.0 item.1))
      ∙ ap names_method (sym (resolved_at-by o entries index) ∙ at.resolved_is))

  pub only_calls : (i : Insn) → IsNamed (program_of given main) method i (resolved.OfMethod m t) → (wanted : Bool) × (static_method_wanted i ≡ Some wanted)
  only_calls (insn.Virtual index) x = (false, refl)
  only_calls (insn.Special index) x = (false, refl)
  only_calls (insn.Static index) x = (true, refl)
  only_calls (insn.Interface index) x = (false, refl)
  only_calls (insn.LoadPool index) x =
      absurd (names_other (insn.LoadPool index) index x x.use_is (λ entries item valid. constant_entry entries index (opcode_of item == LDC2_W) valid))
  only_calls (insn.GetStatic index) x =
      absurd (names_other (insn.GetStatic index) index x x.use_is (λ entries item valid. field_entry entries index valid))
  only_calls (insn.PutStatic index) x =
      absurd (names_other (insn.PutStatic index) index x x.use_is (λ entries item valid. field_entry entries index valid))
  only_calls (insn.GetField index) x =
      absurd (names_other (insn.GetField index) index x x.use_is (λ entries item valid. field_entry entries index valid))
  only_calls (insn.PutField index) x =
      absurd (names_other (insn.PutField index) index x x.use_is (λ entries item valid. field_entry entries index valid))
  only_calls (insn.New index) x =
      absurd (names_other (insn.New index) index x x.use_is (λ entries item valid. class_entry entries index valid))
  only_calls (insn.NewRefs index) x =
      absurd (names_other (insn.NewRefs index) index x x.use_is (λ entries item valid. class_entry entries index valid))
  only_calls (insn.Cast index) x =
      absurd (names_other (insn.Cast index) index x x.use_is (λ entries item valid. class_entry entries index valid))
  only_calls (insn.IsA index) x =
      absurd (names_other (insn.IsA index) index x x.use_is (λ entries item valid. class_entry entries index valid))
  only_calls (insn.MultiArray index dimensions) x =
      absurd (names_other (insn.MultiArray index dimensions) index x x.use_is (λ entries item valid. class_entry entries index valid))
  only_calls i x = absurd (false≢true (ap names_method x.use_is))
