-- The indices that a spelled class uses are in its pool.
use Rattle.std.proofs.Common.{◌≡◌, refl, ◌∙◌, ap, subst, ℕ, zero, suc, ◌+◌, ◌<◌, ◌≤◌, ◌==◌, ◌⊎◌, inl, inr, Bool, true, false, ◌||◌, List, [], ◌∷◌, ◌++◌, length, map, Option, Some, None, IsSome, IsSomeAnd, arith, zero-add}
use Rattle.std.specs.List.{AllByRecursion, cons_option, filter_map, flat_map, range_with_len}
use Rattle.std.proofs.lemmas.Bool.{cases_lt, false≢true}
use Rattle.std.proofs.lemmas.List.{get_or_past}
use Rattle.fm_link_supers.proofs.ParentRefusals.{name_within, some_entries}
use Rattle.fm_base.proofs.ListFacts.{AllByRecursion-append, AllByRecursion-weaker}
use Rattle.fm_base.proofs.OptionFacts.{IsSome-from_some, Some-from_some_and}
use Rattle.fm_code.specs.AccessFlags.{is_interface}
use Rattle.fm_code.specs.CodeRules.{HandlerIsValid}
use Rattle.fm_code.specs.ConstantPool.{class_name_at, entry_at, field_ref_at, interface_method_ref_at, MemberName, method_ref_at}
use Rattle.fm_code.specs.Members.{FieldAttrIsValid, FieldIsValid, IsValue, MethodAttrIsValid, MethodIsValid}
use Rattle.fm_code.specs.Names.{is_binary_name}
use Rattle.fm_code.specs.Operands.{IsAnyMethod, IsConstant, OperandIsValid, TakesWords, count_operand, opcode_of, pool_index}
use Rattle.fm_code.specs.Spells.{HasSpelling}
use Rattle.fm_code.specs.declared.class_file.ClassDef.{ClassDef}
use Rattle.fm_code.specs.declared.class_file.Member.{Member}
use Rattle.fm_code.specs.declared.class_file.MemberAttr.{MemberAttr}
use Rattle.fm_code.specs.declared.class_file.MemberAttr.TheVariants as attribute
use Rattle.fm_code.specs.declared.code_array.Handler.{Handler}
use Rattle.fm_code.specs.declared.code_array.Item.{Item}
use Rattle.fm_code.specs.declared.constant_pool.Entry.{Entry}
use Rattle.fm_code.specs.declared.constant_pool.Entry.TheVariants as entry
use Rattle.fm_code.specs.declared.instructions.Insn.{Insn}
use Rattle.fm_code.specs.declared.instructions.Insn.TheVariants as insn
use Rattle.fm_code.specs.declared.opcodes.TheConstants.{LDC2_W}
use Rattle.fm_link_names.proofs.MarkLemmas.{other_number}
use Rattle.fm_world.specs.Chains.{is_among}
use Rattle.fm_world.specs.Uses.{caught_by, class_items, is_used, items_of, pool_indices, used_indices, uses_in_order, values_of}
use Rattle.fm_conn.proofs.TypeLemmas.{filter_all}
use Rattle.fm_link_supers.proofs.InterfaceLemmas.{AreWithin}

-- ---- entries that are there

module _ (entries : List Entry) where
  field_within : (index : ℕ) → IsSome (field_ref_at entries index) → index < length entries
  field_within index some = by_place (cases_lt index (length entries)) where
    by_place : (index < length entries) ⊎ (length entries ≤ index) → index < length entries
    by_place (inl h) = h
    by_place (inr h) = absurd (false≢true (rw (get_or_past entries index entry.Second h) at some))

  method_within : (index : ℕ) → IsSome (method_ref_at entries index) → index < length entries
  method_within index some = by_place (cases_lt index (length entries)) where
    by_place : (index < length entries) ⊎ (length entries ≤ index) → index < length entries
    by_place (inl h) = h
    by_place (inr h) = absurd (false≢true (rw (get_or_past entries index entry.Second h) at some))

  interface_within : (index : ℕ) (P : MemberName → Type 0) → IsSomeAnd (interface_method_ref_at entries index) P → index < length entries
  interface_within index P some = by_place (cases_lt index (length entries)) where
    by_place : (index < length entries) ⊎ (length entries ≤ index) → index < length entries
    by_place (inl h) = h
    by_place (inr h) = absurd (rw (get_or_past entries index entry.Second h) at some)

  any_within : (index : ℕ) → IsAnyMethod entries index → index < length entries
  any_within index (inl of_class) = method_within index of_class
  any_within index (inr of_interface) = by_place (cases_lt index (length entries)) where
    by_place : (index < length entries) ⊎ (length entries ≤ index) → index < length entries
    by_place (inl h) = h
    by_place (inr h) = absurd (false≢true (rw (get_or_past entries index entry.Second h) at of_interface))

  one_word_within : (index : ℕ) → IsConstant false (entry_at entries index) → index < length entries
  one_word_within index is = by_place (cases_lt index (length entries)) where
    by_place : (index < length entries) ⊎ (length entries ≤ index) → index < length entries
    by_place (inl h) = h
    by_place (inr h) = absurd (rw (get_or_past entries index entry.Second h) at is)

  two_words_within : (index : ℕ) → IsConstant true (entry_at entries index) → index < length entries
  two_words_within index is = by_place (cases_lt index (length entries)) where
    by_place : (index < length entries) ⊎ (length entries ≤ index) → index < length entries
    by_place (inl h) = h
    by_place (inr h) = absurd (rw (get_or_past entries index entry.Second h) at is)

  constant_within : (two_words : Bool) (index : ℕ) → IsConstant two_words (entry_at entries index) → index < length entries
  constant_within false index is = one_word_within index is
  constant_within true index is = two_words_within index is

  pub value_within : (index : ℕ) → IsValue (entry_at entries index) → index < length entries
  value_within index is = by_place (cases_lt index (length entries)) where
    by_place : (index < length entries) ⊎ (length entries ≤ index) → index < length entries
    by_place (inl h) = h
    by_place (inr h) = absurd ((rw (get_or_past entries index entry.Second h) at is) refl)

  -- ---- instructions

  -- the number that an option may have is below the bound
  abbrev pub IsBelow : Option ℕ → Type 0
  IsBelow None = Unit {0}
  IsBelow (Some k) = k < length entries

  pub insn_below : (offset : ℕ) (bytes : List ℕ) (i : Insn) → OperandIsValid entries (record { offset = offset; bytes = bytes; insn = i }) → IsBelow (pool_index i)
  insn_below offset bytes (insn.LoadPool index) valid =
      constant_within (opcode_of (record { offset = offset; bytes = bytes; insn = insn.LoadPool index }) == LDC2_W) index valid
  insn_below offset bytes (insn.GetStatic index) valid = field_within index valid
  insn_below offset bytes (insn.PutStatic index) valid = field_within index valid
  insn_below offset bytes (insn.GetField index) valid = field_within index valid
  insn_below offset bytes (insn.PutField index) valid = field_within index valid
  insn_below offset bytes (insn.Virtual index) valid = method_within index valid
  insn_below offset bytes (insn.Special index) valid = any_within index valid
  insn_below offset bytes (insn.Static index) valid = any_within index valid
  insn_below offset bytes (insn.Interface index) valid =
      interface_within index (λ m. TakesWords (count_operand (record { offset = offset; bytes = bytes; insn = insn.Interface index })) m.descriptor) valid
  insn_below offset bytes (insn.New index) valid = name_within entries index valid
  insn_below offset bytes (insn.NewRefs index) valid = name_within entries index valid
  insn_below offset bytes (insn.Cast index) valid = name_within entries index valid
  insn_below offset bytes (insn.IsA index) valid = name_within entries index valid
  insn_below offset bytes (insn.MultiArray index dimensions) valid = name_within entries index valid
  insn_below offset bytes i valid = tt

  -- an option more
  pub below_option : (o : Option ℕ) (ks : List ℕ) → IsBelow o → AreWithin (length entries) ks → AreWithin (length entries) (cons_option o ks)
  below_option None ks here later = later
  below_option (Some k) ks here later = (here, later)

  pub operands_below : (items : List Item) → AllByRecursion (OperandIsValid entries) items
      → AreWithin (length entries) (filter_map (λ (item : Item). pool_index item.insn) items)
  operands_below [] valid = tt
  operands_below (item ∷ items) valid =
      below_option (pool_index item.insn) (filter_map (λ (i : Item). pool_index i.insn) items) (insn_below item.offset item.bytes item.insn valid.0)
      (operands_below items valid.1)

  -- ---- methods and fields

  items_valid : (m : Member) (attributes : List MemberAttr) → AllByRecursion (MethodAttrIsValid entries) attributes
      → AllByRecursion (OperandIsValid entries) (items_of (record m { attributes = attributes }))
  items_valid m [] valid = tt
  items_valid m (attribute.Constant name value ∷ attributes) valid = absurd valid.0
  items_valid m (attribute.Coded name code ∷ attributes) valid = valid.0.1.operands
  items_valid m (attribute.Other raw ∷ attributes) valid = items_valid m attributes valid.1

  pub all_items_valid : (in_interface : Bool) (methods : List Member) → AllByRecursion (MethodIsValid in_interface entries) methods
      → AllByRecursion (OperandIsValid entries) (flat_map items_of methods)
  all_items_valid in_interface [] valid = tt
  all_items_valid in_interface (m ∷ methods) valid =
      AllByRecursion-append (OperandIsValid entries) (items_of m) (flat_map items_of methods) (items_valid m m.attributes valid.0.attributes)
      (all_items_valid in_interface methods valid.1)

  module _ (positive : 0 < length entries) where
    pub class_below : (index : ℕ) → (index ≡ 0) ⊎ IsSome (class_name_at entries index) → index < length entries
    class_below index (inl none) = omega (arith, none, positive)
    class_below index (inr there) = name_within entries index there

    caught_below : (count : ℕ) (handlers : List Handler) → AllByRecursion (HandlerIsValid entries count) handlers
        → AreWithin (length entries) (map (λ (h : Handler). h.catch_class) handlers)
    caught_below count [] valid = tt
    caught_below count (h ∷ handlers) valid = (class_below h.catch_class valid.0.catch_class, caught_below count handlers valid.1)

    method_caught : (m : Member) (attributes : List MemberAttr) → AllByRecursion (MethodAttrIsValid entries) attributes
        → AreWithin (length entries) (caught_by (record m { attributes = attributes }))
    method_caught m [] valid = tt
    method_caught m (attribute.Constant name value ∷ attributes) valid = absurd valid.0
    method_caught m (attribute.Coded name code ∷ attributes) valid = caught_below (length code.items) code.handlers valid.0.1.handlers
    method_caught m (attribute.Other raw ∷ attributes) valid = method_caught m attributes valid.1

    all_caught : (in_interface : Bool) (methods : List Member) → AllByRecursion (MethodIsValid in_interface entries) methods
        → AreWithin (length entries) (flat_map caught_by methods)
    all_caught in_interface [] valid = tt
    all_caught in_interface (m ∷ methods) valid =
        AllByRecursion-append (λ k. k < length entries) (caught_by m) (flat_map caught_by methods) (method_caught m m.attributes valid.0.attributes)
        (all_caught in_interface methods valid.1)

    field_values : (m : Member) (attributes : List MemberAttr) → AllByRecursion (FieldAttrIsValid entries) attributes
        → AreWithin (length entries) (values_of (record m { attributes = attributes }))
    field_values m [] valid = tt
    field_values m (attribute.Constant name value ∷ attributes) valid = (value_within value valid.0.1, field_values m attributes valid.1)
    field_values m (attribute.Coded name code ∷ attributes) valid = absurd valid.0
    field_values m (attribute.Other raw ∷ attributes) valid = field_values m attributes valid.1

    all_values : (in_interface : Bool) (fields : List Member) → AllByRecursion (FieldIsValid in_interface entries) fields
        → AreWithin (length entries) (flat_map values_of fields)
    all_values in_interface [] valid = tt
    all_values in_interface (m ∷ fields) valid =
        AllByRecursion-append (λ k. k < length entries) (values_of m) (flat_map values_of fields) (field_values m m.attributes valid.0.attributes)
        (all_values in_interface fields valid.1)

-- ---- a class

pub such_there : (entries : List Entry) (index : ℕ) (P : List ℕ → Type 0) → IsSomeAnd (class_name_at entries index) P → IsSome (class_name_at entries index)
such_there entries index P such = let v = Some-from_some_and (class_name_at entries index) P such in IsSome-from_some (class_name_at entries index) v.0 v.1

pub used_below : (c : ClassDef) → HasSpelling c → AreWithin (length c.pool.entries) (used_indices c)
unfolding used_indices
used_below c (bytes, spells) =
    let entries = c.pool.entries in
    let positive = some_entries entries spells.pool.slots in
    let values = flat_map values_of c.fields in
    let operands = filter_map (λ (item : Item). pool_index item.insn) (class_items c) in
    let caught = flat_map caught_by c.methods in
    let below = λ (k : ℕ). k < length entries in
    let named = AllByRecursion-weaker (λ index. IsSome (class_name_at entries index)) below (name_within entries) c.interfaces spells.interfaces in
    let listed = AllByRecursion-append below c.interfaces values named (all_values entries positive (is_interface c.flags) c.fields spells.fields) in
    let instructions = operands_below entries (class_items c) (all_items_valid entries (is_interface c.flags) c.methods spells.methods) in (
      class_below entries positive c.this_class (inr (such_there entries c.this_class (λ name. is_binary_name name ≡ true) spells.this_class)),
      (
        class_below entries positive c.super_class spells.super_class,
        AllByRecursion-append below ((c.interfaces ++ values) ++ operands) caught (AllByRecursion-append below (c.interfaces ++ values) operands listed instructions)
            (all_caught entries positive (is_interface c.flags) c.methods spells.methods),
      ),
    )

past_all : (n k : ℕ) (ks : List ℕ) → AreWithin n ks → n ≤ k → is_among k ks ≡ false
past_all n k [] below past = refl
past_all n k (x ∷ ks) below past =
    let small = below.0 in
    ap (λ b. b || is_among k ks) (other_number k x (λ same. omega (arith, same, small, past))) ∙ past_all n k ks below.1 past

-- no index past the pool is used
pub unused_past : (c : ClassDef) → HasSpelling c → (index : ℕ) → length c.pool.entries ≤ index → is_used c index ≡ false
unused_past c spelled index past = past_all (length c.pool.entries) index (used_indices c) (used_below c spelled) past

-- ---- the indices in their order

range_below : (a n : ℕ) → AreWithin (a + n) (range_with_len a n)
range_below a zero = tt
range_below a (suc n) =
    (omega arith, AllByRecursion-weaker (λ k. k < a + 1 + n) (λ k. k < a + suc n) (λ k within. omega (arith, within)) (range_with_len (a + 1) n) (range_below (a + 1) n))

pub indices_below : (c : ClassDef) → AreWithin (length c.pool.entries) (pool_indices c)
indices_below c = subst (λ n. AreWithin n (pool_indices c)) (zero-add (length c.pool.entries)) (range_below 0 (length c.pool.entries))

pub uses_below : (c : ClassDef) → AreWithin (length c.pool.entries) (uses_in_order c)
uses_below c = filter_all (λ k. k < length c.pool.entries) (is_used c) (pool_indices c) (indices_below c)

-- ---- lists over such numbers

pub flat_map-below : {A : Type 0} (n : ℕ) (f g : ℕ → List A) → ((k : ℕ) → k < n → f k ≡ g k) → (ks : List ℕ) → AreWithin n ks → flat_map f ks ≡ flat_map g ks
flat_map-below n f g agree [] below = refl
flat_map-below n f g agree (x ∷ ks) below = λ k. agree x below.0 k ++ flat_map-below n f g agree ks below.1 k

pub filter_map-below : {A : Type 0} (n : ℕ) (f g : ℕ → Option A) → ((k : ℕ) → k < n → f k ≡ g k) → (ks : List ℕ) → AreWithin n ks
    → filter_map f ks ≡ filter_map g ks
filter_map-below n f g agree [] below = refl
filter_map-below n f g agree (x ∷ ks) below = λ k. cons_option (agree x below.0 k) (filter_map-below n f g agree ks below.1 k)
