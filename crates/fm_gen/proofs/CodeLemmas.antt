-- The code of the methods: what holds of each instruction, and so of the items.
use Rattle.std.proofs.Common.{◌≡◌, ◌≤◌, ◌<◌, ◌+◌, ◌*◌, ℕ, zero, suc, Bool, true, false, inl, List, [], ◌∷◌, ◌++◌, Some, None, ap, subst, sym, codes, length, length-append, map, refl, arith, sum_by, if◌then◌else◌}
use Rattle.std.specs.List.{AllByRecursion, flat_map, range_with_len}
use Rattle.std.specs.Prelude.{◌==◌, ◌%◌, ◌-◌, ◌/◌}
use Rattle.std.proofs.lemmas.List.Sums.{sum_by-append, sum_by-cons}
use Rattle.fm_base.proofs.ListFacts.{AllByRecursion-append}
use Rattle.fm_base.proofs.OptionFacts.{IsSome-from_some}
use Rattle.fm_code.proofs.Bytes.{AreBytes-two, length-four, length-two}
use Rattle.fm_code.proofs.Floating.{no_floating_array}
use Rattle.fm_code.specs.ClassBytes.{code_bytes, item_bytes, offset_in}
use Rattle.fm_code.specs.CodeRules.{CodeIsValid}
use Rattle.fm_code.specs.ConstantPool.{MemberName, class_name_at, method_ref_at}
use Rattle.fm_code.specs.Fits.{AreBytes, CodeFits}
use Rattle.fm_code.specs.InstructionTable.{insn_at}
use Rattle.fm_code.specs.Numbers.{two, four}
use Rattle.fm_code.specs.Operands.{OperandIsValid}
use Rattle.fm_code.specs.Profile.{CodeIsWithin, ItemIsSupported}
use Rattle.fm_code.specs.SpellsCode.{AreOffsets, ItemIsSpelled, LocalsFit, targets_of, with_targets}
use Rattle.fm_code.specs.declared.code_array.Item.{Item}
use Rattle.fm_code.specs.declared.constant_pool.Entry.{Entry}
use Rattle.fm_code.specs.declared.instructions.Insn.{Insn}
use Rattle.fm_code.specs.declared.instructions.Insn.TheVariants as insn
use Rattle.fm_code.specs.declared.operations.Reg.TheVariants as reg
use Rattle.fm_gen.proofs.LoopLemmas.{concat_length, few_bytes}
use Rattle.fm_gen.proofs.PoolLemmas.{Stands, all_flat, constructor_name, constructor_there, f_stands, g_stands, object_name, to_object}
use Rattle.fm_gen.proofs.NameLemmas.{named}
use Rattle.fm_gen.specs.Made.{argument, bytes_of, call, code_with, dropped_object, f_insns, g_insns, item_at, items_from, made_entries, main_insns, name_index, new_object, result_insns, size_of, tried}

-- ---- instructions

-- what is asked of an instruction, at any offset, with any targets
pub record IsGood (max_locals : ℕ) (entries : List Entry) (i : Insn) : Type 0 where
  pub read : (offset : ℕ) (f : ℕ → ℕ) → insn_at offset (bytes_of i) ≡ Some (with_targets f i)
  pub no_targets : targets_of i ≡ []
  pub locals : LocalsFit max_locals i
  pub operand : (offset : ℕ) → OperandIsValid entries (item_at offset i)
  pub supported : (offset : ℕ) → ItemIsSupported entries (item_at offset i)
  pub bytes : AreBytes (bytes_of i)

halves : (index : ℕ) → index < 65536 → index / 256 % 256 * 256 + index % 256 ≡ index
halves index below = omega arith

module _ (max_locals : ℕ) (entries : List Entry) where
  null_good : IsGood max_locals entries insn.Null
  unfolding insn_at
  null_good = record {
    read = λ offset f. refl;
    no_targets = refl;
    locals = tt;
    operand = λ offset. tt;
    supported = λ offset. record { not_left_out = refl; constant = refl; of_class = refl; class = tt };
    bytes = (omega arith, tt);
  }

  pop_good : IsGood max_locals entries insn.Pop
  unfolding insn_at
  pop_good = record {
    read = λ offset f. refl;
    no_targets = refl;
    locals = tt;
    operand = λ offset. tt;
    supported = λ offset. record { not_left_out = refl; constant = refl; of_class = refl; class = tt };
    bytes = (omega arith, tt);
  }

  dup_good : IsGood max_locals entries insn.Dup
  unfolding insn_at
  dup_good = record {
    read = λ offset f. refl;
    no_targets = refl;
    locals = tt;
    operand = λ offset. tt;
    supported = λ offset. record { not_left_out = refl; constant = refl; of_class = refl; class = tt };
    bytes = (omega arith, tt);
  }

  return_good : IsGood max_locals entries (insn.Return None)
  unfolding insn_at
  return_good = record {
    read = λ offset f. refl;
    no_targets = refl;
    locals = tt;
    operand = λ offset. tt;
    supported = λ offset. record { not_left_out = refl; constant = refl; of_class = refl; class = tt };
    bytes = (omega arith, tt);
  }

  areturn_good : IsGood max_locals entries (insn.Return (Some reg.Ref))
  unfolding insn_at
  areturn_good = record {
    read = λ offset f. refl;
    no_targets = refl;
    locals = tt;
    operand = λ offset. tt;
    supported = λ offset. record { not_left_out = refl; constant = refl; of_class = refl; class = tt };
    bytes = (omega arith, tt);
  }

  load_good : 0 < max_locals → IsGood max_locals entries (insn.Load reg.Ref 0)
  unfolding insn_at
  load_good some = record {
    read = λ offset f. refl;
    no_targets = refl;
    locals = some;
    operand = λ offset. tt;
    supported = λ offset. record { not_left_out = refl; constant = refl; of_class = refl; class = tt };
    bytes = (omega arith, tt);
  }

  -- a class that is named by an index of two bytes
  new_good : class_name_at entries 4 ≡ Some (codes "java/lang/Object") → IsGood max_locals entries (insn.New 4)
  unfolding insn_at two
  new_good there = record {
    read = λ offset f. refl;
    no_targets = refl;
    locals = tt;
    operand = λ offset. IsSome-from_some (class_name_at entries 4) (codes "java/lang/Object") there;
    supported = λ offset. record {
      not_left_out = refl;
      constant = refl;
      of_class = refl;
      class = rw there (no_floating_array (codes "java/lang/Object") refl);
    };
    bytes = (omega arith, AreBytes-two 4);
  }

  special_good : method_ref_at entries 8 ≡ Some constructor_name → IsGood max_locals entries (insn.Special 8)
  unfolding insn_at two
  special_good there = record {
    read = λ offset f. refl;
    no_targets = refl;
    locals = tt;
    operand = λ offset. inl (IsSome-from_some (method_ref_at entries 8) constructor_name there);
    supported = λ offset. record {
      not_left_out = refl;
      constant = refl;
      of_class = rw there refl;
      class = rw there (no_floating_array (codes "java/lang/Object") refl);
    };
    bytes = (omega arith, AreBytes-two 8);
  }

  static_good : (index : ℕ) (m : MemberName) → index < 65536 → method_ref_at entries index ≡ Some m → m.class ≡ codes "G" → IsGood max_locals entries (insn.Static index)
  unfolding insn_at two
  static_good index m below there own = record {
    read = λ offset f. ap (λ (i : ℕ). Some (insn.Static i)) (halves index below);
    no_targets = refl;
    locals = tt;
    operand = λ offset. inl (IsSome-from_some (method_ref_at entries index) m there);
    supported = λ offset. record {
      not_left_out = refl;
      constant = refl;
      of_class = rw there refl;
      class = rw (there, own) (no_floating_array (codes "G") refl);
    };
    bytes = (omega arith, AreBytes-two index);
  }

-- ---- the instructions of the methods

-- the result of fi where i mod 4 isn't 0, and where it isn't 1 either
abbrev pub third_insns : ℕ → List Insn
third_insns i = if i % 4 == 2 then dropped_object else argument i

abbrev pub second_insns : ℕ → List Insn
second_insns i = if i % 4 == 1 then insn.Load reg.Ref 0 ∷ [] else third_insns i

module _ (max_locals n : ℕ) (few : n ≤ 100) where
  abbrev Good : Insn → Type 0
  Good = IsGood max_locals (made_entries n)

  call_good : (k : ℕ) (name descriptor : List ℕ) → k < 10100 → Stands (made_entries n) k name descriptor → Good (call k)
  call_good k name descriptor below stands =
      static_good max_locals (made_entries n) (name_index k + 2) (record { class = codes "G"; name = name; descriptor = descriptor }) (omega arith) stands.method refl

  object_good : AllByRecursion Good new_object
  object_good = (
    new_good max_locals (made_entries n) (object_name n),
    (dup_good max_locals (made_entries n), (special_good max_locals (made_entries n) (constructor_there n), tt)),
  )

  one_of : (b : Bool) (xs ys : List Insn) → AllByRecursion Good xs → AllByRecursion Good ys → AllByRecursion Good (if b then xs else ys)
  one_of true xs ys first second = first
  one_of false xs ys first second = second

  pub f_good : 0 < max_locals → (i : ℕ) → i < 100 * n → AllByRecursion Good (f_insns i)
  unfolding f_insns
  f_good some i below =
      let loaded : AllByRecursion Good (insn.Load reg.Ref 0 ∷ []) = (load_good max_locals (made_entries n) some, tt) in
      let dropped = AllByRecursion-append Good new_object (insn.Pop ∷ insn.Null ∷ []) object_good (pop_good max_locals (made_entries n), (null_good max_locals (made_entries n), tt)) in
      let called : AllByRecursion Good (insn.Load reg.Ref 0 ∷ call (i - 4) ∷ []) =
      (load_good max_locals (made_entries n) some, (call_good (i - 4) (named 102 (i - 4)) to_object (omega arith) (f_stands n (i - 4) (omega arith)), tt)) in
      AllByRecursion-append Good (result_insns i) (insn.Return (Some reg.Ref) ∷ [])
      (one_of (i % 4 == 0) new_object (second_insns i) object_good
      (one_of (i % 4 == 1) (insn.Load reg.Ref 0 ∷ []) (third_insns i) loaded
      (one_of (i % 4 == 2) dropped_object (argument i) dropped (one_of (i % 100 == 3) (insn.Load reg.Ref 0 ∷ []) (insn.Load reg.Ref 0 ∷ call (i - 4) ∷ []) loaded called))))
      (areturn_good max_locals (made_entries n), tt)

  tried_good : (i : ℕ) → i < 100 * n → AllByRecursion Good (tried i)
  tried_good i below =
      AllByRecursion-append Good new_object (call i ∷ insn.Pop ∷ []) object_good
      (call_good i (named 102 i) to_object (omega arith) (f_stands n i below), (pop_good max_locals (made_entries n), tt))

  pub g_good : (j : ℕ) → j < n → AllByRecursion Good (g_insns j)
  unfolding g_insns
  g_good j below =
      AllByRecursion-append Good (flat_map (λ k. tried (100 * j + k)) (range_with_len 0 100)) (insn.Return None ∷ [])
      (all_flat Good (λ k. tried (100 * j + k)) 0 100 (λ k low high. tried_good (100 * j + k) (omega arith))) (return_good max_locals (made_entries n), tt)

  all_calls : (a m : ℕ) → a + m ≤ n → AllByRecursion Good (map (λ j. call (100 * n + j)) (range_with_len a m))
  all_calls a zero within = tt
  all_calls a (suc m) within =
      (call_good (100 * n + a) (named 103 a) (codes "()V") (omega arith) (g_stands n a (omega arith)), all_calls (a + 1) m (omega arith))

  pub main_good : AllByRecursion Good (main_insns n)
  unfolding main_insns
  main_good = AllByRecursion-append Good (map (λ j. call (100 * n + j)) (range_with_len 0 n)) (insn.Return None ∷ []) (all_calls 0 n (omega arith)) (return_good max_locals (made_entries n), tt)

-- ---- how many bytes they have

pub sizes : (insns : List Insn) → sum_by size_of insns ≤ 3 * length insns
sizes [] = omega arith
sizes (i ∷ insns) = omega (arith, few_bytes i, sizes insns, sum_by-cons size_of i insns)

-- ---- items

module _ (max_locals : ℕ) (entries : List Entry) where
  offsets : (offset : ℕ) (insns : List Insn) → AreOffsets offset (items_from offset insns)
  offsets offset [] = tt
  offsets offset (i ∷ insns) = (refl, offsets (offset + size_of i) insns)

  items_size : (offset : ℕ) (insns : List Insn) → sum_by size_of insns ≡ length (flat_map item_bytes (items_from offset insns))
  items_size offset [] = refl
  items_size offset (i ∷ insns) =
      omega (arith, items_size (offset + size_of i) insns, sum_by-cons size_of i insns, length-append (bytes_of i) (flat_map item_bytes (items_from (offset + size_of i) insns)))

  items_spelled : (all : List Item) (offset : ℕ) (insns : List Insn) → AllByRecursion (IsGood max_locals entries) insns → AllByRecursion (ItemIsSpelled all) (items_from offset insns)
  items_spelled all offset [] good = tt
  items_spelled all offset (i ∷ insns) good = (
    record { instruction = good.0.read offset (offset_in all zero); targets = subst (AllByRecursion (λ target. target < length all)) (sym good.0.no_targets) tt },
    items_spelled all (offset + size_of i) insns good.1,
  )

  items_locals : (offset : ℕ) (insns : List Insn) → AllByRecursion (IsGood max_locals entries) insns → AllByRecursion (λ (item : Item). LocalsFit max_locals item.insn) (items_from offset insns)
  items_locals offset [] good = tt
  items_locals offset (i ∷ insns) good = (good.0.locals, items_locals (offset + size_of i) insns good.1)

  items_operands : (offset : ℕ) (insns : List Insn) → AllByRecursion (IsGood max_locals entries) insns → AllByRecursion (OperandIsValid entries) (items_from offset insns)
  items_operands offset [] good = tt
  items_operands offset (i ∷ insns) good = (good.0.operand offset, items_operands (offset + size_of i) insns good.1)

  items_bytes : (offset : ℕ) (insns : List Insn) → AllByRecursion (IsGood max_locals entries) insns → AllByRecursion (λ (item : Item). AreBytes item.bytes) (items_from offset insns)
  items_bytes offset [] good = tt
  items_bytes offset (i ∷ insns) good = (good.0.bytes, items_bytes (offset + size_of i) insns good.1)

  items_supported : (offset : ℕ) (insns : List Insn) → AllByRecursion (IsGood max_locals entries) insns → AllByRecursion (ItemIsSupported entries) (items_from offset insns)
  items_supported offset [] good = tt
  items_supported offset (i ∷ insns) good = (good.0.supported offset, items_supported (offset + size_of i) insns good.1)

  -- ---- code of good instructions, of which there are some but not too many

  module _ (max_stack : ℕ) (insns : List Insn) (good : AllByRecursion (IsGood max_locals entries) insns) (some : 0 < sum_by size_of insns) (many : length insns ≤ 1000)
      (stack : max_stack ≤ 2) (locals : max_locals ≤ 1) where
    pub code_valid : CodeIsValid entries (code_with max_stack max_locals insns)
    unfolding code_with
    code_valid = record {
      not_empty = some;
      not_long = omega (arith, sizes insns);
      measured = items_size 0 insns;
      spelled = record { bytes_are = refl; offsets = offsets 0 insns; spelled = items_spelled (items_from 0 insns) 0 insns good };
      locals = items_locals 0 insns good;
      operands = items_operands 0 insns good;
      handlers = tt;
      attributes = tt;
    }

    pub code_size : length (code_bytes (code_with max_stack max_locals insns)) ≡ 12 + sum_by size_of insns
    unfolding code_with code_bytes
    code_size =
        let items = flat_map item_bytes (items_from 0 insns) in
        let none = two 0 ++ [] in
        omega (
          arith,
          items_size 0 insns,
          concat_length (two max_stack ∷ two max_locals ∷ four (sum_by size_of insns) ∷ items ∷ none ∷ none ∷ []),
          length-append (two 0) [],
          length-two max_stack,
          length-two max_locals,
          length-four (sum_by size_of insns),
          length-two 0,
        )

    pub code_fits : CodeFits (code_with max_stack max_locals insns)
    unfolding code_with
    code_fits = record {
      max_stack = omega arith;
      max_locals = omega arith;
      code_length = omega (arith, sizes insns);
      items = items_bytes 0 insns good;
      handlers = record { count = omega arith; each = tt };
      attributes = record { count = omega arith; each = tt };
      size = omega (arith, sizes insns, code_size);
    }

    pub code_within : CodeIsWithin (code_with max_stack max_locals insns)
    unfolding code_with
    code_within = record { stack = omega arith; locals = omega arith; handlers = omega arith }

    pub code_supported : AllByRecursion (ItemIsSupported entries) (code_with max_stack max_locals insns).items
    unfolding code_with
    code_supported = items_supported 0 insns good

-- each method returns at its end
pub f_some : (i : ℕ) → 0 < sum_by size_of (f_insns i)
unfolding f_insns
f_some i =
    omega (arith, sum_by-append size_of (result_insns i) (insn.Return (Some reg.Ref) ∷ []))

pub g_some : (j : ℕ) → 0 < sum_by size_of (g_insns j)
unfolding g_insns
g_some j = omega (arith, sum_by-append size_of (flat_map (λ k. tried (100 * j + k)) (range_with_len 0 100)) (insn.Return None ∷ []))

pub main_some : (n : ℕ) → 0 < sum_by size_of (main_insns n)
unfolding main_insns
main_some n = omega (arith, sum_by-append size_of (map (λ j. call (100 * n + j)) (range_with_len 0 n)) (insn.Return None ∷ []))
