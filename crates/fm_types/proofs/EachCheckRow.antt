-- What holds of each row of the checker, where it holds of the few sorts of steps that rows are made of.
use Rattle.std.proofs.Common.{◌≡◌, refl, subst, sym, ℕ, ℤ, zero, suc, ◌+◌, ◌<◌, ◌≤◌, ◌&&◌, Bool, true, false, List, [], ◌∷◌, ◌++◌, length, replicate, Option, Some, None, option_and_then, slice_get, cond, arith, length-append}
use Rattle.std.specs.Prelude.{nat_le, nat_lt}
use Rattle.std.specs.List.{AllByRecursion, flat_map}
use Rattle.std.specs.Option.{option_to_list}
use Rattle.std.proofs.lemmas.Bool.{false≢true}
use Rattle.std.proofs.lemmas.List.{length-replicate}
use Rattle.fm_base.proofs.ListFacts.{AllByRecursion-append, AllByRecursion-reversed}
use Rattle.fm_base.specs.declared.kinds.Kind.{Kind}
use Rattle.fm_base.specs.declared.kinds.Kind.TheVariants as kind
use Rattle.fm_base.specs.declared.kinds.TypeRef.{TypeRef}
use Rattle.fm_code.specs.StackWords.{element_words, number_given, number_words, numbers_taken, reg_words, takes_long, words_taken}
use Rattle.fm_code.specs.declared.instructions.Insn.{Insn}
use Rattle.fm_code.specs.declared.instructions.Insn.TheVariants as insn
use Rattle.fm_code.specs.declared.operations.Elem.{Elem}
use Rattle.fm_code.specs.declared.operations.Reg.{Reg}
use Rattle.fm_code.specs.declared.operations.Reg.TheVariants as reg
use Rattle.fm_types.proofs.CallOrder.{called-whole, return_by}
use Rattle.fm_types.proofs.NumberOrder.{move_by}
use Rattle.fm_types.proofs.ObjectOrder.{stack_slots-whole}
use Rattle.fm_types.specs.ArrayRows.{array_load_row, array_store_row, length_row, multi_array_row, new_array_row, new_references_row}
use Rattle.fm_types.specs.CallRows.{constructor_called, instance_call_row, is_constructor, is_initializer, names_own_or_above, return_row, returned_by, same_reg, special_call_row, static_call_row}
use Rattle.fm_types.specs.Moves.{Moves}
use Rattle.fm_types.specs.Named.{argument_words, field_words, object_slot, on_field, on_method, on_type, parameters_of, result_of, result_words, this_class, throwable_type}
use Rattle.fm_types.specs.NumberRows.{constant_row, convert_row, increment_row, load_row, move_row, number_slots, store_row}
use Rattle.fm_types.specs.ObjectRows.{cast_row, get_field_row, get_static_row, is_a_row, new_row, put_field_row, put_static_row, takes_field, throw_row}
use Rattle.fm_types.specs.Rows.{row_after}
use Rattle.fm_types.specs.States.{int_word, is_whole, local_slots, long_words, pushed, stack_slots, TypeState, worked, worked_below}
use Rattle.fm_types.specs.declared.slots.Slot.{Slot}
use Rattle.fm_types.specs.declared.slots.Slot.TheVariants as slot
use Rattle.fm_world.specs.Members.{field_at, field_kind}
use Rattle.fm_world.specs.Numbers.{type_of_class}
use Rattle.fm_world.specs.Programs.{Outline}
use Rattle.fm_world.specs.Uses.{array_of, base_of_elem}
use Rattle.fm_world.specs.declared.uses.Use.{Use}
use Rattle.fm_world.specs.declared.uses.Use.TheVariants as resolved

-- ---- words that rows name

-- no object of a `new` that isn't initialised
abbrev pub IsPlain : Slot → Type 0
IsPlain (slot.Uninit item) = ⊥
IsPlain s = Unit {0}

abbrev pub ArePlain : List Slot → Type 0
ArePlain slots = AllByRecursion IsPlain slots

-- words that are plain, and among which no long is split
pub record AreWords (slots : List Slot) : Type 0 where
  pub whole : is_whole slots ≡ true
  pub plain : ArePlain slots

plain_kind : (k : Kind) → ArePlain (local_slots k)
plain_kind kind.Boolean = (tt, tt)
plain_kind kind.Byte = (tt, tt)
plain_kind kind.Char = (tt, tt)
plain_kind kind.Short = (tt, tt)
plain_kind kind.Int = (tt, tt)
plain_kind kind.Long = (tt, (tt, tt))
plain_kind (kind.Ref t) = (tt, tt)

plain_kinds : (kinds : List Kind) → ArePlain (flat_map local_slots kinds)
plain_kinds [] = tt
plain_kinds (k ∷ kinds) = AllByRecursion-append IsPlain (local_slots k) (flat_map local_slots kinds) (plain_kind k) (plain_kinds kinds)

-- the slots of values are plain
pub plain_words : (kinds : List Kind) → ArePlain (stack_slots kinds)
plain_words kinds = AllByRecursion-reversed IsPlain (flat_map local_slots kinds) (plain_kinds kinds)

of_kinds : (kinds : List Kind) → AreWords (stack_slots kinds)
of_kinds kinds = record { whole = stack_slots-whole kinds; plain = plain_words kinds }

pub of_field : (o : Outline) (field : ℕ) → AreWords (field_words o field)
of_field o field = of_kinds (field_kind o.classes (field_at o.classes field).field ∷ [])

of_arguments : (o : Outline) (m : ℕ) → AreWords (argument_words o m)
of_arguments o m = of_kinds (parameters_of o m)

of_result : (o : Outline) (m : ℕ) → AreWords (result_words o m)
of_result o m = of_kinds (option_to_list (result_of o m))

with_receiver : (o : Outline) (m : ℕ) (t : TypeRef) → AreWords (argument_words o m ++ slot.Ref t ∷ [])
with_receiver o m t = record {
  whole = called-whole o m t;
  plain = AllByRecursion-append IsPlain (argument_words o m) (slot.Ref t ∷ []) (plain_words (parameters_of o m)) (tt, tt);
}

ints_whole : (n : ℕ) → is_whole (replicate n slot.Int) ≡ true
ints_whole zero = refl
ints_whole (suc n) = ints_whole n

ints_plain : (n : ℕ) → ArePlain (replicate n slot.Int)
ints_plain zero = tt
ints_plain (suc n) = (tt, ints_plain n)

no_words : AreWords []
no_words = record { whole = refl; plain = tt }

an_int : AreWords int_word
an_int = record { whole = refl; plain = (tt, tt) }

two_ints : AreWords (int_word ++ int_word)
two_ints = record { whole = refl; plain = (tt, (tt, tt)) }

a_long : AreWords long_words
a_long = record { whole = refl; plain = (tt, (tt, tt)) }

-- a long, or an int
pub a_number : (is_long : Bool) → AreWords (number_slots is_long)
a_number true = a_long
a_number false = an_int

-- ---- instructions that take numbers, give one and do nothing else

-- the words of numbers, from the top of the stack
abbrev pub slots_of : List Bool → List Slot
slots_of [] = []
slots_of (is_long ∷ []) = number_slots is_long
slots_of (is_long ∷ next ∷ more) = number_slots is_long ++ slots_of (next ∷ more)

pub numbers : (longs : List Bool) → AreWords (slots_of longs)
numbers [] = no_words
numbers (is_long ∷ []) = a_number is_long
numbers (true ∷ next ∷ more) = let words = numbers (next ∷ more) in record { whole = words.whole; plain = (tt, (tt, words.plain)) }
numbers (false ∷ next ∷ more) = let words = numbers (next ∷ more) in record { whole = words.whole; plain = (tt, words.plain) }

-- the words that the instruction takes, and those that it gives
abbrev pub wanted_by : Insn → List Slot
wanted_by i = slots_of (numbers_taken i)

abbrev pub given_by : Insn → List Slot
given_by i = number_slots (number_given i)

-- whether there is a number
abbrev pub has_one : List Bool → Bool
has_one [] = false
has_one (is_long ∷ more) = true

abbrev pub is_number : Insn → Bool
is_number i = has_one (numbers_taken i)

number_length : (is_long : Bool) → number_words is_long ≡ length (number_slots is_long)
number_length true = refl
number_length false = refl

-- it takes as many words as it wants
pub takes_wanted : (field arguments : ℕ) (i : Insn) → is_number i ≡ true → words_taken field arguments i ≡ length (wanted_by i)
takes_wanted field arguments (insn.Convert to) is = number_length (takes_long to)
takes_wanted field arguments i is = cc

-- its row takes these words and gives those
pub number_row : (o : Outline) (method item : ℕ) (news : ℕ → Option TypeRef) (u : Use) (i : Insn) (s : TypeState) → is_number i ≡ true
    → row_after o method item news u i s ≡ worked o (wanted_by i) (given_by i) s
unfolding convert_row row_after
number_row o method item news u insn.Nop s is = absurd (false≢true is)
number_row o method item news u i s is = cc

a_reference : (t : TypeRef) → AreWords (slot.Ref t ∷ [])
a_reference t = record { whole = refl; plain = (tt, tt) }

two_references : (t : TypeRef) → AreWords (slot.Ref t ∷ slot.Ref t ∷ [])
two_references t = record { whole = refl; plain = (tt, (tt, tt)) }

-- a value has two words at most
few_of_kind : (k : Kind) → length (stack_slots (k ∷ [])) ≤ 2
few_of_kind kind.Boolean = let size : length (stack_slots (kind.Boolean ∷ [])) ≡ 1 = refl in omega (arith, size)
few_of_kind kind.Byte = let size : length (stack_slots (kind.Byte ∷ [])) ≡ 1 = refl in omega (arith, size)
few_of_kind kind.Char = let size : length (stack_slots (kind.Char ∷ [])) ≡ 1 = refl in omega (arith, size)
few_of_kind kind.Short = let size : length (stack_slots (kind.Short ∷ [])) ≡ 1 = refl in omega (arith, size)
few_of_kind kind.Int = let size : length (stack_slots (kind.Int ∷ [])) ≡ 1 = refl in omega (arith, size)
few_of_kind kind.Long = let size : length (stack_slots (kind.Long ∷ [])) ≡ 2 = refl in omega (arith, size)
few_of_kind (kind.Ref t) = let size : length (stack_slots (kind.Ref t ∷ [])) ≡ 1 = refl in omega (arith, size)

few_of_field : (o : Outline) (field : ℕ) → length (field_words o field) ≤ 2
few_of_field o field = few_of_kind (field_kind o.classes (field_at o.classes field).field)

few_more : (o : Outline) (field : ℕ) → length (field_words o field) + 1 ≤ 3
few_more o field = let few = few_of_field o field in omega (arith, few)

-- a result has the words of the value that is returned
result_count : (r : Reg) (k : Kind) → same_reg r (returned_by k) ≡ true → length (stack_slots (k ∷ [])) ≡ reg_words r
result_count reg.Long kind.Long same = refl
result_count reg.Long k same = absurd (false≢true same)
result_count reg.Int kind.Long same = absurd (false≢true same)
result_count reg.Int k same = refl
result_count reg.Ref kind.Long same = absurd (false≢true same)
result_count reg.Ref k same = refl

-- ---- the steps

-- a row, by the number of the item and the types that the `new` of items name
abbrev pub Row : Type 0
Row = ℕ → (ℕ → Option TypeRef) → TypeState → Option TypeState

-- the words of the arguments of the method that is named, and of a receiver
abbrev pub called_words : Outline → Use → ℕ
called_words o (resolved.OfMethod m t) = length (argument_words o m.0) + 1
called_words o u = 0

-- what holds of the rows that an instruction may have in a method: `A n row` is what holds of a row that looks at n words of the stack at most
pub record Leaves (o : Outline) (method : ℕ) (u : Use) (i : Insn) (A : ℕ → Row → Type 0) : Type 0 where
  pub more : (m n : ℕ) (row : Row) → m ≤ n → A m row → A n row
  -- nothing is left, or all as it is, that only where a constructor's object is built
  pub none : A 0 (λ item news s. None)
  pub kept : A 0 (λ item news s. Some s)
  pub built : A 0 (λ item news s. cond s.built (Some s) None)
  -- words are put on the stack, and others taken, or moved
  pub pushes : (given : List Slot) → AreWords given → A 0 (λ item news s. Some (pushed given s))
  pub works : (wanted given : List Slot) → AreWords wanted → AreWords given → A (length wanted) (λ item news s. worked o wanted given s)
  pub moves : (m : Moves) → AllByRecursion (λ depth. depth < m.takes) m.gives → A m.takes (λ item news s. move_by (Some m) s)
  -- locals
  pub loads : (r : Reg) (k : ℕ) → i ≡ insn.Load r k → A 0 (λ item news s. load_row r k s)
  pub stores : (r : Reg) (k : ℕ) → i ≡ insn.Store r k → A (reg_words r) (λ item news s. store_row o r k s)
  pub increments : (k : ℕ) (by : ℤ) → i ≡ insn.Inc k by → A 0 (λ item news s. increment_row k s)
  -- words follow from an array or a receiver below those that are taken
  pub loads_element : (e : Elem) → A 2 (λ item news s. array_load_row o e s)
  pub stores_element : (e : Elem) → A (element_words e + 2) (λ item news s. array_store_row o e s)
  pub has_length : A 1 (λ item news s. length_row o s)
  pub puts_field : (field : ℕ) (named : TypeRef)
      → A (length (field_words o field) + 1) (λ item news s. worked_below o (field_words o field) (takes_field o method field named) s)
  -- objects are made and initialised
  pub makes : (index : ℕ) → i ≡ insn.New index → A 0 (λ item news s. new_row o item u s)
  pub constructs : (index m : ℕ) (named : TypeRef) → i ≡ insn.Special index
      → A (length (argument_words o m) + 1) (λ item news s. constructor_called o method news m named s)

module _ (o : Outline) (method : ℕ) (u : Use) (i : Insn) (A : ℕ → Row → Type 0) (l : Leaves o method u i A) where
  nothing : (n : ℕ) → A n (λ item news s. None)
  nothing n = l.more 0 n _ (omega arith) l.none

  -- ---- what follows from a test, and from what is named

  by_test : (n : ℕ) (b : Bool) (f g : Row) → (b ≡ true → A n f) → (b ≡ false → A n g) → A n (λ item news s. cond b (f item news s) (g item news s))
  by_test n true f g passes fails = passes refl
  by_test n false f g passes fails = fails refl

  by_some : {X : Type 0} (n : ℕ) (x : Option X) (f : X → Row) → ((a : X) → A n (f a)) → A n (λ item news s. option_and_then (λ a. f a item news s) x)
  by_some n None f each = nothing n
  by_some n (Some a) f each = each a

  by_type : (n : ℕ) (v : Use) (f : TypeRef → Row) → ((t : TypeRef) → A n (f t)) → A n (λ item news s. on_type o v (λ t. f t item news s))
  by_type n (resolved.OfType t) f each = by_some n (slice_get o.types t.0) f each
  by_type n v f each = nothing n

  by_field : (n : ℕ) (v : Use) (f : ℕ → TypeRef → Row) → ((field : ℕ) (t : TypeRef) → A n (f field t))
      → A n (λ item news s. on_field o v (λ field t. f field t item news s))
  by_field n (resolved.OfField field t) f each = by_some n (slice_get o.types t.0) (f field.0) (each field.0)
  by_field n v f each = nothing n

  by_method : (v : Use) (f : ℕ → TypeRef → Row) → ((m : ℕ) (t : TypeRef) → A (length (argument_words o m) + 1) (f m t))
      → A (called_words o v) (λ item news s. on_method o v (λ m t. f m t item news s))
  by_method (resolved.OfMethod m t) f each = by_some (length (argument_words o m.0) + 1) (slice_get o.types t.0) (f m.0) (each m.0)
  by_method v f each = l.none

  -- ---- constants and returns

  constant : (v : Use) → A 0 (λ item news s. constant_row o v s)
  unfolding constant_row
  constant (resolved.OfInt value) = l.pushes int_word an_int
  constant (resolved.OfLong value) = l.pushes long_words a_long
  constant (resolved.OfText text) = l.pushes (slot.Ref _ ∷ []) (a_reference _)
  constant (resolved.OfType t) = l.pushes (slot.Ref _ ∷ []) (a_reference _)
  constant v = l.none

  returned : (value : Option Reg) (result : Option Kind) → A (words_taken 2 0 (insn.Return value)) (λ item news s. return_by o s value result)
  returned None None = l.built
  returned None (Some k) = l.none
  returned (Some r) None = nothing (reg_words r)
  returned (Some r) (Some k) =
      let row : Row = λ item news s. worked o (stack_slots (k ∷ [])) [] s in
      by_test (reg_words r) (same_reg r (returned_by k)) row (λ item news s. None)
      (λ same. subst (λ n. A n row) (result_count r k same) (l.works (stack_slots (k ∷ [])) [] (of_kinds (k ∷ [])) no_words))
      (λ other. nothing (reg_words r))

  -- ---- fields

  gets_static : (v : Use) → A 0 (λ item news s. get_static_row o v s)
  unfolding get_static_row
  gets_static v = by_field 0 v (λ field t item news s. Some (pushed (field_words o field) s)) (λ field t. l.pushes (field_words o field) (of_field o field))

  puts_static : (v : Use) → A 2 (λ item news s. put_static_row o v s)
  unfolding put_static_row
  puts_static v =
      by_field 2 v (λ field t item news s. worked o (field_words o field) [] s)
      (λ field t. l.more (length (field_words o field)) 2 _ (few_of_field o field) (l.works (field_words o field) [] (of_field o field) no_words))

  gets_field : (v : Use) → A 1 (λ item news s. get_field_row o v s)
  unfolding get_field_row
  gets_field v =
      by_field 1 v (λ field t item news s. worked o (slot.Ref t ∷ []) (field_words o field) s)
      (λ field t. l.works (slot.Ref t ∷ []) (field_words o field) (a_reference t) (of_field o field))

  puts_a_field : (v : Use) → A 3 (λ item news s. put_field_row o method v s)
  unfolding put_field_row
  puts_a_field v =
      by_field 3 v (λ field t item news s. worked_below o (field_words o field) (takes_field o method field t) s)
      (λ field t. l.more (length (field_words o field) + 1) 3 _ (few_more o field) (l.puts_field field t))

  -- ---- casts, tests of types, and arrays

  casts : (v : Use) → A 1 (λ item news s. cast_row o v s)
  unfolding cast_row
  casts v =
      by_type 1 v (λ t item news s. worked o (object_slot o ∷ []) (slot.Ref t ∷ []) s)
      (λ t. l.works (object_slot o ∷ []) (slot.Ref t ∷ []) (a_reference _) (a_reference t))

  tests_type : (v : Use) → A 1 (λ item news s. is_a_row o v s)
  unfolding is_a_row
  tests_type v =
      by_type 1 v (λ t item news s. worked o (object_slot o ∷ []) int_word s) (λ t. l.works (object_slot o ∷ []) int_word (a_reference _) an_int)

  makes_array : (e : Elem) → A 1 (λ item news s. new_array_row o e s)
  unfolding new_array_row
  makes_array e =
      by_some 1 (base_of_elem e) (λ b item news s. worked o int_word (slot.Ref (record { dims = 1; base = b }) ∷ []) s)
      (λ b. l.works int_word (slot.Ref (record { dims = 1; base = b }) ∷ []) an_int (a_reference _))

  makes_references : (v : Use) → A 1 (λ item news s. new_references_row o v s)
  unfolding new_references_row
  makes_references v =
      by_type 1 v (λ t item news s. option_and_then (λ array. worked o int_word (slot.Ref array ∷ []) s) (array_of t))
      (λ t. by_some 1 (array_of t) (λ array item news s. worked o int_word (slot.Ref array ∷ []) s)
      (λ array. l.works int_word (slot.Ref array ∷ []) an_int (a_reference array)))

  makes_arrays : (v : Use) (n : ℕ) → A n (λ item news s. multi_array_row o v n s)
  unfolding multi_array_row
  makes_arrays v n =
      by_type n v (λ t item news s. cond (nat_lt 0 n && nat_le n t.dims) (worked o (replicate n slot.Int) (slot.Ref t ∷ []) s) None)
      (λ t. by_test n (nat_lt 0 n && nat_le n t.dims) (λ item news s. worked o (replicate n slot.Int) (slot.Ref t ∷ []) s) (λ item news s. None)
      (λ some. subst (λ k. A k (λ item news s. worked o (replicate n slot.Int) (slot.Ref t ∷ []) s)) (length-replicate n slot.Int)
      (l.works (replicate n slot.Int) (slot.Ref t ∷ []) (record { whole = ints_whole n; plain = ints_plain n }) (a_reference t)))
      (λ fails. nothing n))

  -- ---- calls

  -- a method is called on a receiver of a type
  called : (m : ℕ) (t : TypeRef) → A (length (argument_words o m) + 1) (λ item news s. worked o (argument_words o m ++ slot.Ref t ∷ []) (result_words o m) s)
  called m t =
      subst (λ n. A n (λ item news s. worked o (argument_words o m ++ slot.Ref t ∷ []) (result_words o m) s))
      (length-append (argument_words o m) (slot.Ref t ∷ []))
      (l.works (argument_words o m ++ slot.Ref t ∷ []) (result_words o m) (with_receiver o m t) (of_result o m))

  calls_instance : (v : Use) → A (called_words o v) (λ item news s. instance_call_row o v s)
  unfolding instance_call_row
  calls_instance v =
      by_method v (λ m t item news s. cond (is_initializer o m) None (worked o (argument_words o m ++ slot.Ref t ∷ []) (result_words o m) s))
      (λ m t. by_test _ (is_initializer o m) (λ item news s. None) _ (λ passes. nothing _) (λ fails. called m t))

  calls_static : (v : Use) → A (called_words o v) (λ item news s. static_call_row o v s)
  unfolding static_call_row
  calls_static v =
      by_method v (λ m t item news s. cond (is_initializer o m) None (worked o (argument_words o m) (result_words o m) s))
      (λ m t. by_test _ (is_initializer o m) (λ item news s. None) _ (λ passes. nothing _)
      (λ fails. l.more (length (argument_words o m)) (length (argument_words o m) + 1) _ (omega arith)
      (l.works (argument_words o m) (result_words o m) (of_arguments o m) (of_result o m))))

  calls_special : (index : ℕ) → i ≡ insn.Special index → (v : Use) → A (called_words o v) (λ item news s. special_call_row o method news v s)
  unfolding special_call_row
  calls_special index is v =
      let own : ℕ = this_class o method in
      let own_words : ℕ → List Slot = λ m. argument_words o m ++ slot.Ref (type_of_class own) ∷ [] in
      by_method v
      (λ m t item news s. cond (is_constructor o m) (constructor_called o method news m t s)
      (cond (is_initializer o m) None (cond (names_own_or_above o own t) (worked o (own_words m) (result_words o m) s) None)))
      (λ m t. by_test _ (is_constructor o m) (λ item news s. constructor_called o method news m t s) _ (λ passes. l.constructs index m t is)
      (λ fails. by_test _ (is_initializer o m) (λ item news s. None) _ (λ passes. nothing _)
      (λ fails. by_test _ (names_own_or_above o own t) (λ item news s. worked o (own_words m) (result_words o m) s) (λ item news s. None)
      (λ above. called m (type_of_class own)) (λ other. nothing _))))

  -- ---- all instructions

  each : (j : Insn) → i ≡ j → A (words_taken 2 (called_words o u) j) (λ item news s. row_after o method item news u j s)
  unfolding convert_row row_after move_row return_row throw_row
  each insn.Nop is = l.kept
  each insn.Null is = l.pushes (slot.Null ∷ []) (record { whole = refl; plain = (tt, tt) })
  each (insn.Const value) is = l.pushes int_word an_int
  each (insn.LongConst value) is = l.pushes long_words a_long
  each (insn.LoadPool index) is = constant u
  each (insn.Load r k) is = l.loads r k is
  each (insn.Store r k) is = l.stores r k is
  each (insn.Inc k by) is = l.increments k by is
  each insn.Pop is = l.moves (record { takes = 1; gives = [] }) tt
  each insn.Pop2 is = l.moves (record { takes = 2; gives = [] }) tt
  each insn.Dup is = l.moves (record { takes = 1; gives = 0 ∷ 0 ∷ [] }) (omega arith, (omega arith, tt))
  each insn.DupX1 is = l.moves (record { takes = 2; gives = 0 ∷ 1 ∷ 0 ∷ [] }) (omega arith, (omega arith, (omega arith, tt)))
  each insn.DupX2 is = l.moves (record { takes = 3; gives = 0 ∷ 1 ∷ 2 ∷ 0 ∷ [] }) (omega arith, (omega arith, (omega arith, (omega arith, tt))))
  each insn.Dup2 is = l.moves (record { takes = 2; gives = 0 ∷ 1 ∷ 0 ∷ 1 ∷ [] }) (omega arith, (omega arith, (omega arith, (omega arith, tt))))
  each insn.Dup2X1 is =
      l.moves (record { takes = 3; gives = 0 ∷ 1 ∷ 2 ∷ 0 ∷ 1 ∷ [] }) (omega arith, (omega arith, (omega arith, (omega arith, (omega arith, tt)))))
  each insn.Dup2X2 is =
      l.moves (record { takes = 4; gives = 0 ∷ 1 ∷ 2 ∷ 3 ∷ 0 ∷ 1 ∷ [] })
      (omega arith, (omega arith, (omega arith, (omega arith, (omega arith, (omega arith, tt))))))
  each insn.Swap is = l.moves (record { takes = 2; gives = 1 ∷ 0 ∷ [] }) (omega arith, (omega arith, tt))
  each (insn.IfInt test target) is = l.works int_word [] an_int no_words
  each (insn.IfPair test target) is = l.works (int_word ++ int_word) [] two_ints no_words
  each (insn.IfSame same target) is = l.works (object_slot o ∷ object_slot o ∷ []) [] (two_references _) no_words
  each (insn.IfNull null target) is = l.works (object_slot o ∷ []) [] (a_reference _) no_words
  each (insn.Goto target) is = l.kept
  each (insn.Table low others targets) is = l.works int_word [] an_int no_words
  each (insn.Lookup others keys targets) is = l.works int_word [] an_int no_words
  each (insn.Return value) is = returned value (result_of o method)
  each insn.Throw is = l.works (slot.Ref (throwable_type o) ∷ []) [] (a_reference _) no_words
  each (insn.New index) is = l.makes index is
  each (insn.GetStatic index) is = gets_static u
  each (insn.PutStatic index) is = puts_static u
  each (insn.GetField index) is = gets_field u
  each (insn.PutField index) is = puts_a_field u
  each (insn.Cast index) is = casts u
  each (insn.IsA index) is = tests_type u
  each (insn.ArrayLoad e) is = l.loads_element e
  each (insn.ArrayStore e) is = l.stores_element e
  each insn.Length is = l.has_length
  each (insn.NewArray e) is = makes_array e
  each (insn.NewRefs index) is = makes_references u
  each (insn.MultiArray index dimensions) is = makes_arrays u dimensions
  each (insn.Virtual index) is = calls_instance u
  each (insn.Interface index) is = calls_instance u
  each (insn.Special index) is = calls_special index is u
  each (insn.Static index) is = calls_static u
  each (insn.LeftOut opcode) is = l.none
  each j is =
      subst (λ n. A n (λ item news s. worked o (wanted_by j) (given_by j) s)) (sym (takes_wanted 2 (called_words o u) j refl))
      (l.works (wanted_by j) (given_by j) (numbers (numbers_taken j)) (a_number (number_given j)))

  pub each_check_row : A (words_taken 2 (called_words o u) i) (λ item news s. row_after o method item news u i s)
  each_check_row = each i refl
