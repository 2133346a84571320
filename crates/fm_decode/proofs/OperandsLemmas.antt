-- Instructions other than switches are read from as many operand bytes as the table asks for.
use Rattle.std.proofs.Common.{◌≡◌, ℕ, zero, suc, ◌<◌, ◌≤◌, Bool, true, false, ◌==◌, List, [], ◌∷◌, length, take, Option, Some, None, option_and_then, refl, sym, ap, subst, ◌∙◌, arith, inl, inr, ℤ, pos, negsuc, length-take, if◌then◌else◌}
use Rattle.std.specs.List.{slice_index_or}
use Rattle.std.specs.Option.{option_map}
use Rattle.std.proofs.lemmas.Bool.{cases_Bool, cases_lt, eq-eqb, le-leb, lt-leb}
use Rattle.std.proofs.lemmas.Option.{none-some, some_pair_parts}
use Rattle.fm_code.specs.Numbers.{signed_one, number_of_two, signed_two}
use Rattle.fm_code.specs.InstructionTable.{Reading, malformed, bare, byte, two_bytes, short, jump_to, long_jump, left_out, interface_call, array_of_arrays, new_array_of, new_array, wide_local, wide, offset_from}
use Rattle.fm_code.specs.declared.opcodes.TheConstants as opcodes
use Rattle.fm_code.specs.declared.instructions.Insn.{Insn}
use Rattle.fm_code.specs.declared.instructions.Insn.TheVariants as insn
use Rattle.fm_code.proofs.InsnPrefixes.{HasLength, length-bare, length-byte, length-two_bytes, length-long_jump, length-interface_call, length-array_of_arrays, length-new_array, length-left_out, length-wide}
use Rattle.fm_decode.specs.declared.shapes.InsnShape.{InsnShape}
use Rattle.fm_decode.specs.declared.shapes.InsnShape.TheVariants as shape
use Rattle.fm_decode.specs.inner.Shapes.{indexed_insn, jump_insn, shape_reading}
use Rattle.fm_decode.specs.inner.Operands.{Found, wide_local_at, wide_at, long_at, plain_at}

-- what is found is what is read, from the first bytes, and how many they are
pub record IsReadBy (reading : Reading) (found : ℕ → List ℕ → Found) : Type 0 where
  pub takes : (offset : ℕ) (operands : List ℕ) (i : Insn) (n : ℕ) → found offset operands ≡ Some (i, n) → (n ≤ length operands) × (reading offset (take n operands) ≡ Some i)
  pub again : (offset : ℕ) (operands : List ℕ) (i : Insn) (n : ℕ) → n ≤ length operands → reading offset (take n operands) ≡ Some i → found offset operands ≡ Some (i, n)

abbrev pub sized : ℕ → Option Insn → Found
sized n o = option_map {U = Insn × ℕ} (λ i. (i, n)) o

sized_parts : (n : ℕ) (o : Option Insn) (i : Insn) (m : ℕ) → sized n o ≡ Some (i, m) → (o ≡ Some i) × (n ≡ m)
sized_parts n None i m e = absurd cc
sized_parts n (Some j) i m e = let parts = some_pair_parts j i n m e in (ap Some parts.0, parts.1)

and_then_sized : (n : ℕ) (o : Option Insn) → option_and_then {U = Insn × ℕ} (λ i. Some (i, n)) o ≡ sized n o
and_then_sized n None = refl
and_then_sized n (Some i) = refl

-- a reading of a known number of bytes
counted : (count : ℕ) (reading : Reading) (found : ℕ → List ℕ → Found) → HasLength count reading
    → ((offset : ℕ) (operands : List ℕ) → count ≤ length operands → found offset operands ≡ sized count (reading offset (take count operands)))
    → ((offset : ℕ) (operands : List ℕ) → length operands < count → found offset operands ≡ None) → IsReadBy reading found
counted count reading found has_length enough few = record { takes = takes_of; again = again_of } where
  takes_of : (offset : ℕ) (operands : List ℕ) (i : Insn) (n : ℕ) → found offset operands ≡ Some (i, n) → (n ≤ length operands) × (reading offset (take n operands) ≡ Some i)
  takes_of offset operands i n e =
      elim (cases_lt (length operands) count) [
        | inl lt ↦ absurd (none-some (i, n) (sym (few offset operands lt) ∙ e))
        | inr le ↦
            let parts = sized_parts count (reading offset (take count operands)) i n (sym (enough offset operands le) ∙ e) in
            (omega (arith, parts.1), subst (λ (m : ℕ). reading offset (take m operands) ≡ Some i) parts.1 parts.0)
      ]

  again_of : (offset : ℕ) (operands : List ℕ) (i : Insn) (n : ℕ) → n ≤ length operands → reading offset (take n operands) ≡ Some i → found offset operands ≡ Some (i, n)
  again_of offset operands i n within e =
      let size = has_length offset (take n operands) i e in
      let same : n ≡ count = omega (arith, length-take n operands) in
      enough offset operands (omega arith) ∙ ap (sized count) (subst (λ (m : ℕ). reading offset (take m operands) ≡ Some i) same e) ∙ (λ k. Some (i, sym same k))

-- ---- shapes

bare_reads : (i : Insn) → IsReadBy (bare i) (plain_at (shape.Bare i))
unfolding plain_at
bare_reads i = counted 0 (bare i) (plain_at (shape.Bare i)) (length-bare i) enough (λ offset operands few. absurd (omega arith)) where
  enough : (offset : ℕ) (operands : List ℕ) → 0 ≤ length operands → plain_at (shape.Bare i) offset operands ≡ sized 0 (bare i offset (take 0 operands))
  enough offset [] long = refl
  enough offset (a ∷ rest) long = refl

left_out_reads : (opcode count : ℕ) → IsReadBy (left_out opcode count) (plain_at (shape.LeftOut opcode count))
unfolding plain_at
left_out_reads opcode count = counted count (left_out opcode count) (plain_at (shape.LeftOut opcode count)) (length-left_out opcode count) enough few where
  enough : (offset : ℕ) (operands : List ℕ) → count ≤ length operands → plain_at (shape.LeftOut opcode count) offset operands ≡ sized count (left_out opcode count offset (take count operands))
  enough offset operands long =
      let size : length (take count operands) ≡ count = omega (arith, length-take count operands) in
      rw (le-leb count (length operands) long, eq-eqb (length (take count operands)) count size) refl

  few : (offset : ℕ) (operands : List ℕ) → length operands < count → plain_at (shape.LeftOut opcode count) offset operands ≡ None
  few offset operands short = rw (lt-leb count (length operands) short) refl

byte_reads : (f : ℕ → Insn) (found : ℕ → List ℕ → Found) → ((offset a : ℕ) (rest : List ℕ) → found offset (a ∷ rest) ≡ Some (f a, 1)) → ((offset : ℕ) → found offset [] ≡ None) → IsReadBy (byte f) found
byte_reads f found one none = counted 1 (byte f) found (length-byte f) enough few where
  enough : (offset : ℕ) (operands : List ℕ) → 1 ≤ length operands → found offset operands ≡ sized 1 (byte f offset (take 1 operands))
  enough offset [] long = absurd (omega arith)
  enough offset (a ∷ rest) long = one offset a rest

  few : (offset : ℕ) (operands : List ℕ) → length operands < 1 → found offset operands ≡ None
  few offset [] short = none offset
  few offset (a ∷ rest) short = absurd (omega arith)

two_reads : (f : ℕ → ℕ → ℕ → Option Insn) (found : ℕ → List ℕ → Found) → ((offset a b : ℕ) (rest : List ℕ) → found offset (a ∷ b ∷ rest) ≡ sized 2 (f offset a b))
    → ((offset : ℕ) → found offset [] ≡ None) → ((offset a : ℕ) → found offset (a ∷ []) ≡ None) → IsReadBy (λ offset. two_bytes (f offset) offset) found
two_reads f found two none one = counted 2 (λ offset. two_bytes (f offset) offset) found (λ offset. length-two_bytes (f offset) offset) enough few where
  enough : (offset : ℕ) (operands : List ℕ) → 2 ≤ length operands → found offset operands ≡ sized 2 (two_bytes (f offset) offset (take 2 operands))
  enough offset [] long = absurd (omega arith)
  enough offset (a ∷ []) long = absurd (omega arith)
  enough offset (a ∷ b ∷ rest) long = two offset a b rest

  few : (offset : ℕ) (operands : List ℕ) → length operands < 2 → found offset operands ≡ None
  few offset [] short = none offset
  few offset (a ∷ []) short = one offset a
  few offset (a ∷ b ∷ rest) short = absurd (omega arith)

jump_is : (n : ℕ) (f : ℕ → Insn) (z : ℤ) → option_and_then {U = Insn × ℕ} (λ target. Some (f target, n)) (offset_from z) ≡ sized n (jump_to f z)
jump_is n f (pos target) = refl
jump_is n f (negsuc m) = refl

long_jump_reads : IsReadBy (long_jump insn.Goto) (plain_at shape.LongJump)
unfolding plain_at long_at
long_jump_reads = counted 4 (long_jump insn.Goto) (plain_at shape.LongJump) (length-long_jump insn.Goto) enough few where
  enough : (offset : ℕ) (operands : List ℕ) → 4 ≤ length operands → plain_at shape.LongJump offset operands ≡ sized 4 (long_jump insn.Goto offset (take 4 operands))
  enough offset [] long = absurd (omega arith)
  enough offset (a ∷ []) long = absurd (omega arith)
  enough offset (a ∷ b ∷ []) long = absurd (omega arith)
  enough offset (a ∷ b ∷ c ∷ []) long = absurd (omega arith)
  enough offset (a ∷ b ∷ c ∷ d ∷ rest) long = jump_is 4 insn.Goto _

  few : (offset : ℕ) (operands : List ℕ) → length operands < 4 → plain_at shape.LongJump offset operands ≡ None
  few offset [] short = refl
  few offset (a ∷ []) short = refl
  few offset (a ∷ b ∷ []) short = refl
  few offset (a ∷ b ∷ c ∷ []) short = refl
  few offset (a ∷ b ∷ c ∷ d ∷ rest) short = absurd (omega arith)

interface_reads : IsReadBy interface_call (plain_at shape.InterfaceCall)
unfolding plain_at long_at
interface_reads = counted 4 interface_call (plain_at shape.InterfaceCall) length-interface_call enough few where
  enough : (offset : ℕ) (operands : List ℕ) → 4 ≤ length operands → plain_at shape.InterfaceCall offset operands ≡ sized 4 (interface_call offset (take 4 operands))
  enough offset [] long = absurd (omega arith)
  enough offset (a ∷ []) long = absurd (omega arith)
  enough offset (a ∷ b ∷ []) long = absurd (omega arith)
  enough offset (a ∷ b ∷ c ∷ []) long = absurd (omega arith)
  enough offset (a ∷ b ∷ c ∷ zero ∷ rest) long = refl
  enough offset (a ∷ b ∷ c ∷ suc d ∷ rest) long = refl

  few : (offset : ℕ) (operands : List ℕ) → length operands < 4 → plain_at shape.InterfaceCall offset operands ≡ None
  few offset [] short = refl
  few offset (a ∷ []) short = refl
  few offset (a ∷ b ∷ []) short = refl
  few offset (a ∷ b ∷ c ∷ []) short = refl
  few offset (a ∷ b ∷ c ∷ d ∷ rest) short = absurd (omega arith)

new_array_reads : IsReadBy new_array (plain_at shape.NewArray)
unfolding plain_at long_at
new_array_reads = counted 1 new_array (plain_at shape.NewArray) length-new_array enough few where
  enough : (offset : ℕ) (operands : List ℕ) → 1 ≤ length operands → plain_at shape.NewArray offset operands ≡ sized 1 (new_array offset (take 1 operands))
  enough offset [] long = absurd (omega arith)
  enough offset (kind ∷ rest) long = and_then_sized 1 (slice_index_or new_array_of kind None)

  few : (offset : ℕ) (operands : List ℕ) → length operands < 1 → plain_at shape.NewArray offset operands ≡ None
  few offset [] short = refl
  few offset (a ∷ rest) short = absurd (omega arith)

array_of_arrays_reads : IsReadBy array_of_arrays (plain_at shape.ArrayOfArrays)
unfolding plain_at long_at
array_of_arrays_reads = counted 3 array_of_arrays (plain_at shape.ArrayOfArrays) length-array_of_arrays enough few where
  enough : (offset : ℕ) (operands : List ℕ) → 3 ≤ length operands → plain_at shape.ArrayOfArrays offset operands ≡ sized 3 (array_of_arrays offset (take 3 operands))
  enough offset [] long = absurd (omega arith)
  enough offset (a ∷ []) long = absurd (omega arith)
  enough offset (a ∷ b ∷ []) long = absurd (omega arith)
  enough offset (a ∷ b ∷ zero ∷ rest) long = refl
  enough offset (a ∷ b ∷ suc n ∷ rest) long = refl

  few : (offset : ℕ) (operands : List ℕ) → length operands < 3 → plain_at shape.ArrayOfArrays offset operands ≡ None
  few offset [] short = refl
  few offset (a ∷ []) short = refl
  few offset (a ∷ b ∷ []) short = refl
  few offset (a ∷ b ∷ c ∷ rest) short = absurd (omega arith)

-- ---- wide

wide_local-takes : (offset opcode a b : ℕ) (rest : List ℕ) (i : Insn) (n : ℕ) → wide_local_at opcode (number_of_two a b) ≡ Some (i, n)
    → (n ≤ length (opcode ∷ a ∷ b ∷ rest)) × (wide offset (take n (opcode ∷ a ∷ b ∷ rest)) ≡ Some i)
wide_local-takes offset opcode a b rest i n e =
    let parts = sized_parts 3 (wide_local opcode (number_of_two a b)) i n e in
    (omega (arith, parts.1), subst (λ (m : ℕ). wide offset (take m (opcode ∷ a ∷ b ∷ rest)) ≡ Some i) parts.1 parts.0)

wide-takes : (offset : ℕ) (operands : List ℕ) (i : Insn) (n : ℕ) → wide_at operands ≡ Some (i, n) → (n ≤ length operands) × (wide offset (take n operands) ≡ Some i)
wide-takes offset [] i n e = absurd cc
wide-takes offset (opcode ∷ []) i n e = absurd cc
wide-takes offset (opcode ∷ a ∷ []) i n e = absurd cc
wide-takes offset (opcode ∷ a ∷ b ∷ []) i n e = wide_local-takes offset opcode a b [] i n e
wide-takes offset (opcode ∷ a ∷ b ∷ c ∷ []) i n e = wide_local-takes offset opcode a b (c ∷ []) i n e
wide-takes offset (opcode ∷ a ∷ b ∷ c ∷ d ∷ rest) i n e =
    elim (cases_Bool (opcode == opcodes.IINC)) [
      | inl iinc ↦
          let parts = some_pair_parts (insn.Inc (number_of_two a b) (signed_two c d)) i 5 n (rw iinc at e) in
          let read : wide offset (take 5 (opcode ∷ a ∷ b ∷ c ∷ d ∷ rest)) ≡ Some i = rw iinc (ap Some parts.0) in
          (omega (arith, parts.1), subst (λ (m : ℕ). wide offset (take m (opcode ∷ a ∷ b ∷ c ∷ d ∷ rest)) ≡ Some i) parts.1 read)
      | inr other ↦ wide_local-takes offset opcode a b (c ∷ d ∷ rest) i n (rw other at e)
    ]

-- with three bytes, of which the first is no iinc
wide-three : (offset opcode a b : ℕ) (rest : List ℕ) (i : Insn) → (opcode == opcodes.IINC) ≡ false → wide_local opcode (number_of_two a b) ≡ Some i → wide_at (opcode ∷ a ∷ b ∷ rest) ≡ Some (i, 3)
wide-three offset opcode a b [] i other e = ap (sized 3) e
wide-three offset opcode a b (c ∷ []) i other e = ap (sized 3) e
wide-three offset opcode a b (c ∷ d ∷ rest) i other e = rw other (ap (sized 3) e)

wide-again : (offset : ℕ) (operands : List ℕ) (i : Insn) (n : ℕ) → n ≤ length operands → wide offset (take n operands) ≡ Some i → wide_at operands ≡ Some (i, n)
wide-again offset operands i zero within e = absurd cc
wide-again offset [] i (suc m) within e = absurd (omega arith)
wide-again offset (opcode ∷ rest) i (suc m) within e =
    let size = length-wide offset opcode (take m rest) i e in
    elim (cases_Bool (opcode == opcodes.IINC)) [
      | inl iinc ↦
          let four : length (take m rest) ≡ 4 = size ∙ ap (λ (t : Bool). if t then 4 else 2) iinc in
          let same : m ≡ 4 = omega (arith, length-take m rest) in
          long rest iinc (omega arith) (subst (λ (k : ℕ). wide offset (opcode ∷ take k rest) ≡ Some i) same e) ∙ (λ k. Some (i, suc (sym same k)))
      | inr other ↦
          let two : length (take m rest) ≡ 2 = size ∙ ap (λ (t : Bool). if t then 4 else 2) other in
          let same : m ≡ 2 = omega (arith, length-take m rest) in
          narrow rest other (omega arith) (subst (λ (k : ℕ). wide offset (opcode ∷ take k rest) ≡ Some i) same e) ∙ (λ k. Some (i, suc (sym same k)))
    ] where
      long : (bytes : List ℕ) → (opcode == opcodes.IINC) ≡ true → 4 ≤ length bytes → wide offset (opcode ∷ take 4 bytes) ≡ Some i → wide_at (opcode ∷ bytes) ≡ Some (i, 5)
      long [] iinc enough read = absurd (omega arith)
      long (a ∷ []) iinc enough read = absurd (omega arith)
      long (a ∷ b ∷ []) iinc enough read = absurd (omega arith)
      long (a ∷ b ∷ c ∷ []) iinc enough read = absurd (omega arith)
      long (a ∷ b ∷ c ∷ d ∷ more) iinc enough read = rw iinc (ap (sized 5) (rw iinc at read))

      narrow : (bytes : List ℕ) → (opcode == opcodes.IINC) ≡ false → 2 ≤ length bytes → wide offset (opcode ∷ take 2 bytes) ≡ Some i → wide_at (opcode ∷ bytes) ≡ Some (i, 3)
      narrow [] other enough read = absurd (omega arith)
      narrow (a ∷ []) other enough read = absurd (omega arith)
      narrow (a ∷ b ∷ more) other enough read = wide-three offset opcode a b more i other read

wide_reads : IsReadBy wide (plain_at shape.Wide)
unfolding plain_at long_at
wide_reads = record { takes = λ offset operands. wide-takes offset operands; again = λ offset operands. wide-again offset operands }

-- ---- all of them

unknown_reads : IsReadBy malformed (plain_at shape.Unknown)
unfolding plain_at long_at
unknown_reads = record { takes = λ offset operands i n e. absurd cc; again = λ offset operands i n within e. absurd cc }

pub plain_reads : (s : InsnShape) → (s ≡ shape.TableSwitch → ⊥) → (s ≡ shape.LookupSwitch → ⊥) → IsReadBy (shape_reading s) (plain_at s)
unfolding plain_at
plain_reads shape.Unknown table lookup = unknown_reads
plain_reads (shape.Bare i) table lookup = bare_reads i
plain_reads (shape.LeftOut opcode count) table lookup = left_out_reads opcode count
plain_reads (shape.Byte i) table lookup = byte_reads (indexed_insn i) _ (λ offset a rest. refl) (λ offset. refl)
plain_reads (shape.Short i) table lookup =
    two_reads (λ offset a b. Some (indexed_insn i (number_of_two a b))) _ (λ offset a b rest. refl) (λ offset. refl) (λ offset a. refl)
plain_reads shape.SignedByte table lookup = byte_reads (λ a. insn.Const (signed_one a)) _ (λ offset a rest. refl) (λ offset. refl)
plain_reads shape.SignedShort table lookup =
    two_reads (λ offset a b. Some (insn.Const (signed_two a b))) _ (λ offset a b rest. refl) (λ offset. refl) (λ offset a. refl)
plain_reads shape.Increment table lookup =
    two_reads (λ offset a b. Some (insn.Inc a (signed_one b))) _ (λ offset a b rest. refl) (λ offset. refl) (λ offset a. refl)
plain_reads (shape.Jump b) table lookup =
    two_reads _ (plain_at (shape.Jump b)) (λ offset a c rest. jump_is 2 (jump_insn b) _) (λ offset. refl) (λ offset a. refl)
plain_reads shape.LongJump table lookup = long_jump_reads
plain_reads shape.InterfaceCall table lookup = interface_reads
plain_reads shape.NewArray table lookup = new_array_reads
plain_reads shape.ArrayOfArrays table lookup = array_of_arrays_reads
plain_reads shape.Wide table lookup = wide_reads
plain_reads shape.TableSwitch table lookup = absurd (table refl)
plain_reads shape.LookupSwitch table lookup = absurd (lookup refl)
