-- The bytes of an instruction determine where it ends.
use Rattle.std.proofs.Common.{◌≡◌, ℕ, zero, suc, ◌*◌, ◌<◌, ◌≤◌, Bool, true, false, ltb, ◌==◌, List, [], ◌∷◌, ◌++◌, map, length, drop, Option, Some, None, option_and_then, refl, ap, sym, ◌∙◌, arith, ℤ, pos, negsuc, ◌+ℤ◌, ◌-ℤ◌, if◌then◌else◌}
use Rattle.std.proofs.lemmas.Bool.{eqb-true, ltb-false, and_parts}
use Rattle.std.proofs.lemmas.List.{drop-append-le, length-drop}
use Rattle.std.specs.List.{AllByRecursion}
use Rattle.std.specs.Option.{option_map}
use Rattle.fm_code.specs.Numbers.{number_of_two}
use Rattle.fm_code.specs.InstructionTable.{Reading, malformed, bare, byte, two_bytes, short, signed_short, jump, long_jump, left_out, increment, interface_call, array_of_arrays, new_array, wide_local, wide, padding_at, signed_fours, is_number, table_switch, pairs_of, lookup_switch, switch, constants_and_loads, stores_and_stack, arithmetic, control_and_objects, Row, rows, reading_of, insn_at}
use Rattle.fm_code.specs.declared.instructions.Insn.{Insn}
use Rattle.fm_base.proofs.ListFacts.{AllByRecursion-append, AllByRecursion-get_or}
use Rattle.fm_code.proofs.Prefixes.{split_same}

-- what holds of each image
All-mapped : {X Y : Type 0} (P : Y → Type 0) (f : X → Y) (xs : List X) → AllByRecursion (λ (x : X). P (f x)) xs → AllByRecursion P (map f xs)
All-mapped P f [] all = tt
All-mapped P f (x ∷ xs) all = (all.0, All-mapped P f xs all.1)

-- operands in front of other bytes are determined by the bytes alone
abbrev pub TellsEnd : Reading → Type 0
TellsEnd read = (offset : ℕ) (x y r s : List ℕ) (i j : Insn) → read offset x ≡ Some i → read offset y ≡ Some j → x ++ r ≡ y ++ s → x ≡ y

-- each instruction that is read has a given number of operand bytes
abbrev pub HasLength : ℕ → Reading → Type 0
HasLength n read = (offset : ℕ) (x : List ℕ) (i : Insn) → read offset x ≡ Some i → length x ≡ n

-- a known number of operand bytes determines the end
TellsEnd-length : (n : ℕ) (read : Reading) → HasLength n read → TellsEnd read
TellsEnd-length n read has_length offset x y r s i j x_read y_read e =
    (split_same x y r s (has_length offset x i x_read ∙ sym (has_length offset y j y_read)) e).0

-- ---- a known number of operand bytes

TellsEnd-malformed : TellsEnd malformed
TellsEnd-malformed offset x y r s i j x_read y_read e = cc

pub length-bare : (i : Insn) → HasLength 0 (bare i)
length-bare i offset [] j e = refl
length-bare i offset (a ∷ rest) j e = cc

TellsEnd-bare : (i : Insn) → TellsEnd (bare i)
TellsEnd-bare i = TellsEnd-length 0 (bare i) (length-bare i)

pub length-byte : (f : ℕ → Insn) → HasLength 1 (byte f)
length-byte f offset [] j e = cc
length-byte f offset (a ∷ []) j e = refl
length-byte f offset (a ∷ b ∷ rest) j e = cc

TellsEnd-byte : (f : ℕ → Insn) → TellsEnd (byte f)
TellsEnd-byte f = TellsEnd-length 1 (byte f) (length-byte f)

pub length-two_bytes : (f : ℕ → ℕ → Option Insn) → HasLength 2 (two_bytes f)
length-two_bytes f offset [] j e = cc
length-two_bytes f offset (a ∷ []) j e = cc
length-two_bytes f offset (a ∷ b ∷ []) j e = refl
length-two_bytes f offset (a ∷ b ∷ c ∷ rest) j e = cc

TellsEnd-short : (f : ℕ → Insn) → TellsEnd (short f)
TellsEnd-short f = TellsEnd-length 2 (short f) (length-two_bytes _)

TellsEnd-signed_short : (f : ℤ → Insn) → TellsEnd (signed_short f)
TellsEnd-signed_short f = TellsEnd-length 2 (signed_short f) (length-two_bytes _)

TellsEnd-jump : (f : ℕ → Insn) → TellsEnd (jump f)
TellsEnd-jump f = TellsEnd-length 2 (jump f) (λ offset. length-two_bytes _ offset)

TellsEnd-increment : TellsEnd increment
TellsEnd-increment = TellsEnd-length 2 increment (length-two_bytes _)

pub length-long_jump : (f : ℕ → Insn) → HasLength 4 (long_jump f)
length-long_jump f offset (a ∷ b ∷ c ∷ d ∷ []) j e = refl
length-long_jump f offset operands j e = cc

TellsEnd-long_jump : (f : ℕ → Insn) → TellsEnd (long_jump f)
TellsEnd-long_jump f = TellsEnd-length 4 (long_jump f) (length-long_jump f)

pub length-interface_call : HasLength 4 interface_call
length-interface_call offset (a ∷ b ∷ count ∷ zero ∷ []) j e = refl
length-interface_call offset operands j e = cc

TellsEnd-interface_call : TellsEnd interface_call
TellsEnd-interface_call = TellsEnd-length 4 interface_call length-interface_call

pub length-array_of_arrays : HasLength 3 array_of_arrays
length-array_of_arrays offset (a ∷ b ∷ suc dimensions ∷ []) j e = refl
length-array_of_arrays offset operands j e = cc

TellsEnd-array_of_arrays : TellsEnd array_of_arrays
TellsEnd-array_of_arrays = TellsEnd-length 3 array_of_arrays length-array_of_arrays

pub length-new_array : HasLength 1 new_array
length-new_array offset [] j e = cc
length-new_array offset (kind ∷ []) j e = refl
length-new_array offset (a ∷ b ∷ rest) j e = cc

TellsEnd-new_array : TellsEnd new_array
TellsEnd-new_array = TellsEnd-length 1 new_array length-new_array

-- a choice that gives something takes its first branch
pub cond_some : {X : Type 0} (t : Bool) (o : Option X) (x : X) → (if t then o else None) ≡ Some x → (t ≡ true) × (o ≡ Some x)
cond_some true o x e = (refl, e)
cond_some false o x e = cc

pub length-left_out : (opcode count : ℕ) → HasLength count (left_out opcode count)
length-left_out opcode count offset x j e = eqb-true (length x) count (cond_some (length x == count) _ j e).0

TellsEnd-left_out : (opcode count : ℕ) → TellsEnd (left_out opcode count)
TellsEnd-left_out opcode count = TellsEnd-length count (left_out opcode count) (length-left_out opcode count)

-- ---- a wide instruction, whose second opcode determines its length

-- iinc isn't among the wide loads and stores
wide_local_is : (opcode index : ℕ) (i : Insn) → wide_local opcode index ≡ Some i → (opcode == 132) ≡ false
wide_local_is opcode index i e =
    go (opcode == 132) refl where
      go : (t : Bool) → (opcode == 132) ≡ t → (opcode == 132) ≡ false
      go true is = let none : wide_local 132 index ≡ Some i = ap (λ (n : ℕ). wide_local n index) (sym (eqb-true opcode 132 is)) ∙ e in cc
      go false is = is

-- two bytes follow the second opcode, or four after iinc
pub length-wide : (offset opcode : ℕ) (rest : List ℕ) (i : Insn) → wide offset (opcode ∷ rest) ≡ Some i → length rest ≡ (if opcode == 132 then 4 else 2)
length-wide offset opcode (a ∷ b ∷ []) i e =
    sym (ap (λ (t : Bool). if t then 4 else 2) (wide_local_is opcode (number_of_two a b) i e))
length-wide offset opcode (a ∷ b ∷ c ∷ d ∷ []) i e = sym (ap (λ (t : Bool). if t then 4 else 2) (cond_some (opcode == 132) _ i e).0)
length-wide offset opcode rest i e = cc

-- so its first byte determines its end
TellsEnd-wide : TellsEnd wide
TellsEnd-wide offset [] y r s i j x_read y_read e = cc
TellsEnd-wide offset (a ∷ x) [] r s i j x_read y_read e = cc
TellsEnd-wide offset (a ∷ x) (b ∷ y) r s i j x_read y_read e =
    let first : a ≡ b = cc in
    let same : length (a ∷ x) ≡ length (b ∷ y) =
    ap suc (length-wide offset a x i x_read ∙ ap (λ (n : ℕ). if n == 132 then 4 else 2) first ∙ sym (length-wide offset b y j y_read)) in
    (split_same (a ∷ x) (b ∷ y) r s same e).0

-- ---- switches, whose first numbers determine how many follow

-- where both lists have a number it is the same
abbrev AgreeSoFar : List ℤ → List ℤ → Type 0
AgreeSoFar [] ws = Unit {0}
AgreeSoFar (z ∷ zs) [] = Unit {0}
AgreeSoFar (z ∷ zs) (w ∷ ws) = (z ≡ w) × AgreeSoFar zs ws

-- numbers in front of others determine how many there are
abbrev TellsCount : (ℕ → List ℤ → Option Insn) → Type 0
TellsCount f = (offset : ℕ) (zs ws : List ℤ) (i j : Insn) → f offset zs ≡ Some i → f offset ws ≡ Some j → AgreeSoFar zs ws → length zs ≡ length ws

-- what gives something began with something
pub and_then_some : {X Y : Type 0} (f : X → Option Y) (o : Option X) (y : Y) → option_and_then f o ≡ Some y → (x : X) × ((o ≡ Some x) × (f x ≡ Some y))
and_then_some f None y e = cc
and_then_some f (Some x) y e = (x, (refl, e))

-- the same for a function of what was there
pub map_some : {X Y : Type 0} (f : X → Y) (o : Option X) (y : Y) → option_map f o ≡ Some y → (x : X) × ((o ≡ Some x) × (f x ≡ y))
map_some f None y e = cc
map_some f (Some x) y e = (x, (refl, cc))

-- the number that is that natural one
pub is_number_pos : (z : ℤ) (k : ℕ) → is_number z k ≡ true → z ≡ pos k
is_number_pos (pos n) k e = ap pos (eqb-true n k e)
is_number_pos (negsuc n) k e = cc

-- a number is one natural number only
same_number : (z : ℤ) (k l : ℕ) → is_number z k ≡ true → is_number z l ≡ true → k ≡ l
same_number z k l first second = let e : pos k ≡ pos l = sym (is_number_pos z k first) ∙ is_number_pos z l second in cc

-- a tableswitch has as many jumps as its keys
TellsCount-table : TellsCount table_switch
TellsCount-table offset (others ∷ low ∷ high ∷ jumps) (others' ∷ low' ∷ high' ∷ jumps') i j first second (_, (same_low, (same_high, _))) =
    let here = and_parts _ _ (cond_some _ _ i first).0 in
    let there = and_parts _ _ (cond_some _ _ j second).0 in
    let count : is_number ((high -ℤ low) +ℤ pos 1) (length jumps') ≡ true =
    ap (λ (z : ℤ). is_number ((high -ℤ z) +ℤ pos 1) (length jumps')) same_low
    ∙ ap (λ (z : ℤ). is_number ((z -ℤ low') +ℤ pos 1) (length jumps')) same_high ∙ there.1 in
    ap (λ (n : ℕ). suc (suc (suc n))) (same_number _ (length jumps) (length jumps') here.1 count)
TellsCount-table offset zs ws i j first second agree = cc

-- two numbers for each pair
pub length-pairs_of : (numbers : List ℤ) (p : List ℤ × List ℤ) → pairs_of numbers ≡ Some p → length numbers ≡ 2 * length p.0
length-pairs_of [] p e = let none : p ≡ ([], []) = cc in ap (λ (q : List ℤ × List ℤ). 2 * length q.0) (sym none)
length-pairs_of (key ∷ []) p e = cc
length-pairs_of (key ∷ jump ∷ rest) p e =
    let (q, (rest_is, p_is)) = map_some _ (pairs_of rest) p e in
    let shorter = length-pairs_of rest q rest_is in
    let keys : suc (length q.0) ≡ length p.0 = ap (λ (u : List ℤ × List ℤ). length u.0) p_is in
    omega arith

-- a lookupswitch has as many pairs as it counts
TellsCount-lookup : TellsCount lookup_switch
TellsCount-lookup offset (others ∷ count ∷ numbers) (others' ∷ count' ∷ numbers') i j first second (_, (same_count, _)) =
    let (p, (p_is, here)) = and_then_some _ (pairs_of numbers) i first in
    let (q, (q_is, there)) = and_then_some _ (pairs_of numbers') j second in
    let keys : is_number count (length p.0) ≡ true = (and_parts _ _ (cond_some _ _ i here).0).0 in
    let keys' : is_number count' (length q.0) ≡ true = (and_parts _ _ (cond_some _ _ j there).0).0 in
    let same : length p.0 ≡ length q.0 = same_number count (length p.0) (length q.0) keys (ap (λ (z : ℤ). is_number z (length q.0)) same_count ∙ keys') in
    let long = length-pairs_of numbers p p_is in
    let long' = length-pairs_of numbers' q q_is in
    omega arith
TellsCount-lookup offset zs ws i j first second agree = cc

-- four bytes for each number
pub length-signed_fours : (x : List ℕ) (zs : List ℤ) → signed_fours x ≡ Some zs → length x ≡ 4 * length zs
length-signed_fours [] zs e = let none : zs ≡ [] = cc in ap (λ (us : List ℤ). 4 * length us) (sym none)
length-signed_fours (a ∷ []) zs e = cc
length-signed_fours (a ∷ b ∷ []) zs e = cc
length-signed_fours (a ∷ b ∷ c ∷ []) zs e = cc
length-signed_fours (a ∷ b ∷ c ∷ d ∷ rest) zs e =
    let (us, (rest_is, zs_is)) = map_some _ (signed_fours rest) zs e in
    let shorter = length-signed_fours rest us rest_is in
    let numbers : suc (length us) ≡ length zs = ap length zs_is in
    omega arith

-- numbers that are read from the same bytes agree as far as both go
AgreeSoFar-signed_fours : (x y r s : List ℕ) (zs ws : List ℤ) → signed_fours x ≡ Some zs → signed_fours y ≡ Some ws → x ++ r ≡ y ++ s → AgreeSoFar zs ws
AgreeSoFar-signed_fours x y r s [] ws x_is y_is e = tt
AgreeSoFar-signed_fours x y r s (z ∷ zs) [] x_is y_is e = tt
AgreeSoFar-signed_fours (a ∷ b ∷ c ∷ d ∷ x) (a' ∷ b' ∷ c' ∷ d' ∷ y) r s (z ∷ zs) (w ∷ ws) x_is y_is e =
    let (us, (x_rest, zs_is)) = map_some _ (signed_fours x) (z ∷ zs) x_is in
    let (vs, (y_rest, ws_is)) = map_some _ (signed_fours y) (w ∷ ws) y_is in
    let first : z ≡ w = cc in
    let us_is : us ≡ zs = cc in
    let vs_is : vs ≡ ws = cc in
    let rest : x ++ r ≡ y ++ s = cc in
    (first, AgreeSoFar-signed_fours x y r s zs ws (x_rest ∙ ap Some us_is) (y_rest ∙ ap Some vs_is) rest)
AgreeSoFar-signed_fours x y r s (z ∷ zs) (w ∷ ws) x_is y_is e = cc

-- the padding is there, and after it numbers of four bytes
pub switch_is : (f : ℕ → List ℤ → Option Insn) (offset : ℕ) (x : List ℕ) (i : Insn) → switch f offset x ≡ Some i →
    (padding_at offset ≤ length x) × ((zs : List ℤ) × ((signed_fours (drop (padding_at offset) x) ≡ Some zs) × (f offset zs ≡ Some i)))
switch_is f offset x i e = go (ltb (length x) (padding_at offset)) refl e where
  go : (t : Bool) → ltb (length x) (padding_at offset) ≡ t →
      (if t then None else option_and_then (f offset) (signed_fours (drop (padding_at offset) x))) ≡ Some i →
      (padding_at offset ≤ length x) × ((zs : List ℤ) × ((signed_fours (drop (padding_at offset) x) ≡ Some zs) × (f offset zs ≡ Some i)))
  go true is h = cc
  go false is h = (ltb-false (length x) (padding_at offset) is, and_then_some (f offset) (signed_fours (drop (padding_at offset) x)) i h)

-- a switch determines its end if its numbers determine their count
TellsEnd-switch : (f : ℕ → List ℤ → Option Insn) → TellsCount f → TellsEnd (switch f)
TellsEnd-switch f tells_count offset x y r s i j x_read y_read e =
    let pad = padding_at offset in
    let (x_long, (zs, (zs_are, first))) = switch_is f offset x i x_read in
    let (y_long, (ws, (ws_are, second))) = switch_is f offset y j y_read in
    let rest : drop pad x ++ r ≡ drop pad y ++ s = sym (drop-append-le pad x r x_long) ∙ ap (drop pad) e ∙ drop-append-le pad y s y_long in
    let count = tells_count offset zs ws i j first second (AgreeSoFar-signed_fours (drop pad x) (drop pad y) r s zs ws zs_are ws_are rest) in
    let x_numbers = length-signed_fours (drop pad x) zs zs_are in
    let y_numbers = length-signed_fours (drop pad y) ws ws_are in
    let x_size = length-drop pad x in
    let y_size = length-drop pad y in
    (split_same x y r s (omega arith) e).0

TellsEnd-table : TellsEnd (switch table_switch)
TellsEnd-table = TellsEnd-switch table_switch TellsCount-table

TellsEnd-lookup : TellsEnd (switch lookup_switch)
TellsEnd-lookup = TellsEnd-switch lookup_switch TellsCount-lookup

-- ---- the table

-- what a row reads is determined by the bytes alone
abbrev RowTellsEnd : Row → Type 0
RowTellsEnd row = TellsEnd row.1

TellsEnd-constants_and_loads : AllByRecursion RowTellsEnd constants_and_loads
TellsEnd-constants_and_loads = search (TellsEnd-bare, TellsEnd-left_out, TellsEnd-byte, TellsEnd-short, TellsEnd-signed_short)

TellsEnd-stores_and_stack : AllByRecursion RowTellsEnd stores_and_stack
TellsEnd-stores_and_stack = search (TellsEnd-bare, TellsEnd-left_out, TellsEnd-byte)

TellsEnd-arithmetic : AllByRecursion RowTellsEnd arithmetic
TellsEnd-arithmetic = search (TellsEnd-bare, TellsEnd-left_out, TellsEnd-increment)

TellsEnd-control_and_objects : AllByRecursion RowTellsEnd control_and_objects
TellsEnd-control_and_objects =
    search (TellsEnd-bare, TellsEnd-left_out, TellsEnd-short, TellsEnd-jump, TellsEnd-long_jump, TellsEnd-table, TellsEnd-lookup, TellsEnd-interface_call, TellsEnd-new_array, TellsEnd-wide, TellsEnd-array_of_arrays)

-- each row of the table determines its end
TellsEnd-rows : AllByRecursion RowTellsEnd rows
TellsEnd-rows =
    AllByRecursion-append RowTellsEnd ((constants_and_loads ++ stores_and_stack) ++ arithmetic) control_and_objects
    (AllByRecursion-append RowTellsEnd (constants_and_loads ++ stores_and_stack) arithmetic
    (AllByRecursion-append RowTellsEnd constants_and_loads stores_and_stack TellsEnd-constants_and_loads TellsEnd-stores_and_stack) TellsEnd-arithmetic)
    TellsEnd-control_and_objects

TellsEnd-reading_of : (opcode : ℕ) → TellsEnd (reading_of opcode)
TellsEnd-reading_of opcode = AllByRecursion-get_or TellsEnd (map (λ (row : Row). row.1) rows) malformed (All-mapped TellsEnd (λ (row : Row). row.1) rows TellsEnd-rows) TellsEnd-malformed opcode

-- an instruction in front of other bytes is determined by the bytes alone
pub insn_at_tells_end : TellsEnd insn_at
unfolding insn_at
insn_at_tells_end offset [] y r s i j x_read y_read e = cc
insn_at_tells_end offset (a ∷ x) [] r s i j x_read y_read e = cc
insn_at_tells_end offset (a ∷ x) (b ∷ y) r s i j x_read y_read e =
    let first : a ≡ b = cc in
    let rest : x ++ r ≡ y ++ s = cc in
    let y_read' : (reading_of a) offset y ≡ Some j = ap (λ (n : ℕ). (reading_of n) offset y) first ∙ y_read in
    let operands : x ≡ y = TellsEnd-reading_of a offset x y r s i j x_read y_read' rest in
    λ k. first k ∷ operands k

-- an instruction has at least its opcode
pub insn_at_not_empty : (offset : ℕ) (x : List ℕ) (i : Insn) → insn_at offset x ≡ Some i → 0 < length x
unfolding insn_at
insn_at_not_empty offset [] i e = cc
insn_at_not_empty offset (a ∷ x) i e = omega arith
