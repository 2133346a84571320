-- The bytes of laid switches are read as the switches.
use Rattle.std.proofs.Common.{◌≡◌, ℕ, zero, suc, ◌+◌, ◌-◌, ◌*◌, ◌<◌, ◌≤◌, ◌&&◌, ◌⊎◌, inl, inr, Bool, true, false, List, [], ◌∷◌, ◌++◌, map, length, take, drop, refl, sym, ap, subst, ◌∙◌, arith, if◌then◌else◌, Option, Some, None, option_and_then, pos, length-append}
use Rattle.std.specs.Prelude.{ℤ, ◌+ℤ◌, ◌-ℤ◌, int_le, nat_lt, slice_index, FitsSigned}
use Rattle.std.specs.Int.{w32}
use Rattle.std.specs.List.{AllByRecursion, flat_map}
use Rattle.std.specs.Option.{option_map}
use Rattle.std.proofs.lemmas.Bool.{le-ltb, ltb-true, ltb-false}
use Rattle.std.proofs.lemmas.Int.{ints}
use Rattle.std.proofs.lemmas.List.{drop-drop, drop-append-le, length-take, length-take-le, length-drop, drop_all}
use Rattle.fm_code.proofs.Bytes.{length-signed_four, AreBytes-drop}
use Rattle.fm_code.proofs.InsnPrefixes.{and_then_some, map_some, switch_is, length-signed_fours, length-pairs_of}
use Rattle.fm_code.specs.Fits.{AreBytes}
use Rattle.fm_code.specs.InstructionTable.{insn_at, padding_at, reading_of, switch, table_switch, lookup_switch, signed_fours, offset_from, offsets_from, is_number, are_rising, pairs_of}
use Rattle.fm_code.specs.Numbers.{signed_four, signed_four_of, number_of_four}
use Rattle.fm_code.specs.ClassBytes.{offset_in}
use Rattle.fm_code.specs.SpellsCode.{ItemIsSpelled, with_targets}
use Rattle.fm_code.specs.declared.code_array.Item.{Item}
use Rattle.fm_code.specs.declared.instructions.Insn.{Insn}
use Rattle.fm_code.specs.declared.instructions.Insn.TheVariants as insn
use Rattle.fm_layout.specs.Conditions.{IsSameButTargets}
use Rattle.fm_layout.specs.Spelling.{distance, jump_bytes, pair_bytes, old_padding, new_padding, switch_head, table_bytes, lookup_bytes}
use Rattle.fm_layout.specs.inner.Weights.{AreOffsetsWithin}
use Rattle.fm_layout.proofs.NumbersLemmas.{four_reads, distance_fits, distance_back}
use Rattle.fm_layout.proofs.StillLemmas.{table_parts, lookup_parts}
use Rattle.fm_layout.proofs.SwitchRows.{switch_known}

-- ---- numbers of four bytes

-- bytes that are read as a number and further ones
record FirstFour (y : List ℕ) (z : ℤ) (zs : List ℤ) : Type 0 where
  a : ℕ
  b : ℕ
  c : ℕ
  d : ℕ
  rest : List ℕ
  bytes_are : y ≡ a ∷ b ∷ c ∷ d ∷ rest
  first : signed_four_of a b c d ≡ z
  others : signed_fours rest ≡ Some zs

first_four : (y : List ℕ) (z : ℤ) (zs : List ℤ) → signed_fours y ≡ Some (z ∷ zs) → FirstFour y z zs
first_four [] z zs e = cc
first_four (a ∷ []) z zs e = cc
first_four (a ∷ b ∷ []) z zs e = cc
first_four (a ∷ b ∷ c ∷ []) z zs e = cc
first_four (a ∷ b ∷ c ∷ d ∷ y) z zs e =
    let (ws, (ws_are, whole)) = map_some (λ ws. signed_four_of a b c d ∷ ws) (signed_fours y) (z ∷ zs) e in
    let head : signed_four_of a b c d ≡ z = cc in
    let tail : ws ≡ zs = cc in
    record { a = a; b = b; c = c; d = d; rest = y; bytes_are = refl; first = head; others = ws_are ∙ ap (λ xs. Some xs) tail }

-- a number that is spelled, and what is read after it
fours_more : (z : ℤ) (y : List ℕ) (zs : List ℤ) → FitsSigned w32 z → signed_fours y ≡ Some zs → signed_fours (signed_four z ++ y) ≡ Some (z ∷ zs)
fours_more z y zs fits rest =
    let read = four_reads z fits in
    ap (λ bytes. signed_fours (bytes ++ y)) read.bytes_are ∙ ap (λ o. option_map (λ ws. signed_four_of read.a read.b read.c read.d ∷ ws) o) rest
    ∙ ap (λ w. Some (w ∷ zs)) read.reads

jump_fits : (starts : List ℕ) (start target : ℕ) → start ≤ 65535 → AreOffsetsWithin starts → FitsSigned w32 (distance start (slice_index starts target))
jump_fits starts start target near within = distance_fits start (slice_index starts target) near (within target)

-- the distance of a target
abbrev away : List ℕ → ℕ → ℕ → ℤ
away starts start target = distance start (slice_index starts target)

fours_jumps : (starts : List ℕ) (start : ℕ) (targets : List ℕ) → start ≤ 65535 → AreOffsetsWithin starts
    → signed_fours (flat_map (jump_bytes starts start) targets) ≡ Some (map (away starts start) targets)
fours_jumps starts start [] near within = refl
fours_jumps starts start (target ∷ targets) near within =
    fours_more (away starts start target) (flat_map (jump_bytes starts start) targets) (map (away starts start) targets) (jump_fits starts start target near within)
    (fours_jumps starts start targets near within)

-- distances are read as the offsets of the targets
offsets_back : (starts : List ℕ) (start : ℕ) (targets : List ℕ) → offsets_from start (map (away starts start) targets) ≡ Some (map (slice_index starts) targets)
offsets_back starts start [] = refl
offsets_back starts start (target ∷ targets) =
    ap (λ z. option_and_then (λ t. option_map (λ ts. t ∷ ts) (offsets_from start (map (away starts start) targets))) (offset_from z)) (distance_back start (slice_index starts target))
    ∙ ap (λ o. option_map (λ ts. slice_index starts target ∷ ts) o) (offsets_back starts start targets)

length-offsets_from : (offset : ℕ) (zs : List ℤ) (targets : List ℕ) → offsets_from offset zs ≡ Some targets → length targets ≡ length zs
length-offsets_from offset [] [] e = refl
length-offsets_from offset [] (t ∷ targets) e = cc
length-offsets_from offset (z ∷ zs) targets e =
    let (t, (t_is, mapped)) = and_then_some (λ t. option_map (λ ts. t ∷ ts) (offsets_from offset zs)) (offset_from (pos offset +ℤ z)) targets e in
    let (ts, (ts_are, whole)) = map_some (λ ts. t ∷ ts) (offsets_from offset zs) targets mapped in
    sym (ap length whole) ∙ ap suc (length-offsets_from offset zs ts ts_are)

length-map-of : {X Y : Type 0} (f : X → Y) (xs : List X) → length (map f xs) ≡ length xs
length-map-of f [] = refl
length-map-of f (x ∷ xs) = ap suc (length-map-of f xs)

-- ---- padding

padding-le : (o : ℕ) → padding_at o ≤ 3
padding-le o = omega arith

length-new_padding : (start : ℕ) (kept : Option Item) → length (new_padding start kept) ≡ padding_at start
length-new_padding start kept =
    let size = length-append (old_padding kept) (0 ∷ 0 ∷ 0 ∷ []) in
    let few = padding-le start in
    omega (arith, length-take (padding_at start) (old_padding kept ++ 0 ∷ 0 ∷ 0 ∷ []))

-- what follows the padding is read
padded : (f : ℕ → List ℤ → Option Insn) (start : ℕ) (padding rest : List ℕ) (zs : List ℤ) → length padding ≡ padding_at start → signed_fours rest ≡ Some zs
    → switch f start (padding ++ rest) ≡ f start zs
padded f start padding rest zs size read =
    let long : padding_at start ≤ length (padding ++ rest) = omega (arith, length-append padding rest) in
    let all : drop (padding_at start) padding ≡ [] = drop_all (padding_at start) padding (omega arith) in
    let left : drop (padding_at start) (padding ++ rest) ≡ rest = drop-append-le (padding_at start) padding rest (omega arith) ∙ ap (λ l. l ++ rest) all in
    let first : switch f start (padding ++ rest) ≡ option_and_then (f start) (signed_fours (drop (padding_at start) (padding ++ rest))) = rw (le-ltb (length (padding ++ rest)) (padding_at start) long) refl in
    first ∙ ap (λ l. option_and_then (f start) (signed_fours l)) left ∙ ap (λ o. option_and_then (f start) o) read

-- ---- old switches

-- an old switch: its opcode, and the numbers after its padding
pub record OldSwitch (item : Item) (f : ℕ → List ℤ → Option Insn) (i : Insn) : Type 0 where
  pub opcode : ℕ
  pub operands : List ℕ
  bytes_are : item.bytes ≡ opcode ∷ operands
  long : padding_at item.offset ≤ length operands
  numbers : List ℤ
  numbers_are : signed_fours (drop (padding_at item.offset) operands) ≡ Some numbers
  made : f item.offset numbers ≡ Some i

old_switch : (item : Item) (f : ℕ → List ℤ → Option Insn) (i : Insn) (opcode : ℕ) (operands : List ℕ) → item.bytes ≡ opcode ∷ operands
    → switch f item.offset operands ≡ Some i → OldSwitch item f i
old_switch item f i opcode operands bytes_are read =
    let (long, (numbers, (numbers_are, made))) = switch_is f item.offset operands i read in
    record { opcode = opcode; operands = operands; bytes_are = bytes_are; long = long; numbers = numbers; numbers_are = numbers_are; made = made }

old_table : (item : Item) (low : ℤ) (others : ℕ) (targets : List ℕ) → insn_at item.offset item.bytes ≡ Some (insn.Table low others targets)
    → OldSwitch item table_switch (insn.Table low others targets)
unfolding insn_at
old_table item low others targets e = go item.bytes refl e where
  go : (bytes : List ℕ) → item.bytes ≡ bytes → insn_at item.offset bytes ≡ Some (insn.Table low others targets) → OldSwitch item table_switch (insn.Table low others targets)
  go [] is read = cc
  go (opcode ∷ operands) is read = which (switch_known opcode item.offset operands (insn.Table low others targets) read refl) where
    which : (reading_of opcode ≡ switch table_switch) ⊎ (reading_of opcode ≡ switch lookup_switch) → OldSwitch item table_switch (insn.Table low others targets)
    which (inl same) = old_switch item table_switch (insn.Table low others targets) opcode operands is ((λ k. sym same k item.offset operands) ∙ read)
    which (inr same) =
        let found = old_switch item lookup_switch (insn.Table low others targets) opcode operands is ((λ k. sym same k item.offset operands) ∙ read) in
        let parts = lookup_parts item.offset found.numbers (insn.Table low others targets) found.made in
        let whole = parts.whole in
        cc

old_lookup : (item : Item) (others : ℕ) (keys : List ℤ) (targets : List ℕ) → insn_at item.offset item.bytes ≡ Some (insn.Lookup others keys targets)
    → OldSwitch item lookup_switch (insn.Lookup others keys targets)
unfolding insn_at
old_lookup item others keys targets e = go item.bytes refl e where
  go : (bytes : List ℕ) → item.bytes ≡ bytes → insn_at item.offset bytes ≡ Some (insn.Lookup others keys targets) → OldSwitch item lookup_switch (insn.Lookup others keys targets)
  go [] is read = cc
  go (opcode ∷ operands) is read = which (switch_known opcode item.offset operands (insn.Lookup others keys targets) read refl) where
    which : (reading_of opcode ≡ switch table_switch) ⊎ (reading_of opcode ≡ switch lookup_switch) → OldSwitch item lookup_switch (insn.Lookup others keys targets)
    which (inr same) = old_switch item lookup_switch (insn.Lookup others keys targets) opcode operands is ((λ k. sym same k item.offset operands) ∙ read)
    which (inl same) =
        let found = old_switch item table_switch (insn.Lookup others keys targets) opcode operands is ((λ k. sym same k item.offset operands) ∙ read) in
        let parts = table_parts item.offset found.numbers (insn.Lookup others keys targets) found.made in
        let whole = parts.whole in
        cc

-- ---- the sizes of switches

-- the bytes of an old switch: its opcode, its padding and its numbers
old_size : (item : Item) (f : ℕ → List ℤ → Option Insn) (i : Insn) (old : OldSwitch item f i) → length item.bytes ≡ 1 + padding_at item.offset + 4 * length old.numbers
old_size item f i old =
    let size = length-signed_fours (drop (padding_at item.offset) old.operands) old.numbers old.numbers_are in
    let left = length-drop (padding_at item.offset) old.operands in
    let whole = ap length old.bytes_are in
    let long = old.long in
    omega arith

length-jumps : (starts : List ℕ) (start : ℕ) (targets : List ℕ) → length (flat_map (jump_bytes starts start) targets) ≡ 4 * length targets
length-jumps starts start [] = refl
length-jumps starts start (target ∷ targets) =
    let first = length-signed_four (away starts start target) in
    let later = length-jumps starts start targets in
    omega (arith, length-append (jump_bytes starts start target) (flat_map (jump_bytes starts start) targets))

length-pairs : (starts : List ℕ) (start : ℕ) (keys : List ℤ) (targets : List ℕ) → length keys ≡ length targets → length (pair_bytes starts start keys targets) ≡ 8 * length targets
length-pairs starts start [] [] e = refl
length-pairs starts start [] (target ∷ targets) e = absurd (omega arith)
length-pairs starts start (key ∷ keys) [] e = absurd (omega arith)
length-pairs starts start (key ∷ keys) (target ∷ targets) e =
    let first = length-signed_four key in
    let second = length-signed_four (away starts start target) in
    let later = length-pairs starts start keys targets (omega arith) in
    omega (
      arith,
      length-append (signed_four key) (jump_bytes starts start target ++ pair_bytes starts start keys targets),
      length-append (jump_bytes starts start target) (pair_bytes starts start keys targets),
    )

-- ---- tableswitch

-- the bytes that are copied of an old switch follow four others behind its padding
head_is : (item : Item) (f : ℕ → List ℤ → Option Insn) (i : Insn) (old : OldSwitch item f i) (count a b c d : ℕ) (rest : List ℕ)
    → drop (padding_at item.offset) old.operands ≡ a ∷ b ∷ c ∷ d ∷ rest → switch_head (Some item) count ≡ take count rest
head_is item f i old count a b c d rest after =
    let pad = padding_at item.offset in
    let one : 5 + pad ≡ suc (pad + 4) = omega arith in
    let from : drop (5 + pad) item.bytes ≡ drop (pad + 4) old.operands = (λ k. drop (one k) (old.bytes_are k)) in
    let split : drop (pad + 4) old.operands ≡ rest = sym (drop-drop 4 pad old.operands) ∙ ap (drop 4) after in
    ap (take count) (from ∙ split)

-- an old tableswitch that is the same but for targets
abbrev pub TableFits : Item → ℤ → List ℕ → Type 0
TableFits item low targets = (o : ℕ) × (ts : List ℕ) × (length ts ≡ length targets) × OldSwitch item table_switch (insn.Table low o ts)

pub table_size : (starts : List ℕ) (start : ℕ) (item : Item) (low : ℤ) (others : ℕ) (targets : List ℕ) → TableFits item low targets
    → length (table_bytes starts start (Some item) others targets) ≡ 1 + padding_at start + (length item.bytes - (1 + padding_at item.offset))
table_size starts start item low others targets (o, ts, count, old) =
    let parts = table_parts item.offset old.numbers (insn.Table low o ts) old.made in
    let size = old_size item table_switch (insn.Table low o ts) old in
    let numbers = ap length parts.numbers in
    let same : parts.targets ≡ ts = (let whole = parts.whole in cc) in
    let jumps = length-offsets_from item.offset parts.jumps parts.targets parts.targets_are in
    let counts = ap length same in
    let first = first_four (drop (padding_at item.offset) old.operands) parts.others (parts.low ∷ parts.high ∷ parts.jumps) (old.numbers_are ∙ ap (λ zs. Some zs) parts.numbers) in
    let head = head_is item table_switch (insn.Table low o ts) old 8 first.a first.b first.c first.d first.rest first.bytes_are in
    let rest = length-signed_fours first.rest (parts.low ∷ parts.high ∷ parts.jumps) first.others in
    let eight = ap length head ∙ length-take-le 8 first.rest (omega arith) in
    let padding = length-new_padding start (Some item) in
    let other = length-signed_four (away starts start others) in
    let jumps_size = length-jumps starts start targets in
    omega (
      arith,
      length-append (new_padding start (Some item)) (jump_bytes starts start others ++ (switch_head (Some item) 8 ++ flat_map (jump_bytes starts start) targets)),
      length-append (jump_bytes starts start others) (switch_head (Some item) 8 ++ flat_map (jump_bytes starts start) targets),
      length-append (switch_head (Some item) 8) (flat_map (jump_bytes starts start) targets),
    )

-- two numbers that are copied are read again
two_again : (y : List ℕ) (v w : ℤ) (zs : List ℤ) (rest : List ℕ) (ws : List ℤ) → signed_fours y ≡ Some (v ∷ w ∷ zs) → signed_fours rest ≡ Some ws
    → signed_fours (take 8 y ++ rest) ≡ Some (v ∷ w ∷ ws)
two_again y v w zs rest ws read after =
    let p = first_four y v (w ∷ zs) read in
    let q = first_four p.rest w zs p.others in
    let bytes : take 8 y ≡ p.a ∷ p.b ∷ p.c ∷ p.d ∷ q.a ∷ q.b ∷ q.c ∷ q.d ∷ [] = ap (take 8) (p.bytes_are ∙ ap (λ l. p.a ∷ p.b ∷ p.c ∷ p.d ∷ l) q.bytes_are) in
    ap (λ l. signed_fours (l ++ rest)) bytes
    ∙ ap (λ o. option_map (λ xs. signed_four_of p.a p.b p.c p.d ∷ xs) (option_map (λ xs. signed_four_of q.a q.b q.c q.d ∷ xs) o)) after
    ∙ (λ k. Some (p.first k ∷ q.first k ∷ ws))

-- one number that is copied is read again
one_again : (y : List ℕ) (v : ℤ) (zs : List ℤ) (rest : List ℕ) (ws : List ℤ) → signed_fours y ≡ Some (v ∷ zs) → signed_fours rest ≡ Some ws
    → signed_fours (take 4 y ++ rest) ≡ Some (v ∷ ws)
one_again y v zs rest ws read after =
    let p = first_four y v zs read in
    ap (λ l. signed_fours (l ++ rest)) (ap (take 4) p.bytes_are) ∙ ap (λ o. option_map (λ xs. signed_four_of p.a p.b p.c p.d ∷ xs) o) after ∙ ap (λ z. Some (z ∷ ws)) p.first

table_made : (starts : List ℕ) (start : ℕ) (low high : ℤ) (others : ℕ) (targets : List ℕ)
    → (int_le low high && is_number ((high -ℤ low) +ℤ pos 1) (length (map (away starts start) targets))) ≡ true
    → table_switch start (away starts start others ∷ low ∷ high ∷ map (away starts start) targets)
    ≡ Some (insn.Table low (slice_index starts others) (map (slice_index starts) targets))
table_made starts start low high others targets test =
    let zs = map (away starts start) targets in
    ap (λ t. if t then option_and_then (λ other. option_map (λ ts. insn.Table low other ts) (offsets_from start zs)) (offset_from (pos start +ℤ away starts start others)) else None) test
    ∙ ap (λ z. option_and_then (λ other. option_map (λ ts. insn.Table low other ts) (offsets_from start zs)) (offset_from z)) (distance_back start (slice_index starts others))
    ∙ ap (λ o. option_map (λ ts. insn.Table low (slice_index starts others) ts) o) (offsets_back starts start targets)

pub table_read : (starts : List ℕ) (start : ℕ) (item : Item) (low : ℤ) (others : ℕ) (targets : List ℕ) → TableFits item low targets → start ≤ 65535 → AreOffsetsWithin starts
    → insn_at start (table_bytes starts start (Some item) others targets) ≡ Some (insn.Table low (slice_index starts others) (map (slice_index starts) targets))
unfolding insn_at
table_read starts start item low others targets (o, ts, count, old) near within =
    let parts = table_parts item.offset old.numbers (insn.Table low o ts) old.made in
    let y = drop (padding_at item.offset) old.operands in
    let same_low : parts.low ≡ low = (let whole = parts.whole in cc) in
    let same_targets : parts.targets ≡ ts = (let whole = parts.whole in cc) in
    let first = first_four y parts.others (parts.low ∷ parts.high ∷ parts.jumps) (old.numbers_are ∙ ap (λ zs. Some zs) parts.numbers) in
    let head = head_is item table_switch (insn.Table low o ts) old 8 first.a first.b first.c first.d first.rest first.bytes_are in
    let zs = map (away starts start) targets in
    let jumps = fours_jumps starts start targets near within in
    let two = two_again first.rest parts.low parts.high parts.jumps (flat_map (jump_bytes starts start) targets) zs first.others jumps in
    let numbers : signed_fours (switch_head (Some item) 8 ++ flat_map (jump_bytes starts start) targets) ≡ Some (parts.low ∷ parts.high ∷ zs) =
    ap (λ l. signed_fours (l ++ flat_map (jump_bytes starts start) targets)) head ∙ two in
    let all = fours_more (away starts start others) (switch_head (Some item) 8 ++ flat_map (jump_bytes starts start) targets) (parts.low ∷ parts.high ∷ zs)
    (jump_fits starts start others near within) numbers in
    let sizes : length parts.jumps ≡ length zs =
    sym (length-offsets_from item.offset parts.jumps parts.targets parts.targets_are) ∙ ap length same_targets ∙ count ∙ sym (length-map-of (away starts start) targets) in
    let test : (int_le parts.low parts.high && is_number ((parts.high -ℤ parts.low) +ℤ pos 1) (length zs)) ≡ true =
    sym (ap (λ n. int_le parts.low parts.high && is_number ((parts.high -ℤ parts.low) +ℤ pos 1) n) sizes) ∙ parts.test in
    padded table_switch start (new_padding start (Some item)) (jump_bytes starts start others ++ (switch_head (Some item) 8 ++ flat_map (jump_bytes starts start) targets))
    (away starts start others ∷ parts.low ∷ parts.high ∷ zs) (length-new_padding start (Some item)) all
    ∙ table_made starts start parts.low parts.high others targets test ∙ ap (λ l. Some (insn.Table l (slice_index starts others) (map (slice_index starts) targets))) same_low

-- ---- lookupswitch

abbrev pub LookupFits : Item → List ℤ → List ℕ → Type 0
LookupFits item keys targets = (o : ℕ) × (ts : List ℕ) × (length ts ≡ length targets) × OldSwitch item lookup_switch (insn.Lookup o keys ts)

-- numbers read from bytes fit four of them
number_fits : (a b c d : ℕ) → a < 256 → b < 256 → c < 256 → d < 256 → FitsSigned w32 (signed_four_of a b c d)
number_fits a b c d a_fits b_fits c_fits d_fits = go (number_of_four a b c d) (omega arith) where
  go : (n : ℕ) → n < 4294967296 → FitsSigned w32 (if nat_lt n 2147483648 then pos n else pos n -ℤ pos 4294967296)
  go n small = either (nat_lt n 2147483648) refl where
    either : (t : Bool) → nat_lt n 2147483648 ≡ t → FitsSigned w32 (if t then pos n else pos n -ℤ pos 4294967296)
    either true e = let below = ltb-true n 2147483648 e in omega (arith, ints)
    either false e = let above = ltb-false n 2147483648 e in omega (arith, ints)

numbers_fit : (y : List ℕ) (zs : List ℤ) → AreBytes y → signed_fours y ≡ Some zs → AllByRecursion (FitsSigned w32) zs
numbers_fit [] [] bytes e = tt
numbers_fit [] (z ∷ zs) bytes e = cc
numbers_fit (a ∷ []) zs bytes e = cc
numbers_fit (a ∷ b ∷ []) zs bytes e = cc
numbers_fit (a ∷ b ∷ c ∷ []) zs bytes e = cc
numbers_fit (a ∷ b ∷ c ∷ d ∷ y) zs bytes e =
    let (ws, (ws_are, whole)) = map_some (λ ws. signed_four_of a b c d ∷ ws) (signed_fours y) zs e in
    subst (λ (xs : List ℤ). AllByRecursion (FitsSigned w32) xs) whole
    (number_fits a b c d bytes.0 bytes.1.0 bytes.1.1.0 bytes.1.1.1.0, numbers_fit y ws bytes.1.1.1.1 ws_are)

keys_fit : (numbers : List ℤ) (keys jumps : List ℤ) → AllByRecursion (FitsSigned w32) numbers → pairs_of numbers ≡ Some (keys, jumps)
    → AllByRecursion (FitsSigned w32) keys × (length keys ≡ length jumps)
keys_fit [] keys jumps fit e =
    let both : ◌≡◌ {A = List ℤ × List ℤ} ([], []) (keys, jumps) = cc in
    let ks : [] ≡ keys = ap (λ (q : List ℤ × List ℤ). q.0) both in
    let js : [] ≡ jumps = ap (λ (q : List ℤ × List ℤ). q.1) both in
    (subst (λ (xs : List ℤ). AllByRecursion (FitsSigned w32) xs) ks tt, sym (ap length ks) ∙ ap length js)
keys_fit (key ∷ []) keys jumps fit e = cc
keys_fit (key ∷ jump ∷ numbers) keys jumps fit e =
    let (p, (p_is, whole)) = map_some (λ (p : List ℤ × List ℤ). (key ∷ p.0, jump ∷ p.1)) (pairs_of numbers) (keys, jumps) e in
    let ks : key ∷ p.0 ≡ keys = ap (λ (q : List ℤ × List ℤ). q.0) whole in
    let js : jump ∷ p.1 ≡ jumps = ap (λ (q : List ℤ × List ℤ). q.1) whole in
    let (later, count) = keys_fit numbers p.0 p.1 fit.1.1 p_is in
    (subst (λ (xs : List ℤ). AllByRecursion (FitsSigned w32) xs) ks (fit.0, later), sym (ap length ks) ∙ ap suc count ∙ ap length js)

-- keys, each with the distance of its target
abbrev paired : List ℕ → ℕ → List ℤ → List ℕ → List ℤ
paired starts start (key ∷ keys) (target ∷ targets) = key ∷ away starts start target ∷ paired starts start keys targets
paired starts start keys targets = []

fours_pairs : (starts : List ℕ) (start : ℕ) (keys : List ℤ) (targets : List ℕ) → AllByRecursion (FitsSigned w32) keys → start ≤ 65535 → AreOffsetsWithin starts
    → signed_fours (pair_bytes starts start keys targets) ≡ Some (paired starts start keys targets)
fours_pairs starts start [] targets fit near within = refl
fours_pairs starts start (key ∷ keys) [] fit near within = refl
fours_pairs starts start (key ∷ keys) (target ∷ targets) fit near within =
    fours_more key (jump_bytes starts start target ++ pair_bytes starts start keys targets) (away starts start target ∷ paired starts start keys targets) fit.0
    (fours_more (away starts start target) (pair_bytes starts start keys targets) (paired starts start keys targets) (jump_fits starts start target near within)
    (fours_pairs starts start keys targets fit.1 near within))

pairs_again : (starts : List ℕ) (start : ℕ) (keys : List ℤ) (targets : List ℕ) → length keys ≡ length targets
    → pairs_of (paired starts start keys targets) ≡ Some (keys, map (away starts start) targets)
pairs_again starts start [] [] e = refl
pairs_again starts start [] (target ∷ targets) e = absurd (omega arith)
pairs_again starts start (key ∷ keys) [] e = absurd (omega arith)
pairs_again starts start (key ∷ keys) (target ∷ targets) e =
    ap (λ o. option_map (λ (p : List ℤ × List ℤ). (key ∷ p.0, away starts start target ∷ p.1)) o) (pairs_again starts start keys targets (omega arith))

-- what an old lookupswitch says of its keys
record KeysOf (item : Item) (keys : List ℤ) (targets : List ℕ) (old_parts : List ℤ) : Type 0 where
  fit : AllByRecursion (FitsSigned w32) keys
  count : length keys ≡ length targets
  numbers : length old_parts ≡ 2 * length keys + 2

keys_of : (item : Item) (o : ℕ) (keys : List ℤ) (ts targets : List ℕ) → AreBytes item.bytes → length ts ≡ length targets → (old : OldSwitch item lookup_switch (insn.Lookup o keys ts))
    → KeysOf item keys targets old.numbers
keys_of item o keys ts targets bytes count old =
    let parts = lookup_parts item.offset old.numbers (insn.Lookup o keys ts) old.made in
    let same_keys : parts.keys ≡ keys = (let whole = parts.whole in cc) in
    let same_targets : parts.targets ≡ ts = (let whole = parts.whole in cc) in
    let operand_bytes : AreBytes old.operands = (subst (λ (l : List ℕ). AreBytes l) old.bytes_are bytes).1 in
    let all = numbers_fit (drop (padding_at item.offset) old.operands) old.numbers (AreBytes-drop (padding_at item.offset) old.operands operand_bytes) old.numbers_are in
    let parts_fit : AllByRecursion (FitsSigned w32) (parts.others ∷ parts.count ∷ parts.numbers) = subst (λ (zs : List ℤ). AllByRecursion (FitsSigned w32) zs) parts.numbers_are all in
    let (fit, even) = keys_fit parts.numbers parts.keys parts.jumps parts_fit.1.1 parts.pairs in
    let jumps = length-offsets_from item.offset parts.jumps parts.targets parts.targets_are in
    let size = length-pairs_of parts.numbers (parts.keys, parts.jumps) parts.pairs in
    let keys_size = ap length same_keys in
    let targets_size = ap length same_targets in
    let whole_size = ap length parts.numbers_are in
    record { fit = subst (λ (zs : List ℤ). AllByRecursion (FitsSigned w32) zs) same_keys fit; count = omega arith; numbers = omega arith }

pub lookup_size : (starts : List ℕ) (start : ℕ) (item : Item) (others : ℕ) (keys : List ℤ) (targets : List ℕ) → AreBytes item.bytes → LookupFits item keys targets
    → length (lookup_bytes starts start (Some item) others keys targets) ≡ 1 + padding_at start + (length item.bytes - (1 + padding_at item.offset))
lookup_size starts start item others keys targets bytes (o, ts, count, old) =
    let parts = lookup_parts item.offset old.numbers (insn.Lookup o keys ts) old.made in
    let known = keys_of item o keys ts targets bytes count old in
    let size = old_size item lookup_switch (insn.Lookup o keys ts) old in
    let y = drop (padding_at item.offset) old.operands in
    let first = first_four y parts.others (parts.count ∷ parts.numbers) (old.numbers_are ∙ ap (λ zs. Some zs) parts.numbers_are) in
    let head = head_is item lookup_switch (insn.Lookup o keys ts) old 4 first.a first.b first.c first.d first.rest first.bytes_are in
    let rest = length-signed_fours first.rest (parts.count ∷ parts.numbers) first.others in
    let four_bytes = ap length head ∙ length-take-le 4 first.rest (omega arith) in
    let padding = length-new_padding start (Some item) in
    let other = length-signed_four (away starts start others) in
    let pairs_size = length-pairs starts start keys targets known.count in
    let numbers = known.numbers in
    let even = known.count in
    omega (
      arith,
      length-append (new_padding start (Some item)) (jump_bytes starts start others ++ (switch_head (Some item) 4 ++ pair_bytes starts start keys targets)),
      length-append (jump_bytes starts start others) (switch_head (Some item) 4 ++ pair_bytes starts start keys targets),
      length-append (switch_head (Some item) 4) (pair_bytes starts start keys targets),
    )

lookup_made : (starts : List ℕ) (start : ℕ) (count : ℤ) (others : ℕ) (keys : List ℤ) (targets : List ℕ) → length keys ≡ length targets
    → (is_number count (length keys) && are_rising keys) ≡ true
    → lookup_switch start (away starts start others ∷ count ∷ paired starts start keys targets)
    ≡ Some (insn.Lookup (slice_index starts others) keys (map (slice_index starts) targets))
lookup_made starts start count others keys targets even test =
    let zs = map (away starts start) targets in
    ap (λ o. option_and_then (λ (p : List ℤ × List ℤ). if is_number count (length p.0) && are_rising p.0 then
    option_and_then (λ other. option_map (λ ts. insn.Lookup other p.0 ts) (offsets_from start p.1)) (offset_from (pos start +ℤ away starts start others)) else None) o)
    (pairs_again starts start keys targets even)
    ∙ ap (λ t. if t then option_and_then (λ other. option_map (λ ts. insn.Lookup other keys ts) (offsets_from start zs)) (offset_from (pos start +ℤ away starts start others)) else None) test
    ∙ ap (λ z. option_and_then (λ other. option_map (λ ts. insn.Lookup other keys ts) (offsets_from start zs)) (offset_from z)) (distance_back start (slice_index starts others))
    ∙ ap (λ o. option_map (λ ts. insn.Lookup (slice_index starts others) keys ts) o) (offsets_back starts start targets)

pub lookup_read : (starts : List ℕ) (start : ℕ) (item : Item) (others : ℕ) (keys : List ℤ) (targets : List ℕ) → AreBytes item.bytes → LookupFits item keys targets → start ≤ 65535
    → AreOffsetsWithin starts
    → insn_at start (lookup_bytes starts start (Some item) others keys targets) ≡ Some (insn.Lookup (slice_index starts others) keys (map (slice_index starts) targets))
unfolding insn_at
lookup_read starts start item others keys targets bytes (o, ts, count, old) near within =
    let parts = lookup_parts item.offset old.numbers (insn.Lookup o keys ts) old.made in
    let known = keys_of item o keys ts targets bytes count old in
    let y = drop (padding_at item.offset) old.operands in
    let same_keys : parts.keys ≡ keys = (let whole = parts.whole in cc) in
    let first = first_four y parts.others (parts.count ∷ parts.numbers) (old.numbers_are ∙ ap (λ zs. Some zs) parts.numbers_are) in
    let head = head_is item lookup_switch (insn.Lookup o keys ts) old 4 first.a first.b first.c first.d first.rest first.bytes_are in
    let pairs = fours_pairs starts start keys targets known.fit near within in
    let one = one_again first.rest parts.count parts.numbers (pair_bytes starts start keys targets) (paired starts start keys targets) first.others pairs in
    let numbers : signed_fours (switch_head (Some item) 4 ++ pair_bytes starts start keys targets) ≡ Some (parts.count ∷ paired starts start keys targets) =
    ap (λ l. signed_fours (l ++ pair_bytes starts start keys targets)) head ∙ one in
    let all = fours_more (away starts start others) (switch_head (Some item) 4 ++ pair_bytes starts start keys targets) (parts.count ∷ paired starts start keys targets)
    (jump_fits starts start others near within) numbers in
    let test : (is_number parts.count (length keys) && are_rising keys) ≡ true = sym (ap (λ ks. is_number parts.count (length ks) && are_rising ks) same_keys) ∙ parts.test in
    padded lookup_switch start (new_padding start (Some item)) (jump_bytes starts start others ++ (switch_head (Some item) 4 ++ pair_bytes starts start keys targets))
    (away starts start others ∷ parts.count ∷ paired starts start keys targets) (length-new_padding start (Some item)) all
    ∙ lookup_made starts start parts.count others keys targets known.count test

-- ---- the same but for targets

record SameTable (low : ℤ) (targets : List ℕ) (j : Insn) : Type 0 where
  others : ℕ
  old_targets : List ℕ
  count : length old_targets ≡ length targets
  is : j ≡ insn.Table low others old_targets

same_table : (low : ℤ) (others : ℕ) (targets : List ℕ) (j : Insn) → IsSameButTargets (insn.Table low others targets) j → SameTable low targets j
same_table low others targets (insn.Table l o ts) e =
    let first : low ≡ l = cc in
    let counts : map (λ t. zero) targets ≡ map (λ t. zero) ts = cc in
    record {
      others = o;
      old_targets = ts;
      count = sym (length-map-of (λ t. zero) ts) ∙ sym (ap length counts) ∙ length-map-of (λ t. zero) targets;
      is = ap (λ z. insn.Table z o ts) (sym first);
    }
same_table low others targets (insn.IfInt t n) e = cc
same_table low others targets (insn.IfPair t n) e = cc
same_table low others targets (insn.IfSame t n) e = cc
same_table low others targets (insn.IfNull t n) e = cc
same_table low others targets (insn.Goto n) e = cc
same_table low others targets (insn.Lookup o keys ts) e = cc
same_table low others targets j e = cc

record SameLookup (keys : List ℤ) (targets : List ℕ) (j : Insn) : Type 0 where
  others : ℕ
  old_targets : List ℕ
  count : length old_targets ≡ length targets
  is : j ≡ insn.Lookup others keys old_targets

same_lookup : (others : ℕ) (keys : List ℤ) (targets : List ℕ) (j : Insn) → IsSameButTargets (insn.Lookup others keys targets) j → SameLookup keys targets j
same_lookup others keys targets (insn.Lookup o ks ts) e =
    let first : keys ≡ ks = cc in
    let counts : map (λ t. zero) targets ≡ map (λ t. zero) ts = cc in
    record {
      others = o;
      old_targets = ts;
      count = sym (length-map-of (λ t. zero) ts) ∙ sym (ap length counts) ∙ length-map-of (λ t. zero) targets;
      is = ap (λ z. insn.Lookup o z ts) (sym first);
    }
same_lookup others keys targets (insn.IfInt t n) e = cc
same_lookup others keys targets (insn.IfPair t n) e = cc
same_lookup others keys targets (insn.IfSame t n) e = cc
same_lookup others keys targets (insn.IfNull t n) e = cc
same_lookup others keys targets (insn.Goto n) e = cc
same_lookup others keys targets (insn.Table l o ts) e = cc
same_lookup others keys targets j e = cc

pub table_fits : (old : List Item) (item : Item) (low : ℤ) (others : ℕ) (targets : List ℕ) → ItemIsSpelled old item → IsSameButTargets (insn.Table low others targets) item.insn
    → TableFits item low targets
table_fits old item low others targets spelled same =
    let f = offset_in old zero in
    let s = same_table low others targets item.insn same in
    let read : insn_at item.offset item.bytes ≡ Some (insn.Table low (f s.others) (map f s.old_targets)) = spelled.instruction ∙ ap (λ i. Some (with_targets f i)) s.is in
    (f s.others, map f s.old_targets, length-map-of f s.old_targets ∙ s.count, old_table item low (f s.others) (map f s.old_targets) read)

pub lookup_fits : (old : List Item) (item : Item) (others : ℕ) (keys : List ℤ) (targets : List ℕ) → ItemIsSpelled old item → IsSameButTargets (insn.Lookup others keys targets) item.insn
    → LookupFits item keys targets
lookup_fits old item others keys targets spelled same =
    let f = offset_in old zero in
    let s = same_lookup others keys targets item.insn same in
    let read : insn_at item.offset item.bytes ≡ Some (insn.Lookup (f s.others) keys (map f s.old_targets)) = spelled.instruction ∙ ap (λ i. Some (with_targets f i)) s.is in
    (f s.others, map f s.old_targets, length-map-of f s.old_targets ∙ s.count, old_lookup item (f s.others) keys (map f s.old_targets) read)
