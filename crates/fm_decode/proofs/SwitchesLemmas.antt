-- Switches are read from as many operand bytes as their numbers ask for.
use Rattle.std.proofs.Common.{◌≡◌, ℕ, zero, suc, ◌+◌, ◌-◌, ◌*◌, ◌/◌, ◌≤◌, Bool, true, false, ltb, ◌&&◌, List, [], ◌∷◌, length, take, drop, Option, Some, None, option_and_then, refl, sym, ap, subst, ◌∙◌, arith, ℤ, pos, negsuc, ◌+ℤ◌, ◌-ℤ◌, length-take, length-drop, if◌then◌else◌}
use Rattle.std.specs.Prelude.{int_le, int_lt}
use Rattle.std.specs.Option.{option_map}
use Rattle.std.proofs.lemmas.Int.{ints}
use Rattle.std.proofs.lemmas.Bool.{eq-eqb, le-ltb, ltb-false, and_parts}
use Rattle.std.proofs.lemmas.List.{drop-take}
use Rattle.std.proofs.lemmas.Option.{none-some, same_Some, some_pair_parts}
use Rattle.fm_code.specs.Numbers.{signed_four_of}
use Rattle.fm_code.specs.InstructionTable.{padding_at, signed_fours, offset_from, offsets_from, is_number, table_switch, are_rising, pairs_of, lookup_switch, switch}
use Rattle.fm_code.specs.declared.instructions.Insn.{Insn}
use Rattle.fm_code.specs.declared.instructions.Insn.TheVariants as insn
use Rattle.fm_code.proofs.InsnPrefixes.{cond_some, and_then_some, map_some, is_number_pos, switch_is}
use Rattle.fm_decode.specs.inner.Switches.{take_number, after_padding, target_at, natural, key_count, pair_count, jumps_at, pairs_at, table_at, lookup_at}
use Rattle.fm_decode.proofs.OperandsLemmas.{IsReadBy}

-- ---- numbers of four bytes each

-- a given number of numbers, and what follows
abbrev pub Numbers : Type 0
Numbers = List ℤ × List ℕ

numbers_in : ℕ → List ℕ → Option Numbers
numbers_in zero bytes = Some ([], bytes)
numbers_in (suc m) bytes = option_and_then (λ z. option_map {U = Numbers} (λ p. (z.0 ∷ p.0, p.1)) (numbers_in m z.1)) (take_number bytes)

-- what holds of a number that was taken
record TakesFour (bytes : List ℕ) (z : ℤ) (rest : List ℕ) : Type 0 where
  long : length bytes ≡ 4 + length rest
  rest_is : rest ≡ drop 4 bytes
  fours : (m : ℕ) (zs : List ℤ) → signed_fours (take m rest) ≡ Some zs → signed_fours (take (4 + m) bytes) ≡ Some (z ∷ zs)

takes_four : (bytes : List ℕ) (z : ℤ) (rest : List ℕ) → take_number bytes ≡ Some (z, rest) → TakesFour bytes z rest
takes_four [] z rest e = absurd cc
takes_four (a ∷ []) z rest e = absurd cc
takes_four (a ∷ b ∷ []) z rest e = absurd cc
takes_four (a ∷ b ∷ c ∷ []) z rest e = absurd cc
takes_four (a ∷ b ∷ c ∷ d ∷ more) z rest e =
    let parts = some_pair_parts (signed_four_of a b c d) z more rest e in
    let next : (m : ℕ) → 4 + m ≡ suc (suc (suc (suc m))) = λ m. omega arith in
    subst (λ (y : ℤ). TakesFour (a ∷ b ∷ c ∷ d ∷ more) y rest) parts.0
    (subst (λ (r : List ℕ). TakesFour (a ∷ b ∷ c ∷ d ∷ more) (signed_four_of a b c d) r) parts.1 (record {
      long = omega arith;
      rest_is = refl;
      fours = λ m zs h. ap (λ (n : ℕ). signed_fours (take n (a ∷ b ∷ c ∷ d ∷ more))) (next m) ∙ ap (option_map (λ ys. signed_four_of a b c d ∷ ys)) h;
    }))

-- a given number of numbers, with the bytes that they are read from
record TakesFours (m : ℕ) (bytes : List ℕ) (zs : List ℤ) (rest : List ℕ) : Type 0 where
  count : length zs ≡ m
  long : length bytes ≡ 4 * m + length rest
  fours : signed_fours (take (4 * m) bytes) ≡ Some zs

takes_fours : (m : ℕ) (bytes : List ℕ) (zs : List ℤ) (rest : List ℕ) → numbers_in m bytes ≡ Some (zs, rest) → TakesFours m bytes zs rest
unfolding numbers_in
takes_fours zero bytes zs rest e =
    let parts = some_pair_parts [] zs bytes rest e in
    record {
      count = ap length (sym parts.0);
      long = omega (arith, ap length parts.1);
      fours = none bytes ∙ ap Some parts.0;
    } where
      none : (xs : List ℕ) → signed_fours (take 0 xs) ≡ Some []
      none [] = refl
      none (x ∷ xs) = refl
takes_fours (suc m) bytes zs rest e =
    let (z, (z_is, others)) = and_then_some _ (take_number bytes) (zs, rest) e in
    let (p, (p_is, whole)) = map_some _ (numbers_in m z.1) (zs, rest) others in
    let first = takes_four bytes z.0 z.1 z_is in
    let later = takes_fours m z.1 p.0 p.1 p_is in
    let parts = some_pair_parts (z.0 ∷ p.0) zs p.1 rest (ap Some whole) in
    let four : 4 * suc m ≡ 4 + 4 * m = omega arith in
    record {
      count = sym (ap length parts.0) ∙ ap suc later.count;
      long = let one = first.long in let more = later.long in let end = ap length parts.1 in omega arith;
      fours = ap (λ (n : ℕ). signed_fours (take n bytes)) four ∙ first.fours (4 * m) p.0 later.fours ∙ ap Some parts.0;
    }

-- and the way back
record GivesFours (n : ℕ) (bytes : List ℕ) (zs : List ℤ) : Type 0 where
  size : n ≡ 4 * length zs
  numbers : numbers_in (length zs) bytes ≡ Some (zs, drop n bytes)

gives_fours : (n : ℕ) (bytes : List ℕ) (zs : List ℤ) → n ≤ length bytes → signed_fours (take n bytes) ≡ Some zs → GivesFours n bytes zs
unfolding numbers_in
gives_fours zero bytes zs within e =
    let none : [] ≡ zs = same_Some [] zs (sym (nothing bytes) ∙ e) in
    subst (GivesFours 0 bytes) none (record { size = omega arith; numbers = refl }) where
      nothing : (xs : List ℕ) → signed_fours (take 0 xs) ≡ Some []
      nothing [] = refl
      nothing (x ∷ xs) = refl
gives_fours (suc n) [] zs within e = absurd (omega arith)
gives_fours (suc zero) (a ∷ rest) zs within e = absurd (one rest e) where
  one : (xs : List ℕ) → signed_fours (a ∷ take 0 xs) ≡ Some zs → ⊥
  one [] h = cc
  one (x ∷ xs) h = cc
gives_fours (suc (suc n)) (a ∷ []) zs within e = absurd (omega arith)
gives_fours (suc (suc zero)) (a ∷ b ∷ rest) zs within e = absurd (two rest e) where
  two : (xs : List ℕ) → signed_fours (a ∷ b ∷ take 0 xs) ≡ Some zs → ⊥
  two [] h = cc
  two (x ∷ xs) h = cc
gives_fours (suc (suc (suc n))) (a ∷ b ∷ []) zs within e = absurd (omega arith)
gives_fours (suc (suc (suc zero))) (a ∷ b ∷ c ∷ rest) zs within e = absurd (three rest e) where
  three : (xs : List ℕ) → signed_fours (a ∷ b ∷ c ∷ take 0 xs) ≡ Some zs → ⊥
  three [] h = cc
  three (x ∷ xs) h = cc
gives_fours (suc (suc (suc (suc n)))) (a ∷ b ∷ c ∷ []) zs within e = absurd (omega arith)
gives_fours (suc (suc (suc (suc n)))) (a ∷ b ∷ c ∷ d ∷ rest) zs within e =
    let (ys, (ys_are, whole)) = map_some (λ xs. signed_four_of a b c d ∷ xs) (signed_fours (take n rest)) zs e in
    let later = gives_fours n rest ys (omega arith) ys_are in
    subst (GivesFours (suc (suc (suc (suc n)))) (a ∷ b ∷ c ∷ d ∷ rest)) whole
    (record { size = let size = later.size in omega arith; numbers = ap (option_map {U = Numbers} (λ p. (signed_four_of a b c d ∷ p.0, p.1))) later.numbers })

-- one number more
numbers_step : (m : ℕ) (bytes : List ℕ) (z : ℤ) (after : List ℕ) (zs : List ℤ) (rest : List ℕ) → take_number bytes ≡ Some (z, after) → numbers_in m after ≡ Some (zs, rest)
    → numbers_in (suc m) bytes ≡ Some (z ∷ zs, rest)
unfolding numbers_in
numbers_step m bytes z after zs rest first others = rw (first, others) refl

-- one target more
offsets_step : (offset : ℕ) (z : ℤ) (zs : List ℤ) (target : ℕ) (targets : List ℕ) → offset_from (pos offset +ℤ z) ≡ Some target → offsets_from offset zs ≡ Some targets
    → offsets_from offset (z ∷ zs) ≡ Some (target ∷ targets)
offsets_step offset z zs target targets first others = rw (first, others) refl

-- ---- jumps

-- the jumps of a switch are a given number of numbers, each to a target
jumps_take : (offset count : ℕ) (bytes targets : List ℕ) → jumps_at offset count bytes ≡ Some targets
    → (zs : List ℤ) × ((rest : List ℕ) × ((numbers_in count bytes ≡ Some (zs, rest)) × (offsets_from offset zs ≡ Some targets)))
unfolding jumps_at numbers_in
jumps_take offset zero bytes targets e = ([], (bytes, (refl, e)))
jumps_take offset (suc count) bytes targets e =
    let (jump, (jump_is, e1)) = and_then_some _ (take_number bytes) targets e in
    let (target, (target_is, e2)) = and_then_some _ (target_at offset jump.0) targets e1 in
    let (others, (others_are, whole)) = and_then_some _ (jumps_at offset count jump.1) targets e2 in
    let (zs, (rest, (numbers, offsets))) = jumps_take offset count jump.1 others others_are in (
      jump.0 ∷ zs,
      (rest, (numbers_step count bytes jump.0 jump.1 zs rest jump_is numbers, offsets_step offset jump.0 zs target others target_is offsets ∙ whole)),
    )

-- what holds of numbers when the first one is apart
first_number : (m : ℕ) (bytes : List ℕ) (z : ℤ) (zs : List ℤ) (rest : List ℕ) → numbers_in (suc m) bytes ≡ Some (z ∷ zs, rest)
    → (after : List ℕ) × ((take_number bytes ≡ Some (z, after)) × (numbers_in m after ≡ Some (zs, rest)))
unfolding numbers_in
first_number m bytes z zs rest e =
    let (w, (w_is, e1)) = and_then_some _ (take_number bytes) (z ∷ zs, rest) e in
    let (p, (p_is, whole)) = map_some _ (numbers_in m w.1) (z ∷ zs, rest) e1 in
    let parts = some_pair_parts (w.0 ∷ p.0) (z ∷ zs) p.1 rest (ap Some whole) in
    let lists : w.0 ∷ p.0 ≡ z ∷ zs = parts.0 in
    let head : w.0 ≡ z = cc in
    let tail : p.0 ≡ zs = cc in
    (w.1, (w_is ∙ (λ k. Some (head k, w.1)), p_is ∙ (λ k. Some (tail k, parts.1 k))))

jumps_give : (offset : ℕ) (zs : List ℤ) (bytes rest targets : List ℕ) → numbers_in (length zs) bytes ≡ Some (zs, rest) → offsets_from offset zs ≡ Some targets
    → jumps_at offset (length zs) bytes ≡ Some targets
unfolding jumps_at
jumps_give offset [] bytes rest targets numbers offsets = offsets
jumps_give offset (z ∷ zs) bytes rest targets numbers offsets =
    let (after, (taken, others)) = first_number (length zs) bytes z zs rest numbers in
    let (target, (target_is, e1)) = and_then_some _ (offset_from (pos offset +ℤ z)) targets offsets in
    let (found, (found_are, whole)) = map_some _ (offsets_from offset zs) targets e1 in
    let later = jumps_give offset zs after rest found others found_are in
    rw (taken, target_is, later) (ap Some whole)

-- ---- pairs

pairs_take : (offset count : ℕ) (bytes : List ℕ) (keys : List ℤ) (targets : List ℕ) → pairs_at offset count bytes ≡ Some (keys, targets)
    → (zs : List ℤ) × ((rest : List ℕ) × ((jumps : List ℤ) × ((numbers_in (2 * count) bytes ≡ Some (zs, rest)) × ((pairs_of zs ≡ Some (keys, jumps))
    × ((offsets_from offset jumps ≡ Some targets) × (length keys ≡ count))))))
unfolding pairs_at numbers_in
pairs_take offset zero bytes keys targets e =
    let parts = some_pair_parts [] keys [] targets e in
    ([], (bytes, ([], (refl, ((λ k. Some (parts.0 k, [])), (ap Some parts.1, ap length (sym parts.0)))))))
pairs_take offset (suc count) bytes keys targets e =
    let (key, (key_is, e1)) = and_then_some _ (take_number bytes) (keys, targets) e in
    let (jump, (jump_is, e2)) = and_then_some _ (take_number key.1) (keys, targets) e1 in
    let (target, (target_is, e3)) = and_then_some _ (target_at offset jump.0) (keys, targets) e2 in
    let (others, (others_are, whole)) = and_then_some _ (pairs_at offset count jump.1) (keys, targets) e3 in
    let (zs, (rest, (jumps, (numbers, (pairs, (offsets, size)))))) = pairs_take offset count jump.1 others.0 others.1 others_are in
    let parts = some_pair_parts (key.0 ∷ others.0) keys (target ∷ others.1) targets whole in
    let double : 2 * suc count ≡ suc (suc (2 * count)) = omega arith in
    let two : numbers_in (suc (suc (2 * count))) bytes ≡ Some (key.0 ∷ jump.0 ∷ zs, rest) =
    numbers_step (suc (2 * count)) bytes key.0 key.1 (jump.0 ∷ zs) rest key_is (numbers_step (2 * count) key.1 jump.0 jump.1 zs rest jump_is numbers) in (
      key.0 ∷ jump.0 ∷ zs,
      (
        rest,
        (
          jump.0 ∷ jumps,
          (
            ap (λ (n : ℕ). numbers_in n bytes) double ∙ two,
            (
              ap (option_map {U = List ℤ × List ℤ} (λ p. (key.0 ∷ p.0, jump.0 ∷ p.1))) pairs ∙ (λ k. Some (parts.0 k, jump.0 ∷ jumps)),
              (offsets_step offset jump.0 jumps target others.1 target_is offsets ∙ ap Some parts.1, ap length (sym parts.0) ∙ ap suc size),
            ),
          ),
        ),
      ),
    )

pairs_give : (offset : ℕ) (zs : List ℤ) (bytes rest : List ℕ) (p : List ℤ × List ℤ) (targets : List ℕ) → numbers_in (length zs) bytes ≡ Some (zs, rest) → pairs_of zs ≡ Some p
    → offsets_from offset p.1 ≡ Some targets → (pairs_at offset (length p.0) bytes ≡ Some (p.0, targets)) × (length zs ≡ 2 * length p.0)
unfolding pairs_at
pairs_give offset [] bytes rest p targets numbers pairs offsets =
    let none : ([], []) ≡ p = same_Some ([], []) p pairs in
    subst (λ (q : List ℤ × List ℤ). offsets_from offset q.1 ≡ Some targets → (pairs_at offset (length q.0) bytes ≡ Some (q.0, targets)) × (0 ≡ 2 * length q.0)) none
    (λ offs. let nothing : [] ≡ targets = same_Some [] targets offs in ((λ k. Some ([], nothing k)), omega arith)) offsets
pairs_give offset (key ∷ []) bytes rest p targets numbers pairs offsets = absurd (none-some p pairs)
pairs_give offset (key ∷ jump ∷ zs) bytes rest p targets numbers pairs offsets =
    let (middle, (key_is, others)) = first_number (suc (length zs)) bytes key (jump ∷ zs) rest numbers in
    let (after, (jump_is, last)) = first_number (length zs) middle jump zs rest others in
    let (q, (q_is, whole)) = map_some {X = List ℤ × List ℤ} {Y = List ℤ × List ℤ} (λ r. (key ∷ r.0, jump ∷ r.1)) (pairs_of zs) p pairs in
    subst (λ (r : List ℤ × List ℤ). offsets_from offset r.1 ≡ Some targets → (pairs_at offset (length r.0) bytes ≡ Some (r.0, targets)) × (suc (suc (length zs)) ≡ 2 * length r.0)) whole
    (λ offs.
    let (target, (target_is, e1)) = and_then_some _ (offset_from (pos offset +ℤ jump)) targets offs in
    let (found, (found_are, all)) = map_some _ (offsets_from offset q.1) targets e1 in
    let later = pairs_give offset zs after rest q found last q_is found_are in
    let size = later.1 in
    (rw (key_is, jump_is, target_is, later.0) (λ k. Some (key ∷ q.0, all k)), omega arith)) offsets

-- ---- counts

ordered : (low high : ℤ) → int_lt high low ≡ false → int_le low high ≡ true
ordered low high e = grind (arith, ints)

not_over : (low high : ℤ) → int_le low high ≡ true → int_lt high low ≡ false
not_over low high e = grind (arith, ints)

not_below : (low high : ℤ) (n : ℕ) → int_lt high low ≡ false → negsuc n ≡ (high -ℤ low) +ℤ pos 1 → ⊥
not_below low high n e same = grind (arith, ints)

-- the number of keys is a natural number
natural_keys : (low high : ℤ) → int_lt high low ≡ false → is_number ((high -ℤ low) +ℤ pos 1) (natural ((high -ℤ low) +ℤ pos 1)) ≡ true
natural_keys low high e = go ((high -ℤ low) +ℤ pos 1) refl where
  go : (z : ℤ) → z ≡ (high -ℤ low) +ℤ pos 1 → is_number z (natural z) ≡ true
  go (pos n) same = eq-eqb n n refl
  go (negsuc n) same = absurd (not_below low high n e same)

-- a choice that gives something is its second branch
cond_other : {X : Type 0} (t : Bool) (o : Option X) (x : X) → (if t then None else o) ≡ Some x → (t ≡ false) × (o ≡ Some x)
cond_other true o x e = absurd (none-some x e)
cond_other false o x e = (refl, e)

record KeysCounted (low high : ℤ) (count : ℕ) : Type 0 where
  ordered : int_le low high ≡ true
  counted : is_number ((high -ℤ low) +ℤ pos 1) count ≡ true

keys_take : (low high : ℤ) (left count : ℕ) → key_count low high left ≡ Some count → KeysCounted low high count
keys_take low high left count e =
    let first = cond_other (int_lt high low) _ count e in
    let second = cond_other (ltb (left / 4) (natural ((high -ℤ low) +ℤ pos 1))) _ count first.1 in
    let same : natural ((high -ℤ low) +ℤ pos 1) ≡ count = same_Some _ count second.1 in
    record { ordered = ordered low high first.0; counted = subst (λ (n : ℕ). is_number ((high -ℤ low) +ℤ pos 1) n ≡ true) same (natural_keys low high first.0) }

keys_give : (low high : ℤ) (left count : ℕ) → int_le low high ≡ true → is_number ((high -ℤ low) +ℤ pos 1) count ≡ true → 4 * count ≤ left → key_count low high left ≡ Some count
keys_give low high left count le counted room =
    let same : natural ((high -ℤ low) +ℤ pos 1) ≡ count = ap natural (is_number_pos ((high -ℤ low) +ℤ pos 1) count counted) in
    let enough : ltb (left / 4) count ≡ false = le-ltb (left / 4) count (omega arith) in
    rw (not_over low high le, same, enough) refl

pairs_counted : (z : ℤ) (left count : ℕ) → pair_count z left ≡ Some count → z ≡ pos count
pairs_counted (pos n) left count e = let other = cond_other (ltb (left / 8) n) _ count e in ap pos (same_Some n count other.1)
pairs_counted (negsuc n) left count e = absurd (none-some count e)

count_pairs : (left count : ℕ) → 8 * count ≤ left → pair_count (pos count) left ≡ Some count
count_pairs left count room = let enough : ltb (left / 8) count ≡ false = le-ltb (left / 8) count (omega arith) in rw enough refl

-- ---- padding

padding_take : (offset : ℕ) (operands rest : List ℕ) → after_padding offset operands ≡ Some rest → (padding_at offset ≤ length operands) × (drop (padding_at offset) operands ≡ rest)
padding_take offset operands rest e =
    let other = cond_other (ltb (length operands) (padding_at offset)) _ rest e in
    (ltb-false (length operands) (padding_at offset) other.0, same_Some (drop (padding_at offset) operands) rest other.1)

padding_give : (offset : ℕ) (operands : List ℕ) → padding_at offset ≤ length operands → after_padding offset operands ≡ Some (drop (padding_at offset) operands)
padding_give offset operands room = rw (le-ltb (length operands) (padding_at offset) room) refl

-- there is room for a given number of bytes after the padding
room_for : (pad m : ℕ) (operands rest after : List ℕ) → pad ≤ length operands → drop pad operands ≡ rest → length rest ≡ m + length after
    → (m ≤ length (drop pad operands)) × (pad + m ≤ length operands)
room_for pad m operands rest after room is long =
    let size = ap length is in
    let dropped = length-drop pad operands in
    (omega arith, omega arith)

-- a switch whose numbers are read
switch_reads : (f : ℕ → List ℤ → Option Insn) (offset : ℕ) (operands : List ℕ) (m : ℕ) (zs : List ℤ) → padding_at offset ≤ length operands
    → m ≤ length (drop (padding_at offset) operands) → signed_fours (take m (drop (padding_at offset) operands)) ≡ Some zs
    → switch f offset (take (padding_at offset + m) operands) ≡ f offset zs
switch_reads f offset operands m zs room within fours =
    let pad = padding_at offset in
    let size : length (take (pad + m) operands) ≡ pad + m = omega (arith, length-take (pad + m) operands, length-drop pad operands) in
    let enough : ltb (length (take (pad + m) operands)) pad ≡ false = le-ltb (length (take (pad + m) operands)) pad (omega arith) in
    let numbers : signed_fours (drop pad (take (pad + m) operands)) ≡ Some zs = ap signed_fours (drop-take pad m operands) ∙ fours in
    rw (enough, numbers) refl

-- a switch whose numbers follow its padding
switch_takes : (f : ℕ → List ℤ → Option Insn) (offset : ℕ) (operands rest : List ℕ) (k : ℕ) (zs : List ℤ) (after : List ℕ) (made i : Insn) (size n : ℕ)
    → after_padding offset operands ≡ Some rest → numbers_in k rest ≡ Some (zs, after) → f offset zs ≡ Some made → made ≡ i → size ≡ n → size ≡ padding_at offset + 4 * k
    → (n ≤ length operands) × (switch f offset (take n operands) ≡ Some i)
switch_takes f offset operands rest k zs after made i size n padded numbers reads same_insn same_size whole =
    let pad = padding_at offset in
    let padding = padding_take offset operands rest padded in
    let taken = takes_fours k rest zs after numbers in
    let within = room_for pad (4 * k) operands rest after padding.0 padding.1 taken.long in
    let fours : signed_fours (take (4 * k) (drop pad operands)) ≡ Some zs = ap (λ (b : List ℕ). signed_fours (take (4 * k) b)) padding.1 ∙ taken.fours in
    let read = switch_reads f offset operands (4 * k) zs padding.0 within.0 fours in
    let n_is : n ≡ pad + 4 * k = sym same_size ∙ whole in
    (subst (λ (j : ℕ). j ≤ length operands) (sym n_is) within.1, ap (λ (j : ℕ). switch f offset (take j operands)) n_is ∙ read ∙ reads ∙ ap Some same_insn)

-- what a switch that is read has for its numbers
record SwitchIs (f : ℕ → List ℤ → Option Insn) (offset : ℕ) (operands : List ℕ) (i : Insn) (n : ℕ) (zs : List ℤ) : Type 0 where
  room : padding_at offset ≤ length operands
  size : n ≡ padding_at offset + 4 * length zs
  numbers : numbers_in (length zs) (drop (padding_at offset) operands) ≡ Some (zs, drop (4 * length zs) (drop (padding_at offset) operands))
  insn_is : f offset zs ≡ Some i

switch_gives : (f : ℕ → List ℤ → Option Insn) (offset : ℕ) (operands : List ℕ) (i : Insn) (n : ℕ) → n ≤ length operands → switch f offset (take n operands) ≡ Some i
    → (zs : List ℤ) × SwitchIs f offset operands i n zs
switch_gives f offset operands i n within e =
    let pad = padding_at offset in
    let (long, (zs, (fours, read))) = switch_is f offset (take n operands) i e in
    let size : length (take n operands) ≡ n = omega (arith, length-take n operands) in
    let split : pad + (n - pad) ≡ n = omega arith in
    let moved : drop pad (take n operands) ≡ take (n - pad) (drop pad operands) = ap (λ (k : ℕ). drop pad (take k operands)) (sym split) ∙ drop-take pad (n - pad) operands in
    let gives = gives_fours (n - pad) (drop pad operands) zs (omega (arith, length-drop pad operands)) (ap signed_fours (sym moved) ∙ fours) in
    let four = gives.size in (
      zs,
      record {
        room = omega arith;
        size = omega arith;
        numbers = gives.numbers ∙ ap (λ (k : ℕ). Some (zs, drop k (drop pad operands))) four;
        insn_is = read;
      },
    )

-- ---- tableswitch

table_made : (offset : ℕ) (others low high : ℤ) (zs : List ℤ) (target : ℕ) (targets : List ℕ) → int_le low high ≡ true → is_number ((high -ℤ low) +ℤ pos 1) (length zs) ≡ true
    → offset_from (pos offset +ℤ others) ≡ Some target → offsets_from offset zs ≡ Some targets
    → table_switch offset (others ∷ low ∷ high ∷ zs) ≡ Some (insn.Table low target targets)
table_made offset others low high zs target targets le counted first all = rw (le, counted, first, all) refl

table_size : (pad count : ℕ) → pad + (3 + count) * 4 ≡ pad + 4 * suc (suc (suc count))
table_size pad count = omega arith

table-takes : (offset : ℕ) (operands : List ℕ) (i : Insn) (n : ℕ) → table_at offset operands ≡ Some (i, n) → (n ≤ length operands) × (switch table_switch offset (take n operands) ≡ Some i)
unfolding table_at
table-takes offset operands i n e =
    let pad = padding_at offset in
    let (rest, (rest_is, e1)) = and_then_some _ (after_padding offset operands) (i, n) e in
    let (others, (others_is, e2)) = and_then_some _ (take_number rest) (i, n) e1 in
    let (low, (low_is, e3)) = and_then_some _ (take_number others.1) (i, n) e2 in
    let (high, (high_is, e4)) = and_then_some _ (take_number low.1) (i, n) e3 in
    let (count, (count_is, e5)) = and_then_some _ (key_count low.0 high.0 (length high.1)) (i, n) e4 in
    let (target, (target_is, e6)) = and_then_some _ (target_at offset others.0) (i, n) e5 in
    let (targets, (targets_are, e7)) = and_then_some _ (jumps_at offset count high.1) (i, n) e6 in
    let (zs, (after, (numbers, offsets))) = jumps_take offset count high.1 targets targets_are in
    let parts = some_pair_parts (insn.Table low.0 target targets) i (pad + (3 + count) * 4) n e7 in
    let all : numbers_in (suc (suc (suc count))) rest ≡ Some (others.0 ∷ low.0 ∷ high.0 ∷ zs, after) =
    numbers_step (suc (suc count)) rest others.0 others.1 (low.0 ∷ high.0 ∷ zs) after others_is
    (numbers_step (suc count) others.1 low.0 low.1 (high.0 ∷ zs) after low_is (numbers_step count low.1 high.0 high.1 zs after high_is numbers)) in
    let jumps : length zs ≡ count = (takes_fours count high.1 zs after numbers).count in
    let keys = keys_take low.0 high.0 (length high.1) count count_is in
    let counted : is_number ((high.0 -ℤ low.0) +ℤ pos 1) (length zs) ≡ true = subst (λ (m : ℕ). is_number ((high.0 -ℤ low.0) +ℤ pos 1) m ≡ true) (sym jumps) keys.counted in
    let made = table_made offset others.0 low.0 high.0 zs target targets keys.ordered counted target_is offsets in
    switch_takes table_switch offset operands rest (suc (suc (suc count))) (others.0 ∷ low.0 ∷ high.0 ∷ zs) after (insn.Table low.0 target targets) i (pad + (3 + count) * 4) n
    rest_is all made parts.0 parts.1 (table_size pad count)

table-again : (offset : ℕ) (operands : List ℕ) (i : Insn) (n : ℕ) → n ≤ length operands → switch table_switch offset (take n operands) ≡ Some i → table_at offset operands ≡ Some (i, n)
unfolding table_at
table-again offset operands i n within e =
    let (zs, is) = switch_gives table_switch offset operands i n within e in go zs is where
      go : (zs : List ℤ) → SwitchIs table_switch offset operands i n zs → table_at offset operands ≡ Some (i, n)
      go (others ∷ low ∷ high ∷ jumps) is =
          let pad = padding_at offset in
          let bytes = drop pad operands in
          let tests = cond_some (int_le low high && is_number ((high -ℤ low) +ℤ pos 1) (length jumps)) _ i is.insn_is in
          let both = and_parts (int_le low high) (is_number ((high -ℤ low) +ℤ pos 1) (length jumps)) tests.0 in
          let (target, (target_is, e1)) = and_then_some _ (offset_from (pos offset +ℤ others)) i tests.1 in
          let (targets, (targets_are, whole)) = map_some _ (offsets_from offset jumps) i e1 in
          let (b1, (others_is, n1)) = first_number (suc (suc (length jumps))) bytes others (low ∷ high ∷ jumps) _ is.numbers in
          let (b2, (low_is, n2)) = first_number (suc (length jumps)) b1 low (high ∷ jumps) _ n1 in
          let (b3, (high_is, n3)) = first_number (length jumps) b2 high jumps _ n2 in
          let room = (takes_fours (length jumps) b3 jumps _ n3).long in
          let count_is = keys_give low high (length b3) (length jumps) both.0 both.1 (omega arith) in
          let found = jumps_give offset jumps b3 _ targets n3 targets_are in
          let size : pad + (3 + length jumps) * 4 ≡ n = let all = is.size in omega arith in
          rw (padding_give offset operands is.room, others_is, low_is, high_is, count_is, target_is, found) (λ k. Some (whole k, size k))
      go zs is = absurd (none-some i is.insn_is)

pub table_reads : IsReadBy (switch table_switch) table_at
table_reads = record { takes = table-takes; again = table-again }

-- ---- lookupswitch

lookup_made : (offset : ℕ) (others count : ℤ) (zs keys jumps : List ℤ) (target : ℕ) (targets : List ℕ) → pairs_of zs ≡ Some (keys, jumps) → is_number count (length keys) ≡ true
    → are_rising keys ≡ true → offset_from (pos offset +ℤ others) ≡ Some target → offsets_from offset jumps ≡ Some targets
    → lookup_switch offset (others ∷ count ∷ zs) ≡ Some (insn.Lookup target keys targets)
lookup_made offset others count zs keys jumps target targets pairs counted rising first all = rw (pairs, counted, rising, first, all) refl

-- the pieces of a lookupswitch
lookup_found : (offset : ℕ) (operands rest : List ℕ) (others : ℤ) (b1 : List ℕ) (count : ℤ) (b2 : List ℕ) (pairs target : ℕ) (keys : List ℤ) (targets : List ℕ)
    → after_padding offset operands ≡ Some rest → take_number rest ≡ Some (others, b1) → take_number b1 ≡ Some (count, b2) → pair_count count (length b2) ≡ Some pairs
    → target_at offset others ≡ Some target → pairs_at offset pairs b2 ≡ Some (keys, targets) → are_rising keys ≡ true
    → lookup_at offset operands ≡ Some (insn.Lookup target keys targets, padding_at offset + (2 + 2 * pairs) * 4)
unfolding lookup_at
lookup_found offset operands rest others b1 count b2 pairs target keys targets e1 e2 e3 e4 e5 e6 e7 = rw (e1, e2, e3, e4, e5, e6, e7) refl

lookup_size : (pad pairs : ℕ) → pad + (2 + 2 * pairs) * 4 ≡ pad + 4 * suc (suc (2 * pairs))
lookup_size pad pairs = omega arith

lookup-takes : (offset : ℕ) (operands : List ℕ) (i : Insn) (n : ℕ) → lookup_at offset operands ≡ Some (i, n) → (n ≤ length operands) × (switch lookup_switch offset (take n operands) ≡ Some i)
unfolding lookup_at
lookup-takes offset operands i n e =
    let pad = padding_at offset in
    let (rest, (rest_is, e1)) = and_then_some _ (after_padding offset operands) (i, n) e in
    let (others, (others_is, e2)) = and_then_some _ (take_number rest) (i, n) e1 in
    let (count, (count_is, e3)) = and_then_some _ (take_number others.1) (i, n) e2 in
    let (pairs, (pairs_is, e4)) = and_then_some _ (pair_count count.0 (length count.1)) (i, n) e3 in
    let (target, (target_is, e5)) = and_then_some _ (target_at offset others.0) (i, n) e4 in
    let (p, (p_is, e6)) = and_then_some _ (pairs_at offset pairs count.1) (i, n) e5 in
    let rising = cond_some (are_rising p.0) _ (i, n) e6 in
    let parts = some_pair_parts (insn.Lookup target p.0 p.1) i (pad + (2 + 2 * pairs) * 4) n rising.1 in
    let (zs, (after, (jumps, (numbers, (pairs_are, (offsets, keys)))))) = pairs_take offset pairs count.1 p.0 p.1 p_is in
    let all : numbers_in (suc (suc (2 * pairs))) rest ≡ Some (others.0 ∷ count.0 ∷ zs, after) =
    numbers_step (suc (2 * pairs)) rest others.0 others.1 (count.0 ∷ zs) after others_is (numbers_step (2 * pairs) others.1 count.0 count.1 zs after count_is numbers) in
    let is = pairs_counted count.0 (length count.1) pairs pairs_is in
    let counted : is_number count.0 (length p.0) ≡ true = ap (λ (z : ℤ). is_number z (length p.0)) is ∙ eq-eqb pairs (length p.0) (sym keys) in
    let made = lookup_made offset others.0 count.0 zs p.0 jumps target p.1 pairs_are counted rising.0 target_is offsets in
    switch_takes lookup_switch offset operands rest (suc (suc (2 * pairs))) (others.0 ∷ count.0 ∷ zs) after (insn.Lookup target p.0 p.1) i (pad + (2 + 2 * pairs) * 4) n
    rest_is all made parts.0 parts.1 (lookup_size pad pairs)

lookup-again : (offset : ℕ) (operands : List ℕ) (i : Insn) (n : ℕ) → n ≤ length operands → switch lookup_switch offset (take n operands) ≡ Some i → lookup_at offset operands ≡ Some (i, n)
unfolding lookup_at
lookup-again offset operands i n within e =
    let (zs, is) = switch_gives lookup_switch offset operands i n within e in go zs is where
      go : (zs : List ℤ) → SwitchIs lookup_switch offset operands i n zs → lookup_at offset operands ≡ Some (i, n)
      go (others ∷ count ∷ numbers) is =
          let pad = padding_at offset in
          let bytes = drop pad operands in
          let (p, (p_is, e1)) = and_then_some _ (pairs_of numbers) i is.insn_is in
          let tests = cond_some (is_number count (length p.0) && are_rising p.0) _ i e1 in
          let both = and_parts (is_number count (length p.0)) (are_rising p.0) tests.0 in
          let (target, (target_is, e2)) = and_then_some _ (offset_from (pos offset +ℤ others)) i tests.1 in
          let (targets, (targets_are, whole)) = map_some _ (offsets_from offset p.1) i e2 in
          let (b1, (others_is, n1)) = first_number (suc (length numbers)) bytes others (count ∷ numbers) _ is.numbers in
          let (b2, (count_is, n2)) = first_number (length numbers) b1 count numbers _ n1 in
          let room = (takes_fours (length numbers) b2 numbers _ n2).long in
          let found = pairs_give offset numbers b2 _ p targets n2 p_is targets_are in
          let double = found.1 in
          let pairs_is : pair_count count (length b2) ≡ Some (length p.0) =
          ap (λ (z : ℤ). pair_count z (length b2)) (is_number_pos count (length p.0) both.0) ∙ count_pairs (length b2) (length p.0) (omega arith) in
          let size : pad + (2 + 2 * length p.0) * 4 ≡ n = let all = is.size in omega arith in
          lookup_found offset operands bytes others b1 count b2 (length p.0) target p.0 targets (padding_give offset operands is.room) others_is count_is pairs_is target_is found.0 both.1
          ∙ (λ k. Some (whole k, size k))
      go zs is = absurd (none-some i is.insn_is)

pub lookup_reads : IsReadBy (switch lookup_switch) lookup_at
lookup_reads = record { takes = lookup-takes; again = lookup-again }
