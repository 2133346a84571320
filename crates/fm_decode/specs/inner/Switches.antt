-- The switches, from what follows their opcodes, each with the number of the bytes that belong to it.
use Rattle.std.specs.Prelude.{ℕ, zero, suc, ◌+◌, ◌*◌, ◌/◌, nat_lt, List, [], ◌∷◌, length, drop, Option, Some, None, ℤ, pos, negsuc, ◌+ℤ◌, ◌-ℤ◌, int_lt, if◌then◌else◌}
use Rattle.fm_code.specs.Numbers.{signed_four_of}
use Rattle.fm_code.specs.InstructionTable.{padding_at, offset_from, are_rising}
use Rattle.fm_code.specs.declared.instructions.Insn.TheVariants as insn
use Rattle.fm_decode.specs.inner.Gives.{◌>>=◌}
use Rattle.fm_decode.specs.inner.Operands.{Found}

-- the number in the first four bytes, and what follows
abbrev pub take_number : List ℕ → Option (ℤ × List ℕ)
take_number (a ∷ b ∷ c ∷ d ∷ rest) = Some (signed_four_of a b c d, rest)
take_number bytes = None

abbrev pub after_padding : ℕ → List ℕ → Option (List ℕ)
after_padding offset operands = if nat_lt (length operands) (padding_at offset) then None else Some (drop (padding_at offset) operands)

abbrev pub target_at : ℕ → ℤ → Option ℕ
target_at offset jump = offset_from (pos offset +ℤ jump)

-- the natural number that a number is; 0 for one below 0
abbrev pub natural : ℤ → ℕ
natural (pos n) = n
natural (negsuc n) = 0

-- how many keys there are from the least to the greatest, if there are bytes for as many numbers
abbrev pub key_count : ℤ → ℤ → ℕ → Option ℕ
key_count low high left =
    if int_lt high low then None else
    let count = natural ((high -ℤ low) +ℤ pos 1) in if nat_lt (left / 4) count then None else Some count

-- a number of pairs, if there are bytes for as many
abbrev pub pair_count : ℤ → ℕ → Option ℕ
pair_count (pos count) left = if nat_lt (left / 8) count then None else Some count
pair_count (negsuc n) left = None

-- the targets of a given number of jumps
unfoldable pub jumps_at : ℕ → ℕ → List ℕ → Option (List ℕ)
jumps_at offset zero bytes = Some []
jumps_at offset (suc count) bytes = do
  jump ← take_number bytes
  target ← target_at offset jump.0
  targets ← jumps_at offset count jump.1
  Some (target ∷ targets)

-- the keys and the targets of a given number of pairs
unfoldable pub pairs_at : ℕ → ℕ → List ℕ → Option (List ℤ × List ℕ)
pairs_at offset zero bytes = Some ([], [])
pairs_at offset (suc count) bytes = do
  key ← take_number bytes
  jump ← take_number key.1
  target ← target_at offset jump.0
  others ← pairs_at offset count jump.1
  Some (key.0 ∷ others.0, target ∷ others.1)

unfoldable pub table_at : ℕ → List ℕ → Found
table_at offset operands = do
  rest ← after_padding offset operands
  others ← take_number rest
  low ← take_number others.1
  high ← take_number low.1
  count ← key_count low.0 high.0 (length high.1)
  target ← target_at offset others.0
  targets ← jumps_at offset count high.1
  Some (insn.Table low.0 target targets, padding_at offset + (3 + count) * 4)

unfoldable pub lookup_at : ℕ → List ℕ → Found
lookup_at offset operands = do
  rest ← after_padding offset operands
  others ← take_number rest
  count ← take_number others.1
  pairs ← pair_count count.0 (length count.1)
  target ← target_at offset others.0
  p ← pairs_at offset pairs count.1
  if are_rising p.0 then Some (insn.Lookup target p.0 p.1, padding_at offset + (2 + 2 * pairs) * 4) else None
