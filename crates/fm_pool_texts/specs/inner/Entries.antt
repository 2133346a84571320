-- The text of an entry, and the key of a member.
use Rattle.std.specs.Prelude.{ℕ, List, [], ◌∷◌, Option, slice_index}
use Rattle.std.specs.Ordering.{nat_cmp, ordering_then}
use Rattle.std.specs.declared.cmp.Ordering.{Ordering}
use Rattle.fm_code.specs.ConstantPool.{utf8_at}
use Rattle.fm_code.specs.declared.class_file.Member.{Member}
use Rattle.fm_code.specs.declared.constant_pool.Entry.{Entry}

-- the text that an entry is
abbrev pub own_text : Entry → Option (List ℕ)
own_text e = utf8_at (e ∷ []) 0

-- the numbers of a member's name and descriptor
abbrev pub key_of : List ℕ → Member → ℕ × ℕ
key_of numbers m = (slice_index numbers m.name, slice_index numbers m.descriptor)

-- how pairs of numbers are ordered
abbrev pub pair_order : ℕ × ℕ → ℕ × ℕ → Ordering
pair_order x y = ordering_then (nat_cmp x.0 y.0) (nat_cmp x.1 y.1)
