-- The bytes of an instruction as they are kept in memory.
use Rattle.std.specs.Prelude.{ℕ, ◌≤◌, List, take}
use Rattle.fm_code.specs.declared.insn_bytes.TheConstants.{MAX_PLAIN_BYTES}
use Rattle.fm_code.specs.declared.insn_bytes.StoredBytes.{StoredBytes}
use Rattle.fm_code.specs.declared.insn_bytes.StoredBytes.TheVariants.{Few, Many}

-- the first bytes of those that lie in place, or those in the box
abbrev pub stored_bytes : StoredBytes → List ℕ
stored_bytes (Few bytes count) = take count bytes
stored_bytes (Many bytes) = bytes.value.items

-- no more bytes count than lie in place
abbrev pub AreStored : StoredBytes → Type 0
AreStored (Few bytes count) = count ≤ MAX_PLAIN_BYTES
AreStored (Many bytes) = Unit {0}
