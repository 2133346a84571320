-- Which instruction may cost more than 1.
use Rattle.std.specs.Prelude.{ℕ, Bool, true, false, Option, Some, None}
use Rattle.fm_code.specs.declared.instructions.Insn.{Insn}
use Rattle.fm_code.specs.declared.instructions.Insn.TheVariants as insn
use Rattle.fm_world.specs.declared.uses.Use.{Use}
use Rattle.fm_world.specs.declared.uses.Use.TheVariants as used

-- the index and the dimensions of the instruction that makes arrays of arrays, and none of another one
abbrev pub nest_of : Insn → Option (ℕ × ℕ)
nest_of (insn.MultiArray index dimensions) = Some (index, dimensions)
nest_of other = None

-- an index refers to a type
abbrev pub is_type : Use → Bool
is_type (used.OfType t) = true
is_type other = false
