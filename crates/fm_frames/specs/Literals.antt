-- Which literals there are: those of the texts by their numbers, and after them the class literals of the types (JVMS 5.1, 6.5.ldc).
use Rattle.std.specs.Prelude.{ℕ, ◌+◌, length, Option, Some, None}
use Rattle.fm_world.specs.Programs.{Outline}
use Rattle.fm_world.specs.declared.uses.Use.{Use}
use Rattle.fm_world.specs.declared.uses.Use.TheVariants as resolved

-- how many there are
abbrev pub literal_count : Outline → ℕ
literal_count o = length o.texts + length o.types

-- the number of a type's class literal
abbrev pub class_literal : Outline → ℕ → ℕ
class_literal o type = length o.texts + type

-- the literal that an index refers to (JVMS 6.5.ldc)
abbrev pub literal_named : Outline → Use → Option ℕ
literal_named o (resolved.OfText text) = Some text
literal_named o (resolved.OfType t) = Some (class_literal o t.0)
literal_named o u = None
