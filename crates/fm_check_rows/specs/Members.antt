-- Which programs the rows are asked of. Linking makes sure that each use names what is there.
use Rattle.std.specs.Prelude.{ℕ}
pub use Rattle.fm_types.specs.Named.{NamesMember}
use Rattle.fm_world.specs.Programs.{Program, use_of}

-- each use of the program that names a field or a method names one that is there
abbrev pub UsesNameMembers : Program → Type 0
UsesNameMembers p = (class index : ℕ) → NamesMember p.outline (use_of p class index)
