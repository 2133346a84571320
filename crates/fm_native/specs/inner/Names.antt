-- The texts of objects, as the code finds them.
use Rattle.std.specs.Prelude.{ℕ, List}
use Rattle.fm_frames.specs.NativeRows.{type_name}
use Rattle.fm_frames.specs.Sights.{type_numbered}
use Rattle.fm_native.specs.declared.asked.Held.{Held}
use Rattle.fm_world.specs.Programs.{Outline}

-- the name of the type of an object that was found
abbrev pub type_name_of : Outline → Held → List ℕ
type_name_of o held = type_name o (type_numbered o held.head.class)
