-- Texts of the command line as class files spell them (JVMS 4.4.7).
use Rattle.std.specs.Prelude.{ℕ, List}
use Rattle.std.specs.Char.Escape.{encode_utf16}
use Rattle.std.specs.List.{flat_map}
use Rattle.std.specs.Str.{chars}
use Rattle.fm_base.specs.Texts.{unit_bytes}

-- the modified UTF-8 of a text in UTF-8: the shortest bytes of each of its units in UTF-16
unfoldable pub modified : List ℕ → List ℕ
modified text = flat_map unit_bytes (flat_map encode_utf16 (chars text))
