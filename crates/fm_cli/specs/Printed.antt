-- Names of class files as text.
use Rattle.std.specs.Prelude.{ℕ, List}
use Rattle.fm_base.specs.Texts.{units, utf8}

-- the characters that the units of a name spell, in UTF-8
unfoldable pub printed : List ℕ → List ℕ
printed name = utf8 (units name)
