-- What one word asks for.
use Rattle.std.specs.Prelude.{ℕ, List, Contains}
use Rattle.fm_cli_requests.specs.ProgramText.{text_words}
use Rattle.fm_cli_requests.specs.declared.program_text.ProgramText.{ProgramText}

-- the word is one of those of the text
abbrev pub AsksForText : List ℕ → ProgramText → Type 0
AsksForText word asked = Contains (text_words asked) word

-- or of none
abbrev pub AsksForNoText : List ℕ → Type 0
AsksForNoText word = (asked : ProgramText) → ¬ AsksForText word asked
