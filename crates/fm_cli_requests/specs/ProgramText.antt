-- The words that ask for a text of a program: its help or its version.
use Rattle.std.specs.Prelude.{ℕ, List, [], ◌∷◌, Contains, codes}
use Rattle.fm_cli_requests.specs.declared.program_text.ProgramText.{ProgramText}
use Rattle.fm_cli_requests.specs.declared.program_text.ProgramText.TheVariants as text

-- the words of which each asks for the text
abbrev pub text_words : ProgramText → List (List ℕ)
text_words text.Help = codes "--help" ∷ codes "-h" ∷ []
text_words text.Version = codes "--version" ∷ codes "-V" ∷ []

-- the words ask for the text: they are one word, and it is one of those
abbrev pub AskForText : List (List ℕ) → ProgramText → Type 0
AskForText [] asked = ⊥
AskForText (word ∷ []) asked = Contains (text_words asked) word
AskForText (word ∷ next ∷ words) asked = ⊥

-- they ask for none
abbrev pub AskForNoText : List (List ℕ) → Type 0
AskForNoText words = (asked : ProgramText) → ¬ AskForText words asked
