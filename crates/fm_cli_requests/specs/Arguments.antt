-- The arguments of main, as a text of the command line gives them.
use Rattle.std.specs.Prelude.{ℕ, List, [], ◌∷◌, eqb}
use Rattle.std.specs.Char.Escape.{encode_utf16}
use Rattle.std.specs.List.{flat_map, slice_split}
use Rattle.std.specs.Str.{chars}

-- the units in UTF-16 of a text in UTF-8
abbrev pub text_units : List ℕ → List ℕ
text_units text = flat_map encode_utf16 (chars text)

-- a piece that has a character is an argument
abbrev pub argument_of : List ℕ → List (List ℕ)
argument_of [] = []
argument_of (byte ∷ bytes) = text_units (byte ∷ bytes) ∷ []

-- the arguments are the pieces between the spaces (32) of a text, in order
abbrev pub arguments_of : List ℕ → List (List ℕ)
arguments_of text = flat_map argument_of (slice_split (λ b. eqb b 32) text)
