-- Texts that get their numbers one after the other, each once by its units.
use Rattle.std.specs.Prelude.{◌≡◌, ℕ, ◌<◌, List, [], length, map, Option, None}
use Rattle.std.specs.List.{slice_index_or}
use Rattle.std.specs.Str.{bytes_eq}
use Rattle.fm_base.specs.Texts.{units, IsModifiedUtf8}
use Rattle.fm_world.specs.Chains.{distinct}
use Rattle.fm_world.specs.Numbers.{text_number}
use Rattle.fm_link_records.specs.inner.InTurn.{with_one}

-- the units of the text of a number
abbrev pub units_at : List (List ℕ) → ℕ → List ℕ
units_at texts n = units (slice_index_or texts n [])

-- no text occurs twice
abbrev pub AreApart : List (List ℕ) → Type 0
AreApart texts = (m n : ℕ) → m < length texts → n < length texts → slice_index_or texts m [] ≡ slice_index_or texts n [] → m ≡ n

-- the number is that of a text in modified UTF-8
pub record IsModified (texts : List (List ℕ)) (n : ℕ) : Type 0 where
  pub within : n < length texts
  pub modified : IsModifiedUtf8 (slice_index_or texts n [])

-- the units of the texts of these numbers, in order, each content once
unfoldable pub literals_by : List (List ℕ) → List ℕ → List (List ℕ)
literals_by texts named = distinct bytes_eq (map (units_at texts) named)

-- one text more, unless its units are there
abbrev pub with_text : List (List ℕ) → List (List ℕ) → ℕ → List (List ℕ)
with_text texts found text = with_one bytes_eq found (units_at texts text)

-- for each text in modified UTF-8 its number among those found, if it has one
pub record AreNumbered (texts found : List (List ℕ)) (by_text : List (Option ℕ)) : Type 0 where
  pub count : length by_text ≡ length texts
  pub numbers : (n : ℕ) → IsModified texts n → slice_index_or by_text n None ≡ text_number found (units_at texts n)
