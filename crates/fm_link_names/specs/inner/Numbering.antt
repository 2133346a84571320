-- The texts by number, and the numbers of texts.
use Rattle.std.specs.Prelude.{◌≡◌, ◌≤◌, ◌^◌, ℕ, List, map, length, Option, Some, None, slice_get, []}
use Rattle.std.specs.Borrow.{Bor}
use Rattle.std.specs.List.{slice_index_or}
use Rattle.fm_code.specs.declared.constant_pool.Entry.{Entry}
use Rattle.fm_code.specs.declared.constant_pool.Entry.TheVariants as entry
use Rattle.fm_link_names.specs.declared.texts.Texts.{Texts}

-- what is lent
abbrev pub lent : List (Bor (List ℕ)) → List (List ℕ)
lent texts = map (λ (b : Bor (List ℕ)). b.now) texts

-- the texts by number
abbrev pub texts_in : Texts → List (List ℕ)
texts_in t = lent t.texts.keys

-- each text is at one place only, and its place is a number of 32 bits
pub record AreTexts (t : Texts) : Type 0 where
  pub once : (m n : ℕ) (text : List ℕ) → slice_get (texts_in t) m ≡ Some text → slice_get (texts_in t) n ≡ Some text → m ≡ n
  pub fits : length t.texts.keys ≤ 2 ^ 32

-- the text of a number, the empty one past the end
abbrev pub text_of : List (List ℕ) → ℕ → List ℕ
text_of texts n = slice_index_or texts n []

-- a number is that of the text, where there is one
abbrev pub IsNumberOf : List (List ℕ) → Option (List ℕ) → Option ℕ → Type 0
IsNumberOf texts None None = Unit {0}
IsNumberOf texts None (Some n) = ⊥
IsNumberOf texts (Some text) None = ⊥
IsNumberOf texts (Some text) (Some n) = slice_get texts n ≡ Some text

-- the text that an entry is
abbrev pub entry_text : Entry → Option (List ℕ)
entry_text (entry.Utf8 name) = Some name
entry_text e = None

-- texts that begin with all earlier ones: numbers keep their texts
abbrev pub Extends : List (List ℕ) → List (List ℕ) → Type 0
Extends old new = (n : ℕ) (text : List ℕ) → slice_get old n ≡ Some text → slice_get new n ≡ Some text
