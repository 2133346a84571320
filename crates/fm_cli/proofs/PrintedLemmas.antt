-- Names as their characters, one after the other.
use Rattle.std.proofs.Common.{◌≡◌, ℕ, ◌<◌, false, Option, Some, List, [], ◌∷◌, ◌++◌, refl, ap, ◌∙◌, arith, map}
use Rattle.std.proofs.lemmas.Bool.{lt-leb, lt-ltb}
use Rattle.std.proofs.lemmas.Str.{utf16_chars-nil, utf16_chars_lone}
use Rattle.std.specs.Char.{encode_utf8}
use Rattle.std.specs.Char.Utf16.{lone_unit_char, utf16_chars}
use Rattle.std.specs.List.{AllByRecursion}
use Rattle.std.specs.Str.{encode_utf8_all}
use Rattle.fm_base.specs.Texts.{Parted, goes_on, parted, shown, unit_of, units, utf8}
use Rattle.fm_base.proofs.SplitLemmas.{begins_unit}
use Rattle.fm_base.proofs.Utf16Lemmas.{utf8_next, utf8_none}
use Rattle.fm_cli.specs.Printed.{printed}

-- what is printed of a name, by its first character
pub printed_none : (name : List ℕ) → utf16_chars (units name) ≡ [] → printed name ≡ []
unfolding printed
printed_none name none = utf8_none (units name) none

pub printed_next : (name after : List ℕ) (character : Option ℕ) → utf16_chars (units name) ≡ character ∷ utf16_chars (units after) →
    printed name ≡ encode_utf8 (shown character) ++ printed after
unfolding printed
printed_next name after character next = utf8_next (units name) (units after) character next

-- a name of the characters below 128 alone is printed as it is
abbrev IsAscii : List ℕ → Type 0
IsAscii = AllByRecursion (λ byte. byte < 128)

parted_ascii : (name : List ℕ) → IsAscii name → parted name ≡ record { going_on = []; units = name }
parted_ascii [] ascii = refl
parted_ascii (b ∷ name) (low, ascii) =
    let begins : goes_on b ≡ false = rw (lt-leb 128 b low) refl in
    begins_unit b name begins ∙ ap (λ (p : Parted). record { going_on = []; units = unit_of b p.going_on ∷ p.units }) (parted_ascii name ascii)

chars_ascii : (name : List ℕ) → IsAscii name → map shown (utf16_chars name) ≡ name
chars_ascii [] ascii = ap (map shown) utf16_chars-nil
chars_ascii (b ∷ name) (low, ascii) =
    let alone = utf16_chars_lone b name (λ pair. let high = pair.0 in absurd (omega arith)) in
    let plain : lone_unit_char b ≡ Some b = rw (lt-leb 0xD800 b (omega arith)) refl in
    ap (map shown) alone ∙ ap (λ character. shown character ∷ map shown (utf16_chars name)) plain ∙ ap (λ rest. b ∷ rest) (chars_ascii name ascii)

bytes_ascii : (name : List ℕ) → IsAscii name → encode_utf8_all name ≡ name
unfolding encode_utf8
bytes_ascii [] ascii = refl
bytes_ascii (b ∷ name) (low, ascii) = rw (lt-ltb b 128 low) (ap (λ rest. b ∷ rest) (bytes_ascii name ascii))

pub printed_ascii : (name : List ℕ) → AllByRecursion (λ byte. byte < 128) name → printed name ≡ name
unfolding printed utf8
printed_ascii name ascii =
    ap (λ (p : Parted). encode_utf8_all (map shown (utf16_chars p.units))) (parted_ascii name ascii)
    ∙ (ap encode_utf8_all (chars_ascii name ascii) ∙ bytes_ascii name ascii)
