-- Units as their characters, one after the other.
use Rattle.std.proofs.Common.{◌&&◌, ◌≡◌, ℕ, true, false, Option, Some, List, [], ◌∷◌, ◌++◌, refl, sym, ap, ◌∙◌, map}
use Rattle.std.specs.Char.{encode_utf8}
use Rattle.std.specs.Char.Utf16.{is_high_surrogate, is_low_surrogate, lone_unit_char, surrogate_pair_char, utf16_chars}
use Rattle.std.specs.Str.{encode_utf8_all}
use Rattle.fm_base.specs.Texts.{shown, utf8}

-- the characters of units, by the first one or by a pair
pub no_units : (us : List ℕ) → us ≡ [] → utf16_chars us ≡ []
unfolding utf16_chars
no_units us none = ap utf16_chars none

pub with_pair : (us after rest : List ℕ) (u v : ℕ) → us ≡ u ∷ after → after ≡ v ∷ rest → true ≡ (is_high_surrogate u && is_low_surrogate v)
    → utf16_chars us ≡ Some (surrogate_pair_char u v) ∷ utf16_chars rest
unfolding utf16_chars
with_pair us after rest u v is next pair = ap utf16_chars (is ∙ ap (λ vs. u ∷ vs) next) ∙ rw (← pair) refl

pub without_pair : (us after rest : List ℕ) (u v : ℕ) → us ≡ u ∷ after → after ≡ v ∷ rest → false ≡ (is_high_surrogate u && is_low_surrogate v)
    → utf16_chars us ≡ lone_unit_char u ∷ utf16_chars after
unfolding utf16_chars
without_pair us after rest u v is next apart =
    ap utf16_chars (is ∙ ap (λ vs. u ∷ vs) next) ∙ (rw (← apart) refl ∙ ap (λ vs. lone_unit_char u ∷ utf16_chars vs) (sym next))

pub with_last : (us after : List ℕ) (u : ℕ) → us ≡ u ∷ after → after ≡ [] → utf16_chars us ≡ lone_unit_char u ∷ utf16_chars after
unfolding utf16_chars
with_last us after u is last = ap utf16_chars (is ∙ ap (λ vs. u ∷ vs) last) ∙ ap (λ vs. lone_unit_char u ∷ utf16_chars vs) (sym last)

-- what is printed of units, by their first character
pub utf8_none : (text : List ℕ) → utf16_chars text ≡ [] → utf8 text ≡ []
unfolding utf8
utf8_none text none = ap (λ cs. encode_utf8_all (map shown cs)) none

pub utf8_next : (text after : List ℕ) (character : Option ℕ) → utf16_chars text ≡ character ∷ utf16_chars after
    → utf8 text ≡ encode_utf8 (shown character) ++ utf8 after
unfolding utf8
utf8_next text after character next = ap (λ cs. encode_utf8_all (map shown cs)) next
