-- Characters that are spelled one after the other.
use Rattle.std.proofs.Common.{◌≡◌, ◌++◌, ℕ, List, [], ◌∷◌, map, sym, ap, ◌∙◌}
use Rattle.std.specs.Char.Escape.{encode_utf16}
use Rattle.std.specs.List.{flat_map}
use Rattle.std.specs.Str.{chars}
use Rattle.std.proofs.lemmas.Grind.{flat_map-append}
use Rattle.std.proofs.lemmas.List.{append-nil, map-id}
use Rattle.fm_base.specs.Texts.{unit_bytes}
use Rattle.fm_cli.specs.Encoding.{modified}

-- the bytes of characters
abbrev pub spelled : List ℕ → List ℕ
spelled cs = flat_map unit_bytes (flat_map encode_utf16 cs)

-- one more is spelled after them
pub spelled_more : (cs : List ℕ) (c : ℕ) (old new : List ℕ) → old ≡ spelled cs → new ≡ old ++ flat_map unit_bytes (encode_utf16 c) → new ≡ spelled (cs ++ c ∷ [])
spelled_more cs c old new before added =
    let units : flat_map encode_utf16 (cs ++ c ∷ []) ≡ flat_map encode_utf16 cs ++ encode_utf16 c =
    flat_map-append encode_utf16 cs (c ∷ []) ∙ ap (λ (us : List ℕ). flat_map encode_utf16 cs ++ us) (append-nil (encode_utf16 c)) in
    let bytes : spelled (cs ++ c ∷ []) ≡ spelled cs ++ flat_map unit_bytes (encode_utf16 c) =
    ap (flat_map unit_bytes) units ∙ flat_map-append unit_bytes (flat_map encode_utf16 cs) (encode_utf16 c) in
    added ∙ ap (λ (bs : List ℕ). bs ++ flat_map unit_bytes (encode_utf16 c)) before ∙ sym bytes

-- all characters of a text are spelled
pub all_spelled : (text cs bytes : List ℕ) → map (λ (c : ℕ). c) cs ≡ chars text → bytes ≡ spelled cs → bytes ≡ modified text
unfolding modified
all_spelled text cs bytes all are = are ∙ ap spelled (sym (map-id cs) ∙ all)
