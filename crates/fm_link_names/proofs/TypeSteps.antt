-- Descriptors byte by byte.
use Rattle.std.proofs.Common.{◌≡◌, sym, ◌∙◌, ap, ℕ, ◌+◌, ◌<◌, true, false, cond, List, [], ◌∷◌, ◌++◌, length, take, drop, get_or, nat_eq, Some, append_assoc}
use Rattle.std.proofs.lemmas.List.{take_more}
use Rattle.fm_base.proofs.ListFacts.{drop_here}
use Rattle.fm_base.specs.declared.characters.TheConstants.{SEMICOLON}
use Rattle.fm_code.specs.Names.{object}
use Rattle.fm_world.specs.Descriptors.{typed, types_from, types_in}

-- ---- names of classes

-- what has been passed belongs to the name
abbrev pub IsPassed : List ℕ → ℕ → Type 0
IsPassed bytes i =
    (dimensions : ℕ) (name : List ℕ) → types_from dimensions (Some name) bytes ≡ types_from dimensions (Some (name ++ take i bytes)) (drop i bytes)

pub passed_here : (bytes : List ℕ) (i b : ℕ) → i < length bytes → b ≡ get_or bytes i b → IsPassed bytes i → (dimensions : ℕ) (name : List ℕ)
    → types_from dimensions (Some name) bytes ≡ types_from dimensions (Some (name ++ take i bytes)) (b ∷ drop (i + 1) bytes)
passed_here bytes i b within is passed dimensions name =
    passed dimensions name ∙ ap (types_from dimensions (Some (name ++ take i bytes))) (drop_here bytes i b within is)

pub one_more_passed : (bytes : List ℕ) (i b : ℕ) → i < length bytes → b ≡ get_or bytes i b → nat_eq b SEMICOLON ≡ false → IsPassed bytes i
    → IsPassed bytes (i + 1)
one_more_passed bytes i b within is other passed dimensions name =
    passed_here bytes i b within is passed dimensions name
    ∙ ap (λ t. cond t (typed dimensions (object (name ++ take i bytes)) ∷ types_in (drop (i + 1) bytes))
    (types_from dimensions (Some ((name ++ take i bytes) ++ b ∷ [])) (drop (i + 1) bytes))) other
    ∙ ap (λ n. types_from dimensions (Some n) (drop (i + 1) bytes))
    (append_assoc name (take i bytes) (b ∷ []) ∙ ap (λ ys. name ++ ys) (ap (λ x. take i bytes ++ x ∷ []) is ∙ sym (take_more bytes i b within)))

pub name_ends : (bytes : List ℕ) (i b : ℕ) → i < length bytes → b ≡ get_or bytes i b → nat_eq b SEMICOLON ≡ true → IsPassed bytes i
    → (dimensions : ℕ) (name : List ℕ)
    → types_from dimensions (Some name) bytes ≡ typed dimensions (object (name ++ take i bytes)) ∷ types_in (drop (i + 1) bytes)
name_ends bytes i b within is semicolon passed dimensions name =
    passed_here bytes i b within is passed dimensions name
    ∙ ap (λ t. cond t (typed dimensions (object (name ++ take i bytes)) ∷ types_in (drop (i + 1) bytes))
    (types_from dimensions (Some ((name ++ take i bytes) ++ b ∷ [])) (drop (i + 1) bytes))) semicolon
