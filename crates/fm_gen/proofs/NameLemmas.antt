-- The names of the methods: a letter before a decimal number.
use Rattle.std.proofs.Common.{◌≡◌, ◌≢◌, ◌≤◌, ◌<◌, ◌^◌, ℕ, Bool, true, List, [], ◌∷◌, length, refl, arith}
use Rattle.std.specs.Fmt.{decimal}
use Rattle.std.specs.List.{AllByRecursion, list_all}
use Rattle.std.specs.Prelude.{◌==◌, ◌||◌, not}
use Rattle.std.proofs.lemmas.Bool.{ne_eqb}
use Rattle.std.proofs.lemmas.Fmt.{decimal_by_steps, decimal_injective, length-decimal-le}
use Rattle.fm_base.proofs.ListFacts.{AllByRecursion-append, AllByRecursion-weaker, same_head, same_tail}
use Rattle.fm_base.proofs.TextsLemmas.{IsModifiedUtf8-plain}
use Rattle.fm_base.specs.Texts.{IsModifiedUtf8}
use Rattle.fm_base.specs.declared.characters.TheConstants.{GREATER_THAN, LESS_THAN}
use Rattle.fm_code.specs.Fits.{AreBytes}
use Rattle.fm_code.specs.Names.{is_method_name, is_name_character}

-- ---- digits

abbrev IsDigit : ℕ → Type 0
IsDigit c = (48 ≤ c) × (c ≤ 57)

are_digits : (n : ℕ) → n < 2 ^ 64 → AllByRecursion IsDigit (decimal n)
are_digits =
    decimal_by_steps (λ n ds. AllByRecursion IsDigit ds) (λ n below. ((omega arith, omega arith), tt))
    (λ n ds ten so_far. AllByRecursion-append IsDigit ds _ so_far ((omega arith, omega arith), tt))

name_digit : (c : ℕ) → IsDigit c → is_name_character c ≡ true
name_digit c (low, high) = rw (ne_eqb c 46 (λ e. omega arith), ne_eqb c 59 (λ e. omega arith), ne_eqb c 91 (λ e. omega arith), ne_eqb c 47 (λ e. omega arith)) refl

plain_digit : (c : ℕ) → IsDigit c → not ((c == LESS_THAN) || (c == GREATER_THAN)) ≡ true
plain_digit c (low, high) = rw (ne_eqb c 60 (λ e. omega arith), ne_eqb c 62 (λ e. omega arith)) refl

all_pass : (p : ℕ → Bool) → ((c : ℕ) → IsDigit c → p c ≡ true) → (ds : List ℕ) → AllByRecursion IsDigit ds → list_all p ds ≡ true
all_pass p passes [] all = refl
all_pass p passes (d ∷ ds) all = rw (passes d all.0, all_pass p passes ds all.1) refl

-- ---- a letter and digits

-- a letter from a to z
abbrev pub IsLetter : ℕ → Type 0
IsLetter c = (97 ≤ c) × (c ≤ 122)

abbrev pub named : ℕ → ℕ → List ℕ
named letter n = letter ∷ decimal n

pub named_plain : (letter n : ℕ) → IsLetter letter → n < 2 ^ 64 → IsModifiedUtf8 (named letter n)
named_plain letter n is small =
    IsModifiedUtf8-plain (named letter n)
    ((omega arith, omega arith), AllByRecursion-weaker IsDigit (λ c. (0 < c) × (c < 128)) (λ c digit. (omega arith, omega arith)) (decimal n) (are_digits n small))

pub named_bytes : (letter n : ℕ) → IsLetter letter → n < 2 ^ 64 → AreBytes (named letter n)
named_bytes letter n is small = (omega arith, AllByRecursion-weaker IsDigit (λ c. c < 256) (λ c digit. omega arith) (decimal n) (are_digits n small))

pub named_short : (letter n : ℕ) → n < 100000 → length (named letter n) ≤ 6
named_short letter n small = let few = length-decimal-le 5 n (omega arith) (omega arith) (omega arith) in omega arith

letter_passes : (letter : ℕ) → IsLetter letter → is_name_character letter ≡ true
letter_passes c (low, high) = rw (ne_eqb c 46 (λ e. omega arith), ne_eqb c 59 (λ e. omega arith), ne_eqb c 91 (λ e. omega arith), ne_eqb c 47 (λ e. omega arith)) refl

letter_plain : (letter : ℕ) → IsLetter letter → not ((letter == LESS_THAN) || (letter == GREATER_THAN)) ≡ true
letter_plain c (low, high) = rw (ne_eqb c 60 (λ e. omega arith), ne_eqb c 62 (λ e. omega arith)) refl

pub named_method : (letter n : ℕ) → IsLetter letter → n < 2 ^ 64 → is_method_name (named letter n) ≡ true
named_method letter n is small =
    let digits = are_digits n small in
    rw (
      letter_passes letter is,
      all_pass is_name_character name_digit (decimal n) digits,
      letter_plain letter is,
      all_pass (λ c. not ((c == LESS_THAN) || (c == GREATER_THAN))) plain_digit (decimal n) digits,
    ) refl

-- ---- different names

pub other_number : (letter i j : ℕ) → i < j → j < 2 ^ 64 → named letter i ≢ named letter j
other_number letter i j less small same = let equal = decimal_injective i j (omega arith) small (same_tail letter letter (decimal i) (decimal j) same) in omega arith

pub other_letter : (a b : ℕ) (xs ys : List ℕ) → a ≢ b → (a ∷ xs) ≢ (b ∷ ys)
other_letter a b xs ys other same = other (same_head a b xs ys same)
