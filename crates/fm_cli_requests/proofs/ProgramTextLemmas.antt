-- Which text a word asks for.
use Rattle.std.proofs.Common.{◌≡◌, ◌<◌, ◌≤◌, ◌⊎◌, ℕ, inl, inr, List, [], ◌∷◌, Contains, Option, MatchOption, String, string_bytes, length, eqb, eq-eqb, false, refl, sym, ◌∙◌, ap, subst, get_or, arith, codes}
use Rattle.std.proofs.lemmas.Bool.{false≢true}
use Rattle.fm_base.proofs.ContainsFacts.{Contains-cons_cases}
use Rattle.fm_cli.specs.Words.{texts}
use Rattle.fm_cli_requests.specs.ProgramText.{AskForNoText, AskForText, text_words}
use Rattle.fm_cli_requests.specs.inner.ProgramText.{AsksForNoText, AsksForText}
use Rattle.fm_cli_requests.specs.declared.program_text.ProgramText.{ProgramText}
use Rattle.fm_cli_requests.specs.declared.program_text.ProgramText.TheVariants as text

-- a member of a list of two is one of them
one_of : (b word : List ℕ) → Contains (b ∷ []) word → word ≡ b
one_of b word among = go (Contains-cons_cases b [] word among) where
  go : (word ≡ b) ⊎ Contains [] word → word ≡ b
  go (inl same) = same
  go (inr none) = absurd (let inside = none.1 in omega arith)

pub one_of_two : (a b word : List ℕ) → Contains (a ∷ b ∷ []) word → (word ≡ a) ⊎ (word ≡ b)
one_of_two a b word among = go (Contains-cons_cases a (b ∷ []) word among) where
  go : (word ≡ a) ⊎ Contains (b ∷ []) word → (word ≡ a) ⊎ (word ≡ b)
  go (inl same) = inl same
  go (inr rest) = inr (one_of b word rest)

-- a word isn't two words with other letters at one place
letters_apart : (place : ℕ) (a b word : List ℕ) → eqb (get_or a place 0) (get_or b place 0) ≡ false → word ≡ a → word ≡ b → ⊥
letters_apart place a b word unlike is also =
    false≢true (sym unlike ∙ eq-eqb (get_or a place 0) (get_or b place 0) (ap (λ (w : List ℕ). get_or w place 0) (sym is ∙ also)))

not_both : (word : List ℕ) → Contains (text_words text.Help) word → Contains (text_words text.Version) word → ⊥
not_both word help version = go (one_of_two (codes "--help") (codes "-h") word help) (one_of_two (codes "--version") (codes "-V") word version) where
  go : (word ≡ codes "--help") ⊎ (word ≡ codes "-h") → (word ≡ codes "--version") ⊎ (word ≡ codes "-V") → ⊥
  go (inl a) (inl b) = letters_apart 2 (codes "--help") (codes "--version") word refl a b
  go (inl a) (inr b) = letters_apart 1 (codes "--help") (codes "-V") word refl a b
  go (inr a) (inl b) = letters_apart 1 (codes "-h") (codes "--version") word refl a b
  go (inr a) (inr b) = letters_apart 1 (codes "-h") (codes "-V") word refl a b

-- words ask for one text at most
pub one_text : (words : List (List ℕ)) (a b : ProgramText) → AskForText words a → AskForText words b → a ≡ b
one_text [] a b asks also = absurd asks
one_text (word ∷ []) text.Help text.Help asks also = refl
one_text (word ∷ []) text.Help text.Version asks also = absurd (not_both word asks also)
one_text (word ∷ []) text.Version text.Help asks also = absurd (not_both word also asks)
one_text (word ∷ []) text.Version text.Version asks also = refl
one_text (word ∷ next ∷ words) a b asks also = absurd asks

-- one word of a slice asks for what its text asks for
pub asked_of_one : {Y : Type 0} (words : List (String Y)) (word : String Y) (spelled : List ℕ) (asked : Option ProgramText) → 1 ≤ length words → length words < 2
    → word ≡ get_or words 0 word → spelled ≡ string_bytes word → MatchOption asked (AsksForNoText spelled) (λ a. AsksForText spelled a)
    → MatchOption asked (AskForNoText (texts words)) (λ a. AskForText (texts words) a)
asked_of_one [] word spelled asked some few is same h = absurd (omega arith)
asked_of_one (first ∷ []) word spelled asked some few is same h =
    let P : List ℕ → Type 0 = λ bytes. MatchOption asked (AsksForNoText bytes) (λ a. AsksForText bytes a) in
    subst P (same ∙ ap string_bytes is) h
asked_of_one (first ∷ second ∷ rest) word spelled asked some few is same h = absurd (omega arith)
