-- What the matches of a command hold, by their rows.
use Rattle.std.proofs.Common.{◌≡◌, ◌↔◌, ◌∙◌, ◌<◌, ℕ, Bool, true, false, IsTrue, Option, Some, None, List, [], ◌∷◌, is_some, length, map, option_map, refl, sym, ap, subst, arith, eqb}
use Rattle.std.specs.Prelude.{not}
use Rattle.std.proofs.lemmas.Bool.{eqb-true, false≢true}
use Rattle.std.proofs.lemmas.Slice.Eq.{bytes_eq-Decides}
use Rattle.std.specs.List.{AllByRecursion}
use Rattle.std.specs.Borrow.{Bor}
use Rattle.std.specs.Str.{bytes_eq}
use Rattle.clap.specs.Words.{all_of, first_of, first_value, matched_of, raw_values, rows_of}
use Rattle.clap.specs.declared.parser.matches.Found.{Found}
use Rattle.clap.proofs.WalkLemmas.{first_value-rows, raw_values-rows}
use Rattle.fm_base.proofs.OptionFacts.{same_value}

-- the texts behind references
abbrev pub texts_of : List (Bor (List ℕ)) → List (List ℕ)
texts_of = map (λ s. s.now)

-- the first value of an id, and that it has none, as a getter returns it
pub first_found : (f : Found) (id : List ℕ) (answer : Option (Bor (List ℕ))) (text : Bor (List ℕ)) →
    option_map (λ s. s.now) answer ≡ first_value f id → answer ≡ Some text → first_of id (rows_of f) ≡ Some text.now
first_found f id answer text got is = sym (first_value-rows f id) ∙ sym got ∙ ap (option_map (λ s. s.now)) is

pub first_missing : (f : Found) (id : List ℕ) (answer : Option (Bor (List ℕ))) (text : List ℕ) →
    option_map (λ s. s.now) answer ≡ first_value f id → answer ≡ None → ¬ (first_of id (rows_of f) ≡ Some text)
first_missing f id answer text got is found =
    let none : first_of id (rows_of f) ≡ None = sym (first_value-rows f id) ∙ sym got ∙ ap (option_map (λ s. s.now)) is in cc

-- all values of an id, and that it has none, as a getter returns them
pub all_found : (f : Found) (id : List ℕ) (answer : Option (Bor (List (Bor (List ℕ))))) (values : Bor (List (Bor (List ℕ)))) →
    option_map (λ s. texts_of s.now) answer ≡ option_map raw_values (matched_of f id) → answer ≡ Some values → all_of id (rows_of f) ≡ Some (texts_of values.now)
all_found f id answer values got is = sym (raw_values-rows f id) ∙ sym got ∙ ap (option_map (λ s. texts_of s.now)) is

pub all_missing : (f : Found) (id : List ℕ) (answer : Option (Bor (List (Bor (List ℕ))))) (values : List (List ℕ)) →
    option_map (λ s. texts_of s.now) answer ≡ option_map raw_values (matched_of f id) → answer ≡ None → ¬ (all_of id (rows_of f) ≡ Some values)
all_missing f id answer values got is found =
    let none : all_of id (rows_of f) ≡ None = sym (raw_values-rows f id) ∙ sym got ∙ ap (option_map (λ s. texts_of s.now)) is in cc

-- what holds of the texts behind references holds of the texts, and the other way round
pub of_texts : (P : List ℕ → Type 0) (xs : List (Bor (List ℕ))) → AllByRecursion (λ x. P x.now) xs → AllByRecursion P (texts_of xs)
of_texts P [] h = tt
of_texts P (x ∷ xs) h = (h.0, of_texts P xs h.1)

pub to_texts : (P : List ℕ → Type 0) (xs : List (Bor (List ℕ))) → AllByRecursion P (texts_of xs) → AllByRecursion (λ x. P x.now) xs
to_texts P [] h = tt
to_texts P (x ∷ xs) h = (h.0, to_texts P xs h.1)

-- a value that is found and passes no test isn't that of a job
pub untested : (P : List ℕ → Type 0) (found : Option (List ℕ)) (text value : List ℕ) → (P text → IsTrue false) → found ≡ Some text → found ≡ Some value → ¬ P value
untested P found text value test is same passes =
    let one : value ≡ text = cc in false≢true (test (subst P one passes))

pub untested_all : (P : List ℕ → Type 0) (found : Option (List (List ℕ))) (texts : List (Bor (List ℕ))) (values : List (List ℕ)) →
    (AllByRecursion (λ x. P x.now) texts → IsTrue false) → found ≡ Some (texts_of texts) → found ≡ Some values → ¬ AllByRecursion P values
untested_all P found texts values test is same passes =
    let one : values ≡ texts_of texts = cc in false≢true (test (to_texts P texts (subst (AllByRecursion P) one passes)))

-- nor is an empty list of values
pub empty_all : (found : Option (List (List ℕ))) (texts : List (Bor (List ℕ))) (values : List (List ℕ)) →
    true ≡ eqb (length texts) 0 → found ≡ Some (texts_of texts) → found ≡ Some values → ¬ (0 < length values)
empty_all found [] values empty is same some = let one : values ≡ [] = cc in let none : 0 < 0 = rw one at some in absurd (omega arith)
empty_all found (x ∷ xs) values empty is same some = let none : length (x ∷ xs) ≡ 0 = eqb-true (length (x ∷ xs)) 0 (sym empty) in absurd (omega arith)

pub some_text : (texts : List (Bor (List ℕ))) → false ≡ eqb (length texts) 0 → 0 < length (texts_of texts)
some_text [] empty = absurd (false≢true empty)
some_text (x ∷ xs) empty = omega arith

-- the first value of an id, if any, is what a getter returns
pub first_is : (f : Found) (id : List ℕ) (answer : Option (Bor (List ℕ))) → option_map (λ s. s.now) answer ≡ first_value f id → first_of id (rows_of f) ≡ option_map (λ s. s.now) answer
first_is f id answer got = sym (first_value-rows f id) ∙ sym got

-- whether there is none, as a getter finds it
pub lacks_first : (f : Found) (id : List ℕ) (answer : Option (Bor (List ℕ))) (r : Bool) → option_map (λ s. s.now) answer ≡ first_value f id → is_some answer ≡ not r
    → IsTrue r ↔ (first_of id (rows_of f) ≡ None)
lacks_first f id None true got is = (λ t. first_is f id None got, λ none. refl)
lacks_first f id None false got is = absurd (false≢true is)
lacks_first f id (Some text) true got is = absurd (false≢true (sym is))
lacks_first f id (Some text) false got is = (λ t. absurd (false≢true t), λ none. absurd (let some = first_is f id (Some text) got in cc))

pub lacks_all : (f : Found) (id : List ℕ) (answer : Option (Bor (List (Bor (List ℕ))))) (r : Bool) → option_map (λ s. texts_of s.now) answer ≡ option_map raw_values (matched_of f id)
    → is_some answer ≡ not r → IsTrue r ↔ (all_of id (rows_of f) ≡ None)
lacks_all f id None true got is = (λ t. sym (raw_values-rows f id) ∙ sym got, λ none. refl)
lacks_all f id None false got is = absurd (false≢true is)
lacks_all f id (Some texts) true got is = absurd (false≢true (sym is))
lacks_all f id (Some texts) false got is = (λ t. absurd (false≢true t), λ none. absurd (let some = sym (raw_values-rows f id) ∙ sym got in cc))

-- whether the first value of an id is this text, as a comparison finds it
pub first_tested : (f : Found) (id text : List ℕ) (answer : Option (Bor (List ℕ))) (found : Bor (List ℕ)) (r : Bool) → option_map (λ s. s.now) answer ≡ first_value f id
    → answer ≡ Some found → r ≡ bytes_eq found.now text → IsTrue r ↔ (first_of id (rows_of f) ≡ Some text)
first_tested f id text answer found r got is tested =
    let there = first_found f id answer found got is in
    let decides = bytes_eq-Decides found.now text in (
      λ same. there ∙ ap (λ t. Some t) (decides.0 (sym tested ∙ same)),
      λ value. tested ∙ decides.1 (same_value (first_of id (rows_of f)) found.now text there value),
    )

-- where there is none it isn't
pub none_tested : (f : Found) (id text : List ℕ) (answer : Option (Bor (List ℕ))) → option_map (λ s. s.now) answer ≡ first_value f id → answer ≡ None
    → IsTrue false ↔ (first_of id (rows_of f) ≡ Some text)
none_tested f id text answer got is = (λ same. absurd (false≢true same), λ value. absurd (first_missing f id answer text got is value))
