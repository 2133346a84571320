-- Loops over a list whose rest decides what is still to be made.
use Rattle.std.proofs.Common.{◌≡◌, ℕ, ◌+◌, ◌<◌, ◌≤◌, List, [], ◌∷◌, ◌++◌, length, get_or, drop, sym, ap, ◌∙◌, append_assoc}
use Rattle.std.proofs.Math.ListN.{drop_of_length-le}
use Rattle.std.proofs.lemmas.List.{append-nil}
use Rattle.fm_base.proofs.ListFacts.{drop_here}

-- one element more
pub advanced : {X Y : Type 0} (f : List X → List Y) (piece front : List Y) (xs : List X) (i : ℕ) (x : X) (total : List Y) → i < length xs → x ≡ get_or xs i x
    → f (x ∷ drop (i + 1) xs) ≡ piece ++ f (drop (i + 1) xs) → front ++ f (drop i xs) ≡ total → (front ++ piece) ++ f (drop (i + 1) xs) ≡ total
advanced f piece front xs i x total within is first so_far =
    append_assoc front piece (f (drop (i + 1) xs)) ∙ ap (λ l. front ++ l) (sym first) ∙ ap (λ l. front ++ f l) (sym (drop_here xs i x within is)) ∙ so_far

-- no element is left
pub finished : {X Y : Type 0} (f : List X → List Y) (front : List Y) (xs : List X) (i : ℕ) (total last : List Y) → length xs ≤ i → f [] ≡ last
    → front ++ f (drop i xs) ≡ total → front ++ last ≡ total
finished f front xs i total last past none so_far = ap (λ l. front ++ l) (sym none) ∙ ap (λ l. front ++ f l) (sym (drop_of_length-le xs past)) ∙ so_far

pub finished_whole : {X Y : Type 0} (f : List X → List Y) (front : List Y) (xs : List X) (i : ℕ) (total : List Y) → length xs ≤ i → f [] ≡ []
    → front ++ f (drop i xs) ≡ total → front ≡ total
finished_whole f front xs i total past none so_far = sym (append-nil front) ∙ finished f front xs i total [] past none so_far
