-- What holds of some element of a list one longer.
use Rattle.std.proofs.Common.{◌≡◌, ℕ, ◌+◌, ◌<◌, ◌⊎◌, ◌↔◌, List, [], ◌∷◌, ◌++◌, length, take, get_or, inl, inr, ⊎_elim, sym, ◌∙◌, subst, arith, length-append}
use Rattle.std.proofs.lemmas.List.{get_or_append_left, take_more}
use Rattle.std.proofs.lemmas.List.Elements.{Contains-push_cases}
use Rattle.std.proofs.lemmas.List.Quantifiers.{Any-push}
use Rattle.std.specs.List.{Any}

-- of an element before the last one
pub Any-append_left : {X : Type 0} (P : X → Type 0) (xs ys : List X) → Any P xs → Any P (xs ++ ys)
Any-append_left P xs ys (k, x, within, there, holds) =
    let size = length-append xs ys in
    (k, x, omega arith, get_or_append_left xs ys x k within ∙ there, holds)

-- of one before the last, or of the last
pub Any-push_cases : {X : Type 0} (P : X → Type 0) (xs : List X) (y : X) → Any P (xs ++ y ∷ []) → Any P xs ⊎ P y
Any-push_cases P xs y (k, x, within, there, holds) =
    ⊎_elim (λ found. inl (found.0, x, found.1, found.2, holds)) (λ (same : y ≡ x). inr (subst P (sym same) holds)) (Contains-push_cases xs y x (k, within, there))

pub Any-take_more : {X : Type 0} (P : X → Type 0) (xs : List X) (i : ℕ) (d : X) → i < length xs → Any P (take (i + 1) xs) ↔ (Any P (take i xs) ⊎ P (get_or xs i d))
Any-take_more {X} P xs i d inside =
    let e : take (i + 1) xs ≡ take i xs ++ get_or xs i d ∷ [] = take_more xs i d inside in
    let Q : List X → Type 0 = λ list. Any P list in (
      λ some. Any-push_cases P (take i xs) (get_or xs i d) (subst Q e some),
      λ some. subst Q (sym e)
          (⊎_elim (λ before. Any-append_left P (take i xs) (get_or xs i d ∷ []) before) (λ last. Any-push P (take i xs) (get_or xs i d) last) some),
    )
