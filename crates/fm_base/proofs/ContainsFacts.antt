-- Elements of lists. For every crate above.
use Rattle.std.proofs.Common.{◌≡◌, ◌≢◌, ℕ, zero, suc, ◌⊎◌, inl, inr, false, eqb, List, ◌∷◌, Contains, get_or, sym, ◌∙◌, arith, eq-eqb, [], subst, ⊎_elim, Bool, true}
use Rattle.std.specs.List.{Any, flat_map, list_any}
use Rattle.std.proofs.lemmas.Bool.{false≢true}
use Rattle.std.proofs.lemmas.List.Elements.{Contains-append_left, Contains-append_right}
use Rattle.std.proofs.lemmas.List.Folds.{Any-from_list_any, list_any_at}

-- an element is the first or one of the rest
pub Contains-cons_cases : {X : Type 0} (y : X) (xs : List X) (x : X) → Contains (y ∷ xs) x → (x ≡ y) ⊎ Contains xs x
Contains-cons_cases y xs x (zero, inside, there) = inl (sym there)
Contains-cons_cases y xs x (suc k, inside, there) = inr (k, omega arith, there)

-- an element is another than a number that a test finds nowhere; where all are written out, `refl` is that it finds none
pub unlike_elements : (n : ℕ) (xs : List ℕ) → list_any (λ y. eqb y n) xs ≡ false → (x : ℕ) → Contains xs x → x ≢ n
unlike_elements n xs none x (k, inside, there) same =
    false≢true (sym none ∙ list_any_at (λ y. eqb y n) xs k x inside (eq-eqb (get_or xs k x) n (there ∙ same)))

-- the empty list has no element
pub Contains-none : {X : Type 0} (y : X) → Contains [] y → ⊥
Contains-none y (k, within, there) = omega arith

-- an element of a part is one of all parts together
pub Contains-flat_map : {X Y : Type 0} (f : X → List Y) (xs : List X) (x : X) (y : Y) → Contains xs x → Contains (f x) y → Contains (flat_map f xs) y
Contains-flat_map f [] x y (k, within, there) found = absurd (omega arith)
Contains-flat_map f (z ∷ xs) x y among found =
    ⊎_elim (λ (same : x ≡ z). Contains-append_left (f z) (flat_map f xs) y (subst (λ w. Contains (f w) y) same found))
    (λ later. Contains-append_right (f z) (flat_map f xs) y (Contains-flat_map f xs x y later found))
    (Contains-cons_cases z xs x among)

-- where a test passes for some element, there is one
pub any-found : {X : Type 0} (p : X → Bool) (xs : List X) → list_any p xs ≡ true → (x : X) × Contains xs x × (p x ≡ true)
any-found {X = X} p xs passes = found (Any-from_list_any p xs passes) where
  found : Any (λ x. p x ≡ true) xs → (x : X) × Contains xs x × (p x ≡ true)
  found (k, x, inside, there, holds) = (x, (k, inside, there), holds)
