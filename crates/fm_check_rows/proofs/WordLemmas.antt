-- Words taken from the end of a slice on, and lists turned round.
use Rattle.std.proofs.Common.{◌≡◌, refl, sym, ◌∙◌, ap, ℕ, zero, suc, ◌+◌, ◌<◌, List, [], ◌∷◌, ◌++◌, length, map, replicate, reverse, take, get_or, None, cond, add-one}
use Rattle.std.proofs.lemmas.List.{map-append, replicate-append-replicate, reverse-append, take_more}
use Rattle.fm_types.specs.Fits.{fits}
use Rattle.fm_types.specs.States.{taken}
use Rattle.fm_types.specs.declared.slots.Slot.{Slot}
use Rattle.fm_world.specs.Programs.{Outline}

-- the last of the first words is the next one that is wanted
pub next_wanted : (wanted : List Slot) (left : ℕ) (d : Slot) → left < length wanted
    → reverse (take (left + 1) wanted) ≡ get_or wanted left d ∷ reverse (take left wanted)
next_wanted wanted left d inside =
    ap reverse (take_more wanted left d inside) ∙ reverse-append (take left wanted) (get_or wanted left d ∷ [])

-- where the stack is at its end, nothing more is taken
pub taken-empty : (o : Outline) (wanted : List Slot) (left : ℕ) (d : Slot) → left < length wanted
    → taken o (reverse (take (left + 1) wanted)) [] ≡ None
taken-empty o wanted left d inside = ap (λ words. taken o words []) (next_wanted wanted left d inside)

-- one word is tried
pub taken-next : (o : Outline) (wanted : List Slot) (left : ℕ) (d s : Slot) (stack : List Slot) → left < length wanted
    → taken o (reverse (take (left + 1) wanted)) (s ∷ stack)
    ≡ cond (fits o s (get_or wanted left d)) (taken o (reverse (take left wanted)) stack) None
taken-next o wanted left d s stack inside = ap (λ words. taken o words (s ∷ stack)) (next_wanted wanted left d inside)

-- ---- lists turned round

-- equal elements
pub reverse-replicate : {A : Type 0} (n : ℕ) (a : A) → reverse (replicate n a) ≡ replicate n a
reverse-replicate zero a = refl
reverse-replicate (suc n) a =
    reverse-append (a ∷ []) (replicate n a) ∙ ap (λ xs. xs ++ a ∷ []) (reverse-replicate n a)
    ∙ replicate-append-replicate n 1 a ∙ ap (λ k. replicate k a) (add-one n)

-- what is done to each element
pub reverse-map : {A B : Type 0} (f : A → B) (xs : List A) → reverse (map f xs) ≡ map f (reverse xs)
reverse-map f [] = refl
reverse-map f (x ∷ xs) =
    reverse-append (f x ∷ []) (map f xs) ∙ ap (λ ys. ys ++ f x ∷ []) (reverse-map f xs)
    ∙ sym (map-append f (reverse xs) (x ∷ [])) ∙ ap (map f) (sym (reverse-append (x ∷ []) xs))
