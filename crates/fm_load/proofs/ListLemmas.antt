-- Lists that grow by the element at an index.
use Rattle.std.proofs.Common.{◌≡◌, ℕ, zero, suc, ◌+◌, ◌<◌, List, [], ◌∷◌, ◌++◌, length, map, take, get_or, Bor, Some, sym, ap, subst, ◌∙◌, arith}
use Rattle.std.specs.List.{AllByRecursion, slice_get}
use Rattle.std.proofs.lemmas.List.{take_more}
use Rattle.std.specs.Option.{option_map}
use Rattle.std.proofs.lemmas.Option.{slice_get_within, slice_get-map, slice_get-get_or, get_or_from_slice_get, slice_get_read}
use Rattle.fm_base.proofs.ListFacts.{AllByRecursion-append}

-- the element that a loop has at an index
pub item_at : {X : Type 0} (xs : List X) (i : ℕ) (x : X) → i < length xs → x ≡ get_or xs i x → slice_get xs i ≡ Some x
item_at xs i x within is = slice_get_read xs (length xs) i x (λ _. length xs) within is

-- what it refers to, where the elements are references
pub name_at : {X : Type 0} (names : List (Bor X)) (i : ℕ) (d : Bor X) → i < length names → slice_get (map (λ n. n.now) names) i ≡ Some (get_or names i d).now
name_at names i d within = slice_get-map (λ n. n.now) names i ∙ ap (option_map (λ n. n.now)) (slice_get-get_or names i d within)

-- one element more
pub take_next : {X : Type 0} (xs : List X) (i : ℕ) (x : X) → slice_get xs i ≡ Some x → take (i + 1) xs ≡ take i xs ++ x ∷ []
take_next xs i x there = take_more xs i x (slice_get_within xs i x there) ∙ ap (λ y. take i xs ++ y ∷ []) (get_or_from_slice_get xs i x x there)

-- what holds of each of the first elements and of the next one
pub AllByRecursion-next : {X : Type 0} (P : X → Type 0) (xs : List X) (i : ℕ) (x : X) → slice_get xs i ≡ Some x → AllByRecursion P (take i xs) → P x → AllByRecursion P (take (i + 1) xs)
AllByRecursion-next P xs i x there first next =
    subst (AllByRecursion P) (sym (take_next xs i x there)) (AllByRecursion-append P (take i xs) (x ∷ []) first (next, tt))
