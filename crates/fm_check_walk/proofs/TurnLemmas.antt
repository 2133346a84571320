-- Which items have keys.
use Rattle.std.proofs.Common.{◌≡◌, ◌≢◌, refl, sym, ◌∙◌, ap, ℕ, ◌<◌, ⊎_elim, Bool, true, false, List, [], ◌∷◌, length, get_or, set, Contains, arith}
use Rattle.std.proofs.lemmas.Bool.{cases_eq, false≢true}
use Rattle.std.proofs.lemmas.List.{get_or-set_same, get_or-set_other}
use Rattle.std.proofs.lemmas.List.Elements.{Contains-append_right}
use Rattle.std.proofs.lemmas.List.Sorted.{Contains-permutation}
use Rattle.std.specs.List.Sorted.{IsPermutation}
use Rattle.fm_base.proofs.ContainsFacts.{Contains-cons_cases}
use Rattle.fm_base.proofs.RowFacts.{has_inside}
use Rattle.fm_check_walk.specs.inner.Turns.{HaveKeys, item_of}

-- an item more
pub keys-more : (marks : List Bool) (keys more : List ℕ) (key item : ℕ) → HaveKeys marks keys → IsPermutation (key ∷ keys) more → item_of key ≡ item
    → HaveKeys (set marks item true) more
keys-more marks keys more key item have moved is j marked =
    ⊎_elim (λ (same : j ≡ item). (key, Contains-permutation (key ∷ keys) more key moved (0, omega arith, refl), is ∙ sym same))
    (λ (apart : j ≢ item).
    let was = have j (sym (get_or-set_other marks item j true false apart) ∙ marked) in
    (was.0, Contains-permutation (key ∷ keys) more was.0 moved (Contains-append_right (key ∷ []) keys was.0 was.1), was.2))
    (cases_eq j item)

-- a key less, whose item has no mark from here on
pub keys-less : (marks new : List Bool) (keys less : List ℕ) (key : ℕ) → HaveKeys marks keys → IsPermutation keys (key ∷ less)
    → ((j : ℕ) → get_or new j false ≡ true → (get_or marks j false ≡ true) × (item_of key ≢ j)) → HaveKeys new less
keys-less marks new keys less key have moved left j marked =
    let old = left j marked in
    let was = have j old.0 in
    ⊎_elim (λ (same : was.0 ≡ key). absurd (old.1 (ap item_of (sym same) ∙ was.2)))
    (λ (rest : Contains less was.0). (was.0, rest, was.2))
    (Contains-cons_cases key less was.0 (Contains-permutation keys (key ∷ less) was.0 moved was.1))

-- the item of the key has no mark
pub keys-passed : (marks : List Bool) (keys less : List ℕ) (key item : ℕ) → HaveKeys marks keys → IsPermutation keys (key ∷ less) → item ≡ item_of key
    → get_or marks item false ≡ false → HaveKeys marks less
keys-passed marks keys less key item have moved is quiet =
    keys-less marks marks keys less key have moved
    (λ j marked. (marked, λ (same : item_of key ≡ j). false≢true (sym quiet ∙ ap (λ n. get_or marks n false) (is ∙ same) ∙ marked)))

-- it has one, which goes
pub keys-taken : (marks : List Bool) (keys less : List ℕ) (key item : ℕ) → HaveKeys marks keys → IsPermutation keys (key ∷ less) → item ≡ item_of key
    → get_or marks item false ≡ true → HaveKeys (set marks item false) less
keys-taken marks keys less key item have moved is waited =
    let inside : item < length marks = has_inside marks item waited in
    keys-less marks (set marks item false) keys less key have moved
    (λ j marked.
    ⊎_elim
    (λ (same : j ≡ item).
    absurd (false≢true (sym (get_or-set_same marks item false false inside) ∙ ap (λ n. get_or (set marks item false) n false) (sym same) ∙ marked)))
    (λ (apart : j ≢ item). (sym (get_or-set_other marks item j false false apart) ∙ marked, λ (same : item_of key ≡ j). apart (sym (is ∙ same))))
    (cases_eq j item))
