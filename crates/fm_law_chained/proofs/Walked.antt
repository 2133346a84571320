-- The walk along a chain finds its cells: no more of them than objects are held.
use Rattle.std.proofs.Common.{◌≡◌, ℕ, zero, suc, ◌+◌, ◌≤◌, cond, List, [], ◌∷◌, length, Some, Contains, refl, ◌∙◌, ap, subst, arith}
use Rattle.std.specs.Prelude.{nat_eq}
use Rattle.std.specs.FinMap as map
use Rattle.std.specs.List.{AllZip, IsDistinct}
use Rattle.std.specs.Option.{option_map}
use Rattle.std.proofs.lemmas.Map.Keys.{IsDistinct-tail}
use Rattle.fm_cells.proofs.Soundness.{IsOrderly-without_object}
use Rattle.fm_cells.specs.Changes.{without_object}
use Rattle.fm_cells.specs.Objects.{Object}
use Rattle.fm_cells.specs.Soundness.{IsOrderly}
use Rattle.fm_cells.specs.Stores.{object_at, Store}
use Rattle.fm_frames.proofs.HeldCounts.{held_remove}
use Rattle.fm_frames.specs.Acts.{cells_with, chain_cells}
use Rattle.fm_law_chained.proofs.Links.{first_once, left_there, links_stay}
use Rattle.fm_law_chained.specs.Chain.{IsChain, IsLink}
use Rattle.fm_law_chained.specs.Laws.{ChainsAreWalked, StaysLinked}
use Rattle.fm_law_two_memories.proofs.Twins.{not_null}

-- ---- how many objects are held

-- without its first object the others are a chain still
others_chain : (birth : ℕ) (births : List ℕ) (store : Store) (cell : ℕ) (link : IsLink store cell birth) → IsChain store link.object.chain births
    → IsDistinct nat_eq (birth ∷ births) → IsChain (without_object store cell link.object) link.object.chain births
others_chain birth births store cell link rest once =
    links_stay store (without_object store cell link.object) link.object.chain births stays rest where
      stays : (q : ℕ) (object : Object) → object_at store q ≡ Some object → Contains births object.birth → StaysLinked (without_object store cell link.object) q object
      stays q object held among = record {
        now = object;
        held = left_there store cell link.object link.held q object held
            (λ same. first_once birth births once (subst (Contains births) (same ∙ link.born) among));
        born = refl;
        fixed = refl;
        chain = refl;
      }

-- a chain without repeats has no more objects than are held
few : (births : List ℕ) (store : Store) (cell : ℕ) → IsOrderly store → IsChain store cell births → IsDistinct nat_eq births
    → length births ≤ length (map.entries store.held)
few [] store cell orderly chain once = omega arith
few (birth ∷ births) store cell orderly (link, rest) once =
    let inner =
    few births (without_object store cell link.object) link.object.chain (IsOrderly-without_object store cell link.object orderly)
    (others_chain birth births store cell link rest once) (IsDistinct-tail nat_eq birth births once) in
    let less : length (map.entries (without_object store cell link.object).held) + 1 ≡ length (map.entries store.held) =
    held_remove store.held cell link.object link.held in
    omega (arith, inner, less)

-- ---- the walk

walk : (bound : ℕ) (births : List ℕ) (store : Store) (cell : ℕ) → IsOrderly store → IsChain store cell births → length births ≤ bound
    → (cells : List ℕ) × (chain_cells bound store cell ≡ Some cells) × AllZip (IsLink store) cells births
unfolding chain_cells
walk bound [] store cell orderly chain within = ([], ap (chain_cells bound store) chain, tt)
walk zero (birth ∷ births) store cell orderly chain within = absurd (omega (arith, within))
walk (suc bound) (birth ∷ births) store zero orderly (link, rest) within = absurd (not_null store zero link.object orderly link.held refl)
walk (suc bound) (birth ∷ births) store (suc cell) orderly (link, rest) within =
    let inner = walk bound births store link.object.chain orderly rest (omega (arith, within)) in
    let found : chain_cells (suc bound) store (suc cell) ≡ Some (suc cell ∷ inner.0) =
    ap (λ o. cells_with (suc cell) o (λ object. chain_cells bound store object.chain)) link.held
    ∙ ap (λ b. cond b (Some []) (option_map (λ cells. suc cell ∷ cells) (chain_cells bound store link.object.chain))) link.loose
    ∙ ap (option_map (λ cells. suc cell ∷ cells)) inner.1 in
    (suc cell ∷ inner.0, found, (link, inner.2))

pub chains_are_walked : ChainsAreWalked
chains_are_walked store cell births orderly chain once =
    let within = few births store cell orderly chain once in
    let found = walk (length (map.entries store.held) + 1) births store cell orderly chain (omega (arith, within)) in
    record { cells = found.0; found = found.1; links = found.2 }
