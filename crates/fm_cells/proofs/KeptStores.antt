-- Words, marks and heads that keep a store are that store.
use Rattle.std.proofs.Common.{◌≡◌, ℕ, zero, suc, ◌+◌, ◌<◌, ◌≤◌, cond, List, [], ◌∷◌, length, get_or, refl, sym, ◌∙◌, ap, nat_eq, arith}
use Rattle.std.specs.Prelude.{Some, None, slice_index}
use Rattle.std.specs.Cmp.{nat_cmp_total}
use Rattle.std.specs.FinMap as fin
use Rattle.std.proofs.lemmas.List.{ext_get_or}
use Rattle.std.proofs.lemmas.List.FromFn.{length-map-range_with_len, get_or-map-range_with_len}
use Rattle.fm_base.proofs.TestFacts.{apart-nat_eq, same-nat_eq}
use Rattle.fm_cells.specs.Objects.{size_class_of}
use Rattle.fm_cells.specs.Stores.{Store, object_at, free_cells}
use Rattle.fm_cells.specs.Soundness.{IsLastReused}
use Rattle.fm_cells.specs.inner.Tables.{map_of}
use Rattle.fm_cells.specs.inner.Words.{marked_object}
use Rattle.fm_cells.specs.inner.Layouts.{linked_cells, free_lists, words_store, IsLinked, Keeps}
use Rattle.fm_cells.proofs.Tables.{get-map_of}
use Rattle.fm_cells.proofs.Tiles.{tile-within}

-- a list that is linked is what a walk from its head finds
pub linked_cells-is : (n : ℕ) (words : List ℕ) (head : ℕ) (cells : List ℕ) → IsLinked words head cells → length cells ≤ n → linked_cells n words head ≡ cells
linked_cells-is zero words head [] is h = refl
linked_cells-is zero words head (cell ∷ cells) is h = absurd (omega arith)
linked_cells-is (suc n) words head [] is h = ap (λ b. cond b [] (head ∷ linked_cells n words (slice_index words head))) (ap (λ c. nat_eq c 0) is ∙ same-nat_eq 0)
linked_cells-is (suc n) words head (cell ∷ cells) is h =
    ap (λ b. cond b [] (head ∷ linked_cells n words (slice_index words head))) (apart-nat_eq head 0 (λ e. absurd (omega (arith, is.0, is.1))))
    ∙ ap (λ c. c ∷ linked_cells n words (slice_index words c)) is.0
    ∙ ap (λ rest. cell ∷ rest) (linked_cells-is n words (slice_index words cell) cells is.2 (omega arith))

-- nothing is held past the words
kept-past : (words marks heads : List ℕ) (store : Store) → Keeps words marks heads store → (cell : ℕ) → length words ≤ cell → marked_object words marks cell ≡ None
kept-past words marks heads store keeps cell h =
    elim (object_at store cell) as (λ o. object_at store cell ≡ o → marked_object words marks cell ≡ None) [
      | None ↦ λ e. keeps.held cell ∙ e
      | Some object ↦ λ e.
          let within = tile-within 1 keeps.tiles (store.made_words + 1) cell (size_class_of object) keeps.tiling (keeps.held_tile cell object e) in
          absurd (omega (arith, within.0, within.1, within.2, keeps.words_made))
    ] refl

-- the store that the words are is the one that they keep
pub kept-store : (words marks heads made : List ℕ) (budget limit births peak : ℕ) (store : Store) → Keeps words marks heads store → IsLastReused store → made ≡ store.made → budget ≡ store.budget → Some limit ≡ store.limit → births ≡ store.births → peak ≡ store.peak
    → words_store words marks heads made budget limit births peak ≡ store
kept-store words marks heads made budget limit births peak store keeps last same_made same_budget same_limit same_births same_peak =
    let held : map_of (marked_object words marks) (length words) ≡ store.held =
    fin.same_map nat_cmp_total fin.nat_cmp-IsAntisymmetric _ _ (λ q. get-map_of (marked_object words marks) (length words) q (kept-past words marks heads store keeps q) ∙ keeps.held q) in
    let list = λ (k : ℕ). linked_cells (slice_index made k) words (slice_index heads k) in
    let free : free_lists words heads made ≡ store.free =
    ext_get_or [] (free_lists words heads made) store.free (length-map-range_with_len list 0 64 ∙ sym last.lists)
    (λ k h.
    let few : k < 64 = omega (arith, length-map-range_with_len list 0 64) in
    get_or-map-range_with_len list 0 64 k k [] few (omega arith)
    ∙ linked_cells-is (slice_index made k) words (slice_index heads k) (free_cells store k) (keeps.linked k few) (omega (arith, last.balance k few, ap (λ all. get_or all k 0) same_made))) in
    λ i. record {
      held = held i;
      budget = same_budget i;
      limit = same_limit i;
      births = same_births i;
      made_words = keeps.words_made i;
      peak = same_peak i;
      made = same_made i;
      free = free i;
    }
