-- What leaves the chains of a store as they are, and what makes one longer.
use Rattle.std.proofs.Common.{◌≡◌, ◌⊎◌, ℕ, ◌∷◌, [], List, Some, None, false, cond, Contains, refl, sym, ◌∙◌, ap, subst, inl, inr, ⊎_elim}
use Rattle.std.specs.Prelude.{nat_eq}
use Rattle.std.specs.List.{AllByRecursion, IsDistinct}
use Rattle.std.proofs.lemmas.Bool.{cases_eq, eq-eqb, false≢true, ne_eqb}
use Rattle.std.proofs.lemmas.Map.Keys.{IsDistinct-head}
use Rattle.std.proofs.lemmas.Option.{same_Some}
use Rattle.fm_base.proofs.ContainsFacts.{Contains-cons_cases, Contains-none}
use Rattle.fm_cells.proofs.Changes.{object_at-with_object, object_at-without_object}
use Rattle.fm_cells.proofs.Elements.{chained_by-some}
use Rattle.fm_cells.specs.Changes.{chained_by, with_chain, without_object}
use Rattle.fm_cells.specs.Objects.{Object}
use Rattle.fm_cells.specs.Stores.{object_at, Store}
use Rattle.fm_code.proofs.EdgesLemmas.{Contains-first, Contains-later}
use Rattle.fm_law_chained.specs.Chain.{IsChain}
use Rattle.fm_law_chained.specs.Laws.{ChainsAreLinked, ChainsStayLinked, LinksStay, StaysLinked}

-- ---- births

-- a number that is unlike all of a list isn't one of them
pub unlike_all : (birth : ℕ) (births : List ℕ) → AllByRecursion (λ y. nat_eq birth y ≡ false) births → Contains births birth → ⊥
unlike_all birth [] all among = Contains-none birth among
unlike_all birth (b ∷ births) (one, rest) among =
    ⊎_elim (λ (same : birth ≡ b). false≢true (sym one ∙ eq-eqb birth b same)) (λ later. unlike_all birth births rest later)
    (Contains-cons_cases b births birth among)

-- the first birth of a chain without repeats isn't among the others
pub first_once : (birth : ℕ) (births : List ℕ) → IsDistinct nat_eq (birth ∷ births) → Contains births birth → ⊥
first_once birth births once among = unlike_all birth births (IsDistinct-head nat_eq birth births once) among

-- ---- chains that stay

pub links_stay : LinksStay
links_stay store later first [] stays chain = chain
links_stay store later first (birth ∷ births) stays (link, rest) =
    let now = stays first link.object link.held (Contains-first birth births link.object.birth link.born) in (
      record { object = now.now; held = now.held; loose = now.fixed ∙ link.loose; born = now.born ∙ link.born },
      subst (λ cell. IsChain later cell births) (sym now.chain)
          (links_stay store later link.object.chain births (λ cell object held among. stays cell object held (Contains-later birth births object.birth among)) rest),
    )

-- ---- another link

module _ (store : Store) (cell to : ℕ) (object : Object) (held : object_at store cell ≡ Some object) where
  following : (q : ℕ) → object_at (chained_by store cell to) q ≡ cond (nat_eq q cell) (Some (with_chain object to)) (object_at store q)
  following q = ap (λ s. object_at s q) (chained_by-some store cell to object held) ∙ object_at-with_object store cell (with_chain object to) q

  pub linked_here : object_at (chained_by store cell to) cell ≡ Some (with_chain object to)
  linked_here = following cell ∙ ap (λ b. cond b (Some (with_chain object to)) (object_at store cell)) (eq-eqb cell cell refl)

  pub linked_there : (q : ℕ) → ((q ≡ cell) → ⊥) → object_at (chained_by store cell to) q ≡ object_at store q
  linked_there q away = following q ∙ ap (λ b. cond b (Some (with_chain object to)) (object_at store q)) (ne_eqb q cell away)

  others_stay : (births : List ℕ) → (Contains births object.birth → ⊥) → (q : ℕ) (found : Object) → object_at store q ≡ Some found
      → Contains births found.birth → StaysLinked (chained_by store cell to) q found
  others_stay births away q found at among =
      record { now = found; held = linked_there q elsewhere ∙ at; born = refl; fixed = refl; chain = refl } where
        elsewhere : (q ≡ cell) → ⊥
        elsewhere here =
            let same : found ≡ object = same_Some found object (sym at ∙ ap (object_at store) here ∙ held) in
            away (subst (λ (x : Object). Contains births x.birth) same among)

pub chains_stay_linked : ChainsStayLinked
chains_stay_linked store cell to object first births held away chain =
    links_stay store (chained_by store cell to) first births (others_stay store cell to object held births away) chain

pub chains_are_linked : ChainsAreLinked
chains_are_linked store cell to object births held loose away chain = (
  record { object = with_chain object to; held = linked_here store cell to object held; loose = loose; born = refl },
  chains_stay_linked store cell to object to births held away chain,
)

-- ---- an object less

module _ (store : Store) (cell : ℕ) (object : Object) (held : object_at store cell ≡ Some object) where
  -- objects of other births stay where they are
  pub left_there : (q : ℕ) (found : Object) → object_at store q ≡ Some found → ((found.birth ≡ object.birth) → ⊥)
      → object_at (without_object store cell object) q ≡ Some found
  left_there q found at apart =
      object_at-without_object store cell object q ∙ ap (λ b. cond b None (object_at store q)) (ne_eqb q cell elsewhere) ∙ at where
        elsewhere : (q ≡ cell) → ⊥
        elsewhere here = apart (ap (λ (x : Object). x.birth) (same_Some found object (sym at ∙ ap (object_at store) here ∙ held)))

  -- and what is held was held before
  pub held_before : (q : ℕ) (found : Object) → object_at (without_object store cell object) q ≡ Some found → object_at store q ≡ Some found
  held_before q found at = by_cell (cases_eq q cell) where
    by_cell : (q ≡ cell) ⊎ ((q ≡ cell) → ⊥) → object_at store q ≡ Some found
    by_cell (inl here) =
        let no : None ≡ Some found =
        ap (λ b. cond b None (object_at store q)) (sym (eq-eqb q cell here)) ∙ sym (object_at-without_object store cell object q) ∙ at in absurd (cc)
    by_cell (inr elsewhere) =
        ap (λ b. cond b None (object_at store q)) (sym (ne_eqb q cell elsewhere)) ∙ sym (object_at-without_object store cell object q) ∙ at
