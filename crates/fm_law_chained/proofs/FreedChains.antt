-- The second memory frees a chain: each free meets a cell that is held, and just the objects of the chain are gone.
use Rattle.std.proofs.Common.{◌≡◌, ◌⊎◌, ℕ, ◌+◌, ◌==◌, false, true, cond, List, [], ◌∷◌, Some, Contains, refl, sym, ◌∙◌, ap, inl, inr, ⊎_elim, arith}
use Rattle.std.specs.Prelude.{nat_eq}
use Rattle.std.specs.List.{AllByRecursion, AllZip, IsDistinct}
use Rattle.std.proofs.lemmas.Bool.{eq-eqb, eqb-true, false≢true, or_cases, or_left, or_right}
use Rattle.std.proofs.lemmas.Map.Keys.{IsDistinct-head, IsDistinct-tail}
use Rattle.fm_base.proofs.ContainsFacts.{Contains-cons_cases, Contains-none}
use Rattle.fm_cells.proofs.Elements.{freed_by-some}
use Rattle.fm_cells.specs.Changes.{freed_by, without_object}
use Rattle.fm_cells.specs.Objects.{Object, object_words}
use Rattle.fm_cells.specs.Stores.{object_at, Store}
use Rattle.fm_code.proofs.EdgesLemmas.{Contains-first, Contains-later}
use Rattle.fm_frames.specs.Acts.{freed, freed_object}
use Rattle.fm_frames.specs.States.{Areas}
use Rattle.fm_law_chained.proofs.Links.{held_before, left_there}
use Rattle.fm_law_chained.proofs.Walked.{chains_are_walked}
use Rattle.fm_law_chained.specs.Chain.{IsLink}
use Rattle.fm_law_chained.specs.Laws.{AreLinksFreed, EachChainIsFreed}
use Rattle.fm_law_two_memories.proofs.FreesSame.{freed_areas, freed_frames}
use Rattle.fm_law_two_memories.specs.Pairing.{AreasPaired, Gone, with_gone}
use Rattle.fm_world.specs.Programs.{Outline}

-- links that stay but for those of one birth
links_kept : (birth : ℕ) (store later : Store) → ((cell other : ℕ) → nat_eq birth other ≡ false → IsLink store cell other → IsLink later cell other)
    → (cells births : List ℕ) → AllByRecursion (λ other. nat_eq birth other ≡ false) births → AllZip (IsLink store) cells births
    → AllZip (IsLink later) cells births
links_kept birth store later keep [] [] all links = tt
links_kept birth store later keep [] (other ∷ births) all links = absurd links
links_kept birth store later keep (cell ∷ cells) [] all links = absurd links
links_kept birth store later keep (cell ∷ cells) (other ∷ births) (one, rest) (link, links) =
    (keep cell other one link, links_kept birth store later keep cells births rest links)

-- ---- one object

module _ (y : Areas) (cell : ℕ) (object : Object) (held : object_at y.store cell ≡ Some object) (loose : object.fixed ≡ false) where
  abbrev areas_with : Store → Areas
  areas_with store = record y { store = store; frees = y.frees + 1; freed_words = y.freed_words + object_words object }

  freed_is : freed y cell ≡ areas_with (without_object y.store cell object)
  freed_is =
      ap (freed_object y cell) held
      ∙ ap (λ b. cond b y (areas_with (freed_by y.store cell))) loose
      ∙ ap areas_with (freed_by-some y.store cell object held ∙ ap (λ b. cond b y.store (without_object y.store cell object)) loose)

  freed_store : (freed y cell).store ≡ without_object y.store cell object
  freed_store = ap (λ (a : Areas). a.store) freed_is

  freed_words_are : (freed y cell).freed_words ≡ y.freed_words + object_words object
  freed_words_are = ap (λ (a : Areas). a.freed_words) freed_is

  stays_there : (q : ℕ) (found : Object) → object_at y.store q ≡ Some found → ((found.birth ≡ object.birth) → ⊥) → object_at (freed y cell).store q ≡ Some found
  stays_there q found at apart = ap (λ s. object_at s q) freed_store ∙ left_there y.store cell object held q found at apart

  was_there : (q : ℕ) (found : Object) → object_at (freed y cell).store q ≡ Some found → object_at y.store q ≡ Some found
  was_there q found at = held_before y.store cell object held q found (sym (ap (λ s. object_at s q) freed_store) ∙ at)

-- ---- all of them

module _ (o : Outline) (x : Areas) where
  -- the other links, once the first object is freed
  later_links : (cell birth : ℕ) (cells births : List ℕ) (y : Areas) (link : IsLink y.store cell birth) → AllZip (IsLink y.store) cells births
      → IsDistinct nat_eq (birth ∷ births) → AllZip (IsLink (freed y cell).store) cells births
  later_links cell birth cells births y link links once =
      links_kept birth y.store (freed y cell).store
      (λ q other apart other_link. record {
        object = other_link.object;
        held = stays_there y cell link.object link.held link.loose q other_link.object other_link.held
            (λ same. false≢true (sym apart ∙ eq-eqb birth other (sym link.born ∙ sym same ∙ other_link.born)));
        loose = other_link.loose;
        born = other_link.born;
      })
      cells births (IsDistinct-head nat_eq birth births once) links

  -- the first object is freed, and then the others
  first_and_others : (cell birth : ℕ) (cells births : List ℕ) (gone : Gone) (y : Areas) → AreasPaired gone o x y → (link : IsLink y.store cell birth)
      → AreLinksFreed (with_gone gone link.object) o x (freed y cell) cells births → AreLinksFreed gone o x y (cell ∷ cells) (birth ∷ births)
  first_and_others cell birth cells births gone y paired link rest = record {
    more = rest.more;
    areas = rest.areas;
    frames = λ fs gs are. rest.frames fs gs (freed_frames gone o x y paired cell link.object link.held link.loose fs gs are);
    was = λ b is. ⊎_elim (λ before. was_first b before) (λ among. inr (Contains-later birth births b among)) (rest.was b is);
    stays = λ b is. rest.stays b (or_right (b == link.object.birth) (gone.births b) is);
    gone_now = λ b among. ⊎_elim
        (λ (same : b ≡ birth). rest.stays b (or_left (b == link.object.birth) (gone.births b) (eq-eqb b link.object.birth (same ∙ sym link.born))))
        (λ later. rest.gone_now b later) (Contains-cons_cases birth births b among);
    words = let words = rest.words in omega (arith, words, freed_words_are y cell link.object link.held link.loose);
    kept = λ q found held away.
        rest.kept q found
        (stays_there y cell link.object link.held link.loose q found held (λ same. away (Contains-first birth births found.birth (same ∙ link.born))))
        (λ among. away (Contains-later birth births found.birth among));
    before = λ q found held. was_there y cell link.object link.held link.loose q found (rest.before q found held);
  } where
    was_first : (b : ℕ) → (with_gone gone link.object).births b ≡ true → (gone.births b ≡ true) ⊎ Contains (birth ∷ births) b
    was_first b is =
        ⊎_elim (λ same. inr (Contains-first birth births b (eqb-true b link.object.birth same ∙ link.born))) (λ before. inl before)
        (or_cases (b == link.object.birth) (gone.births b) is)

  pub links_freed : (cells births : List ℕ) (gone : Gone) (y : Areas) → AreasPaired gone o x y → AllZip (IsLink y.store) cells births → IsDistinct nat_eq births
      → AreLinksFreed gone o x y cells births
  links_freed [] [] gone y paired links once = record {
    more = gone;
    areas = paired;
    frames = λ fs gs are. are;
    was = λ birth is. inl is;
    stays = λ birth is. is;
    gone_now = λ birth among. absurd (Contains-none birth among);
    words = refl;
    kept = λ cell object held away. held;
    before = λ cell object held. held;
  }
  links_freed [] (birth ∷ births) gone y paired links once = absurd links
  links_freed (cell ∷ cells) [] gone y paired links once = absurd links
  links_freed (cell ∷ cells) (birth ∷ births) gone y paired (link, links) once =
      first_and_others cell birth cells births gone y paired link
      (links_freed cells births (with_gone gone link.object) (freed y cell) (freed_areas gone o x y paired cell link.object link.held link.loose)
      (later_links cell birth cells births y link links once) (IsDistinct-tail nat_eq birth births once))

pub chains_are_freed : EachChainIsFreed
chains_are_freed gone o x y paired cell births chain once =
    let walked = chains_are_walked y.store cell births paired.store.other_orderly chain once in
    record { cells = walked.cells; found = walked.found; freed = links_freed o x walked.cells births gone y paired walked.links once }
