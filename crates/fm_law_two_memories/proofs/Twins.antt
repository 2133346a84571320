-- Cells of two stores that correspond to each other, and the values that lead there.
use Rattle.std.proofs.Common.{◌≡◌, ℕ, inl, inr, Bool, true, false, nat_eq, Some, None, refl, sym, ◌∙◌, ap, subst}
use Rattle.std.proofs.lemmas.Bool.{eq-eqb, eqb-true, false≢true}
use Rattle.std.proofs.lemmas.Option.{same_Some}
use Rattle.fm_cells.specs.Objects.{Object}
use Rattle.fm_cells.specs.Soundness.{IsOrderly}
use Rattle.fm_cells.specs.Stores.{object_at, Store}
use Rattle.fm_world.specs.Programs.{Outline}
use Rattle.fm_frames.specs.Acts.{cell_of, same_cell}
use Rattle.fm_frames.specs.declared.values.Value.{Value}
use Rattle.fm_frames.specs.declared.values.Value.TheVariants as value
use Rattle.fm_law_two_memories.specs.Pairing.{ArePaired, AreTwins, Gone, SameCell, SameFound, SameValue}
use Rattle.fm_law_two_memories.specs.Seeing.{IsThere}

-- what is held isn't null
pub not_null : (store : Store) (cell : ℕ) (object : Object) → IsOrderly store → object_at store cell ≡ Some object → cell ≡ 0 → ⊥
not_null store cell object orderly held null =
    let none : None ≡ Some object = sym orderly.null_not_held ∙ sym (ap (object_at store) null) ∙ held in absurd (cc)

-- twins of one object have one birth, and so lie in one cell
module _ (one other : Store) where
  pub forth : (a b c d : ℕ) → IsOrderly one → IsOrderly other → SameFound one other a c → SameFound one other b d → a ≡ b → c ≡ d
  forth a b c d orderly second (inl first) (inl next) same = first.1 ∙ sym next.1
  forth a b c d orderly second (inl first) (inr next) same = absurd (not_null one b next.object orderly next.held (sym same ∙ first.0))
  forth a b c d orderly second (inr first) (inl next) same = absurd (not_null one a first.object orderly first.held (same ∙ next.0))
  forth a b c d orderly second (inr first) (inr next) same =
      let object : first.object ≡ next.object =
      same_Some first.object next.object (sym first.held ∙ ap (object_at one) same ∙ next.held) in
      second.births_apart c d first.second next.second first.twin_held next.twin_held
      (first.born ∙ ap (λ (x : Object). x.birth) object ∙ sym next.born)

  pub back : (a b c d : ℕ) → IsOrderly one → IsOrderly other → SameFound one other a c → SameFound one other b d → c ≡ d → a ≡ b
  back a b c d orderly second (inl first) (inl next) same = first.0 ∙ sym next.0
  back a b c d orderly second (inl first) (inr next) same = absurd (not_null other d next.second second next.twin_held (sym same ∙ first.1))
  back a b c d orderly second (inr first) (inl next) same = absurd (not_null other c first.second second first.twin_held (same ∙ next.1))
  back a b c d orderly second (inr first) (inr next) same =
      let twin : first.second ≡ next.second =
      same_Some first.second next.second (sym first.twin_held ∙ ap (object_at other) same ∙ next.twin_held) in
      orderly.births_apart a b first.object next.object first.held next.held
      (sym first.born ∙ ap (λ (x : Object). x.birth) twin ∙ next.born)

-- ---- what is gone

-- the cell of what isn't gone corresponds to that of null or of the twin
pub found_same : (gone : Gone) (one other : Store) (a b : ℕ) → IsThere gone one a → SameCell gone one other a b → SameFound one other a b
found_same gone one other a b there (inl found) = found
found_same gone one other a b there (inr lost) = absurd (false≢true (sym (there lost.object lost.held) ∙ lost.gone_is))

-- twins aren't gone
pub twin_there : (gone : Gone) (o : Outline) (one other : Store) → ArePaired gone o one other → (a b : ℕ) (t : AreTwins one other a b)
    → gone.births t.object.birth ≡ false
twin_there gone o one other paired a b t = ap gone.births (sym t.born) ∙ paired.absent b t.second t.twin_held

-- and so what is found isn't
pub found_there : (gone : Gone) (o : Outline) (one other : Store) → ArePaired gone o one other → (a b : ℕ) → SameFound one other a b → IsThere gone one a
found_there gone o one other paired a b (inl null) object held = absurd (not_null one a object paired.orderly held null.0)
found_there gone o one other paired a b (inr t) object held =
    ap (λ (x : Object). gone.births x.birth) (same_Some object t.object (sym held ∙ t.held)) ∙ twin_there gone o one other paired a b t

pub cells_apart : (gone : Gone) (o : Outline) (one other : Store) → ArePaired gone o one other → (a b c d : ℕ) → SameCell gone one other a c
    → SameCell gone one other b d → IsThere gone one a → IsThere gone one b → ((a ≡ b) → c ≡ d) × ((c ≡ d) → a ≡ b)
cells_apart gone o one other paired a b c d first second there other_there =
    let found : SameFound one other a c = found_same gone one other a c there first in
    let other_found : SameFound one other b d = found_same gone one other b d other_there second in (
      forth one other a b c d paired.orderly paired.other_orderly found other_found,
      back one other a b c d paired.orderly paired.other_orderly found other_found,
    )

-- ---- values

pub cell_same : (gone : Gone) (one other : Store) (v w : Value) → SameValue gone one other v w → SameCell gone one other (cell_of v) (cell_of w)
cell_same gone one other value.Top w h = inl (inl (refl, ap cell_of h))
cell_same gone one other (value.Int n) w h = inl (inl (refl, ap cell_of h))
cell_same gone one other (value.Long n) w h = inl (inl (refl, ap cell_of h))
cell_same gone one other (value.Ref cell) w h = subst (λ (other_value : Value). SameCell gone one other cell.0 (cell_of other_value)) (sym h.1) h.2

-- tests that hold of each other's numbers are equal
same_test : (a b c d : ℕ) → ((a ≡ b) → c ≡ d) → ((c ≡ d) → a ≡ b) → nat_eq c d ≡ nat_eq a b
same_test a b c d forwards backwards = by_tests (nat_eq a b) (nat_eq c d) refl refl where
  by_tests : (first second : Bool) → nat_eq a b ≡ first → nat_eq c d ≡ second → nat_eq c d ≡ nat_eq a b
  by_tests true true is other = other ∙ sym is
  by_tests false false is other = other ∙ sym is
  by_tests true false is other = absurd (false≢true (sym other ∙ eq-eqb c d (forwards (eqb-true a b is))))
  by_tests false true is other = absurd (false≢true (sym is ∙ eq-eqb a b (backwards (eqb-true c d other))))

-- of cells that are found the tests agree
pub found_tests : (one other : Store) (a b c d : ℕ) → IsOrderly one → IsOrderly other → SameFound one other a c → SameFound one other b d
    → nat_eq c d ≡ nat_eq a b
found_tests one other a b c d orderly second first next =
    same_test a b c d (forth one other a b c d orderly second first next) (back one other a b c d orderly second first next)

pub tests_agree : (gone : Gone) (o : Outline) (one other : Store) → ArePaired gone o one other → (a b c d : Value) → SameValue gone one other a c
    → SameValue gone one other b d → IsThere gone one (cell_of a) → IsThere gone one (cell_of b) → same_cell c d ≡ same_cell a b
tests_agree gone o one other paired a b c d first second there other_there =
    found_tests one other (cell_of a) (cell_of b) (cell_of c) (cell_of d) paired.orderly paired.other_orderly
    (found_same gone one other (cell_of a) (cell_of c) there (cell_same gone one other a c first))
    (found_same gone one other (cell_of b) (cell_of d) other_there (cell_same gone one other b d second))
