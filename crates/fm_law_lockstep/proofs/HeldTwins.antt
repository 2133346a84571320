-- What a value of the first program leads to, and what its twin leads to.
use Rattle.std.proofs.Common.{◌≡◌, ℕ, true, false, inl, inr, Some, refl, sym, ap, subst, ◌∙◌, ⊎_elim}
use Rattle.std.proofs.lemmas.Bool.{false≢true}
use Rattle.std.proofs.lemmas.Bool.{cases_Bool}
use Rattle.std.proofs.lemmas.Option.{same_Some}
use Rattle.fm_cells.specs.Objects.{Object}
use Rattle.fm_cells.specs.Stores.{object_at, Store}
use Rattle.fm_frames.specs.Acts.{cell_of}
use Rattle.fm_frames.specs.States.{null, ref}
use Rattle.fm_frames.specs.declared.values.Value.{Value}
use Rattle.fm_law_holders.specs.Holding.{Holding, HoldsFixed, HoldsNull, HoldsOwn, HoldsFreeable}
use Rattle.fm_law_two_memories.proofs.Twins.{cell_same, found_same, not_null}
use Rattle.fm_law_two_memories.specs.Pairing.{ArePaired, AreTwins, Gone, HasTwin, SameCell, SameFound, SameValue}
use Rattle.fm_law_two_memories.specs.Seeing.{IsThere}
use Rattle.fm_same.specs.Colours.{Colour}
use Rattle.fm_same.specs.Regions.{Own, Retired}
use Rattle.fm_world.specs.Programs.{Outline}

module _ (gone : Gone) (o : Outline) (one other : Store) (paired : ArePaired gone o one other) (colour : Colour)
    (retired : (birth : ℕ) → gone.births birth ≡ true → colour birth ≡ Retired) where
  -- what is held with an own region isn't gone, nor is what lives for ever
  own_there : (cell depth class : ℕ) (object : Object) → object_at one cell ≡ Some object → colour object.birth ≡ Own depth class → IsThere gone one cell
  own_there cell depth class object held own found found_at =
      ⊎_elim
      (λ lost.
      let same : found ≡ object = same_Some found object (sym found_at ∙ held) in
      let both : Own depth class ≡ Retired = sym own ∙ ap (λ (a : Object). colour a.birth) (sym same) ∙ retired found.birth lost in absurd (cc))
      (λ here. here) (cases_Bool (gone.births found.birth))

  fixed_there : (cell : ℕ) (object : Object) → object_at one cell ≡ Some object → object.fixed ≡ true → IsThere gone one cell
  fixed_there cell object held fixed found found_at =
      ⊎_elim
      (λ lost.
      let same : found ≡ object = same_Some found object (sym found_at ∙ held) in
      absurd (false≢true (sym (paired.loose cell found found_at lost) ∙ ap (λ (a : Object). a.fixed) same ∙ fixed)))
      (λ here. here) (cases_Bool (gone.births found.birth))

  null_there : (cell : ℕ) → cell ≡ 0 → IsThere gone one cell
  null_there cell none found found_at = absurd (not_null one cell found paired.orderly found_at none)

  holds_there : (depth class : ℕ) (v : Value) → Holding one colour depth class v → IsThere gone one (cell_of v)
  holds_there depth class v (HoldsNull none) = null_there (cell_of v) (ap cell_of none)
  holds_there depth class v (HoldsFixed object held fixed) = fixed_there (cell_of v) object held fixed
  holds_there depth class v (HoldsOwn object held loose own) = own_there (cell_of v) depth class object held own

  -- ---- twins

  -- the twin lives for ever where its object does
  twins_fixed : (cell twin : ℕ) (t : AreTwins one other cell twin) → t.second.fixed ≡ t.object.fixed
  twins_fixed cell twin t = by_twin (paired.objects cell t.object t.held here) where
    here : gone.births t.object.birth ≡ false
    here = ap gone.births (sym t.born) ∙ paired.absent twin t.second t.twin_held

    by_twin : HasTwin gone o one other t.object → t.second.fixed ≡ t.object.fixed
    by_twin h =
        let cells : h.cell ≡ twin = paired.other_orderly.births_apart h.cell twin h.twin t.second h.held t.twin_held (h.alike.birth ∙ sym t.born) in
        let same : h.twin ≡ t.second = same_Some h.twin t.second (sym h.held ∙ ap (object_at other) cells ∙ t.twin_held) in
        ap (λ (a : Object). a.fixed) (sym same) ∙ h.alike.fixed

  -- what the second one leads to may be freed where the first one's object may, if that isn't gone
  pub there_may : (v w : Value) → SameValue gone one other v w → IsThere gone one (cell_of v) → (birth : ℕ) → HoldsFreeable other w birth → HoldsFreeable one v birth
  there_may v w same there birth may =
      by_found (found_same gone one other (cell_of v) (cell_of w) there (cell_same gone one other v w same)) where
        by_found : SameFound one other (cell_of v) (cell_of w) → HoldsFreeable one v birth
        by_found (inl none) = absurd (not_null other (cell_of w) may.object paired.other_orderly may.held none.1)
        by_found (inr t) =
            let object : t.second ≡ may.object = same_Some t.second may.object (sym t.twin_held ∙ may.held) in
            record {
              object = t.object;
              held = t.held;
              not_fixed = sym (twins_fixed (cell_of v) (cell_of w) t) ∙ ap (λ (a : Object). a.fixed) object ∙ may.not_fixed;
              birth_is = sym t.born ∙ ap (λ (a : Object). a.birth) object ∙ may.birth_is;
            }

  module _ (depth class : ℕ) (v w : Value) (same : SameValue gone one other v w) (holds : Holding one colour depth class v) where
    found : SameFound one other (cell_of v) (cell_of w)
    found = found_same gone one other (cell_of v) (cell_of w) (holds_there depth class v holds) (cell_same gone one other v w same)

    pub twin_may : (birth : ℕ) → HoldsFreeable other w birth → HoldsFreeable one v birth
    twin_may birth may = there_may v w same (holds_there depth class v holds) birth may

    -- only null is the twin of null
    null_twin : v ≡ null → w ≡ null
    null_twin none = by_twin (subst (λ u. SameValue gone one other u w) none same) where
      by_twin : SameValue gone one other null w → w ≡ null
      by_twin h = h.1 ∙ ap ref (by_cell h.2) where
        by_cell : SameCell gone one other 0 h.0 → h.0 ≡ 0
        by_cell (inl (inl none)) = none.1
        by_cell (inl (inr t)) = absurd (not_null one 0 t.object paired.orderly t.held refl)
        by_cell (inr lost) = absurd (not_null one 0 lost.object paired.orderly lost.held refl)

    by_object : (object : Object) → object_at one (cell_of v) ≡ Some object → SameFound one other (cell_of v) (cell_of w)
        → (second : Object) × (object_at other (cell_of w) ≡ Some second) × (second.birth ≡ object.birth) × (second.fixed ≡ object.fixed)
    by_object object held (inl none) = absurd (not_null one (cell_of v) object paired.orderly held none.0)
    by_object object held (inr t) =
        let objects : t.object ≡ object = same_Some t.object object (sym t.held ∙ held) in (
          t.second,
          t.twin_held,
          t.born ∙ ap (λ (a : Object). a.birth) objects,
          twins_fixed (cell_of v) (cell_of w) t ∙ ap (λ (a : Object). a.fixed) objects,
        )

    -- and holds what that does
    pub twin_holds : Holding other colour depth class w
    twin_holds = by_holding holds where
      by_holding : Holding one colour depth class v → Holding other colour depth class w
      by_holding (HoldsNull none) = HoldsNull (null_twin none)
      by_holding (HoldsFixed object held fixed) = let t = by_object object held found in HoldsFixed t.0 t.1 (t.3 ∙ fixed)
      by_holding (HoldsOwn object held loose own) = let t = by_object object held found in HoldsOwn t.0 t.1 (t.3 ∙ loose) (ap colour t.2 ∙ own)
