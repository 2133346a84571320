-- States fit still where items have other numbers.
use Rattle.std.proofs.Common.{◌≡◌, refl, ◌∙◌, ℕ, ◌&&◌, ◌||◌, not, true, List, [], ◌∷◌, ◌++◌, map}
use Rattle.std.proofs.lemmas.Bool.{and_parts, false≢true}
use Rattle.fm_law_relinked.proofs.RowSteps.{fits_with}
use Rattle.fm_law_relinked.specs.Rows.{AreApart, slot_with, StatesFitStill}
use Rattle.fm_types.specs.Fits.{fits}
use Rattle.fm_types.specs.States.{all_fit, state_fits}
use Rattle.fm_types.specs.declared.slots.Slot.{Slot}
use Rattle.fm_types.specs.declared.slots.Slot.TheVariants as slot
use Rattle.fm_world.specs.Programs.{Outline}

module _ (numbers : ℕ → ℕ) (apart : AreApart numbers) (o : Outline) where
  abbrev other : Slot → Slot
  other = slot_with numbers

  uninit_fits : (s : Slot) (item : ℕ) → fits o (other s) (slot.Uninit (numbers item)) ≡ fits o s (slot.Uninit item)
  unfolding fits
  uninit_fits slot.Top item = refl
  uninit_fits slot.Int item = refl
  uninit_fits slot.Long item = refl
  uninit_fits slot.Null item = refl
  uninit_fits (slot.Ref t) item = refl
  uninit_fits (slot.Uninit another) item = apart another item
  uninit_fits slot.UninitThis item = refl

  slot_fits : (s t : Slot) → fits o (other s) (other t) ≡ fits o s t
  slot_fits s slot.Top = fits_with numbers o s slot.Top tt
  slot_fits s slot.Int = fits_with numbers o s slot.Int tt
  slot_fits s slot.Long = fits_with numbers o s slot.Long tt
  slot_fits s slot.Null = fits_with numbers o s slot.Null tt
  slot_fits s (slot.Ref t) = fits_with numbers o s (slot.Ref t) tt
  slot_fits s (slot.Uninit item) = uninit_fits s item
  slot_fits s slot.UninitThis = fits_with numbers o s slot.UninitThis tt

  stack_fits : (xs ys : List Slot) → all_fit o xs ys ≡ true → all_fit o (map other xs) (map other ys) ≡ true
  stack_fits [] [] fit = refl
  stack_fits [] (y ∷ ys) fit = absurd (false≢true fit)
  stack_fits (x ∷ xs) [] fit = absurd (false≢true fit)
  stack_fits (x ∷ xs) (y ∷ ys) fit =
      let both = and_parts (fits o x y) (all_fit o xs ys) fit in λ k. (slot_fits x y ∙ both.0) k && stack_fits xs ys both.1 k

  locals_fit : (more others xs ys : List Slot) → all_fit o more others ≡ true → all_fit o xs ys ≡ true
      → all_fit o (map other xs ++ more) (map other ys ++ others) ≡ true
  locals_fit more others [] [] behind fit = behind
  locals_fit more others [] (y ∷ ys) behind fit = absurd (false≢true fit)
  locals_fit more others (x ∷ xs) [] behind fit = absurd (false≢true fit)
  locals_fit more others (x ∷ xs) (y ∷ ys) behind fit =
      let both = and_parts (fits o x y) (all_fit o xs ys) fit in λ k. (slot_fits x y ∙ both.0) k && locals_fit more others xs ys behind both.1 k

pub states_fit : StatesFitStill
unfolding state_fits
states_fit numbers more others apart o a b fit behind =
    let first = and_parts (all_fit o a.locals b.locals && all_fit o a.stack b.stack) (a.built || not b.built) fit in
    let two = and_parts (all_fit o a.locals b.locals) (all_fit o a.stack b.stack) first.0 in
    λ k.
    (locals_fit numbers apart o more others a.locals b.locals behind two.0 k && stack_fits numbers apart o a.stack b.stack two.1 k) && first.1 k
