-- Behind a site no place of the frame that isn't initialised leads to the result: each was there before, and led elsewhere.
use Rattle.std.proofs.Common.{◌≡◌, ◌≢◌, ℕ, zero, suc, true, List, [], ◌∷◌, ◌++◌, length, Some, ap, subst, ◌∙◌, refl, slice_get, arith}
use Rattle.std.specs.List.{AllByRecursion, AllZip}
use Rattle.std.proofs.lemmas.Bool.{eqb-true, false≢true}
use Rattle.std.proofs.lemmas.Option.{same_Some}
use Rattle.fm_types.proofs.StateOrder.{Fitting}
use Rattle.fm_types.specs.Fits.{fits}
use Rattle.fm_types.specs.declared.slots.Slot.{Slot}
use Rattle.fm_types.specs.declared.slots.Slot.TheVariants as slot
use Rattle.fm_types.proofs.Zips.{zip-append}
use Rattle.fm_world.specs.Programs.{Outline}
use Rattle.fm_frames.specs.Acts.{cell_of}
use Rattle.fm_frames.specs.declared.values.Value.{Value}
use Rattle.fm_law_no_fault.proofs.SlotsFit.{zip_along}
use Rattle.fm_law_holders.proofs.SiteStates.{Stays}

-- where the checker has the object of a `new`, the value leads to another cell
abbrev pub LeadsElsewhere : (cell : ℕ) → Slot → Value → Type 0
LeadsElsewhere cell (slot.Uninit item) v = cell_of v ≢ cell
LeadsElsewhere cell s v = Unit {0}

-- ---- lists

-- what stands in the first list where something stands in the second one
pub zip_back : {A B : Type 0} (R : A → B → Type 0) (xs : List A) (ys : List B) (n : ℕ) (y : B) → AllZip R xs ys → slice_get ys n ≡ Some y
    → (x : A) × (slice_get xs n ≡ Some x) × R x y
zip_back R xs [] n y all at = absurd (cc)
zip_back R [] (b ∷ ys) n y all at = absurd all
zip_back R (a ∷ xs) (b ∷ ys) zero y all at = (a, refl, subst (λ c. R a c) (same_Some b y at) all.0)
zip_back R (a ∷ xs) (b ∷ ys) (suc n) y all at = zip_back R xs ys n y all.1 at

-- and the other way round
pub zip_found : {A B : Type 0} (P : A → B → Type 0) (xs : List A) (ys : List B) (n : ℕ) (x : A) → AllZip P xs ys → slice_get xs n ≡ Some x
    → (y : B) × (slice_get ys n ≡ Some y) × P x y
zip_found P [] ys n x all at = absurd (cc)
zip_found P (a ∷ xs) [] n x all at = absurd all
zip_found P (a ∷ xs) (b ∷ ys) zero x all at = (b, refl, subst (λ c. P c b) (same_Some a x at) all.0)
zip_found P (a ∷ xs) (b ∷ ys) (suc n) x all at = zip_found P xs ys n x all.1 at

-- what holds at each place
pub zip_by_places : {A B : Type 0} (P Q : A → B → Type 0) (xs : List A) (ys : List B) → AllZip P xs ys
    → ((n : ℕ) (x : A) (y : B) → slice_get xs n ≡ Some x → slice_get ys n ≡ Some y → P x y → Q x y) → AllZip Q xs ys
zip_by_places P Q [] [] all each = tt
zip_by_places P Q [] (y ∷ ys) all each = absurd all
zip_by_places P Q (x ∷ xs) [] all each = absurd all
zip_by_places P Q (x ∷ xs) (y ∷ ys) all each =
    (each 0 x y refl refl all.0, zip_by_places P Q xs ys all.1 (λ n a b at found. each (suc n) a b at found))

-- ---- slots

-- a slot that stays along the edge to the next item
pub stays_along : (o : Outline) (IsOne : ℕ → Type 0) (a b c : Slot) → Stays IsOne a b → fits o b c ≡ true → Stays IsOne a c
unfolding fits
stays_along o IsOne a (slot.Uninit other) (slot.Uninit item) stays fit found is =
    let same : slot.Uninit other ≡ slot.Uninit found = ap slot.Uninit (eqb-true other item fit) ∙ is in stays found same
stays_along o IsOne a b (slot.Uninit item) stays fit found is = absurd (false≢true fit)
stays_along o IsOne a b slot.Top stays fit found is = absurd (cc)
stays_along o IsOne a b slot.Int stays fit found is = absurd (cc)
stays_along o IsOne a b slot.Long stays fit found is = absurd (cc)
stays_along o IsOne a b slot.Null stays fit found is = absurd (cc)
stays_along o IsOne a b (slot.Ref t) stays fit found is = absurd (cc)
stays_along o IsOne a b slot.UninitThis stays fit found is = absurd (cc)

module _ (cell : ℕ) where
  abbrev Elsewhere : Slot → Value → Type 0
  Elsewhere s v = LeadsElsewhere cell s v

  -- along the edge to the next item
  fitting_elsewhere : (o : Outline) (a b : Slot) (v : Value) → fits o a b ≡ true → Elsewhere a v → Elsewhere b v
  unfolding fits
  fitting_elsewhere o (slot.Uninit other) (slot.Uninit item) v fit there = there
  fitting_elsewhere o a (slot.Uninit item) v fit there = absurd (false≢true fit)
  fitting_elsewhere o a slot.Top v fit there = tt
  fitting_elsewhere o a slot.Int v fit there = tt
  fitting_elsewhere o a slot.Long v fit there = tt
  fitting_elsewhere o a slot.Null v fit there = tt
  fitting_elsewhere o a (slot.Ref t) v fit there = tt
  fitting_elsewhere o a slot.UninitThis v fit there = tt

  pub along_elsewhere : (o : Outline) (xs ys : List Slot) (words : List Value) → AllZip (Fitting o) xs ys → AllZip Elsewhere xs words
      → AllZip Elsewhere ys words
  along_elsewhere o xs ys words fit there = zip_along (Fitting o) Elsewhere Elsewhere (fitting_elsewhere o) xs ys words fit there

  -- what is given is initialised
  given_elsewhere : (s : Slot) (v : Value) → ((item : ℕ) → s ≢ slot.Uninit item) → Elsewhere s v
  given_elsewhere (slot.Uninit item) v initialised = absurd (initialised item refl)
  given_elsewhere slot.Top v initialised = tt
  given_elsewhere slot.Int v initialised = tt
  given_elsewhere slot.Long v initialised = tt
  given_elsewhere slot.Null v initialised = tt
  given_elsewhere (slot.Ref t) v initialised = tt
  given_elsewhere slot.UninitThis v initialised = tt

  all_given : (given : List Slot) (top : List Value) → AllByRecursion (λ s. (item : ℕ) → s ≢ slot.Uninit item) given → length given ≡ length top
      → AllZip Elsewhere given top
  all_given [] [] initialised level = tt
  all_given [] (v ∷ top) initialised level = absurd (omega (arith, level))
  all_given (s ∷ given) [] initialised level = absurd (omega (arith, level))
  all_given (s ∷ given) (v ∷ top) initialised level =
      (given_elsewhere s v initialised.0, all_given given top initialised.1 (omega (arith, level)))

  -- What holds of the places that aren't initialised before the site keeps those that the site leaves from leading to the cell.
  module _ (IsOne : ℕ → Type 0) (Holds : Slot → Value → Type 0) (avoids : (item : ℕ) (v : Value) → IsOne item → Holds (slot.Uninit item) v → cell_of v ≢ cell) where
    stays_elsewhere : (a b : Slot) (v : Value) → Stays IsOne a b → Holds a v → Elsewhere b v
    stays_elsewhere a (slot.Uninit item) v stays holds =
        let before = stays item refl in avoids item v before.1 (subst (λ s. Holds s v) before.0 holds)
    stays_elsewhere a slot.Top v stays holds = tt
    stays_elsewhere a slot.Int v stays holds = tt
    stays_elsewhere a slot.Long v stays holds = tt
    stays_elsewhere a slot.Null v stays holds = tt
    stays_elsewhere a (slot.Ref t) v stays holds = tt
    stays_elsewhere a slot.UninitThis v stays holds = tt

    pub places_elsewhere : (before left : List Slot) (words : List Value) → AllZip (Stays IsOne) before left → AllZip Holds before words
        → AllZip Elsewhere left words
    places_elsewhere before left words stays holds = zip_along (Stays IsOne) Holds Elsewhere stays_elsewhere before left words stays holds

    -- words that are given, on top of those that stay
    pub words_elsewhere : (given rest before : List Slot) (top words : List Value) → AllByRecursion (λ s. (item : ℕ) → s ≢ slot.Uninit item) given
        → length given ≡ length top → AllZip (Stays IsOne) before rest → AllZip Holds before words → AllZip Elsewhere (given ++ rest) (top ++ words)
    words_elsewhere given rest before top words initialised level stays holds =
        zip-append Elsewhere given top rest words (all_given given top initialised level) (places_elsewhere before rest words stays holds)
