-- What holds of each effect that a row can have holds of the row, where the words of the stack fit
-- what the checker's row takes of it: an operand is of the sort that is asked, and a reference
-- leads to null or to an object that fits.
use Rattle.std.proofs.Common.{◌≡◌, ℕ, zero, suc, ℤ, Bool, true, false, cond, List, [], ◌∷◌, Option, Some, sym, ◌∙◌, ap, subst, refl, slice_get}
use Rattle.std.specs.List.{AllZip}
use Rattle.std.proofs.lemmas.Option.{same_Some}
use Rattle.fm_base.proofs.OptionFacts.{cond-some_then}
use Rattle.fm_base.specs.declared.kinds.TypeRef.{TypeRef}
use Rattle.fm_cells.specs.Stores.{Store}
use Rattle.fm_types.specs.Fits.{AreTree, fits, fits_type}
use Rattle.fm_types.specs.States.{taken}
use Rattle.fm_types.specs.declared.slots.Slot.{Slot}
use Rattle.fm_types.specs.declared.slots.Slot.TheVariants as slot
use Rattle.fm_world.specs.Programs.{Outline}
use Rattle.fm_frames.specs.Acts.{cell_of}
use Rattle.fm_frames.specs.Effects.{Effect, faulty}
use Rattle.fm_frames.specs.Operands.{on_held, on_held_of, on_int, on_int_of, on_long, on_long_of, on_object, on_passing, on_reference, on_reference_of, thrown_null}
use Rattle.fm_frames.specs.Sights.{Gone, Looks, Null, sight, Sight, sights, Thing, Word}
use Rattle.fm_frames.specs.States.{word_at}
use Rattle.fm_frames.specs.declared.values.Value.{Value}
use Rattle.fm_law_sound.specs.Sound.{IsReference}
use Rattle.fm_law_no_fault.specs.Seen.{SeesA}
use Rattle.fm_law_no_fault.specs.Whole.{LeadsToA, WordFits}
use Rattle.fm_law_no_fault.proofs.Operands.{int_kind, long_kind, reference_kind}
use Rattle.fm_law_no_fault.proofs.SlotsFit.{cell_along}
use Rattle.fm_law_no_fault.proofs.StoresKeep.{sees}

-- ---- what is taken of a stack

-- the slot that is where one is wanted fits it
pub wanted_at : (o : Outline) (wanted stack rest : List Slot) → taken o wanted stack ≡ Some rest → (n : ℕ) (w : Slot) → slice_get wanted n ≡ Some w
    → (s : Slot) × (slice_get stack n ≡ Some s) × (fits o s w ≡ true)
wanted_at o [] stack rest is n w at = absurd (cc)
wanted_at o (x ∷ wanted) [] rest is n w at = absurd (cc)
wanted_at o (x ∷ wanted) (s ∷ stack) rest is zero w at =
    let parts = cond-some_then (fits o s x) (taken o wanted stack) rest is in
    (s, refl, subst (λ t. fits o s t ≡ true) (same_Some x w at) parts.0)
wanted_at o (x ∷ wanted) (s ∷ stack) rest is (suc n) w at =
    wanted_at o wanted stack rest (cond-some_then (fits o s x) (taken o wanted stack) rest is).1 n w at

-- ---- one word

module _ (o : Outline) (store : Store) (own : ℕ) (news : ℕ → Option TypeRef) where
  pub word_fits_at : (xs : List Slot) (words : List Value) → AllZip (WordFits o store own news) xs words → (n : ℕ) (s : Slot) → slice_get xs n ≡ Some s
      → WordFits o store own news s (word_at words n)
  word_fits_at [] words h n s at = absurd (cc)
  word_fits_at (x ∷ xs) [] h n s at = absurd h
  word_fits_at (x ∷ xs) (v ∷ words) h zero s at = subst (λ t. WordFits o store own news t v) (same_Some x s at) h.0
  word_fits_at (x ∷ xs) (v ∷ words) h (suc n) s at = word_fits_at xs words h.1 n s at

  pub word_there : (xs : List Slot) (words : List Value) → AllZip (WordFits o store own news) xs words → (n : ℕ) (s : Slot) → slice_get xs n ≡ Some s
      → slice_get (sights o store words) n ≡ Some (sight o store (word_at words n))
  word_there [] words h n s at = absurd (cc)
  word_there (x ∷ xs) [] h n s at = absurd h
  word_there (x ∷ xs) (v ∷ words) h zero s at = refl
  word_there (x ∷ xs) (v ∷ words) h (suc n) s at = word_there xs words h.1 n s at

  -- ---- what follows of a word, for any predicate

  module _ (P : Effect → Type 0) (xs : List Slot) (words : List Value) (h : AllZip (WordFits o store own news) xs words) (n : ℕ) (s : Slot) (at : slice_get xs n ≡ Some s) where
    abbrev v : Value
    v = word_at words n

    fit : WordFits o store own news s v
    fit = word_fits_at xs words h n s at

    there : slice_get (sights o store words) n ≡ Some (sight o store v)
    there = word_there xs words h n s at

    pub slot_int : fits o s slot.Int ≡ true → (k : ℤ → Effect) → ((i : ℤ) → P (k i)) → P (on_int (sights o store words) n k)
    slot_int f k each =
        let is = int_kind o store own news s v f fit.kind in
        subst (λ found. P (on_int_of found k)) (sym (there ∙ ap (λ w. Some (sight o store w)) is.1)) (each is.0)

    pub slot_long : fits o s slot.Long ≡ true → (k : ℤ → Effect) → ((i : ℤ) → P (k i)) → P (on_long (sights o store words) n k)
    slot_long f k each =
        let is = long_kind o store own news s v f fit.kind in
        subst (λ found. P (on_long_of found k)) (sym (there ∙ ap (λ w. Some (sight o store w)) is.1)) (each is.0)

    by_sight : (of_null : Effect) (k : Looks → Effect) (test : TypeRef → Bool) (seen : Sight) → slice_get (sights o store words) n ≡ Some seen
        → SeesA test seen → (slice_get (sights o store words) n ≡ Some Null → P of_null) → ((it : Looks) → slice_get (sights o store words) n ≡ Some (Thing it) → test it.type ≡ true → P (k it))
        → P (on_held of_null (sights o store words) n k)
    by_sight of_null k test (Word w) is sees null each = absurd sees
    by_sight of_null k test Null is sees null each = subst (λ found. P (on_held_of of_null n found k)) (sym is) (null is)
    by_sight of_null k test (Thing it) is sees null each = subst (λ found. P (on_held_of of_null n found k)) (sym is) (each it is sees)
    by_sight of_null k test Gone is sees null each = absurd sees

    -- null, or an object of a type that passes
    pub slot_held : (of_null : Effect) (k : Looks → Effect) (test : TypeRef → Bool) → IsReference v → LeadsToA o store test (cell_of v)
        → (slice_get (sights o store words) n ≡ Some Null → P of_null) → ((it : Looks) → slice_get (sights o store words) n ≡ Some (Thing it) → test it.type ≡ true → P (k it))
        → P (on_held of_null (sights o store words) n k)
    slot_held of_null k test reference leads null each = by_sight of_null k test (sight o store v) there (sees o store test v reference leads) null each

    -- what passes a test is asked no further
    pub slot_passing : (k : Looks → Effect) (test : TypeRef → Bool) → IsReference v → LeadsToA o store test (cell_of v) → P (thrown_null o)
        → ((it : Looks) → slice_get (sights o store words) n ≡ Some (Thing it) → test it.type ≡ true → P (k it))
        → P (on_passing o (λ it. test it.type) (sights o store words) n k)
    slot_passing k test reference leads null each =
        slot_held (thrown_null o) (λ it. cond (test it.type) (k it) (faulty n)) test reference leads (λ is. null)
        (λ it seen passes. subst (λ b. P (cond b (k it) (faulty n))) (sym passes) (each it seen passes))

    -- a reference at which nothing is looked
    by_reference : (k : Bool → Effect) (seen : Sight) (test : TypeRef → Bool) → SeesA test seen → ((b : Bool) → P (k b)) → P (on_reference_of (Some seen) k)
    by_reference k (Word w) test sees each = absurd sees
    by_reference k Null test sees each = each true
    by_reference k (Thing it) test sees each = each false
    by_reference k Gone test sees each = absurd sees

    pub slot_reference : (k : Bool → Effect) (test : TypeRef → Bool) → IsReference v → LeadsToA o store test (cell_of v) → ((b : Bool) → P (k b))
        → P (on_reference (sights o store words) n k)
    slot_reference k test reference leads each =
        subst (λ found. P (on_reference_of found k)) (sym there) (by_reference k (sight o store v) test (sees o store test v reference leads) each)

  -- ---- words that are taken

  module _ (tree : AreTree o.classes) (P : Effect → Type 0) (wanted stack rest : List Slot) (is : taken o wanted stack ≡ Some rest) (words : List Value) (h : AllZip (WordFits o store own news) stack words) where
    pub wanted_int : (n : ℕ) → slice_get wanted n ≡ Some slot.Int → (k : ℤ → Effect) → ((i : ℤ) → P (k i)) → P (on_int (sights o store words) n k)
    wanted_int n at k each =
        let found = wanted_at o wanted stack rest is n slot.Int at in slot_int P stack words h n found.0 found.1 found.2 k each

    pub wanted_long : (n : ℕ) → slice_get wanted n ≡ Some slot.Long → (k : ℤ → Effect) → ((i : ℤ) → P (k i)) → P (on_long (sights o store words) n k)
    wanted_long n at k each =
        let found = wanted_at o wanted stack rest is n slot.Long at in slot_long P stack words h n found.0 found.1 found.2 k each

    -- the word is a reference, and leads to what fits
    pub wanted_leads : (n : ℕ) (t : TypeRef) → slice_get wanted n ≡ Some (slot.Ref t)
        → IsReference (word_at words n) × LeadsToA o store (λ u. fits_type o.classes u t) (cell_of (word_at words n))
    wanted_leads n t at =
        let found = wanted_at o wanted stack rest is n (slot.Ref t) at in
        let fit : WordFits o store own news found.0 (word_at words n) = word_fits_at stack words h n found.0 found.1 in
        (reference_kind o store own news found.0 t (word_at words n) found.2 fit.kind, cell_along o tree store own news found.0 (slot.Ref t) _ found.2 fit.cell)

    pub wanted_held : (n : ℕ) (t : TypeRef) → slice_get wanted n ≡ Some (slot.Ref t) → (of_null : Effect) (k : Looks → Effect)
        → (slice_get (sights o store words) n ≡ Some Null → P of_null) → ((it : Looks) → slice_get (sights o store words) n ≡ Some (Thing it) → fits_type o.classes it.type t ≡ true → P (k it))
        → P (on_held of_null (sights o store words) n k)
    wanted_held n t at of_null k null each =
        let found = wanted_at o wanted stack rest is n (slot.Ref t) at in
        let leads = wanted_leads n t at in
        slot_held P stack words h n found.0 found.1 of_null k (λ u. fits_type o.classes u t) leads.0 leads.1 null each

    pub wanted_object : (n : ℕ) (t : TypeRef) → slice_get wanted n ≡ Some (slot.Ref t) → (k : Looks → Effect) → P (thrown_null o)
        → ((it : Looks) → slice_get (sights o store words) n ≡ Some (Thing it) → fits_type o.classes it.type t ≡ true → P (k it))
        → P (on_object o t (sights o store words) n k)
    wanted_object n t at k null each =
        let found = wanted_at o wanted stack rest is n (slot.Ref t) at in
        let leads = wanted_leads n t at in
        slot_passing P stack words h n found.0 found.1 k (λ u. fits_type o.classes u t) leads.0 leads.1 null each

    pub wanted_reference : (n : ℕ) (t : TypeRef) → slice_get wanted n ≡ Some (slot.Ref t) → (k : Bool → Effect) → ((b : Bool) → P (k b))
        → P (on_reference (sights o store words) n k)
    wanted_reference n t at k each =
        let found = wanted_at o wanted stack rest is n (slot.Ref t) at in
        let leads = wanted_leads n t at in
        slot_reference P stack words h n found.0 found.1 k (λ u. fits_type o.classes u t) leads.0 leads.1 each
