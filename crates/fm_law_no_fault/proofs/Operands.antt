-- What a row requires of its operands holds where the checker has slots that fit: then neither
-- operands of another sort nor cells in which they can't be are met.
use Rattle.std.proofs.Common.{◌≡◌, ℕ, zero, suc, ℤ, Bool, true, cond, List, [], ◌∷◌, Option, Some, sym, ◌∙◌, ap, subst, refl, slice_get}
use Rattle.std.specs.List.{AllZip}
use Rattle.std.proofs.lemmas.Bool.{false≢true}
use Rattle.std.proofs.lemmas.Option.{same_Some}
use Rattle.fm_base.specs.declared.kinds.TypeRef.{TypeRef}
use Rattle.fm_cells.specs.Stores.{Store}
use Rattle.fm_types.specs.Fits.{AreTree, fits, fits_type}
use Rattle.fm_types.specs.declared.slots.Slot.{Slot}
use Rattle.fm_types.specs.declared.slots.Slot.TheVariants as slot
use Rattle.fm_world.specs.Programs.{Outline}
use Rattle.fm_frames.specs.Acts.{cell_of}
use Rattle.fm_frames.specs.Effects.{Effect, faulty}
use Rattle.fm_frames.specs.Operands.{on_held, on_held_of, on_int, on_int_of, on_long, on_long_of, on_object, thrown_null}
use Rattle.fm_frames.specs.Sights.{Gone, Looks, Null, sight, Sight, sights, Thing, Word}
use Rattle.fm_frames.specs.declared.values.Value.{Value}
use Rattle.fm_frames.specs.declared.values.Value.TheVariants as value
use Rattle.fm_law_sound.specs.Sound.{HasKind, IsReference}
use Rattle.fm_law_no_fault.specs.Seen.{IsNoFault, SeesA}
use Rattle.fm_law_no_fault.specs.Whole.{WordFits}
use Rattle.fm_law_no_fault.proofs.SlotsFit.{cell_along}
use Rattle.fm_law_no_fault.proofs.StoresKeep.{sees}

-- ---- what follows of an operand that is seen as asked, for any predicate

module _ (P : Effect → Type 0) (all : List Sight) (operand : ℕ) where
  pub int_here : (k : ℤ → Effect) (n : ℤ) → slice_get all operand ≡ Some (Word (value.Int n)) → P (k n) → P (on_int all operand k)
  int_here k n at h = subst (λ found. P (on_int_of found k)) (sym at) h

  pub long_here : (k : ℤ → Effect) (n : ℤ) → slice_get all operand ≡ Some (Word (value.Long n)) → P (k n) → P (on_long all operand k)
  long_here k n at h = subst (λ found. P (on_long_of found k)) (sym at) h

  held_seen : (of_null : Effect) (k : Looks → Effect) (test : TypeRef → Bool) (s : Sight) → SeesA test s → P of_null
      → ((it : Looks) → test it.type ≡ true → P (k it)) → P (on_held_of of_null operand (Some s) k)
  held_seen of_null k test (Word v) seen null each = absurd seen
  held_seen of_null k test Null seen null each = null
  held_seen of_null k test (Thing it) seen null each = each it seen
  held_seen of_null k test Gone seen null each = absurd seen

  pub held_here : (of_null : Effect) (k : Looks → Effect) (test : TypeRef → Bool) (s : Sight) → slice_get all operand ≡ Some s → SeesA test s → P of_null
      → ((it : Looks) → test it.type ≡ true → P (k it)) → P (on_held of_null all operand k)
  held_here of_null k test s at seen null each =
      subst (λ found. P (on_held_of of_null operand found k)) (sym at) (held_seen of_null k test s seen null each)

  pub object_here : (o : Outline) (t : TypeRef) (k : Looks → Effect) (s : Sight) → slice_get all operand ≡ Some s
      → SeesA (λ u. fits_type o.classes u t) s → P (thrown_null o) → ((it : Looks) → fits_type o.classes it.type t ≡ true → P (k it))
      → P (on_object o t all operand k)
  object_here o t k s at seen null each =
      held_here (thrown_null o) (λ it. cond (fits_type o.classes it.type t) (k it) (faulty operand)) (λ u. fits_type o.classes u t) s at seen null
      (λ it passes. subst (λ b. P (cond b (k it) (faulty operand))) (sym passes) (each it passes))

-- ---- words that fit

module _ (o : Outline) (store : Store) (own : ℕ) (news : ℕ → Option TypeRef) where
  pub word_seen : (xs : List Slot) (words : List Value) (n : ℕ) (s : Slot) → AllZip (WordFits o store own news) xs words → slice_get xs n ≡ Some s
      → (v : Value) × (slice_get (sights o store words) n ≡ Some (sight o store v)) × WordFits o store own news s v
  word_seen [] words n s h at = absurd (cc)
  word_seen (x ∷ xs) [] n s h at = absurd h
  word_seen (x ∷ xs) (v ∷ words) zero s h at = (v, refl, subst (λ t. WordFits o store own news t v) (same_Some x s at) h.0)
  word_seen (x ∷ xs) (v ∷ words) (suc n) s h at = word_seen xs words n s h.1 at

  pub reference_kind : (s : Slot) (t : TypeRef) (v : Value) → fits o s (slot.Ref t) ≡ true → HasKind s v → IsReference v
  unfolding fits
  reference_kind slot.Null t v f h = h
  reference_kind (slot.Ref a) t v f h = h
  reference_kind s t v f h = absurd (false≢true f)

  pub int_kind : (s : Slot) (v : Value) → fits o s slot.Int ≡ true → HasKind s v → (n : ℤ) × (v ≡ value.Int n)
  unfolding fits
  int_kind slot.Int v f h = h
  int_kind s v f h = absurd (false≢true f)

  pub long_kind : (s : Slot) (v : Value) → fits o s slot.Long ≡ true → HasKind s v → (n : ℤ) × (v ≡ value.Long n)
  unfolding fits
  long_kind slot.Long v f h = h
  long_kind s v f h = absurd (false≢true f)

  module _ (xs : List Slot) (words : List Value) (h : AllZip (WordFits o store own news) xs words) (n : ℕ) (s : Slot) (at : slice_get xs n ≡ Some s) where
    pub object_asked : AreTree o.classes → (t : TypeRef) → fits o s (slot.Ref t) ≡ true → (k : Looks → Effect)
        → ((it : Looks) → fits_type o.classes it.type t ≡ true → IsNoFault (k it).next) → IsNoFault (on_object o t (sights o store words) n k).next
    object_asked tree t f k each =
        let found = word_seen xs words n s h at in
        object_here (λ e. IsNoFault e.next) (sights o store words) n o t k (sight o store found.0) found.1
        (sees o store (λ u. fits_type o.classes u t) found.0 (reference_kind s t found.0 f found.2.kind)
        (cell_along o tree store own news s (slot.Ref t) (cell_of found.0) f found.2.cell)) tt each

    pub int_asked : fits o s slot.Int ≡ true → (k : ℤ → Effect) → ((i : ℤ) → IsNoFault (k i).next) → IsNoFault (on_int (sights o store words) n k).next
    int_asked f k each =
        let found = word_seen xs words n s h at in
        let is = int_kind s found.0 f found.2.kind in
        int_here (λ e. IsNoFault e.next) (sights o store words) n k is.0 (found.1 ∙ ap (λ v. Some (sight o store v)) is.1) (each is.0)

    pub long_asked : fits o s slot.Long ≡ true → (k : ℤ → Effect) → ((i : ℤ) → IsNoFault (k i).next) → IsNoFault (on_long (sights o store words) n k).next
    long_asked f k each =
        let found = word_seen xs words n s h at in
        let is = long_kind s found.0 f found.2.kind in
        long_here (λ e. IsNoFault e.next) (sights o store words) n k is.0 (found.1 ∙ ap (λ v. Some (sight o store v)) is.1) (each is.0)
