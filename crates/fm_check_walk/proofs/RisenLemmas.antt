-- States that are alike but for some places.
use Rattle.std.proofs.Common.{◌≡◌, refl, sym, ◌∙◌, ap, ℕ, suc, List, [], ◌∷◌, ◌++◌, length, map, reverse, Contains, subst, arith}
use Rattle.std.proofs.lemmas.List.{length-reverse}
use Rattle.std.proofs.lemmas.List.Elements.{Contains-append_left, Contains-append_right}
use Rattle.fm_code.proofs.EdgesLemmas.{Contains-map}
use Rattle.fm_check_walk.proofs.PlaceLemmas.{same_slots}
use Rattle.fm_types.specs.declared.known_state.SlotPlace.{SlotPlace}
use Rattle.fm_types.specs.declared.known_state.SlotPlace.TheVariants as place
use Rattle.fm_check_walk.specs.declared.risen.Rise.{Rise}
use Rattle.fm_check_walk.specs.inner.Risen.{AreCarried, DifferIn, IsAlikeBut}
use Rattle.fm_types.specs.States.{local_at, TypeState}
use Rattle.fm_types.specs.declared.slots.Slot.{Slot}
use Rattle.fm_types.specs.declared.slots.Slot.TheVariants as slot

-- a place at which nothing rose
abbrev pub nothing : Rise
nothing = record { place = place.Local 0; slot = slot.Top }

pub same_locals : (xs ys : List Slot) → length xs ≡ length ys → ((k : ℕ) → local_at xs k ≡ local_at ys k) → xs ≡ ys
same_locals [] [] size each = refl
same_locals [] (y ∷ ys) size each = absurd (omega (arith, size))
same_locals (x ∷ xs) [] size each = absurd (omega (arith, size))
same_locals (x ∷ xs) (y ∷ ys) size each =
    ap (λ z. z ∷ xs) (each 0) ∙ ap (λ zs. y ∷ zs) (same_locals xs ys (omega (arith, size)) (λ k. each (suc k)))

-- words that differ in these places alone
words-differ : (words : List ℕ) (xs ys a b : List Slot) → DifferIn words xs ys → xs ≡ reverse a → ys ≡ reverse b → DifferIn words (reverse a) (reverse b)
words-differ words xs ys a b differ first second k without =
    ap (λ zs. local_at zs k) (sym first) ∙ differ k without ∙ ap (λ zs. local_at zs k) second

-- states that differ in these locals and words alone
pub alike-from_places : (locals words : List ℕ) (places : List SlotPlace) (xs ys us vs : List Slot) (after before : TypeState)
    → places ≡ map (λ k. place.Local k) locals ++ map (λ h. place.Word h) words
    → DifferIn locals xs ys → xs ≡ after.locals → ys ≡ before.locals → DifferIn words us vs → us ≡ reverse after.stack → vs ≡ reverse before.stack
    → length after.locals ≡ length before.locals → length after.stack ≡ length before.stack → after.built ≡ before.built
    → IsAlikeBut places after before
alike-from_places locals words places xs ys us vs after before is differ first second differing third fourth size deep built = record {
  locals = record {
    size = size;
    among = λ k within. refl;
    apart = λ k without.
        ap (λ zs. local_at zs k) (sym first)
        ∙ differ k (λ found. without (among (place.Local k)
        (Contains-append_left (map (λ k. place.Local k) locals) (map (λ h. place.Word h) words) (place.Local k)
        (Contains-map (λ k. place.Local k) locals k found))))
        ∙ ap (λ zs. local_at zs k) second;
  };
  words = record {
    size = length-reverse after.stack ∙ deep ∙ sym (length-reverse before.stack);
    among = λ h within. refl;
    apart = λ h without.
        words-differ words us vs after.stack before.stack differing third fourth h (λ found. without (among (place.Word h)
        (Contains-append_right (map (λ k. place.Local k) locals) (map (λ h. place.Word h) words) (place.Word h)
        (Contains-map (λ h. place.Word h) words h found))));
  };
  built = built;
} where
  among : (p : SlotPlace) → Contains (map (λ k. place.Local k) locals ++ map (λ h. place.Word h) words) p → Contains places p
  among p found = subst (λ (ps : List SlotPlace). Contains ps p) (sym is) found

pub alike-refl : (places : List SlotPlace) (s : TypeState) → IsAlikeBut places s s
alike-refl places s = record {
  locals = same_slots (λ k. Contains places (place.Local k)) s.locals;
  words = same_slots (λ h. Contains places (place.Word h)) (reverse s.stack);
  built = refl;
}

-- slots that are alike but for fewer places
slots-more : (P Q : ℕ → Type 0) (xs ys : List Slot) → ((k : ℕ) → P k → Q k) → AreCarried P (local_at xs) xs ys → AreCarried Q (local_at xs) xs ys
slots-more P Q xs ys among h =
    record { size = h.size; among = λ k within. refl; apart = λ k without. h.apart k (λ found. without (among k found)) }

-- states that are
pub alike-more : (few more : List SlotPlace) (s other : TypeState) → ((p : SlotPlace) → Contains few p → Contains more p) → IsAlikeBut few s other
    → IsAlikeBut more s other
alike-more few more s other among h = record {
  locals = slots-more (λ k. Contains few (place.Local k)) (λ k. Contains more (place.Local k)) s.locals other.locals
      (λ k found. among (place.Local k) found) h.locals;
  words = slots-more (λ k. Contains few (place.Word k)) (λ k. Contains more (place.Word k)) (reverse s.stack) (reverse other.stack)
      (λ k found. among (place.Word k) found) h.words;
  built = h.built;
}

slots-then : (P : ℕ → Type 0) (xs ys zs : List Slot) → AreCarried P (local_at xs) xs ys → AreCarried P (local_at ys) ys zs
    → AreCarried P (local_at xs) xs zs
slots-then P xs ys zs first second = record {
  size = first.size ∙ second.size;
  among = λ k within. refl;
  apart = λ k without. first.apart k without ∙ second.apart k without;
}

pub alike-then : (few more : List SlotPlace) (a b c : TypeState) → ((p : SlotPlace) → Contains few p → Contains more p) → IsAlikeBut more a b → IsAlikeBut few b c
    → IsAlikeBut more a c
alike-then few more a b c among first second =
    let late = alike-more few more b c among second in
    record {
      locals = slots-then (λ k. Contains more (place.Local k)) a.locals b.locals c.locals first.locals late.locals;
      words = slots-then (λ k. Contains more (place.Word k)) (reverse a.stack) (reverse b.stack) (reverse c.stack) first.words late.words;
      built = first.built ∙ late.built;
    }
