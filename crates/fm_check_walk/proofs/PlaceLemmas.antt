-- Places of a state: what is there in states that fit, and what a state has that gets another slot there.
use Rattle.std.proofs.Common.{◌≡◌, ◌≢◌, refl, sym, ◌∙◌, ap, ⊎_elim, ℕ, zero, suc, ◌<◌, ◌≤◌, ◌==◌, ◌&&◌, nat_le, true, false, List, [], ◌∷◌, ◌++◌, length, reverse, set, Contains, subst, sum_by, arith, length-set}
use Rattle.std.specs.List.{AllZip}
use Rattle.std.proofs.lemmas.Bool.{cases_eq, cases_lt, false≢true}
use Rattle.std.proofs.lemmas.List.{get_or-set_same, get_or-set_other, get_or_past, length-reverse, reverse-append, reverse-reverse}
use Rattle.std.proofs.lemmas.List.Sums.{sum_by-append, sum_by-cons, sum_by-set}
use Rattle.fm_check_walk.proofs.MergingLemmas.{fits-from, fits-parts, state-refl}
use Rattle.fm_check_walk.proofs.RankLemmas.{rank-less}
use Rattle.fm_types.specs.declared.known_state.SlotPlace.{SlotPlace}
use Rattle.fm_types.specs.declared.known_state.SlotPlace.TheVariants as place
use Rattle.fm_check_walk.specs.inner.Ranks.{IsBounded, rank, state_rank}
use Rattle.fm_check_walk.specs.inner.Risen.{AreCarried, is_lost, IsAlikeBut}
use Rattle.fm_types.specs.inner.Places.{HasPlace, slot_at, with_slot, word_at}
use Rattle.fm_check_walk.specs.inner.Tasks.{is_within}
use Rattle.fm_code.specs.declared.code_array.Code.{Code}
use Rattle.fm_types.proofs.Order.{fits-top}
use Rattle.fm_types.proofs.StateOrder.{Fitting, IsShaped, level-whole, long_below, other_below, shape-top, shape_of, Stands, top_above, whole-shaped}
use Rattle.fm_types.proofs.Zips.{zip-append, zip-refl}
use Rattle.fm_types.specs.Fits.{AreTree, fits}
use Rattle.fm_types.specs.States.{is_whole, local_at, state_fits, TypeState}
use Rattle.fm_types.specs.declared.slots.Slot.{Slot}
use Rattle.fm_types.specs.declared.slots.Slot.TheVariants as slot
use Rattle.fm_world.specs.Programs.{Outline}

-- ---- lists that are related pair by pair

pub zip-reverse : (R : Slot → Slot → Type 0) (xs ys : List Slot) → AllZip R xs ys → AllZip R (reverse xs) (reverse ys)
zip-reverse R [] [] h = tt
zip-reverse R [] (y ∷ ys) h = absurd h
zip-reverse R (x ∷ xs) [] h = absurd h
zip-reverse R (x ∷ xs) (y ∷ ys) h =
    subst (λ (zs : List Slot). AllZip R (reverse (x ∷ xs)) zs) (sym (reverse-append (y ∷ []) ys))
    (subst (λ (zs : List Slot). AllZip R zs (reverse ys ++ y ∷ [])) (sym (reverse-append (x ∷ []) xs))
    (zip-append R (reverse xs) (reverse ys) (x ∷ []) (y ∷ []) (zip-reverse R xs ys h.1) (h.0, tt)))

pub zip-turned : (R : Slot → Slot → Type 0) (xs ys : List Slot) → AllZip R (reverse xs) (reverse ys) → AllZip R xs ys
zip-turned R xs ys h =
    subst (λ (zs : List Slot). AllZip R xs zs) (reverse-reverse ys)
    (subst (λ (zs : List Slot). AllZip R zs (reverse (reverse ys))) (reverse-reverse xs) (zip-reverse R (reverse xs) (reverse ys) h))

pub zip-at : (R : Slot → Slot → Type 0) → R slot.Top slot.Top → (xs ys : List Slot) (k : ℕ) → AllZip R xs ys → R (local_at xs k) (local_at ys k)
zip-at R top [] [] k h = top
zip-at R top [] (y ∷ ys) k h = absurd h
zip-at R top (x ∷ xs) [] k h = absurd h
zip-at R top (x ∷ xs) (y ∷ ys) zero h = h.0
zip-at R top (x ∷ xs) (y ∷ ys) (suc k) h = zip-at R top xs ys k h.1

pub zip-from : (R : Slot → Slot → Type 0) (xs ys : List Slot) → length xs ≡ length ys → ((k : ℕ) → R (local_at xs k) (local_at ys k)) → AllZip R xs ys
zip-from R [] [] size each = tt
zip-from R [] (y ∷ ys) size each = absurd (omega (arith, size))
zip-from R (x ∷ xs) [] size each = absurd (omega (arith, size))
zip-from R (x ∷ xs) (y ∷ ys) size each = (each 0, zip-from R xs ys (omega (arith, size)) (λ k. each (suc k)))

-- one element of the first, or of the second, is another one
raised_first : (R : Slot → Slot → Type 0) (xs zs : List Slot) (k : ℕ) (y : Slot) → AllZip R xs zs → R y (local_at zs k) → AllZip R (set xs k y) zs
raised_first R [] [] k y w h = tt
raised_first R [] (z ∷ zs) k y w h = absurd w
raised_first R (x ∷ xs) [] k y w h = absurd w
raised_first R (x ∷ xs) (z ∷ zs) zero y w h = (h, w.1)
raised_first R (x ∷ xs) (z ∷ zs) (suc k) y w h = (w.0, raised_first R xs zs k y w.1 h)

raised_second : (R : Slot → Slot → Type 0) (xs zs : List Slot) (k : ℕ) (y : Slot) → AllZip R xs zs → R (local_at xs k) y → AllZip R xs (set zs k y)
raised_second R [] [] k y w h = tt
raised_second R [] (z ∷ zs) k y w h = absurd w
raised_second R (x ∷ xs) [] k y w h = absurd w
raised_second R (x ∷ xs) (z ∷ zs) zero y w h = (h, w.1)
raised_second R (x ∷ xs) (z ∷ zs) (suc k) y w h = (w.0, raised_second R xs zs k y w.1 h)

-- the same of stacks, by their words
raised_words-first : (R : Slot → Slot → Type 0) (xs zs : List Slot) (h : ℕ) (y : Slot) → AllZip R xs zs → R y (word_at zs h)
    → AllZip R (reverse (set (reverse xs) h y)) zs
raised_words-first R xs zs h y w r =
    subst (λ (us : List Slot). AllZip R (reverse (set (reverse xs) h y)) us) (reverse-reverse zs)
    (zip-reverse R (set (reverse xs) h y) (reverse zs) (raised_first R (reverse xs) (reverse zs) h y (zip-reverse R xs zs w) r))

raised_words-second : (R : Slot → Slot → Type 0) (xs zs : List Slot) (h : ℕ) (y : Slot) → AllZip R xs zs → R (word_at xs h) y
    → AllZip R xs (reverse (set (reverse zs) h y))
raised_words-second R xs zs h y w r =
    subst (λ (us : List Slot). AllZip R us (reverse (set (reverse zs) h y))) (reverse-reverse xs)
    (zip-reverse R (reverse xs) (set (reverse zs) h y) (raised_second R (reverse xs) (reverse zs) h y (zip-reverse R xs zs w) r))

-- ---- what is at a place

pub slot-fits : (o : Outline) (s t : TypeState) (p : SlotPlace) → state_fits o s t ≡ true → fits o (slot_at s p) (slot_at t p) ≡ true
slot-fits o s t (place.Local k) h = zip-at (Fitting o) (fits-top o slot.Top) s.locals t.locals k (fits-parts o s t h).locals
slot-fits o s t (place.Word k) h =
    zip-at (Fitting o) (fits-top o slot.Top) (reverse s.stack) (reverse t.stack) k
    (zip-reverse (Fitting o) s.stack t.stack (fits-parts o s t h).stack)

-- Top has room for all, so there is such a place
pub place_wanted : (o : Outline) (x : Slot) (s : TypeState) (p : SlotPlace) → fits o x (slot_at s p) ≡ false → HasPlace s p
place_wanted o x s (place.Local k) unfit =
    ⊎_elim (λ (inside : k < length s.locals). inside)
    (λ (past : length s.locals ≤ k).
    absurd (false≢true (sym unfit ∙ ap (fits o x) (get_or_past s.locals k slot.Top past) ∙ fits-top o x)))
    (cases_lt k (length s.locals))
place_wanted o x s (place.Word k) unfit =
    let size = length-reverse s.stack in
    ⊎_elim (λ (inside : k < length s.stack). inside)
    (λ (past : length s.stack ≤ k).
    absurd (false≢true (sym unfit ∙ ap (fits o x) (get_or_past (reverse s.stack) k slot.Top (omega (arith, past, size))) ∙ fits-top o x)))
    (cases_lt k (length s.stack))

-- ---- a state with another slot at a place

pub with_slot-locals : (p : SlotPlace) (y : Slot) (s : TypeState) → length (with_slot p y s).locals ≡ length s.locals
with_slot-locals (place.Local k) y s = length-set s.locals k y
with_slot-locals (place.Word k) y s = refl

pub with_slot-stack : (p : SlotPlace) (y : Slot) (s : TypeState) → length (with_slot p y s).stack ≡ length s.stack
with_slot-stack (place.Local k) y s = refl
with_slot-stack (place.Word k) y s = length-reverse (set (reverse s.stack) k y) ∙ length-set (reverse s.stack) k y ∙ length-reverse s.stack

pub with_slot-within : (code : Code) (p : SlotPlace) (y : Slot) (s : TypeState) → is_within code s ≡ true → is_within code (with_slot p y s) ≡ true
with_slot-within code p y s h =
    ap (λ n. (n == code.max_locals) && nat_le (length (with_slot p y s).stack) code.max_stack) (with_slot-locals p y s)
    ∙ ap (λ n. (length s.locals == code.max_locals) && nat_le n code.max_stack) (with_slot-stack p y s)
    ∙ h

pub with_slot-read : (p : SlotPlace) (y : Slot) (s : TypeState) → HasPlace s p → slot_at (with_slot p y s) p ≡ y
with_slot-read (place.Local k) y s inside = get_or-set_same s.locals k y slot.Top inside
with_slot-read (place.Word k) y s inside =
    let size = length-reverse s.stack in
    ap (λ zs. local_at zs k) (reverse-reverse (set (reverse s.stack) k y)) ∙ get_or-set_same (reverse s.stack) k y slot.Top (omega (arith, size, inside))

pub with_slot-above : (o : Outline) → AreTree o.classes → (s : TypeState) (p : SlotPlace) (y : Slot) → fits o (slot_at s p) y ≡ true
    → state_fits o s (with_slot p y s) ≡ true
with_slot-above o tree s (place.Local k) y h =
    let same = fits-parts o s s (state-refl o tree s) in
    fits-from o s (with_slot (place.Local k) y s)
    (record { locals = raised_second (Fitting o) s.locals s.locals k y same.locals h; stack = same.stack; built = same.built })
with_slot-above o tree s (place.Word k) y h =
    let same = fits-parts o s s (state-refl o tree s) in
    fits-from o s (with_slot (place.Word k) y s)
    (record { locals = same.locals; stack = raised_words-second (Fitting o) s.stack s.stack k y same.stack h; built = same.built })

pub with_slot-below : (o : Outline) (s u : TypeState) (p : SlotPlace) (y : Slot) → state_fits o s u ≡ true → fits o y (slot_at u p) ≡ true
    → state_fits o (with_slot p y s) u ≡ true
with_slot-below o s u (place.Local k) y h fitting =
    let parts = fits-parts o s u h in
    fits-from o (with_slot (place.Local k) y s) u
    (record { locals = raised_first (Fitting o) s.locals u.locals k y parts.locals fitting; stack = parts.stack; built = parts.built })
with_slot-below o s u (place.Word k) y h fitting =
    let parts = fits-parts o s u h in
    fits-from o (with_slot (place.Word k) y s) u
    (record { locals = parts.locals; stack = raised_words-first (Fitting o) s.stack u.stack k y parts.stack fitting; built = parts.built })

pub same_slots : (P : ℕ → Type 0) (xs : List Slot) → AreCarried P (local_at xs) xs xs
same_slots P xs = record { size = refl; among = λ k within. refl; apart = λ k without. refl }

pub with_slot-alike : (s : TypeState) (p : SlotPlace) (y : Slot) → IsAlikeBut (p ∷ []) (with_slot p y s) s
with_slot-alike s (place.Local k) y = record {
  locals = record {
    size = length-set s.locals k y;
    among = λ j within. refl;
    apart = λ j without.
        ⊎_elim
        (λ (this : j ≡ k). absurd (without (0, omega arith, ap (λ n. place.Local n) (sym this))))
        (λ (other : j ≢ k). get_or-set_other s.locals k j y slot.Top other)
        (cases_eq j k);
  };
  words = same_slots (λ h. Contains (place.Local k ∷ []) (place.Word h)) (reverse s.stack);
  built = refl;
}
with_slot-alike s (place.Word k) y = record {
  locals = same_slots (λ j. Contains (place.Word k ∷ []) (place.Local j)) s.locals;
  words = record {
    size = ap length (reverse-reverse (set (reverse s.stack) k y)) ∙ length-set (reverse s.stack) k y;
    among = λ j within. refl;
    apart = λ j without.
        ap (λ zs. local_at zs j) (reverse-reverse (set (reverse s.stack) k y))
        ∙ ⊎_elim
        (λ (this : j ≡ k). absurd (without (0, omega arith, ap (λ n. place.Word n) (sym this))))
        (λ (other : j ≢ k). get_or-set_other (reverse s.stack) k j y slot.Top other)
        (cases_eq j k);
  };
  built = refl;
}

-- ---- no word of a whole stack is Top, but for the halves of longs

-- what a slot fits that isn't Top is as much of a long
shape_kept : (o : Outline) (h : ℕ) (a b : Slot) → fits o a b ≡ true → is_lost (place.Word h) b ≡ false → shape_of b ≡ shape_of a
shape_kept o h a slot.Top fitting kept = absurd (false≢true (sym kept))
shape_kept o h a slot.Long fitting kept = ap shape_of (sym (long_below o a fitting))
shape_kept o h a slot.Int fitting kept = sym (other_below o a slot.Int fitting refl)
shape_kept o h a slot.Null fitting kept = sym (other_below o a slot.Null fitting refl)
shape_kept o h a (slot.Ref t) fitting kept = sym (other_below o a (slot.Ref t) fitting refl)
shape_kept o h a (slot.Uninit item) fitting kept = sym (other_below o a (slot.Uninit item) fitting refl)
shape_kept o h a slot.UninitThis fitting kept = sym (other_below o a slot.UninitThis fitting refl)

pub with_slot-whole : (o : Outline) (s : TypeState) (p : SlotPlace) (y : Slot) → fits o (slot_at s p) y ≡ true → is_lost p y ≡ false
    → is_whole s.stack ≡ true → is_whole (with_slot p y s).stack ≡ true
with_slot-whole o s (place.Local k) y fitting kept whole = whole
with_slot-whole o s (place.Word k) y fitting kept whole =
    whole-shaped (reverse (set (reverse s.stack) k y)) s.stack
    (raised_words-first IsShaped s.stack s.stack k y (zip-refl IsShaped (λ x. refl) s.stack) (shape_kept o k (slot_at s (place.Word k)) y fitting kept))
    whole

lost-top : (p : SlotPlace) (y : Slot) → is_lost p y ≡ true → y ≡ slot.Top
lost-top (place.Local k) y h = absurd (false≢true h)
lost-top (place.Word k) slot.Top h = refl
lost-top (place.Word k) y h = absurd (false≢true h)

-- a word that is Top in a whole state above is Top below, so all fit it
pub lost-fits : (o : Outline) (s u : TypeState) (p : SlotPlace) (x y : Slot) → is_lost p y ≡ true → state_fits o s u ≡ true → is_whole s.stack ≡ true
    → is_whole u.stack ≡ true → fits o y (slot_at u p) ≡ true → fits o x (slot_at s p) ≡ true
lost-fits o s u (place.Local k) x y lost fitting first second above = absurd (false≢true lost)
lost-fits o s u (place.Word k) x y lost fitting first second above =
    let top : word_at u.stack k ≡ slot.Top =
    top_above o (word_at u.stack k) (sym (ap (λ z. fits o z (word_at u.stack k)) (lost-top (place.Word k) y lost)) ∙ above) in
    let level = level-whole o s.stack u.stack (fits-parts o s u fitting).stack first second in
    let shapes = zip-at (λ a b. shape_of a ≡ shape_of b) refl (reverse s.stack) (reverse u.stack) k
    (zip-reverse (λ a b. shape_of a ≡ shape_of b) s.stack u.stack (shapes_of o s.stack u.stack level)) in
    ap (fits o x) (shape-top (word_at s.stack k) (shapes ∙ ap shape_of top)) ∙ fits-top o x where
      shapes_of : (o : Outline) (xs ys : List Slot) → AllZip (Stands o) xs ys → AllZip (λ a b. shape_of a ≡ shape_of b) xs ys
      shapes_of o [] [] h = tt
      shapes_of o [] (y ∷ ys) h = absurd h
      shapes_of o (x ∷ xs) [] h = absurd h
      shapes_of o (x ∷ xs) (y ∷ ys) h = (h.0.shape, shapes_of o xs ys h.1)

-- where one whole state fits another, the longs of their stacks are the same
pub same_longs : (o : Outline) (s u : TypeState) → state_fits o u s ≡ true → is_whole u.stack ≡ true → is_whole s.stack ≡ true
    → AllZip IsShaped s.stack u.stack
same_longs o s u fitting first second = flipped u.stack s.stack (level-whole o u.stack s.stack (fits-parts o u s fitting).stack first second) where
  flipped : (xs ys : List Slot) → AllZip (Stands o) xs ys → AllZip IsShaped ys xs
  flipped [] [] h = tt
  flipped [] (y ∷ ys) h = absurd h
  flipped (x ∷ xs) [] h = absurd h
  flipped (x ∷ xs) (y ∷ ys) h = (sym h.0.shape, flipped xs ys h.1)

-- ---- ranks

sum-reverse : (f : Slot → ℕ) (xs : List Slot) → sum_by f (reverse xs) ≡ sum_by f xs
sum-reverse f [] = refl
sum-reverse f (x ∷ xs) =
    let turned = ap (sum_by f) (reverse-append (x ∷ []) xs) in
    let joined = sum_by-append f (reverse xs) (x ∷ []) in
    let rest = sum-reverse f xs in
    let first = sum_by-cons f x xs in
    let last = sum_by-cons f x [] in
    let none : sum_by f [] ≡ 0 = refl in
    omega (arith, turned, joined, rest, first, last, none)

-- a slot that rises, and nothing else
pub slot-less : (o : Outline) → AreTree o.classes → (s : TypeState) (p : SlotPlace) (y : Slot) → HasPlace s p → IsBounded (slot_at s p)
    → fits o (slot_at s p) y ≡ true → fits o y (slot_at s p) ≡ false → state_rank o (with_slot p y s) < state_rank o s
slot-less o tree s (place.Local k) y inside bounded h back =
    let sums = sum_by-set (rank o) s.locals k y slot.Top inside in
    let less = rank-less o tree (local_at s.locals k) y bounded h back in
    omega (arith, sums, less)
slot-less o tree s (place.Word k) y inside bounded h back =
    let size = length-reverse s.stack in
    let sums = sum_by-set (rank o) (reverse s.stack) k y slot.Top (omega (arith, size, inside)) in
    let old = sum-reverse (rank o) s.stack in
    let new = sum-reverse (rank o) (set (reverse s.stack) k y) in
    let less = rank-less o tree (word_at s.stack k) y bounded h back in
    omega (arith, sums, old, new, less)
