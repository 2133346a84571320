-- The rows of locals and moves of the stack keep the order.
use Rattle.std.proofs.Common.{◌≡◌, refl, sym, ◌∙◌, ap, ℕ, zero, suc, ◌+◌, Bool, true, false, List, [], ◌∷◌, ◌++◌, length, drop, set, Option, Some, None, option_and_then, cond}
use Rattle.std.specs.List.{AllZip, slice_get}
use Rattle.std.specs.Option.{option_map}
use Rattle.std.specs.Prelude.{nat_lt}
use Rattle.std.proofs.lemmas.Bool.{false≢true}
use Rattle.std.proofs.lemmas.List.Elements.{length_all_zip}
use Rattle.fm_code.specs.declared.operations.Reg.{Reg}
use Rattle.fm_code.specs.declared.operations.Reg.TheVariants as reg
use Rattle.fm_types.proofs.Order.{fits-top}
use Rattle.fm_types.proofs.StateOrder.{Fitting, IsStackUnder, IsUnder, on_top, shape_of, Stands, whole-level, whole-long, whole-other, with_stack}
use Rattle.fm_types.proofs.Zips.{Follows, follows-if, follows-map, follows-then, zip-append, zip-drop, zip-get, zip-set}
use Rattle.fm_types.specs.Fits.{AreTree, fits}
use Rattle.fm_types.specs.Moves.{moved, Moves, words_at}
use Rattle.fm_types.specs.NumberRows.{increment_row, is_int, load_row, loaded, store_row, stored_from, suits}
use Rattle.fm_types.specs.States.{cut_before, is_long, is_reference, is_whole, local_at, stored, TypeState}
use Rattle.fm_types.specs.declared.slots.Slot.{Slot}
use Rattle.fm_types.specs.declared.slots.Slot.TheVariants as slot
use Rattle.fm_world.specs.Programs.{Outline}

-- ---- kinds of slots

pub int_below : (o : Outline) (a b : Slot) → fits o a b ≡ true → is_int b ≡ true → is_int a ≡ true
unfolding fits
int_below o slot.Int slot.Int h e = refl
int_below o a slot.Int h e = absurd (false≢true h)
int_below o a b h e = absurd (false≢true e)

pub is_long_below : (o : Outline) (a b : Slot) → fits o a b ≡ true → is_long b ≡ true → is_long a ≡ true
unfolding fits
is_long_below o slot.Long slot.Long h e = refl
is_long_below o a slot.Long h e = absurd (false≢true h)
is_long_below o a b h e = absurd (false≢true e)

pub reference_below : (o : Outline) (a b : Slot) → fits o a b ≡ true → is_reference b ≡ true → is_reference a ≡ true
unfolding fits
reference_below o a slot.Top h e = absurd (false≢true e)
reference_below o a slot.Int h e = absurd (false≢true e)
reference_below o a slot.Long h e = absurd (false≢true e)
reference_below o slot.Null b h e = refl
reference_below o (slot.Ref t) b h e = refl
reference_below o (slot.Uninit i) b h e = refl
reference_below o slot.UninitThis b h e = refl
reference_below o a b h e = absurd (false≢true h)

int-other : (a : Slot) → is_int a ≡ true → shape_of a ≡ 2
int-other slot.Int e = refl
int-other a e = absurd (false≢true e)

reference-other : (a : Slot) → is_reference a ≡ true → shape_of a ≡ 2
reference-other slot.Top e = absurd (false≢true e)
reference-other slot.Int e = absurd (false≢true e)
reference-other slot.Long e = absurd (false≢true e)
reference-other a e = refl

long-is : (a : Slot) → is_long a ≡ true → a ≡ slot.Long
long-is slot.Long e = refl
long-is a e = absurd (false≢true e)

suits_below : (o : Outline) (r : Reg) (a b : Slot) → fits o a b ≡ true → suits r b ≡ true → suits r a ≡ true
suits_below o reg.Int a b h e = int_below o a b h e
suits_below o reg.Long a b h e = is_long_below o a b h e
suits_below o reg.Ref a b h e = reference_below o a b h e

one_slot : (o : Outline) (a b : Slot) → fits o a b ≡ true → shape_of a ≡ 2 → shape_of b ≡ 2 → IsStackUnder o (a ∷ []) (b ∷ [])
one_slot o a b h first second =
    record { level = (record { fitting = h; shape = first ∙ sym second }, tt); whole = whole-other b [] second }

-- ---- loading

loaded-under : (o : Outline) → AreTree o.classes → (r : Reg) (a b : Slot) → fits o a b ≡ true → suits r b ≡ true
    → IsStackUnder o (loaded r a) (loaded r b)
loaded-under o tree reg.Int a b h e = one_slot o a b h (int-other a (int_below o a b h e)) (int-other b e)
loaded-under o tree reg.Ref a b h e = one_slot o a b h (reference-other a (reference_below o a b h e)) (reference-other b e)
loaded-under o tree reg.Long a b h e =
    let long : b ≡ slot.Long = long-is b e in
    let below : a ≡ slot.Long = long-is a (is_long_below o a b h e) in
    record {
      level = (record { fitting = fits-top o slot.Top; shape = refl }, (record { fitting = h; shape = ap shape_of (below ∙ sym long) }, tt));
      whole = ap (λ s. is_whole (slot.Top ∷ s ∷ [])) long;
    }

pub load_row-under : (o : Outline) → AreTree o.classes → (r : Reg) (k : ℕ) (s t : TypeState) → IsUnder o s t
    → Follows (IsUnder o) (load_row r k s) (load_row r k t)
unfolding load_row
load_row-under o tree r k s t h =
    follows-then (Fitting o) (IsUnder o) _ _ (slice_get s.locals k) (slice_get t.locals k) (zip-get (Fitting o) s.locals t.locals k h.locals)
    (λ a b fitting. follows-if (IsUnder o) (suits r a) (suits r b) _ _ (suits_below o r a b fitting)
    (λ e. with_stack o s t (loaded r a ++ s.stack) (loaded r b ++ t.stack) h
    (on_top o (loaded r a) (loaded r b) s.stack t.stack (loaded-under o tree r a b fitting e) h.stack)))

-- ---- storing

-- a local, or Top where there is none
local_at-fits : (o : Outline) (xs ys : List Slot) (k : ℕ) → AllZip (Fitting o) xs ys → fits o (local_at xs k) (local_at ys k) ≡ true
local_at-fits o [] [] k h = fits-top o slot.Top
local_at-fits o [] (y ∷ ys) k h = absurd h
local_at-fits o (x ∷ xs) [] k h = absurd h
local_at-fits o (x ∷ xs) (y ∷ ys) zero h = h.0
local_at-fits o (x ∷ xs) (y ∷ ys) (suc k) h = local_at-fits o xs ys k h.1

-- a long fits a long or Top
above_long : (o : Outline) (a b : Slot) → fits o a b ≡ true → is_long a ≡ true → is_long b ≡ false → b ≡ slot.Top
unfolding fits
above_long o slot.Long slot.Top h e n = refl
above_long o slot.Long slot.Long h e n = absurd (false≢true (sym n))
above_long o slot.Long b h e n = absurd (false≢true h)
above_long o a b h e n = absurd (false≢true e)

-- Top is written over the first, where the second is Top already
set_first : (o : Outline) (xs ys : List Slot) (k : ℕ) → AllZip (Fitting o) xs ys → local_at ys k ≡ slot.Top
    → AllZip (Fitting o) (set xs k slot.Top) ys
set_first o [] [] k h e = tt
set_first o [] (y ∷ ys) k h e = absurd h
set_first o (x ∷ xs) [] k h e = absurd h
set_first o (x ∷ xs) (y ∷ ys) zero h e = (ap (fits o slot.Top) e ∙ fits-top o slot.Top, h.1)
set_first o (x ∷ xs) (y ∷ ys) (suc k) h e = (h.0, set_first o xs ys k h.1 e)

cut_before-under : (o : Outline) (k : ℕ) (xs ys : List Slot) → AllZip (Fitting o) xs ys → AllZip (Fitting o) (cut_before k xs) (cut_before k ys)
cut_before-under o zero xs ys h = h
cut_before-under o (suc k) xs ys h = by_tests (is_long (local_at xs k)) (is_long (local_at ys k)) refl refl where
  fitting : fits o (local_at xs k) (local_at ys k) ≡ true
  fitting = local_at-fits o xs ys k h

  by_tests : (p q : Bool) → is_long (local_at xs k) ≡ p → is_long (local_at ys k) ≡ q
      → AllZip (Fitting o) (cond p (set xs k slot.Top) xs) (cond q (set ys k slot.Top) ys)
  by_tests true true e f = zip-set (Fitting o) k slot.Top slot.Top xs ys (fits-top o slot.Top) h
  by_tests true false e f = set_first o xs ys k h (above_long o (local_at xs k) (local_at ys k) fitting e f)
  by_tests false true e f = absurd (false≢true (sym e ∙ is_long_below o (local_at xs k) (local_at ys k) fitting f))
  by_tests false false e f = h

-- slots written one after another
abbrev pub written : ℕ → List Slot → List Slot → List Slot
written k [] locals = locals
written k (s ∷ slots) locals = written (suc k) slots (set locals k s)

written-under : (o : Outline) (k : ℕ) (us vs xs ys : List Slot) → AllZip (Fitting o) us vs → AllZip (Fitting o) xs ys
    → AllZip (Fitting o) (written k us xs) (written k vs ys)
written-under o k [] [] xs ys w h = h
written-under o k [] (v ∷ vs) xs ys w h = absurd w
written-under o k (u ∷ us) [] xs ys w h = absurd w
written-under o k (u ∷ us) (v ∷ vs) xs ys w h =
    written-under o (suc k) us vs (set xs k u) (set ys k v) w.1 (zip-set (Fitting o) k u v xs ys w.0 h)

stored-under : (o : Outline) (k : ℕ) (us vs xs ys : List Slot) → AllZip (Fitting o) us vs → AllZip (Fitting o) xs ys
    → Follows (AllZip (Fitting o)) (stored k us xs) (stored k vs ys)
stored-under o k us vs xs ys w h =
    by_tests (nat_lt (length xs) (k + length us)) (nat_lt (length ys) (k + length vs))
    (ap (λ n. nat_lt n (k + length us)) (length_all_zip (Fitting o) xs ys h)
    ∙ ap (λ n. nat_lt (length ys) (k + n)) (length_all_zip (Fitting o) us vs w)) where
      by_tests : (p q : Bool) → p ≡ q
          → Follows (AllZip (Fitting o)) (cond p None (Some (written k us (cut_before k xs)))) (cond q None (Some (written k vs (cut_before k ys))))
      by_tests p true e = tt
      by_tests true false e = absurd (false≢true (sym e))
      by_tests false false e = written-under o k us vs (cut_before k xs) (cut_before k ys) w (cut_before-under o k xs ys h)

stored_from-under : (o : Outline) (k : ℕ) (us vs a b : List Slot) (s t : TypeState) → AllZip (Fitting o) us vs → IsStackUnder o a b → IsUnder o s t
    → Follows (IsUnder o) (stored_from k us a s) (stored_from k vs b t)
stored_from-under o k us vs a b s t w rest h =
    follows-map (AllZip (Fitting o)) (IsUnder o) _ _ (stored k us s.locals) (stored k vs t.locals)
    (stored-under o k us vs s.locals t.locals w h.locals)
    (λ xs ys locals. record { locals = locals; stack = rest; built = h.built })

-- the row over stacks of its own
abbrev pub store_by : Reg → ℕ → TypeState → List Slot → Option TypeState
store_by r k s [] = None
store_by reg.Int k s (found ∷ stack) = cond (is_int found) (stored_from k (found ∷ []) stack s) None
store_by reg.Ref k s (found ∷ stack) = cond (is_reference found) (stored_from k (found ∷ []) stack s) None
store_by reg.Long k s (half ∷ []) = None
store_by reg.Long k s (half ∷ found ∷ stack) = cond (is_long found) (stored_from k (found ∷ slot.Top ∷ []) stack s) None

store_by-under : (o : Outline) → AreTree o.classes → (r : Reg) (k : ℕ) (s t : TypeState) (a b : List Slot) → IsStackUnder o a b → IsUnder o s t
    → Follows (IsUnder o) (store_by r k s a) (store_by r k t b)
store_by-under o tree reg.Int k s t a [] w h = tt
store_by-under o tree reg.Ref k s t a [] w h = tt
store_by-under o tree reg.Long k s t a [] w h = tt
store_by-under o tree r k s t [] (y ∷ bs) w h = absurd w.level
store_by-under o tree reg.Int k s t (x ∷ as_) (y ∷ bs) w h =
    follows-if (IsUnder o) (is_int x) (is_int y) _ _ (int_below o x y w.level.0.fitting)
    (λ e. stored_from-under o k (x ∷ []) (y ∷ []) as_ bs s t (w.level.0.fitting, tt)
    (record { level = w.level.1; whole = sym (whole-other y bs (int-other y e)) ∙ w.whole }) h)
store_by-under o tree reg.Ref k s t (x ∷ as_) (y ∷ bs) w h =
    follows-if (IsUnder o) (is_reference x) (is_reference y) _ _ (reference_below o x y w.level.0.fitting)
    (λ e. stored_from-under o k (x ∷ []) (y ∷ []) as_ bs s t (w.level.0.fitting, tt)
    (record { level = w.level.1; whole = sym (whole-other y bs (reference-other y e)) ∙ w.whole }) h)
store_by-under o tree reg.Long k s t (x ∷ as_) (y ∷ []) w h = tt
store_by-under o tree reg.Long k s t (x ∷ []) (y ∷ z ∷ bs) w h = absurd w.level.1
store_by-under o tree reg.Long k s t (x ∷ v ∷ as_) (y ∷ z ∷ bs) w h =
    follows-if (IsUnder o) (is_long v) (is_long z) _ _ (is_long_below o v z w.level.1.0.fitting)
    (λ e. stored_from-under o k (v ∷ slot.Top ∷ []) (z ∷ slot.Top ∷ []) as_ bs s t (w.level.1.0.fitting, (fits-top o slot.Top, tt))
    (record {
      level = w.level.1.1;
      whole = (whole-long y bs (sym (ap (λ c. is_whole (y ∷ c ∷ bs)) (long-is z e)) ∙ w.whole)).1;
    }) h)

pub store_row-under : (o : Outline) → AreTree o.classes → (r : Reg) (k : ℕ) (s t : TypeState) → IsUnder o s t
    → Follows (IsUnder o) (store_row o r k s) (store_row o r k t)
unfolding store_row
store_row-under o tree reg.Int k s t h = store_by-under o tree reg.Int k s t s.stack t.stack h.stack h
store_row-under o tree reg.Long k s t h = store_by-under o tree reg.Long k s t s.stack t.stack h.stack h
store_row-under o tree reg.Ref k s t h = store_by-under o tree reg.Ref k s t s.stack t.stack h.stack h

pub increment_row-under : (o : Outline) (k : ℕ) (s t : TypeState) → IsUnder o s t
    → Follows (IsUnder o) (increment_row k s) (increment_row k t)
unfolding increment_row
increment_row-under o k s t h =
    follows-if (IsUnder o) (is_int (local_at s.locals k)) (is_int (local_at t.locals k)) (Some s) (Some t)
    (int_below o (local_at s.locals k) (local_at t.locals k) (local_at-fits o s.locals t.locals k h.locals)) (λ e. h)

-- ---- moves

words_at-level : (o : Outline) (a b : List Slot) (places : List ℕ) → AllZip (Stands o) a b
    → Follows (AllZip (Stands o)) (words_at a places) (words_at b places)
words_at-level o a b [] h = tt
words_at-level o a b (place ∷ places) h =
    follows-then (Stands o) (AllZip (Stands o)) _ _ (slice_get a place) (slice_get b place) (zip-get (Stands o) a b place h)
    (λ x y stands. follows-map (AllZip (Stands o)) (AllZip (Stands o)) (λ words. x ∷ words) (λ words. y ∷ words)
    (words_at a places) (words_at b places)
    (words_at-level o a b places h) (λ xs ys rest. (stands, rest)))

moved-level : (o : Outline) (m : Moves) (a b : List Slot) → AllZip (Stands o) a b → Follows (AllZip (Stands o)) (moved m a) (moved m b)
moved-level o m a b h =
    by_tests (nat_lt (length a) m.takes) (nat_lt (length b) m.takes) (ap (λ n. nat_lt n m.takes) (length_all_zip (Stands o) a b h)) where
      kept : Follows (AllZip (Stands o)) (option_map (λ words. words ++ drop m.takes a) (words_at a m.gives))
          (option_map (λ words. words ++ drop m.takes b) (words_at b m.gives))
      kept =
          follows-map (AllZip (Stands o)) (AllZip (Stands o)) _ _ (words_at a m.gives) (words_at b m.gives) (words_at-level o a b m.gives h)
          (λ xs ys words. zip-append (Stands o) xs ys (drop m.takes a) (drop m.takes b) words (zip-drop (Stands o) m.takes a b h))

      by_tests : (p q : Bool) → p ≡ q
          → Follows (AllZip (Stands o)) (cond p None (option_map (λ words. words ++ drop m.takes a) (words_at a m.gives)))
          (cond q None (option_map (λ words. words ++ drop m.takes b) (words_at b m.gives)))
      by_tests p true e = tt
      by_tests true false e = absurd (false≢true (sym e))
      by_tests false false e = kept

-- the row of a move that is known
abbrev pub move_by : Option Moves → TypeState → Option TypeState
move_by m s = option_and_then (λ m. option_and_then (λ stack. cond (is_whole stack) (Some (record s { stack = stack })) None) (moved m s.stack)) m

pub move_by-under : (o : Outline) (m : Option Moves) (s t : TypeState) → IsUnder o s t → Follows (IsUnder o) (move_by m s) (move_by m t)
move_by-under o None s t h = tt
move_by-under o (Some m) s t h =
    follows-then (AllZip (Stands o)) (IsUnder o) _ _ (moved m s.stack) (moved m t.stack) (moved-level o m s.stack t.stack h.stack.level)
    (λ a b level. follows-if (IsUnder o) (is_whole a) (is_whole b) _ _ (whole-level o a b level)
    (λ e. with_stack o s t a b h (record { level = level; whole = e })))
