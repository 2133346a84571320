-- Stacks whose words differ at places below the topmost: what rows take from them and put on them.
use Rattle.std.proofs.Common.{◌≡◌, ◌≢◌, refl, sym, ◌∙◌, ap, ⊎_elim, ℕ, zero, suc, ◌+◌, ◌-◌, ◌<◌, ◌≤◌, Bool, true, false, List, [], ◌∷◌, ◌++◌, length, drop, reverse, Option, Some, None, option_and_then, cond, subst, arith}
use Rattle.std.specs.Prelude.{nat_lt, slice_get}
use Rattle.std.specs.List.{AllByRecursion, AllZip}
use Rattle.std.specs.Option.{option_map}
use Rattle.std.proofs.lemmas.Bool.{cases_eq, cases_lt, false≢true}
use Rattle.std.proofs.lemmas.List.{get_or_append_left, get_or_past, get_or_push, length-reverse, reverse-append}
use Rattle.std.proofs.lemmas.List.Elements.{length_all_zip}
use Rattle.fm_types.specs.declared.known_state.SlotPlace.{SlotPlace}
use Rattle.fm_types.specs.declared.known_state.SlotPlace.TheVariants as place
use Rattle.fm_check_walk.specs.inner.Risen.{AreCarried, IsCarried}
use Rattle.fm_types.proofs.NumberOrder.{move_by}
use Rattle.fm_types.proofs.StateOrder.{from_below, IsShaped, whole-shaped}
use Rattle.fm_types.proofs.Zips.{Follows, follows-if, follows-map, follows-then, zip-append, zip-drop, zip-get}
use Rattle.fm_types.specs.Moves.{moved, Moves, words_at}
use Rattle.fm_types.specs.Fits.{fits}
use Rattle.fm_types.specs.States.{is_whole, local_at, pushed, taken, TypeState, worked, worked_below}
use Rattle.fm_types.specs.declared.slots.Slot.{Slot}
use Rattle.fm_types.specs.declared.slots.Slot.TheVariants as slot
use Rattle.fm_world.specs.Programs.{Outline}

-- ---- options

abbrev pub Same : {A : Type 0} → A → A → Type 0
Same a b = a ≡ b

pub follows-equal : {A : Type 0} (x y : Option A) → x ≡ y → Follows Same x y
follows-equal x None e = tt
follows-equal None (Some b) e = absurd cc
follows-equal (Some a) (Some b) e = cc

-- both relations hold
record Both (R S : List Slot → List Slot → Type 0) (a b : List Slot) : Type 0 where
  first : R a b
  second : S a b

follows-both : (R S : List Slot → List Slot → Type 0) (x y : Option (List Slot)) → Follows R x y → Follows S x y → Follows (Both R S) x y
follows-both R S x None f g = tt
follows-both R S None (Some b) f g = absurd f
follows-both R S (Some a) (Some b) f g = record { first = f; second = g }

-- ---- stacks that differ in words below the topmost

-- the word of a stack that lies on a given number of others, and one of those
word-top : (x : Slot) (xs : List Slot) (n : ℕ) → length xs ≡ n → local_at (reverse (x ∷ xs)) n ≡ x
word-top x xs n size =
    ap (λ zs. local_at zs n) (reverse-append (x ∷ []) xs) ∙ get_or_push (reverse xs) x slot.Top n (length-reverse xs ∙ size)

word-below : (x : Slot) (xs : List Slot) (h : ℕ) → h < length xs → local_at (reverse (x ∷ xs)) h ≡ local_at (reverse xs) h
word-below x xs h below =
    let size = length-reverse xs in
    ap (λ zs. local_at zs h) (reverse-append (x ∷ []) xs) ∙ get_or_append_left (reverse xs) (x ∷ []) slot.Top h (omega (arith, size, below))

word-past : (xs : List Slot) (h : ℕ) → length xs ≤ h → local_at (reverse xs) h ≡ slot.Top
word-past xs h past = let size = length-reverse xs in get_or_past (reverse xs) h slot.Top (omega (arith, size, past))

-- the words differ at some places only, and none of them is among a given number of topmost words
pub record AreLow (P : SlotPlace → Type 0) (v : SlotPlace → Slot) (m : ℕ) (xs ys : List Slot) : Type 0 where
  pub words : AreCarried (λ h. P (place.Word h)) (λ h. v (place.Word h)) (reverse xs) (reverse ys)
  pub low : (h : ℕ) → P (place.Word h) → h + m < length xs

abbrev pub IsClear : (SlotPlace → Type 0) → ℕ → TypeState → Type 0
IsClear P m s = (h : ℕ) → P (place.Word h) → h + m < length s.stack

pub low-size : (P : SlotPlace → Type 0) (v : SlotPlace → Slot) (m : ℕ) (xs ys : List Slot) → AreLow P v m xs ys → length xs ≡ length ys
low-size P v m xs ys h = sym (length-reverse xs) ∙ h.words.size ∙ length-reverse ys

low-less : (P : SlotPlace → Type 0) (v : SlotPlace → Slot) (m n : ℕ) (xs ys : List Slot) → m ≤ n → AreLow P v n xs ys → AreLow P v m xs ys
low-less P v m n xs ys less h = record { words = h.words; low = λ k within. let below = h.low k within in omega (arith, less, below) }

pub clear-less : (P : SlotPlace → Type 0) (m n : ℕ) (s : TypeState) → m ≤ n → IsClear P n s → IsClear P m s
clear-less P m n s less clear = λ h within. let below = clear h within in omega (arith, less, below)

-- the topmost word is the same, and so it goes on below it
pub low-top : (P : SlotPlace → Type 0) (v : SlotPlace → Slot) (m n : ℕ) (x y : Slot) (xs ys : List Slot) → n ≡ m + 1 → AreLow P v n (x ∷ xs) (y ∷ ys)
    → (x ≡ y) × AreLow P v m xs ys
low-top P v m n x y xs ys more h = (same, record { words = record { size = turned; among = among; apart = apart }; low = low }) where
  size : length xs ≡ length ys
  size = let whole = low-size P v n (x ∷ xs) (y ∷ ys) h in omega (arith, whole)

  turned : length (reverse xs) ≡ length (reverse ys)
  turned = length-reverse xs ∙ size ∙ sym (length-reverse ys)

  low : (k : ℕ) → P (place.Word k) → k + m < length xs
  low k within = let below = h.low k within in omega (arith, more, below)

  never : P (place.Word (length xs)) → ⊥
  never within = let below = low (length xs) within in omega (arith, below)

  same : x ≡ y
  same = sym (word-top x xs (length xs) refl) ∙ h.words.apart (length xs) never ∙ word-top y ys (length xs) (sym size)

  among : (k : ℕ) → P (place.Word k) → local_at (reverse xs) k ≡ v (place.Word k)
  among k within = let below = low k within in sym (word-below x xs k (omega (arith, below))) ∙ h.words.among k within

  apart : (k : ℕ) → (P (place.Word k) → ⊥) → local_at (reverse xs) k ≡ local_at (reverse ys) k
  apart k without =
      ⊎_elim
      (λ (below : k < length xs).
      sym (word-below x xs k below) ∙ h.words.apart k without ∙ word-below y ys k (omega (arith, size, below)))
      (λ (past : length xs ≤ k). word-past xs k past ∙ sym (word-past ys k (omega (arith, size, past))))
      (cases_lt k (length xs))

-- one more word on top of both
pub low-push : (P : SlotPlace → Type 0) (v : SlotPlace → Slot) (m : ℕ) (x : Slot) (xs ys : List Slot) → AreLow P v m xs ys → AreLow P v m (x ∷ xs) (x ∷ ys)
low-push P v m x xs ys h = record { words = record { size = turned; among = among; apart = apart }; low = low } where
  size : length xs ≡ length ys
  size = low-size P v m xs ys h

  turned : length (reverse (x ∷ xs)) ≡ length (reverse (x ∷ ys))
  turned = length-reverse (x ∷ xs) ∙ ap suc size ∙ sym (length-reverse (x ∷ ys))

  low : (k : ℕ) → P (place.Word k) → k + m < length (x ∷ xs)
  low k within = let below = h.low k within in omega (arith, below)

  among : (k : ℕ) → P (place.Word k) → local_at (reverse (x ∷ xs)) k ≡ v (place.Word k)
  among k within = let below = h.low k within in word-below x xs k (omega (arith, below)) ∙ h.words.among k within

  apart : (k : ℕ) → (P (place.Word k) → ⊥) → local_at (reverse (x ∷ xs)) k ≡ local_at (reverse (x ∷ ys)) k
  apart k without =
      ⊎_elim
      (λ (below : k < length xs).
      word-below x xs k below ∙ h.words.apart k without ∙ sym (word-below x ys k (omega (arith, size, below))))
      (λ (past : length xs ≤ k).
      ⊎_elim
      (λ (here : k ≡ length xs). word-top x xs k (sym here) ∙ sym (word-top x ys k (omega (arith, size, here))))
      (λ (apart : k ≢ length xs).
      word-past (x ∷ xs) k (omega (arith, past, apart)) ∙ sym (word-past (x ∷ ys) k (omega (arith, past, apart, size))))
      (cases_eq k (length xs)))
      (cases_lt k (length xs))

pub low-given : (P : SlotPlace → Type 0) (v : SlotPlace → Slot) (m : ℕ) (given xs ys : List Slot) → AreLow P v m xs ys → AreLow P v m (given ++ xs) (given ++ ys)
low-given P v m [] xs ys h = h
low-given P v m (x ∷ given) xs ys h = low-push P v m x (given ++ xs) (given ++ ys) (low-given P v m given xs ys h)

pub taken-low : (P : SlotPlace → Type 0) (v : SlotPlace → Slot) (o : Outline) (wanted : List Slot) (m n : ℕ) → n ≡ length wanted + m → (xs ys : List Slot)
    → AreLow P v n xs ys → Follows (AreLow P v m) (taken o wanted xs) (taken o wanted ys)
taken-low P v o [] m n e xs ys h = low-less P v m n xs ys (omega (arith, e)) h
taken-low P v o (w ∷ more) m n e xs [] h = tt
taken-low P v o (w ∷ more) m n e [] (y ∷ ys) h = absurd (let size = low-size P v n [] (y ∷ ys) h in omega (arith, size))
taken-low P v o (w ∷ more) m n e (x ∷ xs) (y ∷ ys) h =
    let top = low-top P v (length more + m) n x y xs ys (omega (arith, e)) h in
    follows-if (AreLow P v m) (fits o x w) (fits o y w) (taken o more xs) (taken o more ys) (λ f. ap (λ z. fits o z w) top.0 ∙ f)
    (λ f. taken-low P v o more m (length more + m) refl xs ys top.1)

drop-low : (P : SlotPlace → Type 0) (v : SlotPlace → Slot) (count m n : ℕ) → n ≡ count + m → (xs ys : List Slot) → AreLow P v n xs ys
    → AreLow P v m (drop count xs) (drop count ys)
drop-low P v zero m n e xs ys h = low-less P v m n xs ys (omega (arith, e)) h
drop-low P v (suc count) m n e [] [] h = low-less P v m n [] [] (omega (arith, e)) h
drop-low P v (suc count) m n e [] (y ∷ ys) h = absurd (let size = low-size P v n [] (y ∷ ys) h in omega (arith, size))
drop-low P v (suc count) m n e (x ∷ xs) [] h = absurd (let size = low-size P v n (x ∷ xs) [] h in omega (arith, size))
drop-low P v (suc count) m n e (x ∷ xs) (y ∷ ys) h =
    drop-low P v count m (count + m) refl xs ys (low-top P v (count + m) n x y xs ys (omega (arith, e)) h).1

get-low : (P : SlotPlace → Type 0) (v : SlotPlace → Slot) (depth m n : ℕ) → n ≡ depth + m + 1 → (xs ys : List Slot) → AreLow P v n xs ys
    → slice_get xs depth ≡ slice_get ys depth
get-low P v depth m n e [] [] h = refl
get-low P v depth m n e [] (y ∷ ys) h = absurd (let size = low-size P v n [] (y ∷ ys) h in omega (arith, size))
get-low P v depth m n e (x ∷ xs) [] h = absurd (let size = low-size P v n (x ∷ xs) [] h in omega (arith, size))
get-low P v zero m n e (x ∷ xs) (y ∷ ys) h = ap Some (low-top P v m n x y xs ys (omega (arith, e)) h).0
get-low P v (suc depth) m n e (x ∷ xs) (y ∷ ys) h =
    get-low P v depth m (depth + m + 1) refl xs ys (low-top P v (depth + m + 1) n x y xs ys (omega (arith, e)) h).1

words-low : (P : SlotPlace → Type 0) (v : SlotPlace → Slot) (n : ℕ) (depths : List ℕ) (xs ys : List Slot) → AllByRecursion (λ depth. depth < n) depths
    → AreLow P v n xs ys → words_at xs depths ≡ words_at ys depths
words-low P v n [] xs ys all h = refl
words-low P v n (depth ∷ depths) xs ys all h =
    let first = all.0 in
    ap (λ (found : Option Slot). option_and_then (λ word. option_map (λ words. word ∷ words) (words_at xs depths)) found)
    (get-low P v depth (n - depth - 1) n (omega (arith, first)) xs ys h)
    ∙ ap (λ (rest : Option (List Slot)). option_and_then (λ word. option_map (λ words. word ∷ words) rest) (slice_get ys depth))
    (words-low P v n depths xs ys all.1 h)

-- moves of words above the places
moved-low : (P : SlotPlace → Type 0) (v : SlotPlace → Slot) (m : Moves) (xs ys : List Slot) → AllByRecursion (λ depth. depth < m.takes) m.gives
    → AreLow P v m.takes xs ys → Follows (AreLow P v 0) (moved m xs) (moved m ys)
moved-low P v m xs ys all h =
    by_tests (nat_lt (length xs) m.takes) (nat_lt (length ys) m.takes) (ap (λ n. nat_lt n m.takes) (low-size P v m.takes xs ys h)) where
      kept : Follows (AreLow P v 0) (option_map (λ words. words ++ drop m.takes xs) (words_at xs m.gives))
          (option_map (λ words. words ++ drop m.takes ys) (words_at ys m.gives))
      kept =
          follows-map Same (AreLow P v 0) (λ words. words ++ drop m.takes xs) (λ words. words ++ drop m.takes ys) (words_at xs m.gives)
          (words_at ys m.gives) (follows-equal (words_at xs m.gives) (words_at ys m.gives) (words-low P v m.takes m.gives xs ys all h))
          (λ us vs same. subst (λ (zs : List Slot). AreLow P v 0 (us ++ drop m.takes xs) (zs ++ drop m.takes ys)) same
          (low-given P v 0 us (drop m.takes xs) (drop m.takes ys) (drop-low P v m.takes 0 m.takes (omega arith) xs ys h)))

      by_tests : (p q : Bool) → p ≡ q
          → Follows (AreLow P v 0) (cond p None (option_map (λ words. words ++ drop m.takes xs) (words_at xs m.gives)))
          (cond q None (option_map (λ words. words ++ drop m.takes ys) (words_at ys m.gives)))
      by_tests p true e = tt
      by_tests true false e = absurd (false≢true (sym e))
      by_tests false false e = kept

-- stacks of the same longs have them after a move
words_at-shaped : (a b : List Slot) (places : List ℕ) → AllZip IsShaped a b → Follows (AllZip IsShaped) (words_at a places) (words_at b places)
words_at-shaped a b [] h = tt
words_at-shaped a b (place ∷ places) h =
    follows-then IsShaped (AllZip IsShaped) _ _ (slice_get a place) (slice_get b place) (zip-get IsShaped a b place h)
    (λ x y same. follows-map (AllZip IsShaped) (AllZip IsShaped) (λ words. x ∷ words) (λ words. y ∷ words)
    (words_at a places) (words_at b places)
    (words_at-shaped a b places h) (λ xs ys rest. (same, rest)))

moved-shaped : (m : Moves) (a b : List Slot) → AllZip IsShaped a b → Follows (AllZip IsShaped) (moved m a) (moved m b)
moved-shaped m a b h =
    by_tests (nat_lt (length a) m.takes) (nat_lt (length b) m.takes) (ap (λ n. nat_lt n m.takes) (length_all_zip IsShaped a b h)) where
      kept : Follows (AllZip IsShaped) (option_map (λ words. words ++ drop m.takes a) (words_at a m.gives))
          (option_map (λ words. words ++ drop m.takes b) (words_at b m.gives))
      kept =
          follows-map (AllZip IsShaped) (AllZip IsShaped) _ _ (words_at a m.gives) (words_at b m.gives) (words_at-shaped a b m.gives h)
          (λ xs ys words. zip-append IsShaped xs ys (drop m.takes a) (drop m.takes b) words (zip-drop IsShaped m.takes a b h))

      by_tests : (p q : Bool) → p ≡ q
          → Follows (AllZip IsShaped) (cond p None (option_map (λ words. words ++ drop m.takes a) (words_at a m.gives)))
          (cond q None (option_map (λ words. words ++ drop m.takes b) (words_at b m.gives)))
      by_tests p true e = tt
      by_tests true false e = absurd (false≢true (sym e))
      by_tests false false e = kept

-- ---- what is taken from the stack and put on it

pub with_stack : (P : SlotPlace → Type 0) (v : SlotPlace → Slot) (m : ℕ) (s t : TypeState) (a b : List Slot) → IsCarried P v s t → AreLow P v m a b
    → IsCarried P v (record s { stack = a }) (record t { stack = b })
with_stack P v m s t a b h low = record { locals = h.locals; words = low.words; built = h.built }

pub low-of : (P : SlotPlace → Type 0) (v : SlotPlace → Slot) (m : ℕ) (s t : TypeState) → IsClear P m s → IsCarried P v s t → AreLow P v m s.stack t.stack
low-of P v m s t clear h = record { words = h.words; low = clear }

pub pushed-carried : (P : SlotPlace → Type 0) (v : SlotPlace → Slot) (given : List Slot) (s t : TypeState) → IsClear P 0 s → IsCarried P v s t
    → IsCarried P v (pushed given s) (pushed given t)
pushed-carried P v given s t clear h =
    with_stack P v 0 s t (given ++ s.stack) (given ++ t.stack) h (low-given P v 0 given s.stack t.stack (low-of P v 0 s t clear h))

pub worked-carried : (P : SlotPlace → Type 0) (v : SlotPlace → Slot) (o : Outline) (wanted given : List Slot) (s t : TypeState) → IsClear P (length wanted) s
    → IsCarried P v s t → Follows (IsCarried P v) (worked o wanted given s) (worked o wanted given t)
worked-carried P v o wanted given s t clear h =
    follows-map (AreLow P v 0) (IsCarried P v) (λ stack. record s { stack = given ++ stack }) (λ stack. record t { stack = given ++ stack })
    (taken o wanted s.stack) (taken o wanted t.stack)
    (taken-low P v o wanted 0 (length wanted) (omega arith) s.stack t.stack (low-of P v (length wanted) s t clear h))
    (λ a b low. with_stack P v 0 s t (given ++ a) (given ++ b) h (low-given P v 0 given a b low))

from_below-carried : (P : SlotPlace → Type 0) (v : SlotPlace → Slot) (given : Slot → Option (List Slot)) (s t : TypeState) → IsCarried P v s t → (a b : List Slot)
    → AreLow P v 1 a b → Follows (IsCarried P v) (from_below given s a) (from_below given t b)
from_below-carried P v given s t h a [] low = tt
from_below-carried P v given s t h [] (y ∷ b) low = absurd (let size = low-size P v 1 [] (y ∷ b) low in omega (arith, size))
from_below-carried P v given s t h (x ∷ a) (y ∷ b) low =
    let top = low-top P v 0 1 x y a b (omega arith) low in
    follows-map Same (IsCarried P v) (λ slots. record s { stack = slots ++ a }) (λ slots. record t { stack = slots ++ b }) (given x) (given y)
    (follows-equal (given x) (given y) (ap given top.0))
    (λ us vs same. with_stack P v 0 s t (us ++ a) (vs ++ b) h
    (subst (λ (zs : List Slot). AreLow P v 0 (us ++ a) (zs ++ b)) same (low-given P v 0 us a b top.1)))

pub worked_below-carried : (P : SlotPlace → Type 0) (v : SlotPlace → Slot) (o : Outline) (wanted : List Slot) (given : Slot → Option (List Slot)) (s t : TypeState)
    → IsClear P (length wanted + 1) s → IsCarried P v s t → Follows (IsCarried P v) (worked_below o wanted given s) (worked_below o wanted given t)
worked_below-carried P v o wanted given s t clear h =
    follows-then (AreLow P v 1) (IsCarried P v) (from_below given s) (from_below given t) (taken o wanted s.stack) (taken o wanted t.stack)
    (taken-low P v o wanted 1 (length wanted + 1) refl s.stack t.stack (low-of P v (length wanted + 1) s t clear h))
    (from_below-carried P v given s t h)

pub move_of-carried : (P : SlotPlace → Type 0) (v : SlotPlace → Slot) (m : Moves) (s t : TypeState) → AllByRecursion (λ depth. depth < m.takes) m.gives
    → IsClear P m.takes s → AllZip IsShaped s.stack t.stack → IsCarried P v s t → Follows (IsCarried P v) (move_by (Some m) s) (move_by (Some m) t)
move_of-carried P v m s t all clear shaped h =
    follows-then (Both (AreLow P v 0) (AllZip IsShaped)) (IsCarried P v) _ _ (moved m s.stack) (moved m t.stack)
    (follows-both (AreLow P v 0) (AllZip IsShaped) (moved m s.stack) (moved m t.stack)
    (moved-low P v m s.stack t.stack all (low-of P v m.takes s t clear h)) (moved-shaped m s.stack t.stack shaped))
    (λ a b both. follows-if (IsCarried P v) (is_whole a) (is_whole b) _ _ (λ e. whole-shaped a b both.second e)
    (λ e. with_stack P v 0 s t a b h both.first))
