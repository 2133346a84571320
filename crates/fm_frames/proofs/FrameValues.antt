-- Frames that lie in one list: what a change of the list, or of the topmost cursor, does to them.
use Rattle.std.proofs.Common.{◌≡◌, ℕ, Bool, ◌+◌, ◌-◌, ◌<◌, ◌≤◌, ◌⊎◌, inl, inr, List, [], ◌∷◌, ◌++◌, length, take, drop, set, reverse, Some, None, get_or, refl, ap, sym, ◌∙◌, subst, slice_get, option_map, map, zero, suc, ◌≢◌, add-one, replicate, max, take_all, option_to_list, append_assoc, true, false, length-set, arith}
use Rattle.std.proofs.Math.ListN.{drop_of_length-le}
use Rattle.std.proofs.Math.Seq.{drop-append_seam, take-append_seam, take-set-lt}
use Rattle.std.proofs.lemmas.Bool.{cases_lt}
use Rattle.std.proofs.lemmas.List.{replicate_more, take_more, take_more_set, drop-append-le, take-append-le, take-append-drop, drop-take, reverse-append, length-reverse, length-take, length-drop, get_or-reverse, get_or-set_other, length-append, take-set-le, drop-set-lt, drop-set-add, drop-drop, length-replicate, reverse-reverse}
use Rattle.std.proofs.lemmas.Option.{slice_get-get_or, slice_get-map, slice_get_past}
use Rattle.fm_frames.specs.States.{Frame}
use Rattle.fm_frames.specs.declared.frames.Cursor.{Cursor}
use Rattle.fm_frames.specs.declared.values.Value.{Value}
use Rattle.fm_frames.specs.declared.values.Value.TheVariants as value
use Rattle.fm_frames.specs.inner.Frames.{AreLaid, AreTiled, frames_at, frames_in, on_top, place, place_of, result_word, stack_in, with_called, with_result, with_words}

-- frames are equal by their parts
same_frame : (method item : ℕ) {l1 l2 s1 s2 : List Value} → l1 ≡ l2 → s1 ≡ s2
    → ◌≡◌ {A = Frame} (record { method = method; item = item; locals = l1; stack = s1 }) (record { method = method; item = item; locals = l2; stack = s2 })
same_frame method item p q = λ i. record { method = method; item = item; locals = p i; stack = q i }

-- and a list of them by its first one and the others
both : {f g : Frame} {callers others : List Frame} → f ≡ g → callers ≡ others → (f ∷ callers) ≡ (g ∷ others)
both p q = λ i. p i ∷ q i

-- ---- where frames lie

-- the first values of the first ones
take_take : (n m : ℕ) (xs : List Value) → n ≤ m → n ≤ length xs → take n (take m xs) ≡ take n xs
take_take n m xs less within =
    sym (take-append-le n (take m xs) (drop m xs) (omega (arith, length-take m xs))) ∙ ap (take n) (take-append-drop m xs)

-- the values that are used end with those of a cursor
tiled : (has : Bool) (values : List Value) (used : ℕ) (c : Cursor) (callers : List Cursor) → AreLaid has values used c callers
    → AreTiled (take used values) (c ∷ callers)
tiled has values used c callers laid =
    let P : List Value → Type 0 = λ front. AreTiled front callers in (
      laid.0,
      omega (arith, length-take used values),
      subst P (sym (take_take c.locals used values (omega arith) (omega arith))) laid.4,
    )

-- the topmost frame with those below it, where there is one
some-there : (has : Bool) (values : List Value) (used : ℕ) (c : Cursor) (callers : List Cursor) (x : List Frame)
    → has ≡ true → frames_in has values used c callers ≡ x → frames_at (take used values) (c ∷ callers) ≡ x
some-there has values used c callers x there is = sym (ap (λ h. frames_in h values used c callers) there) ∙ is

-- ---- values after all others

frames-more : (values more : List Value) (c : Cursor) (callers : List Cursor) → AreTiled values (c ∷ callers)
    → frames_at (values ++ more) (c ∷ callers) ≡ on_top (λ f. record f { stack = reverse more ++ f.stack }) (frames_at values (c ∷ callers))
frames-more values more c callers tiled =
    both
    (same_frame c.method.0 c.item
    (ap (drop c.locals) (take-append-le c.stack values more tiled.1))
    (ap reverse (drop-append-le c.stack values more tiled.1) ∙ reverse-append (drop c.stack values) more))
    (ap (λ front. frames_at front callers) (take-append-le c.locals values more (omega arith)))

frames-pushed : (values : List Value) (c : Cursor) (callers : List Cursor) (v : Value) → AreTiled values (c ∷ callers)
    → frames_at (values ++ v ∷ []) (c ∷ callers) ≡ on_top (λ f. record f { stack = v ∷ f.stack }) (frames_at values (c ∷ callers))
frames-pushed values c callers v tiled = frames-more values (v ∷ []) c callers tiled

pushed : (has : Bool) (values new : List Value) (used many : ℕ) (c : Cursor) (callers : List Cursor) (v : Value) (x : List Frame)
    → AreLaid has values used c callers → frames_in has values used c callers ≡ x → take many new ≡ take used values ++ v ∷ []
    → frames_in has new many c callers ≡ on_top (λ f. record f { stack = v ∷ f.stack }) x
pushed false values new used many c callers v x laid is made = ap (on_top (λ f. record f { stack = v ∷ f.stack })) is
pushed true values new used many c callers v x laid is made =
    ap (λ front. frames_at front (c ∷ callers)) made ∙ frames-pushed (take used values) c callers v (tiled true values used c callers laid)
    ∙ ap (on_top (λ f. record f { stack = v ∷ f.stack })) is

-- ---- values after which the list is cut

-- a list turned round, without its last values
reverse-take : (xs : List Value) (count : ℕ) → reverse (take (length xs - count) xs) ≡ drop count (reverse xs)
reverse-take xs count = by_count (cases_lt (length xs) count) where
  by_count : (length xs < count) ⊎ (count ≤ length xs) → reverse (take (length xs - count) xs) ≡ drop count (reverse xs)
  by_count (inl many) =
      let none : length xs - count ≡ 0 = omega arith in
      ap (λ k. reverse (take k xs)) none ∙ sym (drop_of_length-le (reverse xs) (omega (arith, length-reverse xs)))
  by_count (inr few) =
      let m : ℕ = length xs - count in
      let whole = ap reverse (sym (take-append-drop m xs)) ∙ reverse-append (take m xs) (drop m xs) in
      let n : length (reverse (drop m xs)) ≡ count = omega (arith, length-reverse (drop m xs), length-drop m xs) in
      sym (ap (drop count) whole ∙ ap (λ k. drop k (reverse (drop m xs) ++ reverse (take m xs))) (sym n)
      ∙ drop-append_seam (reverse (drop m xs)) (reverse (take m xs)))

-- the values that are kept where this many words are taken off the topmost frame's stack
abbrev kept_by : Cursor → (used count : ℕ) → ℕ
kept_by c used count = c.stack + (used - c.stack - count)

tiled-dropped : (values : List Value) (c : Cursor) (callers : List Cursor) (count : ℕ) → AreTiled values (c ∷ callers)
    → AreTiled (take (kept_by c (length values) count) values) (c ∷ callers)
tiled-dropped values c callers count tiled =
    let P : List Value → Type 0 = λ front. AreTiled front callers in
    let kept : ℕ = kept_by c (length values) count in (
      tiled.0,
      omega (arith, length-take kept values),
      subst P (sym (take_take c.locals kept values (omega arith) (omega arith))) tiled.2,
    )

frames-dropped : (values : List Value) (c : Cursor) (callers : List Cursor) (count : ℕ) → AreTiled values (c ∷ callers)
    → frames_at (take (kept_by c (length values) count) values) (c ∷ callers)
    ≡ on_top (λ f. record f { stack = drop count f.stack }) (frames_at values (c ∷ callers))
frames-dropped values c callers count tiled =
    let more : ℕ = length values - c.stack - count in
    let kept : ℕ = kept_by c (length values) count in
    let h : length (drop c.stack values) ≡ length values - c.stack = length-drop c.stack values in
    both
    (same_frame c.method.0 c.item
    (ap (drop c.locals) (take_take c.stack kept values (omega arith) (omega arith)))
    (ap reverse (drop-take c.stack more values) ∙ ap (λ n. reverse (take (n - count) (drop c.stack values))) (sym h)
    ∙ reverse-take (drop c.stack values) count))
    (ap (λ front. frames_at front callers) (take_take c.locals kept values (omega arith) (omega arith)))

-- the values that are kept, of those that are used
kept-used : (values : List Value) (used count kept : ℕ) (c : Cursor) → c.stack ≤ used → used ≤ length values → kept ≡ kept_by c used count
    → take kept values ≡ take (kept_by c (length (take used values)) count) (take used values)
kept-used values used count kept c above within much =
    let long : length (take used values) ≡ used = omega (arith, length-take used values) in
    sym (take_take kept used values (omega arith) (omega arith))
    ∙ ap (λ n. take n (take used values)) (much ∙ ap (λ n. kept_by c n count) (sym long))

pub dropped : (has : Bool) (values : List Value) (used count kept : ℕ) (c : Cursor) (callers : List Cursor) (x : List Frame)
    → AreLaid has values used c callers → frames_in has values used c callers ≡ x → kept ≡ kept_by c used count
    → frames_in has values kept c callers ≡ on_top (λ f. record f { stack = drop count f.stack }) x
dropped false values used count kept c callers x laid is much = ap (on_top (λ f. record f { stack = drop count f.stack })) is
dropped true values used count kept c callers x laid is much =
    ap (λ front. frames_at front (c ∷ callers)) (kept-used values used count kept c laid.1 laid.2 much)
    ∙ frames-dropped (take used values) c callers count (tiled true values used c callers laid)
    ∙ ap (on_top (λ f. record f { stack = drop count f.stack })) is

-- a value in place of several

given-for : (takes : ℕ) (v : Value) (x : List Frame)
    → on_top (λ f. record f { stack = v ∷ f.stack }) (on_top (λ f. record f { stack = drop takes f.stack }) x)
    ≡ on_top (λ f. record f { stack = v ∷ drop takes f.stack }) x
given-for takes v [] = refl
given-for takes v (f ∷ callers) = refl

positive : (n : ℕ) → n ≢ 0 → 0 < n
positive zero some = absurd (some refl)
positive (suc n) some = omega arith

pub swapped : (has : Bool) (values : List Value) (used takes kept : ℕ) (c : Cursor) (callers : List Cursor) (v : Value) (x : List Frame)
    → AreLaid has values used c callers → frames_in has values used c callers ≡ x → takes ≢ 0 → takes ≤ used - c.stack → kept ≡ used - takes
    → frames_in has (set values kept v) (kept + 1) c callers ≡ on_top (λ f. record f { stack = v ∷ drop takes f.stack }) x
swapped has values used takes kept c callers v x laid is some few much =
    let one : 0 < takes = positive takes some in
    let below : AreLaid has values kept c callers = (laid.0, omega arith, omega arith, laid.3, laid.4) in
    pushed has values (set values kept v) kept (kept + 1) c callers v (on_top (λ f. record f { stack = drop takes f.stack }) x) below
    (dropped has values used takes kept c callers x laid is (omega arith))
    (take_more_set values kept v (omega arith))
    ∙ given-for takes v x

wide-for : (takes : ℕ) (v : Value) (x : List Frame)
    → on_top (λ f. record f { stack = value.Top ∷ f.stack }) (on_top (λ f. record f { stack = v ∷ f.stack }) (on_top (λ f. record f { stack = drop takes f.stack }) x))
    ≡ on_top (λ f. record f { stack = value.Top ∷ v ∷ drop takes f.stack }) x
wide-for takes v [] = refl
wide-for takes v (f ∷ callers) = refl

-- a value that is written behind the used ones leaves these laid
laid-behind : (has : Bool) (values : List Value) (used : ℕ) (c : Cursor) (callers : List Cursor) (v : Value) → AreLaid has values used c callers
    → used < length values → AreLaid has (set values used v) (used + 1) c callers
laid-behind has values used c callers v laid room =
    let long : length (set values used v) ≡ length values = length-set values used v in
    let P : List Value → Type 0 = λ front. AreTiled front callers in (
      laid.0,
      omega arith,
      omega (arith, long),
      (λ none. omega (arith, long, laid.3 none)),
      subst P (sym (take-set-le c.locals values used v (omega arith))) laid.4,
    )

-- a long in place of several, with its second half on top
pub swapped_wide : (has : Bool) (values : List Value) (used takes kept : ℕ) (c : Cursor) (callers : List Cursor) (v : Value) (x : List Frame)
    → AreLaid has values used c callers → frames_in has values used c callers ≡ x → takes ≤ used - c.stack → kept ≡ used - takes → kept + 2 ≤ length values
    → frames_in has (set (set values kept v) (kept + 1) value.Top) (kept + 2) c callers ≡ on_top (λ f. record f { stack = value.Top ∷ v ∷ drop takes f.stack }) x
swapped_wide has values used takes kept c callers v x laid is few much room =
    let half : List Value = set values kept v in
    let below : AreLaid has values kept c callers = (laid.0, omega arith, omega arith, laid.3, laid.4) in
    let word = pushed has values half kept (kept + 1) c callers v (on_top (λ f. record f { stack = drop takes f.stack }) x) below
    (dropped has values used takes kept c callers x laid is (omega arith)) (take_more_set values kept v (omega arith)) in
    let more : take (kept + 2) (set half (kept + 1) value.Top) ≡ take (kept + 1) half ++ value.Top ∷ [] =
    ap (λ n. take n (set half (kept + 1) value.Top)) (let e : kept + 2 ≡ kept + 1 + 1 = omega arith in e)
    ∙ take_more_set half (kept + 1) value.Top (omega (arith, length-set values kept v)) in
    pushed has half (set half (kept + 1) value.Top) (kept + 1) (kept + 2) c callers value.Top _
    (laid-behind has values kept c callers v below (omega arith)) word more
    ∙ wide-for takes v x

-- ---- a local is written

frames-set : (values : List Value) (c : Cursor) (callers : List Cursor) (place : ℕ) (v : Value) → AreTiled values (c ∷ callers)
    → place < c.stack - c.locals
    → frames_at (set values (c.locals + place) v) (c ∷ callers)
    ≡ on_top (λ f. record f { locals = set f.locals place v }) (frames_at values (c ∷ callers))
frames-set values c callers place v tiled within =
    both
    (same_frame c.method.0 c.item
    (ap (drop c.locals) (take-set-lt c.stack values (c.locals + place) v (omega arith)) ∙ drop-set-add c.locals (take c.stack values) place v)
    (ap reverse (drop-set-lt c.stack values (c.locals + place) v (omega arith))))
    (ap (λ front. frames_at front callers) (take-set-le c.locals values (c.locals + place) v (omega arith)))

pub set_at : (has : Bool) (values : List Value) (used : ℕ) (c : Cursor) (callers : List Cursor) (place : ℕ) (v : Value) (x : List Frame)
    → AreLaid has values used c callers → frames_in has values used c callers ≡ x → place < c.stack - c.locals
    → frames_in has (set values (c.locals + place) v) used c callers ≡ on_top (λ f. record f { locals = set f.locals place v }) x
set_at false values used c callers place v x laid is within = ap (on_top (λ f. record f { locals = set f.locals place v })) is
set_at true values used c callers place v x laid is within =
    ap (λ front. frames_at front (c ∷ callers)) (take-set-lt used values (c.locals + place) v (omega arith))
    ∙ frames-set (take used values) c callers place v (tiled true values used c callers laid) within
    ∙ ap (on_top (λ f. record f { locals = set f.locals place v })) is

-- ---- how many frames there are, and where each one lies

length-frames : (values : List Value) (all : List Cursor) → length (frames_at values all) ≡ length all
length-frames values [] = refl
length-frames values (c ∷ callers) = ap suc (length-frames (take c.locals values) callers)

pub counted : (has : Bool) (values : List Value) (used : ℕ) (c : Cursor) (callers : List Cursor) (x : List Frame)
    → has ≡ true → frames_in has values used c (reverse callers) ≡ x → length callers + 1 ≡ length x
counted has values used c callers x there is =
    let count : length (frames_at (take used values) (c ∷ reverse callers)) ≡ length callers + 1 =
    length-frames (take used values) (c ∷ reverse callers) ∙ ap suc (length-reverse callers) ∙ sym (add-one (length callers)) in
    sym count ∙ ap length (some-there has values used c (reverse callers) x there is)

map-places : (values : List Value) (all : List Cursor) → map place_of (frames_at values all) ≡ map place all
map-places values [] = refl
map-places values (c ∷ callers) = ap (λ rest. place c ∷ rest) (map-places (take c.locals values) callers)

place-at : (values : List Value) (all : List Cursor) (above : ℕ)
    → option_map place_of (slice_get (frames_at values all) above) ≡ option_map place (slice_get all above)
place-at values all above =
    sym (slice_get-map place_of (frames_at values all) above) ∙ ap (λ places. slice_get places above) (map-places values all)
    ∙ slice_get-map place all above

pub no-cursor : (has : Bool) (values : List Value) (used : ℕ) (c : Cursor) (callers : List Cursor) (above : ℕ) (x : List Frame)
    → has ≡ true → frames_in has values used c (reverse callers) ≡ x → length callers < above → None ≡ option_map place_of (slice_get x above)
no-cursor has values used c callers above x there is past =
    let few : length x ≤ above = omega (arith, counted has values used c callers x there is) in
    sym (ap (option_map place_of) (slice_get_past x above few))

from-end : (c : Cursor) (callers : List Cursor) (above : ℕ) → above ≢ 0 → above ≤ length callers
    → slice_get (c ∷ reverse callers) above ≡ slice_get callers (length callers - above)
from-end c callers zero some within = absurd (some refl)
from-end c callers (suc k) some within =
    let turned = length-reverse callers in
    slice_get-get_or (c ∷ reverse callers) (suc k) c (omega (arith, turned))
    ∙ ap Some (get_or-reverse callers k c (omega arith))
    ∙ ap (λ n. Some (get_or callers n c)) (let e : length callers - 1 - k ≡ length callers - suc k = omega arith in e)
    ∙ sym (slice_get-get_or callers (length callers - suc k) c (omega arith))

-- as calls leave it, where the callers were lent
pub cursor-is : (has : Bool) (values : List Value) (used : ℕ) (c d : Cursor) (callers lent : List Cursor) (above : ℕ) (x : List Frame)
    → has ≡ true → frames_in has values used c (reverse callers) ≡ x → lent ≡ callers → above ≢ 0 → above ≤ length lent
    → Some (place (get_or lent (length lent - above) d)) ≡ option_map place_of (slice_get x above)
cursor-is has values used c d callers lent above x there is same some within =
    let P : List Cursor → Type 0 = λ lent. above ≤ length lent
    → Some (place (get_or lent (length lent - above) d)) ≡ option_map place_of (slice_get x above) in
    subst P (sym same)
    (λ within. ap (option_map place) (sym (slice_get-get_or callers (length callers - above) d (omega arith))
    ∙ sym (from-end c callers above some within))
    ∙ sym (place-at (take used values) (c ∷ reverse callers) above)
    ∙ ap (λ fs. option_map place_of (slice_get fs above)) (some-there has values used c (reverse callers) x there is))
    within

-- one value less
drop-next : (k : ℕ) (xs : List Frame) → drop 1 (drop k xs) ≡ drop (suc k) xs
drop-next zero xs = refl
drop-next (suc k) [] = refl
drop-next (suc k) (x ∷ xs) = drop-next k xs

pub dropped-next : (k : ℕ) (xs all now : List Frame) → xs ≡ drop k all → now ≡ drop 1 xs → now ≡ drop (k + 1) all
dropped-next k xs all now is next = next ∙ ap (drop 1) is ∙ drop-next k all ∙ ap (λ n. drop n all) (sym (add-one k))

-- ---- calls

-- the last values of a list, by the list turned round
last-values : (xs : List Value) (words : ℕ) → reverse (take words (reverse xs)) ≡ drop (length xs - words) xs
last-values xs words =
    let turned : List Value = reverse xs in
    let kept = reverse-take turned (length xs - words) in
    let count : length turned ≡ length xs = length-reverse xs in
    by_count (cases_lt (length xs) words) where
      by_count : (length xs < words) ⊎ (words ≤ length xs) → reverse (take words (reverse xs)) ≡ drop (length xs - words) xs
      by_count (inl many) =
          let none : length xs - words ≡ 0 = omega arith in
          ap reverse (take_all words (reverse xs) (omega (arith, length-reverse xs))) ∙ reverse-reverse xs ∙ ap (λ n. drop n xs) (sym none)
      by_count (inr few) =
          let left : length (reverse xs) - (length xs - words) ≡ words = omega (arith, length-reverse xs) in
          ap (λ n. reverse (take n (reverse xs))) (sym left) ∙ reverse-take (reverse xs) (length xs - words)
          ∙ ap (drop (length xs - words)) (reverse-reverse xs)

-- one more value that is no value of its own
pub cleared-next : (values front : List Value) (start place : ℕ) → place < length values → start ≤ place
    → take place values ≡ front ++ replicate (place - start) value.Top
    → take (place + 1) (set values place value.Top) ≡ front ++ replicate (place + 1 - start) value.Top
cleared-next values front start place within above so_far =
    let more : place - start + 1 ≡ place + 1 - start = omega arith in
    take_more_set values place value.Top within ∙ ap (λ xs. xs ++ value.Top ∷ []) so_far
    ∙ append_assoc front (replicate (place - start) value.Top) (value.Top ∷ [])
    ∙ ap (λ xs. front ++ xs) (replicate_more (place - start) value.Top ∙ ap (λ n. replicate n value.Top) more)

-- the values with room for the callee's locals behind them
abbrev pub with_room : List Value → ℕ → List Value
with_room values stack = values ++ replicate (stack - length values) value.Top

abbrev pub callee : ℕ → ℕ → ℕ → Cursor
callee method locals stack = record { method = record { 0 = method }; item = 0; locals = locals; stack = stack }

frames-called : (values : List Value) (c : Cursor) (callers : List Cursor) (method max_locals words kept stack : ℕ) → AreTiled values (c ∷ callers)
    → kept ≡ kept_by c (length values) words → stack ≡ max (kept + max_locals) (length values)
    → frames_at (with_room values stack) (callee method kept stack ∷ c ∷ callers)
    ≡ with_called method max_locals words (frames_at values (c ∷ callers))
frames-called values c callers method max_locals words kept stack tiled much is =
    let base : ℕ = kept_by c (length values) words in
    let more : List Value = replicate (stack - length values) value.Top in
    let ws : List Value = drop c.stack values in
    let h : length ws ≡ length values - c.stack = length-drop c.stack values in
    let long : length (with_room values stack) ≡ stack =
    omega (arith, length-append values more, length-replicate (stack - length values) value.Top) in
    let whole : take stack (with_room values stack) ≡ with_room values stack = take_all stack (with_room values stack) (omega arith) in
    let arguments : reverse (take words (reverse ws)) ≡ drop base values =
    last-values ws words ∙ drop-drop (length ws - words) c.stack values
    ∙ ap (λ n. drop n values) (let e : c.stack + (length ws - words) ≡ base = omega arith in e) in
    let count : length (drop base values) ≡ length values - base = length-drop base values in
    let room : stack - length values ≡ max_locals - length (reverse (take words (reverse ws))) = omega (arith, ap length arguments) in
    let here : frames_at (with_room values stack) (callee method base stack ∷ c ∷ callers)
    ≡ with_called method max_locals words (frames_at values (c ∷ callers)) =
    both
    (same_frame method 0
    (ap (drop base) whole ∙ drop-append-le base values more (omega arith) ∙ ap (λ xs. xs ++ more) (sym arguments)
    ∙ ap (λ n. reverse (take words (reverse ws)) ++ replicate n value.Top) room)
    (ap reverse (drop_of_length-le (with_room values stack) (omega arith))))
    (ap (λ front. frames_at front (c ∷ callers)) (take-append-le base values more (omega arith)) ∙ frames-dropped values c callers words tiled) in
    ap (λ n. frames_at (with_room values stack) (callee method n stack ∷ c ∷ callers)) much ∙ here

-- as calls leave it
pub entered : (has : Bool) (values new : List Value) (used : ℕ) (c : Cursor) (callers pushed : List Cursor)
    (method max_locals words kept stack : ℕ) (x : List Frame)
    → has ≡ true → AreLaid has values used c (reverse callers) → frames_in has values used c (reverse callers) ≡ x
    → kept ≡ kept_by c used words → stack ≡ max (kept + max_locals) used
    → take stack new ≡ take used values ++ replicate (stack - used) value.Top → pushed ≡ callers ++ c ∷ []
    → frames_in has new stack (callee method kept stack) (reverse pushed) ≡ with_called method max_locals words x
entered has values new used c callers pushed method max_locals words kept stack x there laid is much room made last =
    let front : List Value = take used values in
    let long : length front ≡ used = omega (arith, length-take used values) in
    let turned : reverse pushed ≡ c ∷ reverse callers = ap reverse last ∙ reverse-append callers (c ∷ []) in
    ap (λ h. frames_in h new stack (callee method kept stack) (reverse pushed)) there
    ∙ ap (λ all. frames_at all (callee method kept stack ∷ reverse pushed)) (made ∙ ap (λ n. front ++ replicate (stack - n) value.Top) (sym long))
    ∙ ap (λ others. frames_at (with_room front stack) (callee method kept stack ∷ others)) turned
    ∙ frames-called front c (reverse callers) method max_locals words kept stack (tiled has values used c (reverse callers) laid)
    (much ∙ ap (λ n. kept_by c n words) (sym long)) (room ∙ ap (λ n. max (kept + max_locals) n) (sym long))
    ∙ ap (with_called method max_locals words) (some-there has values used c (reverse callers) x there is)

-- ---- returns

-- a result of at most two words, word by word
result-words : (words : ℕ) (stack : List Value) → words ≤ 2
    → option_to_list (result_word words 0 stack) ++ option_to_list (result_word words 1 stack) ≡ take words stack
result-words zero stack few = refl
result-words (suc zero) [] few = refl
result-words (suc zero) (a ∷ stack) few = refl
result-words (suc (suc zero)) [] few = refl
result-words (suc (suc zero)) (a ∷ []) few = refl
result-words (suc (suc zero)) (a ∷ b ∷ stack) few = refl
result-words (suc (suc (suc more))) stack few = absurd (omega arith)

pub gave-back : (words : ℕ) (frames popped moved half new : List Frame) → words ≤ 2 → popped ≡ drop 1 frames
    → moved ≡ on_top (λ f. record f { item = f.item + 1 }) popped
    → half ≡ on_top (with_words (option_to_list (result_word words 1 (stack_in frames)))) moved
    → new ≡ on_top (with_words (option_to_list (result_word words 0 (stack_in frames)))) half
    → new ≡ with_result words frames
gave-back words frames popped moved half new few one two three four =
    four ∙ ap (on_top (with_words (option_to_list (result_word words 0 (stack_in frames))))) (three
    ∙ ap (on_top (with_words (option_to_list (result_word words 1 (stack_in frames))))) (two ∙ ap (on_top (λ f. record f { item = f.item + 1 })) one))
    ∙ by_frames frames where
      by_frames : (frames : List Frame)
          → on_top (with_words (option_to_list (result_word words 0 (stack_in frames)))) (on_top (with_words (option_to_list (result_word words 1 (stack_in frames))))
          (on_top (λ f. record f { item = f.item + 1 }) (drop 1 frames)))
          ≡ with_result words frames
      by_frames [] = refl
      by_frames (f ∷ []) = refl
      by_frames (f ∷ caller ∷ callers) =
          ap (λ given. record caller { item = caller.item + 1; stack = given } ∷ callers)
          (sym (append_assoc (option_to_list (result_word words 0 f.stack)) (option_to_list (result_word words 1 f.stack)) caller.stack)
          ∙ ap (λ given. given ++ caller.stack) (result-words words f.stack few))

-- the cursor of a caller to which a method returned
abbrev pub gone_on : Cursor → Cursor
gone_on caller = record caller { item = caller.item + 1 }

-- the last values are the first words of the topmost frame's stack, turned round
last-words : (all before last : List Value) (stack : ℕ) → all ≡ before ++ last → stack ≤ length before
    → reverse last ≡ take (length last) (reverse (drop stack all))
last-words all before last stack is within =
    let turned : reverse (drop stack all) ≡ reverse last ++ reverse (drop stack before) =
    ap (λ xs. reverse (drop stack xs)) is ∙ ap reverse (drop-append-le stack before last within) ∙ reverse-append (drop stack before) last in
    sym (ap (take (length last)) turned ∙ ap (λ n. take n (reverse last ++ reverse (drop stack before))) (sym (length-reverse last))
    ∙ take-append_seam (reverse last) (reverse (drop stack before)))

-- the words of a result, which come last, lie where the locals of the frame that is taken off began
pub given-back : (values new : List Value) (used words : ℕ) (c caller : Cursor) (callers : List Cursor) → AreLaid true values used c (caller ∷ callers)
    → words ≤ used - c.stack → take (c.locals + words) new ≡ take c.locals values ++ drop (used - words) (take used values)
    → frames_in true new (c.locals + words) (gone_on caller) callers ≡ with_result words (frames_in true values used c (caller ∷ callers))
given-back values new used words c caller callers laid few made =
    let all : List Value = take used values in
    let front : List Value = take c.locals values in
    let before : List Value = take (used - words) all in
    let last : List Value = drop (used - words) all in
    let whole : length all ≡ used = omega (arith, length-take used values) in
    let long : length before ≡ used - words = omega (arith, length-take (used - words) all, whole) in
    let many : length last ≡ words = omega (arith, length-drop (used - words) all, whole, few) in
    let given : List Value → List Value → List Frame = λ more front.
    on_top (λ f. record f { stack = more ++ f.stack }) (frames_at front (gone_on caller ∷ callers)) in
    ap (λ xs. frames_at xs (gone_on caller ∷ callers)) made
    ∙ frames-more front last (gone_on caller) callers laid.4
    ∙ ap (λ more. given more front)
    (last-words all before last c.stack (sym (take-append-drop (used - words) all)) (omega (arith, long, few))
    ∙ ap (λ n. take n (reverse (drop c.stack all))) many)
    ∙ ap (given (take words (reverse (drop c.stack all)))) (sym (take_take c.locals used values (omega arith) (omega arith)))

-- what comes last of the values that are used
last-is : (values last : List Value) (used : ℕ) → used ≤ length values → length last ≤ used → take used values ≡ take (used - length last) values ++ last
    → last ≡ drop (used - length last) (take used values)
last-is values last used within few is =
    let before : List Value = take (used - length last) values in
    let long : length before ≡ used - length last = omega (arith, length-take (used - length last) values) in
    sym (ap (drop (used - length last)) is ∙ ap (λ n. drop n (before ++ last)) (sym long) ∙ drop-append_seam before last)

-- two words that are copied down
pub copied-two : (values : List Value) (used start : ℕ) → used ≤ length values → start + 2 ≤ used
    → (let one : List Value = set values start (get_or values (used - 2) value.Top) in
    take (start + 2) (set one (start + 1) (get_or one (used - 1) value.Top)) ≡ take start values ++ drop (used - 2) (take used values))
copied-two values used start within below =
    let v : Value = get_or values (used - 2) value.Top in
    let w : Value = get_or values (used - 1) value.Top in
    let half : used - 2 + 1 ≡ used - 1 = omega (arith, below) in
    let whole : used - 1 + 1 ≡ used = omega (arith, below) in
    let one : List Value = set values start v in
    let apart : get_or one (used - 1) value.Top ≡ w = get_or-set_other values start (used - 1) v value.Top (λ same. omega (arith, below, same)) in
    let two : start + 1 + 1 ≡ start + 2 = omega arith in
    ap (λ n. take n (set one (start + 1) (get_or one (used - 1) value.Top))) (sym two)
    ∙ take_more_set one (start + 1) (get_or one (used - 1) value.Top) (omega (arith, length-set values start v))
    ∙ (λ j. take_more_set values start v (omega arith) j ++ apart j ∷ [])
    ∙ append_assoc (take start values) (v ∷ []) (w ∷ [])
    ∙ ap (λ xs. take start values ++ xs)
    (last-is values (v ∷ w ∷ []) used within (omega arith)
    (ap (λ n. take n values) (sym whole) ∙ take_more values (used - 1) value.Top (omega arith)
    ∙ ap (λ xs. xs ++ w ∷ []) (ap (λ n. take n values) (sym half) ∙ take_more values (used - 2) value.Top (omega arith))
    ∙ append_assoc (take (used - 2) values) (v ∷ []) (w ∷ [])))

-- the callers with the last one apart
last-apart : (callers left : List Cursor) (caller : Cursor) → callers ≡ left ++ caller ∷ [] → reverse callers ≡ caller ∷ reverse left
last-apart callers left caller is = ap reverse is ∙ reverse-append left (caller ∷ [])

-- as returns leave it
pub given-down : (has : Bool) (values new : List Value) (used words : ℕ) (c caller : Cursor) (callers left : List Cursor) (x : List Frame)
    → has ≡ true → AreLaid has values used c (reverse callers) → frames_in has values used c (reverse callers) ≡ x → callers ≡ left ++ caller ∷ []
    → words ≤ used - c.stack → take (c.locals + words) new ≡ take c.locals values ++ drop (used - words) (take used values)
    → frames_in has new (c.locals + words) (gone_on caller) (reverse left) ≡ with_result words x
given-down has values new used words c caller callers left x there laid is apart few made =
    let P : Bool → List Cursor → Type 0 = λ has below. AreLaid has values used c below → frames_in has values used c below ≡ x
    → frames_in has new (c.locals + words) (gone_on caller) (reverse left) ≡ with_result words x in
    subst (λ has. P has (reverse callers)) (sym there)
    (subst (P true) (sym (last-apart callers left caller apart))
    (λ laid is. given-back values new used words c caller (reverse left) laid few made ∙ ap (with_result words) is))
    laid is

laid-true : (values new last : List Value) (used words : ℕ) (c caller : Cursor) (callers : List Cursor) → AreLaid true values used c (caller ∷ callers)
    → words ≤ used - c.stack → length new ≡ length values → take (c.locals + words) new ≡ take c.locals values ++ last
    → AreLaid true new (c.locals + words) (gone_on caller) callers
laid-true values new last used words c caller callers laid few long made =
    let front : List Value = take c.locals values in
    let far : length front ≡ c.locals = omega (arith, length-take c.locals values) in
    let below = laid.4 in
    let P : List Value → Type 0 = λ front. AreTiled front callers in (
      below.0,
      omega (arith, far, below.1),
      omega (arith, long),
      (λ none. absurd (cc)),
      subst P
          (sym (sym (take_take caller.locals (c.locals + words) new (omega (arith, far, below.0, below.1)) (omega (arith, far, long, below.0, below.1)))
          ∙ ap (take caller.locals) made ∙ take-append-le caller.locals front last (omega (arith, far, below.0, below.1))))
          below.2,
    )

pub laid-down : (has : Bool) (values new last : List Value) (used words : ℕ) (c caller : Cursor) (callers left : List Cursor)
    → has ≡ true → AreLaid has values used c (reverse callers) → callers ≡ left ++ caller ∷ [] → words ≤ used - c.stack → length new ≡ length values
    → take (c.locals + words) new ≡ take c.locals values ++ last → AreLaid has new (c.locals + words) (gone_on caller) (reverse left)
laid-down has values new last used words c caller callers left there laid apart few long made =
    let P : Bool → List Cursor → Type 0 = λ has below. AreLaid has values used c below → AreLaid has new (c.locals + words) (gone_on caller) (reverse left) in
    subst (λ has. P has (reverse callers)) (sym there)
    (subst (P true) (sym (last-apart callers left caller apart))
    (λ laid. laid-true values new last used words c caller (reverse left) laid few long made))
    laid
