-- The numbers of nodes as they lie in memory.
use Rattle.std.proofs.Common.{◌≡◌, ℕ, suc, ◌+◌, ◌^◌, ◌<◌, ◌≤◌, Bool, true, false, cond, Some, None, List, [], ◌∷◌, ◌++◌, length, map, get_or, refl, ap, sym, ◌∙◌, ⊎_elim, arith}
use Rattle.std.proofs.lemmas.Bool.{cases_lt, cond_below}
use Rattle.std.proofs.lemmas.List.{ext_get_or, get_or_append_left, get_or_push, get_or_default, length_push}
use Rattle.std.proofs.lemmas.List.FromFn.{length-map-range_with_len, get_or-map-range_with_len}
use Rattle.std.specs.List.{range_with_len}
use Rattle.fm_base.proofs.OptionFacts.{cond-some_then}
use Rattle.fm_base.specs.Rows.{has}
use Rattle.fm_base.proofs.RowFacts.{has_inside}
use Rattle.fm_conn.proofs.NumberLemmas.{word_below, words_before-append, words_before_le, words_before_next}
use Rattle.fm_conn.specs.Nodes.{Global, Local, Return, Slot}
use Rattle.fm_conn.specs.inner.NodeTables.{class_at, class_in, first_word, global_number, node_count, return_number, slot_number, table_in, words_at, words_before, AreStarts, NodeTable}

-- the words of one item more
pub next_more : (locals : ℕ) (words : List (List Bool)) (w : List Bool) →
    first_word (table_in locals (words ++ w ∷ [])) (length (words ++ w ∷ [])) ≡ first_word (table_in locals words) (length words) + length w
next_more locals words w =
    let n = length words in
    let more : length (words ++ w ∷ []) ≡ n + 1 = length_push words w in
    let count : words_before (words ++ w ∷ []) (length (words ++ w ∷ [])) ≡ words_before (words ++ w ∷ []) (suc n) =
    ap (words_before (words ++ w ∷ [])) (let e : length (words ++ w ∷ []) ≡ suc n = omega arith in e) in
    let next = words_before_next (words ++ w ∷ []) n (omega arith) in
    let same = words_before-append words (w ∷ []) n (omega arith) in
    let last = ap length (get_or_push words w [] n refl) in
    omega arith

starts_at : (f : ℕ → ℕ) (n j : ℕ) → j < n → get_or (map f (range_with_len 0 n)) j 0 ≡ f j
starts_at f n j low = get_or-map-range_with_len f 0 n j j 0 low (omega arith)

pub starts_more : (locals : ℕ) (words : List (List Bool)) (w : List Bool) (starts : List ℕ) (next : ℕ) →
    starts ≡ map (first_word (table_in locals words)) (range_with_len 0 (length words)) → next ≡ first_word (table_in locals words) (length words) →
    starts ++ next ∷ [] ≡ map (first_word (table_in locals (words ++ w ∷ []))) (range_with_len 0 (length (words ++ w ∷ [])))
starts_more locals words w starts next so_far is =
    let n = length words in
    let before = first_word (table_in locals words) in
    let after = first_word (table_in locals (words ++ w ∷ [])) in
    let more : length (words ++ w ∷ []) ≡ n + 1 = length_push words w in
    let count : length starts ≡ n = ap length so_far ∙ length-map-range_with_len before 0 n in
    let longer : length (starts ++ next ∷ []) ≡ length starts + 1 = length_push starts next in
    let size : length (map after (range_with_len 0 (length (words ++ w ∷ [])))) ≡ length (words ++ w ∷ []) =
    length-map-range_with_len after 0 (length (words ++ w ∷ [])) in
    let same : (j : ℕ) → j ≤ n → before j ≡ after j = λ j low. let e = words_before-append words (w ∷ []) j low in omega arith in
    ext_get_or 0 (starts ++ next ∷ []) (map after (range_with_len 0 (length (words ++ w ∷ [])))) (omega arith)
    (λ j inside.
    let right : get_or (map after (range_with_len 0 (length (words ++ w ∷ [])))) j 0 ≡ after j = starts_at after (length (words ++ w ∷ [])) j (omega arith) in
    ⊎_elim
    (λ (low : j < n).
    get_or_append_left starts (next ∷ []) 0 j (omega arith) ∙ ap (λ list. get_or list j 0) so_far ∙ starts_at before n j low ∙ same j (omega arith) ∙ sym right)
    (λ (high : n ≤ j).
    let at : j ≡ n = omega arith in
    get_or_push starts next 0 j (omega arith) ∙ is ∙ ap before (sym at) ∙ same j (omega arith) ∙ sym right)
    (cases_lt j n))

-- the last start is the number of all nodes
pub starts_done : (locals : ℕ) (words : List (List Bool)) (starts : List ℕ) (next : ℕ) →
    starts ≡ map (first_word (table_in locals words)) (range_with_len 0 (length words)) → next ≡ first_word (table_in locals words) (length words) →
    next < 2 ^ 32 → AreStarts (table_in locals words) (starts ++ next ∷ [])
starts_done locals words starts next so_far is low =
    let n = length words in
    let f = first_word (table_in locals words) in
    let count : length starts ≡ n = ap length so_far ∙ length-map-range_with_len f 0 n in
    let longer : length (starts ++ next ∷ []) ≡ length starts + 1 = length_push starts next in
    let size : length (map f (range_with_len 0 (n + 1))) ≡ n + 1 = length-map-range_with_len f 0 (n + 1) in
    record {
      places = ext_get_or 0 (starts ++ next ∷ []) (map f (range_with_len 0 (n + 1))) (omega arith)
          (λ j inside.
          let right : get_or (map f (range_with_len 0 (n + 1))) j 0 ≡ f j = starts_at f (n + 1) j (omega arith) in
          ⊎_elim
          (λ (below : j < n). get_or_append_left starts (next ∷ []) 0 j (omega arith) ∙ ap (λ list. get_or list j 0) so_far ∙ starts_at f n j below ∙ sym right)
          (λ (high : n ≤ j). let at : j ≡ n = omega arith in get_or_push starts next 0 j (omega arith) ∙ is ∙ ap f (sym at) ∙ sym right)
          (cases_lt j n));
      few = omega arith;
    }

-- ---- what the starts give

pub starts_count : (t : NodeTable) (starts : List ℕ) → AreStarts t starts → length starts ≡ length t.words + 1
starts_count t starts are = ap length are.places ∙ length-map-range_with_len (first_word t) 0 (length t.words + 1)

pub start_is : (t : NodeTable) (starts : List ℕ) (j : ℕ) → AreStarts t starts → j ≤ length t.words → get_or starts j 0 ≡ first_word t j
start_is t starts j are low = ap (λ list. get_or list j 0) are.places ∙ starts_at (first_word t) (length t.words + 1) j (omega arith)

-- a word's number is below the count, and so fits
pub slot_fits : (t : NodeTable) (starts : List ℕ) (j d : ℕ) → AreStarts t starts → d < length (words_at t j) →
    (first_word t j + d < node_count t) × (node_count t < 2 ^ 32)
slot_fits t starts j d are here = let below = word_below t.words j d here in (omega arith, are.few)

-- ---- the classes of nodes that are there

pub local_class : (t : NodeTable) (least : List ℕ) (k : ℕ) → k < t.locals → class_at least k ≡ class_in t least (Local k)
unfolding class_in
local_class t least k low = ap (class_at least) (cond_below k t.locals k _ low)

pub slot_class : (t : NodeTable) (least : List ℕ) (j d : ℕ) → d < length (words_at t j) → class_at least (first_word t j + d) ≡ class_in t least (Slot j d)
unfolding class_in
slot_class t least j d here = ap (class_at least) (cond_below d (length (words_at t j)) (first_word t j + d) _ here)

pub return_class : (t : NodeTable) (least : List ℕ) → class_at least (return_number t) ≡ class_in t least Return
unfolding class_in
return_class t least = refl

pub global_class : (t : NodeTable) (least : List ℕ) → class_at least (global_number t) ≡ class_in t least Global
unfolding class_in
global_class t least = refl

-- what is read at a number that is there
pub class_read : (least : List ℕ) (n got : ℕ) → n < length least → got ≡ get_or least n got → got ≡ class_at least n
class_read least n got inside is = is ∙ get_or_default least n got n inside

-- a word that has a number
pub record Numbered (t : NodeTable) (j d n : ℕ) : Type 0 where
  pub here : d < length (words_at t j)
  pub is : first_word t j + d ≡ n
  pub below : n < node_count t

pub slot_numbered : (t : NodeTable) (j d n : ℕ) → slot_number t j d ≡ Some n → Numbered t j d n
slot_numbered t j d n some =
    let both = cond-some_then (has (words_at t j) d) (Some (first_word t j + d)) n some in
    let here : d < length (words_at t j) = has_inside (words_at t j) d both.0 in
    let is : first_word t j + d ≡ n = cc (both.1) in
    let below = word_below t.words j d here in
    record { here = here; is = is; below = omega arith }

-- ---- reads

-- the bit that was read of a word, and the start of its item
pub record SlotRead (t : NodeTable) (starts : List ℕ) (j d start : ℕ) : Type 0 where
  pub start_fits : start + d < 2 ^ 32
  pub number : slot_number t j d ≡ Some (start + d)

pub slot_read : (t : NodeTable) (starts : List ℕ) (j d : ℕ) (w : List Bool) (bit : Bool) (start : ℕ) → AreStarts t starts → j < length t.words →
    w ≡ get_or t.words j w → d < length w → bit ≡ get_or w d bit → bit ≡ true → start ≡ get_or starts j start → SlotRead t starts j d start
slot_read t starts j d w bit start are inside word low is set read =
    let words : words_at t j ≡ w = sym (word ∙ get_or_default t.words j w [] inside) in
    let here : d < length (words_at t j) = omega (arith, ap length words) in
    let held : has (words_at t j) d ≡ true = ap (λ v. get_or v d false) words ∙ sym (is ∙ get_or_default w d bit false low) ∙ set in
    let count = starts_count t starts are in
    let at : start ≡ first_word t j = read ∙ get_or_default starts j start 0 (omega arith) ∙ start_is t starts j are (omega arith) in
    let below = word_below t.words j d here in
    let few = are.few in
    record {
      start_fits = omega arith;
      number = ap (λ b. cond b (Some (first_word t j + d)) None) held ∙ ap (λ n. Some (n + d)) (sym at);
    }

-- an item has no more words than there are
pub words_few : (t : NodeTable) (starts : List ℕ) (j : ℕ) (w : List Bool) → AreStarts t starts → j < length t.words → w ≡ get_or t.words j w →
    length w < 2 ^ 32
words_few t starts j w are inside word =
    let same = ap length (word ∙ get_or_default t.words j w [] inside) in
    let next = words_before_next t.words j inside in
    let le = words_before_le t.words (suc j) (length t.words) (omega arith) in
    let few = are.few in
    omega arith

pub first_of_none : (locals : ℕ) → first_word (table_in locals []) 0 ≡ locals + 2
unfolding words_before
first_of_none locals = omega arith
