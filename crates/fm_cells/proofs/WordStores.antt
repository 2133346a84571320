-- What the fields of the word cells say of a held cell, and the store that they are after each call.
use Rattle.std.proofs.Common.{◌≡◌, ◌≢◌, ℕ, ◌+◌, ◌-◌, ◌*◌, ◌/◌, ◌%◌, ◌^◌, ◌<◌, ◌≤◌, Bool, cond, List, length, get_or, set, drop, refl, sym, ◌∙◌, ap, subst, nat_eq, arith, inl, inr, length-set, get_or-set_same, get_or-set_other, slice_index_or, Global}
use Rattle.std.specs.Prelude.{Option, Some, None, IsSome, slice_index}
use Rattle.std.specs.Vec.{with_items}
use Rattle.std.specs.declared.vec.Vec.{Vec}
use Rattle.std.proofs.lemmas.List.{get_or_default, ext_get_or, take_at}
use Rattle.std.proofs.lemmas.List.FromFn.{get_or-map-range_with_len}
use Rattle.std.proofs.lemmas.Bool.{cases_eq}
use Rattle.std.proofs.lemmas.Nat.{shr_high, mod_low}
use Rattle.fm_base.proofs.TestFacts.{apart-nat_eq, same-nat_eq}
use Rattle.fm_cells.specs.Sizes.{element_bits, packed_words, class_words, size_class}
use Rattle.fm_cells.specs.Objects.{Object, IsObject, object_words, size_class_of}
use Rattle.fm_cells.specs.Stores.{Store, object_at, elements_at, pack_at, chain_at, live_words}
use Rattle.fm_cells.specs.Changes.{without_object, with_object, with_element, with_chain, put_by, chained_by}
use Rattle.fm_cells.specs.Answers.{head_of}
use Rattle.fm_cells.specs.declared.answers.Head.{Head}
use Rattle.fm_cells.specs.Soundness.{IsSound, IsLastReused}
use Rattle.fm_cells.specs.inner.Words.{digit, with_digit, element_in, elements_in, class_in, birth_in, pack_in, is_fixed, len_in, chain_in, extent_word, object_from, mark_in}
use Rattle.fm_cells.specs.inner.Layouts.{Keeps}
use Rattle.fm_cells.specs.inner.WordStores.{word_store, IsWords}
use Rattle.fm_cells.specs.declared.word_cells.WordCells.TheInside.{Inside}
use Rattle.fm_cells.proofs.SizeLaws.{words-le-cell_words}
use Rattle.fm_cells.proofs.Elements.{some-object, chain_at-some, elements_at-some, pack_at-some, has_object, put_by-some, chained_by-some}
use Rattle.fm_cells.proofs.Layouts.{SameOutside, marked-some, Keeps-with_object, Keeps-without_object}
use Rattle.fm_cells.proofs.Held.{held_if}
use Rattle.fm_cells.proofs.KeptStores.{kept-store}
use Rattle.fm_cells.proofs.LastReused.{IsLastReused-with_object, IsLastReused-without_object}
use Rattle.fm_cells.proofs.Changes.{object_words-with_element, live_words-with_object, live_words-without_object}
use Rattle.fm_cells.proofs.Words.{map-range-ext, length-elements_in, place-in-body, IsPack-pack_in, object_words-object_from, element_in-set, mark_in-set}
use Rattle.fm_cells.proofs.Soundness.{IsSound-without_object, IsSound-with_object, size_class_of-lt, object_words_bound, IsObject-with_element, IsObject-with_chain}
use Rattle.fm_cells.proofs.Tiles.{tile-within}

-- what is written over all elements of a vector is its elements
pub with_items-all : (v : Vec ℕ Global) (ws : List ℕ) → length ws ≡ length v.items → (with_items v ws).items ≡ ws
with_items-all v ws h = take_at ws (drop (length ws) v.items) v.len (h ∙ sym v.ok.0)

-- fields that keep a store are that store
pub IsWords-is : (inside : Inside) (store : Store) → Keeps inside.words.items inside.marks.items inside.heads store → IsLastReused store → IsSound store → inside.made ≡ store.made → inside.budget ≡ store.budget → Some inside.limit ≡ store.limit → inside.births ≡ store.births → inside.peak ≡ store.peak
    → inside.live ≡ live_words store → inside.limit ≤ 2 ^ 32 - 2 → length inside.words.items ≤ 64 * length inside.marks.items → (word_store inside ≡ store) × IsWords inside
IsWords-is inside store keeps last sound same_made same_budget same_limit same_births same_peak live fits long =
    let is : word_store inside ≡ store = kept-store inside.words.items inside.marks.items inside.heads inside.made inside.budget inside.limit inside.births inside.peak store keeps last same_made same_budget same_limit same_births same_peak in (
      is,
      record {
        sound = subst (λ s. IsSound s) (sym is) sound;
        last_reused = subst (λ s. IsLastReused s) (sym is) last;
        keeps = subst (λ s. Keeps inside.words.items inside.marks.items inside.heads s) (sym is) keeps;
        live_is = live ∙ ap live_words (sym is);
        limit_fits = fits;
        marks_long = long;
      },
    )

-- a held cell: the words hold its object, and it lies within them
pub record IsHeldIn (inside : Inside) (cell : ℕ) (object : Object) : Type 0 where
  pub words_are : object_from inside.words.items cell ≡ object
  pub marked : mark_in inside.marks.items cell ≡ 1
  pub above : 0 < cell
  pub extent : cell + class_words (size_class_of object) ≤ length inside.words.items
  pub fits : object_words object ≤ class_words (size_class_of object)
  pub object_fits : IsObject object

pub held-in : (inside : Inside) (now : Store) (cell : ℕ) (object : Object) → word_store inside ≡ now → IsWords inside → object_at now cell ≡ Some object → IsHeldIn inside cell object
held-in inside now cell object view words held =
    let here : object_at (word_store inside) cell ≡ Some object = ap (λ s. object_at s cell) view ∙ held in
    let marked = marked-some inside.words.items inside.marks.items cell object (words.keeps.held cell ∙ here) in
    let object_fits : IsObject object = words.sound.objects_fit cell object here in
    let within = tile-within 1 words.keeps.tiles ((word_store inside).made_words + 1) cell (size_class_of object) words.keeps.tiling (words.keeps.held_tile cell object here) in
    record {
      words_are = marked.1;
      marked = marked.0;
      above = omega (arith, within.0);
      extent = omega (arith, within.0, within.1, within.2, words.keeps.words_made);
      fits = words-le-cell_words (object_words object) (omega (arith, object_words_bound object object_fits));
      object_fits = object_fits;
    }

-- a cell with its mark is held, and one without isn't
pub held-marked : (inside : Inside) (now : Store) (cell : ℕ) → word_store inside ≡ now → IsWords inside → mark_in inside.marks.items cell ≡ 1 → object_at now cell ≡ Some (object_from inside.words.items cell)
held-marked inside now cell view words mark =
    ap (λ s. object_at s cell) (sym view) ∙ sym (words.keeps.held cell) ∙ ap (λ m. cond (nat_eq m 1) (Some (object_from inside.words.items cell)) None) mark

pub not-marked : (inside : Inside) (now : Store) (cell : ℕ) → word_store inside ≡ now → IsWords inside → mark_in inside.marks.items cell ≢ 1 → object_at now cell ≡ None
not-marked inside now cell view words mark =
    ap (λ s. object_at s cell) (sym view) ∙ sym (words.keeps.held cell) ∙ ap (λ b. cond b (Some (object_from inside.words.items cell)) None) (apart-nat_eq (mark_in inside.marks.items cell) 1 mark)

-- the words of the object that a header says
pub header_words : (words : List ℕ) (cell : ℕ) (object : Object) → object_from words cell ≡ object → packed_words (len_in (get_or words (cell + 1) 0)) (pack_in (get_or words cell 0)) ≡ object_words object
header_words words cell object is = sym (object_words-object_from words cell) ∙ ap object_words is

-- an element is a group of bits of a word of its cell
pub get_within : (inside : Inside) (now : Store) (cell place : ℕ) → word_store inside ≡ now → IsWords inside → place < length (elements_at now cell) → cell + 2 + place / pack_in (get_or inside.words.items cell 0) < length inside.words.items
get_within inside now cell place view words within =
    let found = has_object now cell place within in
    let held = held-in inside now cell found.0 view words found.1 in
    let words = inside.words.items in
    let len : length (elements_at now cell) ≡ len_in (get_or words (cell + 1) 0) = ap length (elements_at-some now cell found.0 found.1) ∙ ap (λ o. length o.elements) (sym held.words_are) ∙ length-elements_in words (cell + 2) (pack_in (get_or words cell 0)) (len_in (get_or words (cell + 1) 0)) in
    omega (arith, held.extent, held.fits, header_words words cell found.0 held.words_are, place-in-body place (len_in (get_or words (cell + 1) 0)) (pack_in (get_or words cell 0)) (IsPack-pack_in (get_or words cell 0)) (omega arith))

pub get_value : (inside : Inside) (now : Store) (cell place : ℕ) → word_store inside ≡ now → IsWords inside → place < length (elements_at now cell) → element_in inside.words.items (cell + 2) (pack_in (get_or inside.words.items cell 0)) place ≡ slice_index (elements_at now cell) place
get_value inside now cell place view words within =
    let found = has_object now cell place within in
    let held = held-in inside now cell found.0 view words found.1 in
    let words = inside.words.items in
    let same : elements_at now cell ≡ elements_in words (cell + 2) (pack_in (get_or words cell 0)) (len_in (get_or words (cell + 1) 0)) = elements_at-some now cell found.0 found.1 ∙ ap (λ o. o.elements) (sym held.words_are) in
    let below : place < len_in (get_or words (cell + 1) 0) = omega (arith, ap length same, length-elements_in words (cell + 2) (pack_in (get_or words cell 0)) (len_in (get_or words (cell + 1) 0))) in
    sym (ap (λ all. slice_index all place) same ∙ get_or-map-range_with_len (element_in words (cell + 2) (pack_in (get_or words cell 0))) 0 (len_in (get_or words (cell + 1) 0)) place place 0 below (omega arith))

-- the object after a write of one element
object_from-set : (words : List ℕ) (cell place value : ℕ) → place < len_in (get_or words (cell + 1) 0) → cell + 2 + place / pack_in (get_or words cell 0) < length words → value < 2 ^ element_bits (pack_in (get_or words cell 0))
    → object_from (set words (cell + 2 + place / pack_in (get_or words cell 0)) (with_digit (element_bits (pack_in (get_or words cell 0))) (place % pack_in (get_or words cell 0)) value (get_or words (cell + 2 + place / pack_in (get_or words cell 0)) 0))) cell
    ≡ with_element (object_from words cell) place value
object_from-set words cell place value below within fits =
    let pack = pack_in (get_or words cell 0) in
    let len = len_in (get_or words (cell + 1) 0) in
    let at = cell + 2 + place / pack in
    let words' = set words at (with_digit (element_bits pack) (place % pack) value (get_or words at 0)) in
    let first : get_or words' cell 0 ≡ get_or words cell 0 = get_or-set_other words at cell (with_digit (element_bits pack) (place % pack) value (get_or words at 0)) 0 (λ e. absurd (omega arith)) in
    let second : get_or words' (cell + 1) 0 ≡ get_or words (cell + 1) 0 = get_or-set_other words at (cell + 1) (with_digit (element_bits pack) (place % pack) value (get_or words at 0)) 0 (λ e. absurd (omega arith)) in
    let body : elements_in words' (cell + 2) pack len ≡ set (elements_in words (cell + 2) pack len) place value =
    ext_get_or 0 (elements_in words' (cell + 2) pack len) (set (elements_in words (cell + 2) pack len) place value)
    (length-elements_in words' (cell + 2) pack len ∙ sym (length-set (elements_in words (cell + 2) pack len) place value ∙ length-elements_in words (cell + 2) pack len))
    (λ q h.
    let few : q < len = omega (arith, length-elements_in words' (cell + 2) pack len) in
    get_or-map-range_with_len (element_in words' (cell + 2) pack) 0 len q q 0 few (omega arith)
    ∙ element_in-set words (cell + 2) pack place value q within fits
    ∙ elim (cases_eq q place) as (λ _. cond (nat_eq q place) value (element_in words (cell + 2) pack q) ≡ get_or (set (elements_in words (cell + 2) pack len) place value) q 0) [
      | inl e ↦
          ap (λ b. cond b value (element_in words (cell + 2) pack q)) (ap (λ n. nat_eq n place) e ∙ same-nat_eq place)
          ∙ sym (ap (λ n. get_or (set (elements_in words (cell + 2) pack len) place value) n 0) e ∙ get_or-set_same (elements_in words (cell + 2) pack len) place value 0 (omega (arith, length-elements_in words (cell + 2) pack len)))
      | inr e ↦
          ap (λ b. cond b value (element_in words (cell + 2) pack q)) (apart-nat_eq q place e)
          ∙ sym (get_or-set_other (elements_in words (cell + 2) pack len) place q value 0 e ∙ get_or-map-range_with_len (element_in words (cell + 2) pack) 0 len q q 0 few (omega arith))
    ]) in
    let elements : elements_in words' (cell + 2) (pack_in (get_or words' cell 0)) (len_in (get_or words' (cell + 1) 0)) ≡ set (elements_in words (cell + 2) pack len) place value =
    ap (λ w. elements_in words' (cell + 2) (pack_in w) (len_in (get_or words' (cell + 1) 0))) first ∙ ap (λ w. elements_in words' (cell + 2) pack (len_in w)) second ∙ body in
    λ i. record { class = class_in (first i); birth = birth_in (first i); pack = pack_in (first i); fixed = is_fixed (first i); chain = chain_in (second i); elements = elements i }

-- a write within the words of a cell leaves all others
set-outside : (words : List ℕ) (cell k at value : ℕ) → cell ≤ at → at < cell + class_words k → SameOutside words (set words at value) cell k
set-outside words cell k at value low high = λ i out. get_or-set_other words at i value 0 (λ e. elim out as (λ _. ⊥) [ inl h ↦ absurd (omega arith) | inr h ↦ absurd (omega arith) ])

-- the fields after a put, or a change of a chain
overwritten : (inside after : Inside) (now : Store) (cell at value : ℕ) (old object : Object) (words : Vec ℕ Global) → word_store inside ≡ now → IsWords inside → object_at now cell ≡ Some old
    → words.items ≡ set inside.words.items at value → cell ≤ at → at < cell + class_words (size_class_of old) → object_from (set inside.words.items at value) cell ≡ object
    → IsObject object → object.birth ≡ old.birth → object_words object ≡ object_words old → after ≡ record inside { words = words } → (word_store after ≡ with_object now cell object) × IsWords after
overwritten inside after now cell at value old object words view kept held written low high is fits same_birth same_words changed =
    let last : IsLastReused now = subst (λ s. IsLastReused s) view kept.last_reused in
    let sound : IsSound now = subst (λ s. IsSound s) view kept.sound in
    let keeps : Keeps inside.words.items inside.marks.items inside.heads now = subst (λ s. Keeps inside.words.items inside.marks.items inside.heads s) view kept.keeps in
    let next : Keeps (set inside.words.items at value) inside.marks.items inside.heads (with_object now cell object) =
    Keeps-with_object inside.words.items (set inside.words.items at value) inside.marks.items inside.heads now cell old object keeps last sound held (ap size_class same_words) (length-set inside.words.items at value) (set-outside inside.words.items cell (size_class_of old) at value low high) is in
    let all : Keeps words.items inside.marks.items inside.heads (with_object now cell object) = subst (λ ws. Keeps ws inside.marks.items inside.heads (with_object now cell object)) (sym written) next in
    let done = IsWords-is (record inside { words = words }) (with_object now cell object) all (IsLastReused-with_object now cell old object last held same_birth same_words) (IsSound-with_object now cell old object sound held fits same_birth same_words)
    (ap (λ s. s.made) view) (ap (λ s. s.budget) view) (ap (λ s. s.limit) view) (ap (λ s. s.births) view) (ap (λ s. s.peak) view)
    (kept.live_is ∙ ap live_words view ∙ sym (live_words-with_object now cell old object held same_words)) kept.limit_fits
    (omega (arith, kept.marks_long, ap length written, length-set inside.words.items at value)) in
    (ap word_store changed ∙ done.0, subst (λ a. IsWords a) (sym changed) done.1)

pub put-done : (inside after : Inside) (now : Store) (cell place value pack : ℕ) (words : Vec ℕ Global) → word_store inside ≡ now → IsWords inside → place < length (elements_at now cell) → value < 2 ^ element_bits (pack_at now cell) → pack ≡ pack_in (get_or inside.words.items cell 0)
    → words.items ≡ set inside.words.items (cell + 2 + place / pack) (with_digit (element_bits pack) (place % pack) value (get_or inside.words.items (cell + 2 + place / pack) 0))
    → after ≡ record inside { words = words } → (word_store after ≡ put_by now cell place value) × IsWords after
put-done inside after now cell place value pack words view kept within fits is_pack written changed =
    let found = has_object now cell place within in
    let old = found.0 in
    let held = held-in inside now cell old view kept found.1 in
    let ws = inside.words.items in
    let own = pack_in (get_or ws cell 0) in
    let len : length (elements_at now cell) ≡ len_in (get_or ws (cell + 1) 0) = ap length (elements_at-some now cell old found.1) ∙ ap (λ o. length o.elements) (sym held.words_are) ∙ length-elements_in ws (cell + 2) own (len_in (get_or ws (cell + 1) 0)) in
    let below : place < len_in (get_or ws (cell + 1) 0) = omega arith in
    let same_pack : pack_at now cell ≡ own = pack_at-some now cell old found.1 ∙ ap (λ o. o.pack) (sym held.words_are) in
    let small : value < 2 ^ element_bits own = subst (λ p. value < 2 ^ element_bits p) same_pack fits in
    let small' : value < 2 ^ element_bits old.pack = subst (λ p. value < 2 ^ element_bits p) (pack_at-some now cell old found.1) fits in
    let written' : words.items ≡ set ws (cell + 2 + place / own) (with_digit (element_bits own) (place % own) value (get_or ws (cell + 2 + place / own) 0)) =
    written ∙ ap (λ p. set ws (cell + 2 + place / p) (with_digit (element_bits p) (place % p) value (get_or ws (cell + 2 + place / p) 0))) is_pack in
    let body = place-in-body place (len_in (get_or ws (cell + 1) 0)) own (IsPack-pack_in (get_or ws cell 0)) below in
    let at = get_within inside now cell place view kept within in
    let size = header_words ws cell old held.words_are in
    let done = overwritten inside after now cell (cell + 2 + place / own) (with_digit (element_bits own) (place % own) value (get_or ws (cell + 2 + place / own) 0)) old (with_element old place value) words view kept found.1 written' (omega arith) (omega (arith, held.fits))
    (object_from-set ws cell place value below at small ∙ ap (λ o. with_element o place value) held.words_are) (IsObject-with_element old place value held.object_fits small') refl (object_words-with_element old place value) changed in
    (done.0 ∙ sym (put_by-some now cell place value old found.1), done.1)

-- the parts of a second header word
pub len_in-extent_word : (len chain : ℕ) → len < 2 ^ 31 → len_in (extent_word len chain) ≡ len
len_in-extent_word len chain h = mod_low chain 31 len h

pub chain_in-extent_word : (len chain : ℕ) → len < 2 ^ 31 → chain < 2 ^ 32 → chain_in (extent_word len chain) ≡ chain
chain_in-extent_word len chain h small = ap (λ n. n % 2 ^ 32) (shr_high chain 31 len h) ∙ omega arith

-- the object after its chain was written
object_from-chain : (words : List ℕ) (cell chain : ℕ) → cell + 1 < length words → chain < 2 ^ 32 → object_from (set words (cell + 1) (extent_word (len_in (get_or words (cell + 1) 0)) chain)) cell ≡ with_chain (object_from words cell) chain
object_from-chain words cell chain within small =
    let len = len_in (get_or words (cell + 1) 0) in
    let fits : len < 2 ^ 31 = omega arith in
    let words' = set words (cell + 1) (extent_word len chain) in
    let first : get_or words' cell 0 ≡ get_or words cell 0 = get_or-set_other words (cell + 1) cell (extent_word len chain) 0 (λ e. absurd (omega arith)) in
    let second : get_or words' (cell + 1) 0 ≡ extent_word len chain = get_or-set_same words (cell + 1) (extent_word len chain) 0 within in
    let same_len : len_in (get_or words' (cell + 1) 0) ≡ len = ap len_in second ∙ len_in-extent_word len chain fits in
    let new_chain : chain_in (get_or words' (cell + 1) 0) ≡ chain = ap chain_in second ∙ chain_in-extent_word len chain fits small in
    let elements : elements_in words' (cell + 2) (pack_in (get_or words' cell 0)) (len_in (get_or words' (cell + 1) 0)) ≡ elements_in words (cell + 2) (pack_in (get_or words cell 0)) len =
    ap (λ w. elements_in words' (cell + 2) (pack_in w) (len_in (get_or words' (cell + 1) 0))) first
    ∙ ap (λ n. elements_in words' (cell + 2) (pack_in (get_or words cell 0)) n) same_len
    ∙ map-range-ext (element_in words' (cell + 2) (pack_in (get_or words cell 0))) (element_in words (cell + 2) (pack_in (get_or words cell 0))) len
    (λ place h. ap (λ w. digit (element_bits (pack_in (get_or words cell 0))) (place % pack_in (get_or words cell 0)) w) (get_or-set_other words (cell + 1) (cell + 2 + place / pack_in (get_or words cell 0)) (extent_word len chain) 0 (λ e. absurd (omega arith)))) in
    λ i. record { class = class_in (first i); birth = birth_in (first i); pack = pack_in (first i); fixed = is_fixed (first i); chain = new_chain i; elements = elements i }

pub set_chain-done : (inside after : Inside) (now : Store) (cell chain extent : ℕ) (words : Vec ℕ Global) → word_store inside ≡ now → IsWords inside → IsSome (object_at now cell) → chain < 2 ^ 32 → extent ≡ extent_word (len_in (get_or inside.words.items (cell + 1) 0)) chain
    → words.items ≡ set inside.words.items (cell + 1) extent → after ≡ record inside { words = words } → (word_store after ≡ chained_by now cell chain) × IsWords after
set_chain-done inside after now cell chain extent words view kept held small is written changed =
    let found = some-object (object_at now cell) held in
    let old = found.0 in
    let facts = held-in inside now cell old view kept found.1 in
    let ws = inside.words.items in
    let own = extent_word (len_in (get_or ws (cell + 1) 0)) chain in
    let wide : 2 ≤ object_words old = omega (arith, header_words ws cell old facts.words_are) in
    let done = overwritten inside after now cell (cell + 1) own old (with_chain old chain) words view kept found.1 (written ∙ ap (set ws (cell + 1)) is) (omega arith) (omega (arith, facts.fits))
    (object_from-chain ws cell chain (omega (arith, facts.extent, facts.fits)) small ∙ ap (λ o. with_chain o chain) facts.words_are) (IsObject-with_chain old chain facts.object_fits small) refl refl changed in
    (done.0 ∙ sym (chained_by-some now cell chain old found.1), done.1)

-- the second header word lies within the words
pub second_within : (inside : Inside) (now : Store) (cell : ℕ) → word_store inside ≡ now → IsWords inside → IsSome (object_at now cell) → cell + 1 < inside.words.len
second_within inside now cell view kept held =
    let found = some-object (object_at now cell) held in
    let facts = held-in inside now cell found.0 view kept found.1 in
    omega (arith, facts.extent, facts.fits, header_words inside.words.items cell found.0 facts.words_are, inside.words.ok.0)

pub chain_value : (inside : Inside) (now : Store) (cell : ℕ) → word_store inside ≡ now → IsWords inside → IsSome (object_at now cell) → chain_in (get_or inside.words.items (cell + 1) 0) ≡ chain_at now cell
chain_value inside now cell view kept held =
    let found = some-object (object_at now cell) held in
    let facts = held-in inside now cell found.0 view kept found.1 in
    sym (chain_at-some now cell found.0 found.1 ∙ ap (λ o. o.chain) (sym facts.words_are))

-- a write of the mark of a word
pub marks-set : (marks marks' : List ℕ) (cell mark : ℕ) → cell / 64 < length marks → mark < 2 → marks' ≡ set marks (cell / 64) (with_digit 1 (cell % 64) mark (get_or marks (cell / 64) 0)) → (q : ℕ) → mark_in marks' q ≡ cond (nat_eq q cell) mark (mark_in marks q)
marks-set marks marks' cell mark within bit written q = ap (λ all. mark_in all q) written ∙ mark_in-set marks cell mark q within bit

-- the mark of a held cell is there
pub mark_within : (inside : Inside) (now : Store) (cell : ℕ) (object : Object) → word_store inside ≡ now → IsWords inside → object_at now cell ≡ Some object → cell / 64 < length inside.marks.items
mark_within inside now cell object view kept held =
    let facts = held-in inside now cell object view kept held in
    omega (arith, facts.extent, facts.fits, header_words inside.words.items cell object facts.words_are, kept.marks_long)

pub free-done : (inside after : Inside) (now : Store) (cell k size : ℕ) (object : Object) (words marks : Vec ℕ Global) → word_store inside ≡ now → IsWords inside → object_at now cell ≡ Some object → 64 ≤ length inside.heads → k ≡ size_class_of object → size ≡ object_words object
    → words.items ≡ set inside.words.items cell (get_or inside.heads k 0) → marks.items ≡ set inside.marks.items (cell / 64) (with_digit 1 (cell % 64) 0 (get_or inside.marks.items (cell / 64) 0))
    → after ≡ record inside { words = words; marks = marks; heads = set inside.heads k cell; live = inside.live - size } → (word_store after ≡ without_object now cell object) × IsWords after
free-done inside after now cell k size object words marks view kept held room is_class is_size written marked changed =
    let facts = held-in inside now cell object view kept held in
    let ws = inside.words.items in
    let wide = header_words ws cell object facts.words_are in
    let last : IsLastReused now = subst (λ s. IsLastReused s) view kept.last_reused in
    let sound : IsSound now = subst (λ s. IsSound s) view kept.sound in
    let keeps : Keeps ws inside.marks.items inside.heads now = subst (λ s. Keeps ws inside.marks.items inside.heads s) view kept.keeps in
    let first : get_or words.items cell 0 ≡ get_or inside.heads (size_class_of object) 0 = ap (λ all. get_or all cell 0) written ∙ get_or-set_same ws cell (get_or inside.heads k 0) 0 (omega (arith, facts.extent, facts.fits)) ∙ ap (λ n. get_or inside.heads n 0) is_class in
    let outside : SameOutside ws words.items cell (size_class_of object) = λ i out. ap (λ all. get_or all i 0) written ∙ set-outside ws cell (size_class_of object) cell (get_or inside.heads k 0) (omega arith) (omega (arith, facts.fits)) i out in
    let next = Keeps-without_object ws words.items inside.marks.items marks.items inside.heads now cell object keeps last sound held room (ap length written ∙ length-set ws cell (get_or inside.heads k 0)) outside first
    (marks-set inside.marks.items marks.items cell 0 (mark_within inside now cell object view kept held) (omega arith) marked) in
    let all : Keeps words.items marks.items (set inside.heads k cell) (without_object now cell object) = subst (λ n. Keeps words.items marks.items (set inside.heads n cell) (without_object now cell object)) (sym is_class) next in
    let live : inside.live ≡ live_words now = kept.live_is ∙ ap live_words view in
    let done = IsWords-is (record inside { words = words; marks = marks; heads = set inside.heads k cell; live = inside.live - size }) (without_object now cell object) all (IsLastReused-without_object now cell object last held) (IsSound-without_object now cell object sound held)
    (ap (λ s. s.made) view) (ap (λ s. s.budget) view) (ap (λ s. s.limit) view) (ap (λ s. s.births) view) (ap (λ s. s.peak) view)
    (omega (arith, live_words-without_object now cell object held)) kept.limit_fits
    (omega (arith, kept.marks_long, ap length written, length-set ws cell (get_or inside.heads k 0), ap length marked, length-set inside.marks.items (cell / 64) (with_digit 1 (cell % 64) 0 (get_or inside.marks.items (cell / 64) 0)))) in
    (ap word_store changed ∙ done.0, subst (λ a. IsWords a) (sym changed) done.1)

-- the words of a held object are among the live words
pub size-le-live : (inside : Inside) (now : Store) (cell size : ℕ) (object : Object) → word_store inside ≡ now → IsWords inside → object_at now cell ≡ Some object → size ≡ object_words object → size ≤ inside.live
size-le-live inside now cell size object view kept held is =
    let live : inside.live ≡ live_words now = kept.live_is ∙ ap live_words view in
    omega (arith, live_words-without_object now cell object held)

-- a cell whose mark was found is held
pub held-found : (inside : Inside) (now : Store) (cell : ℕ) (marks : List ℕ) → word_store inside ≡ now → IsWords inside → marks ≡ inside.marks.items → mark_in marks cell ≡ 1 → object_at now cell ≡ Some (object_from inside.words.items cell)
held-found inside now cell marks view kept same mark = held-marked inside now cell view kept (ap (λ all. mark_in all cell) (sym same) ∙ mark)

-- the first header word lies within the words
pub first_within : (inside : Inside) (now : Store) (cell : ℕ) → word_store inside ≡ now → IsWords inside → IsSome (object_at now cell) → cell < inside.words.len
first_within inside now cell view kept held = omega (arith, second_within inside now cell view kept held)

-- a word that was read is the one at the index
pub word-read : (words : Vec ℕ Global) (at value : ℕ) → at < words.len → value ≡ slice_index_or words.items at value → value ≡ get_or words.items at 0
word-read words at value h read = read ∙ get_or_default words.items at value 0 (omega (arith, words.ok.0))

-- a marked cell isn't null
pub marked-above : (inside : Inside) (now : Store) (cell : ℕ) (object : Object) → word_store inside ≡ now → IsWords inside → object_at now cell ≡ Some object → cell ≢ 0
marked-above inside now cell object view kept held = λ null. let facts = held-in inside now cell object view kept held in absurd (omega (arith, facts.above))

-- a pack that a header says, at most as many elements, and the words of the object
pub header_class : (inside : Inside) (now : Store) (cell : ℕ) → word_store inside ≡ now → IsWords inside → object_at now cell ≡ Some (object_from inside.words.items cell) → size_class (packed_words (len_in (get_or inside.words.items (cell + 1) 0)) (pack_in (get_or inside.words.items cell 0))) < 64
header_class inside now cell view kept held =
    let facts = held-in inside now cell (object_from inside.words.items cell) view kept held in
    subst (λ n. size_class n < 64) (sym (header_words inside.words.items cell (object_from inside.words.items cell) refl)) (size_class_of-lt (object_from inside.words.items cell))

-- the head that was read from the words of a cell is that of its object
pub same_head : (words : List ℕ) (cell class birth len pack : ℕ) (fixed : Bool) → class ≡ class_in (get_or words cell 0) → birth ≡ birth_in (get_or words cell 0) → len ≡ len_in (get_or words (cell + 1) 0) → pack ≡ pack_in (get_or words cell 0) → fixed ≡ is_fixed (get_or words cell 0)
    → ◌≡◌ {A = Option Head} (Some (record { class = class; birth = birth; len = len; pack = pack; fixed = fixed })) (Some (head_of (object_from words cell)))
same_head words cell class birth len pack fixed is_class is_birth is_len is_pack same_fixed =
    let count : len ≡ length (elements_in words (cell + 2) (pack_in (get_or words cell 0)) (len_in (get_or words (cell + 1) 0))) = is_len ∙ sym (length-elements_in words (cell + 2) (pack_in (get_or words cell 0)) (len_in (get_or words (cell + 1) 0))) in
    λ i. Some (record { class = is_class i; birth = is_birth i; len = count i; pack = is_pack i; fixed = same_fixed i })

-- the pack of the object is the one that the header says
pub pack_is_own : (inside : Inside) (now : Store) (cell place : ℕ) → word_store inside ≡ now → IsWords inside → place < length (elements_at now cell) → pack_at now cell ≡ pack_in (get_or inside.words.items cell 0)
pack_is_own inside now cell place view kept within =
    let found = has_object now cell place within in
    let facts = held-in inside now cell found.0 view kept found.1 in
    pack_at-some now cell found.0 found.1 ∙ ap (λ o. o.pack) (sym facts.words_are)

-- the words that were counted from a header are those of its object, and so is the size class
pub size_from : (inside : Inside) (now : Store) (cell first second len pack size : ℕ) → word_store inside ≡ now → IsWords inside → object_at now cell ≡ Some (object_from inside.words.items cell)
    → first ≡ slice_index_or inside.words.items cell first → second ≡ slice_index_or inside.words.items (cell + 1) second → len ≡ len_in second → pack ≡ pack_in first → size ≡ packed_words len pack → size ≡ object_words (object_from inside.words.items cell)
size_from inside now cell first second len pack size view kept held read_first read_second is_len is_pack is =
    let some = held_if (object_at now cell) (object_from inside.words.items cell) held in
    let one = word-read inside.words cell first (first_within inside now cell view kept some) read_first in
    let two = word-read inside.words (cell + 1) second (second_within inside now cell view kept some) read_second in
    is ∙ ap (λ n. packed_words n pack) (is_len ∙ ap len_in two) ∙ ap (packed_words (len_in (get_or inside.words.items (cell + 1) 0))) (is_pack ∙ ap pack_in one) ∙ header_words inside.words.items cell (object_from inside.words.items cell) refl

pub class_from : (inside : Inside) (now : Store) (cell size class : ℕ) → word_store inside ≡ now → IsWords inside → object_at now cell ≡ Some (object_from inside.words.items cell) → size ≡ object_words (object_from inside.words.items cell) → class ≡ size_class size → class < 64
class_from inside now cell size class view kept held is_size is =
    let facts = held-in inside now cell (object_from inside.words.items cell) view kept held in
    subst (λ n. n < 64) (sym (is ∙ ap size_class is_size)) (size_class_of-lt (object_from inside.words.items cell))
