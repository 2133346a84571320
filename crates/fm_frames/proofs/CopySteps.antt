-- An object is copied: its elements are put into a new one of its type, one after the other.
use Rattle.std.proofs.Common.{◌≡◌, ◌≢◌, ℕ, ◌+◌, ◌<◌, ◌≤◌, ◌-◌, min, ◌==◌, Bool, false, cond, List, [], ◌∷◌, length, take, drop, Option, Some, None, get_or, unwrap_or, option_map, slice_index, refl, ap, sym, ◌∙◌, subst, arith}
use Rattle.std.proofs.lemmas.Bool.{eq-eqb, ne_eqb}
use Rattle.std.proofs.lemmas.Option.{none-some}
use Rattle.std.proofs.lemmas.List.{length-append, length-drop, length-replicate, length-take}
use Rattle.fm_base.proofs.OptionFacts.{option_map-some}
use Rattle.fm_base.specs.declared.kinds.TypeRef.{TypeRef}
use Rattle.fm_cells.proofs.Changes.{object_at-made_by, object_at-with_object}
use Rattle.fm_cells.proofs.Elements.{elements_at-some, pack_at-some}
use Rattle.fm_cells.specs.Answers.{head_at, head_of}
use Rattle.fm_cells.specs.Changes.{put_by}
use Rattle.fm_cells.specs.Objects.{new_object, Object, Request, request_of}
use Rattle.fm_cells.specs.Sizes.{packed_words}
use Rattle.fm_cells.specs.Stores.{elements_at, object_at, pack_at, Store}
use Rattle.fm_cells.specs.declared.answers.Cell.{Cell}
use Rattle.fm_cells.specs.declared.answers.Head.{Head}
use Rattle.fm_frames.proofs.Contents.{elements_of, get-inserted, with_elements, with_units, written-all, written-held, written-next, written-start, written_in}
use Rattle.fm_frames.proofs.Resized.{resized-all}
use Rattle.fm_frames.proofs.TextSteps.{made-written}
use Rattle.fm_frames.proofs.Underways.{copied-next, ended-one, told-whole}
use Rattle.fm_frames.specs.Acts.{cell_of, Choose, copied, requested, with_content}
use Rattle.fm_frames.specs.Effects.{Copy, OfMade, Plain, making, words}
use Rattle.fm_frames.specs.Elements.{pack_of}
use Rattle.fm_frames.specs.States.{Areas, ref, silent, State, word_at}
use Rattle.fm_frames.specs.Steps.{attempted, most_words, stack_of, words_made}
use Rattle.fm_frames.specs.inner.Doings.{DoesIn, Makes, NextFits, Underway}
use Rattle.fm_frames.specs.inner.Places.{TakesCopy, TakesElements, written_units}
use Rattle.fm_world.specs.Programs.{Program}

-- ---- elements

-- what lies in another cell stays
others-stay : (store : Store) (cell other : ℕ) (elements : List ℕ) (count : ℕ) → (other == cell) ≡ false
    → object_at (written_units store cell elements count) other ≡ object_at store other
others-stay store cell other elements count apart = by_object (object_at store cell) where
  by_object : (found : Option Object) → object_at (written_in store cell elements count found) other ≡ object_at store other
  by_object None = refl
  by_object (Some object) =
      let now : Object = with_elements object (elements_of object elements count) in
      object_at-with_object store cell now other ∙ ap (λ b. cond b (Some now) (object_at store other)) apart

elements-stay : (store later : Store) (cell : ℕ) → object_at later cell ≡ object_at store cell → elements_at later cell ≡ elements_at store cell
elements-stay store later cell same = ap (λ found. unwrap_or (option_map (λ (object : Object). object.elements) found) []) same

copy-taken : (store : Store) (from to : ℕ) → TakesCopy store from to → TakesElements store to (elements_at store from)
copy-taken store from to (object, held, copy, there, len, pack) = (copy, there, len ∙ sym (ap length (elements_at-some store from object held)))

-- the copy goes on taking elements
copying : (store : Store) (from to k : ℕ) → (from == to) ≡ false → TakesCopy store from to → k ≤ length (elements_at store from)
    → TakesCopy (written_units store to (elements_at store from) k) from to
copying store from to k apart (object, held, copy, there, len, pack) within =
    let elements = elements_at store from in
    let now : Object = with_elements copy (elements_of copy elements k) in
    let many : length elements ≡ length object.elements = ap length (elements_at-some store from object held) in
    let same : length (elements_of copy elements k) ≡ length object.elements =
    omega (arith, length-append (take k elements) (drop k copy.elements), length-take k elements, length-drop k copy.elements, many, len, within) in (
      object,
      others-stay store to from elements k apart ∙ held,
      now,
      ap (λ s. object_at s to) (written-held store to elements k copy there) ∙ get-inserted store.held to now,
      same,
      pack,
    )

-- ---- a machine that copies elements

-- the elements before this place are copied
abbrev pub with_copied : State → (from to count : ℕ) → State
with_copied x from to count = with_units x to (elements_at x.areas.store from) count

pub copies-start : (x : State) (from to : ℕ) → TakesCopy x.areas.store from to → x ≡ with_copied x from to 0
copies-start x from to takes =
    ap (λ s. record x { areas = record x.areas { store = s } })
    (sym (written-start x.areas.store to (elements_at x.areas.store from) (copy-taken x.areas.store from to takes)))

-- what one more element requires
pub copies-there : (x y : State) (from to k : ℕ) → (from == to) ≡ false → TakesCopy x.areas.store from to → k < length (elements_at x.areas.store from)
    → y ≡ with_copied x from to k
    → (k < length (elements_at y.areas.store from)) × (k < length (elements_at y.areas.store to)) × (pack_at y.areas.store from ≡ pack_at y.areas.store to)
copies-there x y from to k apart takes within is =
    let store = x.areas.store in
    let now : Store = written_units store to (elements_at store from) k in
    let (object, held, copy, there, len, pack) = copying store from to k apart takes (omega (arith, within)) in
    let same : elements_at now from ≡ elements_at store from = elements-stay store now from (others-stay store to from (elements_at store from) k apart) in
    let first : length (elements_at now from) ≡ length object.elements = ap length (elements_at-some now from object held) in
    let second : length (elements_at now to) ≡ length copy.elements = ap length (elements_at-some now to copy there) in
    subst (λ (s : Store). (k < length (elements_at s from)) × (k < length (elements_at s to)) × (pack_at s from ≡ pack_at s to))
    (sym (ap (λ (y : State). y.areas.store) is)) (
      omega (arith, within, ap length same),
      omega (arith, within, ap length same, first, second, len),
      pack_at-some now from object held ∙ sym pack ∙ sym (pack_at-some now to copy there),
    )

pub copies-next : (x y z : State) (from to k : ℕ) → (from == to) ≡ false → TakesCopy x.areas.store from to → k < length (elements_at x.areas.store from)
    → y ≡ with_copied x from to k
    → z ≡ record y { areas = record y.areas { store = put_by y.areas.store to k (slice_index (elements_at y.areas.store from) k) } }
    → z ≡ with_copied x from to (k + 1)
copies-next x y z from to k apart takes within before after =
    let store = x.areas.store in
    let elements = elements_at store from in
    let now : Store = written_units store to elements k in
    let element : get_or (elements_at now from) k 0 ≡ get_or elements k 0 =
    ap (λ (xs : List ℕ). get_or xs k 0) (elements-stay store now from (others-stay store to from elements k apart)) in
    after
    ∙ ap (λ (y : State). record y { areas = record y.areas { store = put_by y.areas.store to k (slice_index (elements_at y.areas.store from) k) } }) before
    ∙ ap (λ s. record x { areas = record x.areas { store = s } })
    (written-next store to elements k (get_or (elements_at now from) k 0) (copy-taken store from to takes) within element)

pub copies-all : (x y : State) (from to k : ℕ) → TakesCopy x.areas.store from to → k ≡ length (elements_at x.areas.store from) → y ≡ with_copied x from to k
    → y ≡ record x { areas = record x.areas { store = with_content x.areas.store to (elements_at x.areas.store from) } }
copies-all x y from to k takes all is =
    is ∙ ap (with_copied x from to) all
    ∙ ap (λ s. record x { areas = record x.areas { store = s } })
    (written-all x.areas.store to (elements_at x.areas.store from) (copy-taken x.areas.store from to takes))

-- ---- the object that is made

-- the object of a head
pub object-of : (store : Store) (cell : ℕ) (head : Head) → head_at store cell ≡ Some head
    → (object : Object) × (object_at store cell ≡ Some object) × (head_of object ≡ head)
object-of store cell head is = option_map-some head_of (object_at store cell) head is

-- a new object lies in another cell
copy-apart : (choose : Choose) (x z : State) (r : Request) (from : ℕ) (copy : Cell) (object : Object) → object_at x.areas.store from ≡ Some object
    → Makes choose x z r [] (Some copy) → (from == copy.0) ≡ false
copy-apart choose x z r from copy object held (grows, taken, free, is) =
    let other : from ≢ copy.0 = λ same. none-some _ (sym free ∙ ap (object_at x.areas.store) (sym same) ∙ held) in ne_eqb from copy.0 other

-- and the other objects stay
copy-held : (choose : Choose) (x z : State) (r : Request) (from : ℕ) (copy : Cell) (object : Object) → object_at x.areas.store from ≡ Some object
    → Makes choose x z r [] (Some copy) → object_at z.areas.store from ≡ Some object
copy-held choose x z r from copy object held made =
    let apart = copy-apart choose x z r from copy object held made in
    let (grows, taken, free, is) = made in
    ap (λ (z : State). object_at z.areas.store from) is
    ∙ object_at-made_by x.areas.store r copy.0 grows from
    ∙ ap (λ b. cond b (Some (new_object x.areas.store.births r)) (object_at x.areas.store from)) apart
    ∙ held

-- what the copying of elements requires
pub copy-takes : (choose : Choose) (x y z : State) (class len pack from : ℕ) (head : Head) (copy : Cell) → y ≡ x → head_at x.areas.store from ≡ Some head
    → head.len ≡ len → head.pack ≡ pack → Makes choose y z (request_of class len pack false) [] (Some copy)
    → ((from == copy.0) ≡ false) × TakesCopy z.areas.store from copy.0 × (len ≡ length (elements_at z.areas.store from))
copy-takes choose x y z class len pack from head copy same at many packed made =
    let r = request_of class len pack false in
    let (object, held, head_is) = object-of x.areas.store from head at in
    let there : object_at y.areas.store from ≡ Some object = ap (λ (y : State). object_at y.areas.store from) same ∙ held in
    let stays : object_at z.areas.store from ≡ Some object = copy-held choose y z r from copy object there made in
    let (grows, taken, free, is) = made in
    let object_len : length object.elements ≡ len = ap (λ (h : Head). h.len) head_is ∙ many in
    let object_pack : object.pack ≡ pack = ap (λ (h : Head). h.pack) head_is ∙ packed in
    let new = new_object y.areas.store.births r in
    let made_there : object_at z.areas.store copy.0 ≡ Some new =
    ap (λ (z : State). object_at z.areas.store copy.0) is ∙ object_at-made_by y.areas.store r copy.0 grows copy.0
    ∙ ap (λ (b : Bool). cond b (Some new) (object_at y.areas.store copy.0)) (eq-eqb copy.0 copy.0 refl) in (
      copy-apart choose y z r from copy object there made,
      (object, stays, new, made_there, length-replicate len 0 ∙ sym object_len, sym object_pack),
      sym (ap length (elements_at-some z.areas.store from object stays) ∙ object_len),
    )

-- ---- whole steps

-- the words of a copy
pub copy-words : (p : Program) (x : Areas) (t : TypeRef) (len operand pack : ℕ) → pack ≡ pack_of p.outline t → packed_words len pack ≤ most_words
    → words_made p.outline x (Copy t len operand ∷ []) ≡ packed_words len pack
copy-words p x t len operand pack is few =
    let same : packed_words len (pack_of p.outline t) ≡ packed_words len pack = ap (packed_words len) (sym is) in
    let more : packed_words len (pack_of p.outline t) + 0 ≡ packed_words len (pack_of p.outline t) = omega arith in
    ap (λ n. min n most_words) (more ∙ same) ∙ told-whole (packed_words len pack) few

-- the content of the copy is that of the object
pub copy-made : (choose : Choose) (x y z w : State) (r : Request) (from len operand : ℕ) (head : Head) (copy : Cell) → y ≡ x
    → head_at x.areas.store from ≡ Some head → head.len ≡ len → word_at (stack_of x) operand ≡ ref from → Makes choose y z r [] (Some copy)
    → w ≡ record z { areas = record z.areas { store = with_content z.areas.store copy.0 (elements_at z.areas.store from) } }
    → Makes choose y w r (copied y.areas.store (cell_of (word_at (stack_of x) operand)) len) (Some copy)
copy-made choose x y z w r from len operand head copy same at many word made written =
    let (object, held, head_is) = object-of x.areas.store from head at in
    let there : object_at y.areas.store from ≡ Some object = ap (λ (y : State). object_at y.areas.store from) same ∙ held in
    let stays : object_at z.areas.store from ≡ Some object = copy-held choose y z r from copy object there made in
    let before : elements_at y.areas.store from ≡ object.elements = elements_at-some y.areas.store from object there in
    let all : length (elements_at y.areas.store from) ≡ len = ap length before ∙ ap (λ (h : Head). h.len) head_is ∙ many in
    let content : elements_at z.areas.store from ≡ copied y.areas.store (cell_of (word_at (stack_of x) operand)) len =
    elements_at-some z.areas.store from object stays ∙ sym before ∙ sym (resized-all (elements_at y.areas.store from) len all)
    ∙ ap (λ v. copied y.areas.store (cell_of v) len) (sym word) in
    subst (λ elements. Makes choose y w r elements (Some copy)) content
    (made-written choose y z w r (elements_at z.areas.store from) copy made written)

pub given-copy : (p : Program) (choose : Choose) (x y z w : State) (takes : ℕ) (t : TypeRef) (len operand : ℕ) (copy : Cell) → NextFits x.frames
    → Underway p choose x y (making takes (Copy t len operand)) [] (Copy t len operand ∷ [])
    → Makes choose y z (requested p.outline t len false) (copied y.areas.store (cell_of (word_at (stack_of x) operand)) len) (Some copy)
    → silent w ≡ attempted p choose z (words takes (Plain (ref copy.0) ∷ []))
    → DoesIn p choose x w (making takes (Copy t len operand))
given-copy p choose x y z w takes t len operand copy fits so makes given =
    ended-one p choose x z w (copy.0 ∷ []) takes (Copy t len operand ∷ []) (OfMade 0) (ref copy.0) fits refl
    (copied-next p choose x y z (making takes (Copy t len operand)) [] t len operand [] copy so makes)
    refl given
