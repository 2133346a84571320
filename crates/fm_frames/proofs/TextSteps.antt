-- Texts are made: what is asked of the memory, and what follows for each result.
use Rattle.std.proofs.Common.{◌≡◌, ◌≢◌, ℕ, ◌+◌, ◌<◌, ◌≤◌, min, ◌^◌, ◌==◌, nat_lt, Bool, true, false, cond, List, [], ◌∷◌, length, Option, Some, None, unwrap_or, refl, ap, sym, ◌∙◌, subst, arith}
use Rattle.std.proofs.lemmas.Bool.{eq-eqb, ne_eqb}
use Rattle.std.proofs.lemmas.Option.{none-some}
use Rattle.std.proofs.lemmas.List.{length-replicate}
use Rattle.fm_base.specs.declared.kinds.Kind.{Kind}
use Rattle.fm_base.specs.declared.kinds.TypeRef.{TypeRef}
use Rattle.fm_cells.proofs.Changes.{object_at-made_by, object_at-with_object}
use Rattle.fm_cells.proofs.Elements.{pack_at-some}
use Rattle.fm_cells.specs.Changes.{made_by, Take}
use Rattle.fm_cells.specs.Objects.{new_object, Object, Request, request_of}
use Rattle.fm_cells.specs.Sizes.{element_bits, packed_words}
use Rattle.fm_cells.specs.Stores.{object_at, Store}
use Rattle.fm_cells.specs.declared.answers.Cell.{Cell}
use Rattle.fm_frames.proofs.Contents.{content_in}
use Rattle.fm_frames.proofs.Programs.{class_literal-is, pack-is, string-is}
use Rattle.fm_frames.proofs.Underways.{ended-one, made-next, put-next, told-whole}
use Rattle.fm_frames.specs.Acts.{Choose, literal_type, put_value, requested, with_content}
use Rattle.fm_frames.specs.Effects.{Effect, OfMade, OfOperand, Plain, Put, making, words}
use Rattle.fm_frames.specs.Elements.{pack_of}
use Rattle.fm_frames.specs.NativeRows.{class_type, has_text, text_kind, text_made, text_type}
use Rattle.fm_frames.specs.Runnable.{IsRunnable}
use Rattle.fm_frames.specs.States.{Areas, ref, silent, State, word_at}
use Rattle.fm_frames.specs.Steps.{attempted, most_words, stack_of, words_made}
use Rattle.fm_frames.specs.declared.values.Value.TheVariants as value
use Rattle.fm_frames.specs.inner.Doings.{DoesIn, IsReady, Makes, NextFits, Underway}
use Rattle.fm_frames.specs.inner.Places.{FitsIn, IsWide, TakesUnits}
use Rattle.fm_world.specs.BuiltIns.{class_literal_class}
use Rattle.fm_world.specs.Numbers.{type_number, type_of_class}
use Rattle.fm_world.specs.Programs.{Program}

-- ---- requests to the memory

pub text-pack : (p : Program) → IsRunnable p → pack_of p.outline (text_type p.outline) ≡ 4
text-pack p runnable =
    ap (pack_of p.outline) (string-is p.outline runnable.given runnable.classes) ∙ sym (pack-is p (type_of_class 1) runnable)

-- so are class literals packed, and so each literal
pub class-pack : (p : Program) → IsRunnable p → pack_of p.outline (class_type p.outline) ≡ 4
class-pack p runnable =
    ap (pack_of p.outline) (class_literal-is p.outline runnable.given runnable.classes) ∙ sym (pack-is p (type_of_class class_literal_class) runnable)

pub literal-pack : (p : Program) (literal : ℕ) → IsRunnable p → pack_of p.outline (literal_type p.outline literal) ≡ 4
literal-pack p literal runnable = by_text (nat_lt literal (length p.outline.texts)) where
  by_text : (b : Bool) → pack_of p.outline (cond b (text_type p.outline) (class_type p.outline)) ≡ 4
  by_text true = text-pack p runnable
  by_text false = class-pack p runnable

pub kept-request : (p : Program) (id class len : ℕ) (fixed : Bool) (t : TypeRef) → id ≡ unwrap_or (type_number p.outline.types (type_of_class class)) 0
    → t ≡ type_of_class class → pack_of p.outline t ≡ 4 → requested p.outline t len fixed ≡ request_of id len 4 fixed
kept-request p id class len fixed t number is pack =
    let n : unwrap_or (type_number p.outline.types t) 0 ≡ id = ap (λ t. unwrap_or (type_number p.outline.types t) 0) is ∙ sym number in
    λ i. request_of (n i) len (pack i) fixed

pub text-words : (p : Program) (x : Areas) (units : List ℕ) → IsRunnable p → packed_words (length units) 4 ≤ most_words
    → words_made p.outline x (text_made p.outline units ∷ []) ≡ packed_words (length units) 4
text-words p x units runnable few =
    let words : packed_words (length units) (pack_of p.outline (text_type p.outline)) ≡ packed_words (length units) 4 =
    ap (packed_words (length units)) (text-pack p runnable) in
    let more : packed_words (length units) (pack_of p.outline (text_type p.outline)) + 0
    ≡ packed_words (length units) (pack_of p.outline (text_type p.outline)) = omega arith in
    ap (λ n. min n most_words) (more ∙ words) ∙ told-whole (packed_words (length units) 4) few

pub kept-words : (p : Program) (x : Areas) (operand : ℕ) (units : List ℕ) → IsRunnable p → packed_words (length units) 4 ≤ most_words
    → words_made p.outline x (has_text p.outline operand units) ≡ packed_words (length units) 4
kept-words p x operand units runnable few =
    let words : packed_words (length units) (pack_of p.outline (text_type p.outline)) ≡ packed_words (length units) 4 =
    ap (packed_words (length units)) (text-pack p runnable) in
    let more : packed_words (length units) (pack_of p.outline (text_type p.outline)) + (0 + 0)
    ≡ packed_words (length units) (pack_of p.outline (text_type p.outline)) = omega arith in
    ap (λ n. min n most_words) (more ∙ words) ∙ told-whole (packed_words (length units) 4) few

-- ---- the object that is made

pub made-takes : (choose : Choose) (x y : State) (class : ℕ) (fixed : Bool) (units : List ℕ) (cell : Cell)
    → Makes choose x y (request_of class (length units) 4 fixed) [] (Some cell) → TakesUnits y.areas.store cell.0 units
made-takes choose x y class fixed units cell (grows, taken, free, is) =
    let r = request_of class (length units) 4 fixed in
    let object = new_object x.areas.store.births r in (
      object,
      ap (λ (y : State). object_at y.areas.store cell.0) is
          ∙ object_at-made_by x.areas.store r cell.0 grows cell.0
          ∙ ap (λ (b : Bool). cond b (Some object) (object_at x.areas.store cell.0)) (eq-eqb cell.0 cell.0 refl),
      length-replicate (length units) 0,
      refl,
    )

pub made-written : (choose : Choose) (x y z : State) (r : Request) (units : List ℕ) (cell : Cell) → Makes choose x y r [] (Some cell)
    → z ≡ record y { areas = record y.areas { store = with_content y.areas.store cell.0 units } } → Makes choose x z r units (Some cell)
made-written choose x y z r units cell (grows, taken, free, is) written =
    (grows, taken, free, written ∙ ap (λ (y : State). record y { areas = record y.areas { store = with_content y.areas.store cell.0 units } }) is)

-- ---- what stays

pub ready-after : (x y : State) → IsReady x → y ≡ record x { areas = y.areas } → IsReady y
ready-after x y ready same = subst (λ (y : State). IsReady y) (sym same) (record { next_fits = ready.next_fits; step_fits = ready.step_fits })

-- ---- the object that keeps a text

other-content : (store : Store) (text cell : ℕ) (units : List ℕ) → (cell == text) ≡ false → object_at (with_content store text units) cell ≡ object_at store cell
other-content store text cell [] other = refl
other-content store text cell (u ∷ units) other = by_object (object_at store text) refl where
  by_object : (object : Option Object) → object_at store text ≡ object → object_at (with_content store text (u ∷ units)) cell ≡ object_at store cell
  by_object None at = ap (λ o. object_at (content_in store text (u ∷ units) o) cell) at
  by_object (Some object) at =
      ap (λ o. object_at (content_in store text (u ∷ units) o) cell) at
      ∙ object_at-with_object store text (record object { elements = u ∷ units }) cell
      ∙ ap (λ b. cond b (Some (record object { elements = u ∷ units })) (object_at store cell)) other

-- an object stays where a text is made in a cell that wasn't held
pub wide-after : (choose : Choose) (x z : State) (r : Request) (units : List ℕ) (text : Cell) (cell : ℕ) → IsWide x.areas.store cell
    → Makes choose x z r units (Some text) → IsWide z.areas.store cell
wide-after choose x z r units text cell (object, held, pack) (grows, taken, free, is) =
    let other : cell ≢ text.0 = λ same. none-some _ (sym free ∙ ap (object_at x.areas.store) (sym same) ∙ held) in
    let apart : (cell == text.0) ≡ false = ne_eqb cell text.0 other in
    let new = new_object x.areas.store.births r in (
      object,
      ap (λ (z : State). object_at z.areas.store cell) is
          ∙ other-content (made_by x.areas.store r (Take text.0 grows)) text.0 cell units apart
          ∙ object_at-made_by x.areas.store r text.0 grows cell
          ∙ ap (λ b. cond b (Some new) (object_at x.areas.store cell)) apart
          ∙ held,
      pack,
    )

-- and any reference can be put into it
pub wide-fits : (store : Store) (cell : ℕ) (own : Kind) (text : Cell) → IsWide store cell → text.0 < 2 ^ 32 → FitsIn store cell own (value.Ref text)
wide-fits store cell own text (object, held, pack) small =
    subst (λ n. text.0 < 2 ^ element_bits n) (sym (pack_at-some store cell object held ∙ pack)) (omega arith)

-- ---- whole steps

pub given-text : (p : Program) (choose : Choose) (x y z w : State) (takes : ℕ) (units : List ℕ) (text : Cell) → NextFits x.frames
    → Underway p choose x y (making takes (text_made p.outline units)) [] (text_made p.outline units ∷ [])
    → Makes choose y z (requested p.outline (text_type p.outline) (length units) false) units (Some text)
    → silent w ≡ attempted p choose z (words takes (Plain (ref text.0) ∷ []))
    → DoesIn p choose x w (making takes (text_made p.outline units))
given-text p choose x y z w takes units text fits so makes given =
    ended-one p choose x z w (text.0 ∷ []) takes (text_made p.outline units ∷ []) (OfMade 0) (ref text.0) fits refl
    (made-next p choose x y z (making takes (text_made p.outline units)) [] (text_type p.outline) (length units) units [] text so makes)
    refl given

pub text-kept : (p : Program) (choose : Choose) (x y z w : State) (e : Effect) (operand : ℕ) (units : List ℕ) (text : Cell) (cell : ℕ) (own : Kind)
    → Underway p choose x y e [] (has_text p.outline operand units)
    → Makes choose y z (requested p.outline (text_type p.outline) (length units) false) units (Some text)
    → word_at (stack_of x) operand ≡ ref cell
    → w ≡ record z { areas = put_value z.areas (ref cell) 0 own (ref text.0) }
    → Underway p choose x w e (text.0 ∷ []) []
text-kept p choose x y z w e operand units text cell own so makes at is =
    put-next p choose x z w e (text.0 ∷ []) (OfOperand operand) (OfMade 0) cell 0 (text_kind p.outline) (ref text.0) []
    (made-next p choose x y z e [] (text_type p.outline) (length units) units
    (Put (OfOperand operand) 0 (text_kind p.outline) (OfMade 0) ∷ []) text so makes)
    at refl is

ready-in : (x : State) (areas : Areas) → IsReady x → IsReady (record x { areas = areas })
ready-in x areas ready = record { next_fits = ready.next_fits; step_fits = ready.step_fits }

-- a machine that can count a step still can, once a text is made and put
pub kept-ready : (choose : Choose) (x y z w : State) (r : Request) (units : List ℕ) (text : Cell) (areas : Areas) → IsReady x → y ≡ x
    → Makes choose y z r units (Some text) → w ≡ record z { areas = areas } → IsReady w
kept-ready choose x y z w r units text areas ready same (grows, taken, free, is) put =
    let P : State → Type 0 = λ x. IsReady x in
    subst P (sym put)
    (ready-in z areas
    (subst P (sym is)
    (ready-in y (record y.areas { store = with_content (made_by y.areas.store r (Take text.0 grows)) text.0 units }) (subst P (sym same) ready))))

pub made-ready : (choose : Choose) (x y z : State) (r : Request) (units : List ℕ) (text : Cell) → IsReady x → y ≡ x
    → Makes choose y z r units (Some text) → IsReady z
made-ready choose x y z r units text ready same makes = kept-ready choose x y z z r units text z.areas ready same makes refl
