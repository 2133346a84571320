-- Objects that have a text in a hidden field: what is seen of them, and that they have that field.
use Rattle.std.proofs.Common.{◌≡◌, ℕ, zero, suc, ◌==◌, ◌||◌, ◌⊎◌, inl, inr, Bool, true, false, nat_eq, if◌then◌else◌, List, [], ◌∷◌, length, take, Option, Some, None, Ok, Err, option_map, unwrap_or, refl, ap, sym, ◌∙◌, arith}
use Rattle.std.specs.List.{list_any, slice_index_or}
use Rattle.std.proofs.lemmas.Bool.{eqb-true, false≢true, or_cases}
use Rattle.std.proofs.lemmas.List.{take_all}
use Rattle.fm_base.specs.declared.kinds.TypeRef.{TypeRef}
use Rattle.fm_cells.specs.Answers.{head_at, head_of}
use Rattle.fm_cells.specs.Objects.{Object}
use Rattle.fm_cells.specs.Stores.{elements_at, object_at, Store}
use Rattle.fm_cells.specs.declared.answers.Cell.{Cell}
use Rattle.fm_cells.specs.declared.answers.Head.{Head}
use Rattle.fm_frames.proofs.BuiltInTypes.{IsBelow}
use Rattle.fm_frames.specs.Effects.{Effect, faulty}
use Rattle.fm_frames.specs.Elements.{is_text_type}
use Rattle.fm_frames.specs.NativeRows.{is_builder}
use Rattle.fm_frames.specs.Operands.{on_inner, on_inner_of, thrown_null}
use Rattle.fm_frames.specs.Sights.{has_hidden_field, led_to, looks, Looks, Lost, NoField, Sight, Text as Units, text_in, type_numbered}
use Rattle.fm_native.specs.declared.asked.Held.{Held}
use Rattle.fm_native.specs.declared.asked.OperandRefusal.{OperandRefusal}
use Rattle.fm_native.specs.declared.asked.OperandRefusal.TheVariants as refusal
use Rattle.fm_native.specs.declared.asked.Text.{Text}
use Rattle.fm_native.specs.inner.Asked.{AsksHeld, on_cell, on_found, units_in}
use Rattle.fm_native.specs.inner.Hidden.{AsksBuilt, AsksFitting, AsksInner, HidesText}
use Rattle.fm_world.specs.Chains.{chain_of, class_at, is_among}
use Rattle.fm_world.specs.Programs.{Outline}

-- ---- objects that pass a test

abbrev passing : (Looks → Bool) → ℕ → (Looks → Effect) → Looks → Effect
passing test operand follows it = if test it then follows it else faulty operand

pub fitting-refused : (test : Looks → Bool) (o : Outline) (store : Store) (s : List Sight) (operand : ℕ) (r : OperandRefusal) → AsksHeld o store s operand (Err r)
    → AsksFitting test o store s operand (Err r)
fitting-refused test o store s operand r asks follows = asks (thrown_null o) (passing test operand follows)

pub fitting-found : (test : TypeRef → Bool) (o : Outline) (store : Store) (s : List Sight) (operand : ℕ) (held : Held) (object : Object)
    → AsksHeld o store s operand (Ok held) → object_at store held.cell.0 ≡ Some object → test (type_numbered o object.class) ≡ true
    → AsksFitting (λ it. test it.type) o store s operand (Ok held)
unfolding looks
fitting-found test o store s operand held object asks at passes follows =
    asks (thrown_null o) (passing (λ it. test it.type) operand follows) ∙ ap (on_found o store (passing (λ it. test it.type) operand follows)) at
    ∙ ap (λ b. if b then follows (looks o store object) else faulty operand) passes ∙ sym (ap (on_found o store follows) at)

pub fitting-unfit : (test : TypeRef → Bool) (o : Outline) (store : Store) (s : List Sight) (operand : ℕ) (held : Held) (object : Object)
    → AsksHeld o store s operand (Ok held) → object_at store held.cell.0 ≡ Some object → test (type_numbered o object.class) ≡ false
    → AsksFitting (λ it. test it.type) o store s operand (Err (refusal.Unfit held.cell))
unfolding looks
fitting-unfit test o store s operand held object asks at unfit follows =
    asks (thrown_null o) (passing (λ it. test it.type) operand follows) ∙ ap (on_found o store (passing (λ it. test it.type) operand follows)) at
    ∙ ap (λ b. if b then follows (looks o store object) else faulty operand) unfit

-- a test of types, as the code found it out by the head
pub type-told : (o : Outline) (test : TypeRef → Bool) (t : TypeRef) (held : Held) (object : Object) (told : Bool) → head_of object ≡ held.head
    → t ≡ type_numbered o held.head.class → told ≡ test t → test (type_numbered o object.class) ≡ told
type-told o test t held object told head_is t_is is =
    ap (λ (h : Head). test (type_numbered o h.class)) head_is ∙ ap test (sym t_is) ∙ sym is

-- ---- the hidden field

any-among : (f : ℕ → Bool) (above : ℕ) (chain : List ℕ) → is_among above chain ≡ true → f above ≡ true → list_any f chain ≡ true
any-among f above [] among there = absurd (false≢true among)
any-among f above (class ∷ chain) among there =
    by_place (or_cases (nat_eq above class) (is_among above chain) among) (λ further. any-among f above chain further there) where
      by_first : (b : Bool) → list_any f chain ≡ true → (b || list_any f chain) ≡ true
      by_first true rest = refl
      by_first false rest = rest

      by_place : (nat_eq above class ≡ true) ⊎ (is_among above chain ≡ true) → (is_among above chain ≡ true → list_any f chain ≡ true)
          → (f class || list_any f chain) ≡ true
      by_place (inl same) rest = ap (λ b. b || list_any f chain) (ap f (sym (eqb-true above class same)) ∙ there)
      by_place (inr further) rest = by_first (f class) (rest further)

-- a type below a class that brings a hidden field has it
pub field-below : (o : Outline) (above : ℕ) (t : TypeRef) → IsBelow o.classes above t → (class_at o.classes above).hidden ≡ true → has_hidden_field o t ≡ true
field-below o above t (class, is, among) there =
    ap (has_hidden_field o) is ∙ any-among (λ above. (class_at o.classes above).hidden) above (chain_of o.classes class) among there

-- what the field leads to
pub inner-led : (o : Outline) (store : Store) (held : Held) (hides : HidesText o store held) (operand : ℕ) (follows : Option (List ℕ) → Effect)
    → on_cell o store (λ it. on_inner o operand it follows) held
    ≡ on_inner_of o operand (led_to o store (slice_index_or hides.object.elements 0 0)) follows
unfolding looks
inner-led o store held hides operand follows =
    ap (on_found o store (λ it. on_inner o operand it follows)) hides.at
    ∙ ap (λ b. on_inner_of o operand (if b then led_to o store (slice_index_or hides.object.elements 0 0) else NoField) follows) hides.field

-- its element, as the code reads it
pub first-is : (o : Outline) (store : Store) (held : Held) (hides : HidesText o store held) → slice_index_or (elements_at store held.cell.0) 0 0 ≡ slice_index_or hides.object.elements 0 0
first-is o store held hides = ap (λ found. slice_index_or (unwrap_or (option_map (λ (object : Object). object.elements) found) []) 0 0) hides.at

pub inner-none : (o : Outline) (store : Store) (held : Held) (first : ℕ) → HidesText o store held → first ≡ slice_index_or (elements_at store held.cell.0) 0 0 → first ≡ 0
    → AsksInner o store held (Ok None)
inner-none o store held first hides is null operand follows =
    inner-led o store held hides operand follows
    ∙ ap (λ n. on_inner_of o operand (led_to o store n) follows) (sym (first-is o store held hides) ∙ sym is ∙ null)

-- the object to which it leads
abbrev text_led : Outline → Store → ℕ → (Option (List ℕ) → Effect) → Option Object → Effect
text_led o store operand follows found = on_inner_of o operand (text_in o found) follows

led-to : (o : Outline) (store : Store) (operand first : ℕ) (follows : Option (List ℕ) → Effect) → (first == 0) ≡ false
    → on_inner_of o operand (led_to o store first) follows ≡ text_led o store operand follows (object_at store first)
led-to o store operand zero follows e = absurd (false≢true (sym e))
led-to o store operand (suc n) follows e = refl

inner-at : (o : Outline) (store : Store) (held : Held) (first operand : ℕ) (follows : Option (List ℕ) → Effect) → HidesText o store held
    → first ≡ slice_index_or (elements_at store held.cell.0) 0 0 → (first == 0) ≡ false
    → on_cell o store (λ it. on_inner o operand it follows) held ≡ text_led o store operand follows (object_at store first)
inner-at o store held first operand follows hides is there =
    inner-led o store held hides operand follows
    ∙ ap (λ n. on_inner_of o operand (led_to o store n) follows) (sym (first-is o store held hides) ∙ sym is)
    ∙ led-to o store operand first follows there

pub none-held : (store : Store) (cell : ℕ) → None ≡ head_at store cell → object_at store cell ≡ None
none-held store cell e = by_object (object_at store cell) e where
  by_object : (found : Option Object) → None ≡ option_map head_of found → found ≡ None
  by_object None e = refl
  by_object (Some object) e = absurd (cc)

pub inner-gone : (o : Outline) (store : Store) (held : Held) (cell : Cell) → HidesText o store held
    → cell.0 ≡ slice_index_or (elements_at store held.cell.0) 0 0 → (cell.0 == 0) ≡ false → None ≡ head_at store cell.0
    → AsksInner o store held (Err (refusal.Lost cell))
inner-gone o store held cell hides is there gone operand follows =
    inner-at o store held cell.0 operand follows hides is there ∙ ap (text_led o store operand follows) (none-held store cell.0 gone)

-- an object with this head is held
pub head-held : (store : Store) (cell : ℕ) (head : Head) → Some head ≡ head_at store cell
    → (object : Object) × (object_at store cell ≡ Some object) × (head_of object ≡ head)
head-held store cell head e = by_object (object_at store cell) e where
  by_object : (found : Option Object) → Some head ≡ option_map head_of found → (object : Object) × (found ≡ Some object) × (head_of object ≡ head)
  by_object None e = absurd (cc)
  by_object (Some object) e = (object, refl, cc)

pub inner-lost : (o : Outline) (store : Store) (held : Held) (cell : Cell) (object : Object) → HidesText o store held
    → cell.0 ≡ slice_index_or (elements_at store held.cell.0) 0 0 → (cell.0 == 0) ≡ false → object_at store cell.0 ≡ Some object
    → is_text_type o (type_numbered o object.class) ≡ false → AsksInner o store held (Err (refusal.Lost cell))
inner-lost o store held cell object hides is there at no_text operand follows =
    inner-at o store held cell.0 operand follows hides is there ∙ ap (text_led o store operand follows) at
    ∙ ap (λ b. on_inner_of o operand (if b then Units object.elements else Lost) follows) no_text

pub inner-found : (o : Outline) (store : Store) (held : Held) (cell : Cell) (head : Head) (object : Object) → HidesText o store held
    → cell.0 ≡ slice_index_or (elements_at store held.cell.0) 0 0 → (cell.0 == 0) ≡ false → object_at store cell.0 ≡ Some object → head_of object ≡ head
    → is_text_type o (type_numbered o object.class) ≡ true → AsksInner o store held (Ok (Some (record { cell = cell; len = head.len })))
inner-found o store held cell head object hides is there at head_is text operand follows =
    inner-at o store held cell.0 operand follows hides is there ∙ ap (text_led o store operand follows) at
    ∙ ap (λ b. on_inner_of o operand (if b then Units object.elements else Lost) follows) text
    ∙ ap (λ us. follows (Some us)) units where
      all : length object.elements ≡ head.len
      all = ap (λ (h : Head). h.len) head_is

      units : object.elements ≡ units_in store (record { cell = cell; len = head.len })
      units =
          sym (take_all head.len object.elements (omega (arith, all)))
          ∙ ap (λ found. take head.len (unwrap_or (option_map (λ (object : Object). object.elements) found) [])) (sym at)

-- ---- texts that are built

pub built-refused : (o : Outline) (store : Store) (s : List Sight) (operand : ℕ) (r : OperandRefusal) → AsksFitting (is_builder o) o store s operand (Err r)
    → AsksBuilt o store s operand (Err r)
built-refused o store s operand r asks follows = asks _

pub built-lost : (o : Outline) (store : Store) (s : List Sight) (operand : ℕ) (held : Held) (r : OperandRefusal) → AsksFitting (is_builder o) o store s operand (Ok held)
    → AsksInner o store held (Err r) → AsksBuilt o store s operand (Err r)
built-lost o store s operand held r asks inner follows = asks _ ∙ inner operand _

pub built-found : (o : Outline) (store : Store) (s : List Sight) (operand : ℕ) (held : Held) (text : Option Text) → AsksFitting (is_builder o) o store s operand (Ok held)
    → AsksInner o store held (Ok text) → AsksBuilt o store s operand (Ok (record { held = held; text = text }))
built-found o store s operand held None asks inner follows = asks _ ∙ inner operand _
built-found o store s operand held (Some text) asks inner follows = asks _ ∙ inner operand _
