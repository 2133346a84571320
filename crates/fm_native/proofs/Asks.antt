-- What is seen of an operand that is to be an object, a text or a number, by what the machine holds.
use Rattle.std.proofs.Common.{◌≡◌, ℕ, zero, suc, ◌^◌, ◌<◌, ℤ, Bool, true, false, ◌==◌, ◌||◌, if◌then◌else◌, List, [], length, take, Option, Some, None, Result, Ok, Err, slice_get, option_map, unwrap_or, refl, ap, sym, ◌∙◌, subst, lit<, arith}
use Rattle.std.specs.List.{All}
use Rattle.std.proofs.lemmas.Bool.{ne_eqb}
use Rattle.std.proofs.lemmas.List.{take_all, length-take-le}
use Rattle.std.proofs.lemmas.List.Elements.{All-nil, All-take}
use Rattle.std.proofs.lemmas.Option.{get_or_from_slice_get, none-some, same_Some, slice_get-map}
use Rattle.fm_base.specs.declared.kinds.TypeRef.{TypeRef}
use Rattle.fm_cells.specs.Answers.{head_at, head_of}
use Rattle.fm_cells.specs.Objects.{Object}
use Rattle.fm_cells.specs.Stores.{elements_at, object_at, Store}
use Rattle.fm_cells.specs.declared.answers.Cell.{Cell}
use Rattle.fm_cells.specs.declared.answers.Head.{Head}
use Rattle.fm_frames.proofs.Programs.{is_text-by}
use Rattle.fm_frames.proofs.Refusals.{cell-no-int, cell-no-long, object-in}
use Rattle.fm_frames.specs.Effects.{Effect, faulty}
use Rattle.fm_frames.specs.Elements.{chars_type, is_text_type, shows_units}
use Rattle.fm_frames.specs.NativeRows.{text_type}
use Rattle.fm_frames.specs.Operands.{on_held_of, on_int_of, on_long_of, thrown_null}
use Rattle.fm_frames.specs.Runnable.{IsRunnable}
use Rattle.fm_frames.specs.Sights.{looks, Looks, sight, sight_of_cell, sight_of_object, sights, Sight, type_numbered, units_of}
use Rattle.fm_frames.specs.States.{State}
use Rattle.fm_frames.specs.Steps.{stack_of}
use Rattle.fm_frames.specs.declared.looks.Look.{Look}
use Rattle.fm_frames.specs.declared.looks.Look.TheVariants as look
use Rattle.fm_frames.specs.declared.values.Value.{Value}
use Rattle.fm_frames.specs.declared.values.Value.TheVariants as value
use Rattle.fm_frames.specs.inner.Doings.{int_in, long_in}
use Rattle.fm_frames.specs.inner.Looks.{look_at, look_head}
use Rattle.fm_native.specs.Texts.{HoldsTexts}
use Rattle.fm_native.specs.declared.asked.Held.{Held}
use Rattle.fm_native.specs.declared.asked.OperandRefusal.{OperandRefusal}
use Rattle.fm_native.specs.declared.asked.OperandRefusal.TheVariants as refusal
use Rattle.fm_native.specs.inner.Asked.{asked, asked_by, AsksHeld, AsksInt, AsksLong, AsksUnitsOf, IsHeldAt, IsTextAt, on_cell, on_found, text_of, units_in}
use Rattle.fm_types.specs.Fits.{fits_type}
use Rattle.fm_world.specs.Chains.{same_type}
use Rattle.fm_world.specs.Numbers.{type_of_class}
use Rattle.fm_world.specs.Programs.{Outline, Program}
use Rattle.fm_world.specs.BuiltIns.{class_literal_class}

-- ---- objects

-- what is found of an operand that was looked at
abbrev pub found_by : Look → Result Held OperandRefusal
found_by look.Other = Err refusal.Other
found_by look.Null = Err refusal.Null
found_by (look.Gone cell) = Err (refusal.Unfit cell)
found_by (look.Object cell head) = Ok (record { cell = cell; head = head })

abbrev held_follows : Effect → Outline → Store → ℕ → (Looks → Effect) → Look → Effect
held_follows of_null o store operand follows seen = asked_by of_null o operand (found_by seen) (on_cell o store follows)

cell-held : (of_null : Effect) (o : Outline) (store : Store) (operand : ℕ) (follows : Looks → Effect) (cell : ℕ)
    → on_held_of of_null operand (Some (sight_of_cell o store cell)) follows
    ≡ held_follows of_null o store operand follows (if cell == 0 then look.Null else look_head (record { 0 = cell }) (head_at store cell))
cell-held of_null o store operand follows zero = refl
cell-held of_null o store operand follows (suc cell) =
    by_object (object_at store (suc cell)) refl
    ∙ ap (λ null. held_follows of_null o store operand follows (if null then look.Null else look_head (record { 0 = suc cell }) (head_at store (suc cell))))
    (sym (ne_eqb (suc cell) 0 (λ e. absurd (omega (arith, e))))) where
      by_object : (object : Option Object) → object_at store (suc cell) ≡ object
          → on_held_of of_null operand (Some (sight_of_object o store object)) follows
          ≡ held_follows of_null o store operand follows (look_head (record { 0 = suc cell }) (option_map head_of object))
      by_object None e = refl
      by_object (Some object) e = ap (on_found o store follows) (sym e)

value-held : (of_null : Effect) (o : Outline) (store : Store) (operand : ℕ) (follows : Looks → Effect) (v : Option Value)
    → on_held_of of_null operand (option_map (sight o store) v) follows ≡ held_follows of_null o store operand follows (look_at store v)
value-held of_null o store operand follows None = refl
value-held of_null o store operand follows (Some value.Top) = refl
value-held of_null o store operand follows (Some (value.Int n)) = refl
value-held of_null o store operand follows (Some (value.Long n)) = refl
value-held of_null o store operand follows (Some (value.Ref cell)) = cell-held of_null o store operand follows cell.0

pub held-asked : (o : Outline) (store : Store) (stack : List Value) (operand : ℕ) (seen : Look) → seen ≡ look_at store (slice_get stack operand)
    → AsksHeld o store (sights o store stack) operand (found_by seen)
held-asked o store stack operand seen is of_null follows =
    ap (λ s. on_held_of of_null operand s follows) (slice_get-map (sight o store) stack operand)
    ∙ value-held of_null o store operand follows (slice_get stack operand) ∙ ap (held_follows of_null o store operand follows) (sym is)

-- ---- which cell was looked at

pub held-at : (x : State) (operand : ℕ) (cell : Cell) (head : Head) → look.Object cell head ≡ look_at x.areas.store (slice_get (stack_of x) operand)
    → IsHeldAt x.areas.store x operand (record { cell = cell; head = head })
held-at x operand cell head e =
    let it = object-in x.areas.store cell head (slice_get (stack_of x) operand) e in
    by_object (object_at x.areas.store cell.0) refl it.1 where
      by_object : (object : Option Object) → object_at x.areas.store cell.0 ≡ object → option_map head_of object ≡ Some head
          → IsHeldAt x.areas.store x operand (record { cell = cell; head = head })
      by_object None held is = absurd (none-some _ is)
      by_object (Some object) held is = record {
        object = object;
        at = held;
        head_is = same_Some _ _ is;
        word =
            get_or_from_slice_get (stack_of x) operand (value.Ref cell) value.Top
            (object-in x.areas.store cell head (slice_get (stack_of x) operand) e).0;
      }

-- ---- texts

-- what follows of an object that is to be of a type whose units are seen
abbrev pub units_follow : Outline → TypeRef → ℕ → (List ℕ → Effect) → Looks → Effect
units_follow o named operand follows it = if fits_type o.classes it.type named then follows it.units else faulty operand

-- the same of a text
abbrev pub text_follows : Outline → ℕ → (List ℕ → Effect) → Looks → Effect
text_follows o operand follows it = units_follow o (text_type o) operand follows it

pub units-refused : (o : Outline) (store : Store) (named : TypeRef) (s : List Sight) (operand : ℕ) (r : OperandRefusal) → AsksHeld o store s operand (Err r)
    → AsksUnitsOf o store named s operand (Err r)
units-refused o store named s operand r asks follows = asks (thrown_null o) (units_follow o named operand follows)

-- an object that was found is what follows
object-follows : (o : Outline) (store : Store) (named : TypeRef) (s : List Sight) (operand : ℕ) (held : Held) (object : Object)
    → AsksHeld o store s operand (Ok held) → object_at store held.cell.0 ≡ Some object → (follows : List ℕ → Effect)
    → on_held_of (thrown_null o) operand (slice_get s operand) (units_follow o named operand follows)
    ≡ (if fits_type o.classes (type_numbered o object.class) named then follows (units_of o object) else faulty operand)
unfolding looks
object-follows o store named s operand held object asks at follows =
    asks (thrown_null o) (units_follow o named operand follows) ∙ ap (on_found o store (units_follow o named operand follows)) at

pub units-unfit : (o : Outline) (store : Store) (named : TypeRef) (s : List Sight) (operand : ℕ) (held : Held) (object : Object)
    → AsksHeld o store s operand (Ok held) → object_at store held.cell.0 ≡ Some object → fits_type o.classes (type_numbered o object.class) named ≡ false
    → AsksUnitsOf o store named s operand (Err (refusal.Unfit held.cell))
units-unfit o store named s operand held object asks at unfit follows =
    object-follows o store named s operand held object asks at follows ∙ ap (λ b. if b then follows (units_of o object) else faulty operand) unfit

-- the units of an object, by whether they are seen
pub units-are : (o : Outline) (store : Store) (held : Held) (object : Object) (shows : Bool) → object_at store held.cell.0 ≡ Some object
    → head_of object ≡ held.head → shows_units o (type_numbered o object.class) ≡ shows → units_of o object ≡ units_in store (text_of shows held)
units-are o store held object shows at head_is told =
    ap (λ b. if b then object.elements else []) told ∙ by_test shows where
      elements : object.elements ≡ elements_at store held.cell.0
      elements = sym (ap (λ found. unwrap_or (option_map (λ (object : Object). object.elements) found) []) at)

      all : length object.elements ≡ held.head.len
      all = ap (λ (h : Head). h.len) head_is

      by_test : (b : Bool) → (if b then object.elements else []) ≡ units_in store (text_of b held)
      by_test true = sym (take_all held.head.len object.elements (omega (arith, all))) ∙ ap (take held.head.len) elements
      by_test false = refl

pub units-found : (o : Outline) (store : Store) (named : TypeRef) (s : List Sight) (operand : ℕ) (held : Held) (object : Object) (shows : Bool)
    → AsksHeld o store s operand (Ok held) → object_at store held.cell.0 ≡ Some object → head_of object ≡ held.head
    → fits_type o.classes (type_numbered o object.class) named ≡ true → shows_units o (type_numbered o object.class) ≡ shows
    → AsksUnitsOf o store named s operand (Ok (text_of shows held))
units-found o store named s operand held object shows asks at head_is fits told follows =
    object-follows o store named s operand held object asks at follows ∙ ap (λ b. if b then follows (units_of o object) else faulty operand) fits
    ∙ ap follows (units-are o store held object shows at head_is told)

pub text-known : (o : Outline) (store : Store) (held : Held) (object : Object) (shows : Bool) → HoldsTexts o store → object_at store held.cell.0 ≡ Some object
    → head_of object ≡ held.head → shows_units o (type_numbered o object.class) ≡ shows → IsTextAt store (text_of shows held)
text-known o store held object shows texts at head_is told =
    by_test shows told where
      all : length object.elements ≡ held.head.len
      all = ap (λ (h : Head). h.len) head_is

      elements : elements_at store held.cell.0 ≡ object.elements
      elements = ap (λ found. unwrap_or (option_map (λ (object : Object). object.elements) found) []) at

      by_test : (b : Bool) → shows_units o (type_numbered o object.class) ≡ b → IsTextAt store (text_of b held)
      by_test true is =
          let known = texts.texts held.cell.0 object at is in
          record {
            len = length-take-le held.head.len (elements_at store held.cell.0) (omega (arith, ap length elements, all));
            within = subst (λ n. n < 2 ^ 31) all known.short;
            units = All-take (λ unit. unit < 2 ^ 16) held.head.len (elements_at store held.cell.0) (subst (All (λ unit. unit < 2 ^ 16)) (sym elements) known.units);
          }
      by_test false is = record { len = refl; within = lit< tt; units = All-nil (λ unit. unit < 2 ^ 16) }

-- whether the object fits a type, as the code found it out
pub fits-named : (o : Outline) (t named : TypeRef) (held : Held) (object : Object) (told : Bool) → head_of object ≡ held.head
    → t ≡ type_numbered o held.head.class → told ≡ fits_type o.classes t named → fits_type o.classes (type_numbered o object.class) named ≡ told
fits-named o t named held object told head_is t_is is =
    let class : object.class ≡ held.head.class = ap (λ (h : Head). h.class) head_is in
    ap (λ n. fits_type o.classes (type_numbered o n) named) class ∙ ap (λ u. fits_type o.classes u named) (sym t_is) ∙ sym is

-- whether it is below the class of texts
pub fits-told : (o : Outline) (t text : TypeRef) (held : Held) (object : Object) (told : Bool) → head_of object ≡ held.head
    → t ≡ type_numbered o held.head.class → text ≡ text_type o → told ≡ fits_type o.classes t text
    → fits_type o.classes (type_numbered o object.class) (text_type o) ≡ told
fits-told o t text held object told head_is t_is text_is is =
    ap (fits_type o.classes (type_numbered o object.class)) (sym text_is) ∙ fits-named o t text held object told head_is t_is is

-- whether its units are seen
pub units-told : (p : Program) → IsRunnable p → (t : TypeRef) (held : Held) (object : Object) (told : Bool) → head_of object ≡ held.head
    → t ≡ type_numbered p.outline held.head.class
    → told ≡ ((same_type (type_of_class 1) t || same_type (type_of_class class_literal_class) t) || same_type chars_type t)
    → shows_units p.outline (type_numbered p.outline object.class) ≡ told
units-told p runnable t held object told head_is t_is is =
    let class : object.class ≡ held.head.class = ap (λ (h : Head). h.class) head_is in
    ap (λ n. shows_units p.outline (type_numbered p.outline n)) class ∙ ap (shows_units p.outline) (sym t_is)
    ∙ ap (λ b. b || same_type chars_type t) (sym (is_text-by p t runnable)) ∙ sym is

-- whether it is kept as units
pub is_text-told : (p : Program) → IsRunnable p → (t : TypeRef) (held : Held) (object : Object) (told : Bool) → head_of object ≡ held.head
    → t ≡ type_numbered p.outline held.head.class → told ≡ (same_type (type_of_class 1) t || same_type (type_of_class class_literal_class) t)
    → is_text_type p.outline (type_numbered p.outline object.class) ≡ told
is_text-told p runnable t held object told head_is t_is is =
    let class : object.class ≡ held.head.class = ap (λ (h : Head). h.class) head_is in
    ap (λ n. is_text_type p.outline (type_numbered p.outline n)) class ∙ ap (is_text_type p.outline) (sym t_is) ∙ sym (is_text-by p t runnable) ∙ sym is

-- ---- numbers

abbrev pub found_number : Option ℤ → Result ℤ OperandRefusal
found_number None = Err refusal.Other
found_number (Some n) = Ok n

int-of : (o : Outline) (store : Store) (operand : ℕ) (v : Option Value) (follows : ℤ → Effect)
    → on_int_of (option_map (sight o store) v) follows ≡ asked o operand (found_number (int_in v)) follows
int-of o store operand None follows = refl
int-of o store operand (Some value.Top) follows = refl
int-of o store operand (Some (value.Int n)) follows = refl
int-of o store operand (Some (value.Long n)) follows = refl
int-of o store operand (Some (value.Ref cell)) follows = cell-no-int o store cell.0 follows

pub int-asked : (o : Outline) (store : Store) (stack : List Value) (operand : ℕ) (found : Option ℤ) → found ≡ int_in (slice_get stack operand)
    → AsksInt o (sights o store stack) operand (found_number found)
int-asked o store stack operand found is follows =
    ap (λ s. on_int_of s follows) (slice_get-map (sight o store) stack operand)
    ∙ int-of o store operand (slice_get stack operand) follows ∙ ap (λ n. asked o operand (found_number n) follows) (sym is)

long-of : (o : Outline) (store : Store) (operand : ℕ) (v : Option Value) (follows : ℤ → Effect)
    → on_long_of (option_map (sight o store) v) follows ≡ asked o operand (found_number (long_in v)) follows
long-of o store operand None follows = refl
long-of o store operand (Some value.Top) follows = refl
long-of o store operand (Some (value.Int n)) follows = refl
long-of o store operand (Some (value.Long n)) follows = refl
long-of o store operand (Some (value.Ref cell)) follows = cell-no-long o store cell.0 follows

pub long-asked : (o : Outline) (store : Store) (stack : List Value) (operand : ℕ) (found : Option ℤ) → found ≡ long_in (slice_get stack operand)
    → AsksLong o (sights o store stack) operand (found_number found)
long-asked o store stack operand found is follows =
    ap (λ s. on_long_of s follows) (slice_get-map (sight o store) stack operand)
    ∙ long-of o store operand (slice_get stack operand) follows ∙ ap (λ n. asked o operand (found_number n) follows) (sym is)
