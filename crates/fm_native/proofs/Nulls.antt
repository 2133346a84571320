-- What is seen of an operand that is an object, a text or null, where null is passed over.
use Rattle.std.proofs.Common.{◌≡◌, ℕ, pos, Bool, true, false, ◌&&◌, codes, if◌then◌else◌, List, Option, Some, None, Result, Ok, Err, slice_get, refl, ap, ◌∙◌}
use Rattle.std.specs.Str.{bytes_eq}
use Rattle.fm_cells.specs.Answers.{head_of}
use Rattle.fm_cells.specs.Objects.{Object}
use Rattle.fm_cells.specs.Stores.{object_at, Store}
use Rattle.fm_frames.specs.Effects.{Effect, faulty, int_word, words}
use Rattle.fm_frames.specs.Elements.{shows_units}
use Rattle.fm_frames.specs.NativeRows.{text_type}
use Rattle.fm_frames.specs.Sights.{looks, Looks, sights, Sight, type_numbered, units_of}
use Rattle.fm_frames.specs.declared.looks.Look.{Look}
use Rattle.fm_frames.specs.declared.looks.Look.TheVariants as look
use Rattle.fm_frames.specs.declared.values.Value.{Value}
use Rattle.fm_frames.specs.inner.Looks.{look_at}
use Rattle.fm_native.proofs.Asks.{found_by, held-asked, text_follows, units-are}
use Rattle.fm_native.specs.declared.asked.Held.{Held}
use Rattle.fm_native.specs.declared.asked.OperandRefusal.{OperandRefusal}
use Rattle.fm_native.specs.declared.asked.OperandRefusal.TheVariants as refusal
use Rattle.fm_native.specs.inner.Asked.{asked_by, AsksHeldOrNull, AsksOther, AsksTextOrNull, on_cell, on_found, passed_by, text_of, units_in}
use Rattle.fm_types.specs.Fits.{fits_type}
use Rattle.fm_world.specs.Programs.{Outline}

-- ---- objects

-- what is found of an operand that was looked at
abbrev pub found_or_null_by : Look → Result (Option Held) OperandRefusal
found_or_null_by look.Other = Err refusal.Other
found_or_null_by look.Null = Ok None
found_or_null_by (look.Gone cell) = Err (refusal.Unfit cell)
found_or_null_by (look.Object cell head) = Ok (Some (record { cell = cell; head = head }))

pub held-or-null-asked : (o : Outline) (store : Store) (stack : List Value) (operand : ℕ) (seen : Look) → seen ≡ look_at store (slice_get stack operand)
    → AsksHeldOrNull o store (sights o store stack) operand (found_or_null_by seen)
held-or-null-asked o store stack operand seen is of_null follows = held-asked o store stack operand seen is of_null follows ∙ same seen where
  same : (seen : Look) → asked_by of_null o operand (found_by seen) (on_cell o store follows) ≡ passed_by of_null o operand (found_or_null_by seen) (on_cell o store follows)
  same look.Other = refl
  same look.Null = refl
  same (look.Gone cell) = refl
  same (look.Object cell head) = refl

-- ---- texts

pub null-text-refused : (o : Outline) (store : Store) (s : List Sight) (operand : ℕ) (r : OperandRefusal) → AsksHeldOrNull o store s operand (Err r)
    → AsksTextOrNull o store s operand (Err r)
null-text-refused o store s operand r asks follows = asks (follows (codes "null")) (text_follows o operand follows)

pub null-text-none : (o : Outline) (store : Store) (s : List Sight) (operand : ℕ) → AsksHeldOrNull o store s operand (Ok None)
    → AsksTextOrNull o store s operand (Ok None)
null-text-none o store s operand asks follows = asks (follows (codes "null")) (text_follows o operand follows)

pub null-text-unfit : (o : Outline) (store : Store) (s : List Sight) (operand : ℕ) (held : Held) (object : Object) → AsksHeldOrNull o store s operand (Ok (Some held))
    → object_at store held.cell.0 ≡ Some object → fits_type o.classes (type_numbered o object.class) (text_type o) ≡ false
    → AsksTextOrNull o store s operand (Err (refusal.Unfit held.cell))
unfolding looks
null-text-unfit o store s operand held object asks at unfit follows =
    asks (follows (codes "null")) (text_follows o operand follows) ∙ ap (on_found o store (text_follows o operand follows)) at
    ∙ ap (λ b. if b then follows (units_of o object) else faulty operand) unfit

pub null-text-found : (o : Outline) (store : Store) (s : List Sight) (operand : ℕ) (held : Held) (object : Object) (shows : Bool) → AsksHeldOrNull o store s operand (Ok (Some held))
    → object_at store held.cell.0 ≡ Some object → head_of object ≡ held.head → fits_type o.classes (type_numbered o object.class) (text_type o) ≡ true
    → shows_units o (type_numbered o object.class) ≡ shows → AsksTextOrNull o store s operand (Ok (Some (text_of shows held)))
unfolding looks
null-text-found o store s operand held object shows asks at head_is fits told follows =
    asks (follows (codes "null")) (text_follows o operand follows) ∙ ap (on_found o store (text_follows o operand follows)) at
    ∙ ap (λ b. if b then follows (units_of o object) else faulty operand) fits ∙ ap follows (units-are o store held object shows at head_is told)

-- ---- what a text is compared with

-- what follows of the other object
abbrev equal_follows : Outline → List ℕ → Looks → Effect
equal_follows o units it =
    words 2 (int_word (if fits_type o.classes it.type (text_type o) && bytes_eq it.units units then pos 1 else pos 0))

abbrev no_other : Effect
no_other = words 2 (int_word (pos 0))

pub other-refused : (o : Outline) (store : Store) (s : List Sight) (r : OperandRefusal) → AsksHeldOrNull o store s 0 (Err r) → AsksOther o store s (Err r)
other-refused o store s r asks text = asks no_other (equal_follows o (units_in store text))

pub other-none : (o : Outline) (store : Store) (s : List Sight) → AsksHeldOrNull o store s 0 (Ok None) → AsksOther o store s (Ok None)
other-none o store s asks text = asks no_other (equal_follows o (units_in store text))

pub other-unfit : (o : Outline) (store : Store) (s : List Sight) (held : Held) (object : Object) → AsksHeldOrNull o store s 0 (Ok (Some held))
    → object_at store held.cell.0 ≡ Some object → fits_type o.classes (type_numbered o object.class) (text_type o) ≡ false → AsksOther o store s (Ok None)
unfolding looks
other-unfit o store s held object asks at unfit text =
    asks no_other (equal_follows o (units_in store text)) ∙ ap (on_found o store (equal_follows o (units_in store text))) at
    ∙ ap (λ b. words 2 (int_word (if b && bytes_eq (units_of o object) (units_in store text) then pos 1 else pos 0))) unfit

pub other-found : (o : Outline) (store : Store) (s : List Sight) (held : Held) (object : Object) (shows : Bool) → AsksHeldOrNull o store s 0 (Ok (Some held))
    → object_at store held.cell.0 ≡ Some object → head_of object ≡ held.head → fits_type o.classes (type_numbered o object.class) (text_type o) ≡ true
    → shows_units o (type_numbered o object.class) ≡ shows → AsksOther o store s (Ok (Some (text_of shows held)))
unfolding looks
other-found o store s held object shows asks at head_is fits told text =
    asks no_other (equal_follows o (units_in store text)) ∙ ap (on_found o store (equal_follows o (units_in store text))) at
    ∙ ap (λ b. words 2 (int_word (if b && bytes_eq (units_of o object) (units_in store text) then pos 1 else pos 0))) fits
    ∙ ap (λ us. words 2 (int_word (if bytes_eq us (units_in store text) then pos 1 else pos 0))) (units-are o store held object shows at head_is told)
