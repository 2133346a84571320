-- The actions of the built-in methods fit: the texts that they make are of 16-bit units, and go where texts are kept.
use Rattle.std.proofs.Common.{◌≡◌, ℕ, zero, suc, ◌^◌, ◌<◌, cond, Bool, true, false, List, [], ◌∷◌, length, take, Option, Some, None, codes, refl, sym, ◌∙◌, ap, subst, slice_get, slice_index_or, arith}
use Rattle.std.proofs.lemmas.Option.{slice_get-get_or}
use Rattle.fm_alu.proofs.TwosComplementLemmas.{low_bits-lt}
use Rattle.fm_base.specs.declared.kinds.TypeRef.{TypeRef}
use Rattle.fm_cells.specs.Objects.{Object}
use Rattle.fm_cells.specs.Stores.{object_at, Store}
use Rattle.fm_world.specs.Numbers.{type_of_class}
use Rattle.fm_world.specs.Programs.{kind_at, Outline, Program}
use Rattle.fm_frames.specs.Acts.{cell_of}
use Rattle.fm_frames.specs.Effects.{acting, Copy, Effect, Exits, going, int_word, making, printing, SameOperands, words}
use Rattle.fm_frames.specs.Elements.{is_text_type, shows_units}
use Rattle.fm_frames.specs.NativeRows.{has_text, native_effect, shown_words, text_kind, text_type, type_name}
use Rattle.fm_frames.specs.declared.natives.Native.{Native}
use Rattle.fm_frames.specs.declared.natives.Native.TheVariants.{ThrowableInitOf}
use Rattle.fm_frames.specs.Sights.{led_to, Looks, looks, Lost, NoField, Sight, sights, Text, text_in, Thing, type_numbered, units_of}
use Rattle.fm_frames.specs.States.{Frame, word_at}
use Rattle.fm_frames.specs.declared.values.Value.{Value}
use Rattle.fm_frames.proofs.Failures.{NotCloneable, TextOutside}
use Rattle.fm_frames.proofs.NativeCases.{IsAt, KeepsUnits, native_cases}
use Rattle.fm_frames.proofs.UsualAsks.{SeesUnits, usual_asks}
use Rattle.fm_frames.specs.Literals.{class_literal}
use Rattle.fm_law_sound.specs.Acting.{ActsFit, MakeFits, PlaceFits}
use Rattle.fm_law_sound.specs.BuiltIns.{native_slots}
use Rattle.fm_law_sound.specs.Making.{AreFew, AreUnits, HaveTextFirst, HoldsObjects, IsMakeable, NamesAreUnits}
use Rattle.fm_law_sound.specs.Sound.{HaveKinds, IsObjectIn}
use Rattle.fm_law_sound.proofs.BuiltInRows.{two_references}
use Rattle.fm_law_sound.proofs.InsnActs.{failures, Fits, quiet}
use Rattle.fm_law_sound.proofs.KindsAgree.{hidden_place}
use Rattle.fm_law_sound.proofs.MadeObjects.{length_few, literal_fits, no_text, number_there, numbered, text_fits}
use Rattle.fm_law_sound.proofs.SeenObjects.{seen_at}
use Rattle.fm_law_sound.proofs.ShownUnits.{shown_fit}
use Rattle.fm_law_sound.proofs.TextUnits.{units-append, units-drop, units-each, units-hex, units-signed, units-take, units-zeros}

-- ---- what is seen of an object

-- the units of a text or an array of chars, and of the text to which the hidden field leads
record HasUnits (o : Outline) (it : Looks) : Type 0 where
  units : AreUnits it.units
  inner : (units : List ℕ) → it.inner ≡ Text units → AreUnits units
  name : AreUnits (type_name o it.type)

units_if : (b : Bool) (elements : List ℕ) → (b ≡ true → (place : ℕ) → slice_index_or elements place 0 < 2 ^ 16) → AreUnits (cond b elements [])
units_if true elements each = units-each elements (each refl)
units_if false elements each = tt

text_units : (o : Outline) (object : Object) → IsObjectIn o object → AreUnits (units_of o object)
text_units o object h =
    units_if (shows_units o (type_numbered o object.class)) object.elements (shown_fit o object (type_numbered o object.class) h.of_type)

text_if : (b : Bool) (elements units : List ℕ) → (b ≡ true → (place : ℕ) → slice_index_or elements place 0 < 2 ^ 16)
    → cond b (Text elements) Lost ≡ Text units → AreUnits units
text_if true elements units each is =
    let same : elements ≡ units = cc in subst AreUnits same (units-each elements (each refl))
text_if false elements units each is = absurd (cc)

inner_found : (o : Outline) (store : Store) → HoldsObjects o store → (cell : ℕ) (found : Option Object) → object_at store cell ≡ found → (units : List ℕ)
    → text_in o found ≡ Text units → AreUnits units
inner_found o store holds cell None at units is = absurd (cc)
inner_found o store holds cell (Some object) at units is =
    text_if (is_text_type o (type_numbered o object.class)) object.elements units (holds cell object at).of_type.units is

inner_units : (o : Outline) (store : Store) → HoldsObjects o store → (cell : ℕ) (units : List ℕ) → led_to o store cell ≡ Text units → AreUnits units
inner_units o store holds zero units is = absurd (cc)
inner_units o store holds (suc cell) units is = inner_found o store holds (suc cell) (object_at store (suc cell)) refl units is

field_units : (o : Outline) (store : Store) → HoldsObjects o store → (b : Bool) (cell : ℕ) (units : List ℕ) → cond b (led_to o store cell) NoField ≡ Text units
    → AreUnits units
field_units o store holds true cell units is = inner_units o store holds cell units is
field_units o store holds false cell units is = absurd (cc)

looks_units : (o : Outline) (store : Store) → HoldsObjects o store → NamesAreUnits o → (object : Object) → IsObjectIn o object → HasUnits o (looks o store object)
unfolding looks
looks_units o store holds names object h = record {
  units = text_units o object h;
  inner = λ units is. field_units o store holds _ (slice_index_or object.elements 0 0) units is;
  name = names object.class (type_numbered o object.class) (slice_get-get_or o.types object.class (type_of_class 0) h.numbered);
}

seen_units : (o : Outline) (store : Store) → HoldsObjects o store → NamesAreUnits o → (stack : List Value) (n : ℕ) (it : Looks)
    → slice_get (sights o store stack) n ≡ Some (Thing it) → HasUnits o it
seen_units o store holds names stack n it seen =
    let found = seen_at o store stack n it seen in
    subst (HasUnits o) found.looks_so (looks_units o store holds names found.object (holds (cell_of (word_at stack n)) found.object found.held))

-- ---- one more of the type and the length of an object

looks_made : (o : Outline) (store : Store) (object : Object) → IsObjectIn o object → MakeFits o (looks o store object).type (looks o store object).len []
unfolding looks
looks_made o store object h =
    let t : TypeRef = type_numbered o object.class in
    let number = numbered o object.class t (slice_get-get_or o.types object.class (type_of_class 0) h.numbered) in
    record {
      number = number.0;
      number_is = number.1;
      there = number_there o t number.0 number.1;
      made = h.of_type.made;
      length_fits = h.of_type.len;
      content_fits = tt;
    }

like_seen : (o : Outline) (store : Store) → HoldsObjects o store → (stack : List Value) (it : Looks) → slice_get (sights o store stack) 0 ≡ Some (Thing it)
    → MakeFits o it.type it.len []
like_seen o store holds stack it seen =
    let found = seen_at o store stack 0 it seen in
    subst (λ l. MakeFits o l.type l.len []) found.looks_so
    (looks_made o store found.object (holds (cell_of (word_at stack 0)) found.object found.held))

-- ---- the rows

module _ (p : Program) (ready : IsMakeable p) (names : NamesAreUnits p.outline) (first : HaveTextFirst p.outline) (store : Store) (holds : HoldsObjects p.outline store)
    (f : Frame) where
  abbrev o : Outline
  o = p.outline

  abbrev A : Effect → Type 0
  A e = Fits o store f e

  abbrev s : List Sight
  s = sights o store f.stack

  bare : (e : Effect) → e.actions ≡ [] → A e
  bare e none = quiet p ready store f e none

  -- ---- units

  seen : (n : ℕ) (it : Looks) → IsAt s n it → HasUnits o it
  seen n it at = seen_units o store holds names f.stack n it at

  true_or_false : (b : Bool) → AreUnits (cond b (codes "false") (codes "true"))
  true_or_false true = (omega arith, (omega arith, (omega arith, (omega arith, (omega arith, tt)))))
  true_or_false false = (omega arith, (omega arith, (omega arith, (omega arith, tt))))

  sees : SeesUnits o s AreUnits
  sees = record {
    seen = λ n it at. (seen n it at).units;
    hidden = λ n it at. (seen n it at).inner;
    empty = tt;
    null = (omega arith, (omega arith, (omega arith, (omega arith, tt))));
    number = λ z. units-signed z;
    char = λ z. (low_bits-lt 16 z, tt);
    truth = true_or_false;
  }

  keeps : KeepsUnits o s AreUnits
  keeps = record {
    empty = tt;
    append = units-append;
    take = units-take;
    drop = units-drop;
    zeros = units-zeros;
    name = λ n it at. (seen n it at).name;
    colon = (omega arith, (omega arith, tt));
    hash = λ birth. (omega arith, units-hex birth);
  }

  -- ---- the text of a builder, and the message of a throwable

  placed : (n : ℕ) (it : Looks) → slice_get s n ≡ Some (Thing it) → kind_at o.classes it.type 0 ≡ Some (text_kind o)
      → (object : Object) × (object_at store (cell_of (word_at f.stack n)) ≡ Some object) × PlaceFits o (type_numbered o object.class) 0 (text_kind o)
  placed n it seen at =
      let found = seen_at o store f.stack n it seen in
      let is : kind_at o.classes (type_numbered o found.object.class) 0 ≡ Some (text_kind o) = ap (λ t. kind_at o.classes t 0) (sym found.type_is) ∙ at in
      (found.object, found.held, record { kind = is; no_text = no_text p ready (type_numbered o found.object.class) 0 (text_kind o) is })

  text_put : (n : ℕ) (it : Looks) (units : List ℕ) (e : Effect) → e.actions ≡ has_text o n units → slice_get s n ≡ Some (Thing it)
      → kind_at o.classes it.type 0 ≡ Some (text_kind o) → AreUnits units → A e
  text_put n it units e is seen at fit = record {
    fits = λ few.
        let made : AreFew o (has_text o n units) = subst (AreFew o) is few in
        subst (λ actions. ActsFit o store f [] actions) (sym is)
        (text_fits p ready units (length_few o (text_type o) (length units) units made.0) fit, (placed n it seen at, (λ areas cells statics. tt), tt));
  }

  -- ---- copies

  copy_fits : (it : Looks) → slice_get s 0 ≡ Some (Thing it) → A (making 1 (Copy it.type it.len 0))
  copy_fits it seen =
      let found = seen_at o store f.stack 0 it seen in
      record {
        fits = λ few. (
          record {
            makes = like_seen o store holds f.stack it seen;
            object = found.object;
            held = found.held;
            type = sym found.type_is;
          },
          tt,
        );
      }

  native_rows : (row : Native) (byte : Option ℕ) → HaveKinds (native_slots row) (take (length (native_slots row)) f.stack) → A (native_effect o row byte s)
  native_rows row byte have =
      native_cases o s row AreUnits A keeps (usual_asks o s AreUnits A sees (failures p ready store f) (λ n it at hides. bare _ refl) row)
      (record {
        nothing = λ n takes result. bare (words n []) refl;
        number = λ n shown is takes result z. bare (words n (int_word z)) refl;
        same = λ n takes result. bare (words n (SameOperands ∷ [])) refl;
        text_given = λ n takes result units fit.
            record { fits = λ few. (text_fits p ready units (length_few o (text_type o) (length units) units few.0) fit, tt) };
        byte = λ n takes result z. bare (record (words n (int_word z)) { reads = true }) refl;
        printed = λ n takes result bytes. bare (printing n bytes) refl;
        exits = λ n takes z. bare (going n (Exits z)) refl;
        outside = (failures p ready store f).raised TextOutside;
        begun = λ it at hides takes result. record { fits = λ few. (placed 0 it at (hidden_place o first it hides), (λ areas cells statics. tt), tt) };
        text_put = λ n operand it at hides takes result units fit.
            text_put operand it units (acting n (has_text o operand units)) refl at (hidden_place o first it hides) fit;
        itself = λ is. bare _ refl;
        appended = λ shown is it at builds units fit. text_put (shown_words shown) it units _ refl at (first.builders it.type builds) fit;
        message_put = λ is it at fits.
            let both : HaveKinds (native_slots ThrowableInitOf) (take (length (native_slots ThrowableInitOf)) f.stack) =
            subst (λ row. HaveKinds (native_slots row) (take (length (native_slots row)) f.stack)) is have in
            record { fits = λ few. (placed 1 it at (first.throwables it.type fits), (λ areas cells statics. (two_references f.stack both).0), tt) };
        message_given = λ is it at fits. bare _ refl;
        class_given = λ is it at type inside. record { fits = λ few. (literal_fits p ready (class_literal o type), tt) };
        unnumbered = λ is it at none. bare _ refl;
        freed = λ is it at. record { fits = λ few. refl };
        unlinked = λ is. bare _ refl;
        linked = λ is it at loose. record { fits = λ few. refl };
        chain_freed = λ is. record { fits = λ few. refl };
        copied = λ is it at may. copy_fits it at;
        uncopied = λ is. (failures p ready store f).raised NotCloneable;
      })
      byte

pub built_ins_fit : (p : Program) → IsMakeable p → NamesAreUnits p.outline → HaveTextFirst p.outline → (store : Store) → HoldsObjects p.outline store → (f : Frame)
    (row : Native) (byte : Option ℕ) → HaveKinds (native_slots row) (take (length (native_slots row)) f.stack)
    → AreFew p.outline (native_effect p.outline row byte (sights p.outline store f.stack)).actions
    → ActsFit p.outline store f [] (native_effect p.outline row byte (sights p.outline store f.stack)).actions
built_ins_fit p ready names first store holds f row byte have few = (native_rows p ready names first store holds f row byte have).fits few
