-- The built-in methods have the words of their rows for arguments and for results, by computation over all of them.
use Rattle.std.proofs.Common.{◌≡◌, ℕ, zero, suc, ◌+◌, ◌<◌, ◌==◌, ◌&&◌, not, cond, Bool, true, false, List, [], ◌∷◌, ◌++◌, length, map, reverse, Option, Some, None, codes, option_and_then, option_to_list, refl, sym, ◌∙◌, ap, slice_index_or, ⊎_elim}
use Rattle.std.specs.Prelude.{is_some, option_map, unwrap_or}
use Rattle.std.specs.List.{flat_map, position_from}
use Rattle.std.specs.Str.{bytes_eq}
use Rattle.std.proofs.lemmas.Bool.{and_parts, cases_lt, false≢true, not-true}
use Rattle.std.proofs.lemmas.Iterator.Adapters.{position_from-zero}
use Rattle.std.proofs.lemmas.List.{get_or_append_left, map-append, reverse-append}
use Rattle.std.proofs.lemmas.Option.{none-some}
use Rattle.std.proofs.lemmas.Slice.Eq.{bytes_eq-Decides}
use Rattle.fm_base.specs.declared.kinds.Kind.{Kind}
use Rattle.fm_base.specs.declared.kinds.Kind.TheVariants as kind
use Rattle.fm_code.specs.AccessFlags.{is_static}
use Rattle.fm_code.specs.Names.{BaseType, FieldType, object, primitive}
use Rattle.fm_types.specs.Named.{argument_words, result_words}
use Rattle.fm_types.specs.States.{local_slots, stack_slots}
use Rattle.fm_types.specs.declared.slots.Slot.{Slot}
use Rattle.fm_types.specs.declared.slots.Slot.TheVariants as slot
use Rattle.fm_world.proofs.TableLemmas.{methods_from-append}
use Rattle.fm_world.specs.BuiltIns.{built_in}
use Rattle.fm_world.specs.Declarations.{no_method}
use Rattle.fm_world.specs.Descriptors.{class_number, declared_kind, kind_in, kind_with, of_class, parameter_types, primitive_base, result_type}
use Rattle.fm_world.specs.Members.{method_at, methods_from, methods_of, OwnedMethod}
use Rattle.fm_world.specs.Programs.{Outline, Program}
use Rattle.fm_world.specs.declared.declarations.DeclaredClass.{DeclaredClass}
use Rattle.fm_world.specs.declared.declarations.DeclaredMethod.{DeclaredMethod}
use Rattle.fm_frames.specs.CallRows.{native_of}
use Rattle.fm_frames.specs.Natives.{native_of_row}
use Rattle.fm_frames.specs.declared.natives.Native.{Native}
use Rattle.fm_frames.specs.declared.values.Value.{Value}
use Rattle.fm_law_sound.specs.BuiltIns.{native_result, native_slots, reference}
use Rattle.fm_law_sound.specs.Resolved.{CallsAreResolved}
use Rattle.fm_law_sound.specs.Sound.{HasKind, HaveKinds}

-- ---- slots whose types are left out

-- what is required of a reference is the same whatever its type
abbrev pub plain : Slot → Slot
plain slot.Top = slot.Top
plain slot.Int = slot.Int
plain slot.Long = slot.Long
plain s = reference

plain_kind : (s : Slot) (v : Value) → HasKind s v → HasKind (plain s) v
plain_kind slot.Top v h = h
plain_kind slot.Int v h = h
plain_kind slot.Long v h = h
plain_kind slot.Null v h = h
plain_kind (slot.Ref t) v h = h
plain_kind (slot.Uninit item) v h = h
plain_kind slot.UninitThis v h = h

kind_plain : (s : Slot) (v : Value) → HasKind (plain s) v → HasKind s v
kind_plain slot.Top v h = h
kind_plain slot.Int v h = h
kind_plain slot.Long v h = h
kind_plain slot.Null v h = h
kind_plain (slot.Ref t) v h = h
kind_plain (slot.Uninit item) v h = h
kind_plain slot.UninitThis v h = h

pub to_plain : (xs : List Slot) (words : List Value) → HaveKinds xs words → HaveKinds (map plain xs) words
to_plain [] [] h = tt
to_plain [] (v ∷ words) h = absurd h
to_plain (x ∷ xs) [] h = absurd h
to_plain (x ∷ xs) (v ∷ words) h = (plain_kind x v h.0, to_plain xs words h.1)

pub from_plain : (xs : List Slot) (words : List Value) → HaveKinds (map plain xs) words → HaveKinds xs words
from_plain [] [] h = tt
from_plain [] (v ∷ words) h = absurd h
from_plain (x ∷ xs) [] h = absurd h
from_plain (x ∷ xs) (v ∷ words) h = (kind_plain x v h.0, from_plain xs words h.1)

-- ---- the slots of descriptors, where their classes are built in

-- the kind of a letter
abbrev letter_kind : ℕ → ℕ → Option Kind
letter_kind dims letter = option_map (kind_with dims) (primitive_base letter)

-- a parameter among the locals, and a result on the stack
abbrev parameter_slots : ℕ → BaseType → List Slot
parameter_slots dims (primitive letter) = map plain (local_slots (unwrap_or (letter_kind dims letter) kind.Int))
parameter_slots dims (object name) = reference ∷ []

abbrev slots_of_type : FieldType → List Slot
slots_of_type t = parameter_slots t.dimensions t.base

abbrev result_slots : ℕ → BaseType → List Slot
result_slots dims (primitive letter) = map plain (stack_slots (option_to_list (letter_kind dims letter)))
result_slots dims (object name) = reference ∷ []

-- the number of a built-in class
abbrev number_in : List DeclaredClass → List ℕ → Option ℕ
number_in classes name = position_from (λ (c : DeclaredClass). bytes_eq c.name name) 0 classes

abbrev pub is_known : BaseType → Bool
is_known (primitive letter) = true
is_known (object name) = is_some (number_in built_in name)

abbrev are_known : List FieldType → Bool
are_known [] = true
are_known (t ∷ types) = is_known t.base && are_known types

some_of : (o : Option ℕ) → is_some o ≡ true → (n : ℕ) × (o ≡ Some n)
some_of None h = absurd (false≢true h)
some_of (Some n) h = (n, refl)

found_still : {X : Type 0} (test : X → Bool) (i : ℕ) (xs ys : List X) (k : ℕ) → position_from test i xs ≡ Some k → position_from test i (xs ++ ys) ≡ Some k
found_still test i [] ys k h = absurd (none-some k h)
found_still test i (x ∷ xs) ys k h = by_test (test x) h (found_still test (i + 1) xs ys k) where
  by_test : (b : Bool) → cond b (Some i) (position_from test (i + 1) xs) ≡ Some k
      → (position_from test (i + 1) xs ≡ Some k → position_from test (i + 1) (xs ++ ys) ≡ Some k)
      → cond b (Some i) (position_from test (i + 1) (xs ++ ys)) ≡ Some k
  by_test true e later = e
  by_test false e later = later e

pub class_there : (given : List DeclaredClass) (name : List ℕ) → is_known (object name) ≡ true
    → (class : ℕ) × (class_number (built_in ++ given) name ≡ Some class)
class_there given name h =
    let found = some_of (number_in built_in name) h in (
      found.0,
      position_from-zero (λ (c : DeclaredClass). bytes_eq c.name name) (built_in ++ given)
          ∙ found_still (λ (c : DeclaredClass). bytes_eq c.name name) 0 built_in given found.0 found.1,
    )

class_parameter : (dims : ℕ) (o : Option ℕ) (class : ℕ) → o ≡ Some class
    → map plain (local_slots (unwrap_or (option_map (kind_with dims) (option_map of_class o)) kind.Int)) ≡ reference ∷ []
class_parameter dims o class is =
    ap (λ found. map plain (local_slots (unwrap_or (option_map (kind_with dims) (option_map of_class found)) kind.Int))) is ∙ by_dims (dims == 0) where
      by_dims : (b : Bool)
          → map plain (local_slots (cond b (kind.Ref (record { dims = 0; base = of_class class })) (kind.Ref (record { dims = dims; base = of_class class }))))
          ≡ reference ∷ []
      by_dims true = refl
      by_dims false = refl

class_result : (dims : ℕ) (o : Option ℕ) (class : ℕ) → o ≡ Some class
    → map plain (stack_slots (option_to_list (option_map (kind_with dims) (option_map of_class o)))) ≡ reference ∷ []
class_result dims o class is =
    ap (λ found. map plain (stack_slots (option_to_list (option_map (kind_with dims) (option_map of_class found))))) is ∙ by_dims (dims == 0) where
      by_dims : (b : Bool)
          → map plain (stack_slots (cond b (kind.Ref (record { dims = 0; base = of_class class })) (kind.Ref (record { dims = dims; base = of_class class })) ∷ []))
          ≡ reference ∷ []
      by_dims true = refl
      by_dims false = refl

reversed_plain : (xs : List Slot) → map plain (reverse xs) ≡ reverse (map plain xs)
reversed_plain [] = refl
reversed_plain (x ∷ xs) =
    ap (map plain) (reverse-append (x ∷ []) xs) ∙ map-append plain (reverse xs) (x ∷ []) ∙ ap (λ ys. ys ++ plain x ∷ []) (reversed_plain xs)
    ∙ sym (reverse-append (plain x ∷ []) (map plain xs))

module _ (given : List DeclaredClass) where
  abbrev all_classes : List DeclaredClass
  all_classes = built_in ++ given

  base_parameter : (dims : ℕ) (b : BaseType) → is_known b ≡ true
      → map plain (local_slots (declared_kind all_classes (record { dimensions = dims; base = b }))) ≡ parameter_slots dims b
  base_parameter dims (primitive letter) h = refl
  base_parameter dims (object name) h =
      let there = class_there given name h in class_parameter dims (class_number all_classes name) there.0 there.1

  parameters_plain : (types : List FieldType) → are_known types ≡ true
      → map plain (flat_map local_slots (map (declared_kind all_classes) types)) ≡ flat_map slots_of_type types
  parameters_plain [] h = refl
  parameters_plain (t ∷ types) h =
      let parts = and_parts (is_known t.base) (are_known types) h in
      map-append plain (local_slots (declared_kind all_classes t)) (flat_map local_slots (map (declared_kind all_classes) types))
      ∙ ap (λ ys. ys ++ map plain (flat_map local_slots (map (declared_kind all_classes) types))) (base_parameter t.dimensions t.base parts.0)
      ∙ ap (λ ys. slots_of_type t ++ ys) (parameters_plain types parts.1)

  result_plain : (dims : ℕ) (b : BaseType) → is_known b ≡ true
      → map plain (stack_slots (option_to_list (kind_in all_classes (record { dimensions = dims; base = b })))) ≡ result_slots dims b
  result_plain dims (primitive letter) h = refl
  result_plain dims (object name) h =
      let there = class_there given name h in class_result dims (class_number all_classes name) there.0 there.1

-- ---- the table

abbrev same_slot : Slot → Slot → Bool
same_slot slot.Top slot.Top = true
same_slot slot.Int slot.Int = true
same_slot slot.Long slot.Long = true
same_slot slot.Null slot.Null = true
same_slot a b = false

abbrev same_slots : List Slot → List Slot → Bool
same_slots [] [] = true
same_slots (x ∷ xs) (y ∷ ys) = same_slot x y && same_slots xs ys
same_slots xs ys = false

slot_is : (a b : Slot) → same_slot a b ≡ true → a ≡ b
slot_is slot.Top slot.Top h = refl
slot_is slot.Int slot.Int h = refl
slot_is slot.Long slot.Long h = refl
slot_is slot.Null slot.Null h = refl
slot_is a b h = absurd (false≢true h)

slots_are : (xs ys : List Slot) → same_slots xs ys ≡ true → xs ≡ ys
slots_are [] [] h = refl
slots_are [] (y ∷ ys) h = absurd (false≢true h)
slots_are (x ∷ xs) [] h = absurd (false≢true h)
slots_are (x ∷ xs) (y ∷ ys) h =
    let parts = and_parts (same_slot x y) (same_slots xs ys) h in
    ap (λ z. z ∷ xs) (slot_is x y parts.0) ∙ ap (λ zs. y ∷ zs) (slots_are xs ys parts.1)

-- the word of a receiver, where there is one
abbrev pub receiver_slot : Bool → List Slot
receiver_slot true = []
receiver_slot false = reference ∷ []

abbrev has_arguments : DeclaredMethod → Native → Bool
has_arguments m row =
    same_slots (reverse (flat_map slots_of_type (parameter_types m.descriptor)) ++ receiver_slot (is_static m.flags)) (native_slots row)
    && are_known (parameter_types m.descriptor)

abbrev has_result : DeclaredMethod → Native → Bool
has_result m row =
    same_slots (result_slots (result_type m.descriptor).dimensions (result_type m.descriptor).base) (native_result row)
    && is_known (result_type m.descriptor).base

abbrev fits_row : DeclaredMethod → Option Native → Bool
fits_row m None = true
fits_row m (Some row) = has_arguments m row && has_result m row

-- it starts no class, and has the words of its row
abbrev fits : DeclaredMethod → Bool
fits m = not (bytes_eq m.name (codes "<clinit>")) && fits_row m (option_and_then native_of_row m.row)

abbrev all_fit : List OwnedMethod → Bool
all_fit [] = true
all_fit (m ∷ methods) = fits m.method && all_fit methods

table_fits : all_fit (methods_of built_in) ≡ true
unfolding built_in methods_of
table_fits = refl

fits_at : (methods : List OwnedMethod) (n : ℕ) → all_fit methods ≡ true → fits (slice_index_or methods n (record { class = 0; method = no_method })).method ≡ true
fits_at [] n h = refl
fits_at (m ∷ methods) zero h = (and_parts (fits m.method) (all_fit methods) h).0
fits_at (m ∷ methods) (suc n) h = fits_at methods n (and_parts (fits m.method) (all_fit methods) h).1

-- ---- built-in methods have the numbers that they have in each program

pub method_same : (given : List DeclaredClass) (method : ℕ) → method < length (methods_of built_in)
    → method_at (built_in ++ given) method ≡ method_at built_in method
unfolding methods_of
method_same given method inside =
    ap (λ ms. slice_index_or ms method (record { class = 0; method = no_method })) (methods_from-append 0 built_in given)
    ∙ get_or_append_left (methods_from 0 built_in) (methods_from (0 + length built_in) given) (record { class = 0; method = no_method }) method inside

-- a built-in method takes and gives the words of its row
pub record HasRow (o : Outline) (target : ℕ) (row : Native) : Type 0 where
  pub arguments : map plain (argument_words o target) ++ receiver_slot (is_static (method_at o.classes target).method.flags) ≡ native_slots row
  pub result : map plain (result_words o target) ≡ native_result row

module _ (p : Program) (ready : CallsAreResolved p) (target : ℕ) where
  abbrev here : DeclaredMethod
  here = (method_at p.outline.classes target).method

  fits_here : target < length (methods_of built_in) → fits here ≡ true
  fits_here inside =
      ap (λ (m : OwnedMethod). fits m.method)
      (ap (λ cs. method_at cs target) ready.runnable.classes ∙ method_same ready.runnable.given target inside)
      ∙ fits_at (methods_of built_in) target table_fits

  -- a method of the name of those that start classes isn't built in
  pub start_is_given : here.name ≡ codes "<clinit>" → native_of p.outline target ≡ None
  start_is_given name = ⊎_elim
      (λ inside.
      let parts = and_parts (not (bytes_eq here.name (codes "<clinit>"))) (fits_row here (option_and_then native_of_row here.row)) (fits_here inside) in
      absurd (false≢true (sym (not-true (bytes_eq here.name (codes "<clinit>")) parts.0) ∙ (bytes_eq-Decides here.name (codes "<clinit>")).1 name)))
      (λ past. ap (option_and_then native_of_row) (ready.rows target past))
      (cases_lt target (length (methods_of built_in)))

  module _ (row : Native) (is : native_of p.outline target ≡ Some row) where
    inside_built_in : target < length (methods_of built_in)
    inside_built_in = ⊎_elim (λ inside. inside)
        (λ past. absurd (none-some row (sym (ap (option_and_then native_of_row) (ready.rows target past)) ∙ is)))
        (cases_lt target (length (methods_of built_in)))

    fits_own : has_arguments here row && has_result here row ≡ true
    fits_own =
        sym (ap (fits_row here) is)
        ∙ (and_parts (not (bytes_eq here.name (codes "<clinit>"))) (fits_row here (option_and_then native_of_row here.row)) (fits_here inside_built_in)).1

    pub has_row : HasRow p.outline target row
    has_row =
        let both = and_parts (has_arguments here row) (has_result here row) fits_own in
        let types : List FieldType = parameter_types here.descriptor in
        let arguments = and_parts (same_slots (reverse (flat_map slots_of_type types) ++ receiver_slot (is_static here.flags)) (native_slots row))
        (are_known types) both.0 in
        let given = and_parts (same_slots (result_slots (result_type here.descriptor).dimensions (result_type here.descriptor).base) (native_result row))
        (is_known (result_type here.descriptor).base) both.1 in
        let plain_arguments : map plain (argument_words p.outline target) ≡ reverse (flat_map slots_of_type types) =
        ap (λ cs. map plain (reverse (flat_map local_slots (map (declared_kind cs) types)))) ready.runnable.classes
        ∙ reversed_plain (flat_map local_slots (map (declared_kind (built_in ++ ready.runnable.given)) types))
        ∙ ap reverse (parameters_plain ready.runnable.given types arguments.1) in
        record {
          arguments = ap (λ xs. xs ++ receiver_slot (is_static here.flags)) plain_arguments
              ∙ slots_are (reverse (flat_map slots_of_type types) ++ receiver_slot (is_static here.flags)) (native_slots row) arguments.0;
          result = ap (λ cs. map plain (stack_slots (option_to_list (kind_in cs (result_type here.descriptor))))) ready.runnable.classes
              ∙ result_plain ready.runnable.given (result_type here.descriptor).dimensions (result_type here.descriptor).base given.1
              ∙ slots_are (result_slots (result_type here.descriptor).dimensions (result_type here.descriptor).base) (native_result row) given.0;
        }
