-- What holds of the built-in classes in each linked program: what the machine throws can be thrown, texts and streams have no place for references, what builds
-- texts and what can be thrown has a hidden field, and System has its streams.
use Rattle.std.proofs.Common.{◌≡◌, ℕ, ◌<◌, ◌==◌, Bool, true, false, List, [], ◌∷◌, ◌++◌, length, codes, nat_eq, Some, unwrap_or, refl, sym, ◌∙◌, ap, subst, slice_get, arith, ⊎_elim}
use Rattle.std.specs.List.{AllByRecursion, list_any}
use Rattle.std.specs.Option.{option_map}
use Rattle.std.specs.Str.{bytes_eq}
use Rattle.std.proofs.lemmas.Bool.{eqb-true, false≢true, or_cases, or_left, or_right}
use Rattle.std.proofs.lemmas.Iterator.Adapters.{position_from-zero}
use Rattle.std.proofs.lemmas.Option.{none-some}
use Rattle.fm_base.specs.declared.kinds.Kind.TheVariants as kind
use Rattle.fm_base.specs.declared.kinds.TypeRef.{TypeRef}
use Rattle.fm_code.specs.AccessFlags.{is_static}
use Rattle.fm_types.proofs.Order.{level-fits}
use Rattle.fm_types.specs.Fits.{fits_type}
use Rattle.fm_types.specs.Named.{built_in_type, throwable_type}
use Rattle.fm_types.specs.declared.slots.Slot.TheVariants as slot
use Rattle.fm_world.proofs.Completions.{among_completed, count_is, none_completed}
use Rattle.fm_world.specs.BuiltIns.{built_in, built_in_classes, class_literal_class}
use Rattle.fm_world.specs.Chains.{chain_of, class_at, is_among}
use Rattle.fm_world.specs.Descriptors.{class_number, kind_with, of_class}
use Rattle.fm_world.specs.Lookups.{is_interface_at}
use Rattle.fm_world.specs.Members.{field_at, field_kind, fields_of, kinds_of, slot_of}
use Rattle.fm_world.specs.Numbers.{type_of_class}
use Rattle.fm_world.specs.Programs.{kind_at, Outline, Program}
use Rattle.fm_world.specs.declared.declarations.DeclaredClass.{DeclaredClass}
use Rattle.fm_world.specs.inner.Completions.{AreCompleted}
use Rattle.fm_frames.proofs.BuiltInTypes.{below_named, buffer_there, builder_there, named_class, no_interfaces, throwable_there}
use Rattle.fm_frames.proofs.Programs.{class_literal-is, completed-are, string-is}
use Rattle.fm_frames.specs.NativeRows.{class_type, text_type}
use Rattle.fm_frames.specs.ObjectRows.{kind_of_field}
use Rattle.fm_frames.specs.Runnable.{IsRunnable}
use Rattle.fm_frames.specs.Sights.{has_hidden_field}
use Rattle.fm_law_sound.specs.Making.{is_built}
use Rattle.fm_law_sound.specs.Sound.{field_slot, static_slots}
use Rattle.fm_law_sound.proofs.MadeObjects.{class_literal_kinds, input_kinds, output_kinds, string_kinds}
use Rattle.fm_law_sound.proofs.ObjectRows.{static_slot_at}
use Rattle.fm_law_no_fault.specs.CellsResolved.{input_type, output_type, thrown_names}
use Rattle.fm_law_no_fault.specs.Doing.{HoldsNoCell}

-- ---- built-in classes by name

module _ (given : List DeclaredClass) where
  abbrev all : List DeclaredClass
  all = built_in ++ given

  arithmetic_there : class_number all (codes "java/lang/ArithmeticException") ≡ Some 13
  unfolding built_in
  arithmetic_there = position_from-zero (λ (c : DeclaredClass). bytes_eq c.name (codes "java/lang/ArithmeticException")) (built_in ++ given)

  store_there : class_number all (codes "java/lang/ArrayStoreException") ≡ Some 14
  unfolding built_in
  store_there = position_from-zero (λ (c : DeclaredClass). bytes_eq c.name (codes "java/lang/ArrayStoreException")) (built_in ++ given)

  cast_there : class_number all (codes "java/lang/ClassCastException") ≡ Some 15
  unfolding built_in
  cast_there = position_from-zero (λ (c : DeclaredClass). bytes_eq c.name (codes "java/lang/ClassCastException")) (built_in ++ given)

  bounds_there : class_number all (codes "java/lang/IndexOutOfBoundsException") ≡ Some 16
  unfolding built_in
  bounds_there = position_from-zero (λ (c : DeclaredClass). bytes_eq c.name (codes "java/lang/IndexOutOfBoundsException")) (built_in ++ given)

  negative_there : class_number all (codes "java/lang/NegativeArraySizeException") ≡ Some 17
  unfolding built_in
  negative_there = position_from-zero (λ (c : DeclaredClass). bytes_eq c.name (codes "java/lang/NegativeArraySizeException")) (built_in ++ given)

  null_there : class_number all (codes "java/lang/NullPointerException") ≡ Some 18
  unfolding built_in
  null_there = position_from-zero (λ (c : DeclaredClass). bytes_eq c.name (codes "java/lang/NullPointerException")) (built_in ++ given)

  array_there : class_number all (codes "java/lang/ArrayIndexOutOfBoundsException") ≡ Some 22
  unfolding built_in
  array_there = position_from-zero (λ (c : DeclaredClass). bytes_eq c.name (codes "java/lang/ArrayIndexOutOfBoundsException")) (built_in ++ given)

  string_there : class_number all (codes "java/lang/StringIndexOutOfBoundsException") ≡ Some 23
  unfolding built_in
  string_there = position_from-zero (λ (c : DeclaredClass). bytes_eq c.name (codes "java/lang/StringIndexOutOfBoundsException")) (built_in ++ given)

  change_there : class_number all (codes "java/lang/IncompatibleClassChangeError") ≡ Some 25
  unfolding built_in
  change_there = position_from-zero (λ (c : DeclaredClass). bytes_eq c.name (codes "java/lang/IncompatibleClassChangeError")) (built_in ++ given)

  clone_there : class_number all (codes "java/lang/CloneNotSupportedException") ≡ Some 28
  unfolding built_in
  clone_there = position_from-zero (λ (c : DeclaredClass). bytes_eq c.name (codes "java/lang/CloneNotSupportedException")) (built_in ++ given)

  output_there : class_number all (codes "java/io/PrintStream") ≡ Some 5
  unfolding built_in
  output_there = position_from-zero (λ (c : DeclaredClass). bytes_eq c.name (codes "java/io/PrintStream")) (built_in ++ given)

  input_there : class_number all (codes "java/io/InputStream") ≡ Some 6
  unfolding built_in
  input_there = position_from-zero (λ (c : DeclaredClass). bytes_eq c.name (codes "java/io/InputStream")) (built_in ++ given)

  -- ---- what is above them

  pub fits_throwable : (class : ℕ) → is_among 7 (chain_of all class) ≡ true → fits_type all (type_of_class class) (type_of_class 7) ≡ true
  fits_throwable class h = level-fits all (type_of_class class) (type_of_class 7) refl h

  abbrev is_hidden : ℕ → Bool
  is_hidden class = (class_at all class).hidden

  module _ (completed : AreCompleted (built_in ++ given)) where
    -- what the table has below Throwable is below it
    pub below_throwable : (class : ℕ) → class < built_in_classes → is_among 7 (chain_of built_in class) ≡ true → is_among 7 (chain_of all class) ≡ true
    below_throwable class early among = among_completed given completed class 7 (omega (arith, early, count_is)) among

    -- ---- places

    unhidden : (class : ℕ) → class < built_in_classes → list_any (λ above. (class_at all above).hidden) (chain_of built_in class) ≡ false → list_any is_hidden (chain_of all class) ≡ false
    unhidden class early none =
        none_completed given completed is_hidden (λ k f within is. (completed k f within is).not_hidden) class (omega (arith, early, count_is)) none

    none_hidden : (list_any is_hidden (chain_of all 1) ≡ false) × (list_any is_hidden (chain_of all 5) ≡ false) × (list_any is_hidden (chain_of all 6) ≡ false)
        × (list_any is_hidden (chain_of all class_literal_class) ≡ false)
    unfolding built_in chain_of
    none_hidden = (unhidden 1 (omega arith) refl, unhidden 5 (omega arith) refl, unhidden 6 (omega arith) refl, unhidden class_literal_class (omega arith) refl)

  some_hidden : (is_hidden 2 ≡ true) × (is_hidden 3 ≡ true) × (is_hidden 7 ≡ true)
  unfolding built_in
  some_hidden = (refl, refl, refl)

  any_there : (test : ℕ → Bool) (xs : List ℕ) (x : ℕ) → is_among x xs ≡ true → test x ≡ true → list_any test xs ≡ true
  any_there test [] x among is = absurd (false≢true among)
  any_there test (y ∷ xs) x among is =
      ⊎_elim
      (λ same. or_left (test y) (list_any test xs) (ap test (sym (eqb-true x y same)) ∙ is))
      (λ later. or_right (test y) (list_any test xs) (any_there test xs x later is))
      (or_cases (nat_eq x y) (is_among x xs) among)

  -- ---- the fields of System

  stream_fields : (0 < length (fields_of all)) × (1 < length (fields_of all)) × (is_static (field_at all 0).field.flags ≡ true)
      × (is_static (field_at all 1).field.flags ≡ true) × (slot_of all 0 ≡ 0) × (slot_of all 1 ≡ 1)
  unfolding built_in fields_of slot_of
  stream_fields = (omega arith, omega arith, refl, refl, refl, refl)

  stream_kinds : (field_kind all (field_at all 0).field ≡ kind.Ref (type_of_class 5)) × (field_kind all (field_at all 1).field ≡ kind.Ref (type_of_class 6))
  unfolding built_in fields_of
  stream_kinds = (
    ap (λ n. unwrap_or (option_map (kind_with 0) (option_map of_class n)) kind.Int) output_there,
    ap (λ n. unwrap_or (option_map (kind_with 0) (option_map of_class n)) kind.Int) input_there,
  )

-- ---- in each program

module _ (p : Program) (runnable : IsRunnable p) where
  abbrev o : Outline
  o = p.outline

  abbrev given : List DeclaredClass
  given = runnable.given

  throws : (name : List ℕ) (class : ℕ) → ((more : List DeclaredClass) → class_number (built_in ++ more) name ≡ Some class) → class < built_in_classes
      → is_among 7 (chain_of built_in class) ≡ true → fits_type o.classes (built_in_type o name) (throwable_type o) ≡ true
  throws name class found early among =
      ap (λ t. fits_type o.classes t (throwable_type o)) (named_class p name class runnable found)
      ∙ ap (λ t. fits_type o.classes (type_of_class class) t) (named_class p (codes "java/lang/Throwable") 7 runnable throwable_there)
      ∙ ap (λ classes. fits_type classes (type_of_class class) (type_of_class 7)) runnable.classes
      ∙ fits_throwable given class (below_throwable given (completed-are given runnable.completed) class early among)

  pub all_thrown : AllByRecursion (λ name. fits_type o.classes (built_in_type o name) (throwable_type o) ≡ true) thrown_names
  unfolding built_in chain_of
  all_thrown = (
    throws (codes "java/lang/NullPointerException") 18 null_there (omega arith) refl,
    (
      throws (codes "java/lang/ArithmeticException") 13 arithmetic_there (omega arith) refl,
      (
        throws (codes "java/lang/ClassCastException") 15 cast_there (omega arith) refl,
        (
          throws (codes "java/lang/ArrayIndexOutOfBoundsException") 22 array_there (omega arith) refl,
          (
            throws (codes "java/lang/ArrayStoreException") 14 store_there (omega arith) refl,
            (
              throws (codes "java/lang/NegativeArraySizeException") 17 negative_there (omega arith) refl,
              (
                throws (codes "java/lang/IncompatibleClassChangeError") 25 change_there (omega arith) refl,
                (
                  throws (codes "java/lang/StringIndexOutOfBoundsException") 23 string_there (omega arith) refl,
                  (throws (codes "java/lang/CloneNotSupportedException") 28 clone_there (omega arith) refl, tt),
                ),
              ),
            ),
          ),
        ),
      ),
    ),
  )

  -- ---- what lives for ever

  no_place : (class place : ℕ) (u : TypeRef) → kinds_of o.classes class ≡ [] → kind_at o.classes (type_of_class class) place ≡ Some (kind.Ref u) → ⊥
  no_place class place u none is = none-some (kind.Ref u) (sym (ap (λ kinds. slice_get kinds place) none) ∙ is)

  plain_type : (t : TypeRef) (class : ℕ) → t ≡ type_of_class class → kinds_of (built_in ++ given) class ≡ []
      → list_any (is_hidden given) (chain_of (built_in ++ given) class) ≡ false → HoldsNoCell o t
  plain_type t class is none unhidden = record {
    no_reference = λ place u found. no_place class place u (ap (λ all. kinds_of all class) runnable.classes ∙ none)
        (sym (ap (λ w. kind_at o.classes w place) is) ∙ found);
    no_text = ap (λ w. has_hidden_field o w) is
        ∙ ap (λ (all : List DeclaredClass). list_any (λ above. (class_at all above).hidden) (chain_of all class)) runnable.classes ∙ unhidden;
  }

  pub text_is_plain : HoldsNoCell o (text_type o)
  text_is_plain = plain_type (text_type o) 1 (string-is o given runnable.classes) (string_kinds given (completed-are given runnable.completed)) (none_hidden given (completed-are given runnable.completed)).0

  pub class_is_plain : HoldsNoCell o (class_type o)
  class_is_plain = plain_type (class_type o) class_literal_class (class_literal-is o given runnable.classes) (class_literal_kinds given (completed-are given runnable.completed)) (none_hidden given (completed-are given runnable.completed)).3

  pub output_is_plain : HoldsNoCell o (output_type o)
  output_is_plain = plain_type (output_type o) 5 (named_class p (codes "java/io/PrintStream") 5 runnable output_there) (output_kinds given (completed-are given runnable.completed)) (none_hidden given (completed-are given runnable.completed)).1

  pub input_is_plain : HoldsNoCell o (input_type o)
  input_is_plain = plain_type (input_type o) 6 (named_class p (codes "java/io/InputStream") 6 runnable input_there) (input_kinds given (completed-are given runnable.completed)) (none_hidden given (completed-are given runnable.completed)).2

  -- ---- hidden fields

  has_hidden : (class above : ℕ) → is_hidden given above ≡ true → is_among above (chain_of o.classes class) ≡ true
      → has_hidden_field o (type_of_class class) ≡ true
  has_hidden class above is among =
      any_there given (λ k. (class_at o.classes k).hidden) (chain_of o.classes class) above among
      (ap (λ (all : List DeclaredClass). (class_at all above).hidden) runnable.classes ∙ is)

  hidden_below : (name : List ℕ) (above : ℕ) → (above == 0) ≡ false → ((more : List DeclaredClass) → class_number (built_in ++ more) name ≡ Some above)
      → ((more : List DeclaredClass) → is_interface_at (built_in ++ more) above ≡ false) → is_hidden given above ≡ true → (t : TypeRef)
      → fits_type o.classes t (built_in_type o name) ≡ true → has_hidden_field o t ≡ true
  hidden_below name above other found no_interface is t fits =
      let under = below_named p name above runnable other found no_interface t fits in
      ap (λ w. has_hidden_field o w) under.1 ∙ has_hidden under.0 above is under.2

  pub builders_hide : (t : TypeRef) → is_built o t ≡ true → has_hidden_field o t ≡ true
  builders_hide t built =
      ⊎_elim
      (λ fits. hidden_below (codes "java/lang/StringBuilder") 2 refl builder_there (λ more. (no_interfaces more).0) (some_hidden given).0 t fits)
      (λ fits. hidden_below (codes "java/lang/StringBuffer") 3 refl buffer_there (λ more. (no_interfaces more).1) (some_hidden given).1 t fits)
      (or_cases (fits_type o.classes t (built_in_type o (codes "java/lang/StringBuilder"))) (fits_type o.classes t (built_in_type o (codes "java/lang/StringBuffer"))) built)

  pub throwables_hide : (t : TypeRef) → fits_type o.classes t (throwable_type o) ≡ true → has_hidden_field o t ≡ true
  throwables_hide t fits =
      hidden_below (codes "java/lang/Throwable") 7 refl throwable_there (λ more. (no_interfaces more).2) (some_hidden given).2 t fits

  -- ---- streams

  stream_slot : (field : ℕ) (name : List ℕ) → field < length (fields_of o.classes) → is_static (field_at o.classes field).field.flags ≡ true
      → slot_of o.classes field ≡ field → kind_of_field o field ≡ kind.Ref (built_in_type o name)
      → slice_get (static_slots o) field ≡ Some (slot.Ref (built_in_type o name))
  stream_slot field name within static place kind_is =
      ap (λ n. slice_get (static_slots o) n) (sym place) ∙ static_slot_at o field within static ∙ ap (λ k. Some (field_slot k)) kind_is

  pub output_slot : slice_get (static_slots o) 0 ≡ Some (slot.Ref (output_type o))
  output_slot =
      let fields = stream_fields given in
      stream_slot 0 (codes "java/io/PrintStream") (subst (λ classes. 0 < length (fields_of classes)) (sym runnable.classes) fields.0)
      (ap (λ classes. is_static (field_at classes 0).field.flags) runnable.classes ∙ fields.2) (ap (λ classes. slot_of classes 0) runnable.classes ∙ fields.4)
      (ap (λ classes. field_kind classes (field_at classes 0).field) runnable.classes ∙ (stream_kinds given).0
      ∙ ap (λ t. kind.Ref t) (sym (named_class p (codes "java/io/PrintStream") 5 runnable output_there)))

  pub input_slot : slice_get (static_slots o) 1 ≡ Some (slot.Ref (input_type o))
  input_slot =
      let fields = stream_fields given in
      stream_slot 1 (codes "java/io/InputStream") (subst (λ classes. 1 < length (fields_of classes)) (sym runnable.classes) fields.1)
      (ap (λ classes. is_static (field_at classes 1).field.flags) runnable.classes ∙ fields.3) (ap (λ classes. slot_of classes 1) runnable.classes ∙ fields.5)
      (ap (λ classes. field_kind classes (field_at classes 1).field) runnable.classes ∙ (stream_kinds given).1
      ∙ ap (λ t. kind.Ref t) (sym (named_class p (codes "java/io/InputStream") 6 runnable input_there)))
