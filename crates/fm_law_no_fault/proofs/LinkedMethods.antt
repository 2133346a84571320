-- The built-in methods of each linked program take what their rows look at, and give what these give: by computation over all of them.
use Rattle.std.proofs.Common.{◌≡◌, ℕ, zero, suc, ◌<◌, ◌≤◌, ◌==◌, ◌&&◌, ◌||◌, ◌⊎◌, inl, inr, not, cond, Bool, true, false, List, [], ◌∷◌, ◌++◌, length, codes, nat_eq, nat_lt, Option, Some, None, option_and_then, option_to_list, unwrap_or, refl, sym, ◌∙◌, ap, subst, slice_index_or, eqb-true, ⊎_elim, take, drop, map, reverse, arith, ◌-◌}
use Rattle.std.specs.List.{AllByRecursion, flat_map, list_all}
use Rattle.std.proofs.Math.Seq.{drop-append_seam, take-append_seam}
use Rattle.std.proofs.lemmas.List.{append_assoc, append-nil, length-append, reverse-append}
use Rattle.std.proofs.lemmas.List.Concat.{flat_map-cons}
use Rattle.std.specs.Option.{option_map}
use Rattle.std.specs.Str.{bytes_eq}
use Rattle.std.proofs.lemmas.Bool.{and_parts, cases_lt, false≢true, ltb-true, or_cases, or_left, or_right}
use Rattle.std.proofs.lemmas.Option.{none-some}
use Rattle.std.proofs.lemmas.Slice.Eq.{bytes_eq-Decides}
use Rattle.fm_base.specs.declared.kinds.Kind.{Kind}
use Rattle.fm_base.specs.declared.kinds.Kind.TheVariants as kind
use Rattle.fm_base.specs.declared.kinds.TypeRef.{TypeRef}
use Rattle.fm_code.specs.AccessFlags.{is_static}
use Rattle.fm_code.specs.Names.{FieldType}
use Rattle.fm_types.proofs.Order.{type-trans}
use Rattle.fm_types.specs.Fits.{AreTree, fits_type}
use Rattle.fm_types.specs.Named.{built_in_type, throwable_type}
use Rattle.fm_types.specs.States.{local_slots, stack_slots}
use Rattle.fm_types.specs.declared.slots.Slot.{Slot}
use Rattle.fm_types.specs.declared.slots.Slot.TheVariants as slot
use Rattle.fm_world.specs.BuiltIns.{built_in, built_in_classes, class_literal_class, class_literal_name, object_name, string_name}
use Rattle.fm_world.proofs.Completions.{count_is, self_built_in}
use Rattle.fm_world.specs.Chains.{chain_of, is_among, self_of}
use Rattle.fm_world.specs.Declarations.{no_method}
use Rattle.fm_world.specs.Descriptors.{class_number, declared_kind, field_type, first_type, kind_in, kind_with, of_class, parameter_kinds, parameter_types, result_kind, result_type, types_from, types_in}
use Rattle.fm_world.specs.Members.{method_at, methods_of, OwnedMethod}
use Rattle.fm_world.specs.Numbers.{type_of_class}
use Rattle.fm_world.specs.Programs.{Outline, Program}
use Rattle.fm_world.specs.declared.declarations.DeclaredClass.{DeclaredClass}
use Rattle.fm_frames.proofs.BuiltInTypes.{buffer_there, builder_there, named_class, object_there, throwable_there}
use Rattle.fm_frames.proofs.Programs.{class_literal_number, completed-are, string_number}
use Rattle.fm_frames.specs.CallRows.{native_of}
use Rattle.fm_frames.specs.NativeRows.{class_type, text_type}
use Rattle.fm_frames.specs.Natives.{AGiven, AnObject, AShown, BuilderReceiver, ClassLiteral, ClassReceiver, from_top, Given, has_receiver, native_of_row, native_type, Nothing, OwnObject, Receiver, Returned, SomeChars, TextReceiver, ThrowableReceiver}
use Rattle.fm_frames.specs.declared.natives.Native.{Native}
use Rattle.fm_frames.specs.declared.natives.Shown.{Shown}
use Rattle.fm_frames.specs.declared.natives.Shown.TheVariants.{Boolean as ShownBoolean, Char as ShownChar, Int as ShownInt, Long as ShownLong, Text as ShownText}
use Rattle.fm_frames.specs.Runnable.{IsRunnable}
use Rattle.fm_law_sound.proofs.BuiltInMethods.{method_same}
use Rattle.fm_law_no_fault.specs.CellsResolved.{arguments_asked, given_asked, result_given, returned_asked, suits, TakesAsAsked}
use Rattle.fm_law_no_fault.proofs.LinkedTypes.{below_throwable, fits_throwable}

-- ---- the descriptors of the rows

abbrev object_text : List ℕ
object_text = codes "Ljava/lang/Object;"

abbrev string_text : List ℕ
string_text = codes "Ljava/lang/String;"

abbrev builder_text : Bool → List ℕ
builder_text false = codes "Ljava/lang/StringBuilder;"
builder_text true = codes "Ljava/lang/StringBuffer;"

abbrev shown_text : Shown → List ℕ
shown_text ShownInt = codes "I"
shown_text ShownLong = codes "J"
shown_text ShownChar = codes "C"
shown_text ShownBoolean = codes "Z"
shown_text ShownText = string_text

abbrev given_text : Given → List ℕ
given_text (AShown shown) = shown_text shown
given_text SomeChars = codes "[C"
given_text AnObject = object_text

abbrev arguments_text : List Given → List ℕ
arguments_text [] = []
arguments_text (given ∷ arguments) = given_text given ++ arguments_text arguments

-- where it is given whether the class is StringBuffer
abbrev returned_text : Bool → Returned → List ℕ
returned_text buffer Nothing = codes "V"
returned_text buffer (AGiven given) = given_text given
returned_text buffer OwnObject = builder_text buffer
returned_text buffer ClassLiteral = codes "Ljava/lang/Class;"

abbrev descriptor_of : Bool → Native → List ℕ
descriptor_of buffer row = codes "(" ++ arguments_text (native_type row).arguments ++ codes ")" ++ returned_text buffer (native_type row).result

-- the classes of what can be thrown
abbrev throwables : List ℕ
throwables = 7 ∷ 9 ∷ 10 ∷ 11 ∷ 12 ∷ 13 ∷ 14 ∷ 15 ∷ 16 ∷ 17 ∷ 18 ∷ 19 ∷ 20 ∷ 21 ∷ 22 ∷ 23 ∷ 24 ∷ 25 ∷ 28 ∷ []

-- which classes declare methods with the receiver
abbrev declares : ℕ → Receiver → Bool
declares class TextReceiver = class == 1
declares class BuilderReceiver = (class == 2) || (class == 3)
declares class ThrowableReceiver = is_among class throwables
declares class ClassReceiver = class == class_literal_class
declares class other = true

-- which classes declare methods that return an object of their own
abbrev declares_own : ℕ → Returned → Bool
declares_own class OwnObject = (class == 2) || (class == 3)
declares_own class result = true

-- ---- the types that descriptors name

abbrev field_of : Given → FieldType
field_of given = field_type (given_text given)

abbrev field_returned : Bool → Returned → FieldType
field_returned buffer result = field_type (returned_text buffer result)

read_given : (given : Given) (rest : List ℕ) → types_from 0 None (given_text given ++ rest) ≡ field_of given ∷ types_from 0 None rest
read_given (AShown ShownInt) rest = refl
read_given (AShown ShownLong) rest = refl
read_given (AShown ShownChar) rest = refl
read_given (AShown ShownBoolean) rest = refl
read_given (AShown ShownText) rest = refl
read_given SomeChars rest = refl
read_given AnObject rest = refl

read_arguments : (arguments : List Given) (rest : List ℕ)
    → types_from 0 None (arguments_text arguments ++ rest) ≡ map field_of arguments ++ types_from 0 None rest
read_arguments [] rest = refl
read_arguments (given ∷ arguments) rest =
    ap (types_from 0 None) (append_assoc (given_text given) (arguments_text arguments) rest) ∙ read_given given (arguments_text arguments ++ rest)
    ∙ ap (λ types. field_of given ∷ types) (read_arguments arguments rest)

read_returned : (buffer : Bool) (result : Returned) → types_from 0 None (codes ")" ++ returned_text buffer result) ≡ field_returned buffer result ∷ []
read_returned buffer Nothing = refl
read_returned buffer (AGiven (AShown ShownInt)) = refl
read_returned buffer (AGiven (AShown ShownLong)) = refl
read_returned buffer (AGiven (AShown ShownChar)) = refl
read_returned buffer (AGiven (AShown ShownBoolean)) = refl
read_returned buffer (AGiven (AShown ShownText)) = refl
read_returned buffer (AGiven SomeChars) = refl
read_returned buffer (AGiven AnObject) = refl
read_returned true OwnObject = refl
read_returned false OwnObject = refl
read_returned buffer ClassLiteral = refl

-- its types are those of the arguments and of the result
types_are : (buffer : Bool) (row : Native)
    → types_in (descriptor_of buffer row) ≡ map field_of (native_type row).arguments ++ field_returned buffer (native_type row).result ∷ []
types_are buffer row =
    ap (types_from 0 None) (append_assoc (arguments_text (native_type row).arguments) (codes ")") (returned_text buffer (native_type row).result))
    ∙ read_arguments (native_type row).arguments (codes ")" ++ returned_text buffer (native_type row).result)
    ∙ ap (λ types. map field_of (native_type row).arguments ++ types) (read_returned buffer (native_type row).result)

one_less : (types : List FieldType) (last : FieldType) → length (types ++ last ∷ []) - 1 ≡ length types
one_less types last = let count = length-append types (last ∷ []) in omega (arith, count)

parameters_are : (buffer : Bool) (row : Native) → parameter_types (descriptor_of buffer row) ≡ map field_of (native_type row).arguments
parameters_are buffer row =
    let arguments : List FieldType = map field_of (native_type row).arguments in
    let result : FieldType = field_returned buffer (native_type row).result in
    ap (λ types. take (length types - 1) types) (types_are buffer row) ∙ ap (λ n. take n (arguments ++ result ∷ [])) (one_less arguments result)
    ∙ take-append_seam arguments (result ∷ [])

result_type_is : (buffer : Bool) (row : Native) → result_type (descriptor_of buffer row) ≡ field_returned buffer (native_type row).result
result_type_is buffer row =
    let arguments : List FieldType = map field_of (native_type row).arguments in
    let result : FieldType = field_returned buffer (native_type row).result in
    ap (λ types. first_type (drop (length types - 1) types)) (types_are buffer row)
    ∙ ap (λ n. first_type (drop n (arguments ++ result ∷ []))) (one_less arguments result)
    ∙ ap first_type (drop-append_seam arguments (result ∷ []))

-- ---- the table

abbrev same_bool : Bool → Bool → Bool
same_bool a b = cond a b (not b)

bools_same : (a b : Bool) → same_bool a b ≡ true → a ≡ b
bools_same true true is = refl
bools_same true false is = absurd (false≢true is)
bools_same false true is = absurd (false≢true is)
bools_same false false is = refl

abbrev fits_row : OwnedMethod → Option Native → Bool
fits_row m None = true
fits_row m (Some row) =
    bytes_eq m.method.descriptor (descriptor_of (m.class == 3) row)
    && (same_bool (is_static m.method.flags) (not (has_receiver row)) && (declares m.class (native_type row).receiver && declares_own m.class (native_type row).result))

abbrev fits_it : OwnedMethod → Bool
fits_it m = nat_lt m.class built_in_classes && fits_row m (option_and_then native_of_row m.method.row)

abbrev all_fit : List OwnedMethod → Bool
all_fit [] = true
all_fit (m ∷ methods) = fits_it m && all_fit methods

table_fits : all_fit (methods_of built_in) ≡ true
unfolding built_in methods_of
table_fits = refl

fits_at : (methods : List OwnedMethod) (n : ℕ) → all_fit methods ≡ true → fits_it (slice_index_or methods n (record { class = 0; method = no_method })) ≡ true
fits_at [] n h = refl
fits_at (m ∷ methods) zero h = (and_parts (fits_it m) (all_fit methods) h).0
fits_at (m ∷ methods) (suc n) h = fits_at methods n (and_parts (fits_it m) (all_fit methods) h).1

-- ---- what descriptors mean

module _ (o : Outline) (more : List DeclaredClass) (classes : o.classes ≡ built_in ++ more) where
  -- the words of a value of a class by its name
  abbrev slots_by : Option ℕ → List Slot
  slots_by n = stack_slots (unwrap_or (option_map (kind_with 0) (option_map of_class n)) kind.Int ∷ [])

  abbrev result_by : Option ℕ → List Slot
  result_by n = stack_slots (option_to_list (option_map (kind_with 0) (option_map of_class n)))

  number_here : (name : List ℕ) (class : ℕ) → class_number (built_in ++ more) name ≡ Some class → class_number o.classes name ≡ Some class
  number_here name class is = ap (λ all. class_number all name) classes ∙ is

  string_here : class_number o.classes string_name ≡ Some 1
  string_here = number_here string_name 1 (string_number more)

  literal_here : class_number o.classes class_literal_name ≡ Some class_literal_class
  literal_here = number_here class_literal_name class_literal_class (class_literal_number more)

  object_here : class_number o.classes object_name ≡ Some 0
  object_here = number_here object_name 0 (object_there more)

  -- a class is named by its type
  type_here : (name : List ℕ) (class : ℕ) → class_number o.classes name ≡ Some class → slot.Ref (type_of_class class) ∷ [] ≡ slot.Ref (built_in_type o name) ∷ []
  type_here name class is = ap (λ n. slot.Ref (type_of_class (unwrap_or n 0)) ∷ []) (sym is)

  one_class : (name : List ℕ) (class : ℕ) → class_number o.classes name ≡ Some class → slots_by (class_number o.classes name) ≡ slot.Ref (built_in_type o name) ∷ []
  one_class name class is = ap slots_by is ∙ type_here name class is

  result_class : (name : List ℕ) (class : ℕ) → class_number o.classes name ≡ Some class → result_by (class_number o.classes name) ≡ slot.Ref (built_in_type o name) ∷ []
  result_class name class is = ap result_by is ∙ type_here name class is

  abbrev Arguments : Bool → Native → Type 0
  Arguments buffer row = stack_slots (parameter_kinds o.classes (descriptor_of buffer row)) ≡ arguments_asked o row

  -- the words of an argument on the stack
  given_is : (given : Given) → stack_slots (declared_kind o.classes (field_of given) ∷ []) ≡ given_asked o given
  given_is (AShown ShownInt) = refl
  given_is (AShown ShownLong) = refl
  given_is (AShown ShownChar) = refl
  given_is (AShown ShownBoolean) = refl
  given_is (AShown ShownText) = one_class string_name 1 string_here
  given_is SomeChars = refl
  given_is AnObject = one_class object_name 0 object_here

  given_alone : (given : Given) → reverse (local_slots (declared_kind o.classes (field_of given))) ≡ given_asked o given
  given_alone given =
      let k : Kind = declared_kind o.classes (field_of given) in
      sym (ap reverse (flat_map-cons local_slots k [] ∙ append-nil (local_slots k))) ∙ given_is given

  all_given : (arguments : List Given) → stack_slots (map (declared_kind o.classes) (map field_of arguments)) ≡ from_top (given_asked o) arguments
  all_given [] = refl
  all_given (given ∷ []) = given_is given
  all_given (given ∷ next ∷ arguments) =
      let k : Kind = declared_kind o.classes (field_of given) in
      let kinds : List Kind = map (declared_kind o.classes) (map field_of (next ∷ arguments)) in
      ap reverse (flat_map-cons local_slots k kinds) ∙ reverse-append (local_slots k) (flat_map local_slots kinds)
      ∙ ap (λ slots. slots ++ reverse (local_slots k)) (all_given (next ∷ arguments))
      ∙ ap (λ slots. from_top (given_asked o) (next ∷ arguments) ++ slots) (given_alone given)

  arguments_are : (buffer : Bool) (row : Native) → Arguments buffer row
  arguments_are buffer row =
      ap (λ types. stack_slots (map (declared_kind o.classes) types)) (parameters_are buffer row) ∙ all_given (native_type row).arguments

  abbrev Result : ℕ → Bool → Native → Type 0
  Result class buffer row = stack_slots (option_to_list (result_kind o.classes (descriptor_of buffer row))) ≡ result_given o (type_of_class class) row

  -- append returns its own class
  append_is : (class : ℕ) (buffer : Bool) → (class == 3) ≡ buffer → ((class == 2) || (class == 3)) ≡ true
      → result_by (class_number o.classes (cond buffer (codes "java/lang/StringBuffer") (codes "java/lang/StringBuilder"))) ≡ slot.Ref (type_of_class class) ∷ []
  append_is class true here is =
      ap result_by (number_here (codes "java/lang/StringBuffer") 3 (buffer_there more)) ∙ ap (λ n. slot.Ref (type_of_class n) ∷ []) (sym (eqb-true class 3 here))
  append_is class false here is =
      ap result_by (number_here (codes "java/lang/StringBuilder") 2 (builder_there more))
      ∙ ap (λ n. slot.Ref (type_of_class n) ∷ [])
      (sym (⊎_elim (λ two. eqb-true class 2 two) (λ three. absurd (false≢true (sym here ∙ three))) (or_cases (class == 2) (class == 3) is)))

  result_given_is : (given : Given) → stack_slots (option_to_list (kind_in o.classes (field_of given))) ≡ given_asked o given
  result_given_is (AShown ShownInt) = refl
  result_given_is (AShown ShownLong) = refl
  result_given_is (AShown ShownChar) = refl
  result_given_is (AShown ShownBoolean) = refl
  result_given_is (AShown ShownText) = result_class string_name 1 string_here
  result_given_is SomeChars = refl
  result_given_is AnObject = result_class object_name 0 object_here

  returned_is : (class : ℕ) (buffer : Bool) → (class == 3) ≡ buffer → (result : Returned) → declares_own class result ≡ true
      → stack_slots (option_to_list (kind_in o.classes (field_returned buffer result))) ≡ returned_asked o (type_of_class class) result
  returned_is class buffer here Nothing is = refl
  returned_is class buffer here (AGiven given) is = result_given_is given
  returned_is class true here OwnObject is = append_is class true here is
  returned_is class false here OwnObject is = append_is class false here is
  returned_is class buffer here ClassLiteral is = result_class class_literal_name class_literal_class literal_here

  result_are : (class : ℕ) (buffer : Bool) → (class == 3) ≡ buffer → (row : Native) → declares_own class (native_type row).result ≡ true → Result class buffer row
  result_are class buffer here row is =
      ap (λ t. stack_slots (option_to_list (kind_in o.classes t))) (result_type_is buffer row) ∙ returned_is class buffer here (native_type row).result is

-- ---- receivers

all_among : (P : ℕ → Type 0) (xs : List ℕ) (x : ℕ) → is_among x xs ≡ true → AllByRecursion P xs → P x
all_among P [] x among all = absurd (false≢true among)
all_among P (y ∷ xs) x among all =
    ⊎_elim (λ same. subst P (sym (eqb-true x y same)) all.0) (λ later. all_among P xs x later all.1) (or_cases (nat_eq x y) (is_among x xs) among)

module _ (p : Program) (runnable : IsRunnable p) (tree : AreTree p.outline.classes) where
  abbrev out : Outline
  out = p.outline

  abbrev given : List DeclaredClass
  given = runnable.given

  -- the table has it below Throwable
  abbrev is_thrown : ℕ → Bool
  is_thrown class = nat_lt class built_in_classes && is_among 7 (chain_of built_in class)

  thrown_below : (classes : List ℕ) → list_all is_thrown classes ≡ true → AllByRecursion (λ class. is_among 7 (chain_of (built_in ++ given) class) ≡ true) classes
  thrown_below [] e = tt
  thrown_below (class ∷ classes) e =
      let both = and_parts (is_thrown class) (list_all is_thrown classes) e in
      let here = and_parts (nat_lt class built_in_classes) (is_among 7 (chain_of built_in class)) both.0 in
      (below_throwable given (completed-are given runnable.completed) class (ltb-true class built_in_classes here.0) here.1, thrown_below classes both.1)

  all_below : AllByRecursion (λ class. is_among 7 (chain_of (built_in ++ given) class) ≡ true) throwables
  unfolding built_in chain_of
  all_below = thrown_below throwables refl

  text_fits : (class : ℕ) → (class == 1) ≡ true → (t : TypeRef) → fits_type out.classes t (type_of_class class) ≡ true → fits_type out.classes t (text_type out) ≡ true
  text_fits class is t fits =
      subst (λ w. fits_type out.classes t w ≡ true)
      (ap type_of_class (eqb-true class 1 is) ∙ sym (named_class p string_name 1 runnable (λ more. string_number more))) fits

  literal_fits : (class : ℕ) → (class == class_literal_class) ≡ true → (t : TypeRef) → fits_type out.classes t (type_of_class class) ≡ true
      → fits_type out.classes t (class_type out) ≡ true
  literal_fits class is t fits =
      subst (λ w. fits_type out.classes t w ≡ true)
      (ap type_of_class (eqb-true class class_literal_class is) ∙ sym (named_class p class_literal_name class_literal_class runnable (λ more. class_literal_number more))) fits

  builder_fits : (class : ℕ) → ((class == 2) || (class == 3)) ≡ true → (t : TypeRef) → fits_type out.classes t (type_of_class class) ≡ true
      → (fits_type out.classes t (built_in_type out (codes "java/lang/StringBuilder")) || fits_type out.classes t (built_in_type out (codes "java/lang/StringBuffer")))
      ≡ true
  builder_fits class is t fits =
      let named = λ (name : List ℕ) (number : ℕ) (same : (class == number) ≡ true) (found : (more : List DeclaredClass) → class_number (built_in ++ more) name ≡ Some number).
      subst (λ w. fits_type out.classes t w ≡ true) (ap type_of_class (eqb-true class number same) ∙ sym (named_class p name number runnable found)) fits in
      ⊎_elim
      (λ two. or_left (fits_type out.classes t (built_in_type out (codes "java/lang/StringBuilder"))) (fits_type out.classes t (built_in_type out (codes "java/lang/StringBuffer")))
      (named (codes "java/lang/StringBuilder") 2 two builder_there))
      (λ three. or_right (fits_type out.classes t (built_in_type out (codes "java/lang/StringBuilder"))) (fits_type out.classes t (built_in_type out (codes "java/lang/StringBuffer")))
      (named (codes "java/lang/StringBuffer") 3 three buffer_there))
      (or_cases (class == 2) (class == 3) is)

  throwable_fits : (class : ℕ) → is_among class throwables ≡ true → (t : TypeRef) → fits_type out.classes t (type_of_class class) ≡ true
      → fits_type out.classes t (throwable_type out) ≡ true
  throwable_fits class is t fits =
      let above = all_among (λ n. is_among 7 (chain_of (built_in ++ given) n) ≡ true) throwables class is all_below in
      let higher : fits_type out.classes (type_of_class class) (type_of_class 7) ≡ true =
      ap (λ classes. fits_type classes (type_of_class class) (type_of_class 7)) runnable.classes ∙ fits_throwable given class above in
      subst (λ w. fits_type out.classes t w ≡ true) (sym (named_class p (codes "java/lang/Throwable") 7 runnable throwable_there))
      (type-trans out.classes tree t (type_of_class class) (type_of_class 7) fits higher)

  receives : (class : ℕ) (receiver : Receiver) → declares class receiver ≡ true → (t : TypeRef) → fits_type out.classes t (type_of_class class) ≡ true
      → suits out receiver t ≡ true
  receives class TextReceiver is t fits = text_fits class is t fits
  receives class BuilderReceiver is t fits = builder_fits class is t fits
  receives class ThrowableReceiver is t fits = throwable_fits class is t fits
  receives class ClassReceiver is t fits = literal_fits class is t fits
  receives class other is t fits = refl

  -- ---- all together

  abbrev here : ℕ → OwnedMethod
  here method = method_at out.classes method

  fits_here : (method : ℕ) → method < length (methods_of built_in) → fits_it (here method) ≡ true
  fits_here method inside =
      ap fits_it (ap (λ classes. method_at classes method) runnable.classes ∙ method_same given method inside) ∙ fits_at (methods_of built_in) method table_fits

  -- a built-in class completes no other one
  own_objects : (class : ℕ) → class < built_in_classes → self_of out.classes class ≡ class
  own_objects class early = ap (λ classes. self_of classes class) runnable.classes ∙ self_built_in given class (omega (arith, early, count_is))

  asked_by : (method : ℕ) (row : Native) → self_of out.classes (here method).class ≡ (here method).class → fits_row (here method) (Some row) ≡ true
      → TakesAsAsked out method row
  asked_by method row own fits =
      let m : OwnedMethod = here method in
      let first = and_parts (bytes_eq m.method.descriptor (descriptor_of (m.class == 3) row)) (same_bool (is_static m.method.flags) (not (has_receiver row)) && (declares m.class (native_type row).receiver && declares_own m.class (native_type row).result)) fits in
      let second = and_parts (same_bool (is_static m.method.flags) (not (has_receiver row))) (declares m.class (native_type row).receiver && declares_own m.class (native_type row).result) first.1 in
      let third = and_parts (declares m.class (native_type row).receiver) (declares_own m.class (native_type row).result) second.1 in
      let descriptor : m.method.descriptor ≡ descriptor_of (m.class == 3) row =
      (bytes_eq-Decides m.method.descriptor (descriptor_of (m.class == 3) row)).0 first.0 in
      record {
        arguments = ap (λ d. stack_slots (parameter_kinds out.classes d)) descriptor ∙ arguments_are out given runnable.classes (m.class == 3) row;
        result = ap (λ d. stack_slots (option_to_list (result_kind out.classes d))) descriptor
            ∙ result_are out given runnable.classes m.class (m.class == 3) refl row third.1
            ∙ ap (λ class. result_given out (type_of_class class) row) (sym own);
        static = bools_same (is_static m.method.flags) (not (has_receiver row)) second.0;
        receiver = λ instance t fits_class.
            receives m.class (native_type row).receiver third.0 t (subst (λ class. fits_type out.classes t (type_of_class class) ≡ true) own fits_class);
      }

  pub built_ins_asked : ((method : ℕ) → length (methods_of built_in) ≤ method → (here method).method.row ≡ None) → (method : ℕ) (row : Native)
      → native_of out method ≡ Some row → TakesAsAsked out method row
  built_ins_asked rows method row native = by_place (cases_lt method (length (methods_of built_in))) where
    by_place : (method < length (methods_of built_in)) ⊎ (length (methods_of built_in) ≤ method) → TakesAsAsked out method row
    by_place (inl inside) =
        let parts = and_parts (nat_lt (here method).class built_in_classes) (fits_row (here method) (option_and_then native_of_row (here method).method.row)) (fits_here method inside) in
        asked_by method row (own_objects (here method).class (ltb-true (here method).class built_in_classes parts.0)) (sym (ap (fits_row (here method)) native) ∙ parts.1)
    by_place (inr past) = absurd (none-some row (sym (ap (option_and_then native_of_row) (rows method past)) ∙ native))
