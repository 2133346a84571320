-- What built-in methods take and give: the words and the ends that their rows work on, by computation over all of them.
use Rattle.std.proofs.Common.{◌≡◌, ℕ, zero, suc, ◌+◌, ◌<◌, ◌⊎◌, ◌==◌, ◌&&◌, ◌||◌, not, cond, Bool, true, false, List, [], ◌∷◌, ◌++◌, length, map, Option, Some, None, codes, option_and_then, IsSomeAnd, refl, sym, ◌∙◌, ap, subst, slice_get, slice_index_or, sum_by, eqb-true, ⊎_elim}
use Rattle.std.specs.Prelude.{option_map, unwrap_or}
use Rattle.std.specs.List.{flat_map}
use Rattle.std.specs.Str.{bytes_eq}
use Rattle.std.proofs.lemmas.Bool.{and_parts, false≢true, not-true, or_cases}
use Rattle.std.proofs.lemmas.List.Sums.{sum_by-cons}
use Rattle.std.proofs.lemmas.Slice.Eq.{bytes_eq-Decides}
use Rattle.std.proofs.lemmas.Option.{option_and_then_some}
use Rattle.fm_base.specs.declared.kinds.Kind.{Kind}
use Rattle.fm_base.specs.declared.kinds.Kind.TheVariants as kind
use Rattle.fm_base.specs.declared.kinds.TypeRef.{TypeRef}
use Rattle.fm_code.specs.AccessFlags.{is_static}
use Rattle.fm_code.specs.Names.{BaseType, FieldType, object, primitive}
use Rattle.fm_conn.specs.Pairs.{IsEnd}
use Rattle.fm_conn.specs.Rows as pairs
use Rattle.fm_conn.specs.declared.ends.End2.TheVariants as end
use Rattle.fm_types.specs.CallRows.{is_constructor}
use Rattle.fm_types.specs.Named.{parameters_of, this_class}
use Rattle.fm_types.specs.States.{is_reference, local_slots}
use Rattle.fm_types.specs.Typed.{receiver_slots}
use Rattle.fm_types.specs.declared.slots.Slot as slots
use Rattle.fm_types.specs.declared.slots.Slot.TheVariants as slot
use Rattle.fm_world.specs.BuiltIns.{built_in, object_name, class_literal_class, class_literal_name, string_name}
use Rattle.fm_world.specs.Declarations.{no_method}
use Rattle.fm_base.specs.Kinds.{kind_words}
use Rattle.fm_world.specs.Descriptors.{argument_word_count, base_in, class_number, declared_kind, kind_with, of_class, parameter_types, result_type}
use Rattle.fm_world.specs.Members.{method_at, methods_of, OwnedMethod}
use Rattle.fm_world.specs.Numbers.{type_of_class}
use Rattle.fm_world.specs.Programs.{Outline}
use Rattle.fm_world.specs.declared.declarations.DeclaredClass.{DeclaredClass}
use Rattle.fm_world.specs.declared.declarations.DeclaredMethod.{DeclaredMethod}
use Rattle.fm_frames.proofs.BuiltInTypes.{builder_there, buffer_there, object_there}
use Rattle.fm_frames.proofs.Programs.{class_literal_number, string_number}
use Rattle.fm_frames.specs.CallRows.{native_of, words_of_arguments}
use Rattle.fm_frames.specs.Natives.{native_of_row}
use Rattle.fm_frames.specs.declared.natives.Native.{Native}
use Rattle.fm_frames.specs.declared.natives.Native.TheVariants.{Append, FreeMeFree, FreeMeFreeChain, FreeMeLink, GetMessage, ObjectClone, ObjectGetClass, StringToString, ThrowableInitOf}
use Rattle.fm_same.specs.Covering.{is_free_me, native_words, NativeEnds}
use Rattle.fm_law_sound.proofs.BuiltInMethods.{method_same}

-- ---- words of descriptors: a class takes one word, whether it is there or not

one_word : (dims : ℕ) (o : Option ℕ) → kind_words (unwrap_or (option_map (kind_with dims) (option_map of_class o)) kind.Int) ≡ 1
one_word dims None = refl
one_word dims (Some class) = by_dims (dims == 0) where
  by_dims : (b : Bool)
      → kind_words (cond b (kind.Ref (record { dims = 0; base = of_class class })) (kind.Ref (record { dims = dims; base = of_class class }))) ≡ 1
  by_dims true = refl
  by_dims false = refl

words_alike : (cs ds : List DeclaredClass) (dims : ℕ) (b : BaseType)
    → kind_words (unwrap_or (option_map (kind_with dims) (base_in cs b)) kind.Int) ≡ kind_words (unwrap_or (option_map (kind_with dims) (base_in ds b)) kind.Int)
words_alike cs ds dims (primitive letter) = refl
words_alike cs ds dims (object name) = one_word dims (class_number cs name) ∙ sym (one_word dims (class_number ds name))

sums_alike : (cs ds : List DeclaredClass) (ts : List FieldType)
    → sum_by kind_words (map (declared_kind cs) ts) ≡ sum_by kind_words (map (declared_kind ds) ts)
sums_alike cs ds [] = refl
sums_alike cs ds (t ∷ ts) =
    sum_by-cons kind_words (declared_kind cs t) (map (declared_kind cs) ts)
    ∙ ap (λ n. n + sum_by kind_words (map (declared_kind cs) ts)) (words_alike cs ds t.dimensions t.base)
    ∙ ap (λ n. kind_words (declared_kind ds t) + n) (sums_alike cs ds ts)
    ∙ sym (sum_by-cons kind_words (declared_kind ds t) (map (declared_kind ds) ts))

argument_words-alike : (cs ds : List DeclaredClass) (descriptor : List ℕ) → argument_word_count cs descriptor ≡ argument_word_count ds descriptor
argument_words-alike cs ds descriptor = sums_alike cs ds (parameter_types descriptor)

-- ---- the table

-- the classes that built-in methods with links return: texts, those that build them, class literals, and Object
abbrev names_text : BaseType → Bool
names_text (primitive letter) = false
names_text (object name) =
    bytes_eq name string_name
    || (bytes_eq name (codes "java/lang/StringBuilder")
    || (bytes_eq name (codes "java/lang/StringBuffer") || (bytes_eq name class_literal_name || bytes_eq name object_name)))

abbrev answers_text : DeclaredMethod → Bool
answers_text m = not (is_static m.flags) && names_text (result_type m.descriptor).base

abbrev has_ends : Native → DeclaredMethod → Bool
has_ends StringToString m = answers_text m
has_ends (Append shown) m = answers_text m
has_ends GetMessage m = answers_text m
has_ends ObjectGetClass m = answers_text m
has_ends ObjectClone m = answers_text m
has_ends ThrowableInitOf m = not (is_static m.flags) && bytes_eq m.descriptor (codes "(Ljava/lang/String;)V")
has_ends FreeMeFree m = is_static m.flags
has_ends FreeMeLink m = is_static m.flags
has_ends FreeMeFreeChain m = is_static m.flags
has_ends row m = true

abbrev receiver_words : DeclaredMethod → ℕ
receiver_words m = cond (is_static m.flags) 0 1

abbrev fits_row : DeclaredMethod → Option Native → Bool
fits_row m None = true
fits_row m (Some row) = (receiver_words m + argument_word_count [] m.descriptor == native_words row) && has_ends row m

abbrev fits : DeclaredMethod → Bool
fits m = fits_row m (option_and_then native_of_row m.row)

abbrev all_fit : List OwnedMethod → Bool
all_fit [] = true
all_fit (m ∷ methods) = fits m.method && all_fit methods

table_fits : all_fit (methods_of built_in) ≡ true
unfolding built_in methods_of
table_fits = refl

fits_at : (methods : List OwnedMethod) (n : ℕ) → all_fit methods ≡ true → fits (slice_index_or methods n (record { class = 0; method = no_method })).method ≡ true
fits_at [] n h = refl
fits_at (m ∷ methods) zero h = (and_parts (fits m.method) (all_fit methods) h).0
fits_at (m ∷ methods) (suc n) h = fits_at methods n (and_parts (fits m.method) (all_fit methods) h).1

-- ---- ends

reference_kind : (dims : ℕ) (o : Option ℕ) (class : ℕ) → o ≡ Some class
    → IsSomeAnd (option_map (kind_with dims) (option_map of_class o)) (λ k. pairs.is_reference_kind k ≡ true)
reference_kind dims o class is =
    subst (λ found. IsSomeAnd (option_map (kind_with dims) (option_map of_class found)) (λ k. pairs.is_reference_kind k ≡ true)) (sym is) (by_dims (dims == 0)) where
      by_dims : (b : Bool)
          → pairs.is_reference_kind (cond b (kind.Ref (record { dims = 0; base = of_class class })) (kind.Ref (record { dims = dims; base = of_class class }))) ≡ true
      by_dims true = refl
      by_dims false = refl

text_there : (given : List DeclaredClass) (name : List ℕ) → names_text (object name) ≡ true → (class : ℕ) × (class_number (built_in ++ given) name ≡ Some class)
text_there given name h =
    ⊎_elim (λ string. (1, ap (class_number (built_in ++ given)) ((bytes_eq-Decides name string_name).0 string) ∙ string_number given))
    (λ others. ⊎_elim
    (λ builder. (2, ap (class_number (built_in ++ given)) ((bytes_eq-Decides name (codes "java/lang/StringBuilder")).0 builder) ∙ builder_there given))
    (λ more. ⊎_elim
    (λ buffer. (3, ap (class_number (built_in ++ given)) ((bytes_eq-Decides name (codes "java/lang/StringBuffer")).0 buffer) ∙ buffer_there given))
    (λ rest. ⊎_elim
    (λ literal. (
      class_literal_class,
      ap (class_number (built_in ++ given)) ((bytes_eq-Decides name class_literal_name).0 literal) ∙ class_literal_number given,
    ))
    (λ any. (0, ap (class_number (built_in ++ given)) ((bytes_eq-Decides name object_name).0 any) ∙ object_there given))
    (or_cases (bytes_eq name class_literal_name) (bytes_eq name object_name) rest))
    (or_cases (bytes_eq name (codes "java/lang/StringBuffer")) (bytes_eq name class_literal_name || bytes_eq name object_name) more))
    (or_cases (bytes_eq name (codes "java/lang/StringBuilder"))
    (bytes_eq name (codes "java/lang/StringBuffer") || (bytes_eq name class_literal_name || bytes_eq name object_name)) others))
    (or_cases (bytes_eq name string_name)
    (bytes_eq name (codes "java/lang/StringBuilder")
    || (bytes_eq name (codes "java/lang/StringBuffer") || (bytes_eq name class_literal_name || bytes_eq name object_name))) h)

text_kind : (given : List DeclaredClass) (dims : ℕ) (b : BaseType) → names_text b ≡ true
    → IsSomeAnd (option_map (kind_with dims) (base_in (built_in ++ given) b)) (λ k. pairs.is_reference_kind k ≡ true)
text_kind given dims (primitive letter) h = absurd (false≢true h)
text_kind given dims (object name) h =
    let there = text_there given name h in reference_kind dims (class_number (built_in ++ given) name) there.0 there.1

receiver_at : (static constructor : Bool) (t : TypeRef) (rest : List slots.Slot) → static ≡ false
    → IsSomeAnd (slice_get (cond static [] (cond constructor (slot.UninitThis ∷ []) (slot.Ref t ∷ [])) ++ rest) 0) (λ s. is_reference s ≡ true)
receiver_at true constructor t rest h = absurd (false≢true (sym h))
receiver_at false true t rest h = refl
receiver_at false false t rest h = refl

second_at : (static constructor : Bool) (t u : TypeRef) → static ≡ false
    → IsSomeAnd (slice_get (cond static [] (cond constructor (slot.UninitThis ∷ []) (slot.Ref t ∷ [])) ++ slot.Ref u ∷ []) 1) (λ s. is_reference s ≡ true)
second_at true constructor t u h = absurd (false≢true (sym h))
second_at false true t u h = refl
second_at false false t u h = refl

module _ (o : Outline) (given : List DeclaredClass) (classes : o.classes ≡ built_in ++ given) (target : ℕ) where
  abbrev declared : DeclaredMethod
  declared = (method_at o.classes target).method

  receiver_end : is_static declared.flags ≡ false → IsEnd o target (end.Parameter 0)
  receiver_end instance =
      receiver_at (is_static declared.flags) (is_constructor o target) (type_of_class (this_class o target)) (flat_map local_slots (parameters_of o target))
      instance

  result_end : names_text (result_type declared.descriptor).base ≡ true → IsEnd o target end.Return
  result_end text =
      subst (λ (cs : List DeclaredClass). IsSomeAnd (option_map (kind_with (result_type declared.descriptor).dimensions)
      (base_in cs (result_type declared.descriptor).base)) (λ k. pairs.is_reference_kind k ≡ true)) (sym classes)
      (text_kind given (result_type declared.descriptor).dimensions (result_type declared.descriptor).base text)

  text_parameter : declared.descriptor ≡ codes "(Ljava/lang/String;)V" → parameters_of o target ≡ kind.Ref (record { dims = 0; base = of_class 1 }) ∷ []
  text_parameter is =
      ap (λ d. map (declared_kind o.classes) (parameter_types d)) is
      ∙ ap (λ (n : Option ℕ). unwrap_or (option_map (kind_with 0) (option_map of_class n)) kind.Int ∷ [])
      (ap (λ cs. class_number cs string_name) classes ∙ string_number given)

  message_end : is_static declared.flags ≡ false → declared.descriptor ≡ codes "(Ljava/lang/String;)V" → IsEnd o target (end.Parameter 1)
  message_end instance is =
      subst (λ (kinds : List Kind). IsSomeAnd (slice_get (receiver_slots o target ++ flat_map local_slots kinds) 1) (λ s. is_reference s ≡ true))
      (sym (text_parameter is))
      (second_at (is_static declared.flags) (is_constructor o target) (type_of_class (this_class o target)) (record { dims = 0; base = of_class 1 }) instance)

  both_ends : answers_text declared ≡ true → IsEnd o target end.Return × IsEnd o target (end.Parameter 0)
  both_ends h =
      let parts = and_parts (not (is_static declared.flags)) (names_text (result_type declared.descriptor).base) h in
      (result_end parts.1, receiver_end (not-true (is_static declared.flags) parts.0))

  -- all rows but FreeMe's have their ends
  ends_are : (row : Native) → has_ends row declared ≡ true → is_free_me row ≡ false → NativeEnds o target row
  ends_are StringToString h other = both_ends h
  ends_are (Append shown) h other = both_ends h
  ends_are GetMessage h other = both_ends h
  ends_are ObjectGetClass h other = both_ends h
  ends_are ObjectClone h other = both_ends h
  ends_are ThrowableInitOf h other =
      let parts = and_parts (not (is_static declared.flags)) (bytes_eq declared.descriptor (codes "(Ljava/lang/String;)V")) h in
      let instance : is_static declared.flags ≡ false = not-true (is_static declared.flags) parts.0 in
      (receiver_end instance, message_end instance ((bytes_eq-Decides declared.descriptor (codes "(Ljava/lang/String;)V")).0 parts.1))
  ends_are FreeMeFree h other = false≢true (sym other)
  ends_are FreeMeLink h other = false≢true (sym other)
  ends_are FreeMeFreeChain h other = false≢true (sym other)
  ends_are row h other = tt

free_is_static : (m : DeclaredMethod) (row : Native) → has_ends row m ≡ true → is_free_me row ≡ true → is_static m.flags ≡ true
free_is_static m FreeMeFree h free = h
free_is_static m FreeMeLink h free = h
free_is_static m FreeMeFreeChain h free = h
free_is_static m row h free = absurd (false≢true free)

-- a built-in method takes its row's words, with the receiver where it has one, and has the ends that its row works on
pub record HasRow (o : Outline) (target : ℕ) (row : Native) : Type 0 where
  pub number : ℕ
  pub number_is : (method_at o.classes target).method.row ≡ Some number
  pub row_is : native_of_row number ≡ Some row
  pub words : receiver_words (method_at o.classes target).method + words_of_arguments o target ≡ native_words row
  pub ends : is_free_me row ≡ false → NativeEnds o target row
  pub free : is_free_me row ≡ true → is_static (method_at o.classes target).method.flags ≡ true

module _ (o : Outline) (given : List DeclaredClass) (classes : o.classes ≡ built_in ++ given) (target : ℕ) (inside : target < length (methods_of built_in)) (row : Native) where
  abbrev here : DeclaredMethod
  here = (method_at o.classes target).method

  fits_here : fits here ≡ true
  fits_here =
      ap (λ (m : OwnedMethod). fits m.method) (ap (λ cs. method_at cs target) classes ∙ method_same given target inside)
      ∙ fits_at (methods_of built_in) target table_fits

  has_row_by : (number : ℕ) → here.row ≡ Some number → native_of_row number ≡ Some row → HasRow o target row
  has_row_by number number_is row_is =
      let found : option_and_then native_of_row here.row ≡ Some row = ap (option_and_then native_of_row) number_is ∙ row_is in
      let parts = and_parts (receiver_words here + argument_word_count [] here.descriptor == native_words row) (has_ends row here)
      (sym (ap (fits_row here) found) ∙ fits_here) in
      record {
        number = number;
        number_is = number_is;
        row_is = row_is;
        words = ap (λ n. receiver_words here + n) (argument_words-alike o.classes [] here.descriptor)
            ∙ eqb-true (receiver_words here + argument_word_count [] here.descriptor) (native_words row) parts.0;
        ends = ends_are o given classes target row parts.1;
        free = free_is_static here row parts.1;
      }

  pub has_row : native_of o target ≡ Some row → HasRow o target row
  has_row is =
      option_and_then_some native_of_row here.row row is (λ number number_is row_is. has_row_by number number_is row_is)
