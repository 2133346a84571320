-- Objects that rows make are of types that have a number, and have their length.
use Rattle.std.proofs.Common.{◌≡◌, ℕ, zero, suc, ◌+◌, ◌^◌, ◌<◌, ◌≤◌, ◌==◌, nat_lt, not, Bool, true, false, cond, List, [], ◌∷◌, ◌++◌, length, codes, Option, Some, None, refl, sym, ◌∙◌, ap, subst, inl, inr, slice_get, get_or, arith, ⊎_elim}
use Rattle.std.specs.List.{position_or_len}
use Rattle.std.specs.Str.{bytes_eq}
use Rattle.std.proofs.lemmas.Bool.{and_parts, false≢true, lt-ltb, ne_eqb, not-true, or_cases, or_left, or_right}
use Rattle.std.proofs.lemmas.Iterator.Adapters.{position_from-zero}
use Rattle.std.proofs.lemmas.List.Quantifiers.{position-Some}
use Rattle.std.proofs.lemmas.Option.{none-some, same_Some, slice_get-get_or}
use Rattle.fm_base.specs.declared.kinds.Base.{Base}
use Rattle.fm_base.specs.declared.kinds.Base.TheVariants as base
use Rattle.fm_base.specs.declared.kinds.Kind.{Kind}
use Rattle.fm_base.specs.declared.kinds.TypeRef.{TypeRef}
use Rattle.fm_base.specs.declared.limits.TheConstants.{MAX_LIVE_WORDS}
use Rattle.fm_cells.specs.Sizes.{IsPack, packed_words}
use Rattle.fm_code.specs.AccessFlags.{is_abstract, is_interface}
use Rattle.fm_types.proofs.LeastJoins.{same_type-eq, same_type-refl}
use Rattle.fm_types.specs.Named.{built_in_type}
use Rattle.fm_types.specs.ObjectRows.{has_objects}
use Rattle.fm_world.proofs.Completions.{count_is, kinds_completed}
use Rattle.fm_world.specs.BuiltIns.{built_in, built_in_classes, class_literal_class}
use Rattle.fm_world.specs.Chains.{chain_of, class_at, same_type}
use Rattle.fm_world.specs.Descriptors.{class_number}
use Rattle.fm_world.specs.Members.{kinds_of, size_of}
use Rattle.fm_world.specs.Numbers.{type_number, type_of_class}
use Rattle.fm_world.specs.Programs.{class_of_type, kind_at, Outline, Program}
use Rattle.fm_world.specs.declared.declarations.DeclaredClass.{DeclaredClass}
use Rattle.fm_world.specs.inner.Completions.{AreCompleted}
use Rattle.fm_frames.proofs.BuiltInTypes.{named_class}
use Rattle.fm_frames.proofs.Programs.{built_in-inside, class_literal-is, completed-are, string-is}
use Rattle.fm_frames.specs.Acts.{literal_text, literal_type}
use Rattle.fm_frames.specs.Effects.{Make}
use Rattle.fm_frames.specs.Elements.{is_string_type, is_text_type, pack_of}
use Rattle.fm_frames.specs.NativeRows.{class_type, text_type}
use Rattle.fm_frames.specs.Operands.{size_of_type}
use Rattle.fm_law_sound.specs.Acting.{ContentFits, MakeFits}
use Rattle.fm_law_sound.specs.Making.{AreUnits, IsFew, IsMakeable, IsNumbered}
use Rattle.fm_law_sound.specs.Sound.{HasLength, HasLengthBy}
use Rattle.fm_law_sound.proofs.Counts.{type_pack}

-- ---- texts and streams have no fields

pub string_kinds : (given : List DeclaredClass) → AreCompleted (built_in ++ given) → kinds_of (built_in ++ given) 1 ≡ []
unfolding built_in chain_of
string_kinds given completed = kinds_completed given completed 1 (omega (arith, count_is)) refl

pub output_kinds : (given : List DeclaredClass) → AreCompleted (built_in ++ given) → kinds_of (built_in ++ given) 5 ≡ []
unfolding built_in chain_of
output_kinds given completed = kinds_completed given completed 5 (omega (arith, count_is)) refl

pub input_kinds : (given : List DeclaredClass) → AreCompleted (built_in ++ given) → kinds_of (built_in ++ given) 6 ≡ []
unfolding built_in chain_of
input_kinds given completed = kinds_completed given completed 6 (omega (arith, count_is)) refl

pub class_literal_kinds : (given : List DeclaredClass) → AreCompleted (built_in ++ given) → kinds_of (built_in ++ given) class_literal_class ≡ []
unfolding built_in chain_of
class_literal_kinds given completed = kinds_completed given completed class_literal_class (omega (arith, count_is)) refl

-- ---- numbers of types

found_here : (b : Bool) (later many : ℕ) → b ≡ true → cond (not b) (1 + later) 0 < suc many
found_here true later many is = omega arith
found_here false later many is = absurd (false≢true is)

found_later : (b : Bool) (later many : ℕ) → later < many → cond (not b) (1 + later) 0 < suc many
found_later true later many inside = omega arith
found_later false later many inside = omega (arith, inside)

-- where one of a list passes, the first one that does is there
first_within : (test : TypeRef → Bool) (types : List TypeRef) (n : ℕ) (t : TypeRef) → slice_get types n ≡ Some t → test t ≡ true
    → position_or_len test types < length types
first_within test [] n t at passes = absurd (cc)
first_within test (u ∷ types) zero t at passes = found_here (test u) (position_or_len test types) (length types) (ap test (same_Some u t at) ∙ passes)
first_within test (u ∷ types) (suc n) t at passes =
    found_later (test u) (position_or_len test types) (length types) (first_within test types n t at passes)

pub numbered : (o : Outline) (n : ℕ) (t : TypeRef) → slice_get o.types n ≡ Some t → IsNumbered o t
numbered o n t at =
    let inside = first_within (same_type t) o.types n t at (same_type-refl t) in (
      position_or_len (same_type t) o.types,
      ap (λ b. cond b (Some (position_or_len (same_type t) o.types)) None) (lt-ltb (position_or_len (same_type t) o.types) (length o.types) inside),
    )

pub number_there : (o : Outline) (t : TypeRef) (number : ℕ) → type_number o.types t ≡ Some number → slice_get o.types number ≡ Some t
number_there o t number is =
    let found = position-Some (same_type t) o.types number t is in
    slice_get-get_or o.types number t found.0 ∙ ap Some (sym (same_type-eq t (get_or o.types number t) found.1))

-- ---- lengths

few_length : (len pack : ℕ) → IsPack pack → packed_words len pack ≤ MAX_LIVE_WORDS → len < 2 ^ 31
few_length len pack (inl e) few = let f = subst (λ p. packed_words len p ≤ MAX_LIVE_WORDS) e few in omega (arith, f)
few_length len pack (inr (inl e)) few = let f = subst (λ p. packed_words len p ≤ MAX_LIVE_WORDS) e few in omega (arith, f)
few_length len pack (inr (inr (inl e))) few = let f = subst (λ p. packed_words len p ≤ MAX_LIVE_WORDS) e few in omega (arith, f)
few_length len pack (inr (inr (inr e))) few = let f = subst (λ p. packed_words len p ≤ MAX_LIVE_WORDS) e few in omega (arith, f)

-- what is made of few words is no longer than an array or a text may be
pub length_few : (o : Outline) (t : TypeRef) (len : ℕ) (content : List ℕ) → IsFew o (Make t len content) → len < 2 ^ 31
length_few o t len content few = few_length len (pack_of o t) (type_pack o t) few

array_length : (o : Outline) (is_text : Bool) (class : Option ℕ) (len : ℕ) → class ≡ None → len < 2 ^ 31 → HasLengthBy o is_text class len
array_length o true class len none below = below
array_length o false None len none below = below
array_length o false (Some class) len none below = absurd (cc)

class_length : (o : Outline) (is_text : Bool) (class : ℕ) → size_of o.classes class < 2 ^ 31 → HasLengthBy o is_text (Some class) (size_of o.classes class)
class_length o true class below = below
class_length o false class below = refl

-- ---- objects

-- the class of a base, what is required of the class of a type, and how many elements its objects
-- have
abbrev pub class_of_base : Base → Option ℕ
class_of_base (base.OfClass class) = Some class.0
class_of_base b = None

abbrev pub HasObjectsBy : Outline → Option ℕ → Type 0
HasObjectsBy o None = Unit {0}
HasObjectsBy o (Some class) = (is_abstract (class_at o.classes class).flags ≡ false) × (is_interface (class_at o.classes class).flags ≡ false)

abbrev size_by : Outline → Option ℕ → ℕ
size_by o None = 0
size_by o (Some class) = size_of o.classes class

array_class : (t : TypeRef) → 0 < t.dims → class_of_type t ≡ None
array_class t deep = ap (λ b. cond b (class_of_base t.base) None) (ne_eqb t.dims 0 (λ same. omega (arith, deep, same)))

flat_class : (t : TypeRef) (c : ℕ) → (t.dims == 0) ≡ true → class_of_base t.base ≡ Some c → class_of_type t ≡ Some c
flat_class t c flat is = ap (λ b. cond b (class_of_base t.base) None) flat ∙ is

-- an array of a type that has a number, as long as it may be
pub array_made : (o : Outline) (t : TypeRef) (len : ℕ) → IsNumbered o t → 0 < t.dims → len < 2 ^ 31 → MakeFits o t len []
array_made o t len number deep below = record {
  number = number.0;
  number_is = number.1;
  there = number_there o t number.0 number.1;
  made = subst (HasObjectsBy o) (sym (array_class t deep)) tt;
  length_fits = array_length o (is_text_type o t) (class_of_type t) len (array_class t deep) below;
  content_fits = tt;
}

-- and one of few words
pub array_fits : (o : Outline) (t : TypeRef) (len : ℕ) → IsNumbered o t → 0 < t.dims → IsFew o (Make t len []) → MakeFits o t len []
array_fits o t len number deep few = array_made o t len number deep (length_few o t len [] few)

-- a base of which there are objects is a class
class_of_objects : (o : Outline) (b : Base) → has_objects o.classes b ≡ true → (c : ℕ) × (class_of_base b ≡ Some c) × HasObjectsBy o (Some c)
class_of_objects o (base.OfClass c) is =
    let parts = and_parts (not (is_abstract (class_at o.classes c.0).flags)) (not (is_interface (class_at o.classes c.0).flags)) is in
    (c.0, refl, (not-true (is_abstract (class_at o.classes c.0).flags) parts.0, not-true (is_interface (class_at o.classes c.0).flags) parts.1))
class_of_objects o b is = absurd (false≢true is)

-- an object of a class that has objects
pub object_fits : (o : Outline) → ((class : ℕ) → size_of o.classes class < 2 ^ 31) → (n : ℕ) (t : TypeRef) → slice_get o.types n ≡ Some t
    → (t.dims == 0) ≡ true → has_objects o.classes t.base ≡ true → MakeFits o t (size_of_type o t) []
object_fits o sizes n t at flat is =
    let number = numbered o n t at in
    let found = class_of_objects o t.base is in
    let class : class_of_type t ≡ Some found.0 = flat_class t found.0 flat found.1 in
    record {
      number = number.0;
      number_is = number.1;
      there = number_there o t number.0 number.1;
      made = subst (HasObjectsBy o) (sym class) found.2;
      length_fits = subst (λ c. HasLengthBy o (is_text_type o t) c (size_by o c)) (sym class) (class_length o (is_text_type o t) found.0 (sizes found.0));
      content_fits = tt;
    }

-- ---- built-in classes by their numbers

abbrev pub IsPlain : List DeclaredClass → ℕ → Type 0
IsPlain classes class = (is_abstract (class_at classes class).flags ≡ false) × (is_interface (class_at classes class).flags ≡ false)

module _ (p : Program) (ready : IsMakeable p) where
  abbrev o : Outline
  o = p.outline

  pub class_fits : (class len : ℕ) (content : List ℕ) → class < built_in_classes → ((given : List DeclaredClass) → IsPlain (built_in ++ given) class)
      → HasLength o (type_of_class class) len → ContentFits o (type_of_class class) len content → MakeFits o (type_of_class class) len content
  class_fits class len content early plain length_fits content_fits =
      let number : type_number o.types (type_of_class class) ≡ Some class = ready.class_types class (built_in-inside p class ready.runnable early) in
      record {
        number = class;
        number_is = number;
        there = number_there o (type_of_class class) class number;
        made = subst (λ classes. IsPlain classes class) (sym ready.runnable.classes) (plain ready.runnable.given);
        length_fits = length_fits;
        content_fits = content_fits;
      }

  thrown_by : (name : List ℕ) (class : ℕ) → class < built_in_classes → ((given : List DeclaredClass) → class_number (built_in ++ given) name ≡ Some class)
      → ((given : List DeclaredClass) → IsPlain (built_in ++ given) class)
      → MakeFits o (built_in_type o name) (size_of_type o (built_in_type o name)) []
  thrown_by name class early found plain =
      subst (λ t. MakeFits o t (size_of_type o t) []) (sym (named_class p name class ready.runnable found))
      (class_fits class (size_of o.classes class) [] early plain
      (class_length o (is_text_type o (type_of_class class)) class (ready.runnable.sizes class)) tt)

  -- ---- what rows throw

  abbrev pub IsThrown : List ℕ → Type 0
  IsThrown name = MakeFits o (built_in_type o name) (size_of_type o (built_in_type o name)) []

  pub null_thrown : IsThrown (codes "java/lang/NullPointerException")
  unfolding built_in
  null_thrown =
      thrown_by (codes "java/lang/NullPointerException") 18 (omega arith)
      (λ given. position_from-zero (λ (c : DeclaredClass). bytes_eq c.name (codes "java/lang/NullPointerException")) (built_in ++ given)) (λ given. (refl, refl))

  pub arithmetic_thrown : IsThrown (codes "java/lang/ArithmeticException")
  unfolding built_in
  arithmetic_thrown =
      thrown_by (codes "java/lang/ArithmeticException") 13 (omega arith)
      (λ given. position_from-zero (λ (c : DeclaredClass). bytes_eq c.name (codes "java/lang/ArithmeticException")) (built_in ++ given)) (λ given. (refl, refl))

  pub store_thrown : IsThrown (codes "java/lang/ArrayStoreException")
  unfolding built_in
  store_thrown =
      thrown_by (codes "java/lang/ArrayStoreException") 14 (omega arith)
      (λ given. position_from-zero (λ (c : DeclaredClass). bytes_eq c.name (codes "java/lang/ArrayStoreException")) (built_in ++ given)) (λ given. (refl, refl))

  pub cast_thrown : IsThrown (codes "java/lang/ClassCastException")
  unfolding built_in
  cast_thrown =
      thrown_by (codes "java/lang/ClassCastException") 15 (omega arith)
      (λ given. position_from-zero (λ (c : DeclaredClass). bytes_eq c.name (codes "java/lang/ClassCastException")) (built_in ++ given)) (λ given. (refl, refl))

  pub negative_thrown : IsThrown (codes "java/lang/NegativeArraySizeException")
  unfolding built_in
  negative_thrown =
      thrown_by (codes "java/lang/NegativeArraySizeException") 17 (omega arith)
      (λ given. position_from-zero (λ (c : DeclaredClass). bytes_eq c.name (codes "java/lang/NegativeArraySizeException")) (built_in ++ given)) (λ given. (refl, refl))

  pub index_thrown : IsThrown (codes "java/lang/ArrayIndexOutOfBoundsException")
  unfolding built_in
  index_thrown =
      thrown_by (codes "java/lang/ArrayIndexOutOfBoundsException") 22 (omega arith)
      (λ given. position_from-zero (λ (c : DeclaredClass). bytes_eq c.name (codes "java/lang/ArrayIndexOutOfBoundsException")) (built_in ++ given)) (λ given. (refl, refl))

  pub outside_thrown : IsThrown (codes "java/lang/StringIndexOutOfBoundsException")
  unfolding built_in
  outside_thrown =
      thrown_by (codes "java/lang/StringIndexOutOfBoundsException") 23 (omega arith)
      (λ given. position_from-zero (λ (c : DeclaredClass). bytes_eq c.name (codes "java/lang/StringIndexOutOfBoundsException")) (built_in ++ given)) (λ given. (refl, refl))

  pub change_thrown : IsThrown (codes "java/lang/IncompatibleClassChangeError")
  unfolding built_in
  change_thrown =
      thrown_by (codes "java/lang/IncompatibleClassChangeError") 25 (omega arith)
      (λ given. position_from-zero (λ (c : DeclaredClass). bytes_eq c.name (codes "java/lang/IncompatibleClassChangeError")) (built_in ++ given)) (λ given. (refl, refl))

  pub uncloneable_thrown : IsThrown (codes "java/lang/CloneNotSupportedException")
  unfolding built_in
  uncloneable_thrown =
      thrown_by (codes "java/lang/CloneNotSupportedException") 28 (omega arith)
      (λ given. position_from-zero (λ (c : DeclaredClass). bytes_eq c.name (codes "java/lang/CloneNotSupportedException")) (built_in ++ given)) (λ given. (refl, refl))

  -- ---- texts

  text_is : text_type o ≡ type_of_class 1
  text_is = string-is o ready.runnable.given ready.runnable.classes

  text_class : is_text_type o (type_of_class 1) ≡ true
  text_class =
      or_left (is_string_type o (type_of_class 1)) (same_type (class_type o) (type_of_class 1)) (ap (λ t. same_type t (type_of_class 1)) text_is)

  class_is : class_type o ≡ type_of_class class_literal_class
  class_is = class_literal-is o ready.runnable.given ready.runnable.classes

  -- a text has no places
  pub text_places : (place : ℕ) → kind_at o.classes (text_type o) place ≡ None
  text_places place =
      ap (λ t. kind_at o.classes t place) text_is
      ∙ ap (λ kinds. slice_get kinds place) (ap (λ classes. kinds_of classes 1) ready.runnable.classes ∙ string_kinds ready.runnable.given (completed-are ready.runnable.given ready.runnable.completed))

  -- nor has a class literal
  class_places : (place : ℕ) → kind_at o.classes (class_type o) place ≡ None
  class_places place =
      ap (λ t. kind_at o.classes t place) class_is
      ∙ ap (λ kinds. slice_get kinds place) (ap (λ classes. kinds_of classes class_literal_class) ready.runnable.classes ∙ class_literal_kinds ready.runnable.given (completed-are ready.runnable.given ready.runnable.completed))

  text_content : (units : List ℕ) → AreUnits units → ContentFits o (type_of_class 1) (length units) units
  text_content [] fit = tt
  text_content (unit ∷ units) fit = (refl, fit, λ place. sym (ap (λ t. kind_at o.classes t place) text_is) ∙ text_places place)

  -- a text of 16-bit units
  pub text_fits : (units : List ℕ) → length units < 2 ^ 31 → AreUnits units → MakeFits o (text_type o) (length units) units
  unfolding built_in
  text_fits units below fit =
      subst (λ t. MakeFits o t (length units) units) (sym text_is)
      (class_fits 1 (length units) units (omega arith) (λ given. (refl, refl))
      (subst (λ b. HasLengthBy o b (Some 1) (length units)) (sym text_class) below) (text_content units fit))

  class_content : (units : List ℕ) → AreUnits units → ContentFits o (type_of_class class_literal_class) (length units) units
  class_content [] fit = tt
  class_content (unit ∷ units) fit = (refl, fit, λ place. sym (ap (λ t. kind_at o.classes t place) class_is) ∙ class_places place)

  class_kept : is_text_type o (type_of_class class_literal_class) ≡ true
  class_kept =
      or_right (is_string_type o (type_of_class class_literal_class)) (same_type (class_type o) (type_of_class class_literal_class))
      (ap (λ t. same_type t (type_of_class class_literal_class)) class_is)

  -- a class literal of 16-bit units
  class_literal_fits : (units : List ℕ) → length units < 2 ^ 31 → AreUnits units → MakeFits o (class_type o) (length units) units
  unfolding built_in
  class_literal_fits units below fit =
      subst (λ t. MakeFits o t (length units) units) (sym class_is)
      (class_fits class_literal_class (length units) units (omega arith) (λ given. (refl, refl))
      (subst (λ b. HasLengthBy o b (Some class_literal_class) (length units)) (sym class_kept) below) (class_content units fit))

  -- each literal
  pub literal_fits : (literal : ℕ) → MakeFits o (literal_type o literal) (length (literal_text o literal)) (literal_text o literal)
  literal_fits literal = by_text (nat_lt literal (length o.texts)) where
    units : List ℕ
    units = literal_text o literal

    by_text : (b : Bool) → MakeFits o (cond b (text_type o) (class_type o)) (length units) units
    by_text true = text_fits units (ready.texts literal).0 (ready.texts literal).1
    by_text false = class_literal_fits units (ready.texts literal).0 (ready.texts literal).1

  -- what has a place is no text
  pub no_text : (t : TypeRef) (place : ℕ) (k : Kind) → kind_at o.classes t place ≡ Some k → is_text_type o t ≡ false
  no_text t place k at = by_test (is_text_type o t) refl where
    by_test : (b : Bool) → is_text_type o t ≡ b → is_text_type o t ≡ false
    by_test false is = is
    by_test true is =
        ⊎_elim
        (λ text. absurd (none-some k (sym (text_places place) ∙ ap (λ u. kind_at o.classes u place) (same_type-eq (text_type o) t text) ∙ at)))
        (λ literal. absurd (none-some k (sym (class_places place) ∙ ap (λ u. kind_at o.classes u place) (same_type-eq (class_type o) t literal) ∙ at)))
        (or_cases (is_string_type o t) (same_type (class_type o) t) is)
