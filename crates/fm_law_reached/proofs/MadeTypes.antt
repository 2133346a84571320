-- The types of what is made: arrays have no class, and built-in classes are in all closed sets.
use Rattle.std.proofs.Common.{◌≡◌, ℕ, ◌<◌, cond, codes, Bool, true, false, List, length, nat_lt, Option, Some, None, IfSome, refl, sym, ap, subst, unwrap_or, slice_get, arith}
use Rattle.std.specs.Prelude.{is_none}
use Rattle.std.specs.Str.{bytes_eq}
use Rattle.std.proofs.lemmas.Bool.{false≢true, ne_eqb}
use Rattle.std.proofs.lemmas.List.Quantifiers.{position-Some}
use Rattle.std.proofs.lemmas.Option.{get_or_from_slice_get}
use Rattle.fm_base.specs.Rows.{has}
use Rattle.fm_base.specs.declared.kinds.TypeRef.{TypeRef}
use Rattle.fm_frames.proofs.BuiltInTypes.{named_class}
use Rattle.fm_frames.proofs.Failures.{Arithmetic, ArrayStore, ClassCast, ClassChange, IndexOutside, name_of, NegativeSize, NotCloneable, NullPointer, Raised, TextOutside}
use Rattle.fm_frames.proofs.Programs.{built_in-inside}
use Rattle.fm_frames.specs.Acts.{literal_type}
use Rattle.fm_frames.specs.Effects.{Action}
use Rattle.fm_frames.specs.NativeRows.{class_type, text_type}
use Rattle.fm_frames.specs.Runnable.{IsRunnable}
use Rattle.fm_frames.specs.Sights.{type_numbered}
use Rattle.fm_law_reached.proofs.ActsHold.{Makes}
use Rattle.fm_law_reached.specs.Reached.{IsMadeType}
use Rattle.fm_law_sound.proofs.MadeObjects.{class_of_base, number_there}
use Rattle.fm_law_sound.specs.Making.{IsMakeable}
use Rattle.fm_types.specs.Named.{built_in_type}
use Rattle.fm_world.proofs.Completions.{count_is, number_first}
use Rattle.fm_world.specs.BuiltIns.{built_in, class_literal_name, string_name}
use Rattle.fm_world.specs.Declarations.{no_class}
use Rattle.fm_world.specs.Descriptors.{class_number}
use Rattle.fm_world.specs.Numbers.{type_number, type_of_class}
use Rattle.fm_world.specs.Programs.{class_of_type, Outline, Program}
use Rattle.fm_world.specs.declared.declarations.DeclaredClass.{DeclaredClass}

-- ---- types

-- the built-in classes are in the set
abbrev pub HasBuiltIns : List Bool → Type 0
HasBuiltIns made = (class : ℕ) → class < length built_in → has made class ≡ true

-- an array has no class
pub array_made : (made : List Bool) (t : TypeRef) → 0 < t.dims → IsMadeType made t
array_made made t deep =
    let none : class_of_type t ≡ None = ap (λ b. cond b (class_of_base t.base) None) (ne_eqb t.dims 0 (λ same. omega (arith, deep, same))) in
    subst (λ (found : Option ℕ). IfSome found (λ class. has made class ≡ true)) (sym none) tt

-- a built-in class by its name
pub named_made : (p : Program) → IsRunnable p → (made : List Bool) → HasBuiltIns made → (name : List ℕ) → is_none (class_number built_in name) ≡ false
    → IsMadeType made (built_in_type p.outline name)
named_made p runnable made built name known = by_number (class_number built_in name) refl known where
  by_number : (found : Option ℕ) → class_number built_in name ≡ found → is_none found ≡ false → IsMadeType made (built_in_type p.outline name)
  by_number None is there = absurd (false≢true (sym there))
  by_number (Some class) is named =
      let there = position-Some (λ (c : DeclaredClass). bytes_eq c.name name) built_in class no_class is in
      subst (IsMadeType made) (sym (named_class p name class runnable (λ given. number_first built_in given name class is))) (built class there.0)

-- ---- names

pub raised_known : (x : Raised) → is_none (class_number built_in (name_of x)) ≡ false
unfolding built_in
raised_known NullPointer = refl
raised_known Arithmetic = refl
raised_known ArrayStore = refl
raised_known ClassCast = refl
raised_known NegativeSize = refl
raised_known IndexOutside = refl
raised_known TextOutside = refl
raised_known ClassChange = refl
raised_known NotCloneable = refl

text_known : is_none (class_number built_in string_name) ≡ false
unfolding built_in
text_known = refl

class_known : is_none (class_number built_in class_literal_name) ≡ false
unfolding built_in
class_known = refl

pub output_known : is_none (class_number built_in (codes "java/io/PrintStream")) ≡ false
unfolding built_in
output_known = refl

pub input_known : is_none (class_number built_in (codes "java/io/InputStream")) ≡ false
unfolding built_in
input_known = refl

-- ---- what actions make

-- what the action makes is of such a type
abbrev pub MakesMade : Outline → List Bool → Action → Type 0
MakesMade o made action = Makes (λ n. IsMadeType made (type_numbered o n)) o action

module _ (p : Program) (ready : IsMakeable p) (made : List Bool) (built : HasBuiltIns made) where
  abbrev o : Outline
  o = p.outline

  -- a type that has no number counts as the first one, that of Object
  pub number_made : (t : TypeRef) → IsMadeType made t → IsMadeType made (type_numbered o (unwrap_or (type_number o.types t) 0))
  number_made t h = by_number (type_number o.types t) refl where
    first : slice_get o.types 0 ≡ Some (type_of_class 0)
    first = number_there o (type_of_class 0) 0 (ready.class_types 0 (built_in-inside p 0 ready.runnable (omega arith)))

    by_number : (number : Option ℕ) → type_number o.types t ≡ number → IsMadeType made (type_numbered o (unwrap_or number 0))
    by_number None is =
        subst (IsMadeType made) (sym (get_or_from_slice_get o.types 0 (type_of_class 0) (type_of_class 0) first))
        (built 0 (subst (λ n. 0 < n) (sym count_is) (omega arith)))
    by_number (Some number) is =
        subst (IsMadeType made) (sym (get_or_from_slice_get o.types number t (type_of_class 0) (number_there o t number is))) h

  pub raised_made : (x : Raised) → IsMadeType made (type_numbered o (unwrap_or (type_number o.types (built_in_type o (name_of x))) 0))
  raised_made x = number_made (built_in_type o (name_of x)) (named_made p ready.runnable made built (name_of x) (raised_known x))

  pub text_is_made : IsMadeType made (type_numbered o (unwrap_or (type_number o.types (text_type o)) 0))
  text_is_made = number_made (text_type o) (named_made p ready.runnable made built string_name text_known)

  pub literal_is_made : (literal : ℕ) → IsMadeType made (type_numbered o (unwrap_or (type_number o.types (literal_type o literal)) 0))
  literal_is_made literal = by_text (nat_lt literal (length o.texts)) where
    by_text : (b : Bool) → IsMadeType made (type_numbered o (unwrap_or (type_number o.types (cond b (text_type o) (class_type o))) 0))
    by_text true = text_is_made
    by_text false = number_made (class_type o) (named_made p ready.runnable made built class_literal_name class_known)

  pub array_number : (t : TypeRef) → 0 < t.dims → IsMadeType made (type_numbered o (unwrap_or (type_number o.types t) 0))
  array_number t deep = number_made t (array_made made t deep)
