-- The rows of arrays (JVMS 6.5.aaload and its like, 6.5.arraylength, 6.5.newarray and its like).
use Rattle.std.specs.Prelude.{ℕ, ◌+◌, ◌-◌, ◌*◌, ℤ, pos, int_lt, nat_lt, not, ◌||◌, List, [], ◌∷◌, ◌++◌, codes, Option, Some, None, option_map, reverse, unsigned_abs, if◌then◌else◌, slice_get}
use Rattle.std.specs.List.{flat_map, list_any, range_with_len}
use Rattle.fm_base.specs.declared.kinds.Base.{Base}
use Rattle.fm_base.specs.declared.kinds.Kind.{Kind}
use Rattle.fm_base.specs.declared.kinds.TypeRef.{TypeRef}
use Rattle.fm_code.specs.StackWords.{element_words}
use Rattle.fm_code.specs.declared.operations.Elem.{Elem}
use Rattle.fm_code.specs.declared.operations.Elem.TheVariants as elem
use Rattle.fm_types.specs.ArrayRows.{is_array_of}
use Rattle.fm_world.specs.Chains.{is_sub}
use Rattle.fm_world.specs.Descriptors.{kind_with}
use Rattle.fm_world.specs.Programs.{Outline}
use Rattle.fm_world.specs.Uses.{array_of, base_of_elem}
use Rattle.fm_world.specs.declared.uses.Use.{Use}
use Rattle.fm_frames.specs.Effects.{Effect, OfOperand, OfPlace, OfMade, Action, Make, Put, words, acting, making, int_word, loaded, stuck}
use Rattle.fm_frames.specs.Operands.{on_held, on_int, on_passing, thrown}
use Rattle.fm_frames.specs.Sights.{Sight, Looks, Word}
use Rattle.fm_frames.specs.Uses.{on_type}
use Rattle.fm_frames.specs.declared.values.Value.TheVariants as value

-- ---- elements

-- the type and the kind of an array's elements
abbrev pub element_type : TypeRef → TypeRef
element_type t = record { dims = t.dims - 1; base = t.base }

-- the kind of an array's elements: an array of arrays has references
abbrev pub element_kind : TypeRef → Kind
element_kind t = kind_with (t.dims - 1) t.base

-- an array of such elements, and a place of it
abbrev pub on_element : Outline → Elem → List Sight → ℕ → (Looks → ℕ → Effect) → Effect
on_element o e s index follows =
    on_passing o (λ it. is_array_of e it.type) s (index + 1) (λ it. on_int s index (λ i. within it i)) where
      within : Looks → ℤ → Effect
      within it i =
          if int_lt i (pos 0) || not (int_lt i (pos it.len)) then thrown o (codes "java/lang/ArrayIndexOutOfBoundsException")
          else follows it (unsigned_abs i)

-- what iaload, laload, aaload, baload, caload and saload do (JVMS 6.5)
unfoldable pub array_load_effect : Outline → Elem → List Sight → Effect
array_load_effect o e s =
    on_element o e s 0 (λ it place. let kind = element_kind it.type in words 2 (loaded kind (OfPlace 1 place kind)))

-- the element is put where it is: the array lies below the index, and that below the words of the value
abbrev pub put_element : ℕ → Looks → ℕ → Effect
put_element n it place = acting (n + 2) (Put (OfOperand (n + 1)) place (element_kind it.type) (OfOperand (n - 1)) ∷ [])

-- the type of a reference is tested in the run, unless it is null
abbrev pub put_reference : Outline → List Sight → Looks → ℕ → Effect
put_reference o s it place =
    on_held (put_element 1 it place) s 0
    (λ v. if is_sub o.classes v.type (element_type it.type) then put_element 1 it place else thrown o (codes "java/lang/ArrayStoreException"))

-- what iastore, lastore, aastore, bastore, castore and sastore do: only aastore tests what the
-- object is (JVMS 6.5)
unfoldable pub array_store_effect : Outline → Elem → List Sight → Effect
array_store_effect o e s = on_element o e s (element_words e) (stored e) where
  stored : Elem → Looks → ℕ → Effect
  stored elem.Ref it place = put_reference o s it place
  stored other it place = put_element (element_words e) it place

-- what arraylength does (JVMS 6.5)
unfoldable pub length_effect : Outline → List Sight → Effect
length_effect o s = on_passing o (λ it. nat_lt 0 it.type.dims) s 0 (λ it. words 1 (int_word (pos it.len)))

-- ---- new arrays

-- an array can't have a negative length (JVMS 6.5.newarray)
abbrev pub thrown_negative : Outline → Effect
thrown_negative o = thrown o (codes "java/lang/NegativeArraySizeException")

-- of this many elements as the int on top says
abbrev pub array_made : Outline → Option TypeRef → List Sight → Effect
array_made o None s = stuck
array_made o (Some t) s = on_int s 0 (λ n. if int_lt n (pos 0) then thrown_negative o else making 1 (Make t (unsigned_abs n) []))

-- what newarray does (JVMS 6.5)
unfoldable pub new_array_effect : Outline → Elem → List Sight → Effect
new_array_effect o e s = array_made o (option_map (λ (b : Base). record { dims = 1; base = b }) (base_of_elem e)) s

-- what anewarray does (JVMS 6.5)
unfoldable pub new_references_effect : Outline → Use → List Sight → Effect
new_references_effect o u s = on_type o u (λ t. array_made o (array_of t) s)

-- ---- arrays of arrays

-- how many arrays are made: after a count of 0 no further level is made
abbrev pub arrays_made : List ℕ → ℕ
arrays_made [] = 0
arrays_made (count ∷ []) = 1
arrays_made (count ∷ next ∷ counts) = 1 + count * arrays_made (next ∷ counts)

-- the outer array, which is the object made as this one, and then for each of its elements in order its array with all below it
unfoldable pub array_actions : TypeRef → List ℕ → ℕ → List Action
array_actions t [] first = []
array_actions t (count ∷ []) first = Make t count [] ∷ []
array_actions t (count ∷ next ∷ counts) first =
    let size = arrays_made (next ∷ counts) in
    Make t count []
    ∷ flat_map
    (λ place. array_actions (element_type t) (next ∷ counts) (first + 1 + place * size)
    ++ Put (OfMade first) place (element_kind t) (OfMade (first + 1 + place * size)) ∷ [])
    (range_with_len 0 count)

-- the counts of this many dimensions, the outermost first; they lie on the stack with the innermost
-- on top
abbrev pub int_at : List Sight → ℕ → Option ℤ
int_at s operand = of_sight (slice_get s operand) where
  of_sight : Option Sight → Option ℤ
  of_sight (Some (Word (value.Int n))) = Some n
  of_sight other = None

-- the ints at several operands, none where one of them isn't an int
abbrev pub ints_at : List Sight → List ℕ → Option (List ℤ)
ints_at s [] = Some []
ints_at s (operand ∷ operands) = joined (int_at s operand) (ints_at s operands) where
  joined : Option ℤ → Option (List ℤ) → Option (List ℤ)
  joined (Some n) (Some others) = Some (n ∷ others)
  joined n others = None

-- a negative count throws before all else
abbrev pub arrays_of : Outline → TypeRef → ℕ → Option (List ℤ) → Effect
arrays_of o t dimensions None = stuck
arrays_of o t dimensions (Some counts) =
    if list_any (λ n. int_lt n (pos 0)) counts then thrown_negative o
    else record (words dimensions (OfMade 0 ∷ [])) { actions = array_actions t (magnitudes counts) 0 } where
      magnitudes : List ℤ → List ℕ
      magnitudes [] = []
      magnitudes (n ∷ others) = unsigned_abs n ∷ magnitudes others

-- what multianewarray does, the first length lowest (JVMS 6.5)
unfoldable pub multi_array_effect : Outline → Use → ℕ → List Sight → Effect
multi_array_effect o u dimensions s = on_type o u (λ t. arrays_of o t dimensions (ints_at s (reverse (range_with_len 0 dimensions))))
