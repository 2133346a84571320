-- What the instruction that makes arrays of arrays costs.
use Rattle.std.proofs.Common.{◌≡◌, ℕ, zero, suc, ◌+◌, ◌*◌, ◌||◌, ℤ, pos, Bool, true, false, if◌then◌else◌, List, ◌∷◌, map, max, min, Option, Some, None, option_map, get_or, slice_get, refl, ap, sym, ◌∙◌, arith}
use Rattle.std.specs.Prelude.{int_lt, unsigned_abs}
use Rattle.std.proofs.lemmas.Bool.{false≢true}
use Rattle.std.proofs.lemmas.Option.{none-some, same_Some, slice_get-get_or}
use Rattle.fm_base.specs.declared.ids.TypeId.{TypeId}
use Rattle.fm_base.specs.declared.kinds.TypeRef.{TypeRef}
use Rattle.fm_exec.specs.Steps.{seen}
use Rattle.fm_frames.specs.ArrayRows.{arrays_made, arrays_of, multi_array_effect}
use Rattle.fm_frames.specs.Effects.{Effect}
use Rattle.fm_frames.specs.Runnable.{IsUseIn}
use Rattle.fm_frames.specs.Sights.{Sight}
use Rattle.fm_frames.specs.States.{State}
use Rattle.fm_frames.specs.Steps.{most_words, objects_made, stack_of}
use Rattle.fm_frames.specs.declared.values.Value.{Value}
use Rattle.fm_frames.specs.inner.Doings.{int_in}
use Rattle.fm_exec_nests.proofs.NestActions.{arrays-more, nest-objects}
use Rattle.fm_exec_nests.proofs.NestRows.{by_sign, magnitudes-are, row-is}
use Rattle.fm_exec_nests.specs.inner.Counts.{any_negative, arrays_on, counted, ints_on, joined}
use Rattle.fm_exec_nests.specs.inner.Costs.{is_type}
use Rattle.fm_world.specs.Numbers.{type_of_class}
use Rattle.fm_world.specs.Programs.{Outline, Program}
use Rattle.fm_world.specs.declared.uses.Use.{Use}
use Rattle.fm_world.specs.declared.uses.Use.TheVariants as used
use Rattle.fm_law_sound.proofs.InsnActs.{magnitudes}

-- ---- how many arrays

-- of counts that are read
abbrev pub arrays_by : Option (List ℤ) → Option ℕ
arrays_by None = None
arrays_by (Some counts) = if any_negative counts then None else Some (arrays_made (map unsigned_abs counts))

abbrev more_by : ℤ → Bool → Option ℕ → Option ℕ
more_by n negative None = None
more_by n negative (Some made) = if negative then None else Some (1 + unsigned_abs n * made)

count-more : (n : ℤ) (counts : List ℤ) → counted (Some n) (arrays_by (Some counts)) ≡ arrays_by (Some (n ∷ counts))
count-more n counts = by_signs (int_lt n (pos 0)) (any_negative counts) where
  by_signs : (first others : Bool)
      → more_by n first (if others then None else Some (arrays_made (map unsigned_abs counts)))
      ≡ (if first || others then None else Some (arrays_made (unsigned_abs n ∷ map unsigned_abs counts)))
  by_signs true true = refl
  by_signs true false = refl
  by_signs false true = refl
  by_signs false false = ap Some (sym (arrays-more (unsigned_abs n) (map unsigned_abs counts)))

arrays-read : (stack : List Value) (dimensions : ℕ) → arrays_on stack dimensions ≡ arrays_by (ints_on stack dimensions)
arrays-read stack zero = refl
arrays-read stack (suc n) =
    ap (counted (int_in (slice_get stack n))) (arrays-read stack n) ∙ by_first (int_in (slice_get stack n)) (ints_on stack n) where
      by_first : (first : Option ℤ) (others : Option (List ℤ)) → counted first (arrays_by others) ≡ arrays_by (joined first others)
      by_first None others = refl
      by_first (Some m) None = refl
      by_first (Some m) (Some others) = count-more m others

-- ---- what the instruction costs

abbrev pub price_of : Option ℕ → ℕ
price_of None = 1
price_of (Some made) = max 1 made

price-by : (o : Outline) (t : TypeRef) (dimensions : ℕ) (found : Option (List ℤ))
    → max 1 (objects_made (arrays_of o t dimensions found).actions) ≡ price_of (arrays_by found)
price-by o t dimensions None = refl
price-by o t dimensions (Some counts) = by_negative (any_negative counts) where
  by_negative : (negative : Bool)
      → max 1 (objects_made (by_sign o t dimensions counts negative).actions)
      ≡ price_of (if negative then None else Some (arrays_made (map unsigned_abs counts)))
  by_negative true = refl
  by_negative false = ap (max 1) (nest-objects t (magnitudes counts) 0 ∙ ap arrays_made (magnitudes-are counts))

pub row-price : (p : Program) (x : State) (t : TypeId) (named : TypeRef) (dimensions : ℕ) → slice_get p.outline.types t.0 ≡ Some named
    → max 1 (objects_made (multi_array_effect p.outline (used.OfType t) dimensions (seen p x)).actions) ≡ price_of (arrays_on (stack_of x) dimensions)
row-price p x t named dimensions at =
    ap (λ (e : Effect). max 1 (objects_made e.actions)) (row-is p x t named dimensions at)
    ∙ price-by p.outline named dimensions (ints_on (stack_of x) dimensions)
    ∙ ap price_of (sym (arrays-read (stack_of x) dimensions))

-- as it is reported
pub told-price : (made : ℕ) → max 1 (min made most_words) ≡ min (max 1 made) most_words
told-price made = omega arith

pub some-price : (found : Option ℕ) (made : ℕ) → Some made ≡ option_map (λ n. min n most_words) found → max 1 made ≡ min (price_of found) most_words
some-price None made is = absurd (none-some _ (sym is))
some-price (Some n) made is = ap (max 1) (same_Some _ _ is) ∙ told-price n

pub none-price : (found : Option ℕ) → None ≡ option_map (λ n. min n most_words) found → 1 ≡ min (price_of found) most_words
none-price None is = refl
none-price (Some n) is = absurd (none-some _ is)

-- where the index refers to no type
pub no-type : (o : Outline) (u : Use) (dimensions : ℕ) (s : List Sight) → false ≡ is_type u
    → 1 ≡ min (max 1 (objects_made (multi_array_effect o u dimensions s).actions)) most_words
unfolding multi_array_effect
no-type o (used.OfType t) dimensions s is = absurd (false≢true is)
no-type o (used.OfField f t) dimensions s is = refl
no-type o (used.OfMethod m t) dimensions s is = refl
no-type o (used.OfInt n) dimensions s is = refl
no-type o (used.OfLong n) dimensions s is = refl
no-type o (used.OfText text) dimensions s is = refl
no-type o used.Unused dimensions s is = refl

-- and where it refers to one that is there
pub type-price : (p : Program) (x : State) (u : Use) (dimensions : ℕ) → true ≡ is_type u → IsUseIn p.outline u
    → max 1 (objects_made (multi_array_effect p.outline u dimensions (seen p x)).actions) ≡ price_of (arrays_on (stack_of x) dimensions)
type-price p x (used.OfType t) dimensions is inside =
    row-price p x t (get_or p.outline.types t.0 (type_of_class 0)) dimensions (slice_get-get_or p.outline.types t.0 (type_of_class 0) inside)
type-price p x (used.OfField f t) dimensions is inside = absurd (false≢true (sym is))
type-price p x (used.OfMethod m t) dimensions is inside = absurd (false≢true (sym is))
type-price p x (used.OfInt n) dimensions is inside = absurd (false≢true (sym is))
type-price p x (used.OfLong n) dimensions is inside = absurd (false≢true (sym is))
type-price p x (used.OfText text) dimensions is inside = absurd (false≢true (sym is))
type-price p x used.Unused dimensions is inside = absurd (false≢true (sym is))
