-- The effect of the instruction that makes arrays of arrays, by what its counts are.
use Rattle.std.proofs.Common.{◌≡◌, ℕ, zero, suc, ◌<◌, ◌^◌, ℤ, Bool, if◌then◌else◌, List, [], ◌∷◌, length, map, Option, Some, None, slice_get, refl, ap, sym, ◌∙◌, subst, arith}
use Rattle.std.specs.Prelude.{reverse, unsigned_abs}
use Rattle.std.specs.List.{AllByRecursion, range_with_len}
use Rattle.std.proofs.lemmas.List.{length-map}
use Rattle.std.proofs.lemmas.Option.{none-some, same_Some}
use Rattle.fm_base.specs.declared.ids.TypeId.{TypeId}
use Rattle.fm_base.specs.declared.kinds.TypeRef.{TypeRef}
use Rattle.fm_exec.specs.Steps.{seen}
use Rattle.fm_frames.specs.ArrayRows.{arrays_made, arrays_of, ints_at, multi_array_effect, thrown_negative}
use Rattle.fm_frames.specs.Effects.{Effect, stuck}
use Rattle.fm_frames.specs.States.{State}
use Rattle.fm_frames.specs.Steps.{objects_made, stack_of}
use Rattle.fm_frames.specs.Uses.{by_type}
use Rattle.fm_frames.specs.declared.values.Value.{Value}
use Rattle.fm_frames.specs.inner.Doings.{int_in}
use Rattle.fm_exec_nests.proofs.CountSteps.{ints-seen}
use Rattle.fm_exec_nests.proofs.NestActions.{nest-objects}
use Rattle.fm_exec_nests.specs.inner.Counts.{ints_on, joined, Lens}
use Rattle.fm_exec_nests.specs.Nests.{nested, NestFits}
use Rattle.fm_exec_nests.specs.inner.Nests.{CanGive, nest_effect}
use Rattle.fm_world.specs.Programs.{Outline, Program}
use Rattle.fm_world.specs.declared.uses.Use.TheVariants as used
use Rattle.fm_law_sound.proofs.InsnActs.{magnitudes}

pub row-is : (p : Program) (x : State) (t : TypeId) (named : TypeRef) (dimensions : ℕ) → slice_get p.outline.types t.0 ≡ Some named
    → multi_array_effect p.outline (used.OfType t) dimensions (seen p x) ≡ arrays_of p.outline named dimensions (ints_on (stack_of x) dimensions)
unfolding multi_array_effect
row-is p x t named dimensions at =
    ap (λ found. by_type found (λ t. arrays_of p.outline t dimensions (ints_at (seen p x) (reverse (range_with_len 0 dimensions))))) at
    ∙ ap (arrays_of p.outline named dimensions) (ints-seen p x dimensions)

-- ---- lengths

pub magnitudes-are : (counts : List ℤ) → magnitudes counts ≡ map unsigned_abs counts
magnitudes-are [] = refl
magnitudes-are (n ∷ others) = ap (λ lens. unsigned_abs n ∷ lens) (magnitudes-are others)

abbrev pub by_sign : Outline → TypeRef → ℕ → List ℤ → Bool → Effect
by_sign o t dimensions counts negative = if negative then thrown_negative o else nest_effect dimensions t (magnitudes counts)

pub row-refused : (o : Outline) (t : TypeRef) (dimensions : ℕ) (counts : List ℤ) → Lens counts None → arrays_of o t dimensions (Some counts) ≡ thrown_negative o
row-refused o t dimensions counts negative = ap (by_sign o t dimensions counts) negative

pub row-made : (o : Outline) (t : TypeRef) (dimensions : ℕ) (counts : List ℤ) (lens : List ℕ) → Lens counts (Some lens)
    → arrays_of o t dimensions (Some counts) ≡ nest_effect dimensions t lens
row-made o t dimensions counts lens (positive, are, fit) =
    ap (by_sign o t dimensions counts) positive ∙ ap (nest_effect dimensions t) (magnitudes-are counts ∙ sym are)

-- there is a length for each dimension
pub ints-many : (stack : List Value) (dimensions : ℕ) (counts : List ℤ) → ints_on stack dimensions ≡ Some counts → length counts ≡ dimensions
ints-many stack zero counts is = ap length (sym (same_Some _ _ is))
ints-many stack (suc n) counts is =
    by_first (int_in (slice_get stack n)) (ints_on stack n) (λ others so. ints-many stack n others so) is where
      by_first : (first : Option ℤ) (others : Option (List ℤ)) → ((some : List ℤ) → others ≡ Some some → length some ≡ n) → joined first others ≡ Some counts
          → length counts ≡ suc n
      by_first None others many is = absurd (none-some _ is)
      by_first (Some m) None many is = absurd (none-some _ is)
      by_first (Some m) (Some others) many is = ap length (sym (same_Some _ _ is)) ∙ ap suc (many others refl)

-- ---- the whole row, by the counts that were read

pub row-stuck : (p : Program) (x : State) (t : TypeId) (named : TypeRef) (dimensions : ℕ) → slice_get p.outline.types t.0 ≡ Some named
    → ints_on (stack_of x) dimensions ≡ None → multi_array_effect p.outline (used.OfType t) dimensions (seen p x) ≡ stuck
row-stuck p x t named dimensions at none = row-is p x t named dimensions at ∙ ap (arrays_of p.outline named dimensions) none

pub row-throws : (p : Program) (x : State) (t : TypeId) (named : TypeRef) (dimensions : ℕ) (counts given : List ℤ) → slice_get p.outline.types t.0 ≡ Some named
    → ints_on (stack_of x) dimensions ≡ Some counts → given ≡ counts → Lens given None
    → multi_array_effect p.outline (used.OfType t) dimensions (seen p x) ≡ thrown_negative p.outline
row-throws p x t named dimensions counts given at found same negative =
    row-is p x t named dimensions at ∙ ap (arrays_of p.outline named dimensions) found
    ∙ row-refused p.outline named dimensions counts (subst (λ counts. Lens counts None) same negative)

pub row-nest : (p : Program) (x : State) (t : TypeId) (named : TypeRef) (dimensions : ℕ) (counts given : List ℤ) (lens told : List ℕ)
    → slice_get p.outline.types t.0 ≡ Some named → ints_on (stack_of x) dimensions ≡ Some counts → given ≡ counts → Lens given (Some lens) → told ≡ lens
    → multi_array_effect p.outline (used.OfType t) dimensions (seen p x) ≡ nest_effect dimensions named told
row-nest p x t named dimensions counts given lens told at found same are is =
    row-is p x t named dimensions at ∙ ap (arrays_of p.outline named dimensions) found
    ∙ row-made p.outline named dimensions counts lens (subst (λ counts. Lens counts (Some lens)) same are)
    ∙ ap (nest_effect dimensions named) (sym is)

pub row-can : (p : Program) (x : State) (t : TypeId) (named : TypeRef) (dimensions : ℕ) (counts given : List ℤ) (lens told : List ℕ) → NestFits p x t.0 dimensions
    → slice_get p.outline.types t.0 ≡ Some named → ints_on (stack_of x) dimensions ≡ Some counts → given ≡ counts → Lens given (Some lens) → told ≡ lens
    → CanGive x named told
row-can p x t named dimensions counts given lens told fits at found same are is =
    let effect = row-nest p x t named dimensions counts given lens told at found same are is in
    let made : nested p x t.0 dimensions ≡ arrays_made told =
    ap (λ (e : Effect). objects_made e.actions) effect ∙ nest-objects named told 0 in
    let read = ints-many (stack_of x) dimensions counts found in
    let many : length told ≡ dimensions =
    ap length is ∙ ap length are.1 ∙ length-map given unsigned_abs ∙ ap length same ∙ read in
    let some = fits.some in
    let deep = fits.deep named at in
    let births = fits.births in
    let steps = fits.steps in
    record {
      are = record {
        some = omega (arith, many, some);
        deep = omega (arith, many, deep);
        fit = subst (AllByRecursion (λ len. len < 2 ^ 31)) (sym is) are.2;
      };
      births = omega (arith, births, made);
      steps = omega (arith, steps, made);
    }
