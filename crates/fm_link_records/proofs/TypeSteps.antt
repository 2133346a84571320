-- Types are distinguished by their dimensions and their bases.
use Rattle.std.proofs.Common.{◌≡◌, refl, sym, ◌∙◌, ap, ℕ, suc, ◌+◌, ◌-◌, ◌<◌, cond, ◌==◌, List, [], ◌∷◌, ◌++◌, map, length, drop, get_or, append_assoc, arith}
use Rattle.std.specs.List.{flat_map, list_any, range_with_len}
use Rattle.std.proofs.lemmas.Grind.{flat_map-append}
use Rattle.std.proofs.lemmas.List.{get_or_default}
use Rattle.std.proofs.lemmas.Bool.{eq-eqb, eqb-true, and_parts, and_from}
use Rattle.indexmap.specs.IndexSet.{insert_key}
use Rattle.fm_base.proofs.ListFacts.{drop_here}
use Rattle.fm_base.specs.contracts.kinds.TypeRefPartialEq.TheImpl.{ghosts}
use Rattle.fm_base.specs.declared.kinds.Base.TheVariants as base
use Rattle.fm_base.specs.declared.kinds.TypeRef.{TypeRef}
use Rattle.fm_world.proofs.TableLemmas.{same_base-eq, same_base-refl}
use Rattle.fm_world.proofs.TypeTests.{tested_type}
use Rattle.fm_world.specs.Chains.{distinct, same_base, same_type}
use Rattle.fm_world.specs.Numbers.{arrays_in, type_of_class}
use Rattle.fm_link_records.specs.inner.InTurn.{Tells}
use Rattle.fm_link_records.specs.inner.TypeNumbers.{types_by, with_type, with_types}
use Rattle.fm_link_records.proofs.OneByOne.{distinct-all, with_all-append}

pub same_type-tells : Tells TypeRef same_type
same_type-tells = record {
  exact = λ a b h.
      let both = and_parts (a.dims == b.dims) (same_base a.base b.base) h in
      ap (λ n. record a { dims = n }) (eqb-true a.dims b.dims both.0) ∙ ap (λ x. record b { base = x }) (same_base-eq a.base b.base both.1);
  itself = λ a. and_from (a.dims == a.dims) (same_base a.base a.base) (eq-eqb a.dims a.dims refl) (same_base-refl a.base);
}

-- of the types that a function makes of numbers in turn, the first one is added and the others are left
pub numbers_step : (make : ℕ → TypeRef) (k n : ℕ) (old new all : List TypeRef) → k < n → new ≡ with_type old (make k)
    → with_types old (map make (range_with_len k (n - k))) ≡ all → with_types new (map make (range_with_len (k + 1) (n - (k + 1)))) ≡ all
numbers_step make k n old new all below added before =
    let more : suc (n - (k + 1)) ≡ n - k = omega (arith, below) in
    ap (λ ts. with_types ts (map make (range_with_len (k + 1) (n - (k + 1))))) added
    ∙ ap (λ len. with_types old (map make (range_with_len k len))) more ∙ before

-- the arrays of one type more
pub arrays_step : (named : List TypeRef) (i : ℕ) (old new all : List TypeRef) → i < length named
    → new ≡ with_types old (arrays_in (get_or named i (record { dims = 0; base = base.Boolean })))
    → with_types old (flat_map arrays_in (drop i named)) ≡ all
    → with_types new (flat_map arrays_in (drop (i + 1) named)) ≡ all
arrays_step named i old new all within added before =
    let t = get_or named i (record { dims = 0; base = base.Boolean }) in
    ap (λ ts. with_types ts (flat_map arrays_in (drop (i + 1) named))) added
    ∙ sym (with_all-append same_type old (arrays_in t) (flat_map arrays_in (drop (i + 1) named)))
    ∙ sym (ap (λ ts. with_types old (flat_map arrays_in ts)) (drop_here named i t within (get_or_default named i _ t within)))
    ∙ before

-- all types, one part after the other
pub all_types : (count : ℕ) (named made start a b c d : List TypeRef)
    → start ≡ [] → a ≡ with_types start (map type_of_class (range_with_len 0 count)) → b ≡ with_types a named
    → c ≡ with_types b (flat_map arrays_in named) → d ≡ with_types c (flat_map arrays_in made) → d ≡ types_by count named made
unfolding types_by
all_types count named made start a b c d none e f g h =
    let classes = map type_of_class (range_with_len 0 count) in
    let first : a ≡ distinct same_type classes = e ∙ ap (λ ts. with_types ts classes) none ∙ distinct-all same_type same_type-tells [] classes in
    let second : b ≡ distinct same_type (classes ++ named) = f ∙ ap (λ ts. with_types ts named) first
    ∙ distinct-all same_type same_type-tells classes named in
    let third : c ≡ distinct same_type (classes ++ named ++ flat_map arrays_in named) =
    g ∙ ap (λ ts. with_types ts (flat_map arrays_in named)) second
    ∙ distinct-all same_type same_type-tells (classes ++ named) (flat_map arrays_in named) in
    h ∙ ap (λ ts. with_types ts (flat_map arrays_in made)) third
    ∙ distinct-all same_type same_type-tells (classes ++ named ++ flat_map arrays_in named) (flat_map arrays_in made)
    ∙ ap (distinct same_type) (append_assoc (classes ++ named) (flat_map arrays_in named) (flat_map arrays_in made)
    ∙ ap (λ ts. classes ++ named ++ ts) (sym (flat_map-append arrays_in named made)))

-- what the set has after one type more
pub inserted : (types : List TypeRef) (t : TypeRef) → insert_key ghosts.eq types t ≡ with_type types t
inserted types t = ap (λ test. cond (list_any test types) types (types ++ t ∷ [])) (tested_type t)
