-- Regions of classes: which there are, that they go along calls and returns, and that a frame's own
-- regions are distinguished by its classes.
use Rattle.std.proofs.Common.{◌≡◌, ◌≢◌, ℕ, zero, suc, ◌+◌, ◌≤◌, ◌⊎◌, ◌==◌, ◌&&◌, cond, Bool, true, false, List, [], ◌∷◌, length, Option, Some, None, IsSomeAnd, refl, sym, ◌∙◌, ap, subst, inl, inr, slice_get, arith, eqb-true, eq-eqb, ⊎_elim}
use Rattle.std.proofs.lemmas.Bool.{and_from, and_parts, cases_Bool, eqb-false, false≢true}
use Rattle.fm_types.specs.States.{is_reference}
use Rattle.fm_types.specs.Typed.{entry_slots}
use Rattle.fm_types.specs.declared.slots.Slot as slots
use Rattle.fm_world.specs.Programs.{Outline}
use Rattle.fm_conn.specs.Facts.{Facts}
use Rattle.fm_conn.specs.Nodes.{Local, Global}
use Rattle.fm_conn.specs.Pairs.{IsEnd}
use Rattle.fm_conn.specs.declared.ends.End2.TheVariants as end
use Rattle.fm_frames.specs.States.{Frame}
use Rattle.fm_same.specs.Laws.{IsWithin}
use Rattle.fm_same.specs.Regions.{Region, Everywhere, Given, Own, argument, parameter_from, parameter_in, region, region_by}

-- ---- the first parameter of a class

tested : (b : Bool) (k : ℕ) (rest : Option ℕ) (i : ℕ) → cond b (Some k) rest ≡ Some i → ((b ≡ true) × (k ≡ i)) ⊎ ((b ≡ false) × (rest ≡ Some i))
tested true k rest i h = inl (refl, cc)
tested false k rest i h = inr (refl, h)

untested : (b : Bool) (k : ℕ) (rest : Option ℕ) → cond b (Some k) rest ≡ None → (b ≡ false) × (rest ≡ None)
untested true k rest h = absurd (cc)
untested false k rest h = (refl, h)

abbrev pub IsReferenceAt : List slots.Slot → ℕ → Type 0
IsReferenceAt all n = IsSomeAnd (slice_get all n) (λ s. is_reference s ≡ true)

pub record IsParameterOf (class_of : ℕ → ℕ) (class k i : ℕ) (all : List slots.Slot) : Type 0 where
  pub place : ℕ
  pub is : i ≡ k + place
  pub reference : IsReferenceAt all place
  pub in_class : class_of i ≡ class

parameter_found : (class_of : ℕ → ℕ) (class k : ℕ) (all : List slots.Slot) (i : ℕ) → parameter_from class_of class k all ≡ Some i
    → IsParameterOf class_of class k i all
parameter_found class_of class k [] i h = absurd (cc)
parameter_found class_of class k (s ∷ more) i h =
    ⊎_elim (λ here. found here.0 here.1) (λ later. further (parameter_found class_of class (suc k) more i later.1))
    (tested (is_reference s && (class_of k == class)) k (parameter_from class_of class (suc k) more) i h) where
      found : (is_reference s && (class_of k == class)) ≡ true → k ≡ i → IsParameterOf class_of class k i (s ∷ more)
      found both same =
          let parts : (is_reference s ≡ true) × ((class_of k == class) ≡ true) = and_parts (is_reference s) (class_of k == class) both in
          record { place = 0; is = omega arith; reference = parts.0; in_class = ap class_of (sym same) ∙ eqb-true (class_of k) class parts.1 }

      further : IsParameterOf class_of class (suc k) i more → IsParameterOf class_of class k i (s ∷ more)
      further rest =
          let before : i ≡ suc k + rest.place = rest.is in
          record { place = suc rest.place; is = omega arith; reference = rest.reference; in_class = rest.in_class }

parameter_missing : (class_of : ℕ → ℕ) (class k : ℕ) (all : List slots.Slot) (n : ℕ) → parameter_from class_of class k all ≡ None
    → IsReferenceAt all n → class_of (k + n) ≡ class → ⊥
parameter_missing class_of class k [] n h there same = there
parameter_missing class_of class k (s ∷ more) zero h there same =
    let parts : ((is_reference s && (class_of k == class)) ≡ false) × (parameter_from class_of class (suc k) more ≡ None) =
    untested (is_reference s && (class_of k == class)) k (parameter_from class_of class (suc k) more) h in
    let at : k + 0 ≡ k = omega arith in
    false≢true (sym parts.0 ∙ and_from (is_reference s) (class_of k == class) there (eq-eqb (class_of k) class (ap class_of (sym at) ∙ same)))
parameter_missing class_of class k (s ∷ more) (suc n) h there same =
    let parts : ((is_reference s && (class_of k == class)) ≡ false) × (parameter_from class_of class (suc k) more ≡ None) =
    untested (is_reference s && (class_of k == class)) k (parameter_from class_of class (suc k) more) h in
    let at : k + suc n ≡ suc k + n = omega arith in
    parameter_missing class_of class (suc k) more n parts.1 there (ap class_of (sym at) ∙ same)

-- a parameter that is found is an end, in the class
pub parameter_is : (o : Outline) (facts : Facts) (method class k : ℕ) → parameter_in o facts method class ≡ Some k
    → IsEnd o method (end.Parameter k) × (facts.class method (Local k) ≡ class)
parameter_is o facts method class k h =
    let found : IsParameterOf (λ i. facts.class method (Local i)) class 0 k (entry_slots o method) =
    parameter_found (λ i. facts.class method (Local i)) class 0 (entry_slots o method) k h in
    let is : k ≡ 0 + found.place = found.is in
    let same : found.place ≡ k = omega arith in
    (subst (λ i. IsReferenceAt (entry_slots o method) i) same found.reference, found.in_class)

-- a parameter of the class is found, if it isn't the first one then another
pub parameter_there : (o : Outline) (facts : Facts) (method k : ℕ) → IsEnd o method (end.Parameter k)
    → parameter_in o facts method (facts.class method (Local k)) ≢ None
parameter_there o facts method k ended none =
    let at : 0 + k ≡ k = omega arith in
    parameter_missing (λ i. facts.class method (Local i)) (facts.class method (Local k)) 0 (entry_slots o method) k none ended
    (ap (λ i. facts.class method (Local i)) at)

-- ---- which region a class has

-- what a parameter of the frame on these was handed
abbrev pub handed : Outline → Facts → List Frame → ℕ → Region
handed o facts [] k = Given
handed o facts (f ∷ callers) k = region o facts f.method callers (facts.class f.method (argument f k))

pub region_is : (o : Outline) (facts : Facts) (method : ℕ) (callers : List Frame) (class : ℕ)
    → region o facts method callers class
    ≡ region_by (facts.class method Global == class) (parameter_in o facts method class) (Own (length callers) class) (handed o facts callers)
unfolding region
region_is o facts method [] class = refl
region_is o facts method (f ∷ callers) class = refl

everywhere_by : (b : Bool) (k : Option ℕ) (own : Region) (given : ℕ → Region) → b ≡ true → region_by b k own given ≡ Everywhere
everywhere_by true k own given e = refl
everywhere_by false k own given e = absurd (false≢true e)

own_by : (b : Bool) (k : Option ℕ) (own : Region) (given : ℕ → Region) → b ≡ false → k ≡ None → region_by b k own given ≡ own
own_by true k own given e h = absurd (false≢true (sym e))
own_by false None own given e h = refl
own_by false (Some k) own given e h = absurd (cc)

given_by : (b : Bool) (k : Option ℕ) (own : Region) (given : ℕ → Region) (i : ℕ) → b ≡ false → k ≡ Some i → region_by b k own given ≡ given i
given_by true k own given i e h = absurd (false≢true (sym e))
given_by false None own given i e h = absurd (cc)
given_by false (Some k) own given i e h = let same : k ≡ i = cc in ap given same

pub region_global : (o : Outline) (facts : Facts) (method : ℕ) (callers : List Frame) (class : ℕ) → facts.class method Global ≡ class
    → region o facts method callers class ≡ Everywhere
region_global o facts method callers class e =
    region_is o facts method callers class
    ∙ everywhere_by (facts.class method Global == class) (parameter_in o facts method class) (Own (length callers) class) (handed o facts callers)
    (eq-eqb (facts.class method Global) class e)

-- the three sorts of classes, each with its region
pub data Sort (o : Outline) (facts : Facts) (method : ℕ) (callers : List Frame) (class : ℕ) : Type 0 where
  WithGlobal : facts.class method Global ≡ class → region o facts method callers class ≡ Everywhere → Sort o facts method callers class
  WithParameter : (k : ℕ) → IsEnd o method (end.Parameter k) → facts.class method (Local k) ≡ class
      → region o facts method callers class ≡ handed o facts callers k → Sort o facts method callers class
  WithNeither : ¬ (facts.class method Global ≡ class) → parameter_in o facts method class ≡ None
      → region o facts method callers class ≡ Own (length callers) class → Sort o facts method callers class

sort_by : (o : Outline) (facts : Facts) (method : ℕ) (callers : List Frame) (class : ℕ) → (facts.class method Global == class) ≡ false
    → (found : Option ℕ) → parameter_in o facts method class ≡ found → Sort o facts method callers class
sort_by o facts method callers class e None h =
    WithNeither (eqb-false (facts.class method Global) class e) h
    (region_is o facts method callers class
    ∙ own_by (facts.class method Global == class) (parameter_in o facts method class) (Own (length callers) class) (handed o facts callers) e h)
sort_by o facts method callers class e (Some k) h =
    let there : IsEnd o method (end.Parameter k) × (facts.class method (Local k) ≡ class) = parameter_is o facts method class k h in
    WithParameter k there.0 there.1
    (region_is o facts method callers class
    ∙ given_by (facts.class method Global == class) (parameter_in o facts method class) (Own (length callers) class) (handed o facts callers) k e h)

pub sort_of : (o : Outline) (facts : Facts) (method : ℕ) (callers : List Frame) (class : ℕ) → Sort o facts method callers class
sort_of o facts method callers class =
    ⊎_elim
    (λ e. let same : facts.class method Global ≡ class = eqb-true (facts.class method Global) class e in
    WithGlobal same (region_global o facts method callers class same))
    (λ e. sort_by o facts method callers class e (parameter_in o facts method class) refl)
    (cases_Bool (facts.class method Global == class))

-- ---- own regions

within_everywhere : (depth class : ℕ) (r : Region) → r ≡ Everywhere → IsWithin depth class r
within_everywhere depth class r e = record {
  not_retired = λ h. absurd (cc);
  below = λ d c h. absurd (cc);
  own = λ c h. absurd (cc);
}

within_given : (depth class : ℕ) (r : Region) → r ≡ Given → IsWithin depth class r
within_given depth class r e = record {
  not_retired = λ h. absurd (cc);
  below = λ d c h. absurd (cc);
  own = λ c h. absurd (cc);
}

within_own : (depth class : ℕ) (r : Region) → r ≡ Own depth class → IsWithin depth class r
within_own depth class r e = record {
  not_retired = λ h. absurd (cc);
  below = λ d c h. let same : d ≡ depth = cc in omega arith;
  own = λ c h. let same : c ≡ class = cc in same;
}

-- one that is within the frame below is within this one
within_above : (depth class other : ℕ) (r s : Region) → r ≡ s → IsWithin depth other s → IsWithin (suc depth) class r
within_above depth class other r s e h = record {
  not_retired = λ retired. h.not_retired (sym e ∙ retired);
  below = λ d c own. let le : d ≤ depth = h.below d c (sym e ∙ own) in omega arith;
  own = λ c own. let le : suc depth ≤ depth = h.below (suc depth) c (sym e ∙ own) in absurd (omega arith);
}

within_sort : (o : Outline) (facts : Facts) (method : ℕ) (callers : List Frame) (class : ℕ)
    → ((k : ℕ) → IsWithin (length callers) class (handed o facts callers k)) → Sort o facts method callers class
    → IsWithin (length callers) class (region o facts method callers class)
within_sort o facts method callers class given (WithGlobal e is) = within_everywhere (length callers) class (region o facts method callers class) is
within_sort o facts method callers class given (WithParameter k ended same is) =
    subst (λ r. IsWithin (length callers) class r) (sym is) (given k)
within_sort o facts method callers class given (WithNeither not_global none is) =
    within_own (length callers) class (region o facts method callers class) is

-- own regions are those of the frame's own classes, and of frames below it
pub region_within : (o : Outline) (facts : Facts) (method : ℕ) (callers : List Frame) (class : ℕ)
    → IsWithin (length callers) class (region o facts method callers class)
region_within o facts method [] class =
    within_sort o facts method [] class (λ k. within_given 0 class Given refl) (sort_of o facts method [] class)
region_within o facts method (f ∷ callers) class =
    within_sort o facts method (f ∷ callers) class
    (λ k. within_above (length callers) class (facts.class f.method (argument f k))
    (region o facts f.method callers (facts.class f.method (argument f k)))
    (region o facts f.method callers (facts.class f.method (argument f k))) refl
    (region_within o facts f.method callers (facts.class f.method (argument f k))))
    (sort_of o facts method (f ∷ callers) class)
