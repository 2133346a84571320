-- The row of multianewarray: each array of arrays is made before it is put at its place in the one
-- that was made before, and is of that one's element type.
use Rattle.std.proofs.Common.{◌≡◌, ℕ, zero, suc, ℤ, ◌+◌, ◌*◌, ◌<◌, ◌≤◌, ◌&&◌, int_lt, pos, unsigned_abs, List, [], ◌∷◌, ◌++◌, length, replicate, reverse, nat_lt, nat_le, Option, Some, None, refl, sym, ◌∙◌, ap, subst, inl, inr, slice_get, append_assoc, arith}
use Rattle.std.specs.List.{AllByRecursion, flat_map, list_any, range_with_len}
use Rattle.std.proofs.Math.Nat.{suc-mul}
use Rattle.std.proofs.lemmas.Bool.{and_parts, leb-true, lt-ltb, ltb-true}
use Rattle.std.proofs.lemmas.List.{append-nil, length-append, length-replicate, length-reverse}
use Rattle.std.proofs.lemmas.List.FromFn.{length-range_with_len}
use Rattle.fm_base.proofs.ListFacts.{AllByRecursion-reversed}
use Rattle.fm_base.proofs.OptionFacts.{cond-some_then, option_map-some}
use Rattle.fm_base.specs.declared.kinds.Kind.TheVariants as kind
use Rattle.fm_base.specs.declared.kinds.TypeRef.{TypeRef}
use Rattle.fm_types.specs.ArrayRows.{multi_array_row}
use Rattle.fm_types.specs.Fits.{depth_of, fits_type}
use Rattle.fm_types.specs.States.{taken, worked}
use Rattle.fm_types.specs.declared.slots.Slot.{Slot}
use Rattle.fm_types.specs.declared.slots.Slot.TheVariants as slot
use Rattle.fm_types.proofs.Order.{type-refl}
use Rattle.fm_world.specs.Programs.{Outline}
use Rattle.fm_world.specs.declared.uses.Use.{Use}
use Rattle.fm_frames.specs.ArrayRows.{array_actions, arrays_made, arrays_of, element_kind, element_type, ints_at, multi_array_effect, thrown_negative}
use Rattle.fm_frames.specs.Effects.{Action, OfMade, Put, words}
use Rattle.fm_frames.specs.Sights.{sight, Sight, sights, Word}
use Rattle.fm_frames.specs.States.{word_at}
use Rattle.fm_frames.specs.declared.values.Value.TheVariants as value
use Rattle.fm_law_sound.proofs.Cases.{by_if}
use Rattle.fm_law_sound.proofs.NestedArrays.{deep_enough}
use Rattle.fm_law_no_fault.proofs.ActsKeep.{types_after}
use Rattle.fm_law_no_fault.proofs.ActsSuits.{made_stays}
use Rattle.fm_law_no_fault.proofs.ArrayRows.{negative_whole}
use Rattle.fm_law_no_fault.proofs.ArrayTypes.{element_kind-is}
use Rattle.fm_law_no_fault.proofs.ObjectRows.{by_row_type, made_is}
use Rattle.fm_law_no_fault.proofs.Operands.{int_kind}
use Rattle.fm_law_no_fault.proofs.Owing.{ActsSuit, Suits}
use Rattle.fm_law_no_fault.proofs.RowCases.{Row, Whole, worked_leaves}
use Rattle.fm_law_no_fault.proofs.Wanted.{wanted_at, word_fits_at, word_there}

-- ---- lists

-- what follows one list is at its length
past_first : {X : Type 0} (xs ys : List X) → slice_get (xs ++ ys) (length xs) ≡ slice_get ys 0
past_first [] ys = refl
past_first (x ∷ xs) ys = past_first xs ys

all_within : (P : ℕ → Type 0) (n start : ℕ) → ((k : ℕ) → k < start + n → P k) → AllByRecursion P (range_with_len start n)
all_within P zero start each = tt
all_within P (suc n) start each =
    (each start (omega arith), all_within P n (start + 1) (λ k less. each k (let level : start + 1 + n ≡ start + suc n = omega arith in omega (arith, level, less))))

all_same : (n k : ℕ) (s : Slot) → k < n → slice_get (replicate n s) k ≡ Some s
all_same zero k s less = absurd (omega (arith, less))
all_same (suc n) zero s less = refl
all_same (suc n) (suc k) s less = all_same n k s (omega (arith, less))

module _ (r : Row) where
  abbrev o : Outline
  o = r.program.outline

  abbrev seen : List Sight
  seen = sights o r.areas.store r.frame.stack

  abbrev Suit : List TypeRef → List Action → Type 0
  Suit types actions = ActsSuit o r.areas.store r.frame.stack types actions

  -- ---- what is made and put

  -- all that follows suits, whichever objects were made, if they are this many, the first of them
  -- of this type
  abbrev SuitAfter : List TypeRef → ℕ → TypeRef → List Action → Type 0
  SuitAfter types n t rest = (made : List TypeRef) → length made ≡ n → slice_get made 0 ≡ Some t → Suit (types ++ made) rest

  -- the arrays of one level
  abbrev LevelSuits : TypeRef → List ℕ → Type 0
  LevelSuits t counts =
      (types : List TypeRef) (first : ℕ) (rest : List Action) → length types ≡ first → SuitAfter types (arrays_made counts) t rest
      → Suit types (array_actions t counts first ++ rest)

  -- what is made and put for one place
  abbrev at_place : TypeRef → List ℕ → ℕ → ℕ → List Action
  at_place t counts first place =
      array_actions (element_type t) counts (first + 1 + place * arrays_made counts)
      ++ Put (OfMade first) place (element_kind t) (OfMade (first + 1 + place * arrays_made counts)) ∷ []

  -- an array of arrays takes one of its element type
  array_taken : (t : TypeRef) → 1 < t.dims → (types : List TypeRef) (made : ℕ) → slice_get types made ≡ Some (element_type t)
      → Suits o r.areas.store r.frame.stack types (element_kind t) (OfMade made)
  array_taken t deep types made at =
      let kind_is : element_kind t ≡ kind.Ref (element_type t) =
      element_kind-is t (lt-ltb 0 (depth_of t) (deep_enough t.dims t.base deep)) in
      subst (λ k. Suits o r.areas.store r.frame.stack types k (OfMade made)) (sym kind_is)
      (element_type t, at, type-refl o.classes r.steps.tree (element_type t))

  module _ (t : TypeRef) (deep : 1 < t.dims) (counts : List ℕ) (first : ℕ) (types : List TypeRef) (long : length types ≡ first + 1)
      (inner : LevelSuits (element_type t) counts) where
    abbrev size : ℕ
    size = arrays_made counts

    places_suit : (n start : ℕ) (done : List TypeRef) (rest : List Action) → length done ≡ start * size
        → ((made : List TypeRef) → length made ≡ (start + n) * size → Suit (types ++ made) rest)
        → Suit (types ++ done) (flat_map (at_place t counts first) (range_with_len start n) ++ rest)
    places_suit zero start done rest made follows =
        let same : start + 0 ≡ start = omega arith in follows done (made ∙ ap (λ k. k * size) (sym same))
    places_suit (suc n) start done rest made follows =
        let place : ℕ = first + 1 + start * size in
        let one : List Action = array_actions (element_type t) counts place in
        let put : Action = Put (OfMade first) start (element_kind t) (OfMade place) in
        let more : List Action = flat_map (at_place t counts first) (range_with_len (start + 1) n) in
        let joined : ((one ++ put ∷ []) ++ more) ++ rest ≡ one ++ (put ∷ more ++ rest) =
        append_assoc (one ++ put ∷ []) more rest ∙ append_assoc one (put ∷ []) (more ++ rest) in
        let many : length (types ++ done) ≡ place = let sum = length-append types done in omega (arith, sum, long, made) in
        subst (Suit (types ++ done)) (sym joined)
        (inner (types ++ done) place (put ∷ more ++ rest) many
        (λ arrays number array_is.
        let again : (types ++ done) ++ arrays ≡ types ++ (done ++ arrays) = append_assoc types done arrays in
        let all : length (done ++ arrays) ≡ (start + 1) * size =
        (let sum = length-append done arrays in let next : (start + 1) * size ≡ start * size + size = mul_next start in omega (arith, sum, made, number, next)) in
        let level : start + 1 + n ≡ start + suc n = omega arith in
        let at : slice_get ((types ++ done) ++ arrays) place ≡ Some (element_type t) =
        ap (λ k. slice_get ((types ++ done) ++ arrays) k) (sym many) ∙ past_first (types ++ done) arrays ∙ array_is in (
          array_taken t deep ((types ++ done) ++ arrays) place at,
          subst (λ xs. Suit xs (more ++ rest)) (sym again)
              (places_suit n (start + 1) (done ++ arrays) rest all
              (subst (λ k. (made : List TypeRef) → length made ≡ k * size → Suit (types ++ made) rest) (sym level) follows)),
        ))) where
          mul_next : (k : ℕ) → (k + 1) * size ≡ k * size + size
          mul_next k = let next : k + 1 ≡ suc k = omega arith in ap (λ m. m * size) next ∙ suc-mul k size

  level_suits : (t : TypeRef) (counts : List ℕ) → 0 < length counts → length counts ≤ t.dims → LevelSuits t counts
  unfolding array_actions
  level_suits t [] some within types first rest long follows = absurd (omega (arith, some))
  level_suits t (count ∷ []) some within types first rest long follows = (inl refl, follows (t ∷ []) refl refl)
  level_suits t (count ∷ next ∷ counts) some within types first rest long follows = (
    inl refl,
    subst (λ xs. Suit xs (flat_map (at_place t (next ∷ counts) first) (range_with_len 0 count) ++ rest)) (append-nil (types ++ t ∷ []))
        (places_suit t (omega (arith, within)) (next ∷ counts) first (types ++ t ∷ []) later
        (level_suits (element_type t) (next ∷ counts) (omega arith) (omega (arith, within)))
        count 0 [] rest (omega arith)
        (λ made number. subst (λ xs. Suit xs rest) (sym (append_assoc types (t ∷ []) made))
        (follows (t ∷ made)
        (let zero_on : 0 + count ≡ count = omega arith in let sum = number ∙ ap (λ k. k * arrays_made (next ∷ counts)) zero_on in omega (arith, sum)) refl))),
  ) where
    later : length (types ++ t ∷ []) ≡ first + 1
    later = let sum = length-append types (t ∷ []) in omega (arith, sum, long)

  -- all arrays that a step makes
  arrays_suit : (t : TypeRef) (counts : List ℕ) → 0 < length counts → length counts ≤ t.dims → Suit [] (array_actions t counts 0)
  arrays_suit t counts some within =
      subst (Suit []) (append-nil (array_actions t counts 0)) (level_suits t counts some within [] 0 [] refl (λ made many is. tt))

  -- ---- the first of them

  first_made : (t : TypeRef) (counts : List ℕ) → 0 < length counts → slice_get (types_after [] (array_actions t counts 0)) 0 ≡ Some t
  unfolding array_actions
  first_made t [] some = absurd (omega (arith, some))
  first_made t (count ∷ []) some = refl
  first_made t (count ∷ next ∷ counts) some =
      made_stays (flat_map (at_place t (next ∷ counts) 0) (range_with_len 0 count)) (t ∷ []) 0 t refl

  -- ---- the counts

  module _ (dimensions : ℕ) (rest : List Slot) (is : taken o (replicate dimensions slot.Int) r.before.stack ≡ Some rest) where
    int_seen : (k : ℕ) → k < dimensions → (n : ℤ) × (slice_get seen k ≡ Some (Word (value.Int n)))
    int_seen k less =
        let found = wanted_at o (replicate dimensions slot.Int) r.before.stack rest is k slot.Int (all_same dimensions k slot.Int less) in
        let fits_it = word_fits_at o r.areas.store r.own r.news r.before.stack r.frame.stack r.stack k found.0 found.1 in
        let int = int_kind o r.areas.store r.own r.news found.0 (word_at r.frame.stack k) found.2 fits_it.kind in
        (int.0, word_there o r.areas.store r.own r.news r.before.stack r.frame.stack r.stack k found.0 found.1 ∙ ap (λ v. Some (sight o r.areas.store v)) int.1)

    ints_seen : (operands : List ℕ) → AllByRecursion (λ k. k < dimensions) operands
        → (counts : List ℤ) × (ints_at seen operands ≡ Some counts) × (length counts ≡ length operands)
    ints_seen [] all = ([], refl, refl)
    ints_seen (operand ∷ operands) all =
        let first = int_seen operand all.0 in
        let others = ints_seen operands all.1 in
        (first.0 ∷ others.0, joined_is first.0 others.0 (of_sight (slice_get seen operand)) (ints_at seen operands) (int_there first.0 (slice_get seen operand) first.1) others.1, ap suc others.2) where
          of_sight : Option Sight → Option ℤ
          of_sight (Some (Word (value.Int n))) = Some n
          of_sight other = None

          joined : Option ℤ → Option (List ℤ) → Option (List ℤ)
          joined (Some n) (Some others) = Some (n ∷ others)
          joined n others = None

          int_there : (n : ℤ) (found : Option Sight) → found ≡ Some (Word (value.Int n)) → of_sight found ≡ Some n
          int_there n found is = ap of_sight is

          joined_is : (n : ℤ) (counts : List ℤ) (one : Option ℤ) (more : Option (List ℤ)) → one ≡ Some n → more ≡ Some counts
              → joined one more ≡ Some (n ∷ counts)
          joined_is n counts one more first all = ap (λ x. joined x more) first ∙ ap (λ y. joined (Some n) y) all

  -- ---- the row

  abbrev magnitudes : List ℤ → List ℕ
  magnitudes [] = []
  magnitudes (n ∷ others) = unsigned_abs n ∷ magnitudes others

  magnitudes_many : (counts : List ℤ) → length (magnitudes counts) ≡ length counts
  magnitudes_many [] = refl
  magnitudes_many (n ∷ counts) = ap suc (magnitudes_many counts)

  arrays_whole : (t : TypeRef) (dimensions : ℕ) (counts : List ℤ) → length counts ≡ dimensions → 0 < dimensions → dimensions ≤ t.dims
      → worked o (replicate dimensions slot.Int) (slot.Ref t ∷ []) r.before ≡ Some r.after → Whole r (arrays_of o t dimensions (Some counts))
  arrays_whole t dimensions counts many some within row =
      let all : length (magnitudes counts) ≡ dimensions = magnitudes_many counts ∙ many in
      by_if (Whole r) (list_any (λ n. int_lt n (pos 0)) counts) (thrown_negative o)
      (record (words dimensions (OfMade 0 ∷ [])) { actions = array_actions t (magnitudes counts) 0 }) (λ below. negative_whole r)
      (λ fine. record {
        acts = arrays_suit t (magnitudes counts) (omega (arith, all, some)) (omega (arith, all, within));
        next = worked_leaves r (replicate dimensions slot.Int) (slot.Ref t ∷ [])
            (record (words dimensions (OfMade 0 ∷ [])) { actions = array_actions t (magnitudes counts) 0 }) row
            (sym (length-replicate dimensions slot.Int)) refl
            (λ y made went. (
              inr (made_is r (types_after [] (array_actions t (magnitudes counts) 0)) y made went 0 t (λ u. fits_type o.classes u t)
                  (first_made t (magnitudes counts) (omega (arith, all, some))) (type-refl o.classes r.steps.tree t)),
              tt,
            ));
      })

  pub multi_array_whole : (dimensions : ℕ) (u : Use) → multi_array_row o u dimensions r.before ≡ Some r.after → Whole r (multi_array_effect o u dimensions seen)
  unfolding multi_array_row multi_array_effect
  multi_array_whole dimensions u row =
      by_row_type (Whole r) o u _ r.after row _
      (λ n t is at made.
      let parts = cond-some_then (nat_lt 0 dimensions && nat_le dimensions t.dims)
      (worked o (replicate dimensions slot.Int) (slot.Ref t ∷ []) r.before) r.after made in
      let both = and_parts (nat_lt 0 dimensions) (nat_le dimensions t.dims) parts.0 in
      let rest = option_map-some (λ stack. record r.before { stack = (slot.Ref t ∷ []) ++ stack }) (taken o (replicate dimensions slot.Int) r.before.stack)
      r.after parts.1 in
      let places : List ℕ = reverse (range_with_len 0 dimensions) in
      let found = ints_seen dimensions rest.0 rest.1 places
      (AllByRecursion-reversed (λ k. k < dimensions) (range_with_len 0 dimensions) (all_within (λ k. k < dimensions) dimensions 0 (λ k less. omega (arith, less)))) in
      subst (λ counts. Whole r (arrays_of o t dimensions counts)) (sym found.1)
      (arrays_whole t dimensions found.0
      (found.2 ∙ length-reverse (range_with_len 0 dimensions) ∙ length-range_with_len 0 dimensions) (ltb-true 0 dimensions both.0)
      (leb-true dimensions t.dims both.1) parts.1))
