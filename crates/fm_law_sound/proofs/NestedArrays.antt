-- The actions that make arrays of arrays fit: each is made before it is put at its place in the one
-- that was made before.
use Rattle.std.proofs.Common.{◌≡◌, ℕ, zero, suc, ◌+◌, ◌*◌, ◌<◌, ◌≤◌, ◌&&◌, ◌||◌, false, cond, List, [], ◌∷◌, ◌++◌, length, Some, option_and_then, refl, sym, ◌∙◌, ap, subst, slice_get, append_assoc, arith}
use Rattle.std.specs.List.{AllByRecursion, flat_map, range_with_len}
use Rattle.std.proofs.Math.Nat.{suc-mul}
use Rattle.std.proofs.lemmas.Bool.{lt-ltb, ne_eqb}
use Rattle.std.proofs.lemmas.List.{append-nil, length-append}
use Rattle.fm_base.proofs.ListFacts.{slice_get-append_left}
use Rattle.fm_base.specs.declared.kinds.Base.{Base}
use Rattle.fm_base.specs.declared.kinds.Base.TheVariants as base
use Rattle.fm_base.specs.declared.kinds.TypeRef.{TypeRef}
use Rattle.fm_cells.specs.Stores.{Store}
use Rattle.fm_types.specs.Fits.{depth_with}
use Rattle.fm_world.specs.Chains.{same_base}
use Rattle.fm_world.specs.Members.{kinds_of}
use Rattle.fm_world.specs.Programs.{class_of_type, kind_at, Outline, Program}
use Rattle.fm_world.specs.declared.declarations.DeclaredClass.{DeclaredClass}
use Rattle.fm_frames.specs.ArrayRows.{array_actions, arrays_made, element_kind, element_type}
use Rattle.fm_frames.specs.Effects.{Action, OfMade, Put}
use Rattle.fm_frames.specs.Elements.{is_text_type}
use Rattle.fm_frames.specs.NativeRows.{class_type, text_type}
use Rattle.fm_frames.specs.States.{Frame}
use Rattle.fm_law_sound.specs.Acting.{ActsFit, PlaceFits, ValueFits}
use Rattle.fm_law_sound.specs.Making.{AreFew, IsFew, IsMakeable, IsNumbered}
use Rattle.fm_law_sound.proofs.ArrayRows.{reference_kind}
use Rattle.fm_law_sound.proofs.MadeObjects.{array_fits, number_there}

-- ---- elements

pub array_kind : (classes : List DeclaredClass) (t : TypeRef) (place : ℕ) → 0 < t.dims → kind_at classes t place ≡ Some (element_kind t)
array_kind classes t place deep =
    ap (λ b. cond b (option_and_then (λ class. slice_get (kinds_of classes class) place) (class_of_type t)) (Some (element_kind t)))
    (ne_eqb t.dims 0 (λ same. omega (arith, deep, same)))

pub array_is_no_text : (o : Outline) (t : TypeRef) → 0 < t.dims → is_text_type o t ≡ false
array_is_no_text o t deep =
    ap (λ b. (b && same_base (text_type o).base t.base) || (b && same_base (class_type o).base t.base)) (ne_eqb 0 t.dims (λ same. omega (arith, deep, same)))

pub array_place : (o : Outline) (t : TypeRef) (place : ℕ) → 0 < t.dims → PlaceFits o t place (element_kind t)
array_place o t place deep = record { kind = array_kind o.classes t place deep; no_text = array_is_no_text o t deep }

pub deep_enough : (dims : ℕ) (b : Base) → 1 < dims → 0 < depth_with dims b
deep_enough dims (base.OfClass class) deep = omega (arith, deep)
deep_enough dims b deep = omega (arith, deep)

-- an array of arrays takes arrays
array_taken : (o : Outline) (f : Frame) (t : TypeRef) (made : ℕ) → 1 < t.dims → ValueFits o f (element_kind t) (OfMade made)
array_taken o f t made deep =
    let found = reference_kind t.dims t.base (lt-ltb 0 (depth_with t.dims t.base) (deep_enough t.dims t.base deep)) in
    subst (λ k. ValueFits o f k (OfMade made)) (sym found.1) (λ areas cells statics. tt)

-- ---- lists

all_parts : (P : Action → Type 0) (xs ys : List Action) → AllByRecursion P (xs ++ ys) → AllByRecursion P xs × AllByRecursion P ys
all_parts P [] ys all = (tt, all)
all_parts P (x ∷ xs) ys all = let rest = all_parts P xs ys all.1 in ((all.0, rest.0), rest.1)

last_of : (types : List TypeRef) (t : TypeRef) → slice_get (types ++ t ∷ []) (length types) ≡ Some t
last_of [] t = refl
last_of (x ∷ types) t = last_of types t

module _ (p : Program) (ready : IsMakeable p) (store : Store) (f : Frame) where
  abbrev o : Outline
  o = p.outline

  abbrev Fits : List TypeRef → List Action → Type 0
  Fits types actions = ActsFit o store f types actions

  -- all that follows fits, whichever objects were made, if they are this many
  abbrev FitsAfter : List TypeRef → ℕ → List Action → Type 0
  FitsAfter types n rest = (made : List TypeRef) → length made ≡ n → Fits (types ++ made) rest

  -- the arrays of one level
  abbrev LevelFits : TypeRef → List ℕ → Type 0
  LevelFits t counts =
      (types : List TypeRef) (first : ℕ) (rest : List Action) → length types ≡ first → AreFew o (array_actions t counts first)
      → FitsAfter types (arrays_made counts) rest → Fits types (array_actions t counts first ++ rest)

  -- what is made and put for one place
  abbrev at_place : TypeRef → List ℕ → ℕ → ℕ → List Action
  at_place t counts first place =
      array_actions (element_type t) counts (first + 1 + place * arrays_made counts)
      ++ Put (OfMade first) place (element_kind t) (OfMade (first + 1 + place * arrays_made counts)) ∷ []

  module _ (t : TypeRef) (deep : 1 < t.dims) (counts : List ℕ) (first : ℕ) (types : List TypeRef) (long : length types ≡ first + 1)
      (outer : slice_get types first ≡ Some t) (inner : LevelFits (element_type t) counts) where
    abbrev size : ℕ
    size = arrays_made counts

    places_fit : (n start : ℕ) (done : List TypeRef) (rest : List Action) → length done ≡ start * size
        → AreFew o (flat_map (at_place t counts first) (range_with_len start n))
        → FitsAfter types ((start + n) * size) rest
        → Fits (types ++ done) (flat_map (at_place t counts first) (range_with_len start n) ++ rest)
    places_fit zero start done rest made few follows =
        let same : start + 0 ≡ start = omega arith in follows done (made ∙ ap (λ k. k * size) (sym same))
    places_fit (suc n) start done rest made few follows =
        let place : ℕ = first + 1 + start * size in
        let one : List Action = array_actions (element_type t) counts place in
        let put : Action = Put (OfMade first) start (element_kind t) (OfMade place) in
        let more : List Action = flat_map (at_place t counts first) (range_with_len (start + 1) n) in
        let parts = all_parts (IsFew o) (one ++ put ∷ []) more few in
        let parts_here = all_parts (IsFew o) one (put ∷ []) parts.0 in
        let joined : ((one ++ put ∷ []) ++ more) ++ rest ≡ one ++ (put ∷ more ++ rest) =
        append_assoc (one ++ put ∷ []) more rest ∙ append_assoc one (put ∷ []) (more ++ rest) in
        let many : length (types ++ done) ≡ place = let sum = length-append types done in omega (arith, sum, long, made) in
        subst (Fits (types ++ done)) (sym joined)
        (inner (types ++ done) place (put ∷ more ++ rest) many parts_here.0
        (λ arrays number.
        let again : (types ++ done) ++ arrays ≡ types ++ (done ++ arrays) = append_assoc types done arrays in
        let all : length (done ++ arrays) ≡ (start + 1) * size =
        (let sum = length-append done arrays in let next : (start + 1) * size ≡ start * size + size = mul_next start in omega (arith, sum, made, number, next)) in
        let level : start + 1 + n ≡ start + suc n = omega arith in (
          (t, ap (λ xs. slice_get xs first) again ∙ slice_get-append_left types (done ++ arrays) first t outer, array_place o t start (omega (arith, deep))),
          array_taken o f t place deep,
          subst (λ xs. Fits xs (more ++ rest)) (sym again)
              (places_fit n (start + 1) (done ++ arrays) rest all parts.1 (subst (λ k. FitsAfter types (k * size) rest) (sym level) follows)),
        ))) where
          mul_next : (k : ℕ) → (k + 1) * size ≡ k * size + size
          mul_next k = let next : k + 1 ≡ suc k = omega arith in ap (λ m. m * size) next ∙ suc-mul k size

  level_fits : (t : TypeRef) (counts : List ℕ) → 0 < length counts → length counts ≤ t.dims → IsNumbered o t → LevelFits t counts
  unfolding array_actions
  level_fits t [] some within number types first rest long few follows = absurd (omega (arith, some))
  level_fits t (count ∷ []) some within number types first rest long few follows =
      (array_fits o t count number (omega (arith, within)) few.0, follows (t ∷ []) refl)
  level_fits t (count ∷ next ∷ counts) some within number types first rest long few follows = (
    array_fits o t count number (omega (arith, within)) few.0,
    subst (λ xs. Fits xs (flat_map (at_place t (next ∷ counts) first) (range_with_len 0 count) ++ rest)) (append-nil (types ++ t ∷ []))
        (places_fit t (omega (arith, within)) (next ∷ counts) first (types ++ t ∷ []) later outer
        (level_fits (element_type t) (next ∷ counts) (omega arith) (omega (arith, within)) inner_number)
        count 0 [] rest (omega arith) few.1
        (λ made number. subst (λ xs. Fits xs rest) (sym (append_assoc types (t ∷ []) made))
        (follows (t ∷ made) (let zero_on : 0 + count ≡ count = omega arith in let sum = number ∙ ap (λ k. k * arrays_made (next ∷ counts)) zero_on in omega (arith, sum))))),
  ) where
    later : length (types ++ t ∷ []) ≡ first + 1
    later = let sum = length-append types (t ∷ []) in omega (arith, sum, long)

    outer : slice_get (types ++ t ∷ []) first ≡ Some t
    outer = ap (λ n. slice_get (types ++ t ∷ []) n) (sym long) ∙ last_of types t

    inner_number : IsNumbered o (element_type t)
    inner_number = ready.elements number.0 t (number_there o t number.0 number.1) (omega (arith, within))

  -- all arrays that a step makes
  pub arrays_fit : (t : TypeRef) (counts : List ℕ) → 0 < length counts → length counts ≤ t.dims → IsNumbered o t → AreFew o (array_actions t counts 0)
      → Fits [] (array_actions t counts 0)
  arrays_fit t counts some within number few =
      subst (Fits []) (append-nil (array_actions t counts 0)) (level_fits t counts some within number [] 0 [] refl few (λ made many. tt))
