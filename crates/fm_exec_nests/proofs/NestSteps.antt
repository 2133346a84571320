-- Arrays of arrays are made: what an effect has left, from one element to the next.
use Rattle.std.proofs.Common.{◌≡◌, ℕ, suc, ◌+◌, ◌*◌, ◌-◌, ◌<◌, ◌≤◌, ◌^◌, false, List, [], ◌∷◌, ◌++◌, length, length-append, drop, get_or, take, Option, Some, None, refl, ap, sym, ◌∙◌, subst, append_assoc, arith}
use Rattle.std.specs.List.{slice_index_or}
use Rattle.std.specs.Option.{unwrap_or}
use Rattle.std.proofs.Math.Nat.{mul-le-mul_right, suc-mul}
use Rattle.std.proofs.Math.Seq.{get_or-append_seam}
use Rattle.std.proofs.lemmas.List.{take_all}
use Rattle.fm_base.specs.declared.kinds.Kind.{Kind}
use Rattle.fm_base.specs.declared.kinds.TypeRef.{TypeRef}
use Rattle.fm_cells.specs.Objects.{request_of, request_words}
use Rattle.fm_cells.specs.Stores.{live_words}
use Rattle.fm_cells.specs.declared.answers.Cell.{Cell}
use Rattle.fm_frames.proofs.Acting.{sources_in}
use Rattle.fm_frames.proofs.OpeningSteps.{request-is}
use Rattle.fm_frames.proofs.Underways.{made-full, made-next, put-next}
use Rattle.fm_frames.specs.Acts.{Choose, put_value, requested, value_of}
use Rattle.fm_frames.specs.ArrayRows.{array_actions, arrays_made, element_kind, element_type}
use Rattle.fm_frames.specs.Effects.{Action, Effect, OfMade}
use Rattle.fm_frames.specs.Elements.{pack_of}
use Rattle.fm_frames.specs.States.{ref, State}
use Rattle.fm_frames.specs.declared.values.Value.TheVariants as value
use Rattle.fm_frames.specs.inner.Doings.{Makes, Underway}
use Rattle.fm_exec_nests.proofs.NestActions.{arrays-more, nest-actions, one-action, parts-joined, places-step, places_from, put_at}
use Rattle.fm_exec_nests.proofs.NestEnds.{nest-some}
use Rattle.fm_exec_nests.proofs.NestStores.{grows-made, grows-put, grows-then}
use Rattle.fm_exec_nests.specs.inner.Nests.{CanNest, Grows, IsNest, nest_words, Nests}
use Rattle.fm_world.specs.Numbers.{type_number}
use Rattle.fm_world.specs.Programs.{Outline, Program}

-- ---- the outer array

-- what was asked for by numbers
pub asked-as : (p : Program) (choose : Choose) (y z : State) (t : TypeRef) (id len pack : ℕ) (made : Option Cell) → id ≡ unwrap_or (type_number p.outline.types t) 0
    → pack ≡ pack_of p.outline t → Makes choose y z (request_of id len pack false) [] made → Makes choose y z (requested p.outline t len false) [] made
asked-as p choose y z t id len pack made number is makes =
    subst (λ r. Makes choose y z r [] made) (sym (request-is p.outline t id len pack false number is)) makes

pub lens-are : (lens : List ℕ) (d : ℕ) → 0 < length lens → lens ≡ get_or lens 0 d ∷ take (length lens - 1) (drop 1 lens)
lens-are [] d some = absurd (omega (arith, some))
lens-are (len ∷ inner) d some = ap (λ xs. len ∷ xs) (sym (take_all (length (len ∷ inner) - 1) inner (omega arith)))

pub nest-full : (p : Program) (choose : Choose) (y z : State) (t : TypeRef) (len : ℕ) (inner : List ℕ) → Makes choose y z (requested p.outline t len false) [] None
    → Nests p choose y z t (len ∷ inner) None
nest-full p choose y z t len [] makes x e made left so =
    made-full p choose x y z e made t len [] left (subst (λ actions. Underway p choose x y e made (actions ++ left)) (one-action t len (length made)) so) makes
nest-full p choose y z t len (next ∷ lens) makes x e made left so =
    made-full p choose x y z e made t len [] (places_from t (next ∷ lens) (length made) 0 len ++ left)
    (subst (λ actions. Underway p choose x y e made (actions ++ left)) (nest-actions t len next (length made) lens) so) makes

-- with no dimension below it there is nothing else
pub nest-one : (p : Program) (choose : Choose) (y z : State) (t : TypeRef) (len : ℕ) (array : Cell) → Makes choose y z (requested p.outline t len false) [] (Some array)
    → IsNest p choose y z t (len ∷ []) array.0
nest-one p choose y z t len array makes = record {
  others = [];
  many = refl;
  leads = λ x e made left so.
      made-next p choose x y z e made t len [] left array
      (subst (λ actions. Underway p choose x y e made (actions ++ left)) (one-action t len (length made)) so) makes;
  grows =
      let none : request_words (requested p.outline t len false) ≡ nest_words p.outline t (len ∷ []) = omega arith in
      subst (Grows y.areas.store z.areas.store 1) none (grows-made choose y z (requested p.outline t len false) array makes);
}

-- ---- its elements

-- the elements before this one have their arrays
pub record IsFilling (p : Program) (choose : Choose) (y z : State) (t : TypeRef) (len : ℕ) (inner : List ℕ) (array place : ℕ) : Type 0 where
  pub others : List ℕ
  pub many : length others ≡ place * arrays_made inner
  pub leads : (x : State) (e : Effect) (made : List ℕ) (left : List Action)
      → Underway p choose x y e (made ++ array ∷ []) (places_from t inner (length made) 0 len ++ left)
      → Underway p choose x z e (made ++ array ∷ others) (places_from t inner (length made) place (len - place) ++ left)
  pub grows : Grows y.areas.store z.areas.store (place * arrays_made inner) (place * nest_words p.outline (element_type t) inner)

pub filling-begins : (p : Program) (choose : Choose) (y : State) (t : TypeRef) (len : ℕ) (inner : List ℕ) (array : ℕ)
    → IsFilling p choose y y t len inner array 0
filling-begins p choose y t len inner array = record {
  others = [];
  many = omega arith;
  leads = λ x e made left so.
      let all : len ≡ len - 0 = omega arith in
      subst (λ n. Underway p choose x y e (made ++ array ∷ []) (places_from t inner (length made) 0 n ++ left)) all so;
  grows = record { births = omega arith; live = omega arith; budget = refl; wide = λ cell wide. wide };
}

-- before the arrays of an element are made
pub filling-asks : (p : Program) (choose : Choose) (y z : State) (t : TypeRef) (len : ℕ) (inner : List ℕ) (array place : ℕ) (x : State) (e : Effect) (made : List ℕ) (left : List Action)
    → place < len → (so : IsFilling p choose y z t len inner array place)
    → Underway p choose x y e (made ++ array ∷ []) (places_from t inner (length made) 0 len ++ left)
    → Underway p choose x z e (made ++ array ∷ so.others)
    (array_actions (element_type t) inner (length (made ++ array ∷ so.others))
    ++ (put_at t inner (length made) place ∷ places_from t inner (length made) (place + 1) (len - (place + 1)) ++ left))
filling-asks p choose y z t len inner array place x e made left inside so begun =
    let first : ℕ = length made in
    let cells : List ℕ = made ++ array ∷ so.others in
    let at : ℕ = first + 1 + place * arrays_made inner in
    let more : List Action = places_from t inner first (place + 1) (len - (place + 1)) in
    let many = so.many in
    let count : length cells ≡ first + length (array ∷ so.others) = length-append made (array ∷ so.others) in
    let here : at ≡ length cells = omega (arith, count, many) in
    subst (Underway p choose x z e cells)
    (ap (λ actions. actions ++ left) (places-step t inner first place len inside)
    ∙ parts-joined (array_actions (element_type t) inner at) (put_at t inner first place) more left
    ∙ ap (λ at. array_actions (element_type t) inner at ++ (put_at t inner first place ∷ more ++ left)) here)
    (so.leads x e made left begun)

next-product : (place n : ℕ) → (place + 1) * n ≡ place * n + n
next-product place n = let next : place + 1 ≡ suc place = omega arith in ap (λ k. k * n) next ∙ suc-mul place n

pub filling-next : (p : Program) (choose : Choose) (y z w v : State) (t : TypeRef) (len : ℕ) (inner : List ℕ) (array : Cell) (place : ℕ) (held : Cell) (k : Kind) → place < len
    → IsFilling p choose y z t len inner array.0 place → IsNest p choose z w (element_type t) inner held.0
    → v ≡ record w { areas = put_value w.areas (ref array.0) place k (value.Ref held) } → IsFilling p choose y v t len inner array.0 (place + 1)
filling-next p choose y z w v t len inner array place held k inside so nest is =
    let size : ℕ = arrays_made inner in
    let many = so.many in
    let nest_many = nest.many in
    let joined = length-append so.others (held.0 ∷ nest.others) in
    let product = next-product place size in
    let words = next-product place (nest_words p.outline (element_type t) inner) in
    record {
      others = so.others ++ held.0 ∷ nest.others;
      many = omega (arith, many, nest_many, joined, product);
      leads = λ x e made left begun.
          let first : ℕ = length made in
          let cells : List ℕ = made ++ array.0 ∷ so.others in
          let all : List ℕ = cells ++ held.0 ∷ nest.others in
          let at : ℕ = first + 1 + place * size in
          let more : List Action = places_from t inner first (place + 1) (len - (place + 1)) in
          let count : length cells ≡ first + length (array.0 ∷ so.others) = length-append made (array.0 ∷ so.others) in
          let here : at ≡ length cells = omega (arith, count, many) in
          let apart : all ≡ made ++ array.0 ∷ (so.others ++ held.0 ∷ nest.others) = append_assoc made (array.0 ∷ so.others) (held.0 ∷ nest.others) in
          let to : value_of (sources_in x w.areas all) (OfMade first) ≡ ref array.0 =
          ap ref (ap (λ cells. slice_index_or cells first 0) apart ∙ get_or-append_seam made array.0 (so.others ++ held.0 ∷ nest.others) 0) in
          let from : value_of (sources_in x w.areas all) (OfMade at) ≡ ref held.0 =
          ap ref (ap (λ n. slice_index_or all n 0) here ∙ get_or-append_seam cells held.0 nest.others 0) in
          subst (λ cells. Underway p choose x v e cells (more ++ left)) apart
          (put-next p choose x w v e all (OfMade first) (OfMade at) array.0 place (element_kind t) (ref held.0) (more ++ left)
          (nest.leads x e cells (put_at t inner first place ∷ more ++ left)
          (filling-asks p choose y z t len inner array.0 place x e made left inside so begun)) to from is);
      grows =
          let objects_so : place * size + (size + 0) ≡ (place + 1) * size = omega (arith, product) in
          let words_so : place * nest_words p.outline (element_type t) inner + (nest_words p.outline (element_type t) inner + 0) ≡ (place + 1) * nest_words p.outline (element_type t) inner =
          omega (arith, words) in
          subst (λ n. Grows y.areas.store v.areas.store n ((place + 1) * nest_words p.outline (element_type t) inner)) objects_so
          (subst (Grows y.areas.store v.areas.store (place * size + (size + 0))) words_so
          (grows-then y.areas.store z.areas.store v.areas.store (place * size) (size + 0) _ _ so.grows
          (grows-then z.areas.store w.areas.store v.areas.store size 0 _ 0 nest.grows (grows-put w v array.0 place k (value.Ref held) is))));
    }

-- the outer array is made, and before it nothing
pub begun-outer : (p : Program) (choose : Choose) (a y : State) (t : TypeRef) (len : ℕ) (inner : List ℕ) (array : Cell) (x : State) (e : Effect) (made : List ℕ) (left : List Action)
    → 0 < length inner → Makes choose a y (requested p.outline t len false) [] (Some array)
    → Underway p choose x a e made (array_actions t (len ∷ inner) (length made) ++ left)
    → Underway p choose x y e (made ++ array.0 ∷ []) (places_from t inner (length made) 0 len ++ left)
begun-outer p choose a y t len [] array x e made left some makes so = absurd (omega (arith, some))
begun-outer p choose a y t len (next ∷ lens) array x e made left some makes so =
    made-next p choose x a y e made t len [] (places_from t (next ∷ lens) (length made) 0 len ++ left) array
    (subst (λ actions. Underway p choose x a e made (actions ++ left)) (nest-actions t len next (length made) lens) so) makes

pub filling-stopped : (p : Program) (choose : Choose) (a y z w : State) (t : TypeRef) (len : ℕ) (inner : List ℕ) (array : Cell) (place : ℕ) → 0 < length inner → place < len
    → Makes choose a y (requested p.outline t len false) [] (Some array) → IsFilling p choose y z t len inner array.0 place
    → Nests p choose z w (element_type t) inner None → Nests p choose a w t (len ∷ inner) None
filling-stopped p choose a y z w t len inner array place some inside makes so stops x e made left begun =
    stops x e (made ++ array.0 ∷ so.others)
    (put_at t inner (length made) place ∷ places_from t inner (length made) (place + 1) (len - (place + 1)) ++ left)
    (filling-asks p choose y z t len inner array.0 place x e made left inside so (begun-outer p choose a y t len inner array x e made left some makes begun))

pub filling-ended : (p : Program) (choose : Choose) (a y z : State) (t : TypeRef) (len : ℕ) (inner : List ℕ) (array : Cell) (place : ℕ) → 0 < length inner → place ≡ len
    → Makes choose a y (requested p.outline t len false) [] (Some array) → IsFilling p choose y z t len inner array.0 place
    → IsNest p choose a z t (len ∷ inner) array.0
filling-ended p choose a y z t len inner array place some is makes so =
    let many = so.many ∙ ap (λ n. n * arrays_made inner) is in
    let whole = arrays-more len inner in
    let objects_so : 1 + place * arrays_made inner ≡ arrays_made (len ∷ inner) = ap (λ n. 1 + n * arrays_made inner) is ∙ sym whole in
    let words_so : request_words (requested p.outline t len false) + place * nest_words p.outline (element_type t) inner ≡ nest_words p.outline t (len ∷ inner) =
    ap (λ n. request_words (requested p.outline t len false) + n * nest_words p.outline (element_type t) inner) is in
    let none_left : len - place ≡ 0 = omega (arith, is) in
    record {
      others = so.others;
      many = omega (arith, many, whole);
      leads = λ x e made left begun.
          subst (λ n. Underway p choose x z e (made ++ array.0 ∷ so.others) (places_from t inner (length made) place n ++ left)) none_left
          (so.leads x e made left (begun-outer p choose a y t len inner array x e made left some makes begun));
      grows =
          subst (λ n. Grows a.areas.store z.areas.store n (nest_words p.outline t (len ∷ inner))) objects_so
          (subst (Grows a.areas.store z.areas.store (1 + place * arrays_made inner)) words_so
          (grows-then a.areas.store y.areas.store z.areas.store 1 (place * arrays_made inner) _ _ (grows-made choose a y (requested p.outline t len false) array makes) so.grows));
    }

-- ---- what is required

-- the outer array can be made
pub outer-birth : (o : Outline) (x : State) (t : TypeRef) (lens : List ℕ) → CanNest o x t lens → x.areas.store.births < 2 ^ 32 - 1
outer-birth o x t lens can =
    let births = can.births in
    let some = nest-some lens can.are.some in
    omega (arith, births, some)

pub outer-room : (o : Outline) (x : State) (t : TypeRef) (len : ℕ) (inner : List ℕ) → CanNest o x t (len ∷ inner)
    → live_words x.areas.store + request_words (requested o t len false) ≤ x.areas.store.budget
outer-room o x t len inner can = let room = can.room in omega (arith, room)

-- and so can the arrays of each element
pub element-can : (p : Program) (choose : Choose) (a y z : State) (t : TypeRef) (len : ℕ) (inner : List ℕ) (array : Cell) (place : ℕ) → 0 < length inner → place < len
    → Makes choose a y (requested p.outline t len false) [] (Some array) → IsFilling p choose y z t len inner array.0 place
    → CanNest p.outline a t (len ∷ inner) → CanNest p.outline z (element_type t) inner
element-can p choose a y z t len inner array place some inside makes so can =
    let grown = grows-then a.areas.store y.areas.store z.areas.store 1 (place * arrays_made inner) _ _ (grows-made choose a y (requested p.outline t len false) array makes) so.grows in
    let w : ℕ = nest_words p.outline (element_type t) inner in
    let births = grown.births in
    let live = grown.live in
    let budget = grown.budget in
    let all_births = can.births in
    let whole = arrays-more len inner in
    let room = can.room in
    let deep = can.are.deep in
    let next : place + 1 ≤ len = omega (arith, inside) in
    let objects_fit = mul-le-mul_right (arrays_made inner) next in
    let objects_next = next-product place (arrays_made inner) in
    let words_fit = mul-le-mul_right w next in
    let words_next = next-product place w in
    record {
      are = record { some = some; deep = omega (arith, deep); fit = can.are.fit.1 };
      births = omega (arith, births, all_births, whole, objects_fit, objects_next);
      room = omega (arith, live, budget, room, words_fit, words_next);
    }
