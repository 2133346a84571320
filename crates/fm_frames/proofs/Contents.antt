-- Units are written into a new object one after the other.
use Rattle.std.proofs.Common.{◌≡◌, ℕ, ◌+◌, ◌<◌, ◌≤◌, ◌^◌, ℤ, pos, List, [], ◌∷◌, ◌++◌, length, take, drop, set, Option, Some, None, get_or, refl, ap, sym, ◌∙◌, subst, take_all, arith}
use Rattle.std.specs.FinMap as fin
use Rattle.std.specs.FinMap.{gets}
use Rattle.std.specs.Cmp.{nat_cmp_total}
use Rattle.std.specs.Ordering.{nat_cmp}
use Rattle.std.proofs.Math.ListN.{drop_of_length-le}
use Rattle.std.proofs.Math.Nat.{mod-eq_of_lt}
use Rattle.std.proofs.lemmas.Bool.Decides.{nat_tests}
use Rattle.std.proofs.lemmas.List.{append-nil, length-append, length-take, length-drop}
use Rattle.std.proofs.lemmas.List.Edits.{paste_more}
use Rattle.std.proofs.Math.Seq.{paste}
use Rattle.fm_alu.proofs.TwosComplementLemmas.{low_bits-lt}
use Rattle.fm_alu.specs.TwosComplement.{low_bits}
use Rattle.fm_base.specs.declared.kinds.Kind.TheVariants as kind
use Rattle.fm_cells.specs.Changes.{on_object, put_by, with_element, with_object}
use Rattle.fm_cells.proofs.Elements.{pack_at-some}
use Rattle.fm_cells.specs.Objects.{Object}
use Rattle.fm_cells.specs.Sizes.{element_bits}
use Rattle.fm_cells.specs.Stores.{object_at, pack_at, Store}
use Rattle.fm_frames.specs.Acts.{put_value, with_content}
use Rattle.fm_frames.specs.States.{ref, State}
use Rattle.fm_frames.specs.declared.values.Value.TheVariants as value
use Rattle.fm_frames.specs.inner.Places.{TakesElements, TakesUnits, written_units}

-- ---- maps

pub insert-same : (m : fin.FinMap nat_cmp Object) (k : ℕ) (v : Object) → fin.get m k ≡ Some v → fin.insert m k v ≡ m
insert-same m k v held = fin.same_map nat_cmp_total fin.nat_cmp-IsAntisymmetric _ _ (λ q. grind (arith, gets, nat_tests))

insert-twice : (m : fin.FinMap nat_cmp Object) (k : ℕ) (v w : Object) → fin.insert (fin.insert m k v) k w ≡ fin.insert m k w
insert-twice m k v w = fin.same_map nat_cmp_total fin.nat_cmp-IsAntisymmetric _ _ (λ q. grind (arith, gets, nat_tests))

pub get-inserted : (m : fin.FinMap nat_cmp Object) (k : ℕ) (v : Object) → fin.get (fin.insert m k v) k ≡ Some v
get-inserted m k v = grind (arith, gets, nat_tests)

-- ---- units

abbrev pub with_elements : Object → List ℕ → Object
with_elements object elements = record object { elements = elements }

abbrev pub elements_of : Object → List ℕ → ℕ → List ℕ
elements_of object units count = take count units ++ drop count object.elements

abbrev pub written_in : Store → ℕ → List ℕ → ℕ → Option Object → Store
written_in store cell units count None = store
written_in store cell units count (Some object) = with_object store cell (with_elements object (elements_of object units count))

pub written-held : (store : Store) (cell : ℕ) (units : List ℕ) (count : ℕ) (object : Object) → object_at store cell ≡ Some object
    → written_units store cell units count ≡ with_object store cell (with_elements object (elements_of object units count))
written-held store cell units count object held = ap (written_in store cell units count) held

pub elements-taken : (store : Store) (cell : ℕ) (units : List ℕ) → TakesUnits store cell units → TakesElements store cell units
elements-taken store cell units (object, held, len, pack) = (object, held, len)

pub written-start : (store : Store) (cell : ℕ) (units : List ℕ) → TakesElements store cell units → written_units store cell units 0 ≡ store
written-start store cell units (object, held, len) =
    written-held store cell units 0 object held
    ∙ ap (λ m. record store { held = m }) (insert-same store.held cell object held)

elements-pasted : (object : Object) (units : List ℕ) (k : ℕ) → elements_of object units k ≡ paste object.elements 0 units k
elements-pasted object units k =
    let from : k ≡ 0 + k = omega arith in ap (λ j. take k units ++ drop j object.elements) from

-- the units that are written with the one that follows
elements-next : (object : Object) (units : List ℕ) (k : ℕ) → length object.elements ≡ length units → k < length units
    → set (elements_of object units k) k (get_or units k 0) ≡ elements_of object units (k + 1)
elements-next object units k len within =
    let from : k ≡ 0 + k = omega arith in
    (λ i. set (elements-pasted object units k i) (from i) (get_or units k 0))
    ∙ paste_more object.elements 0 units k 0 (omega arith) within ∙ sym (elements-pasted object units (k + 1))

abbrev pub put_in : Store → ℕ → ℕ → ℕ → Option Object → Store
put_in store cell place element object = on_object object (λ object. with_object store cell (with_element object place element)) store

pub written-next : (store : Store) (cell : ℕ) (units : List ℕ) (k u : ℕ) → TakesElements store cell units → k < length units → u ≡ get_or units k 0
    → put_by (written_units store cell units k) cell k u ≡ written_units store cell units (k + 1)
written-next store cell units k u (object, held, len) within is =
    let now : Object = with_elements object (elements_of object units k) in
    ap (λ s. put_by s cell k u) (written-held store cell units k object held)
    ∙ ap (put_in (with_object store cell now) cell k u) (get-inserted store.held cell now)
    ∙ ap (λ m. record store { held = m }) (insert-twice store.held cell now (with_element now k u))
    ∙ ap (λ elements. with_object store cell (with_elements object elements))
    (ap (set (elements_of object units k) k) is ∙ elements-next object units k len within)
    ∙ sym (written-held store cell units (k + 1) object held)

pub written-takes : (store : Store) (cell : ℕ) (units : List ℕ) (k : ℕ) → TakesUnits store cell units → k ≤ length units
    → TakesUnits (written_units store cell units k) cell units
written-takes store cell units k (object, held, len, pack) within =
    let now : Object = with_elements object (elements_of object units k) in
    let same : length (elements_of object units k) ≡ length units =
    omega (arith, length-append (take k units) (drop k object.elements), length-take k units, length-drop k object.elements) in
    subst (λ s. TakesUnits s cell units) (sym (written-held store cell units k object held))
    (now, get-inserted store.held cell now, same, pack)

abbrev pub content_in : Store → ℕ → List ℕ → Option Object → Store
content_in store cell units None = store
content_in store cell units (Some object) = with_object store cell (with_elements object units)

-- all units, and nothing after them
whole : (units : List ℕ) (n : ℕ) (rest : List ℕ) → n ≡ length units → rest ≡ [] → take n units ++ rest ≡ units
whole units n rest all none = ap (λ r. take n units ++ r) none ∙ append-nil (take n units) ∙ take_all n units (omega arith)

pub written-all : (store : Store) (cell : ℕ) (units : List ℕ) → TakesElements store cell units
    → written_units store cell units (length units) ≡ with_content store cell units
written-all store cell [] takes = written-start store cell [] takes
written-all store cell (u ∷ units) (object, held, len) =
    let n = length (u ∷ units) in
    let few : length object.elements ≤ n = omega (arith, len) in
    let rest : drop n object.elements ≡ [] = drop_of_length-le object.elements few in
    written-held store cell (u ∷ units) n object held
    ∙ ap (λ elements. with_object store cell (with_elements object elements))
    (whole (u ∷ units) n (drop n object.elements) refl rest)
    ∙ sym (ap (content_in store cell (u ∷ units)) held)

-- a unit as an element
pub unit-kept : (u : ℕ) → u < 2 ^ 16 → low_bits 16 (pos u) ≡ u
unfolding low_bits
unit-kept u small = mod-eq_of_lt small

pub unit-fits : (store now : Store) (cell k : ℕ) (units : List ℕ) (z : ℤ) → TakesUnits store cell units → k ≤ length units
    → now ≡ written_units store cell units k → low_bits 16 z < 2 ^ element_bits (pack_at now cell)
unit-fits store now cell k units z takes within is =
    let (object, held, len, pack) = written-takes store cell units k takes within in
    subst (λ n. low_bits 16 z < 2 ^ element_bits n) (sym (ap (λ s. pack_at s cell) is ∙ pack_at-some (written_units store cell units k) cell object held ∙ pack))
    (low_bits-lt 16 z)

-- ---- a machine whose units are written

abbrev pub with_units : State → ℕ → List ℕ → ℕ → State
with_units x cell units count = record x { areas = record x.areas { store = written_units x.areas.store cell units count } }

pub units-start : (x : State) (cell : ℕ) (units : List ℕ) → TakesUnits x.areas.store cell units → x ≡ with_units x cell units 0
units-start x cell units takes = ap (λ s. record x { areas = record x.areas { store = s } }) (sym (written-start x.areas.store cell units (elements-taken x.areas.store cell units takes)))

pub units-next : (x y z : State) (cell k : ℕ) (units : List ℕ) (v : ℤ) → TakesUnits x.areas.store cell units → k < length units
    → v ≡ pos (get_or units k 0) → get_or units k 0 < 2 ^ 16 → y ≡ with_units x cell units k
    → z ≡ record y { areas = put_value y.areas (ref cell) k kind.Char (value.Int v) } → z ≡ with_units x cell units (k + 1)
units-next x y z cell k units v takes within is small before after =
    let unit : low_bits 16 v ≡ get_or units k 0 = ap (low_bits 16) is ∙ unit-kept (get_or units k 0) small in
    after ∙ ap (λ (y : State). record y { areas = put_value y.areas (ref cell) k kind.Char (value.Int v) }) before
    ∙ ap (λ s. record x { areas = record x.areas { store = s } }) (written-next x.areas.store cell units k (low_bits 16 v) (elements-taken x.areas.store cell units takes) within unit)

pub units-all : (x y : State) (cell k : ℕ) (units : List ℕ) → TakesUnits x.areas.store cell units → k ≡ length units → y ≡ with_units x cell units k
    → y ≡ record x { areas = record x.areas { store = with_content x.areas.store cell units } }
units-all x y cell k units takes all is =
    is ∙ ap (with_units x cell units) all
    ∙ ap (λ s. record x { areas = record x.areas { store = s } }) (written-all x.areas.store cell units (elements-taken x.areas.store cell units takes))
