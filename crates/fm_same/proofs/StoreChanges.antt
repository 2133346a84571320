-- What changes of a store keep: each object stays where it is with its type and its birth, so that what has a region keeps it.
use Rattle.std.proofs.Common.{◌≡◌, ◌≢◌, ℕ, zero, suc, ◌+◌, ◌<◌, ◌≤◌, ◌⊎◌, cond, nat_eq, List, [], ◌∷◌, Some, None, refl, sym, ◌∙◌, ap, subst, inl, inr, slice_get, slice_set, slice_index_or, arith, ⊎_elim}
use Rattle.std.proofs.lemmas.Bool.{cases_eq}
use Rattle.std.proofs.lemmas.Bool.Decides.{nat_tests}
use Rattle.std.proofs.lemmas.Option.{none-some, same_Some}
use Rattle.fm_cells.specs.Objects.{Object}
use Rattle.fm_cells.specs.Stores.{Store, object_at}
use Rattle.fm_cells.specs.Soundness.{IsOrderly}
use Rattle.fm_frames.specs.declared.values.Value.{Value}
use Rattle.fm_frames.specs.declared.values.Value.TheVariants as value
use Rattle.fm_same.specs.Colours.{Colour, HasColour, IsFixed, IsNull, IsOf, LivesForEver, OfNull, OfObject}
use Rattle.fm_same.specs.Regions.{Region}

-- ---- objects stay

-- the object of a cell, as it is later; no program without calls of FreeMe changes its chain
pub record IsKept (later : Store) (cell : ℕ) (object : Object) : Type 0 where
  pub now : Object
  pub is : object_at later cell ≡ Some now
  pub class : now.class ≡ object.class
  pub birth : now.birth ≡ object.birth
  pub fixed : now.fixed ≡ object.fixed
  pub chain : now.chain ≡ object.chain

pub record Extends (store later : Store) : Type 0 where
  pub kept : (cell : ℕ) (object : Object) → object_at store cell ≡ Some object → IsKept later cell object
  pub births : store.births ≤ later.births

pub extends-refl : (store : Store) → Extends store store
extends-refl store = record {
  kept = λ cell object held. record { now = object; is = held; class = refl; birth = refl; fixed = refl; chain = refl };
  births = omega arith;
}

pub extends-then : (store middle later : Store) → Extends store middle → Extends middle later → Extends store later
extends-then store middle later first second = record {
  kept = λ cell object held.
      let one : IsKept middle cell object = first.kept cell object held in
      let two : IsKept later cell one.now = second.kept cell one.now one.is in
      record {
        now = two.now;
        is = two.is;
        class = two.class ∙ one.class;
        birth = two.birth ∙ one.birth;
        fixed = two.fixed ∙ one.fixed;
        chain = two.chain ∙ one.chain;
      };
  births = let a = first.births in let b = second.births in omega arith;
}

-- ---- what has a region keeps it

pub is_of-later : (store later : Store) (colour : Colour) (r : Region) (cell : ℕ) → Extends store later → IsOf store colour r cell → IsOf later colour r cell
is_of-later store later colour r cell more (OfNull e) = OfNull e
is_of-later store later colour r cell more (OfObject object held (inl fixed)) =
    let kept : IsKept later cell object = more.kept cell object held in OfObject kept.now kept.is (inl (kept.fixed ∙ fixed))
is_of-later store later colour r cell more (OfObject object held (inr has)) =
    let kept : IsKept later cell object = more.kept cell object held in OfObject kept.now kept.is (inr (ap colour kept.birth ∙ has))

pub for_ever-later : (store later : Store) (cell : ℕ) → Extends store later → LivesForEver store cell → LivesForEver later cell
for_ever-later store later cell more (IsNull e) = IsNull e
for_ever-later store later cell more (IsFixed object held fixed) =
    let kept : IsKept later cell object = more.kept cell object held in IsFixed kept.now kept.is (kept.fixed ∙ fixed)

pub for_ever-is_of : (store : Store) (colour : Colour) (r : Region) (cell : ℕ) → LivesForEver store cell → IsOf store colour r cell
for_ever-is_of store colour r cell (IsNull e) = OfNull e
for_ever-is_of store colour r cell (IsFixed object held fixed) = OfObject object held (inl fixed)

pub has-later : (store later : Store) (colour : Colour) (r : Region) (v : Value) → Extends store later → HasColour store colour r v
    → HasColour later colour r v
has-later store later colour r value.Top more h = tt
has-later store later colour r (value.Int n) more h = tt
has-later store later colour r (value.Long n) more h = tt
has-later store later colour r (value.Ref cell) more h = is_of-later store later colour r cell.0 more h

-- two colours agree on all that was born
abbrev pub Agree : Store → Colour → Colour → Type 0
Agree store colour other = (birth : ℕ) → birth < store.births → other birth ≡ colour birth

pub is_of-agree : (store : Store) (colour other : Colour) (r : Region) (cell : ℕ) → IsOrderly store → Agree store colour other → IsOf store colour r cell
    → IsOf store other r cell
is_of-agree store colour other r cell orderly agree (OfNull e) = OfNull e
is_of-agree store colour other r cell orderly agree (OfObject object held (inl fixed)) = OfObject object held (inl fixed)
is_of-agree store colour other r cell orderly agree (OfObject object held (inr has)) =
    OfObject object held (inr (agree object.birth (orderly.born cell object held) ∙ has))

pub has-agree : (store : Store) (colour other : Colour) (r : Region) (v : Value) → IsOrderly store → Agree store colour other → HasColour store colour r v
    → HasColour store other r v
has-agree store colour other r value.Top orderly agree h = tt
has-agree store colour other r (value.Int n) orderly agree h = tt
has-agree store colour other r (value.Long n) orderly agree h = tt
has-agree store colour other r (value.Ref cell) orderly agree h = is_of-agree store colour other r cell.0 orderly agree h

-- each colour follows from one by a function of regions
pub is_of-mapped : (store : Store) (colour : Colour) (f : Region → Region) (r : Region) (cell : ℕ) → IsOf store colour r cell
    → IsOf store (λ birth. f (colour birth)) (f r) cell
is_of-mapped store colour f r cell (OfNull e) = OfNull e
is_of-mapped store colour f r cell (OfObject object held (inl fixed)) = OfObject object held (inl fixed)
is_of-mapped store colour f r cell (OfObject object held (inr has)) = OfObject object held (inr (ap f has))

pub has-mapped : (store : Store) (colour : Colour) (f : Region → Region) (r : Region) (v : Value) → HasColour store colour r v
    → HasColour store (λ birth. f (colour birth)) (f r) v
has-mapped store colour f r value.Top h = tt
has-mapped store colour f r (value.Int n) h = tt
has-mapped store colour f r (value.Long n) h = tt
has-mapped store colour f r (value.Ref cell) h = is_of-mapped store colour f r cell.0 h

-- ---- one cell is changed

-- a cell gets an object, and the others stay
abbrev pub Puts : Store → Store → ℕ → Object → Type 0
Puts store later cell object = (q : ℕ) → object_at later q ≡ cond (nat_eq q cell) (Some object) (object_at store q)

pub put_here : (store later : Store) (cell : ℕ) (object : Object) → Puts store later cell object → object_at later cell ≡ Some object
put_here store later cell object puts = let at = puts cell in grind (arith, nat_tests, at)

pub put_elsewhere : (store later : Store) (cell : ℕ) (object : Object) (q : ℕ) → Puts store later cell object → q ≢ cell
    → object_at later q ≡ object_at store q
put_elsewhere store later cell object q puts apart = let at = puts q in grind (arith, nat_tests, at)

-- what is held later is the object that was put, or was there
pub held_later : (store later : Store) (cell : ℕ) (object : Object) (q : ℕ) (found : Object) → Puts store later cell object
    → object_at later q ≡ Some found → ((q ≡ cell) × (object ≡ found)) ⊎ ((q ≢ cell) × (object_at store q ≡ Some found))
held_later store later cell object q found puts held =
    ⊎_elim
    (λ (same : q ≡ cell). inl (same, same_Some object found (sym (put_here store later cell object puts) ∙ ap (λ c. object_at later c) (sym same) ∙ held)))
    (λ (apart : q ≢ cell). inr (apart, sym (put_elsewhere store later cell object q puts apart) ∙ held))
    (cases_eq q cell)

-- a new object in a cell that wasn't held
pub record IsMade (store later : Store) (cell : ℕ) (object : Object) : Type 0 where
  pub puts : Puts store later cell object
  pub free : object_at store cell ≡ None
  pub birth : object.birth ≡ store.births
  pub births : later.births ≡ store.births + 1

pub made-extends : (store later : Store) (cell : ℕ) (object : Object) → IsMade store later cell object → Extends store later
made-extends store later cell object h = record {
  kept = λ q old held.
      let apart : q ≢ cell = λ same. none-some old (sym h.free ∙ ap (λ c. object_at store c) (sym same) ∙ held) in
      record { now = old; is = put_elsewhere store later cell object q h.puts apart ∙ held; class = refl; birth = refl; fixed = refl; chain = refl };
  births = let more = h.births in omega (arith, more);
}

-- another object in a cell that was held: of the same type and birth
pub record IsChanged (store later : Store) (cell : ℕ) (old object : Object) : Type 0 where
  pub puts : Puts store later cell object
  pub held : object_at store cell ≡ Some old
  pub class : object.class ≡ old.class
  pub birth : object.birth ≡ old.birth
  pub fixed : object.fixed ≡ old.fixed
  pub chain : object.chain ≡ old.chain
  pub births : later.births ≡ store.births

pub changed-extends : (store later : Store) (cell : ℕ) (old object : Object) → IsChanged store later cell old object → Extends store later
changed-extends store later cell old object h = record {
  kept = λ q found held. ⊎_elim
      (λ (same : q ≡ cell).
      let is : old ≡ found = same_Some old found (sym h.held ∙ ap (λ c. object_at store c) (sym same) ∙ held) in
      subst (λ x. IsKept later q x) is (record {
        now = object;
        is = ap (λ c. object_at later c) same ∙ put_here store later cell object h.puts;
        class = h.class;
        birth = h.birth;
        fixed = h.fixed;
        chain = h.chain;
      }))
      (λ (apart : q ≢ cell). record {
        now = found;
        is = put_elsewhere store later cell object q h.puts apart ∙ held;
        class = refl;
        birth = refl;
        fixed = refl;
        chain = refl;
      })
      (cases_eq q cell);
  births = let same = h.births in omega (arith, same);
}

-- ---- lists

-- what is in a list after one place of it was set
pub set_cases : {X : Type 0} (xs : List X) (i : ℕ) (x : X) (k : ℕ) (d : X)
    → (slice_index_or (slice_set xs i x) k d ≡ x) ⊎ (slice_index_or (slice_set xs i x) k d ≡ slice_index_or xs k d)
set_cases [] i x k d = inr refl
set_cases (y ∷ xs) zero x zero d = inl refl
set_cases (y ∷ xs) zero x (suc k) d = inr refl
set_cases (y ∷ xs) (suc i) x zero d = inr refl
set_cases (y ∷ xs) (suc i) x (suc k) d = set_cases xs i x k d

pub set_found : {X : Type 0} (xs : List X) (i : ℕ) (x : X) (k : ℕ) (found : X) → slice_get (slice_set xs i x) k ≡ Some found
    → ((i ≡ k) × (x ≡ found)) ⊎ ((i ≢ k) × (slice_get xs k ≡ Some found))
set_found [] i x k found h = absurd (cc)
set_found (y ∷ xs) zero x zero found h = inl (refl, cc)
set_found (y ∷ xs) zero x (suc k) found h = inr ((λ e. absurd (omega arith)), h)
set_found (y ∷ xs) (suc i) x zero found h = inr ((λ e. absurd (omega arith)), h)
set_found (y ∷ xs) (suc i) x (suc k) found h =
    ⊎_elim (λ here. inl (ap suc here.0, here.1)) (λ there. inr ((λ e. there.0 (let down : i ≡ k = omega arith in down)), there.1))
    (set_found xs i x k found h)
