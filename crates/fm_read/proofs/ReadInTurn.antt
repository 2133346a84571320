-- What is read of parts one after the other, as a loop does.
use Rattle.std.proofs.Common.{◌≡◌, ℕ, zero, suc, ◌+◌, ◌<◌, ◌≤◌, List, [], ◌∷◌, ◌++◌, length, map, take, get_or, refl, sym, ap, subst, ◌∙◌, arith}
use Rattle.std.specs.List.{AllByRecursion}
use Rattle.std.proofs.lemmas.List.{map-append, take_all, take_more}
use Rattle.fm_base.proofs.ListFacts.{AllByRecursion-append, same_head, same_tail}
use Rattle.fm_read.specs.inner.MemberRules.{AreRead, IsRead}

-- ---- one part after the other

pub AreRead-none : {R X : Type 0} (raw_of : X → R) (Fits Valid : X → Type 0) → AreRead raw_of Fits Valid [] []
AreRead-none raw_of Fits Valid = record { parts = refl; fits = tt; valid = tt }

pub AreRead-more : {R X : Type 0} (raw_of : X → R) (Fits Valid : X → Type 0) (raws : List R) (xs : List X) (raw : R) (x : X)
    → AreRead raw_of Fits Valid raws xs → IsRead raw_of Fits Valid raw x → AreRead raw_of Fits Valid (raws ++ raw ∷ []) (xs ++ x ∷ [])
AreRead-more raw_of Fits Valid raws xs raw x so_far is = record {
  parts = map-append raw_of xs (x ∷ []) ∙ ap (λ (rs : List _). rs ++ raw_of x ∷ []) so_far.parts ∙ ap (λ (r : _). raws ++ r ∷ []) is.part;
  fits = AllByRecursion-append Fits xs (x ∷ []) so_far.fits (is.fits, tt);
  valid = AllByRecursion-append Valid xs (x ∷ []) so_far.valid (is.valid, tt);
}

-- the part at hand after those before it
pub turn : {P R : Type 0} (view : P → R) (parts : List P) (i : ℕ) (p d : P) → i < length parts → p ≡ get_or parts i d
    → map view (take (i + 1) parts) ≡ map view (take i parts) ++ view p ∷ []
turn view parts i p d lt is =
    ap (map view) (take_more parts i d lt ∙ ap (λ (x : _). take i parts ++ x ∷ []) (sym is)) ∙ map-append view (take i parts) (p ∷ [])

-- what holds of each part holds of the one at hand
part_at : {P R : Type 0} (Holds : R → Type 0) (view : P → R) (parts : List P) (i : ℕ) (d : P) → i < length parts → AllByRecursion Holds (map view parts) → Holds (view (get_or parts i d))
part_at Holds view [] i d lt all = absurd (omega arith)
part_at Holds view (p ∷ parts) zero d lt all = all.0
part_at Holds view (p ∷ parts) (suc i) d lt all = part_at Holds view parts i d (omega arith) all.1

pub at_hand : {P R : Type 0} (Holds : R → Type 0) (view : P → R) (parts : List P) (i : ℕ) (p d : P) → i < length parts → p ≡ get_or parts i d → AllByRecursion Holds (map view parts) → Holds (view p)
at_hand Holds view parts i p d lt is all = subst (λ (x : _). Holds (view x)) (sym is) (part_at Holds view parts i d lt all)

-- ---- parts of which nothing is read

read_first : {R X : Type 0} (raw_of : X → R) (Fits Valid : X → Type 0) (raw : R) (raws : List R) (x : X) (xs : List X) → AreRead raw_of Fits Valid (raw ∷ raws) (x ∷ xs) → IsRead raw_of Fits Valid raw x
read_first raw_of Fits Valid raw raws x xs are = record { part = same_head (raw_of x) raw (map raw_of xs) raws are.parts; fits = are.fits.0; valid = are.valid.0 }

read_others : {R X : Type 0} (raw_of : X → R) (Fits Valid : X → Type 0) (raw : R) (raws : List R) (x : X) (xs : List X) → AreRead raw_of Fits Valid (raw ∷ raws) (x ∷ xs) → AreRead raw_of Fits Valid raws xs
read_others raw_of Fits Valid raw raws x xs are = record { parts = same_tail (raw_of x) raw (map raw_of xs) raws are.parts; fits = are.fits.1; valid = are.valid.1 }

none_of_some : {R X : Type 0} (raw_of : X → R) (raw : R) (raws : List R) → map raw_of [] ≡ raw ∷ raws → ⊥
none_of_some raw_of raw raws e = cc

-- where all parts are read, the one at an index is
read_at : {P R X : Type 0} (raw_of : X → R) (Fits Valid : X → Type 0) (view : P → R) (parts : List P) (i : ℕ) (d : P) (xs : List X) → i < length parts → AreRead raw_of Fits Valid (map view parts) xs
    → (x : X) × IsRead raw_of Fits Valid (view (get_or parts i d)) x
read_at raw_of Fits Valid view [] i d xs lt are = absurd (omega arith)
read_at raw_of Fits Valid view (p ∷ parts) i d [] lt are = absurd (none_of_some raw_of (view p) (map view parts) are.parts)
read_at raw_of Fits Valid view (p ∷ parts) zero d (x ∷ xs) lt are = (x, read_first raw_of Fits Valid (view p) (map view parts) x xs are)
read_at raw_of Fits Valid view (p ∷ parts) (suc i) d (x ∷ xs) lt are =
    read_at raw_of Fits Valid view parts i d xs (omega arith) (read_others raw_of Fits Valid (view p) (map view parts) x xs are)

-- so where nothing is read of the part at hand, nothing is read of all
pub AreRead-nowhere : {P R X : Type 0} (raw_of : X → R) (Fits Valid : X → Type 0) (view : P → R) (parts : List P) (i : ℕ) (p d : P) → i < length parts → p ≡ get_or parts i d
    → ((x : X) → IsRead raw_of Fits Valid (view p) x → ⊥) → (xs : List X) → AreRead raw_of Fits Valid (map view parts) xs → ⊥
AreRead-nowhere raw_of Fits Valid view parts i p d lt is none xs are =
    let found = read_at raw_of Fits Valid view parts i d xs lt are in
    none found.0 (subst (λ (q : _). IsRead raw_of Fits Valid (view q) found.0) (sym is) found.1)

-- ---- what is read is determined by the parts

some_of_none : {R X : Type 0} (raw_of : X → R) (x : X) (xs : List X) → map raw_of (x ∷ xs) ≡ [] → ⊥
some_of_none raw_of x xs e = cc

same_cons : {X : Type 0} (x y : X) (xs ys : List X) → x ≡ y → xs ≡ ys → x ∷ xs ≡ y ∷ ys
same_cons x y xs ys e f = cc

pub AreRead-same : {R X : Type 0} (raw_of : X → R) (Fits Valid : X → Type 0) → ((raw : R) (x y : X) → IsRead raw_of Fits Valid raw x → IsRead raw_of Fits Valid raw y → x ≡ y)
    → (raws : List R) (xs ys : List X) → AreRead raw_of Fits Valid raws xs → AreRead raw_of Fits Valid raws ys → xs ≡ ys
AreRead-same raw_of Fits Valid one [] [] [] first second = refl
AreRead-same raw_of Fits Valid one [] [] (y ∷ ys) first second = absurd (some_of_none raw_of y ys second.parts)
AreRead-same raw_of Fits Valid one [] (x ∷ xs) ys first second = absurd (some_of_none raw_of x xs first.parts)
AreRead-same raw_of Fits Valid one (raw ∷ raws) [] ys first second = absurd (none_of_some raw_of raw raws first.parts)
AreRead-same raw_of Fits Valid one (raw ∷ raws) (x ∷ xs) [] first second = absurd (none_of_some raw_of raw raws second.parts)
AreRead-same raw_of Fits Valid one (raw ∷ raws) (x ∷ xs) (y ∷ ys) first second =
    same_cons x y xs ys (one raw x y (read_first raw_of Fits Valid raw raws x xs first) (read_first raw_of Fits Valid raw raws y ys second))
    (AreRead-same raw_of Fits Valid one raws xs ys (read_others raw_of Fits Valid raw raws x xs first) (read_others raw_of Fits Valid raw raws y ys second))

-- ---- after the last part

pub all_parts : {P R : Type 0} (view : P → R) (parts : List P) (i : ℕ) → length parts ≤ i → map view (take i parts) ≡ map view parts
all_parts view parts i le = ap (map view) (take_all i parts le)
