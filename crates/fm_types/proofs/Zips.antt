-- Lists whose elements are related pair by pair, and steps that give something wherever others do.
use Rattle.std.proofs.Common.{◌≡◌, refl, ℕ, zero, suc, Bool, true, false, List, [], ◌∷◌, ◌++◌, map, drop, set, Option, Some, None, option_and_then, cond}
use Rattle.std.specs.List.{AllZip, slice_get}
use Rattle.std.specs.Option.{option_map}
use Rattle.std.proofs.lemmas.Bool.{false≢true}

-- ---- lists

pub zip-refl : {X : Type 0} (R : X → X → Type 0) → ((x : X) → R x x) → (xs : List X) → AllZip R xs xs
zip-refl R same [] = tt
zip-refl R same (x ∷ xs) = (same x, zip-refl R same xs)

pub zip-implied : {X Y : Type 0} (R S : X → Y → Type 0) → ((x : X) (y : Y) → R x y → S x y) → (xs : List X) (ys : List Y) → AllZip R xs ys → AllZip S xs ys
zip-implied R S implies [] [] h = tt
zip-implied R S implies [] (y ∷ ys) h = absurd h
zip-implied R S implies (x ∷ xs) [] h = absurd h
zip-implied R S implies (x ∷ xs) (y ∷ ys) h = (implies x y h.0, zip-implied R S implies xs ys h.1)

pub zip-append : {X Y : Type 0} (R : X → Y → Type 0) (xs : List X) (ys : List Y) (us : List X) (vs : List Y) → AllZip R xs ys → AllZip R us vs
    → AllZip R (xs ++ us) (ys ++ vs)
zip-append R [] [] us vs h rest = rest
zip-append R [] (y ∷ ys) us vs h rest = absurd h
zip-append R (x ∷ xs) [] us vs h rest = absurd h
zip-append R (x ∷ xs) (y ∷ ys) us vs h rest = (h.0, zip-append R xs ys us vs h.1 rest)

pub zip-drop : {X Y : Type 0} (R : X → Y → Type 0) (n : ℕ) (xs : List X) (ys : List Y) → AllZip R xs ys → AllZip R (drop n xs) (drop n ys)
zip-drop R zero xs ys h = h
zip-drop R (suc n) [] [] h = tt
zip-drop R (suc n) [] (y ∷ ys) h = absurd h
zip-drop R (suc n) (x ∷ xs) [] h = absurd h
zip-drop R (suc n) (x ∷ xs) (y ∷ ys) h = zip-drop R n xs ys h.1

pub zip-set : {X Y : Type 0} (R : X → Y → Type 0) (n : ℕ) (x : X) (y : Y) (xs : List X) (ys : List Y) → R x y → AllZip R xs ys
    → AllZip R (set xs n x) (set ys n y)
zip-set R n x y [] [] r h = tt
zip-set R n x y [] (b ∷ ys) r h = absurd h
zip-set R n x y (a ∷ xs) [] r h = absurd h
zip-set R zero x y (a ∷ xs) (b ∷ ys) r h = (r, h.1)
zip-set R (suc n) x y (a ∷ xs) (b ∷ ys) r h = (h.0, zip-set R n x y xs ys r h.1)

pub zip-map : {X Y : Type 0} (R : X → X → Type 0) (S : Y → Y → Type 0) (f g : X → Y) → ((x y : X) → R x y → S (f x) (g y))
    → (xs ys : List X) → AllZip R xs ys → AllZip S (map f xs) (map g ys)
zip-map R S f g each [] [] h = tt
zip-map R S f g each [] (y ∷ ys) h = absurd h
zip-map R S f g each (x ∷ xs) [] h = absurd h
zip-map R S f g each (x ∷ xs) (y ∷ ys) h = (each x y h.0, zip-map R S f g each xs ys h.1)

-- ---- options: where the second gives something, the first gives something that is so related to it

abbrev pub Follows : {A B : Type 0} → (A → B → Type 0) → Option A → Option B → Type 0
Follows R x None = Unit {0}
Follows R None (Some b) = ⊥
Follows R (Some a) (Some b) = R a b

pub follows-then : {A B C D : Type 0} (R : A → B → Type 0) (S : C → D → Type 0) (f : A → Option C) (g : B → Option D) (x : Option A) (y : Option B)
    → Follows R x y → ((a : A) (b : B) → R a b → Follows S (f a) (g b)) → Follows S (option_and_then f x) (option_and_then g y)
follows-then R S f g x None h each = tt
follows-then R S f g None (Some b) h each = absurd h
follows-then R S f g (Some a) (Some b) h each = each a b h

pub follows-map : {A B C D : Type 0} (R : A → B → Type 0) (S : C → D → Type 0) (f : A → C) (g : B → D) (x : Option A) (y : Option B)
    → Follows R x y → ((a : A) (b : B) → R a b → S (f a) (g b)) → Follows S (option_map f x) (option_map g y)
follows-map R S f g x None h each = tt
follows-map R S f g None (Some b) h each = absurd h
follows-map R S f g (Some a) (Some b) h each = each a b h

-- the same, given what was found
pub follows-map_found : {A B C D : Type 0} (R : A → B → Type 0) (S : C → D → Type 0) (f : A → C) (g : B → D) (x : Option A) (y : Option B)
    → Follows R x y → ((a : A) (b : B) → y ≡ Some b → R a b → S (f a) (g b)) → Follows S (option_map f x) (option_map g y)
follows-map_found R S f g x None h each = tt
follows-map_found R S f g None (Some b) h each = absurd h
follows-map_found R S f g (Some a) (Some b) h each = each a b refl h

-- a step that goes the same way for both
pub follows-same : {A C D : Type 0} (S : C → D → Type 0) (f : A → Option C) (g : A → Option D) (x : Option A)
    → ((a : A) → Follows S (f a) (g a)) → Follows S (option_and_then f x) (option_and_then g x)
follows-same S f g None each = tt
follows-same S f g (Some a) each = each a

-- a test that the first passes wherever the second does
pub follows-if : {A B : Type 0} (R : A → B → Type 0) (p q : Bool) (x : Option A) (y : Option B)
    → (q ≡ true → p ≡ true) → (q ≡ true → Follows R x y) → Follows R (cond p x None) (cond q y None)
follows-if R p false x y passes follows = tt
follows-if R true true x y passes follows = follows refl
follows-if R false true x y passes follows = absurd (false≢true (passes refl))

-- the elements at one place
pub zip-get : {X : Type 0} (R : X → X → Type 0) (xs ys : List X) (n : ℕ) → AllZip R xs ys → Follows R (slice_get xs n) (slice_get ys n)
zip-get R [] [] n h = tt
zip-get R [] (y ∷ ys) n h = absurd h
zip-get R (x ∷ xs) [] n h = absurd h
zip-get R (x ∷ xs) (y ∷ ys) zero h = h.0
zip-get R (x ∷ xs) (y ∷ ys) (suc n) h = zip-get R xs ys n h.1
