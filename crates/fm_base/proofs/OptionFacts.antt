-- Options: what is known of a value that is there. For every crate above.
use Rattle.std.proofs.Common.{◌≡◌, Bool, true, false, cond, Option, Some, None, IsSome, IsSomeAnd, refl, ap, sym, subst}
use Rattle.std.specs.Option.{option_and_then, option_map, is_some}

-- a value that is there, as an equation
pub Some-from_is_some : {X : Type 0} (o : Option X) → IsSome o → (x : X) × (o ≡ Some x)
Some-from_is_some (Some x) there = (x, refl)
Some-from_is_some None there = absurd cc

-- and back
pub IsSome-from_some : {X : Type 0} (o : Option X) (x : X) → o ≡ Some x → IsSome o
IsSome-from_some o x e = ap is_some e

-- no value is there
pub None-from_not_some : {X : Type 0} (o : Option X) → (IsSome o → ⊥) → o ≡ None
None-from_not_some None none = refl
None-from_not_some (Some x) none = absurd (none refl)

-- one option has one value
pub same_value : {X : Type 0} (o : Option X) (x y : X) → o ≡ Some x → o ≡ Some y → x ≡ y
same_value o x y first second = cc

-- a value that is there and has a property
pub Some-from_some_and : {X : Type 0} (o : Option X) (P : X → Type 0) → IsSomeAnd o P → (x : X) × (o ≡ Some x) × P x
Some-from_some_and (Some x) P holds = (x, refl, holds)
Some-from_some_and None P holds = absurd holds

-- and back
pub IsSomeAnd-from_some : {X : Type 0} (o : Option X) (P : X → Type 0) (x : X) → o ≡ Some x → P x → IsSomeAnd o P
IsSomeAnd-from_some o P x e holds = subst (λ v. IsSomeAnd v P) (sym e) holds

-- the property of the value that is there
pub IsSomeAnd-at_some : {X : Type 0} (o : Option X) (P : X → Type 0) (x : X) → o ≡ Some x → IsSomeAnd o P → P x
IsSomeAnd-at_some None P x e holds = absurd holds
IsSomeAnd-at_some (Some y) P x e holds = let same : y ≡ x = cc in subst P same holds

-- a property that follows
pub IsSomeAnd-weaker : {X : Type 0} (o : Option X) (P Q : X → Type 0) → ((x : X) → P x → Q x) → IsSomeAnd o P → IsSomeAnd o Q
IsSomeAnd-weaker (Some x) P Q weaker holds = weaker x holds
IsSomeAnd-weaker None P Q weaker holds = absurd holds

-- a step after a step: both gave a value
pub option_and_then-some : {X Y : Type 0} (f : X → Option Y) (o : Option X) (y : Y) → option_and_then f o ≡ Some y → (x : X) × (o ≡ Some x) × (f x ≡ Some y)
option_and_then-some f (Some x) y e = (x, refl, e)
option_and_then-some f None y e = absurd cc

-- a function of what was there
pub option_map-some : {X Y : Type 0} (f : X → Y) (o : Option X) (y : Y) → option_map f o ≡ Some y → (x : X) × (o ≡ Some x) × (f x ≡ y)
option_map-some f (Some x) y e = (x, refl, cc)
option_map-some f None y e = absurd cc

-- a test that has to hold for a value
pub cond-some_then : {X : Type 0} (b : Bool) (o : Option X) (x : X) → cond b o None ≡ Some x → (b ≡ true) × (o ≡ Some x)
cond-some_then true o x e = (refl, e)
cond-some_then false o x e = absurd cc

-- a test that has to fail for a value
pub cond-some_else : {X : Type 0} (b : Bool) (o : Option X) (x : X) → cond b None o ≡ Some x → (b ≡ false) × (o ≡ Some x)
cond-some_else true o x e = absurd cc
cond-some_else false o x e = (refl, e)
