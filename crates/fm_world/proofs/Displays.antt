-- A class is among another one's superclasses exactly where it is in the display of the other one at its own depth.
use Rattle.std.proofs.Common.{◌≡◌, refl, sym, ◌∙◌, ap, subst, ℕ, zero, suc, ◌-◌, ◌<◌, ◌≤◌, ◌||◌, ◌&&◌, Bool, true, false, cond, List, [], ◌∷◌, ◌++◌, length, reverse, get_or, nat_eq, Option, Some, None, is_none, is_some, option_and_then, arith}
use Rattle.std.proofs.lemmas.Bool.{eqb-true, eq-eqb, false≢true}
use Rattle.std.proofs.lemmas.List.{reverse-append, length-reverse, length-append, append_assoc, get_or_at}
use Rattle.std.proofs.lemmas.List.Folds.{list_any-append}
use Rattle.std.proofs.lemmas.List.Quantifiers.{position-Some}
use Rattle.std.specs.List.{list_any}
use Rattle.std.specs.Option.{option_or}
use Rattle.std.specs.Str.{bytes_eq}
use Rattle.fm_world.specs.Chains.{class_at, chain_of, completion_of, given_number, is_among, parent_of}
use Rattle.fm_world.specs.Declarations.{no_class}
use Rattle.fm_world.specs.Descriptors.{class_number}
use Rattle.fm_world.specs.declared.declarations.DeclaredClass.{DeclaredClass}
use Rattle.fm_world.specs.inner.Tables.{IsLinear, chain_from}

-- ---- a number that is found is one of a class

pub class_number-within : (classes : List DeclaredClass) (name : List ℕ) (p : ℕ) → class_number classes name ≡ Some p → p < length classes
class_number-within classes name p e = (position-Some (λ c. bytes_eq c.name name) classes p no_class e).0

pub completion-within : (classes : List DeclaredClass) (c : DeclaredClass) (p : ℕ) → completion_of classes c ≡ Some p → p < length classes
completion-within classes c p e = by_file (is_none c.file) e where
  by_file : (b : Bool) → cond b (given_number classes c.name) None ≡ Some p → p < length classes
  by_file true h = (position-Some (λ (d : DeclaredClass). bytes_eq d.name c.name && is_some d.file) classes p no_class h).0
  by_file false h = cc

pub parent_of-within : (classes : List DeclaredClass) (class p : ℕ) → parent_of classes class ≡ Some p → p < length classes
parent_of-within classes class p e = by_name (class_at classes class).superclass e where
  completing : Option ℕ
  completing = completion_of classes (class_at classes class)

  by_completion : (name : List ℕ) (o : Option ℕ) → completing ≡ o → option_or o (class_number classes name) ≡ Some p → p < length classes
  by_completion name None is h = class_number-within classes name p h
  by_completion name (Some f) is h = completion-within classes (class_at classes class) p (is ∙ h)

  by_name : (name : Option (List ℕ)) → option_and_then (λ name. option_or completing (class_number classes name)) name ≡ Some p → p < length classes
  by_name None h = cc
  by_name (Some name) h = by_completion name completing refl h

-- ---- the superclasses of a class end with those of each class among them

pub record EndsWith (xs ys : List ℕ) : Type 0 where
  pub front : List ℕ
  pub joined : xs ≡ front ++ ys

pub chain_ends : (classes : List DeclaredClass) → IsLinear classes → (bound class other : ℕ) → length (chain_of classes class) ≤ bound
    → class < length classes
    → is_among other (chain_of classes class) ≡ true → EndsWith (chain_of classes class) (chain_of classes other)
chain_ends classes linear zero class other short within among = absurd (omega (arith, short, ap length (linear class within)))
chain_ends classes linear (suc bound) class other short within among =
    by_same (λ parent e d. chain_ends classes linear bound parent other (shorter parent e) (parent_of-within classes class parent e)
    (still_among parent e d)) (nat_eq other class) refl where
      joined_above : (parent : ℕ) → parent_of classes class ≡ Some parent → chain_of classes class ≡ class ∷ chain_of classes parent
      joined_above parent e = linear class within ∙ ap (λ p. class ∷ chain_from classes p) e

      shorter : (parent : ℕ) → parent_of classes class ≡ Some parent → length (chain_of classes parent) ≤ bound
      shorter parent e = omega (arith, short, ap length (joined_above parent e))

      still_among : (parent : ℕ) → parent_of classes class ≡ Some parent → nat_eq other class ≡ false
          → is_among other (chain_of classes parent) ≡ true
      still_among parent e differs = sym (ap (is_among other) (joined_above parent e)
          ∙ ap (λ b. b || is_among other (chain_of classes parent)) differs) ∙ among

      further : (parent : ℕ) → parent_of classes class ≡ Some parent → EndsWith (chain_of classes parent) (chain_of classes other)
          → EndsWith (chain_of classes class) (chain_of classes other)
      further parent e ends = record { front = class ∷ ends.front; joined = joined_above parent e ∙ ap (λ xs. class ∷ xs) ends.joined }

      alone : parent_of classes class ≡ None → nat_eq other class ≡ false → false ≡ true
      alone e differs = sym (ap (is_among other) (linear class within ∙ ap (λ p. class ∷ chain_from classes p) e) ∙ ap (λ b. b || false) differs)
          ∙ among

      by_parent : (recursive : (parent : ℕ) → parent_of classes class ≡ Some parent → nat_eq other class ≡ false
          → EndsWith (chain_of classes parent) (chain_of classes other))
          → (p : Option ℕ) → parent_of classes class ≡ p → nat_eq other class ≡ false → EndsWith (chain_of classes class) (chain_of classes other)
      by_parent recursive None e differs = absurd (false≢true (alone e differs))
      by_parent recursive (Some parent) e differs = further parent e (recursive parent e differs)

      by_same : (recursive : (parent : ℕ) → parent_of classes class ≡ Some parent → nat_eq other class ≡ false
          → EndsWith (chain_of classes parent) (chain_of classes other))
          → (b : Bool) → nat_eq other class ≡ b → EndsWith (chain_of classes class) (chain_of classes other)
      by_same recursive true same = record { front = []; joined = sym (ap (chain_of classes) (eqb-true other class same)) }
      by_same recursive false differs = by_parent recursive (parent_of classes class) refl differs

-- ---- lists the other way round

swapped : (a b : Bool) → (a || (b || false)) ≡ (b || a)
swapped true true = refl
swapped true false = refl
swapped false true = refl
swapped false false = refl

pub reverse-cons : (x : ℕ) (xs : List ℕ) → reverse (x ∷ xs) ≡ reverse xs ++ x ∷ []
reverse-cons x xs = reverse-append (x ∷ []) xs

pub list_any-reverse : (p : ℕ → Bool) (xs : List ℕ) → list_any p (reverse xs) ≡ list_any p xs
list_any-reverse p [] = refl
list_any-reverse p (y ∷ ys) =
    ap (list_any p) (reverse-cons y ys) ∙ list_any-append p (reverse ys) (y ∷ [])
    ∙ ap (λ b. b || (p y || false)) (list_any-reverse p ys) ∙ swapped (list_any p ys) (p y)

pub is_among-reverse : (x : ℕ) (xs : List ℕ) → is_among x (reverse xs) ≡ is_among x xs
is_among-reverse x xs = list_any-reverse (nat_eq x) xs

pub is_among_at : (xs : List ℕ) (i x : ℕ) → i < length xs → get_or xs i 0 ≡ x → is_among x xs ≡ true
is_among_at [] i x h e = absurd (omega (arith, h))
is_among_at (y ∷ ys) zero x h e = ap (λ b. b || is_among x ys) (eq-eqb x y (sym e))
is_among_at (y ∷ ys) (suc i) x h e = ap (λ b. nat_eq x y || b) (is_among_at ys i x (omega (arith, h)) e) ∙ or_true (nat_eq x y) where
  or_true : (b : Bool) → (b || true) ≡ true
  or_true true = refl
  or_true false = refl

-- ---- displays

-- where one list ends with another one, the other's first element is in the one's reverse, as deep as it is in its own
pub record StandsAt (lower : List ℕ) (depth x : ℕ) : Type 0 where
  pub within : depth < length lower
  pub there : get_or lower depth 0 ≡ x

pub stands_at_depth : (front rest : List ℕ) (x : ℕ) (lower upper : List ℕ) → lower ≡ reverse (front ++ x ∷ rest) → upper ≡ reverse (x ∷ rest)
    → StandsAt lower (length upper - 1) x
stands_at_depth front rest x lower upper lower_is upper_is =
    let depth_is : length upper - 1 ≡ length (reverse rest) = omega (arith, ap length upper_is, length-reverse (x ∷ rest), length-reverse rest) in
    let whole : lower ≡ reverse rest ++ x ∷ reverse front =
    lower_is ∙ reverse-append front (x ∷ rest) ∙ ap (λ zs. zs ++ reverse front) (reverse-cons x rest)
    ∙ append_assoc (reverse rest) (x ∷ []) (reverse front) in
    let longer : length (reverse rest) < length (reverse rest ++ x ∷ reverse front) =
    omega (arith, length-append (reverse rest) (x ∷ reverse front)) in
    record {
      within = (let P : ℕ → Type 0 = λ k. k < length lower in
          subst P (sym depth_is) (let Q : List ℕ → Type 0 = λ zs. length (reverse rest) < length zs in subst Q (sym whole) longer));
      there = ap (λ zs. get_or zs (length upper - 1) 0) whole ∙ get_or_at (reverse rest) x (reverse front) 0 (length upper - 1) (sym depth_is);
    }

pub stands_in_display : (classes : List DeclaredClass) → IsLinear classes → (class other : ℕ) → class < length classes → other < length classes
    → (lower upper : List ℕ) → lower ≡ reverse (chain_of classes class) → upper ≡ reverse (chain_of classes other)
    → is_among other (chain_of classes class) ≡ true
    → StandsAt lower (length upper - 1) other
stands_in_display classes linear class other within other_within lower upper lower_is upper_is among =
    let ends = chain_ends classes linear (length (chain_of classes class)) class other (omega arith) within among in
    let own = linear other other_within in
    stands_at_depth ends.front (chain_from classes (parent_of classes other)) other lower upper (lower_is
    ∙ ap reverse (ends.joined ∙ ap (λ ys. ends.front ++ ys) own))
    (upper_is ∙ ap reverse own)

-- what the code returns at the depth, and past the display's end
pub among_at_depth : (classes : List DeclaredClass) → IsLinear classes → (class other : ℕ) → class < length classes → other < length classes
    → (lower upper : List ℕ) → lower ≡ reverse (chain_of classes class) → upper ≡ reverse (chain_of classes other) → length upper - 1 < length lower
    → nat_eq (get_or lower (length upper - 1) 0) other ≡ is_among other (chain_of classes class)
among_at_depth classes linear class other within other_within lower upper lower_is upper_is inside =
    by_among (is_among other (chain_of classes class)) refl where
      contained : (b : Bool) → nat_eq (get_or lower (length upper - 1) 0) other ≡ b → is_among other (chain_of classes class) ≡ false → b ≡ false
      contained false e h = refl
      contained true e h =
          sym (is_among_at lower (length upper - 1) other inside (eqb-true (get_or lower (length upper - 1) 0) other e)) ∙ ap (is_among other) lower_is
          ∙ is_among-reverse other (chain_of classes class) ∙ h

      by_among : (b : Bool) → is_among other (chain_of classes class) ≡ b
          → nat_eq (get_or lower (length upper - 1) 0) other ≡ is_among other (chain_of classes class)
      by_among true e =
          eq-eqb (get_or lower (length upper - 1) 0) other
          (stands_in_display classes linear class other within other_within lower upper lower_is upper_is e).there ∙ sym e
      by_among false e = contained (nat_eq (get_or lower (length upper - 1) 0) other) refl e ∙ sym e

pub not_among_past_depth : (classes : List DeclaredClass) → IsLinear classes → (class other : ℕ) → class < length classes → other < length classes
    → (lower upper : List ℕ) → lower ≡ reverse (chain_of classes class) → upper ≡ reverse (chain_of classes other) → length lower ≤ length upper - 1
    → is_among other (chain_of classes class) ≡ false
not_among_past_depth classes linear class other within other_within lower upper lower_is upper_is past =
    by_among (is_among other (chain_of classes class)) refl where
      by_among : (b : Bool) → is_among other (chain_of classes class) ≡ b → b ≡ false
      by_among false e = refl
      by_among true e =
          absurd (omega (arith, past, (stands_in_display classes linear class other within other_within lower upper lower_is upper_is e).within))

-- a display isn't empty
pub display-full : (classes : List DeclaredClass) → IsLinear classes → (class : ℕ) → class < length classes → (upper : List ℕ)
    → upper ≡ reverse (chain_of classes class)
    → 1 ≤ length upper
display-full classes linear class within upper upper_is =
    omega (arith, ap length upper_is, length-reverse (chain_of classes class), ap length (linear class within))
