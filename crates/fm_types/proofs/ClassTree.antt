-- Classes that are a tree below Object: superclasses, what counts as Object, and the nearest superclass of two classes.
use Rattle.std.proofs.Common.{◌≡◌, ◌⊎◌, inl, inr, refl, sym, ◌∙◌, ap, subst, ℕ, zero, suc, ◌<◌, ◌≤◌, ◌||◌, Bool, true, false, List, [], ◌∷◌, length, reverse, nat_eq, Option, Some, None, cond, unwrap_or, arith}
use Rattle.std.specs.List.{find}
use Rattle.std.proofs.lemmas.Bool.{cases_lt, eqb-true, eq-eqb, false≢true, or_cases, or_left, or_right}
use Rattle.std.proofs.lemmas.List.{reverse-reverse}
use Rattle.std.proofs.lemmas.List.Folds.{list_any-append}
use Rattle.fm_types.specs.Fits.{AreTree, is_seen_as_object, object_of}
use Rattle.fm_types.specs.Joins.{common_class}
use Rattle.fm_world.proofs.Displays.{chain_ends, class_number-within, parent_of-within}
use Rattle.fm_code.specs.AccessFlags.{is_interface}
use Rattle.fm_world.specs.BuiltIns.{object_name}
use Rattle.fm_world.specs.Chains.{chain_of, class_at, is_among, parent_of, superclass_in, upwards}
use Rattle.fm_world.specs.Declarations.{no_class}
use Rattle.fm_world.specs.Lookups.{is_interface_at, object_number}
use Rattle.fm_world.specs.declared.declarations.DeclaredClass.{DeclaredClass}
use Rattle.fm_world.specs.inner.Tables.{chain_from, IsLinear}

-- ---- numbers of classes

pub object-within : (classes : List DeclaredClass) → AreTree classes → object_of classes < length classes
object-within classes tree = class_number-within classes object_name (object_of classes) tree.object

past_end : (classes : List DeclaredClass) (class : ℕ) → length classes ≤ class → class_at classes class ≡ no_class
past_end [] class h = refl
past_end (c ∷ classes) zero h = absurd (omega (arith, h))
past_end (c ∷ classes) (suc class) h = past_end classes class (omega (arith, h))

-- a number that is no class's is the only one of its chain
pub chain_past_end : (classes : List DeclaredClass) (class : ℕ) → length classes ≤ class → chain_of classes class ≡ class ∷ []
unfolding chain_of
chain_past_end classes class past = by_length (suc (length classes)) (omega arith) where
  above : (bound : ℕ) (p : Option ℕ) → p ≡ None → upwards bound classes p ≡ []
  above zero p e = refl
  above (suc bound) p e = ap (upwards (suc bound) classes) e

  no_parent : parent_of classes class ≡ None
  no_parent = ap (superclass_in classes) (past_end classes class past)

  by_length : (n : ℕ) → 0 < n → upwards n classes (Some class) ≡ class ∷ []
  by_length zero h = absurd (omega (arith, h))
  by_length (suc bound) h = ap (λ xs. class ∷ xs) (above bound (parent_of classes class) no_parent)

-- a class is in its own chain
pub among_own : (classes : List DeclaredClass) (class : ℕ) → 0 < length classes → is_among class (chain_of classes class) ≡ true
unfolding chain_of
among_own classes class some = by_length (suc (length classes)) (omega arith) where
  by_length : (n : ℕ) → 0 < n → is_among class (upwards n classes (Some class)) ≡ true
  by_length zero h = absurd (omega (arith, h))
  by_length (suc bound) h = or_left (nat_eq class class) (is_among class (upwards bound classes (parent_of classes class))) (eq-eqb class class refl)

pub among_one : (x y : ℕ) → is_among x (y ∷ []) ≡ true → x ≡ y
among_one x y h = by_case (or_cases (nat_eq x y) false h) where
  by_case : (nat_eq x y ≡ true) ⊎ (false ≡ true) → x ≡ y
  by_case (inl e) = eqb-true x y e
  by_case (inr e) = absurd (false≢true e)

-- ---- superclasses of superclasses

pub among-trans : (classes : List DeclaredClass) → AreTree classes → (c d e : ℕ) → is_among d (chain_of classes c) ≡ true
    → is_among e (chain_of classes d) ≡ true
    → is_among e (chain_of classes c) ≡ true
among-trans classes tree c d e first second = by_range (cases_lt c (length classes)) where
  some : 0 < length classes
  some = omega (arith, object-within classes tree)

  past : length classes ≤ c → is_among e (chain_of classes c) ≡ true
  past h =
      let same : d ≡ c = among_one d c (sym (ap (is_among d) (chain_past_end classes c h)) ∙ first) in
      let P : ℕ → Type 0 = λ n. is_among e (chain_of classes n) ≡ true in subst P same second

  inside : c < length classes → is_among e (chain_of classes c) ≡ true
  inside h =
      let ends = chain_ends classes tree.linear (length (chain_of classes c)) c d (omega arith) h first in
      ap (is_among e) ends.joined ∙ list_any-append (nat_eq e) ends.front (chain_of classes d)
      ∙ or_right (is_among e ends.front) (is_among e (chain_of classes d)) second

  by_range : (c < length classes) ⊎ (length classes ≤ c) → is_among e (chain_of classes c) ≡ true
  by_range (inl h) = inside h
  by_range (inr h) = past h

-- ---- what counts as Object

pub interface-within : (classes : List DeclaredClass) (class : ℕ) → is_interface_at classes class ≡ true → class < length classes
interface-within classes class h = by_range (cases_lt class (length classes)) where
  by_range : (class < length classes) ⊎ (length classes ≤ class) → class < length classes
  by_range (inl inside) = inside
  by_range (inr past) = absurd (false≢true (sym (ap (λ (c : DeclaredClass). is_interface c.flags) (past_end classes class past)) ∙ h))

pub seen-object : (classes : List DeclaredClass) → is_seen_as_object classes (object_of classes) ≡ true
seen-object classes =
    or_right (is_interface_at classes (object_of classes)) (nat_eq (object_of classes) (object_of classes))
    (eq-eqb (object_of classes) (object_of classes) refl)

-- above Object is nothing else
above_object : (classes : List DeclaredClass) → AreTree classes → (x : ℕ) → is_among x (chain_of classes (object_of classes)) ≡ true
    → x ≡ object_of classes
above_object classes tree x h =
    let alone : chain_of classes (object_of classes) ≡ object_of classes ∷ [] =
    tree.linear (object_of classes) (object-within classes tree) ∙ ap (λ p. object_of classes ∷ chain_from classes p) tree.top in
    among_one x (object_of classes) (sym (ap (is_among x) alone) ∙ h)

-- above an interface is Object
above_interface : (classes : List DeclaredClass) → AreTree classes → (class x : ℕ) → is_interface_at classes class ≡ true
    → is_among x (chain_of classes class) ≡ true
    → (x ≡ class) ⊎ (x ≡ object_of classes)
above_interface classes tree class x h among = by_first (or_cases (nat_eq x class) (is_among x (chain_of classes (object_of classes))) joined) where
  chain_is : chain_of classes class ≡ class ∷ chain_of classes (object_of classes)
  chain_is = tree.linear class (interface-within classes class h) ∙ ap (λ p. class ∷ chain_from classes p) (tree.interfaces class h)

  joined : (nat_eq x class || is_among x (chain_of classes (object_of classes))) ≡ true
  joined = sym (ap (is_among x) chain_is) ∙ among

  by_first : (nat_eq x class ≡ true) ⊎ (is_among x (chain_of classes (object_of classes)) ≡ true) → (x ≡ class) ⊎ (x ≡ object_of classes)
  by_first (inl e) = inl (eqb-true x class e)
  by_first (inr e) = inr (above_object classes tree x e)

-- what is above Object or an interface is one of these
pub seen_above : (classes : List DeclaredClass) → AreTree classes → (class x : ℕ) → is_seen_as_object classes class ≡ true
    → is_among x (chain_of classes class) ≡ true
    → is_seen_as_object classes x ≡ true
seen_above classes tree class x seen among = by_seen (or_cases (is_interface_at classes class) (nat_eq class (object_of classes)) seen) where
  by_place : (x ≡ class) ⊎ (x ≡ object_of classes) → is_seen_as_object classes x ≡ true
  by_place (inl e) = ap (is_seen_as_object classes) e ∙ seen
  by_place (inr e) = ap (is_seen_as_object classes) e ∙ seen-object classes

  by_seen : (is_interface_at classes class ≡ true) ⊎ (nat_eq class (object_of classes) ≡ true) → is_seen_as_object classes x ≡ true
  by_seen (inl h) = by_place (above_interface classes tree class x h among)
  by_seen (inr e) =
      let same : class ≡ object_of classes = eqb-true class (object_of classes) e in
      by_place (inr (above_object classes tree x (sym (ap (λ c. is_among x (chain_of classes c)) same) ∙ among)))

-- ---- the nearest superclass of two classes

found : (p : ℕ → Bool) (xs : List ℕ) (e : ℕ) → find p xs ≡ Some e → (p e ≡ true) × (is_among e xs ≡ true)
found p [] e h = cc
found p (x ∷ xs) e h = by_test (found p xs e) (p x) refl h where
  by_test : (find p xs ≡ Some e → (p e ≡ true) × (is_among e xs ≡ true)) → (b : Bool) → p x ≡ b → cond b (Some x) (find p xs) ≡ Some e
      → (p e ≡ true) × (is_among e (x ∷ xs) ≡ true)
  by_test recursive true passes h = let same : e ≡ x = cc in (ap p same ∙ passes, or_left (nat_eq e x) (is_among e xs) (eq-eqb e x same))
  by_test recursive false fails h = let rest = recursive h in (rest.0, or_right (nat_eq e x) (is_among e xs) rest.1)

-- what holds of the superclass, where the class x is in its chain
abbrev OfParent : List DeclaredClass → ℕ → ℕ → (ℕ → ℕ → Type 0) → Type 0
OfParent classes class x P = (parent : ℕ) → parent_of classes class ≡ Some parent → is_among x (chain_of classes parent) ≡ true → P parent x

-- the first class of a chain that passes has above it each class of the chain that passes
record Found (classes : List DeclaredClass) (p : ℕ → Bool) (class x : ℕ) : Type 0 where
  first : ℕ
  there : find p (chain_of classes class) ≡ Some first
  above : is_among x (chain_of classes first) ≡ true

found_below : (classes : List DeclaredClass) → IsLinear classes → (p : ℕ → Bool) (x : ℕ) → p x ≡ true → (bound class : ℕ)
    → length (chain_of classes class) ≤ bound
    → class < length classes → is_among x (chain_of classes class) ≡ true → Found classes p class x
found_below classes linear p x passes zero class short within among = absurd (omega (arith, short, ap length (linear class within)))
found_below classes linear p x passes (suc bound) class short within among =
    by_test
    (λ parent e h. found_below classes linear p x passes bound parent (shorter parent e) (parent_of-within classes class parent e) h)
    (p class) refl where
      joined_above : (q : Option ℕ) → parent_of classes class ≡ q → chain_of classes class ≡ class ∷ chain_from classes q
      joined_above q e = linear class within ∙ ap (λ r. class ∷ chain_from classes r) e

      shorter : (parent : ℕ) → parent_of classes class ≡ Some parent → length (chain_of classes parent) ≤ bound
      shorter parent e = omega (arith, short, ap length (joined_above (Some parent) e))

      passed_over : (q : Option ℕ) → parent_of classes class ≡ q → p class ≡ false → find p (chain_of classes class) ≡ find p (chain_from classes q)
      passed_over q e fails = ap (find p) (joined_above q e) ∙ ap (λ b. cond b (Some class) (find p (chain_from classes q))) fails

      further : (q : Option ℕ) → parent_of classes class ≡ q → p class ≡ false → is_among x (chain_from classes q) ≡ true
      further q e fails =
          by_first (or_cases (nat_eq x class) (is_among x (chain_from classes q)) (sym (ap (is_among x) (joined_above q e)) ∙ among)) where
            by_first : (nat_eq x class ≡ true) ⊎ (is_among x (chain_from classes q) ≡ true) → is_among x (chain_from classes q) ≡ true
            by_first (inl same) = absurd (false≢true (sym fails ∙ ap p (sym (eqb-true x class same)) ∙ passes))
            by_first (inr rest) = rest

      by_parent : (recursive : OfParent classes class x (Found classes p))
          → (q : Option ℕ) → parent_of classes class ≡ q → p class ≡ false → Found classes p class x
      by_parent recursive None e fails = absurd (false≢true (further None e fails))
      by_parent recursive (Some parent) e fails =
          let above = recursive parent e (further (Some parent) e fails) in
          record { first = above.first; there = passed_over (Some parent) e fails ∙ above.there; above = above.above }

      by_test : (recursive : OfParent classes class x (Found classes p))
          → (b : Bool) → p class ≡ b → Found classes p class x
      by_test recursive true e = record {
        first = class;
        there = ap (find p) (linear class within) ∙ ap (λ b. cond b (Some class) (find p (chain_from classes (parent_of classes class)))) e;
        above = among;
      }
      by_test recursive false e = by_parent recursive (parent_of classes class) refl e

-- a class above both is above the nearest one
pub common-least : (classes : List DeclaredClass) → AreTree classes → (c d x : ℕ) → is_among x (chain_of classes c) ≡ true
    → is_among x (chain_of classes d) ≡ true
    → is_among x (chain_of classes (common_class classes c d)) ≡ true
common-least classes tree c d x first second = by_range (cases_lt c (length classes)) where
  some : 0 < length classes
  some = omega (arith, object-within classes tree)

  p : ℕ → Bool
  p above = is_among above (chain_of classes d)

  inside : Found classes p c x → is_among x (chain_of classes (common_class classes c d)) ≡ true
  inside w = ap (λ o. is_among x (chain_of classes (unwrap_or o (object_of classes)))) w.there ∙ w.above

  past : length classes ≤ c → is_among x (chain_of classes (common_class classes c d)) ≡ true
  past h =
      let alone = chain_past_end classes c h in
      let same : x ≡ c = among_one x c (sym (ap (is_among x) alone) ∙ first) in
      let passes : p c ≡ true = ap p (sym same) ∙ second in
      let there : find p (chain_of classes c) ≡ Some c = ap (find p) alone ∙ ap (λ b. cond b (Some c) None) passes in
      ap (λ o. is_among x (chain_of classes (unwrap_or o (object_of classes)))) there ∙ first

  by_range : (c < length classes) ⊎ (length classes ≤ c) → is_among x (chain_of classes (common_class classes c d)) ≡ true
  by_range (inl h) = inside (found_below classes tree.linear p x second (length (chain_of classes c)) c (omega arith) h first)
  by_range (inr h) = past h

-- the nearest one is above both, or Object
pub record IsCommon (classes : List DeclaredClass) (c d common : ℕ) : Type 0 where
  pub first : is_among common (chain_of classes c) ≡ true
  pub second : is_among common (chain_of classes d) ≡ true

pub common-above : (classes : List DeclaredClass) (c d : ℕ)
    → IsCommon classes c d (common_class classes c d) ⊎ (common_class classes c d ≡ object_of classes)
common-above classes c d = by_found (find p (chain_of classes c)) refl where
  p : ℕ → Bool
  p above = is_among above (chain_of classes d)

  by_found : (o : Option ℕ) → find p (chain_of classes c) ≡ o
      → IsCommon classes c d (unwrap_or o (object_of classes)) ⊎ (unwrap_or o (object_of classes) ≡ object_of classes)
  by_found None e = inr refl
  by_found (Some x) e = let w = found p (chain_of classes c) x e in inl (record { first = w.1; second = w.0 })

-- a class above another one is no interface
proper_above : (classes : List DeclaredClass) → AreTree classes → (x bound class : ℕ) → length (chain_of classes class) ≤ bound
    → class < length classes
    → is_among x (chain_of classes class) ≡ true → (x ≡ class) ⊎ (is_interface_at classes x ≡ false)
proper_above classes tree x zero class short within among = absurd (omega (arith, short, ap length (tree.linear class within)))
proper_above classes tree x (suc bound) class short within among =
    by_parent
    (λ parent e h. proper_above classes tree x bound parent (shorter parent e) (parent_of-within classes class parent e) h)
    (parent_of classes class) refl where
      joined_above : (q : Option ℕ) → parent_of classes class ≡ q → chain_of classes class ≡ class ∷ chain_from classes q
      joined_above q e = tree.linear class within ∙ ap (λ r. class ∷ chain_from classes r) e

      shorter : (parent : ℕ) → parent_of classes class ≡ Some parent → length (chain_of classes parent) ≤ bound
      shorter parent e = omega (arith, short, ap length (joined_above (Some parent) e))

      split : (q : Option ℕ) → parent_of classes class ≡ q → (nat_eq x class ≡ true) ⊎ (is_among x (chain_from classes q) ≡ true)
      split q e = or_cases (nat_eq x class) (is_among x (chain_from classes q)) (sym (ap (is_among x) (joined_above q e)) ∙ among)

      at_parent : (parent : ℕ) → parent_of classes class ≡ Some parent → (x ≡ parent) ⊎ (is_interface_at classes x ≡ false)
          → (x ≡ class) ⊎ (is_interface_at classes x ≡ false)
      at_parent parent e (inl same) = inr (ap (is_interface_at classes) same ∙ tree.parents class parent e)
      at_parent parent e (inr h) = inr h

      by_split_some : (recursive : OfParent classes class x (λ parent y. (y ≡ parent) ⊎ (is_interface_at classes y ≡ false)))
          → (parent : ℕ) → parent_of classes class ≡ Some parent → (nat_eq x class ≡ true) ⊎ (is_among x (chain_of classes parent) ≡ true)
          → (x ≡ class) ⊎ (is_interface_at classes x ≡ false)
      by_split_some recursive parent e (inl same) = inl (eqb-true x class same)
      by_split_some recursive parent e (inr h) = at_parent parent e (recursive parent e h)

      by_split_none : (nat_eq x class ≡ true) ⊎ (false ≡ true) → (x ≡ class) ⊎ (is_interface_at classes x ≡ false)
      by_split_none (inl same) = inl (eqb-true x class same)
      by_split_none (inr h) = absurd (false≢true h)

      by_parent : (recursive : OfParent classes class x (λ parent y. (y ≡ parent) ⊎ (is_interface_at classes y ≡ false)))
          → (q : Option ℕ) → parent_of classes class ≡ q → (x ≡ class) ⊎ (is_interface_at classes x ≡ false)
      by_parent recursive None e = by_split_none (split None e)
      by_parent recursive (Some parent) e = by_split_some recursive parent e (split (Some parent) e)

proper : (classes : List DeclaredClass) → AreTree classes → (x class : ℕ) → is_among x (chain_of classes class) ≡ true
    → (x ≡ class) ⊎ (is_interface_at classes x ≡ false)
proper classes tree x class among = by_range (cases_lt class (length classes)) where
  by_range : (class < length classes) ⊎ (length classes ≤ class) → (x ≡ class) ⊎ (is_interface_at classes x ≡ false)
  by_range (inl h) = proper_above classes tree x (length (chain_of classes class)) class (omega arith) h among
  by_range (inr h) =
      inl (among_one x class (sym (ap (is_among x) (chain_past_end classes class h)) ∙ among))

-- the nearest superclass of two different classes is no interface
pub common-proper : (classes : List DeclaredClass) → AreTree classes → (c d : ℕ) → ¬ (c ≡ d)
    → is_interface_at classes (common_class classes c d) ≡ false
common-proper classes tree c d apart = by_place (common-above classes c d) where
  x : ℕ
  x = common_class classes c d

  by_both : (x ≡ c) ⊎ (is_interface_at classes x ≡ false) → (x ≡ d) ⊎ (is_interface_at classes x ≡ false) → is_interface_at classes x ≡ false
  by_both (inr h) other = h
  by_both (inl e) (inr h) = h
  by_both (inl e) (inl g) = absurd (apart (sym e ∙ g))

  by_place : IsCommon classes c d x ⊎ (x ≡ object_of classes) → is_interface_at classes x ≡ false
  by_place (inl w) = by_both (proper classes tree x c w.first) (proper classes tree x d w.second)
  by_place (inr e) = ap (is_interface_at classes) e ∙ tree.object_is_class

-- ---- classes of a chain are there

pub among-within : (classes : List DeclaredClass) (class x : ℕ) → class < length classes → is_among x (chain_of classes class) ≡ true
    → x < length classes
unfolding chain_of
among-within classes class x h among = go (suc (length classes)) class h among where
  no_more : (bound : ℕ) → is_among x (upwards bound classes None) ≡ true → ⊥
  no_more zero e = false≢true e
  no_more (suc bound) e = false≢true e

  by_parent : (bound c : ℕ) → ((q : ℕ) → q < length classes → is_among x (upwards bound classes (Some q)) ≡ true → x < length classes)
      → (p : Option ℕ) → parent_of classes c ≡ p → is_among x (upwards bound classes p) ≡ true → x < length classes
  by_parent bound c recursive None e rest = absurd (no_more bound rest)
  by_parent bound c recursive (Some q) e rest = recursive q (parent_of-within classes c q e) rest

  by_first : (bound c : ℕ) → ((q : ℕ) → q < length classes → is_among x (upwards bound classes (Some q)) ≡ true → x < length classes)
      → c < length classes
      → (nat_eq x c ≡ true) ⊎ (is_among x (upwards bound classes (parent_of classes c)) ≡ true) → x < length classes
  by_first bound c recursive inside (inl e) = let P : ℕ → Type 0 = λ n. n < length classes in subst P (sym (eqb-true x c e)) inside
  by_first bound c recursive inside (inr rest) = by_parent bound c recursive (parent_of classes c) refl rest

  go : (bound c : ℕ) → c < length classes → is_among x (upwards bound classes (Some c)) ≡ true → x < length classes
  go zero c inside e = absurd (false≢true e)
  go (suc bound) c inside e = by_first bound c (go bound) inside (or_cases (nat_eq x c) (is_among x (upwards bound classes (parent_of classes c))) e)

-- a number that is no class's is in no chain but its own
pub past_end-alone : (classes : List DeclaredClass) (c d : ℕ) → (length classes ≤ c) ⊎ (length classes ≤ d)
    → nat_eq d c ≡ is_among d (chain_of classes c)
past_end-alone classes c d past = by_range (cases_lt c (length classes)) past where
  or-false : (b : Bool) → b ≡ (b || false)
  or-false true = refl
  or-false false = refl

  alone : length classes ≤ c → nat_eq d c ≡ is_among d (chain_of classes c)
  alone h = or-false (nat_eq d c) ∙ sym (ap (is_among d) (chain_past_end classes c h))

  neither : c < length classes → length classes ≤ d → (p q : Bool) → nat_eq d c ≡ p → is_among d (chain_of classes c) ≡ q → p ≡ q
  neither inside h true q e f = absurd (omega (arith, inside, h, eqb-true d c e))
  neither inside h false true e f = absurd (omega (arith, h, among-within classes c d inside f))
  neither inside h false false e f = refl

  by_range : (c < length classes) ⊎ (length classes ≤ c) → (length classes ≤ c) ⊎ (length classes ≤ d)
      → nat_eq d c ≡ is_among d (chain_of classes c)
  by_range (inr h) either = alone h
  by_range (inl h) (inl g) = alone g
  by_range (inl h) (inr g) = neither h g (nat_eq d c) (is_among d (chain_of classes c)) refl refl

-- the nearest one of a number that is no class's and of a class
pub common-alone : (classes : List DeclaredClass) (c d : ℕ) (p : Bool) → length classes ≤ c → is_among c (chain_of classes d) ≡ p
    → cond p c (object_of classes) ≡ common_class classes c d
common-alone classes c d p past test = by_test p test ∙ sym (ap (λ found. unwrap_or found (object_of classes)) looked) where
  looked : find (λ above. is_among above (chain_of classes d)) (chain_of classes c)
      ≡ cond (is_among c (chain_of classes d)) (Some c) None
  looked = ap (find (λ above. is_among above (chain_of classes d))) (chain_past_end classes c past)

  by_test : (p : Bool) → is_among c (chain_of classes d) ≡ p
      → cond p c (object_of classes) ≡ unwrap_or (cond (is_among c (chain_of classes d)) (Some c) None) (object_of classes)
  by_test true e = ap (λ b. unwrap_or (cond b (Some c) None) (object_of classes)) (sym e)
  by_test false e = ap (λ b. unwrap_or (cond b (Some c) None) (object_of classes)) (sym e)

-- where none of a display is in the other chain, the nearest one is Object
pub common-none : (classes : List DeclaredClass) (c d object : ℕ) (lower : List ℕ) → lower ≡ reverse (chain_of classes c)
    → find (λ above. is_among above (chain_of classes d)) (reverse lower) ≡ None → object_number classes ≡ Some object
    → object ≡ common_class classes c d
common-none classes c d object lower lower_is none number =
    let turned : reverse lower ≡ chain_of classes c = ap reverse lower_is ∙ reverse-reverse (chain_of classes c) in
    let missed : find (λ above. is_among above (chain_of classes d)) (chain_of classes c) ≡ None =
    sym (ap (find (λ above. is_among above (chain_of classes d))) turned) ∙ none in
    sym (ap (λ found. unwrap_or found (object_of classes)) missed ∙ ap (λ found. unwrap_or found 0) number)
