-- A superclass is in a chain as far from its end as its own chain is long.
use Rattle.std.proofs.Common.{◌≡◌, refl, sym, ◌∙◌, ap, subst, ℕ, zero, suc, ◌+◌, ◌-◌, ◌<◌, ◌≤◌, ◌&&◌, ◌||◌, Bool, true, false, List, [], ◌∷◌, ◌++◌, length, drop, get_or, nat_eq, nat_lt, Option, None, Some, slice_get, arith}
use Rattle.std.proofs.lemmas.Bool.{eq-eqb, eqb-true, false≢true, le-ltb, lt-ltb}
use Rattle.std.proofs.lemmas.List.{get_or_at, length-append}
use Rattle.std.proofs.lemmas.Option.{get_or_from_slice_get, slice_get-get_or, slice_get_within}
use Rattle.fm_base.proofs.TestFacts.{and_right}
use Rattle.fm_world.proofs.Displays.{chain_ends, is_among_at, parent_of-within}
use Rattle.fm_world.specs.Chains.{chain_of, is_among, parent_of, superclasses_of}
use Rattle.fm_world.specs.declared.declarations.DeclaredClass.{DeclaredClass}
use Rattle.fm_world.specs.inner.Tables.{chain_from, IsLinear}
use Rattle.fm_link_supers.proofs.Downwards.{among_head, among_later, among_right}
use Rattle.fm_link_supers.proofs.ParentTables.{list_in-row}
use Rattle.fm_link_supers.specs.declared.hierarchy.Hierarchy.{Hierarchy}
use Rattle.fm_link_supers.specs.inner.Hierarchy.{is_superclass_in, is_this, stands_above, IsHierarchy}
use Rattle.fm_link_supers.specs.inner.ListTables.{list_in}

-- a class isn't among its superclasses
pub not_above : (classes : List DeclaredClass) → IsLinear classes → (class x : ℕ) → class < length classes
    → is_among x (chain_from classes (parent_of classes class)) ≡ true → nat_eq x class ≡ false
not_above classes linear class x within among = by_parent (parent_of classes class) refl among where
  by_test : (p : ℕ) → parent_of classes class ≡ Some p → is_among x (chain_of classes p) ≡ true → (b : Bool) → nat_eq x class ≡ b → b ≡ false
  by_test p is h false e = refl
  by_test p is h true e =
      let ends = chain_ends classes linear (length (chain_of classes p)) p class (omega arith) (parent_of-within classes class p is)
      (ap (λ y. is_among y (chain_of classes p)) (sym (eqb-true x class e)) ∙ h) in
      let one_more : length (chain_of classes class) ≡ suc (length (chain_of classes p)) =
      ap length (linear class within ∙ ap (λ o. class ∷ chain_from classes o) is) in
      absurd (omega (arith, one_more, ap length ends.joined, length-append ends.front (chain_of classes class)))

  by_parent : (o : Option ℕ) → parent_of classes class ≡ o → is_among x (chain_from classes o) ≡ true → nat_eq x class ≡ false
  by_parent None is h = absurd (false≢true h)
  by_parent (Some p) is h = by_test p is h (nat_eq x class) refl

-- each number of a chain is that of a class
chain_within : (classes : List DeclaredClass) → IsLinear classes → (bound class x : ℕ) → length (chain_of classes class) ≤ bound
    → class < length classes → is_among x (chain_of classes class) ≡ true → x < length classes
chain_within classes linear zero class x short within among = absurd (omega (arith, short, ap length (linear class within)))
chain_within classes linear (suc bound) class x short within among =
    by_same (λ p e h. chain_within classes linear bound p x (shorter p e) (parent_of-within classes class p e) h) (nat_eq x class) refl where
      shorter : (p : ℕ) → parent_of classes class ≡ Some p → length (chain_of classes p) ≤ bound
      shorter p e = omega (arith, short, ap length (linear class within ∙ ap (λ o. class ∷ chain_from classes o) e))

      above : nat_eq x class ≡ false → is_among x (chain_from classes (parent_of classes class)) ≡ true
      above differs =
          sym (ap (is_among x) (linear class within)
          ∙ ap (λ b. b || is_among x (chain_from classes (parent_of classes class))) differs) ∙ among

      by_parent : ((p : ℕ) → parent_of classes class ≡ Some p → is_among x (chain_of classes p) ≡ true → x < length classes)
          → (o : Option ℕ) → parent_of classes class ≡ o → is_among x (chain_from classes o) ≡ true → x < length classes
      by_parent recursive None e h = absurd (false≢true h)
      by_parent recursive (Some p) e h = recursive p e h

      by_same : ((p : ℕ) → parent_of classes class ≡ Some p → is_among x (chain_of classes p) ≡ true → x < length classes)
          → (b : Bool) → nat_eq x class ≡ b → x < length classes
      by_same recursive true same = subst (λ y. y < length classes) (sym (eqb-true x class same)) within
      by_same recursive false differs = by_parent recursive (parent_of classes class) refl (above differs)

-- ---- a number that is somewhere is among the others

stands_among : (chain : List ℕ) (far number : ℕ) → stands_above chain far number ≡ true → is_among number chain ≡ true
stands_among chain far number e =
    by_option (slice_get chain (length chain - far)) refl
    (and_right (nat_lt far (length chain)) (is_this number (slice_get chain (length chain - far))) e) where
      by_option : (o : Option ℕ) → slice_get chain (length chain - far) ≡ o → is_this number o ≡ true → is_among number chain ≡ true
      by_option None there h = absurd (false≢true h)
      by_option (Some n) there h =
          is_among_at chain (length chain - far) number (slice_get_within chain (length chain - far) n there)
          (get_or_from_slice_get chain (length chain - far) n 0 there ∙ eqb-true n number h)

-- a number after the first one is above it
stands_after : (chain : List ℕ) (x : ℕ) (front rest : List ℕ) (number far : ℕ) → chain ≡ x ∷ (front ++ number ∷ rest)
    → far ≡ length (number ∷ rest) → stands_above chain far number ≡ true
stands_after chain x front rest number far joined long =
    ap (λ b. b && is_this number (slice_get chain (length chain - far))) (lt-ltb far (length chain) (omega (arith, long, longer)))
    ∙ ap (is_this number) there ∙ eq-eqb number number refl where
      longer : length chain ≡ suc (length front + length (number ∷ rest))
      longer = ap length joined ∙ ap suc (length-append front (number ∷ rest))

      place : suc (length front) ≡ length chain - far
      place = omega (arith, longer, long)

      there : slice_get chain (length chain - far) ≡ Some number
      there =
          slice_get-get_or chain (length chain - far) 0 (omega (arith, longer, long))
          ∙ ap Some (ap (λ xs. get_or xs (length chain - far) 0) joined ∙ get_or_at (x ∷ front) number rest 0 (length chain - far) place)

-- ---- superclasses

pub superclass-is : (classes : List DeclaredClass) (h : Hierarchy) → IsHierarchy classes h → (class other : ℕ) → class < length classes
    → is_superclass_in h class other ≡ is_among other (superclasses_of classes class)
superclass-is classes h is class other within =
    ap (λ chain. stands_above chain far other) (list_in-row (chain_of classes) (length classes) class h.chains.items is.chains within)
    ∙ by_among (is_among other (chain_of classes class)) refl where
      far : ℕ
      far = length (list_in h.chains.items other)

      above : List ℕ
      above = chain_from classes (parent_of classes class)

      own : chain_of classes class ≡ class ∷ above
      own = is.linear class within

      not_above_itself : (b : Bool) → is_among other above ≡ b → other ≡ class → b ≡ false
      not_above_itself false e same = refl
      not_above_itself true e same =
          absurd (false≢true (sym (not_above classes is.linear class other within e) ∙ eq-eqb other class same))

      -- the whole chain is that of the class itself
      by_front : (front rest : List ℕ) → chain_of classes class ≡ front ++ other ∷ rest → far ≡ length (other ∷ rest)
          → stands_above (chain_of classes class) far other ≡ is_among other (drop 1 (chain_of classes class))
      by_front [] rest joined long =
          ap (λ b. b && is_this other (slice_get (chain_of classes class) (length (chain_of classes class) - far)))
          (le-ltb far (length (chain_of classes class)) (omega (arith, long, ap length joined)))
          ∙ sym (ap (λ xs. is_among other (drop 1 xs)) own
          ∙ not_above_itself (is_among other above) refl (ap (λ xs. get_or xs 0 0) (sym joined ∙ own)))
      by_front (x ∷ front) rest joined long =
          stands_after (chain_of classes class) x front rest other far joined long
          ∙ sym (ap (λ xs. is_among other (drop 1 xs)) joined ∙ among_right other front (other ∷ rest) (among_head other rest))

      neither : is_among other (chain_of classes class) ≡ false → (b : Bool) → stands_above (chain_of classes class) far other ≡ b → (d : Bool)
          → is_among other above ≡ d → b ≡ d
      neither e false stands false later = refl
      neither e true stands d later = absurd (false≢true (sym e ∙ stands_among (chain_of classes class) far other stands))
      neither e false stands true later =
          absurd (false≢true (sym e ∙ ap (is_among other) own ∙ among_later other class above later))

      by_among : (b : Bool) → is_among other (chain_of classes class) ≡ b
          → stands_above (chain_of classes class) far other ≡ is_among other (drop 1 (chain_of classes class))
      by_among false e =
          neither e (stands_above (chain_of classes class) far other) refl (is_among other above) refl
          ∙ sym (ap (λ xs. is_among other (drop 1 xs)) own)
      by_among true e =
          let there = chain_within classes is.linear (length (chain_of classes class)) class other (omega arith) within e in
          let ends = chain_ends classes is.linear (length (chain_of classes class)) class other (omega arith) within e in
          by_front ends.front (chain_from classes (parent_of classes other)) (ends.joined ∙ ap (λ ys. ends.front ++ ys) (is.linear other there))
          (ap length (list_in-row (chain_of classes) (length classes) other h.chains.items is.chains there) ∙ ap length (is.linear other there))
