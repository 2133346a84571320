-- A class's own member of a name and a descriptor is the first one of that class among the members of all classes.
use Rattle.std.proofs.Common.{◌≡◌, refl, sym, ◌∙◌, ap, ℕ, zero, suc, ◌+◌, ◌<◌, ◌&&◌, Bool, true, false, cond, List, [], ◌∷◌, ◌++◌, length, map, take, get_or, nat_eq, Some, None, option_map, sum_by, arith, add_assoc}
use Rattle.std.proofs.lemmas.List.{length-map, map-append}
use Rattle.std.specs.List.{position_from}
use Rattle.std.specs.Str.{bytes_eq}
use Rattle.std.proofs.lemmas.Bool.{eq-eqb, eqb-true}
use Rattle.std.proofs.lemmas.Iterator.Adapters.{position_from-zero}
use Rattle.std.proofs.lemmas.List.Sums.{sum_by-cons}
use Rattle.fm_base.proofs.ListFacts.{map-map}
use Rattle.fm_world.specs.Chains.{class_at}
use Rattle.fm_world.specs.Declarations.{no_class}
use Rattle.fm_world.specs.Lookups.{any_flags}
use Rattle.fm_world.specs.Members.{fields_from, fields_of, methods_from, methods_of, own_field, own_method, first_field, first_method}
use Rattle.fm_world.specs.declared.declarations.DeclaredClass.{DeclaredClass}
use Rattle.fm_world.specs.declared.declarations.DeclaredField.{DeclaredField}
use Rattle.fm_world.specs.declared.declarations.DeclaredMethod.{DeclaredMethod}
use Rattle.fm_link_names.proofs.PlaceLemmas.{position_from-map}
use Rattle.fm_link_members.specs.inner.MemberRows.{Owned, field_alike, method_alike}

-- the class's own member of the name and the descriptor, with flags that pass
abbrev pub is_named : (ℕ → Bool) → List ℕ → List ℕ → ℕ → Owned → Bool
is_named passes name descriptor class o =
    nat_eq o.class class && (bytes_eq o.name name && bytes_eq o.descriptor descriptor && passes o.flags)

-- ---- positions

pub position_from-append : {A : Type 0} (p : A → Bool) (i j : ℕ) (xs ys : List A) → j ≡ i + length xs → position_from p i xs ≡ None
    → position_from p i (xs ++ ys) ≡ position_from p j ys
position_from-append p i j [] ys e none = ap (λ n. position_from p n ys) (omega (arith, e))
position_from-append {A} p i j (x ∷ xs) ys e none = by_test (p x) none (position_from-append p (i + 1) j xs ys (omega (arith, e))) where
  by_test : (b : Bool) → cond b (Some i) (position_from p (i + 1) xs) ≡ None
      → (position_from p (i + 1) xs ≡ None → position_from p (i + 1) (xs ++ ys) ≡ position_from p j ys)
      → cond b (Some i) (position_from p (i + 1) (xs ++ ys)) ≡ position_from p j ys
  by_test true h more = cc
  by_test false h more = more h

pub position_from-before : {A : Type 0} (p : A → Bool) (i j : ℕ) (xs ys : List A) → j ≡ i + length xs → position_from p j ys ≡ None
    → position_from p i (xs ++ ys) ≡ position_from p i xs
position_from-before p i j [] ys e none = ap (λ n. position_from p n ys) (omega (arith, e)) ∙ none
position_from-before p i j (x ∷ xs) ys e none =
    ap (λ o. cond (p x) (Some i) o) (position_from-before p (i + 1) j xs ys (omega (arith, e)) none)

pub position_from-none : {A B : Type 0} (f : A → B) (p : B → Bool) (i : ℕ) (xs : List A) → ((x : A) → p (f x) ≡ false)
    → position_from p i (map f xs) ≡ None
position_from-none f p i [] none = refl
position_from-none f p i (x ∷ xs) none =
    ap (λ b. cond b (Some i) (position_from p (i + 1) (map f xs))) (none x) ∙ position_from-none f p (i + 1) xs none

pub position_from-moved : {A : Type 0} (q : A → Bool) (a i j : ℕ) (xs : List A) → j ≡ a + i
    → option_map (λ k. a + k) (position_from q i xs) ≡ position_from q j xs
position_from-moved q a i j [] e = refl
position_from-moved q a i j (x ∷ xs) e = by_test (q x) (position_from-moved q a (i + 1) (j + 1) xs (omega (arith, e))) where
  by_test : (b : Bool) → option_map (λ k. a + k) (position_from q (i + 1) xs) ≡ position_from q (j + 1) xs
      → option_map (λ k. a + k) (cond b (Some i) (position_from q (i + 1) xs)) ≡ cond b (Some j) (position_from q (j + 1) xs)
  by_test true more = ap (λ n. Some n) (sym e)
  by_test false more = more

-- ---- the members of classes one after the other

-- the members of classes whose numbers begin with this one
abbrev pub all_from : {A : Type 0} → (DeclaredClass → List A) → (ℕ → A → Owned) → ℕ → List DeclaredClass → List Owned
all_from members make class [] = []
all_from members make class (c ∷ classes) = map (make class) (members c) ++ all_from members make (class + 1) classes

nat_eq-apart : (m n : ℕ) → m < n → nat_eq m n ≡ false
nat_eq-apart m n h = by_test (nat_eq m n) refl where
  by_test : (b : Bool) → nat_eq m n ≡ b → b ≡ false
  by_test false e = refl
  by_test true e = absurd (omega (arith, h, eqb-true m n e))

nat_eq-above : (m n : ℕ) → n < m → nat_eq m n ≡ false
nat_eq-above m n h = by_test (nat_eq m n) refl where
  by_test : (b : Bool) → nat_eq m n ≡ b → b ≡ false
  by_test false e = refl
  by_test true e = absurd (omega (arith, h, eqb-true m n e))

-- no class above has the member
none_above : {A : Type 0} (members : DeclaredClass → List A) (make : ℕ → A → Owned) (p : Owned → Bool) (q : A → Bool) (class : ℕ)
    → ((number : ℕ) (x : A) → p (make number x) ≡ (nat_eq number class && q x)) → (i number : ℕ) (classes : List DeclaredClass) → class < number
    → position_from p i (all_from members make number classes) ≡ None
none_above members make p q class same i number [] above = refl
none_above members make p q class same i number (c ∷ classes) above =
    position_from-append p i (i + length (map (make number) (members c))) (map (make number) (members c))
    (all_from members make (number + 1) classes) refl
    (position_from-none (make number) p i (members c) (λ x. same number x ∙ ap (λ b. b && q x) (nat_eq-above number class above)))
    ∙ none_above members make p q class same (i + length (map (make number) (members c))) (number + 1) classes (omega (arith, above))

pub position-all : {A : Type 0} (members : DeclaredClass → List A) (make : ℕ → A → Owned) (p : Owned → Bool) (q : A → Bool) (class : ℕ)
    → ((number : ℕ) (x : A) → p (make number x) ≡ (nat_eq number class && q x)) → members no_class ≡ [] → (i base t : ℕ)
    (classes : List DeclaredClass) → class ≡ base + t
    → position_from p i (all_from members make base classes)
    ≡ position_from q (i + sum_by (λ c. length (members c)) (take t classes)) (members (get_or classes t no_class))
position-all members make p q class same none i base zero [] e =
    ap (λ xs. position_from q (i + 0) xs) (sym none)
position-all members make p q class same none i base (suc t) [] e =
    ap (λ xs. position_from q (i + 0) xs) (sym none)
position-all {A} members make p q class same none i base zero (c ∷ classes) e =
    position_from-before p i (i + length (map (make base) (members c))) (map (make base) (members c)) (all_from members make (base + 1) classes) refl
    (none_above members make p q class same (i + length (map (make base) (members c))) (base + 1) classes (omega (arith, e)))
    ∙ position_from-map (make base) p q i (members c) (λ x. same base x ∙ ap (λ b. b && q x) here)
    ∙ ap (λ n. position_from q n (members c)) (omega arith) where
      here : nat_eq base class ≡ true
      here = eq-eqb base class (omega (arith, e))
position-all members make p q class same none i base (suc t) (c ∷ classes) e =
    position_from-append p i (i + length (members c)) (map (make base) (members c)) (all_from members make (base + 1) classes)
    (ap (λ n. i + n) (sym (length-map (members c) (make base))))
    (position_from-none (make base) p i (members c) (λ x. same base x ∙ ap (λ b. b && q x) (nat_eq-apart base class (omega (arith, e)))))
    ∙ position-all members make p q class same none (i + length (members c)) (base + 1) t classes (omega (arith, e))
    ∙ ap (λ n. position_from q n (members (get_or classes t no_class)))
    (add_assoc i (length (members c)) (sum_by (λ d. length (members d)) (take t classes))
    ∙ ap (λ n. i + n) (sym (sum_by-cons (λ d. length (members d)) c (take t classes))))

-- ---- fields and methods

abbrev pub field_of_class : ℕ → DeclaredField → Owned
field_of_class class f = record { class = class; name = f.name; descriptor = f.descriptor; flags = f.flags }

abbrev pub method_of_class : ℕ → DeclaredMethod → Owned
method_of_class class m = record { class = class; name = m.name; descriptor = m.descriptor; flags = m.flags }

abbrev pub fields_in : DeclaredClass → List DeclaredField
fields_in c = c.fields

abbrev pub methods_in : DeclaredClass → List DeclaredMethod
methods_in c = c.methods

pub fields-alike : (class : ℕ) (classes : List DeclaredClass)
    → map field_alike (fields_from class classes) ≡ all_from fields_in field_of_class class classes
fields-alike class [] = refl
fields-alike class (c ∷ classes) =
    map-append field_alike (map (λ f. record { class = class; field = f }) c.fields) (fields_from (class + 1) classes)
    ∙ ap (λ xs. xs ++ map field_alike (fields_from (class + 1) classes)) (map-map (λ f. record { class = class; field = f }) field_alike c.fields)
    ∙ ap (λ xs. map (field_of_class class) c.fields ++ xs) (fields-alike (class + 1) classes)

pub methods-alike : (class : ℕ) (classes : List DeclaredClass)
    → map method_alike (methods_from class classes) ≡ all_from methods_in method_of_class class classes
methods-alike class [] = refl
methods-alike class (c ∷ classes) =
    map-append method_alike (map (λ m. record { class = class; method = m }) c.methods) (methods_from (class + 1) classes)
    ∙ ap (λ xs. xs ++ map method_alike (methods_from (class + 1) classes)) (map-map (λ m. record { class = class; method = m }) method_alike
    c.methods)
    ∙ ap (λ xs. map (method_of_class class) c.methods ++ xs) (methods-alike (class + 1) classes)

and_true : (a b : Bool) → (a && b && true) ≡ (a && b)
and_true true true = refl
and_true true false = refl
and_true false b = refl

pub own_field-position : (classes : List DeclaredClass) (name descriptor : List ℕ) (class : ℕ)
    → own_field classes name descriptor class ≡ position_from (is_named any_flags name descriptor class) 0 (map field_alike (fields_of classes))
unfolding fields_of
own_field-position classes name descriptor class =
    ap (option_map (λ k. first_field classes class + k)) (position_from-zero q (class_at classes class).fields)
    ∙ position_from-moved q (first_field classes class) 0 (0 + first_field classes class) (class_at classes class).fields (omega arith)
    ∙ sym (position-all fields_in field_of_class (is_named any_flags name descriptor class) q class same refl 0 0 class classes (omega arith))
    ∙ sym (ap (position_from (is_named any_flags name descriptor class) 0) (fields-alike 0 classes)) where
      q : DeclaredField → Bool
      q f = bytes_eq f.name name && bytes_eq f.descriptor descriptor

      same : (number : ℕ) (f : DeclaredField) → is_named any_flags name descriptor class (field_of_class number f) ≡ (nat_eq number class && q f)
      same number f = ap (λ b. nat_eq number class && b) (and_true (bytes_eq f.name name) (bytes_eq f.descriptor descriptor))

pub own_method-position : (classes : List DeclaredClass) (passes : ℕ → Bool) (name descriptor : List ℕ) (class : ℕ)
    → own_method classes passes name descriptor class
    ≡ position_from (is_named passes name descriptor class) 0 (map method_alike (methods_of classes))
unfolding methods_of
own_method-position classes passes name descriptor class =
    ap (option_map (λ k. first_method classes class + k)) (position_from-zero q (class_at classes class).methods)
    ∙ position_from-moved q (first_method classes class) 0 (0 + first_method classes class) (class_at classes class).methods (omega arith)
    ∙ sym (position-all methods_in method_of_class (is_named passes name descriptor class) q class (λ number m. refl) refl 0 0 class classes
    (omega arith))
    ∙ sym (ap (position_from (is_named passes name descriptor class) 0) (methods-alike 0 classes)) where
      q : DeclaredMethod → Bool
      q m = bytes_eq m.name name && bytes_eq m.descriptor descriptor && passes m.flags
