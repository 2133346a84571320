-- Built-in classes have the same superclasses in each program, but for the classes that complete them: each of these comes right after the one that it
-- completes.
use Rattle.std.proofs.Common.{◌≡◌, refl, sym, ◌∙◌, ap, subst, ℕ, zero, suc, ◌+◌, ◌<◌, ◌≤◌, ◌⊎◌, inl, inr, ◌||◌, ◌&&◌, ◌==◌, not, Bool, true, false, cond, List, [], ◌∷◌, ◌++◌, length, map, reverse, nat_eq, nat_lt, get_or, replicate, Option, Some, None, is_none, is_some, option_and_then, position, unwrap_or, arith, zero-add, length-append, ⊎_elim}
use Rattle.std.specs.Prelude.{bit_or, option_to_list}
use Rattle.std.specs.List.{flat_map, list_any, position_from}
use Rattle.std.specs.Option.{option_or}
use Rattle.std.specs.Str.{bytes_eq}
use Rattle.std.proofs.lemmas.Bool.{and_parts, eq-eqb, eqb-true, false≢true, ltb-true, not-false, or_cases, or_left, or_parts, or_right}
use Rattle.std.proofs.lemmas.Iterator.Adapters.{position_from-zero}
use Rattle.std.proofs.lemmas.Grind.{flat_map-append}
use Rattle.std.proofs.lemmas.List.{get_or-replicate, get_or_append_left, reverse-append}
use Rattle.std.proofs.lemmas.List.Folds.{list_any-append}
use Rattle.std.proofs.lemmas.List.FromFn.{get_or-map-range_with_len}
use Rattle.std.proofs.lemmas.List.Quantifiers.{position-Some}
use Rattle.std.proofs.lemmas.Nat.{and_or_apart, and_or_self}
use Rattle.std.proofs.lemmas.Option.{none-some}
use Rattle.fm_code.specs.AccessFlags.{is_abstract, is_interface}
use Rattle.fm_code.specs.declared.access_flags.TheConstants.{ACC_ABSTRACT, ACC_INTERFACE}
use Rattle.fm_code.specs.declared.class_file.ClassDef.{ClassDef}
use Rattle.fm_base.specs.declared.kinds.Kind.{Kind}
use Rattle.fm_world.specs.BuiltIns.{built_in, built_in_classes}
use Rattle.fm_world.specs.Causes.{goes_up, own_name}
use Rattle.fm_world.specs.Chains.{chain_of, class_at, completion_of, is_among, parent_of, self_of, upwards}
use Rattle.fm_world.specs.Declarations.{declared_flags, no_class}
use Rattle.fm_world.specs.Descriptors.{class_number}
use Rattle.fm_world.specs.Members.{kinds_of, own_kinds}
use Rattle.fm_world.specs.declared.declarations.DeclaredClass.{DeclaredClass}
use Rattle.fm_world.specs.inner.Completions.{AreCompleted, is_below_throwable}
use Rattle.fm_world.specs.inner.Tables.{numbers_below}

-- ---- names of built-in classes

found_head : (b : Bool) (i k : ℕ) (short long : Option ℕ) → (short ≡ Some k → long ≡ Some k) → cond b (Some i) short ≡ Some k → cond b (Some i) long ≡ Some k
found_head true i k short long rest e = e
found_head false i k short long rest e = rest e

pub found_first : {X : Type 0} (p : X → Bool) (i k : ℕ) (xs ys : List X) → position_from p i xs ≡ Some k → position_from p i (xs ++ ys) ≡ Some k
found_first p i k [] ys e = absurd (none-some k e)
found_first p i k (x ∷ xs) ys e =
    found_head (p x) i k (position_from p (i + 1) xs) (position_from p (i + 1) (xs ++ ys)) (found_first p (i + 1) k xs ys) e

pub number_first : (own more : List DeclaredClass) (name : List ℕ) (k : ℕ) → class_number own name ≡ Some k → class_number (own ++ more) name ≡ Some k
number_first own more name k e =
    position_from-zero (λ (c : DeclaredClass). bytes_eq c.name name) (own ++ more)
    ∙ found_first (λ (c : DeclaredClass). bytes_eq c.name name) 0 k own more
    (sym (position_from-zero (λ (c : DeclaredClass). bytes_eq c.name name) own) ∙ e)

pub number_same : (own more : List DeclaredClass) (name : List ℕ) → is_none (class_number own name) ≡ false → class_number (own ++ more) name ≡ class_number own name
number_same own more name found = by_number (class_number own name) refl found where
  by_number : (o : Option ℕ) → class_number own name ≡ o → is_none o ≡ false → class_number (own ++ more) name ≡ class_number own name
  by_number None e d = absurd (false≢true (sym d))
  by_number (Some k) e d = number_first own more name k e ∙ sym e

pub class_same : (own more : List DeclaredClass) (k : ℕ) → k < length own → class_at (own ++ more) k ≡ class_at own k
class_same own more k within = get_or_append_left own more no_class k within

-- a test that fails at each number
pub fails_at : (f : ℕ → Bool) (n : ℕ) → map f (numbers_below n) ≡ replicate n false → (k : ℕ) → k < n → f k ≡ false
fails_at f n none k within =
    sym (get_or-map-range_with_len f 0 n k k true within (zero-add k)) ∙ ap (λ row. get_or row k true) none ∙ get_or-replicate n k false true within

-- two tables that are the same, at each number
same_at : {X : Type 0} (f g : ℕ → X) (d : X) (n : ℕ) → map f (numbers_below n) ≡ map g (numbers_below n) → (k : ℕ) → k < n → f k ≡ g k
same_at f g d n same k within =
    sym (get_or-map-range_with_len f 0 n k k d within (zero-add k)) ∙ ap (λ row. get_or row k d) same ∙ get_or-map-range_with_len g 0 n k k d within (zero-add k)

-- ---- the table by itself

pub count_is : length built_in ≡ built_in_classes
unfolding built_in
count_is = refl

-- the superclass that a class names
abbrev named_parent : List DeclaredClass → DeclaredClass → Option ℕ
named_parent classes c = option_and_then (class_number classes) c.superclass

-- it is named and isn't there
abbrev lacks_superclass : List DeclaredClass → Option (List ℕ) → Bool
lacks_superclass own None = false
lacks_superclass own (Some name) = is_none (class_number own name)

named_table : map (λ k. named_parent built_in (class_at built_in k)) (numbers_below built_in_classes) ≡ map (parent_of built_in) (numbers_below built_in_classes)
unfolding built_in
named_table = refl

there_table : map (λ k. lacks_superclass built_in (class_at built_in k).superclass) (numbers_below built_in_classes) ≡ replicate built_in_classes false
unfolding built_in
there_table = refl

ends_table : map (λ k. goes_up 14 built_in (Some k)) (numbers_below built_in_classes) ≡ replicate built_in_classes false
unfolding built_in
ends_table = refl

chains_table : map (λ k. upwards 14 built_in (Some k)) (numbers_below built_in_classes) ≡ map (chain_of built_in) (numbers_below built_in_classes)
unfolding built_in chain_of
chains_table = refl

abbrev pub is_past_table : ℕ → Bool
is_past_table k = not (nat_lt k (length built_in))

inside_table : map (λ k. list_any is_past_table (chain_of built_in k)) (numbers_below built_in_classes) ≡ replicate built_in_classes false
unfolding built_in chain_of
inside_table = refl

numbers_table : map (λ k. class_number built_in (class_at built_in k).name) (numbers_below built_in_classes) ≡ map (λ k. Some k) (numbers_below built_in_classes)
unfolding built_in
numbers_table = refl

pub before_past : (k : ℕ) → is_past_table k ≡ false → k < length built_in
before_past k h = ltb-true k (length built_in) (not-false (nat_lt k (length built_in)) h)

-- above a class of the table alone are classes of the table
pub all_inside : (k : ℕ) → k < length built_in → list_any is_past_table (chain_of built_in k) ≡ false
all_inside k within = fails_at (λ i. list_any is_past_table (chain_of built_in i)) built_in_classes inside_table k (omega (arith, within, count_is))

-- a built-in class is found by its name
pub named_itself : (k : ℕ) → k < length built_in → class_number built_in (class_at built_in k).name ≡ Some k
named_itself k within =
    same_at (λ i. class_number built_in (class_at built_in i).name) (λ i. Some i) None built_in_classes numbers_table k (omega (arith, within, count_is))

-- a built-in class completes no other one
pub self_built_in : (more : List DeclaredClass) (k : ℕ) → k < length built_in → self_of (built_in ++ more) k ≡ k
self_built_in more k within =
    ap (λ (c : DeclaredClass). unwrap_or (class_number built_in c.name) k) (class_same built_in more k within)
    ∙ ap (λ found. unwrap_or found k) (named_itself k within)

-- ---- flags of what completes them

-- an interface is as its file says
pub interface-declared : (c : ClassDef) → is_interface (declared_flags c) ≡ is_interface c.flags
interface-declared c = by_name (is_some (class_number built_in (own_name c))) where
  by_name : (b : Bool) → is_interface (cond b (bit_or c.flags ACC_ABSTRACT) c.flags) ≡ is_interface c.flags
  by_name true = ap (λ n. not (n == 0)) (and_or_apart ACC_INTERFACE c.flags ACC_ABSTRACT refl)
  by_name false = refl

-- a class that has objects is so in its file, and completes none
pub concrete-declared : (c : ClassDef) → is_abstract (declared_flags c) ≡ false
    → (is_abstract c.flags ≡ false) × (is_none (class_number built_in (own_name c)) ≡ true)
concrete-declared c = by_number (class_number built_in (own_name c)) where
  by_number : (o : Option ℕ) → is_abstract (cond (is_some o) (bit_or c.flags ACC_ABSTRACT) c.flags) ≡ false → (is_abstract c.flags ≡ false) × (is_none o ≡ true)
  by_number None h = (h, refl)
  by_number (Some k) h = absurd (false≢true (sym h ∙ ap (λ n. not (n == 0)) (and_or_self ACC_ABSTRACT c.flags)))

-- ---- one step up

abbrev pub IsBelow : ℕ → Option ℕ → Type 0
IsBelow n None = Unit {0}
IsBelow n (Some k) = k < n

named_below : (own : List DeclaredClass) (c : DeclaredClass) → IsBelow (length own) (named_parent own c)
named_below own c = by_name c.superclass where
  by_number : (name : List ℕ) (o : Option ℕ) → class_number own name ≡ o → IsBelow (length own) o
  by_number name None e = tt
  by_number name (Some k) e = (position-Some (λ (d : DeclaredClass). bytes_eq d.name name) own k no_class e).0

  by_name : (name : Option (List ℕ)) → IsBelow (length own) (option_and_then (class_number own) name)
  by_name None = tt
  by_name (Some name) = by_number name (class_number own name) refl

module _ (more : List DeclaredClass) where
  abbrev classes : List DeclaredClass
  classes = built_in ++ more

  -- the class of the files that completes a built-in one
  abbrev pub completing : ℕ → Option ℕ
  completing k = completion_of classes (class_at classes k)

  named_same : (k : ℕ) → k < length built_in → named_parent classes (class_at built_in k) ≡ parent_of built_in k
  named_same k within =
      by_name (class_at built_in k).superclass
      (fails_at (λ i. lacks_superclass built_in (class_at built_in i).superclass) built_in_classes there_table k (omega (arith, within, count_is)))
      ∙ same_at (λ i. named_parent built_in (class_at built_in i)) (parent_of built_in) None built_in_classes named_table k (omega (arith, within, count_is)) where
        by_name : (o : Option (List ℕ)) → lacks_superclass built_in o ≡ false → option_and_then (class_number classes) o ≡ option_and_then (class_number built_in) o
        by_name None e = refl
        by_name (Some name) e = number_same built_in more name e

  pub table_below : (k : ℕ) → k < length built_in → IsBelow (length built_in) (parent_of built_in k)
  table_below k within =
      subst (IsBelow (length built_in))
      (same_at (λ i. named_parent built_in (class_at built_in i)) (parent_of built_in) None built_in_classes named_table k (omega (arith, within, count_is)))
      (named_below built_in (class_at built_in k))

  -- what completes a class is of a file
  pub from_file : (c : DeclaredClass) (f : ℕ) → completion_of classes c ≡ Some f → is_none (class_at classes f).file ≡ false
  from_file c f e = by_file (is_none c.file) e where
    some_not : (o : Option ℕ) → is_some o ≡ true → is_none o ≡ false
    some_not None h = absurd (false≢true h)
    some_not (Some n) h = refl

    found : position (λ (d : DeclaredClass). bytes_eq d.name c.name && is_some d.file) classes ≡ Some f → is_none (class_at classes f).file ≡ false
    found h =
        let d = class_at classes f in
        some_not d.file
        (and_parts (bytes_eq d.name c.name) (is_some d.file)
        (position-Some (λ (d : DeclaredClass). bytes_eq d.name c.name && is_some d.file) classes f no_class h).1).1

    by_file : (b : Bool) → cond b (position (λ (d : DeclaredClass). bytes_eq d.name c.name && is_some d.file) classes) None ≡ Some f
        → is_none (class_at classes f).file ≡ false
    by_file true h = found h
    by_file false h = absurd (none-some f h)

  -- where nothing completes it
  pub parent_plain : (k : ℕ) → k < length built_in → completing k ≡ None → parent_of classes k ≡ parent_of built_in k
  parent_plain k within none =
      ap (λ o. option_and_then (λ name. option_or o (class_number classes name)) (class_at classes k).superclass) none
      ∙ ap (λ (c : DeclaredClass). option_and_then (λ name. class_number classes name) c.superclass) (class_same built_in more k within)
      ∙ named_same k within

  module _ (completed : AreCompleted (built_in ++ more)) where
    -- a class of a file that completes it comes right above it
    pub parent_completed : (k f : ℕ) → k < length built_in → completing k ≡ Some f → parent_of classes k ≡ Some f
    parent_completed k f within is = by_superclass (class_at classes k).superclass (completed k f within is).has_superclass where
      by_superclass : (o : Option (List ℕ)) → is_some o ≡ true → option_and_then (λ name. option_or (completing k) (class_number classes name)) o ≡ Some f
      by_superclass None h = absurd (false≢true h)
      by_superclass (Some name) h = ap (λ o. option_or o (class_number classes name)) is

    -- and below the one that the table has there
    pub parent_above : (k f : ℕ) → k < length built_in → completing k ≡ Some f → parent_of classes f ≡ parent_of built_in k
    parent_above k f within is =
        ap (λ b. option_and_then (λ name. option_or (cond b (position (λ (d : DeclaredClass). bytes_eq d.name (class_at classes f).name && is_some d.file) classes) None)
        (class_number classes name)) (class_at classes f).superclass) (from_file (class_at classes k) f is)
        ∙ ap (option_and_then (λ name. class_number classes name))
        ((completed k f within is).superclass ∙ ap (λ (c : DeclaredClass). c.superclass) (class_same built_in more k within))
        ∙ named_same k within

    -- ---- chains

    -- each class with what completes it right after it
    abbrev pub with_completions : List ℕ → List ℕ
    with_completions chain = flat_map (λ k. k ∷ option_to_list (completing k)) chain

    upwards_is : (bound n : ℕ) (o : Option ℕ) → IsBelow (length built_in) o → bound + bound ≤ n → goes_up bound built_in o ≡ false
        → upwards n classes o ≡ with_completions (upwards bound built_in o)
    upwards_is zero zero None below few ends = refl
    upwards_is zero (suc n) None below few ends = refl
    upwards_is (suc bound) zero None below few ends = refl
    upwards_is (suc bound) (suc n) None below few ends = refl
    upwards_is zero n (Some k) below few ends = absurd (false≢true (sym ends))
    upwards_is (suc bound) zero (Some k) below few ends = absurd (omega (arith, few))
    upwards_is (suc bound) (suc zero) (Some k) below few ends = absurd (omega (arith, few))
    upwards_is (suc bound) (suc (suc n)) (Some k) below few ends =
        by_completion (λ m enough. upwards_is bound m (parent_of built_in k) (table_below k below) enough ends) (completing k) refl where
          next : Option ℕ
          next = parent_of built_in k

          -- the rest, with one step less or two
          by_completion : ((m : ℕ) → bound + bound ≤ m → upwards m classes next ≡ with_completions (upwards bound built_in next))
              → (o : Option ℕ) → completing k ≡ o
              → k ∷ upwards (suc n) classes (parent_of classes k) ≡ (k ∷ option_to_list (completing k)) ++ with_completions (upwards bound built_in next)
          by_completion rest None is =
              ap (λ p. k ∷ upwards (suc n) classes p) (parent_plain k below is) ∙ ap (λ xs. k ∷ xs) (rest (suc n) (omega (arith, few)))
              ∙ ap (λ o. (k ∷ option_to_list o) ++ with_completions (upwards bound built_in next)) (sym is)
          by_completion rest (Some f) is =
              ap (λ p. k ∷ upwards (suc n) classes p) (parent_completed k f below is) ∙ ap (λ p. k ∷ f ∷ upwards n classes p) (parent_above k f below is)
              ∙ ap (λ xs. k ∷ f ∷ xs) (rest n (omega (arith, few)))
              ∙ ap (λ o. (k ∷ option_to_list o) ++ with_completions (upwards bound built_in next)) (sym is)

    -- the chain of a built-in class: that of the table, with what completes each of its classes
    pub chain_completed : (k : ℕ) → k < length built_in → chain_of classes k ≡ with_completions (chain_of built_in k)
    unfolding chain_of
    chain_completed k within =
        let low : k < built_in_classes = omega (arith, within, count_is) in
        let few : 14 + 14 ≤ suc (length classes) = let l = length-append built_in more in omega (arith, l, count_is) in
        upwards_is 14 (suc (length classes)) (Some k) within few (fails_at (λ i. goes_up 14 built_in (Some i)) built_in_classes ends_table k low)
        ∙ ap with_completions (same_at (λ i. upwards 14 built_in (Some i)) (chain_of built_in) [] built_in_classes chains_table k low)

    up_ends : (bound n : ℕ) (o : Option ℕ) → IsBelow (length built_in) o → bound + bound ≤ n → goes_up bound built_in o ≡ false → goes_up n classes o ≡ false
    up_ends bound zero None below few ends = refl
    up_ends bound (suc n) None below few ends = refl
    up_ends zero n (Some k) below few ends = absurd (false≢true (sym ends))
    up_ends (suc bound) zero (Some k) below few ends = absurd (omega (arith, few))
    up_ends (suc bound) (suc zero) (Some k) below few ends = absurd (omega (arith, few))
    up_ends (suc bound) (suc (suc n)) (Some k) below few ends =
        by_completion (λ m enough. up_ends bound m (parent_of built_in k) (table_below k below) enough ends) (completing k) refl where
          by_completion : ((m : ℕ) → bound + bound ≤ m → goes_up m classes (parent_of built_in k) ≡ false) → (o : Option ℕ) → completing k ≡ o
              → goes_up (suc n) classes (parent_of classes k) ≡ false
          by_completion rest None is = ap (goes_up (suc n) classes) (parent_plain k below is) ∙ rest (suc n) (omega (arith, few))
          by_completion rest (Some f) is =
              ap (goes_up (suc n) classes) (parent_completed k f below is) ∙ ap (goes_up n classes) (parent_above k f below is) ∙ rest n (omega (arith, few))

    -- no chain of a built-in class leads into a cycle
    pub goes_up_ends : (k n : ℕ) → k < length built_in → built_in_classes ≤ n → goes_up n classes (Some k) ≡ false
    goes_up_ends k n within enough =
        up_ends 14 n (Some k) within (omega (arith, enough)) (fails_at (λ i. goes_up 14 built_in (Some i)) built_in_classes ends_table k (omega (arith, within, count_is)))

    -- what is among the table's superclasses is among the superclasses
    among_more : (x : ℕ) (xs : List ℕ) → is_among x xs ≡ true → is_among x (with_completions xs) ≡ true
    among_more x [] h = h
    among_more x (k ∷ xs) h = by_case (among_more x xs) (or_cases (nat_eq x k) (is_among x xs) h) where
      by_case : (is_among x xs ≡ true → is_among x (with_completions xs) ≡ true) → (nat_eq x k ≡ true) ⊎ (is_among x xs ≡ true)
          → is_among x ((k ∷ option_to_list (completing k)) ++ with_completions xs) ≡ true
      by_case rest (inl same) = or_left (nat_eq x k) (is_among x (option_to_list (completing k) ++ with_completions xs)) same
      by_case rest (inr later) =
          or_right (nat_eq x k) (is_among x (option_to_list (completing k) ++ with_completions xs))
          (list_any-append (nat_eq x) (option_to_list (completing k)) (with_completions xs)
          ∙ or_right (is_among x (option_to_list (completing k))) (is_among x (with_completions xs)) (rest later))

    pub among_completed : (k x : ℕ) → k < length built_in → is_among x (chain_of built_in k) ≡ true → is_among x (chain_of classes k) ≡ true
    among_completed k x within h = ap (is_among x) (chain_completed k within) ∙ among_more x (chain_of built_in k) h

    -- what is above a built-in class and isn't built in completes one that is
    pub record IsAdded (chain : List ℕ) (x : ℕ) : Type 0 where
      pub class : ℕ
      pub within : class < length built_in
      pub among : is_among class chain ≡ true
      pub is : completing class ≡ Some x

    above_cases : (x : ℕ) (xs : List ℕ) → list_any is_past_table xs ≡ false → is_among x (with_completions xs) ≡ true → (x < length built_in) ⊎ IsAdded xs x
    above_cases x [] inside h = absurd (false≢true h)
    above_cases x (k ∷ xs) inside h =
        let parts = or_parts (is_past_table k) (list_any is_past_table xs) inside in
        by_head (before_past k parts.0) (above_cases x xs parts.1) (or_cases (nat_eq x k) (is_among x (option_to_list (completing k) ++ with_completions xs)) h) where
          more_added : (x < length built_in) ⊎ IsAdded xs x → (x < length built_in) ⊎ IsAdded (k ∷ xs) x
          more_added (inl low) = inl low
          more_added (inr added) =
              inr (record { class = added.class; within = added.within; among = or_right (nat_eq added.class k) (is_among added.class xs) added.among; is = added.is })

          by_completion : k < length built_in → (o : Option ℕ) → completing k ≡ o → is_among x (option_to_list o) ≡ true → (x < length built_in) ⊎ IsAdded (k ∷ xs) x
          by_completion within None e there = absurd (false≢true there)
          by_completion within (Some f) e there =
              ⊎_elim
              (λ same. inr (record {
                class = k;
                within = within;
                among = or_left (nat_eq k k) (is_among k xs) (eq-eqb k k refl);
                is = e ∙ ap (λ n. Some n) (sym (eqb-true x f same));
              }))
              (λ none. absurd (false≢true none)) (or_cases (nat_eq x f) false there)

          by_head : k < length built_in → (is_among x (with_completions xs) ≡ true → (x < length built_in) ⊎ IsAdded xs x)
              → (nat_eq x k ≡ true) ⊎ (is_among x (option_to_list (completing k) ++ with_completions xs) ≡ true) → (x < length built_in) ⊎ IsAdded (k ∷ xs) x
          by_head within later (inl same) = inl (let is = eqb-true x k same in omega (arith, is, within))
          by_head within later (inr there) =
              ⊎_elim (λ here. by_completion within (completing k) refl here) (λ rest. more_added (later rest))
              (or_cases (is_among x (option_to_list (completing k))) (is_among x (with_completions xs))
              (sym (list_any-append (nat_eq x) (option_to_list (completing k)) (with_completions xs)) ∙ there))

    pub above_built_in : (k x : ℕ) → k < length built_in → is_among x (chain_of classes k) ≡ true → (x < length built_in) ⊎ IsAdded (chain_of built_in k) x
    above_built_in k x within h = above_cases x (chain_of built_in k) (all_inside k within) (sym (ap (is_among x) (chain_completed k within)) ∙ h)

    -- a test that what completes them fails: none of the chain passes it where none of the table's does
    none_more : (test : ℕ → Bool) → ((k f : ℕ) → k < length built_in → completing k ≡ Some f → test f ≡ false) → (xs : List ℕ)
        → list_any is_past_table xs ≡ false → list_any test xs ≡ false → list_any test (with_completions xs) ≡ false
    none_more test fails [] inside none = refl
    none_more test fails (k ∷ xs) inside none =
        let here = or_parts (test k) (list_any test xs) none in
        let places = or_parts (is_past_table k) (list_any is_past_table xs) inside in
        ap (λ b. b || list_any test (option_to_list (completing k) ++ with_completions xs)) here.0
        ∙ list_any-append test (option_to_list (completing k)) (with_completions xs)
        ∙ ap (λ b. b || list_any test (with_completions xs)) (by_completion (before_past k places.0) (completing k) refl)
        ∙ none_more test fails xs places.1 here.1 where
          by_completion : k < length built_in → (o : Option ℕ) → completing k ≡ o → list_any test (option_to_list o) ≡ false
          by_completion within None is = refl
          by_completion within (Some f) is = ap (λ b. b || false) (fails k f within is)

    pub none_completed : (test : ℕ → Bool) → ((k f : ℕ) → k < length built_in → completing k ≡ Some f → test f ≡ false) → (k : ℕ) → k < length built_in
        → list_any test (chain_of built_in k) ≡ false → list_any test (chain_of classes k) ≡ false
    none_completed test fails k within none =
        ap (list_any test) (chain_completed k within)
        ∙ none_more test fails (chain_of built_in k) (all_inside k within) none

    -- ---- fields

    abbrev own : ℕ → List Kind
    own above = own_kinds classes (class_at classes above)

    kinds_more : (xs : List ℕ) → list_any is_past_table xs ≡ false → list_any is_below_throwable xs ≡ false
        → flat_map own (reverse (with_completions xs)) ≡ flat_map own (reverse xs)
    kinds_more [] inside none = refl
    kinds_more (k ∷ xs) inside none =
        let here = or_parts (is_below_throwable k) (list_any is_below_throwable xs) none in
        let places = or_parts (is_past_table k) (list_any is_past_table xs) inside in
        ap (flat_map own) (reverse-append (k ∷ option_to_list (completing k)) (with_completions xs))
        ∙ flat_map-append own (reverse (with_completions xs)) (reverse (k ∷ option_to_list (completing k)))
        ∙ ap (λ ks. ks ++ flat_map own (reverse (k ∷ option_to_list (completing k)))) (kinds_more xs places.1 here.1)
        ∙ ap (λ ks. flat_map own (reverse xs) ++ ks) (by_completion (before_past k places.0) here.0 (completing k) refl)
        ∙ sym (flat_map-append own (reverse xs) (k ∷ [])) ∙ ap (flat_map own) (sym (reverse-append (k ∷ []) xs)) where
          by_completion : k < length built_in → is_below_throwable k ≡ false → (o : Option ℕ) → completing k ≡ o
              → flat_map own (reverse (k ∷ option_to_list o)) ≡ flat_map own (k ∷ [])
          by_completion within plain None is = refl
          by_completion within plain (Some f) is = ap (λ ks. ks ++ flat_map own (k ∷ [])) ((completed k f within is).no_fields plain)

    -- the objects of a built-in class have the fields of the table, but for throwables below Throwable
    pub kinds_completed : (k : ℕ) → k < length built_in → list_any is_below_throwable (chain_of built_in k) ≡ false
        → kinds_of classes k ≡ flat_map (λ above. own_kinds classes (class_at classes above)) (reverse (chain_of built_in k))
    unfolding kinds_of
    kinds_completed k within plain =
        ap (λ chain. flat_map own (reverse chain)) (chain_completed k within)
        ∙ kinds_more (chain_of built_in k) (all_inside k within) plain
