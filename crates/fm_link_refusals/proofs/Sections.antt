-- The methods of a class among those of all classes.
use Rattle.std.proofs.Common.{◌≡◌, refl, sym, ◌∙◌, ap, subst, ℕ, zero, suc, ◌+◌, ◌-◌, ◌<◌, ◌≤◌, List, [], ◌∷◌, ◌++◌, length, length-append, take, get_or, Option, Some, None, arith, slice_get, cond, Bool, true, false, nat_eq, ◌⊎◌, inl, inr, zero-add}
use Rattle.std.specs.List.{flat_map, range_with_len}
use Rattle.std.proofs.lemmas.Bool.{cases_lt, eqb-true, false≢true, or_cases}
use Rattle.std.proofs.lemmas.List.{get_or-append-add, get_or-map, get_or_append_left, get_or_past, length-map}
use Rattle.std.proofs.lemmas.List.FromFn.{get_or-map-range_with_len, length-map-range_with_len}
use Rattle.std.proofs.lemmas.List.Sums.{sum_by-cons, sum_by_more}
use Rattle.fm_link_members.proofs.SectionRows.{AreSections-methods, section_between}
use Rattle.std.proofs.lemmas.Option.{slice_get-get_or, slice_get_past}
use Rattle.fm_code.specs.AccessFlags.{is_abstract}
use Rattle.fm_link_members.specs.declared.members.Members.{Members}
use Rattle.fm_link_members.specs.inner.MemberRows.{method_alike, row_alike, section_of, AreMethodRows}
use Rattle.fm_world.specs.Causes.{abstract_from, abstract_methods}
use Rattle.fm_world.specs.Chains.{class_at, is_among}
use Rattle.fm_world.proofs.OwnedMethods.{no_owned}
use Rattle.fm_world.specs.Declarations.{no_class, no_method}
use Rattle.fm_world.specs.Lookups.{is_abstract_method}
use Rattle.fm_world.specs.Members.{OwnedMethod, first_method, method_at, methods_from, methods_of, owned_methods}
use Rattle.fm_world.specs.declared.declarations.DeclaredClass.{DeclaredClass}
use Rattle.fm_world.specs.declared.declarations.DeclaredMethod.{DeclaredMethod}

-- ---- the methods of one class

methods_at : (number : ℕ) (classes : List DeclaredClass) (class j : ℕ) → class < length classes → j < length (class_at classes class).methods
    → (get_or (methods_from number classes) (first_method classes class + j) no_owned).method ≡ get_or (class_at classes class).methods j no_method
methods_at number [] class j within inside = absurd (omega arith)
methods_at number (c ∷ classes) zero j within inside =
    let make = λ (m : DeclaredMethod). let o : OwnedMethod = record { class = number; method = m } in o in
    let long = length-map c.methods make in
    let front : get_or (methods_from number (c ∷ classes)) (0 + j) no_owned ≡ get_or (owned_methods number c) (0 + j) no_owned =
    get_or_append_left (owned_methods number c) (methods_from (number + 1) classes) no_owned (0 + j) (omega (arith, long, inside)) in
    ap (λ (o : OwnedMethod). o.method)
    (front ∙ ap (λ i. get_or (owned_methods number c) i no_owned) (omega arith) ∙ get_or-map make c.methods j no_method no_owned inside)
methods_at number (c ∷ classes) (suc class) j within inside =
    let make = λ (m : DeclaredMethod). let o : OwnedMethod = record { class = number; method = m } in o in
    let long = length-map c.methods make in
    let before = first_method classes class in
    let counted = sum_by-cons (λ (d : DeclaredClass). length d.methods) c (take class classes) in
    let place : first_method (c ∷ classes) (suc class) + j ≡ length (owned_methods number c) + (before + j) = omega (arith, long, counted) in
    ap (λ i. (get_or (methods_from number (c ∷ classes)) i no_owned).method) place
    ∙ ap (λ (o : OwnedMethod). o.method) (get_or-append-add (owned_methods number c) (methods_from (number + 1) classes) (before + j) no_owned)
    ∙ methods_at (number + 1) classes class j (omega arith) inside

pub method_here : (classes : List DeclaredClass) (class j : ℕ) → class < length classes → j < length (class_at classes class).methods
    → (method_at classes (first_method classes class + j)).method ≡ get_or (class_at classes class).methods j no_method
unfolding methods_of
method_here classes class j within inside = methods_at 0 classes class j within inside

within_at : (number : ℕ) (classes : List DeclaredClass) (class j : ℕ) → class < length classes → j < length (class_at classes class).methods
    → first_method classes class + j < length (methods_from number classes)
within_at number [] class j within inside = absurd (omega arith)
within_at number (c ∷ classes) zero j within inside =
    let make = λ (m : DeclaredMethod). let o : OwnedMethod = record { class = number; method = m } in o in
    let long = length-map c.methods make in
    let all = length-append (owned_methods number c) (methods_from (number + 1) classes) in
    omega (arith, long, all, inside)
within_at number (c ∷ classes) (suc class) j within inside =
    let make = λ (m : DeclaredMethod). let o : OwnedMethod = record { class = number; method = m } in o in
    let long = length-map c.methods make in
    let all = length-append (owned_methods number c) (methods_from (number + 1) classes) in
    let counted = sum_by-cons (λ (d : DeclaredClass). length d.methods) c (take class classes) in
    let others = within_at (number + 1) classes class j (omega arith) inside in
    omega (arith, long, all, counted, others)

pub method_within : (classes : List DeclaredClass) (class j : ℕ) → class < length classes → j < length (class_at classes class).methods
    → first_method classes class + j < length (methods_of classes)
unfolding methods_of
method_within classes class j within inside = within_at 0 classes class j within inside

-- ---- abstract methods by number

among_section : (start number : ℕ) (methods : List DeclaredMethod) → is_among number (abstract_from start methods) ≡ true
    → (start ≤ number) × (number < start + length methods)
among_section start number [] e = absurd (false≢true e)
among_section start number (m ∷ methods) e = by_part (is_abstract m.flags) e (among_section (start + 1) number methods) where
  by_rest : (start + 1 ≤ number) × (number < start + 1 + length methods) → (start ≤ number) × (number < start + suc (length methods))
  by_rest h = let low = h.0 in let high = h.1 in (omega (arith, low), omega (arith, high))

  by_part : (b : Bool) → is_among number (cond b (start ∷ []) [] ++ abstract_from (start + 1) methods) ≡ true
      → (is_among number (abstract_from (start + 1) methods) ≡ true → (start + 1 ≤ number) × (number < start + 1 + length methods))
      → (start ≤ number) × (number < start + suc (length methods))
  by_part false h rest = by_rest (rest h)
  by_part true h rest = by_number (or_cases (nat_eq number start) (is_among number (abstract_from (start + 1) methods)) h) where
    by_number : (nat_eq number start ≡ true) ⊎ (is_among number (abstract_from (start + 1) methods) ≡ true)
        → (start ≤ number) × (number < start + suc (length methods))
    by_number (inl same) = let is = eqb-true number start same in (omega (arith, is), omega (arith, is))
    by_number (inr there) = by_rest (rest there)

-- the number of an abstract method is that of a method
pub abstract_within : (classes : List DeclaredClass) (class method : ℕ) → is_among method (abstract_methods classes class) ≡ true
    → method < length (methods_of classes)
abstract_within classes class method e = by_place (cases_lt class (length classes)) where
  first : ℕ
  first = first_method classes class

  by_place : (class < length classes) ⊎ (length classes ≤ class) → method < length (methods_of classes)
  by_place (inl within) =
      let inside = among_section first method (class_at classes class).methods e in
      let low = inside.0 in
      let high = inside.1 in
      let below = method_within classes class (method - first) within (omega (arith, low, high)) in
      let is : first + (method - first) ≡ method = omega (arith, low) in
      subst (λ n. n < length (methods_of classes)) is below
  by_place (inr past) =
      absurd (false≢true (sym (ap (λ (d : DeclaredClass). is_among method (abstract_from first d.methods)) (get_or_past classes class no_class past)) ∙ e))

abstract_by : {Z : Type 0} (classes : List DeclaredClass) (g : ℕ → List Z) (start : ℕ) (methods : List DeclaredMethod)
    → ((j : ℕ) → j < length methods → (method_at classes (start + j)).method ≡ get_or methods j no_method)
    → flat_map g (abstract_from start methods) ≡ flat_map (λ k. cond (is_abstract_method classes k) (g k) []) (range_with_len start (length methods))
abstract_by classes g start [] at = refl
abstract_by classes g start (m ∷ methods) at =
    let test = λ (k : ℕ). cond (is_abstract_method classes k) (g k) [] in
    let here : is_abstract m.flags ≡ is_abstract_method classes start =
    ap (λ (d : DeclaredMethod). is_abstract d.flags) (sym (at 0 (omega arith))) ∙ ap (λ k. is_abstract_method classes k) (omega arith) in
    let others = abstract_by classes g (start + 1) methods
    (λ j inside. ap (λ k. (method_at classes k).method) (omega arith) ∙ at (suc j) (omega arith)) in
    by_test (is_abstract m.flags)
    ∙ ap (λ b. cond b (g start) [] ++ flat_map g (abstract_from (start + 1) methods)) here
    ∙ ap (λ rs. test start ++ rs) others where
      by_test : (b : Bool) → flat_map g (cond b (start ∷ []) [] ++ abstract_from (start + 1) methods) ≡ cond b (g start) []
          ++ flat_map g (abstract_from (start + 1) methods)
      by_test true = refl
      by_test false = refl

-- where the methods of a class are
pub record IsSection (classes : List DeclaredClass) (class start end : ℕ) : Type 0 where
  pub start_is : start ≡ first_method classes class
  pub count_is : end - start ≡ length (class_at classes class).methods
  pub at : (j : ℕ) → j < length (class_at classes class).methods → (method_at classes (start + j)).method
      ≡ get_or (class_at classes class).methods j no_method

pub abstract_section : {Z : Type 0} (classes : List DeclaredClass) (g : ℕ → List Z) (class start end : ℕ) → IsSection classes class start end
    → flat_map g (abstract_methods classes class) ≡ flat_map (λ k. cond (is_abstract_method classes k) (g k) []) (range_with_len start (end - start))
abstract_section classes g class start end is =
    let test = λ (k : ℕ). cond (is_abstract_method classes k) (g k) [] in
    ap (λ s. flat_map g (abstract_from s (class_at classes class).methods)) (sym is.start_is)
    ∙ abstract_by classes g start (class_at classes class).methods is.at
    ∙ ap (λ n. flat_map test (range_with_len start n)) (sym is.count_is)

-- ---- where the table of first numbers says that they are

pub section_none : (first : List ℕ) (class : ℕ) → slice_get first (class + 1) ≡ None → section_of first class ≡ (0, 0)
section_none first class end = go (slice_get first class) refl where
  go : (o : Option ℕ) → slice_get first class ≡ o → section_of first class ≡ (0, 0)
  go None start = rw start refl
  go (Some a) start = rw (start, end) refl

first_at : (texts : List (List ℕ)) (classes : List DeclaredClass) (m : Members) → AreMethodRows texts classes m → (k : ℕ) → k < length classes + 1
    → slice_get m.first.items k ≡ Some (first_method classes k)
first_at texts classes m are k within =
    let long = length-map-range_with_len (first_method classes) 0 (length classes + 1) in
    let same = ap length are.first in
    slice_get-get_or m.first.items k 0 (omega (arith, long, same, within))
    ∙ ap (λ (n : ℕ). Some n) (ap (λ ns. get_or ns k 0) are.first
    ∙ get_or-map-range_with_len (first_method classes) 0 (length classes + 1) k k 0 within (zero-add k))

one_class_more : (classes : List DeclaredClass) (class : ℕ) → class < length classes → first_method classes (class + 1)
    ≡ first_method classes class + length (class_at classes class).methods
one_class_more classes class within = sum_by_more (λ (d : DeclaredClass). length d.methods) classes class no_class within

-- what the abstract methods of a class give, by their numbers
pub section_all : {Z : Type 0} (texts : List (List ℕ)) (classes : List DeclaredClass) (m : Members) → AreMethodRows texts classes m
    → (g : ℕ → List Z) (class : ℕ) (s : ℕ × ℕ)
    → s ≡ section_of m.first.items class
    → flat_map g (abstract_methods classes class) ≡ flat_map (λ k. cond (is_abstract_method classes k) (g k) []) (range_with_len s.0 (s.1 - s.0))
section_all {Z} texts classes m are g class s is = by_place (cases_lt class (length classes)) where
  test : ℕ → List Z
  test k = cond (is_abstract_method classes k) (g k) []

  by_place : (class < length classes) ⊎ (length classes ≤ class) → flat_map g (abstract_methods classes class)
      ≡ flat_map test (range_with_len s.0 (s.1 - s.0))
  by_place (inl within) =
      let start = first_method classes class in
      let more = one_class_more classes class within in
      let here = is ∙ section_between m.first.items class start (first_method classes (class + 1))
      (first_at texts classes m are class (omega (arith, within)))
      (first_at texts classes m are (class + 1) (omega (arith, within))) in
      abstract_section classes g class start (first_method classes (class + 1))
      (record { start_is = refl; count_is = omega (arith, more); at = λ j inside. method_here classes class j within inside })
      ∙ ap (λ (p : ℕ × ℕ). flat_map test (range_with_len p.0 (p.1 - p.0))) (sym here)
  by_place (inr past) =
      let long = length-map-range_with_len (first_method classes) 0 (length classes + 1) in
      let same = ap length are.first in
      let here = is ∙ section_none m.first.items class (slice_get_past m.first.items (class + 1) (omega (arith, long, same, past))) in
      ap (λ (d : DeclaredClass). flat_map g (abstract_from (first_method classes class) d.methods)) (get_or_past classes class no_class past)
      ∙ ap (λ (p : ℕ × ℕ). flat_map test (range_with_len p.0 (p.1 - p.0))) (sym here)

-- all numbers of a class's methods are those of methods
pub section_within : (texts : List (List ℕ)) (classes : List DeclaredClass) (m : Members) → AreMethodRows texts classes m → (class : ℕ) (s : ℕ × ℕ)
    → s ≡ section_of m.first.items class → s.1 ≤ length (methods_of classes)
section_within texts classes m are class s is = by_place (cases_lt class (length classes)) where
  by_place : (class < length classes) ⊎ (length classes ≤ class) → s.1 ≤ length (methods_of classes)
  by_place (inl within) =
      let sections = AreSections-methods texts classes m are in
      let rows = sym (length-map m.rows.items (row_alike texts)) ∙ ap length are.rows.same ∙ length-map (methods_of classes) method_alike in
      let bound = sections.within class within in
      let P : ℕ × ℕ → Type 0 = λ p. p.1 ≤ length m.rows.items in
      let below = subst P (sym is) bound in
      omega (arith, rows, below)
  by_place (inr past) =
      let long = length-map-range_with_len (first_method classes) 0 (length classes + 1) in
      let same = ap length are.first in
      let here = is ∙ section_none m.first.items class (slice_get_past m.first.items (class + 1) (omega (arith, long, same, past))) in
      let P : ℕ × ℕ → Type 0 = λ p. p.1 ≤ length (methods_of classes) in
      subst P (sym here) (omega arith)
