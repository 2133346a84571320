-- The rounds find the superinterfaces of all classes whose chains of interfaces end.
use Rattle.std.proofs.Common.{◌≡◌, refl, sym, ◌∙◌, ap, subst, ℕ, zero, suc, ◌<◌, ◌≤◌, ◌⊎◌, inl, inr, ◌||◌, ◌&&◌, not, Bool, true, false, List, [], ◌∷◌, length, map, nat_eq, get_or, set, Option, Some, None, arith, length-set, get_or-set_same, get_or-set_other, replicate}
use Rattle.std.specs.List.{AllByRecursion, cons_option, filter_map, list_any}
use Rattle.std.specs.Global.{Vec}
use Rattle.std.proofs.lemmas.Bool.{cases_eq, cases_lt, false≢true}
use Rattle.std.proofs.lemmas.List.{get_or-replicate, get_or_past, length-map, length-replicate}
use Rattle.std.proofs.lemmas.List.FromFn.{fill_by_all}
use Rattle.fm_base.proofs.ListFacts.{map_same}
use Rattle.fm_world.proofs.Acyclic.{flat_map-same, superinterfaces_of-listed}
use Rattle.fm_world.proofs.Displays.{class_number-within}
use Rattle.fm_world.proofs.TableLemmas.{length-row}
use Rattle.fm_world.specs.Causes.{goes_deep}
use Rattle.fm_world.specs.Chains.{class_at, distinct, listed_interfaces, superinterfaces_of}
use Rattle.fm_world.specs.Declarations.{no_class}
use Rattle.fm_world.specs.Descriptors.{class_number}
use Rattle.fm_world.specs.declared.declarations.DeclaredClass.{DeclaredClass}
use Rattle.fm_world.specs.inner.Tables.{numbers_below}
use Rattle.fm_link_supers.proofs.ParentTables.{map_twice, row_within}
use Rattle.fm_link_supers.specs.inner.InterfaceRounds.{above_by, is_set, IsAboveTo, Lists, settled_one, settled_to}
use Rattle.fm_link_supers.specs.inner.ListTables.{lists}

-- ---- listed interfaces are classes that are there

abbrev pub AreWithin : ℕ → List ℕ → Type 0
AreWithin n numbers = AllByRecursion (λ i. i < n) numbers

found_one : (classes : List DeclaredClass) (name : List ℕ) (others : List ℕ) → AreWithin (length classes) others → (o : Option ℕ)
    → class_number classes name ≡ o → AreWithin (length classes) (cons_option o others)
found_one classes name others within None e = within
found_one classes name others within (Some p) e = (class_number-within classes name p e, within)

found_within : (classes : List DeclaredClass) (names : List (List ℕ)) → AreWithin (length classes) (filter_map (class_number classes) names)
found_within classes [] = tt
found_within classes (name ∷ names) =
    found_one classes name (filter_map (class_number classes) names) (found_within classes names) (class_number classes name) refl

pub listed_within : (classes : List DeclaredClass) (class : ℕ) → AreWithin (length classes) (listed_interfaces classes class)
listed_within classes class = found_within classes (class_at classes class).interfaces

pub listed_past : (classes : List DeclaredClass) (class : ℕ) → length classes ≤ class → listed_interfaces classes class ≡ []
listed_past classes class h = ap (λ (c : DeclaredClass). filter_map (class_number classes) c.interfaces) (get_or_past classes class no_class h)

pub superinterfaces_past : (classes : List DeclaredClass) (class : ℕ) → length classes ≤ class → superinterfaces_of classes class ≡ []
unfolding superinterfaces_of
superinterfaces_past classes class h = rw (listed_past classes class h) refl

-- ---- tests of lists

pub any_within : (n : ℕ) (p q : ℕ → Bool) → ((i : ℕ) → i < n → p i ≡ q i) → (xs : List ℕ) → AreWithin n xs → list_any p xs ≡ list_any q xs
any_within n p q same [] within = refl
any_within n p q same (x ∷ xs) within = ap (λ b. b || list_any p xs) (same x within.0) ∙ ap (λ b. q x || b) (any_within n p q same xs within.1)

ends_head : (p q : ℕ → Bool) (x : ℕ) (xs : List ℕ) → (p x ≡ false → q x ≡ false) → (list_any p xs ≡ false → list_any q xs ≡ false) → (b : Bool) → p x ≡ b
    → (b || list_any p xs) ≡ false → list_any q (x ∷ xs) ≡ false
ends_head p q x xs here rest true e d = absurd (false≢true (sym d))
ends_head p q x xs here rest false e d = ap (λ b. b || list_any q xs) (here e) ∙ rest d

pub any_ends : (p q : ℕ → Bool) → ((i : ℕ) → p i ≡ false → q i ≡ false) → (xs : List ℕ) → list_any p xs ≡ false → list_any q xs ≡ false
any_ends p q ends [] h = refl
any_ends p q ends (x ∷ xs) h = ends_head p q x xs (ends x) (any_ends p q ends xs) (p x) refl h

-- ---- rounds

-- a class whose chains have fewer members than some bound has them at each higher bound
pub goes_deep_ends : (classes : List DeclaredClass) (round class : ℕ) → goes_deep round classes class ≡ false → goes_deep (suc round) classes class ≡ false
goes_deep_ends classes zero class h = absurd (false≢true (sym h))
goes_deep_ends classes (suc round) class h =
    any_ends (goes_deep round classes) (goes_deep (suc round) classes) (λ i e. goes_deep_ends classes round i e) (listed_interfaces classes class) h

pub goes_deep_later : (classes : List DeclaredClass) (later round class : ℕ) → round ≤ later → goes_deep round classes class ≡ false
    → goes_deep later classes class ≡ false
goes_deep_later classes zero round class h e = let none : round ≡ zero = omega (arith, h) in sym (ap (λ r. goes_deep r classes class) none) ∙ e
goes_deep_later classes (suc later) round class h e = by_place (λ less. goes_deep_later classes later round class less e) (cases_lt later round) where
  by_place : (round ≤ later → goes_deep later classes class ≡ false) → (later < round) ⊎ (round ≤ later) → goes_deep (suc later) classes class ≡ false
  by_place before (inl more) = let same : round ≡ suc later = omega (arith, h, more) in sym (ap (λ r. goes_deep r classes class) same) ∙ e
  by_place before (inr less) = goes_deep_ends classes later class (before less)

-- the marks of one round more
pub deeper_are : (classes : List DeclaredClass) (round : ℕ) (listed : List (List ℕ)) (marks : List Bool)
    → listed ≡ map (listed_interfaces classes) (numbers_below (length classes))
    → marks ≡ map (goes_deep round classes) (numbers_below (length classes))
    → map (list_any (is_set marks)) listed ≡ map (goes_deep (suc round) classes) (numbers_below (length classes))
deeper_are classes round listed marks lists are =
    ap (map (list_any (is_set marks))) lists
    ∙ map_twice (list_any (is_set marks)) (listed_interfaces classes) (numbers_below (length classes))
    ∙ map_same (λ class. list_any (is_set marks) (listed_interfaces classes class)) (goes_deep (suc round) classes)
    (λ class. any_within (length classes) (is_set marks) (goes_deep round classes)
    (row_within (goes_deep round classes) (length classes) false marks are) (listed_interfaces classes class) (listed_within classes class))
    (numbers_below (length classes))

-- at the beginning all go on
pub all_go_on : (classes : List DeclaredClass) (n : ℕ) → n ≡ length classes → replicate n true ≡ map (goes_deep 0 classes) (numbers_below (length classes))
all_go_on classes n e = ap (λ m. replicate m true) e
    ∙ fill_by_all (goes_deep 0 classes) (replicate (length classes) true) (length classes) true (length-replicate (length classes) true)
    (λ k h. get_or-replicate (length classes) k true true h)

pub none_above : (classes : List DeclaredClass) (n : ℕ) → n ≡ length classes → IsAboveTo classes 0 (replicate n [])
none_above classes n e = record {
  one_each = length-replicate n [] ∙ e;
  found = λ class within h. absurd (false≢true (sym h));
}

-- ---- a round that changes nothing is the last

pub stays : (classes : List DeclaredClass) (round later : ℕ) → round ≤ later
    → ((class : ℕ) → class < length classes → goes_deep (suc round) classes class ≡ goes_deep round classes class)
    → (class : ℕ) → class < length classes → goes_deep later classes class ≡ goes_deep round classes class
stays classes round zero h same class within = let none : round ≡ zero = omega (arith, h) in sym (ap (λ r. goes_deep r classes class) none)
stays classes round (suc later) h same class within = by_place (λ less. stays classes round later less same) (cases_lt later round) where
  by_place : (round ≤ later → (i : ℕ) → i < length classes → goes_deep later classes i ≡ goes_deep round classes i) → (later < round) ⊎ (round ≤ later)
      → goes_deep (suc later) classes class ≡ goes_deep round classes class
  by_place before (inl more) = let is : round ≡ suc later = omega (arith, h, more) in sym (ap (λ r. goes_deep r classes class) is)
  by_place before (inr less) =
      any_within (length classes) (goes_deep later classes) (goes_deep round classes) (before less)
      (listed_interfaces classes class) (listed_within classes class)
      ∙ same class within

-- the marks of a later round
later_same : (classes : List DeclaredClass) (round later : ℕ) → round ≤ later
    → map (goes_deep (suc round) classes) (numbers_below (length classes)) ≡ map (goes_deep round classes) (numbers_below (length classes))
    → (class : ℕ) → class < length classes → goes_deep later classes class ≡ goes_deep round classes class
later_same classes round later h same =
    stays classes round later h (λ class within.
    sym (row_within (goes_deep (suc round) classes) (length classes) false (map (goes_deep round classes) (numbers_below (length classes))) (sym same) class within)
    ∙ row_within (goes_deep round classes) (length classes) false (map (goes_deep round classes) (numbers_below (length classes))) refl class within)

pub marks_stay : (classes : List DeclaredClass) (round later : ℕ) (before after : List Bool) → round ≤ later
    → before ≡ map (goes_deep round classes) (numbers_below (length classes))
    → after ≡ map (goes_deep (suc round) classes) (numbers_below (length classes)) → after ≡ before
    → after ≡ map (goes_deep later classes) (numbers_below (length classes))
marks_stay classes round later before after h old new same =
    let n = length classes in
    let equal = sym new ∙ same ∙ old in
    fill_by_all (goes_deep later classes) after n false (length-row (goes_deep (suc round) classes) n after new)
    (λ k within. row_within (goes_deep round classes) n false after (same ∙ old) k within ∙ sym (later_same classes round later h equal k within))

pub above_stays : (classes : List DeclaredClass) (round later : ℕ) (before after : List Bool) (above : List (List ℕ)) → round ≤ later
    → before ≡ map (goes_deep round classes) (numbers_below (length classes))
    → after ≡ map (goes_deep (suc round) classes) (numbers_below (length classes)) → after ≡ before → IsAboveTo classes (suc round) above
    → IsAboveTo classes later above
above_stays classes round later before after above h old new same is =
    let equal = sym new ∙ same ∙ old in
    record {
      one_each = is.one_each;
      found = λ class within e. is.found class within
          (later_same classes round (suc round) (omega arith) equal class within ∙ sym (later_same classes round later h equal class within) ∙ e);
    }

-- ---- what a round finds

-- the table has the superinterfaces of each number at which chains end
found_at : (classes : List DeclaredClass) (round : ℕ) (above : List (List ℕ)) → IsAboveTo classes round above → (class : ℕ)
    → goes_deep round classes class ≡ false → get_or above class [] ≡ superinterfaces_of classes class
found_at classes round above is class e = by_place (cases_lt class (length classes)) where
  by_place : (class < length classes) ⊎ (length classes ≤ class) → get_or above class [] ≡ superinterfaces_of classes class
  by_place (inl within) = is.found class within e
  by_place (inr past) =
      get_or_past above class [] (let l = is.one_each in omega (arith, past, l)) ∙ sym (superinterfaces_past classes class past)

-- those of a class that is settled, by those of the interfaces that it lists
found_now : (classes : List DeclaredClass) (round : ℕ) (above : List (List ℕ)) → round ≤ length classes → IsAboveTo classes round above → (class : ℕ)
    → goes_deep (suc round) classes class ≡ false → above_by (listed_interfaces classes class) above ≡ superinterfaces_of classes class
found_now classes round above few is class e =
    ap (distinct nat_eq)
    (flat_map-same (goes_deep round classes) (λ i. i ∷ get_or above i []) (λ i. i ∷ superinterfaces_of classes i)
    (λ i h. ap (λ xs. i ∷ xs) (found_at classes round above is i h)) (listed_interfaces classes class) e)
    ∙ sym (superinterfaces_of-listed classes class
    (any_ends (goes_deep round classes) (goes_deep (length classes) classes) (λ i h. goes_deep_later classes (length classes) round i few h)
    (listed_interfaces classes class) e))

-- after a given number of classes of a round: what was found is kept, and what these classes have is found
pub record IsFoundBelow (classes : List DeclaredClass) (round count : ℕ) (above : List (List ℕ)) : Type 0 where
  pub so_far : IsAboveTo classes round above
  pub now : (class : ℕ) → class < count → class < length classes → goes_deep (suc round) classes class ≡ false
      → get_or above class [] ≡ superinterfaces_of classes class

-- a class that isn't settled in this round
passed_over : (classes : List DeclaredClass) (round count : ℕ) (above : List (List ℕ)) → IsFoundBelow classes round count above
    → (goes_deep round classes count && not (goes_deep (suc round) classes count)) ≡ false → IsFoundBelow classes round (suc count) above
passed_over classes round count above is flag = record {
  so_far = is.so_far;
  now = λ class below within e. by_place class below within e (cases_lt class count);
} where
  settled_before : (a : Bool) → goes_deep round classes count ≡ a → goes_deep (suc round) classes count ≡ false → goes_deep round classes count ≡ false
  settled_before false d e = d
  settled_before true d e = absurd (false≢true (sym (sym (ap (λ b. goes_deep round classes count && not b) e ∙ ap (λ b. b && true) d) ∙ flag)))

  by_place : (class : ℕ) → class < suc count → class < length classes → goes_deep (suc round) classes class ≡ false → (class < count) ⊎ (count ≤ class)
      → get_or above class [] ≡ superinterfaces_of classes class
  by_place class below within e (inl earlier) = is.now class earlier within e
  by_place class below within e (inr later) =
      let same : class ≡ count = omega (arith, below, later) in
      is.so_far.found class within
      (let P : ℕ → Type 0 = λ k. goes_deep (suc round) classes k ≡ false → goes_deep round classes k ≡ false in
      subst P (sym same) (settled_before (goes_deep round classes count) refl) e)

-- a class that is settled
settled : (classes : List DeclaredClass) (round count : ℕ) (above : List (List ℕ)) → round ≤ length classes → count < length classes
    → IsFoundBelow classes round count above → goes_deep (suc round) classes count ≡ false
    → IsFoundBelow classes round (suc count) (set above count (above_by (listed_interfaces classes count) above))
settled classes round count above few inside is ends = record {
  so_far = record { one_each = length-set above count value ∙ is.so_far.one_each; found = λ class within e. kept class within (is.so_far.found class within e) };
  now = λ class below within e. by_place class below within e (cases_lt class count);
} where
  value : List ℕ
  value = above_by (listed_interfaces classes count) above

  here : get_or (set above count value) count [] ≡ superinterfaces_of classes count
  here =
      get_or-set_same above count value [] (let l = is.so_far.one_each in omega (arith, inside, l))
      ∙ found_now classes round above few is.so_far count ends

  kept : (class : ℕ) → class < length classes → get_or above class [] ≡ superinterfaces_of classes class
      → get_or (set above count value) class [] ≡ superinterfaces_of classes class
  kept class within e = by_case (cases_eq class count) where
    by_case : (class ≡ count) ⊎ (class ≡ count → ⊥) → get_or (set above count value) class [] ≡ superinterfaces_of classes class
    by_case (inl same) = ap (λ k. get_or (set above count value) k []) same ∙ here ∙ ap (superinterfaces_of classes) (sym same)
    by_case (inr other) = get_or-set_other above count class value [] other ∙ e

  by_place : (class : ℕ) → class < suc count → class < length classes → goes_deep (suc round) classes class ≡ false → (class < count) ⊎ (count ≤ class)
      → get_or (set above count value) class [] ≡ superinterfaces_of classes class
  by_place class below within e (inl earlier) = kept class within (is.now class earlier within e)
  by_place class below within e (inr later) =
      let same : class ≡ count = omega (arith, below, later) in
      ap (λ k. get_or (set above count value) k []) same ∙ here ∙ ap (superinterfaces_of classes) (sym same)

-- one class of a round
one_class : (classes : List DeclaredClass) (round count : ℕ) (above : List (List ℕ)) (flag : Bool) → round ≤ length classes → count < length classes
    → IsFoundBelow classes round count above → (goes_deep round classes count && not (goes_deep (suc round) classes count)) ≡ flag
    → IsFoundBelow classes round (suc count) (settled_one (listed_interfaces classes count) flag above count)
one_class classes round count above false few inside is e = passed_over classes round count above is e
one_class classes round count above true few inside is e =
    settled classes round count above few inside is (ends (goes_deep round classes count) (goes_deep (suc round) classes count) refl e) where
      ends : (a b : Bool) → goes_deep (suc round) classes count ≡ b → (a && not b) ≡ true → goes_deep (suc round) classes count ≡ false
      ends a false d f = d
      ends true true d f = absurd (false≢true f)
      ends false true d f = absurd (false≢true f)

found_below : (classes : List DeclaredClass) (round : ℕ) (listed : List (List ℕ)) (before after : List Bool) (above : List (List ℕ))
    → listed ≡ map (listed_interfaces classes) (numbers_below (length classes))
    → before ≡ map (goes_deep round classes) (numbers_below (length classes))
    → after ≡ map (goes_deep (suc round) classes) (numbers_below (length classes)) → round ≤ length classes → IsAboveTo classes round above
    → (count : ℕ) → count ≤ length classes → IsFoundBelow classes round count (settled_to listed before after above count)
found_below classes round listed before after above lists old new few is zero inside = record {
  so_far = is;
  now = λ class below within e. absurd (omega (arith, below));
}
found_below classes round listed before after above lists old new few is (suc count) inside =
    let n = length classes in
    let here : count < n = omega (arith, inside) in
    let at = found_below classes round listed before after above lists old new few is count (omega (arith, inside)) in
    let row = row_within (listed_interfaces classes) n [] listed lists count here in
    let mark = row_within (goes_deep round classes) n false before old count here in
    let next = row_within (goes_deep (suc round) classes) n false after new count here in
    let flag = is_set before count && not (is_set after count) in
    let P : List ℕ → Type 0 = λ interfaces. IsFoundBelow classes round (suc count) (settled_one interfaces flag (settled_to listed before after above count) count) in
    subst P (sym row)
    (one_class classes round count (settled_to listed before after above count) flag few here at
    (sym (ap (λ b. b && not (is_set after count)) mark ∙ ap (λ b. goes_deep round classes count && not b) next)))

pub round_finds : (classes : List DeclaredClass) (round : ℕ) (listed : List (List ℕ)) (before after : List Bool) (above : List (List ℕ)) (count : ℕ)
    → listed ≡ map (listed_interfaces classes) (numbers_below (length classes))
    → before ≡ map (goes_deep round classes) (numbers_below (length classes))
    → after ≡ map (goes_deep (suc round) classes) (numbers_below (length classes)) → round ≤ length classes → IsAboveTo classes round above
    → count ≡ length classes → IsAboveTo classes (suc round) (settled_to listed before after above count)
round_finds classes round listed before after above count lists old new few is all =
    let at = found_below classes round listed before after above lists old new few is count (omega (arith, all)) in
    record { one_each = at.so_far.one_each; found = λ class within e. at.now class (omega (arith, within, all)) within e }

-- what the code has after a round
pub record IsDeeper (classes : List DeclaredClass) (round : ℕ) (marks : List Bool) (above : List (List ℕ)) : Type 0 where
  pub marks_are : marks ≡ map (goes_deep round classes) (numbers_below (length classes))
  pub above_is : IsAboveTo classes round above

pub round_done : (classes : List DeclaredClass) (round count : ℕ) (listed : List (List ℕ)) (before after : List Bool) (above new : List (List ℕ))
    → listed ≡ map (listed_interfaces classes) (numbers_below (length classes)) → count ≡ length classes → round ≤ length classes
    → IsDeeper classes round before above → after ≡ map (list_any (is_set before)) listed → new ≡ settled_to listed before after above count
    → IsDeeper classes (suc round) after new
round_done classes round count listed before after above new lists all few is deeper settled =
    let marks = deeper ∙ deeper_are classes round listed before lists is.marks_are in
    record {
      marks_are = marks;
      above_is = subst (IsAboveTo classes (suc round)) (sym settled) (round_finds classes round listed before after above count lists is.marks_are marks few is.above_is all);
    }

pub deeper_stays : (classes : List DeclaredClass) (round later : ℕ) (before after : List Bool) (above new : List (List ℕ)) → round ≤ later
    → IsDeeper classes round before above → IsDeeper classes (suc round) after new → after ≡ before → IsDeeper classes later after new
deeper_stays classes round later before after above new h is next same = record {
  marks_are = marks_stay classes round later before after h is.marks_are next.marks_are same;
  above_is = above_stays classes round later before after new h is.marks_are next.marks_are same next.above_is;
}

pub listed_count : (classes : List DeclaredClass) (listed : List (Vec ℕ)) → Lists classes listed → length listed ≡ length classes
listed_count classes listed same =
    sym (length-map listed (λ (v : Vec ℕ). v.items)) ∙ length-row (listed_interfaces classes) (length classes) (lists listed) same
