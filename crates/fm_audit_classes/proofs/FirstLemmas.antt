-- The first method whose new code isn't the old one by what is to be done with it, class by class.
use Rattle.std.proofs.Common.{◌≡◌, refl, sym, ◌∙◌, ap, subst, ℕ, zero, suc, ◌+◌, ◌-◌, ◌<◌, ◌≤◌, ◌++◌, ⊎_elim, Bool, true, false, cond, List, [], ◌∷◌, length, drop, get_or, Some, arith}
use Rattle.std.specs.Prelude.{slice_get}
use Rattle.std.proofs.lemmas.Bool.{cases_lt}
use Rattle.std.proofs.lemmas.Option.{same_Some}
use Rattle.fm_base.proofs.ListFacts.{drop_here, slice_get-append_right}
use Rattle.fm_chain.specs.Chaining.{calls_for}
use Rattle.fm_code.specs.Members.{code_of}
use Rattle.fm_code.specs.declared.class_file.ClassDef.{ClassDef}
use Rattle.fm_code.specs.declared.class_file.Member.{Member}
use Rattle.fm_place.specs.Rewriting.{free_index}
use Rattle.fm_place_weave.specs.ClassByPlan.{class_by, methods_by}
use Rattle.fm_place_weave.specs.declared.planned.Planned.{Planned}
use Rattle.fm_rewrite.specs.Plans.{planned_at}
use Rattle.fm_rewrite.specs.inner.ByPlans.{changes_by, others, own, rewritten_by}
use Rattle.fm_audit_classes.proofs.MemberLemmas.{AreAsPlanned, same_each, woven_each}
use Rattle.fm_audit_classes.proofs.StillLemmas.{dropped_at, taken_at}
use Rattle.fm_audit_classes.proofs.WholeIfLemmas.{counted, methods_counted}
use Rattle.fm_audit_classes.specs.Parts.{all_methods, class_methods, HasClass, WrittenMethod}
use Rattle.fm_audit_classes.specs.inner.Compared.{MayBeCompared}
use Rattle.fm_audit_classes.specs.inner.Low.{are_low}
use Rattle.fm_audit_classes.specs.inner.Methods.{IsAsPlanned, IsAsPlannedAt, IsFirstIn, IsFirstPlanned, IsPlannedWell}

-- ---- lists

pub get_left : {X : Type 0} (xs ys : List X) (i : ℕ) → i < length xs → slice_get (xs ++ ys) i ≡ slice_get xs i
get_left [] ys i inside = absurd (omega (arith, inside))
get_left (x ∷ xs) ys zero inside = refl
get_left (x ∷ xs) ys (suc i) inside = get_left xs ys i (omega (arith, inside))

-- ---- the methods of a class

-- those at a place, old and new
pub record AreAt (class free : ℕ) (old new : List Member) (i : ℕ) : Type 0 where
  pub m : Member
  pub v : Member
  pub old_is : slice_get old i ≡ Some m
  pub new_is : slice_get new i ≡ Some v
  pub both_are : slice_get (class_methods class free old new) i ≡ Some (record { class = class; free = free; old = code_of m; new = code_of v })

pub are_at : (class free : ℕ) (old new : List Member) (i : ℕ) → i < length old → length new ≡ length old → AreAt class free old new i
are_at class free [] new i inside count = absurd (omega (arith, inside))
are_at class free (m ∷ old) [] i inside count = absurd (let none : 0 ≡ suc (length old) = count in omega (arith, none))
are_at class free (m ∷ old) (v ∷ new) zero inside count = record { m = m; v = v; old_is = refl; new_is = refl; both_are = refl }
are_at class free (m ∷ old) (v ∷ new) (suc i) inside count =
    let at = are_at class free old new i (omega (arith, inside)) (let n : suc (length new) ≡ suc (length old) = count in omega (arith, n)) in
    record { m = at.m; v = at.v; old_is = at.old_is; new_is = at.new_is; both_are = at.both_are }

pub class_count : (class free : ℕ) (old new : List Member) → length new ≡ length old → length (class_methods class free old new) ≡ length old
class_count class free [] [] count = refl
class_count class free [] (v ∷ new) count = refl
class_count class free (m ∷ old) [] count = absurd (let none : 0 ≡ suc (length old) = count in omega (arith, none))
class_count class free (m ∷ old) (v ∷ new) count =
    ap suc (class_count class free old new (let n : suc (length new) ≡ suc (length old) = count in omega (arith, n)))

-- ---- one class and those after it

module _ (class first : ℕ) (rest : List Planned) (c w : ClassDef) (cs ws : List ClassDef) (count : length w.methods ≡ length c.methods) where
  abbrev here : List WrittenMethod
  here = class_methods class (free_index c) c.methods w.methods

  abbrev after : List WrittenMethod
  after = all_methods (class + 1) cs ws

  here_count : length here ≡ length c.methods
  here_count = class_count class (free_index c) c.methods w.methods count

  -- a method at a place of the class has the code that it has to have
  well_at : (k : ℕ) → k < length c.methods → IsAsPlannedAt (calls_for false c.pool.entries) (own c rest) c.methods w.methods k → (m : WrittenMethod)
      → slice_get (here ++ after) k ≡ Some m → IsPlannedWell (planned_at rest k) m
  well_at k inside are m is =
      let at = are_at class (free_index c) c.methods w.methods k inside count in
      let same = same_Some (record { class = class; free = free_index c; old = code_of at.m; new = code_of at.v }) m
      (sym at.both_are ∙ sym (get_left here after k (omega (arith, inside, here_count))) ∙ is) in
      subst (IsPlannedWell (planned_at rest k)) same
      (subst (λ (d : Planned). IsAsPlanned (calls_for false c.pool.entries) d (code_of at.m) (code_of at.v)) (taken_at (length c.methods) rest k inside)
      (are at.m at.v at.old_is at.new_is))

  -- the first one is in this class
  first_here : (place : ℕ) → IsFirstIn (calls_for false c.pool.entries) (own c rest) c.methods w.methods place
      → IsFirstPlanned class first rest (c ∷ cs) (w ∷ ws) class (first + place)
  first_here place found =
      let at = are_at class (free_index c) c.methods w.methods place found.inside count in
      record {
        place = place;
        own = record { class = class; free = free_index c; old = code_of at.m; new = code_of at.v };
        is = get_left here after place (let inside = found.inside in omega (arith, inside, here_count)) ∙ at.both_are;
        class_is = refl;
        method_is = refl;
        earlier = λ k m before is. well_at k (let inside = found.inside in omega (arith, inside, before)) (found.earlier k before) m is;
        fails = λ well.
            found.fails at.m at.v at.old_is at.new_is
            (subst (λ (d : Planned). IsAsPlanned (calls_for false c.pool.entries) d (code_of at.m) (code_of at.v))
            (sym (taken_at (length c.methods) rest place found.inside)) well);
      }

  -- it is in a later one
  first_later : AreAsPlanned (calls_for false c.pool.entries) (own c rest) c.methods w.methods → (number method : ℕ)
      → IsFirstPlanned (class + 1) (first + length c.methods) (others c rest) cs ws number method → IsFirstPlanned class first rest (c ∷ cs) (w ∷ ws) number method
  first_later are number method found =
      let n = length c.methods in
      let past : (i : ℕ) → slice_get (here ++ after) (n + i) ≡ slice_get after i = λ i.
      ap (λ k. slice_get (here ++ after) (k + i)) (sym here_count) ∙ slice_get-append_right here after i in
      record {
        place = n + found.place;
        own = found.own;
        is = past found.place ∙ found.is;
        class_is = found.class_is;
        method_is = let is = found.method_is in omega (arith, is);
        earlier = λ k m before is. ⊎_elim
            (λ (inside : k < n). well_at k inside (are k inside) m is)
            (λ (later : n ≤ k).
            let place : n + (k - n) ≡ k = omega (arith, later) in
            subst (λ (d : Planned). IsPlannedWell d m) (dropped_at n rest (k - n) ∙ ap (planned_at rest) place)
            (found.earlier (k - n) m (omega (arith, before, later)) (sym (past (k - n)) ∙ ap (slice_get (here ++ after)) place ∙ is)))
            (cases_lt k n);
        fails = λ well. found.fails (subst (λ (d : Planned). IsPlannedWell d found.own) (sym (dropped_at n rest found.place)) well);
      }

-- ---- a class that is the given one by what is to be done with its methods

module _ (done : List Planned) (c w : ClassDef) (may : MayBeCompared done c) (low : are_low done c.methods ≡ true) (is : w ≡ rewritten_by done c) where
  abbrev AreWell : ClassDef → Type 0
  AreWell d = AreAsPlanned (calls_for false c.pool.entries) done c.methods d.methods × (length d.methods ≡ length c.methods)

  written_well : AreWell w
  written_well = subst AreWell (sym is) (by_test (changes_by done) refl) where
    changed_well : AreWell (class_by done c)
    changed_well =
        subst (λ (b : Bool). AreAsPlanned (calls_for false c.pool.entries) done c.methods (methods_by (calls_for b c.pool.entries) done c.methods)
        × (length (methods_by (calls_for b c.pool.entries) done c.methods) ≡ length c.methods)) (sym may.plain) (
          woven_each (calls_for false c.pool.entries) done c.methods may.short low may.one_each,
          methods_counted (calls_for false c.pool.entries) done c.methods may.one_each,
        )

    by_test : (b : Bool) → changes_by done ≡ b → AreWell (cond (changes_by done) (class_by done c) c)
    by_test true changed = subst (λ (b : Bool). AreWell (cond b (class_by done c) c)) (sym changed) changed_well
    by_test false same = subst (λ (b : Bool). AreWell (cond b (class_by done c) c)) (sym same) (same_each (calls_for false c.pool.entries) done c.methods same, refl)

-- ---- in the loop over classes

-- what is found of the classes that are left is found of all
pub first_more : (class first : ℕ) (rest : List Planned) (classes written : List ClassDef) (place : ℕ) (c w : ClassDef) → place < length classes
    → place < length written → c ≡ get_or classes place c → w ≡ get_or written place w → MayBeCompared (own c rest) c → are_low (own c rest) c.methods ≡ true
    → w ≡ rewritten_by (own c rest) c → (number method : ℕ)
    → IsFirstPlanned (class + 1) (first + length c.methods) (others c rest) (drop (place + 1) classes) (drop (place + 1) written) number method
    → IsFirstPlanned class first rest (drop place classes) (drop place written) number method
first_more class first rest classes written place c w within inside c_is w_is may low is number method found =
    let well = written_well (own c rest) c w may low is in
    subst (λ (q : List ClassDef × List ClassDef). IsFirstPlanned class first rest q.0 q.1 number method)
    (λ k. (sym (drop_here classes place c within c_is) k, sym (drop_here written place w inside w_is) k))
    (first_later class first rest c w (drop (place + 1) classes) (drop (place + 1) written) well.1 well.0 number method found)

pub first_now : (class first : ℕ) (rest : List Planned) (classes written : List ClassDef) (place : ℕ) (c w : ClassDef) → place < length classes
    → place < length written → c ≡ get_or classes place c → w ≡ get_or written place w → HasClass c w → (at : ℕ)
    → IsFirstIn (calls_for false c.pool.entries) (own c rest) c.methods w.methods at
    → IsFirstPlanned class first rest (drop place classes) (drop place written) class (first + at)
first_now class first rest classes written place c w within inside c_is w_is has at found =
    subst (λ (q : List ClassDef × List ClassDef). IsFirstPlanned class first rest q.0 q.1 class (first + at))
    (λ k. (sym (drop_here classes place c within c_is) k, sym (drop_here written place w inside w_is) k))
    (first_here class first rest c w (drop (place + 1) classes) (drop (place + 1) written) (counted (own c rest) c w has) at found)
