-- How many abstract methods are left over in a class: the counts by what is selected, of one method more and of one class.
use Rattle.std.proofs.Common.{◌≡◌, refl, sym, ◌∙◌, ap, ℕ, zero, suc, ◌+◌, ◌-◌, ◌<◌, ◌≤◌, ◌&&◌, ◌||◌, not, Bool, true, false, cond, List, [], ◌∷◌, ◌++◌, length, get_or, nat_eq, nat_lt, Option, Some, None, arith, ◌⊎◌, inl, inr}
use Rattle.std.specs.List.{flat_map, range_with_len}
use Rattle.std.proofs.lemmas.Bool.{cases_eq, eq-eqb, eqb-true, false≢true, le-ltb, lt-ltb, or_parts, or_right}
use Rattle.fm_base.proofs.TestFacts.{and_false}
use Rattle.fm_code.specs.AccessFlags.{is_package_private, is_private}
use Rattle.fm_code.specs.declared.class_file.ClassDef.{ClassDef}
use Rattle.fm_link_members.proofs.FoundLemmas.{found_at, row_of_own}
use Rattle.fm_link_members.proofs.LookupLemmas.{method_row, nearest_by_method}
use Rattle.fm_link_members.proofs.NearestLemmas.{first_found-cons, signature_below}
use Rattle.fm_link_members.proofs.SectionRows.{AreSections-methods}
use Rattle.fm_link_members.proofs.SignatureLemmas.{count_of_signatures}
use Rattle.fm_link_members.specs.declared.lookups.Methods.{Methods}
use Rattle.fm_link_members.specs.inner.MemberRows.{section_of, AreSections, Owned}
use Rattle.fm_link_members.specs.inner.MemberTables.{flags_of, own_by, AreMethods}
use Rattle.fm_link_members.specs.inner.NearestSteps.{or_else}
use Rattle.fm_world.proofs.Displays.{parent_of-within}
use Rattle.fm_world.proofs.OverridingLemmas.{select-free}
use Rattle.fm_world.specs.Causes.{NotImplemented, declared_name, is_left_over, left_over, method_text, refused, Refusal}
use Rattle.fm_world.specs.Chains.{chain_of, first_found, interfaces_of, is_among, parent_of}
use Rattle.fm_world.specs.Lookups.{is_abstract_method, is_interface_at, is_selectable}
use Rattle.fm_world.specs.Members.{method_at, methods_of}
use Rattle.fm_world.specs.declared.declarations.DeclaredClass.{DeclaredClass}
use Rattle.fm_world.specs.inner.Tables.{chain_from, IsLinear}
use Rattle.fm_link_supers.proofs.Downwards.{among_head, among_left, among_right}
use Rattle.fm_link_refusals.proofs.LeftOver.{left_over_parts}
use Rattle.fm_link_refusals.proofs.Sections.{section_all, section_within}
use Rattle.fm_link_refusals.specs.inner.Abstracts.{left_over_at, left_over_by, left_over_of}
use Rattle.fm_link_refusals.specs.inner.LeftOver.{can_be_met, counted_of, is_between, is_limited, is_open, is_owed, is_part_open, is_part_owed, is_taken, selected_at, with_signature, HasCounts}
use Rattle.fm_code.specs.AccessFlags.{is_abstract, is_interface}
use Rattle.fm_link_refusals.proofs.AbstractCounts.{counted-none, counts_same, end_of, lt_step, owed_met, owed_unmet, start_of}

-- ---- what is selected

pub selected_split : (texts : List (List ℕ)) (classes : List DeclaredClass) (m : Methods) → AreMethods texts classes m → IsLinear classes
    → (class signature : ℕ) → class < length classes → signature < length m.members.rows.items
    → selected_at m (Some class) signature
    ≡ or_else (own_by m.members.rows.items m.signatures.of_members.items is_selectable signature class)
    (selected_at m (parent_of classes class) signature)
selected_split texts classes m are linear class signature within below =
    are.selectable.nearest class signature within (are.selectable.room signature below) ∙ ap (first_found find) (linear class within)
    ∙ first_found-cons find class (chain_from classes (parent_of classes class)) ∙ ap (or_else (find class)) (by_parent (parent_of classes class) refl)
  where
    find : ℕ → Option ℕ
    find = own_by m.members.rows.items m.signatures.of_members.items is_selectable signature

    by_parent : (o : Option ℕ) → parent_of classes class ≡ o → first_found find (chain_from classes o) ≡ selected_at m o signature
    by_parent None e = refl
    by_parent (Some p) e = sym (are.selectable.nearest p signature (parent_of-within classes class p e) (are.selectable.room signature below))

pub selected_signed : (texts : List (List ℕ)) (classes : List DeclaredClass) (m : Methods) → AreMethods texts classes m
    → (class signature k : ℕ) → class < length classes → signature < length m.members.rows.items → selected_at m (Some class) signature ≡ Some k
    → get_or m.signatures.of_members.items k 0 ≡ signature
selected_signed texts classes m are class signature k within below e =
    let find = own_by m.members.rows.items m.signatures.of_members.items is_selectable signature in
    let found = found_at find (chain_of classes class) k (sym (are.selectable.nearest class signature within (are.selectable.room signature below)) ∙ e) in
    (row_of_own m.members.rows.items m.signatures.of_members.items is_selectable signature found.place k found.is).signed

-- ---- one of a class's own methods

between_other : (start n : ℕ) (o : Option ℕ) → (o ≡ Some n → ⊥) → is_between start (n + 1) o ≡ is_between start n o
between_other start n None other = refl
between_other start n (Some k) other = ap (λ b. not (nat_lt k start) && b) (lt_step k n (λ e. other (ap (λ j. Some j) e)))

between_here : (start end k : ℕ) → start ≤ k → k < end → is_between start end (Some k) ≡ true
between_here start end k from below =
    ap (λ b. not b && nat_lt k end) (le-ltb k start from) ∙ lt-ltb k end below

between_not : (start n : ℕ) → is_between start n (Some n) ≡ false
between_not start n = ap (λ b. not (nat_lt n start) && b) (le-ltb n n (omega arith)) ∙ and_false (not (nat_lt n start))

not_both : (b : Bool) → (not b && b) ≡ false
not_both true = refl
not_both false = refl

between_none : (start : ℕ) (o : Option ℕ) → is_between start start o ≡ false
between_none start None = refl
between_none start (Some k) = not_both (nat_lt k start)

pub taken_is : (o : Option ℕ) (n : ℕ) → is_taken o n ≡ true → o ≡ Some n
taken_is None n e = absurd (false≢true e)
taken_is (Some k) n e = ap (λ j. Some j) (eqb-true k n e)

not_taken : (o : Option ℕ) (n : ℕ) → is_taken o n ≡ false → o ≡ Some n → ⊥
not_taken o n e is = false≢true (sym e ∙ ap (λ p. is_taken p n) is ∙ eq-eqb n n refl)

-- what is selected is another method
part_open-other : (classes : List DeclaredClass) (m : Methods) (parent : Option ℕ) (class start method signature : ℕ)
    → (selected_at m (Some class) signature ≡ Some method → ⊥)
    → is_part_open classes m parent class start (method + 1) signature ≡ is_part_open classes m parent class start method signature
part_open-other classes m parent class start method signature other =
    ap (λ b. cond b (is_open classes (selected_at m (Some class) signature)) (is_open classes (selected_at m parent signature)))
    (between_other start method (selected_at m (Some class) signature) other)

-- it is this one
part_open-now : (classes : List DeclaredClass) (m : Methods) (parent : Option ℕ) (class start method signature : ℕ) → start ≤ method
    → selected_at m (Some class) signature ≡ Some method
    → is_part_open classes m parent class start (method + 1) signature ≡ is_abstract_method classes method
part_open-now classes m parent class start method signature from e =
    ap (λ o. cond (is_between start (method + 1) o) (is_open classes o) (is_open classes (selected_at m parent signature))) e
    ∙ ap (λ b. cond b (is_abstract_method classes method) (is_open classes (selected_at m parent signature)))
    (between_here start (method + 1) method from (omega arith))

part_open-before : (classes : List DeclaredClass) (m : Methods) (parent : Option ℕ) (class start method signature : ℕ)
    → selected_at m (Some class) signature ≡ Some method
    → is_part_open classes m parent class start method signature ≡ is_open classes (selected_at m parent signature)
part_open-before classes m parent class start method signature e =
    ap (λ o. cond (is_between start method o) (is_open classes o) (is_open classes (selected_at m parent signature))) e
    ∙ ap (λ b. cond b (is_abstract_method classes method) (is_open classes (selected_at m parent signature))) (between_not start method)

-- the same of a method that is owed
owed_by : (classes : List DeclaredClass) (m : Methods) (k : ℕ) (x y : Bool) → x ≡ y
    → (is_abstract_method classes k && (is_limited (flags_of m.members.rows.items k) || x))
    ≡ (is_abstract_method classes k && (is_limited (flags_of m.members.rows.items k) || y))
owed_by classes m k x y e = ap (λ b. is_abstract_method classes k && (is_limited (flags_of m.members.rows.items k) || b)) e

pub sections_of : (texts : List (List ℕ)) (classes : List DeclaredClass) (m : Methods) → AreMethods texts classes m → AreSections classes m.members
sections_of texts classes m are = AreSections-methods texts classes m.members are.rows

-- the signature of a method is below their count
pub signed_below : (texts : List (List ℕ)) (classes : List DeclaredClass) (m : Methods) → AreMethods texts classes m → (k : ℕ)
    → k < length m.members.rows.items → get_or m.signatures.of_members.items k 0 < length m.members.rows.items
signed_below texts classes m are k below =
    signature_below m.members.rows.items m.signatures are.signatures k
    (omega (arith, below, count_of_signatures m.members.rows.items m.signatures are.signatures))

-- a method that isn't the selected one of its signature changes nothing
pub part-same : (texts : List (List ℕ)) (classes : List DeclaredClass) (m : Methods) (parent : Option ℕ) (class start method : ℕ) (row : List ℕ)
    → AreMethods texts classes m → class < length classes
    → is_taken (selected_at m (Some class) (get_or m.signatures.of_members.items method 0)) method ≡ false
    → HasCounts m (length classes) (is_part_owed classes m parent class start method) row
    → HasCounts m (length classes) (is_part_owed classes m parent class start (method + 1)) row
part-same texts classes m parent class start method row are within fails counts =
    counts_same classes m (is_part_owed classes m parent class start method) (is_part_owed classes m parent class start (method + 1)) row
    (sections_of texts classes m are)
    (λ k below. owed_by classes m k (is_part_open classes m parent class start method (sig k))
    (is_part_open classes m parent class start (method + 1) (sig k))
    (sym (part_open-other classes m parent class start method (sig k) (other k below)))) counts where
      sig : ℕ → ℕ
      sig k = get_or m.signatures.of_members.items k 0

      other : (k : ℕ) → k < length m.members.rows.items → selected_at m (Some class) (sig k) ≡ Some method → ⊥
      other k below e =
          let same = selected_signed texts classes m are class (sig k) method within (signed_below texts classes m are k below) e in
          not_taken (selected_at m (Some class) (sig method)) method fails (ap (selected_at m (Some class)) same ∙ e)

-- nor does one that is abstract where the one before it was so, or isn't where that one wasn't
pub part-alike : (texts : List (List ℕ)) (classes : List DeclaredClass) (m : Methods) (parent : Option ℕ) (class start method : ℕ) (row : List ℕ)
    → AreMethods texts classes m → class < length classes → start ≤ method
    → is_taken (selected_at m (Some class) (get_or m.signatures.of_members.items method 0)) method ≡ true
    → is_open classes (selected_at m parent (get_or m.signatures.of_members.items method 0)) ≡ is_abstract_method classes method
    → HasCounts m (length classes) (is_part_owed classes m parent class start method) row
    → HasCounts m (length classes) (is_part_owed classes m parent class start (method + 1)) row
part-alike texts classes m parent class start method row are within from holds alike counts =
    counts_same classes m (is_part_owed classes m parent class start method) (is_part_owed classes m parent class start (method + 1)) row
    (sections_of texts classes m are)
    (λ k below. owed_by classes m k (is_part_open classes m parent class start method (sig k))
    (is_part_open classes m parent class start (method + 1) (sig k)) (each (sig k) (signed_below texts classes m are k below) (cases_eq (sig k) (sig method)))) counts where
      sig : ℕ → ℕ
      sig k = get_or m.signatures.of_members.items k 0

      taken : selected_at m (Some class) (sig method) ≡ Some method
      taken = taken_is (selected_at m (Some class) (sig method)) method holds

      each : (s : ℕ) → s < length m.members.rows.items → (s ≡ sig method) ⊎ (s ≡ sig method → ⊥)
          → is_part_open classes m parent class start method s ≡ is_part_open classes m parent class start (method + 1) s
      each s below (inl e) =
          let mine = ap (selected_at m (Some class)) e ∙ taken in
          part_open-before classes m parent class start method s mine ∙ ap (λ n. is_open classes (selected_at m parent n)) e ∙ alike
          ∙ sym (part_open-now classes m parent class start method s from mine)
      each s below (inr other) =
          sym (part_open-other classes m parent class start method s
          (λ e. other (sym (selected_signed texts classes m are class s method within below e))))

-- all methods of its signature are changed
pub part-before : (classes : List DeclaredClass) (m : Methods) (parent : Option ℕ) (class start method : ℕ) (adds : Bool)
    → is_taken (selected_at m (Some class) (get_or m.signatures.of_members.items method 0)) method ≡ true
    → is_open classes (selected_at m parent (get_or m.signatures.of_members.items method 0)) ≡ not adds → (k : ℕ)
    → can_be_met classes m k ≡ true → get_or m.signatures.of_members.items k 0 ≡ get_or m.signatures.of_members.items method 0
    → is_part_owed classes m parent class start method k ≡ not adds
part-before classes m parent class start method adds holds before k met e =
    let s = get_or m.signatures.of_members.items k 0 in
    let taken = taken_is (selected_at m (Some class) (get_or m.signatures.of_members.items method 0)) method holds in
    owed_met (is_abstract_method classes k) (is_limited (flags_of m.members.rows.items k)) (is_part_open classes m parent class start method s) met
    ∙ part_open-before classes m parent class start method s (ap (selected_at m (Some class)) e ∙ taken)
    ∙ ap (λ n. is_open classes (selected_at m parent n)) e ∙ before

pub part-changed : (texts : List (List ℕ)) (classes : List DeclaredClass) (m : Methods) (parent : Option ℕ) (class start method : ℕ) (adds : Bool)
    (row : List ℕ) → AreMethods texts classes m → class < length classes → start ≤ method
    → is_taken (selected_at m (Some class) (get_or m.signatures.of_members.items method 0)) method ≡ true
    → adds ≡ is_abstract_method classes method
    → HasCounts m (length classes) (with_signature classes m (get_or m.signatures.of_members.items method 0) adds (length m.members.rows.items)
    (is_part_owed classes m parent class start method)) row
    → HasCounts m (length classes) (is_part_owed classes m parent class start (method + 1)) row
part-changed texts classes m parent class start method adds row are within from holds now counts =
    counts_same classes m changed_ones next row (sections_of texts classes m are) (λ k below. each k below (cases_eq (sig k) (sig method))
    (can_be_met classes m k) refl) counts where
      sig : ℕ → ℕ
      sig k = get_or m.signatures.of_members.items k 0

      old : ℕ → Bool
      old = is_part_owed classes m parent class start method

      next : ℕ → Bool
      next = is_part_owed classes m parent class start (method + 1)

      changed_ones : ℕ → Bool
      changed_ones = with_signature classes m (sig method) adds (length m.members.rows.items) old

      taken : selected_at m (Some class) (sig method) ≡ Some method
      taken = taken_is (selected_at m (Some class) (sig method)) method holds

      not_met : (k : ℕ) → can_be_met classes m k ≡ false → changed_ones k ≡ old k
      not_met k e =
          ap (λ t. cond ((nat_eq (sig k) (sig method) && t) && nat_lt k (length m.members.rows.items)) adds (old k)) e
          ∙ ap (λ t. cond (t && nat_lt k (length m.members.rows.items)) adds (old k)) (and_false (nat_eq (sig k) (sig method)))

      unsigned : (k : ℕ) → (b : Bool) → nat_eq (sig k) (sig method) ≡ b → (sig k ≡ sig method → ⊥) → changed_ones k ≡ old k
      unsigned k true e other = absurd (other (eqb-true (sig k) (sig method) e))
      unsigned k false e other =
          ap (λ t. cond ((t && can_be_met classes m k) && nat_lt k (length m.members.rows.items)) adds (old k)) e

      each : (k : ℕ) → k < length m.members.rows.items → (sig k ≡ sig method) ⊎ (sig k ≡ sig method → ⊥) → (b : Bool)
          → can_be_met classes m k ≡ b → changed_ones k ≡ next k
      each k below (inr other) b met =
          unsigned k (nat_eq (sig k) (sig method)) refl other
          ∙ owed_by classes m k (is_part_open classes m parent class start method (sig k))
          (is_part_open classes m parent class start (method + 1) (sig k))
          (sym (part_open-other classes m parent class start method (sig k)
          (λ e. other (sym (selected_signed texts classes m are class (sig k) method within (signed_below texts classes m are k below) e)))))
      each k below (inl e) false met =
          not_met k met
          ∙ owed_unmet (is_abstract_method classes k) (is_limited (flags_of m.members.rows.items k))
          (is_part_open classes m parent class start method (sig k)) (is_part_open classes m parent class start (method + 1) (sig k)) met
      each k below (inl e) true met =
          ap (λ t. cond ((t && can_be_met classes m k) && nat_lt k (length m.members.rows.items)) adds (old k)) (eq-eqb (sig k) (sig method) e)
          ∙ ap (λ t. cond (t && nat_lt k (length m.members.rows.items)) adds (old k)) met
          ∙ ap (λ t. cond t adds (old k)) (lt-ltb k (length m.members.rows.items) below) ∙ now
          ∙ sym (part_open-now classes m parent class start method (sig k) from (ap (selected_at m (Some class)) e ∙ taken))
          ∙ sym (owed_met (is_abstract_method classes k) (is_limited (flags_of m.members.rows.items k))
          (is_part_open classes m parent class start (method + 1) (sig k)) met)

-- ---- one class

pub part-start : (texts : List (List ℕ)) (classes : List DeclaredClass) (m : Methods) (parent : Option ℕ) (class start : ℕ) (row : List ℕ)
    → AreMethods texts classes m → HasCounts m (length classes) (is_owed classes m (λ s. is_open classes (selected_at m parent s))) row
    → HasCounts m (length classes) (is_part_owed classes m parent class start start) row
part-start texts classes m parent class start row are counts =
    counts_same classes m (is_owed classes m (λ s. is_open classes (selected_at m parent s))) (is_part_owed classes m parent class start start) row
    (sections_of texts classes m are)
    (λ k below. let s = get_or m.signatures.of_members.items k 0 in
    owed_by classes m k (is_open classes (selected_at m parent s)) (is_part_open classes m parent class start start s)
    (sym (ap (λ b. cond b (is_open classes (selected_at m (Some class) s)) (is_open classes (selected_at m parent s)))
    (between_none start (selected_at m (Some class) s))))) counts

pub part-end : (texts : List (List ℕ)) (classes : List DeclaredClass) (m : Methods) (parent : Option ℕ) (class end : ℕ) (row : List ℕ)
    → AreMethods texts classes m → IsLinear classes → class < length classes → parent ≡ parent_of classes class → end_of m class ≤ end
    → HasCounts m (length classes) (is_part_owed classes m parent class (start_of m class) end) row
    → HasCounts m (length classes) (is_owed classes m (λ s. is_open classes (selected_at m (Some class) s))) row
part-end texts classes m parent class end row are linear within is past counts =
    counts_same classes m (is_part_owed classes m parent class (start_of m class) end)
    (is_owed classes m (λ s. is_open classes (selected_at m (Some class) s))) row sections
    (λ k below. owed_by classes m k (is_part_open classes m parent class (start_of m class) end (sig k))
    (is_open classes (selected_at m (Some class) (sig k)))
    (each (sig k) (own (sig k)) refl (split (sig k) (signed_below texts classes m are k below)))) counts where
      sections : AreSections classes m.members
      sections = sections_of texts classes m are

      sig : ℕ → ℕ
      sig k = get_or m.signatures.of_members.items k 0

      own : ℕ → Option ℕ
      own s = own_by m.members.rows.items m.signatures.of_members.items is_selectable s class

      split : (s : ℕ) → s < length m.members.rows.items → selected_at m (Some class) s ≡ or_else (own s) (selected_at m parent s)
      split s below = selected_split texts classes m are linear class s within below ∙ ap (λ o. or_else (own s) (selected_at m o s)) (sym is)

      either_way : (b x : Bool) → cond b x x ≡ x
      either_way true x = refl
      either_way false x = refl

      each : (s : ℕ) (o : Option ℕ) → own s ≡ o → selected_at m (Some class) s ≡ or_else (own s) (selected_at m parent s)
          → is_part_open classes m parent class (start_of m class) end s ≡ is_open classes (selected_at m (Some class) s)
      each s None e h =
          let same : selected_at m parent s ≡ selected_at m (Some class) s = sym (h ∙ ap (λ o. or_else o (selected_at m parent s)) e) in
          ap (λ o. cond (is_between (start_of m class) end (selected_at m (Some class) s)) (is_open classes (selected_at m (Some class) s)) (is_open classes o))
          same
          ∙ either_way (is_between (start_of m class) end (selected_at m (Some class) s)) (is_open classes (selected_at m (Some class) s))
      each s (Some k) e h =
          let found = row_of_own m.members.rows.items m.signatures.of_members.items is_selectable s class k e in
          let here = sections.outside class k found.within found.class_is in
          let low = here.1 in
          let high = here.2 in
          ap (λ b. cond b (is_open classes (selected_at m (Some class) s)) (is_open classes (selected_at m parent s)))
          (ap (is_between (start_of m class) end) (h ∙ ap (λ o. or_else o (selected_at m parent s)) e)
          ∙ between_here (start_of m class) end k low (omega (arith, high, past)))

-- ---- nothing is left over

not_owed : (a r x : Bool) → (a && (r || x)) ≡ false → a ≡ true → (r ≡ false) × (x ≡ false)
not_owed true true x e a = absurd (false≢true (sym e))
not_owed true false x e a = (refl, e)
not_owed false r x e a = absurd (false≢true a)

not_left : (texts : List (List ℕ)) (classes : List DeclaredClass) (m : Methods) (class k : ℕ) → AreMethods texts classes m → class < length classes
    → k < length (methods_of classes) → is_abstract_method classes k ≡ true
    → is_owed classes m (λ s. is_open classes (selected_at m (Some class) s)) k ≡ false → is_left_over classes class k ≡ false
not_left texts classes m class k are within inside abstract none =
    let s = get_or m.signatures.of_members.items k 0 in
    let parts = not_owed (is_abstract_method classes k) (is_limited (flags_of m.members.rows.items k))
    (is_open classes (selected_at m (Some class) s)) none abstract in
    let its = method_at classes k in
    let flags : flags_of m.members.rows.items k ≡ its.method.flags = ap (λ (o : Owned). o.flags) (method_row texts classes m are k inside) in
    let free = or_parts (is_private its.method.flags) (is_package_private its.method.flags) (sym (ap is_limited flags) ∙ parts.0) in
    ap (is_open classes)
    (select-free classes class k free.0 (ap (λ b. b && not (is_interface_at classes its.class)) free.1)
    ∙ sym (nearest_by_method texts classes m are is_selectable m.selectable are.selectable class k within inside))
    ∙ parts.1

flat_none : {Z : Type 0} (f : ℕ → List Z) (xs : List ℕ) → ((x : ℕ) → is_among x xs ≡ true → f x ≡ []) → flat_map f xs ≡ []
flat_none f [] none = refl
flat_none f (x ∷ xs) none =
    ap (λ ys. ys ++ flat_map f xs) (none x (among_head x xs)) ∙ flat_none f xs (λ y among. none y (or_right (nat_eq y x) (is_among y xs) among))

range_none : {Z : Type 0} (f : ℕ → List Z) (count start : ℕ) → ((k : ℕ) → start ≤ k → k < start + count → f k ≡ [])
    → flat_map f (range_with_len start count) ≡ []
range_none f zero start none = refl
range_none f (suc count) start none =
    ap (λ ys. ys ++ flat_map f (range_with_len (start + 1) count)) (none start (omega arith) (omega arith))
    ∙ range_none f count (start + 1) (λ k from below. none k (omega (arith, from)) (omega (arith, below)))

abbrev refusal_at : List DeclaredClass → ClassDef → ℕ → List Refusal
refusal_at classes c k = refused NotImplemented c (method_text (declared_name classes k)) ∷ []

-- of a class that declares methods
none_of : (texts : List (List ℕ)) (classes : List DeclaredClass) (m : Methods) (c : ClassDef) (class above : ℕ) → AreMethods texts classes m
    → class < length classes
    → counted_of m (is_owed classes m (λ s. is_open classes (selected_at m (Some class) s))) above ≡ 0 → left_over_of classes c class above ≡ []
none_of texts classes m c class above are within zeros =
    section_all texts classes m.members are.rows (left_over_by classes c class) above (section_of m.members.first.items above) refl
    ∙ range_none (left_over_at classes c class) (end_of m above - start_of m above) (start_of m above) each where
      inside : end_of m above ≤ length (methods_of classes)
      inside = section_within texts classes m.members are.rows above (section_of m.members.first.items above) refl

      each : (k : ℕ) → start_of m above ≤ k → k < start_of m above + (end_of m above - start_of m above) → left_over_at classes c class k ≡ []
      each k from below = by_test (is_abstract_method classes k) refl where
        by_test : (b : Bool) → is_abstract_method classes k ≡ b → left_over_at classes c class k ≡ []
        by_test false e = ap (λ t. cond t (left_over_by classes c class k) []) e
        by_test true e =
            let none = counted-none (is_owed classes m (λ s. is_open classes (selected_at m (Some class) s)))
            (end_of m above - start_of m above) (start_of m above) k zeros from below in
            let there : k < length (methods_of classes) = omega (arith, from, below, inside) in
            let left = not_left texts classes m class k are within there e none in
            ap (λ t. cond t (left_over_by classes c class k) []) e
            ∙ ap (λ t. cond t (refusal_at classes c k) []) left

-- of a class that has objects
pub nothing_left : (texts : List (List ℕ)) (classes : List DeclaredClass) (m : Methods) (c : ClassDef) (class : ℕ) → AreMethods texts classes m
    → class < length classes → is_abstract c.flags ≡ false → is_interface c.flags ≡ false
    → ((above : ℕ) → is_among above (chain_of classes class ++ interfaces_of classes class) ≡ true
    → counted_of m (is_owed classes m (λ s. is_open classes (selected_at m (Some class) s))) above ≡ 0)
    → left_over classes c class ≡ []
nothing_left texts classes m c class are within concrete proper zeros =
    left_over_parts classes c class concrete proper
    ∙ ap (λ xs. xs ++ flat_map (left_over_of classes c class) (interfaces_of classes class))
    (flat_none (left_over_of classes c class) (chain_of classes class)
    (λ x among. none_of texts classes m c class x are within (zeros x (among_left x (chain_of classes class) (interfaces_of classes class) among))))
    ∙ flat_none (left_over_of classes c class) (interfaces_of classes class)
    (λ x among. none_of texts classes m c class x are within (zeros x (among_right x (chain_of classes class) (interfaces_of classes class) among)))
