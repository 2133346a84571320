-- Which classes have rows of counts: those that have objects, and with a class its superclass.
use Rattle.std.proofs.Common.{◌≡◌, refl, sym, ◌∙◌, ap, subst, ℕ, zero, suc, ◌+◌, ◌<◌, ◌≤◌, Bool, true, false, cond, List, [], ◌∷◌, length, take, drop, get_or, set, replicate, Option, Some, None, arith, ◌⊎◌, inl, inr, get_or-set_same, get_or-set_other, length-set}
use Rattle.std.proofs.lemmas.Bool.{cases_eq, false≢true}
use Rattle.std.proofs.lemmas.List.{drop_more, length-replicate}
use Rattle.std.proofs.lemmas.Option.{none-some, same_Some, slice_get-get_or}
use Rattle.std.specs.Global.{Vec}
use Rattle.fm_base.proofs.RowFacts.{has-replicate, has-set_kept}
use Rattle.fm_base.specs.Rows.{has}
use Rattle.fm_link_refusals.proofs.CountLoops.{holds_more}
use Rattle.fm_link_refusals.specs.inner.LeftOver.{has_objects, length_above, marked_up, AreAskedOf}
use Rattle.fm_link_supers.specs.inner.Hierarchy.{IsDownwards}
use Rattle.fm_link_supers.specs.inner.ListTables.{list_in, lists}
use Rattle.fm_world.proofs.Displays.{is_among_at, parent_of-within}
use Rattle.fm_world.specs.Chains.{chain_of, is_among, parent_of}
use Rattle.fm_world.specs.declared.declarations.DeclaredClass.{DeclaredClass}
use Rattle.fm_world.specs.inner.Tables.{chain_from, IsLinear}

-- ---- marks upwards

-- there are as many marks as before
length-marked_up : (marks : List Bool) (numbers : List ℕ) → length (marked_up marks numbers) ≡ length marks
length-marked_up marks [] = refl
length-marked_up marks (k ∷ numbers) = by_mark (has marks k) (length-marked_up (set marks k true) numbers) where
  by_mark : (b : Bool) → length (marked_up (set marks k true) numbers) ≡ length (set marks k true)
      → length (cond b marks (marked_up (set marks k true) numbers)) ≡ length marks
  by_mark true later = refl
  by_mark false later = later ∙ length-set marks k true

-- a mark that is there stays
marked_up-kept : (marks : List Bool) (numbers : List ℕ) (c : ℕ) → has marks c ≡ true → has (marked_up marks numbers) c ≡ true
marked_up-kept marks [] c is = is
marked_up-kept marks (k ∷ numbers) c is = by_mark (has marks k) (marked_up-kept (set marks k true) numbers c (has-set_kept marks k c is)) where
  by_mark : (b : Bool) → has (marked_up (set marks k true) numbers) c ≡ true → has (cond b marks (marked_up (set marks k true) numbers)) c ≡ true
  by_mark true later = is
  by_mark false later = later

-- the first of them is marked
marked_up-first : (marks : List Bool) (k : ℕ) (numbers : List ℕ) → k < length marks → has (marked_up marks (k ∷ numbers)) k ≡ true
marked_up-first marks k numbers inside = by_mark (has marks k) refl where
  by_mark : (b : Bool) → has marks k ≡ b → has (cond b marks (marked_up (set marks k true) numbers)) k ≡ true
  by_mark true is = is
  by_mark false is = marked_up-kept (set marks k true) numbers k (get_or-set_same marks k true false inside)

-- ---- the walk along a chain

pub up_more : (marks : List Bool) (chain : List ℕ) (i : ℕ) → i < length chain → has marks (get_or chain i 0) ≡ false
    → marked_up (set marks (get_or chain i 0) true) (drop (i + 1) chain) ≡ marked_up marks (drop i chain)
up_more marks chain i inside none =
    ap (λ b. cond b marks (marked_up (set marks (get_or chain i 0) true) (drop (i + 1) chain))) (sym none) ∙ ap (marked_up marks) (sym (drop_more chain i 0 inside))

pub up_stops : (marks : List Bool) (chain : List ℕ) (i : ℕ) → i < length chain → has marks (get_or chain i 0) ≡ true → marks ≡ marked_up marks (drop i chain)
up_stops marks chain i inside there =
    ap (λ b. cond b marks (marked_up (set marks (get_or chain i 0) true) (drop (i + 1) chain))) (sym there) ∙ ap (marked_up marks) (sym (drop_more chain i 0 inside))

-- ---- with a class its superclasses

-- the superclass of each marked class is marked, or is this one
abbrev IsClosedBut : List DeclaredClass → Option ℕ → List Bool → Type 0
IsClosedBut classes next marks =
    (class parent : ℕ) → has marks class ≡ true → parent_of classes class ≡ Some parent → (has marks parent ≡ true) ⊎ (next ≡ Some parent)

-- with the class its superclass may be lacking
closed_above : (classes : List DeclaredClass) (class : ℕ) (marks : List Bool) → class < length marks → IsClosedBut classes (Some class) marks
    → IsClosedBut classes (parent_of classes class) (set marks class true)
closed_above classes class marks inside closed c parent marked parent_is = by_number (cases_eq c class) where
  settled : (has marks parent ≡ true) ⊎ (Some class ≡ Some parent) → (has (set marks class true) parent ≡ true) ⊎ (parent_of classes class ≡ Some parent)
  settled (inl h) = inl (has-set_kept marks class parent h)
  settled (inr e) = inl (ap (has (set marks class true)) (sym (same_Some class parent e)) ∙ get_or-set_same marks class true false inside)

  by_number : (c ≡ class) ⊎ (c ≡ class → ⊥) → (has (set marks class true) parent ≡ true) ⊎ (parent_of classes class ≡ Some parent)
  by_number (inl e) = inr (ap (parent_of classes) (sym e) ∙ parent_is)
  by_number (inr other) = settled (closed c parent (sym (get_or-set_other marks class c true false other) ∙ marked) parent_is)

-- with all of them none is lacking
closed_upwards : (classes : List DeclaredClass) → IsLinear classes → (bound : ℕ) (next : Option ℕ) (marks : List Bool)
    → length (chain_from classes next) ≤ bound → ((class : ℕ) → next ≡ Some class → class < length classes) → length marks ≡ length classes
    → IsClosedBut classes next marks → IsClosedBut classes None (marked_up marks (chain_from classes next))
closed_upwards classes linear bound None marks short within long closed = closed
closed_upwards classes linear zero (Some class) marks short within long closed = absurd (omega (arith, short, ap length (linear class (within class refl))))
closed_upwards classes linear (suc bound) (Some class) marks short within long closed =
    let joined = linear class (within class refl) in
    let inside = within class refl in
    subst (λ (xs : List ℕ). IsClosedBut classes None (marked_up marks xs)) (sym joined)
    (by_mark (has marks class) refl
    (closed_upwards classes linear bound (parent_of classes class) (set marks class true) (omega (arith, short, ap length joined))
    (λ parent e. parent_of-within classes class parent e) (length-set marks class true ∙ long)
    (closed_above classes class marks (omega (arith, inside, long)) closed))) where
      rest : List ℕ
      rest = chain_from classes (parent_of classes class)

      settled : has marks class ≡ true → (parent : ℕ) → (has marks parent ≡ true) ⊎ (Some class ≡ Some parent) → (has marks parent ≡ true) ⊎ (None ≡ Some parent)
      settled is parent (inl h) = inl h
      settled is parent (inr e) = inl (ap (has marks) (sym (same_Some class parent e)) ∙ is)

      by_mark : (b : Bool) → has marks class ≡ b → IsClosedBut classes None (marked_up (set marks class true) rest)
          → IsClosedBut classes None (cond b marks (marked_up (set marks class true) rest))
      by_mark true is later = λ c parent marked parent_is. settled is parent (closed c parent marked parent_is)
      by_mark false is later = later

-- ---- the marks of all classes

pub asked-none : (classes : List DeclaredClass) (order : List ℕ) (marks : List Bool) (count : ℕ) → marks ≡ replicate count false → count ≡ length classes
    → AreAskedOf classes (take 0 order) marks
asked-none classes order marks count are is = by_order order where
  none : AreAskedOf classes [] marks
  none = record {
    one_each = ap length are ∙ length-replicate count false ∙ is;
    each = λ class among objects. absurd (false≢true among);
    above = λ class parent marked parent_is. absurd (false≢true (sym (ap (λ (row : List Bool). has row class) are ∙ has-replicate count class) ∙ marked));
  }

  by_order : (xs : List ℕ) → AreAskedOf classes (take 0 xs) marks
  by_order [] = none
  by_order (x ∷ xs) = none

-- a class more
pub asked-more : (classes : List DeclaredClass) → IsLinear classes → (order : List ℕ) (i : ℕ) (old new : List Bool) → i < length order
    → get_or order i 0 < length classes
    → new ≡ cond (has_objects classes (get_or order i 0)) (marked_up old (chain_of classes (get_or order i 0))) old
    → AreAskedOf classes (take i order) old → AreAskedOf classes (take (i + 1) order) new
asked-more classes linear order i old new inside within is were =
    subst (AreAskedOf classes (take (i + 1) order)) (sym is) (by_objects (has_objects classes (get_or order i 0)) refl) where
      first : has (marked_up old (chain_of classes (get_or order i 0))) (get_or order i 0) ≡ true
      first =
          let long = were.one_each in
          ap (λ (xs : List ℕ). has (marked_up old xs) (get_or order i 0)) (linear (get_or order i 0) within)
          ∙ marked_up-first old (get_or order i 0) (chain_from classes (parent_of classes (get_or order i 0))) (omega (arith, within, long))

      closed : IsClosedBut classes None (marked_up old (chain_of classes (get_or order i 0)))
      closed = closed_upwards classes linear (length (chain_of classes (get_or order i 0))) (Some (get_or order i 0)) old (omega arith)
          (λ k same. subst (λ n. n < length classes) (same_Some (get_or order i 0) k same) within) were.one_each
          (λ c parent marked parent_is. inl (were.above c parent marked parent_is))

      settled : (marks : List Bool) (parent : ℕ) → (has marks parent ≡ true) ⊎ (None ≡ Some parent) → has marks parent ≡ true
      settled marks parent (inl h) = h
      settled marks parent (inr e) = absurd (none-some parent e)

      by_objects : (b : Bool) → has_objects classes (get_or order i 0) ≡ b
          → AreAskedOf classes (take (i + 1) order) (cond b (marked_up old (chain_of classes (get_or order i 0))) old)
      by_objects true objects = record {
        one_each = length-marked_up old (chain_of classes (get_or order i 0)) ∙ were.one_each;
        each = λ c among own.
            holds_more (λ k. has_objects classes k ≡ true → has (marked_up old (chain_of classes (get_or order i 0))) k ≡ true) order i c inside
            (λ k there o. marked_up-kept old (chain_of classes (get_or order i 0)) k (were.each k there o)) (λ o. first) among own;
        above = λ c parent marked parent_is. settled (marked_up old (chain_of classes (get_or order i 0))) parent (closed c parent marked parent_is);
      }
      by_objects false none = record {
        one_each = were.one_each;
        each = λ c among own.
            holds_more (λ k. has_objects classes k ≡ true → has old k ≡ true) order i c inside (λ k there o. were.each k there o)
            (λ o. absurd (false≢true (sym none ∙ o))) among own;
        above = were.above;
      }

-- ---- rows

-- each of these classes that is asked for has a row with a count for each class
pub record HaveAskedRows (classes : List DeclaredClass) (asked : List Bool) (among : List ℕ) (rows : List (Vec ℕ)) : Type 0 where
  pub one_each : length (lists rows) ≡ length classes
  pub each : (class : ℕ) → is_among class among ≡ true → has asked class ≡ true → length (list_in rows class) ≡ length classes

pub asked_rows-none : (classes : List DeclaredClass) (asked : List Bool) (order : List ℕ) (rows : List (Vec ℕ)) (count : ℕ) → lists rows ≡ replicate count []
    → count ≡ length classes → HaveAskedRows classes asked (take 0 order) rows
asked_rows-none classes asked order rows count are is = by_order order where
  no_numbers : List ℕ
  no_numbers = []

  none : HaveAskedRows classes asked [] rows
  none = record { one_each = ap length are ∙ length-replicate count no_numbers ∙ is; each = λ class among marked. absurd (false≢true among) }

  by_order : (xs : List ℕ) → HaveAskedRows classes asked (take 0 xs) rows
  by_order [] = none
  by_order (x ∷ xs) = none

-- the row of a class is as long as that of its superclass, which comes before it
pub asked_rows-more : (classes : List DeclaredClass) (asked : List Bool) (order : List ℕ) (i : ℕ) (old new : List (Vec ℕ)) (row : List ℕ)
    → IsDownwards classes order → i < length order → lists new ≡ set (lists old) (get_or order i 0) row
    → ((parent : ℕ) → has asked (get_or order i 0) ≡ true → parent_of classes (get_or order i 0) ≡ Some parent → has asked parent ≡ true)
    → (has asked (get_or order i 0) ≡ true → length row ≡ length_above old (length classes) (parent_of classes (get_or order i 0)))
    → HaveAskedRows classes asked (take i order) old → HaveAskedRows classes asked (take (i + 1) order) new
asked_rows-more classes asked order i old new row down inside is above long were = record {
  one_each = ap length is ∙ length-set (lists old) (get_or order i 0) row ∙ were.one_each;
  each = λ c among marked.
      holds_more (λ k. has asked k ≡ true → length (list_in new k) ≡ length classes) order i c inside
      (λ k there own. ap (λ (t : List (List ℕ)). length (get_or t k [])) is ∙ by_number k (were.each k there own) (cases_eq k (get_or order i 0)) own)
      (λ own. ap (λ (t : List (List ℕ)). length (get_or t (get_or order i 0) [])) is ∙ here own) among marked;
} where
  within : get_or order i 0 < length classes
  within = down.only (get_or order i 0) (is_among_at order i (get_or order i 0) inside refl)

  by_parent : (o : Option ℕ) → parent_of classes (get_or order i 0) ≡ o → has asked (get_or order i 0) ≡ true → length_above old (length classes) o ≡ length classes
  by_parent None e own = refl
  by_parent (Some parent) e own = were.each parent (down.after i (get_or order i 0) parent (slice_get-get_or order i 0 inside) e) (above parent own e)

  own_length : has asked (get_or order i 0) ≡ true → length row ≡ length classes
  own_length own = long own ∙ by_parent (parent_of classes (get_or order i 0)) refl own

  here : has asked (get_or order i 0) ≡ true → length (get_or (set (lists old) (get_or order i 0) row) (get_or order i 0) []) ≡ length classes
  here own =
      let count = were.one_each in
      ap length (get_or-set_same (lists old) (get_or order i 0) row [] (omega (arith, within, count))) ∙ own_length own

  by_number : (k : ℕ) → length (list_in old k) ≡ length classes → (k ≡ get_or order i 0) ⊎ (k ≡ get_or order i 0 → ⊥) → has asked k ≡ true
      → length (get_or (set (lists old) (get_or order i 0) row) k []) ≡ length classes
  by_number k was (inl e) own = ap (λ n. length (get_or (set (lists old) (get_or order i 0) row) n [])) e ∙ here (ap (has asked) (sym e) ∙ own)
  by_number k was (inr other) own = ap length (get_or-set_other (lists old) (get_or order i 0) k row [] other) ∙ was
