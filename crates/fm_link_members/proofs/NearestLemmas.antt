-- The tables of nearest members, one class after the other.
use Rattle.std.proofs.Common.{◌≡◌, refl, sym, ◌∙◌, ap, subst, ℕ, ◌+◌, ◌-◌, ◌<◌, ◌≤◌, ◌&&◌, ◌||◌, Bool, true, false, List, [], ◌∷◌, ◌++◌, length, take, get_or, set, nat_eq, Option, Some, None, option_and_then, slice_get, arith, ◌⊎◌, inl, inr, get_or-set_same, get_or-set_other, length-set, zero-add}
use Rattle.std.proofs.lemmas.Bool.{eq-eqb, eqb-true, cases_eq, cases_lt}
use Rattle.std.proofs.lemmas.List.{get_or_default, get_or_past, take_all, take_more}
use Rattle.std.proofs.lemmas.List.Folds.{list_any-append}
use Rattle.std.proofs.lemmas.List.FromFn.{get_or-map-range_with_len, length-map-range_with_len}
use Rattle.std.proofs.lemmas.List.Quantifiers.{position-Some}
use Rattle.std.proofs.lemmas.Option.{slice_get-get_or, slice_get_read}
use Rattle.fm_world.proofs.Displays.{is_among_at}
use Rattle.fm_world.specs.Chains.{chain_of, first_found, is_among, parent_of}
use Rattle.fm_world.specs.declared.declarations.DeclaredClass.{DeclaredClass}
use Rattle.fm_world.specs.declared.layers.Layers.{Layers}
use Rattle.fm_world.specs.inner.Layers.{value_at, HasRoom, IsTable, KeepsTables}
use Rattle.fm_world.specs.inner.Tables.{IsLinear, chain_from}
use Rattle.fm_link_members.proofs.FirstOnes.{IsFirst, first_from-is, first_is_one}
use Rattle.fm_link_members.proofs.LayerSteps.{room_before, room_kept, table_kept, value_kept}
use Rattle.fm_link_members.proofs.SignatureLemmas.{count_of_signatures, signature_at}
use Rattle.fm_link_supers.specs.declared.hierarchy.Hierarchy.{Hierarchy}
use Rattle.fm_link_members.specs.declared.members.MemberRow.{MemberRow}
use Rattle.fm_link_members.specs.declared.members.Members.{Members}
use Rattle.fm_link_members.specs.declared.members.Nearest.{Nearest}
use Rattle.fm_link_members.specs.declared.members.Signatures.{Signatures}
use Rattle.fm_link_supers.specs.inner.Hierarchy.{IsHierarchy}
use Rattle.fm_link_members.specs.inner.MemberRows.{no_row, section_of, AreSections}
use Rattle.fm_link_members.specs.inner.MemberTables.{first_from, has_key, is_own, own_by, AreNearest, AreSignatures}
use Rattle.fm_link_members.specs.inner.NearestSteps.{is_signed, or_else, top_of, AreTops, HasRooms, PutsSection}

-- ---- the first that is found

pub first_found-cons : (find : ℕ → Option ℕ) (x : ℕ) (xs : List ℕ) → first_found find (x ∷ xs) ≡ or_else (find x) (first_found find xs)
first_found-cons find x xs = by_option (find x) refl where
  by_option : (o : Option ℕ) → find x ≡ o → first_found find (x ∷ xs) ≡ or_else o (first_found find xs)
  by_option None e = rw e refl
  by_option (Some y) e = rw e refl

-- ---- a class's own members are those of its section

pub widened : (p q : ℕ → Bool) (start end count : ℕ) (r : Option ℕ) → end ≤ count → ((k : ℕ) → start ≤ k → k < end → p k ≡ q k)
    → ((k : ℕ) → k < count → q k ≡ true → (start ≤ k) × (k < end)) → IsFirst p start end r → IsFirst q 0 count r
widened p q start end count None within same only is = λ k from below. by_test (q k) k below refl where
  by_test : (b : Bool) → (k : ℕ) → k < count → q k ≡ b → b ≡ false
  by_test false k below e = refl
  by_test true k below e = sym (sym (is k (only k below e).0 (only k below e).1) ∙ same k (only k below e).0 (only k below e).1 ∙ e)
widened p q start end count (Some i) within same only is =
    (omega arith, omega (arith, is.1, within), sym (same i is.0 is.1) ∙ is.2, λ k from below. by_test (q k) k below refl) where
      by_test : (b : Bool) → (k : ℕ) → k < i → q k ≡ b → b ≡ false
      by_test false k below e = refl
      by_test true k below e =
          let low = (only k (omega (arith, below, is.1, within)) e).0 in
          sym (sym (is.3 k low below) ∙ same k low (omega (arith, below, is.1)) ∙ e)

pub own_by-section : (classes : List DeclaredClass) (m : Members) → AreSections classes m → (signatures : List ℕ) (passes : ℕ → Bool)
    (signature class start end : ℕ) → class < length classes → section_of m.first.items class ≡ (start, end)
    → first_from (is_signed m.rows.items signatures passes signature) (end - start) start ≡ own_by m.rows.items signatures passes signature class
own_by-section classes m are signatures passes signature class start end within section =
    first_is_one (is_own m.rows.items signatures passes signature class) (is_own m.rows.items signatures passes signature class) 0
    (length m.rows.items) (first_from (is_signed m.rows.items signatures passes signature) (end - start) start)
    (own_by m.rows.items signatures passes signature class) (λ k from below. refl)
    (widened (is_signed m.rows.items signatures passes signature) (is_own m.rows.items signatures passes signature class) start end
    (length m.rows.items) (first_from (is_signed m.rows.items signatures passes signature) (end - start) start)
    (let P : ℕ × ℕ → Type 0 = λ s. s.1 ≤ length m.rows.items in subst P section (are.within class within)) same only
    (first_from-is (is_signed m.rows.items signatures passes signature) (end - start) start end (omega (arith, rising))))
    (first_from-is (is_own m.rows.items signatures passes signature class) (length m.rows.items) 0 (length m.rows.items) (omega arith)) where
      rising : start ≤ end
      rising = let P : ℕ × ℕ → Type 0 = λ s. s.0 ≤ s.1 in subst P section (are.rising class within)

      of_class : (k : ℕ) → start ≤ k → k < end → nat_eq (get_or m.rows.items k no_row).class class ≡ true
      of_class k low high = eq-eqb (get_or m.rows.items k no_row).class class
          (let P : ℕ × ℕ → Type 0 = λ s. s.0 ≤ k → k < s.1 → (get_or m.rows.items k no_row).class ≡ class in
          subst P section (are.inside class k within) low high)

      same : (k : ℕ) → start ≤ k → k < end
          → is_signed m.rows.items signatures passes signature k ≡ is_own m.rows.items signatures passes signature class k
      same k low high =
          sym (ap (λ b. b && nat_eq (get_or signatures k 0) signature && passes (get_or m.rows.items k no_row).flags) (of_class k low high))

      class_test : (a b c : Bool) → (a && b && c) ≡ true → a ≡ true
      class_test true b c h = refl
      class_test false b c h = h

      only : (k : ℕ) → k < length m.rows.items → is_own m.rows.items signatures passes signature class k ≡ true → (start ≤ k) × (k < end)
      only k below own =
          let e = eqb-true (get_or m.rows.items k no_row).class class
          (class_test (nat_eq (get_or m.rows.items k no_row).class class) (nat_eq (get_or signatures k 0) signature)
          (passes (get_or m.rows.items k no_row).flags) own) in
          let P : ℕ × ℕ → Type 0 = λ s. (class < length classes) × (s.0 ≤ k) × (k < s.1) in
          let found = subst P section (are.outside class k below e) in (found.1, found.2)

-- ---- the table of a class

-- what the tables say of the classes that are done
abbrev pub SaysNearest : List DeclaredClass → List MemberRow → List ℕ → (ℕ → Bool) → Layers → List ℕ → ℕ → Type 0
SaysNearest classes rows signatures passes layers tops class =
    (signature : ℕ) → HasRoom layers signature
    → value_at layers (get_or tops class 0) signature ≡ first_found (own_by rows signatures passes signature) (chain_of classes class)

-- the empty table has nothing
abbrev pub IsEmpty : Layers → Type 0
IsEmpty layers = (signature : ℕ) → value_at layers 0 signature ≡ None

pub nearest_step : (classes : List DeclaredClass) (m : Members) (signatures : List ℕ) (passes : ℕ → Bool) (old new : Layers) (tops : List ℕ)
    (class top : ℕ) (parent : Option ℕ) → IsLinear classes → AreSections classes m → class < length classes → parent ≡ parent_of classes class
    → IsEmpty old → ((p : ℕ) → parent_of classes class ≡ Some p → SaysNearest classes m.rows.items signatures passes old tops p)
    → KeepsTables old new
    → PutsSection old new m.rows.items signatures passes (section_of m.first.items class) (top_of tops parent) top → (signature : ℕ)
    → HasRoom new signature
    → value_at new top signature ≡ first_found (own_by m.rows.items signatures passes signature) (chain_of classes class)
nearest_step classes m signatures passes old new tops class top parent linear are within is_parent empty above keeps puts signature room =
    puts.puts signature (room_before old new signature keeps room) (are.rising class within) (are.within class within)
    ∙ ap (λ o. or_else o (value_at old (top_of tops parent) signature))
    (own_by-section classes m are signatures passes signature class (section_of m.first.items class).0 (section_of m.first.items class).1 within refl)
    ∙ ap (or_else (find class)) (by_parent parent is_parent)
    ∙ sym (first_found-cons find class (chain_from classes (parent_of classes class)))
    ∙ ap (first_found find) (sym (linear class within)) where
      find : ℕ → Option ℕ
      find = own_by m.rows.items signatures passes signature

      by_parent : (p : Option ℕ) → p ≡ parent_of classes class
          → value_at old (top_of tops p) signature ≡ first_found find (chain_from classes (parent_of classes class))
      by_parent None e = empty signature ∙ ap (λ o. first_found find (chain_from classes o)) e
      by_parent (Some p) e = above p (sym e) signature (room_before old new signature keeps room)
          ∙ ap (λ o. first_found find (chain_from classes o)) e

-- ---- all classes, one after the other

pub top_is_table : (n : Nearest) → AreTops n → (parent : Option ℕ) → IsTable n.layers (top_of n.tops.items parent)
top_is_table n are None =
    subst (λ t. IsTable n.layers t) (get_or_past n.tops.items (length n.tops.items) 0 (omega arith)) (are (length n.tops.items))
top_is_table n are (Some class) = are class

pub signature_below : (rows : List MemberRow) (s : Signatures) → AreSignatures rows s → (k : ℕ) → k < length s.of_members.items
    → get_or s.of_members.items k 0 < length rows
signature_below rows s are k within =
    let inside : k < length rows = omega (arith, within, count_of_signatures rows s are) in
    (position-Some (has_key (get_or rows k no_row).name (get_or rows k no_row).descriptor) rows (get_or s.of_members.items k 0) no_row
    (signature_at rows s are k inside)).0

pub room_for_signatures : (rows : List MemberRow) (s : Signatures) → AreSignatures rows s → (layers : Layers) → HasRooms layers (length rows)
    → (signatures : List ℕ) → signatures ≡ s.of_members.items → (k : ℕ) → k < length signatures → HasRoom layers (get_or signatures k 0)
room_for_signatures rows s are layers room signatures same k within =
    let inside : k < length s.of_members.items = omega (arith, within, ap length same) in
    subst (λ n. HasRoom layers n) (sym (ap (λ xs. get_or xs k 0) same))
    (room (get_or s.of_members.items k 0) (signature_below rows s are k inside))

-- the tables of a given number of classes of the order are made
pub record IsMade (h : Hierarchy) (m : Members) (signatures : List ℕ) (passes : ℕ → Bool) (n : Nearest) (i : ℕ) : Type 0 where
  pub tables : AreTops n
  pub room : HasRooms n.layers (length m.rows.items)
  pub count : length n.tops.items ≡ length h.parents.items
  pub empty : IsEmpty n.layers
  pub done : (classes : List DeclaredClass) → IsHierarchy classes h → AreSections classes m → (class : ℕ)
      → is_among class (take i h.order.items) ≡ true
      → SaysNearest classes m.rows.items signatures passes n.layers n.tops.items class

tops_step : (old new : Layers) (tops : List ℕ) (class top : ℕ) → KeepsTables old new → ((k : ℕ) → IsTable old (get_or tops k 0)) → IsTable new top
    → (k : ℕ) → IsTable new (get_or (set tops class top) k 0)
tops_step old new tops class top keeps are is k = by_same (cases_eq k class) where
  by_place : k ≡ class → (class < length tops) ⊎ (length tops ≤ class) → IsTable new (get_or (set tops class top) k 0)
  by_place e (inl within) =
      subst (λ t. IsTable new t) (sym (ap (λ j. get_or (set tops class top) j 0) e ∙ get_or-set_same tops class top 0 within)) is
  by_place e (inr past) =
      subst (λ t. IsTable new t) (get_or_past tops k 0 (omega (arith, past, e))
      ∙ sym (get_or_past (set tops class top) k 0 (omega (arith, past, e, length-set tops class top))))
      (table_kept old new (get_or tops k 0) keeps (are k))

  by_same : (k ≡ class) ⊎ (k ≡ class → ⊥) → IsTable new (get_or (set tops class top) k 0)
  by_same (inl e) = by_place e (cases_lt class (length tops))
  by_same (inr other) =
      subst (λ t. IsTable new t) (sym (get_or-set_other tops class k top 0 other)) (table_kept old new (get_or tops k 0) keeps (are k))

among_before : (x y : ℕ) (xs : List ℕ) → is_among x (xs ++ y ∷ []) ≡ true → (x ≡ y → ⊥) → is_among x xs ≡ true
among_before x y xs among other =
    by_last (nat_eq x y) refl (is_among x xs) (sym (list_any-append (nat_eq x) xs (y ∷ [])) ∙ among) where
      by_last : (b : Bool) → nat_eq x y ≡ b → (a : Bool) → (a || (nat_eq x y || false)) ≡ true → a ≡ true
      by_last true e a h = absurd (other (eqb-true x y e))
      by_last false e true h = refl
      by_last false e false h = sym (ap (λ b. b || false) e) ∙ h

done_step : (classes : List DeclaredClass) (h : Hierarchy) (m : Members) (signatures : List ℕ) (passes : ℕ → Bool) (old new : Layers) (tops : List ℕ)
    (i class top : ℕ) (parent : Option ℕ) → IsHierarchy classes h → AreSections classes m → i < length h.order.items
    → class ≡ get_or h.order.items i class → parent ≡ get_or h.parents.items class None → length tops ≡ length h.parents.items → IsEmpty old
    → ((k : ℕ) → IsTable old (get_or tops k 0)) → KeepsTables old new
    → PutsSection old new m.rows.items signatures passes (section_of m.first.items class) (top_of tops parent) top
    → ((c : ℕ) → is_among c (take i h.order.items) ≡ true → SaysNearest classes m.rows.items signatures passes old tops c)
    → (c : ℕ) → is_among c (take (i + 1) h.order.items) ≡ true
    → SaysNearest classes m.rows.items signatures passes new (set tops class top) c
done_step classes h m signatures passes old new tops i class top parent is are within here parent_is count empty tables keeps puts done c among =
    by_same (cases_eq c class) where
      order : List ℕ
      order = h.order.items

      there : slice_get order i ≡ Some class
      there = slice_get_read order (length order) i class refl within here

      next : take (i + 1) order ≡ take i order ++ class ∷ []
      next = take_more order i class within ∙ ap (λ x. take i order ++ x ∷ []) (sym here)

      class_within : class < length classes
      class_within = is.order.only class (is_among_at order i class within (sym (get_or_default order i class 0 within) ∙ sym here))

      parents_count : length h.parents.items ≡ length classes
      parents_count = ap length is.parents ∙ length-map-range_with_len (parent_of classes) 0 (length classes)

      class_parent : parent ≡ parent_of classes class
      class_parent = parent_is ∙ ap (λ xs. get_or xs class None) is.parents
          ∙ get_or-map-range_with_len (parent_of classes) 0 (length classes) class class None class_within (zero-add class)

      by_same : (c ≡ class) ⊎ (c ≡ class → ⊥) → SaysNearest classes m.rows.items signatures passes new (set tops class top) c
      by_same (inl e) signature room =
          ap (λ x. value_at new (get_or (set tops class top) x 0) signature) e
          ∙ ap (λ t. value_at new t signature) (get_or-set_same tops class top 0 (omega (arith, class_within, count, parents_count)))
          ∙ nearest_step classes m signatures passes old new tops class top parent is.linear are class_within class_parent empty
          (λ p known. done p (is.order.after i class p there known)) keeps puts signature room
          ∙ ap (λ x. first_found (own_by m.rows.items signatures passes signature) (chain_of classes x)) (sym e)
      by_same (inr other) signature room =
          ap (λ t. value_at new t signature) (get_or-set_other tops class c top 0 other)
          ∙ value_kept old new (get_or tops c 0) signature keeps (tables c)
          ∙ done c (among_before c class (take i order) (ap (is_among c) (sym next)
          ∙ among) other) signature (room_before old new signature keeps room)

pub made_step : (h : Hierarchy) (m : Members) (signatures : List ℕ) (passes : ℕ → Bool) (old new : Nearest) (middle : Layers) (i class top : ℕ)
    (parent : Option ℕ) → IsMade h m signatures passes old i → i < length h.order.items → class ≡ get_or h.order.items i class
    → parent ≡ get_or h.parents.items class None → KeepsTables old.layers middle
    → PutsSection old.layers middle m.rows.items signatures passes (section_of m.first.items class) (top_of old.tops.items parent) top
    → new.tops.items ≡ set old.tops.items class top → new.layers ≡ middle → IsMade h m signatures passes new (i + 1)
made_step h m signatures passes old new middle i class top parent made within here parent_is keeps puts tops layers = record {
  tables = λ k. with_new (λ l ts. IsTable l (get_or ts k 0))
      (tops_step old.layers middle old.tops.items class top keeps made.tables puts.is_table k);
  room = λ k below. subst (λ l. HasRoom l k) (sym layers) (room_kept old.layers middle k keeps (made.room k below));
  count = ap length tops ∙ length-set old.tops.items class top ∙ made.count;
  empty = λ signature. ap (λ l. value_at l 0 signature) layers
      ∙ value_kept old.layers middle 0 signature keeps (top_is_table old made.tables None) ∙ made.empty signature;
  done = λ classes is are c among. with_new (λ l ts. SaysNearest classes m.rows.items signatures passes l ts c)
      (done_step classes h m signatures passes old.layers middle old.tops.items i class top parent is are within here parent_is made.count made.empty
      made.tables keeps puts (made.done classes is are) c among);
} where
  with_new : (P : Layers → List ℕ → Type 0) → P middle (set old.tops.items class top) → P new.layers new.tops.items
  with_new P p = subst (λ l. P l new.tops.items) (sym layers) (subst (λ ts. P middle ts) (sym tops) p)

pub made_end : (h : Hierarchy) (m : Members) (signatures : List ℕ) (passes : ℕ → Bool) (n : Nearest) (i : ℕ) → IsMade h m signatures passes n i
    → length h.order.items ≤ i → (classes : List DeclaredClass) → IsHierarchy classes h → AreSections classes m
    → AreNearest classes m.rows.items signatures passes n
made_end h m signatures passes n i made all classes is are = record {
  one_each = as_many;
  room = made.room;
  nearest = λ class signature within room.
      ap (option_and_then (λ table. value_at n.layers table signature)) (slice_get-get_or n.tops.items class 0 (omega (arith, within, as_many)))
      ∙ made.done classes is are class (ap (is_among class) (take_all i h.order.items all) ∙ is.order.all class within) signature room;
} where
  as_many : length n.tops.items ≡ length classes
  as_many = made.count ∙ ap length is.parents ∙ length-map-range_with_len (parent_of classes) 0 (length classes)
