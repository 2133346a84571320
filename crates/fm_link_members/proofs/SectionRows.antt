-- The members of each class are together among those of all classes.
use Rattle.std.proofs.Common.{◌≡◌, refl, sym, ◌∙◌, ap, ℕ, zero, suc, ◌+◌, ◌-◌, ◌<◌, ◌≤◌, List, [], ◌∷◌, length, map, take, get_or, Some, slice_get, sum_by, arith, ◌⊎◌, inl, inr, zero-add}
use Rattle.std.proofs.Math.ListN.{get_or-map}
use Rattle.std.proofs.lemmas.Bool.{cases_lt}
use Rattle.std.proofs.lemmas.List.{get_or_append_left, get_or-append_right, length-append, length-map}
use Rattle.std.proofs.lemmas.List.FromFn.{get_or-map-range_with_len, length-map-range_with_len}
use Rattle.std.proofs.lemmas.List.Sums.{sum_by-cons}
use Rattle.std.proofs.lemmas.Option.{slice_get-get_or}
use Rattle.fm_world.specs.Members.{fields_of, methods_of}
use Rattle.fm_world.specs.declared.declarations.DeclaredClass.{DeclaredClass}
use Rattle.fm_world.specs.inner.Tables.{numbers_below}
use Rattle.fm_link_members.proofs.SectionLemmas.{all_from, field_of_class, fields-alike, fields_in, method_of_class, methods-alike, methods_in}
use Rattle.fm_link_members.specs.declared.members.Members.{Members}
use Rattle.fm_link_members.specs.inner.MemberRows.{no_row, row_alike, section_of, AreFieldRows, AreMethodRows, AreSections, Owned}

-- how many members the classes before one have
abbrev pub before : {A : Type 0} → (DeclaredClass → List A) → List DeclaredClass → ℕ → ℕ
before members classes t = sum_by (λ c. length (members c)) (take t classes)

pub before-next : {A : Type 0} (members : DeclaredClass → List A) (c : DeclaredClass) (classes : List DeclaredClass) (t : ℕ)
    → before members (c ∷ classes) (suc t) ≡ length (members c) + before members classes t
before-next members c classes t = sum_by-cons (λ d. length (members d)) c (take t classes)

-- the member at a place, in the first class or after it
first_class : {A : Type 0} (members : DeclaredClass → List A) (make : ℕ → A → Owned) (base : ℕ) (c : DeclaredClass) (classes : List DeclaredClass)
    (k : ℕ) (d : Owned) → ((n : ℕ) (x : A) → (make n x).class ≡ n) → k < length (members c)
    → (get_or (all_from members make base (c ∷ classes)) k d).class ≡ base
first_class {A} members make base c classes k d named within =
    ap (λ (o : Owned). o.class) (get_or_append_left (map (make base) (members c)) (all_from members make (base + 1) classes) d k
    (omega (arith, within, length-map (members c) (make base))))
    ∙ each (members c) k within where
      each : (xs : List A) (j : ℕ) → j < length xs → (get_or (map (make base) xs) j d).class ≡ base
      each [] j h = absurd (omega (arith, h))
      each (x ∷ xs) zero h = named base x
      each (x ∷ xs) (suc j) h = each xs j (omega (arith, h))

later_class : {A : Type 0} (members : DeclaredClass → List A) (make : ℕ → A → Owned) (base : ℕ) (c : DeclaredClass) (classes : List DeclaredClass)
    (k : ℕ) (d : Owned) → length (members c) ≤ k
    → get_or (all_from members make base (c ∷ classes)) k d ≡ get_or (all_from members make (base + 1) classes) (k - length (members c)) d
later_class members make base c classes k d past =
    get_or-append_right (map (make base) (members c)) (all_from members make (base + 1) classes) (length (members c)) k d
    (length-map (members c) (make base)) past

class_from : {A : Type 0} (members : DeclaredClass → List A) (make : ℕ → A → Owned) (base : ℕ) (classes : List DeclaredClass) (k : ℕ) (d : Owned)
    → ((n : ℕ) (x : A) → (make n x).class ≡ n) → k < length (all_from members make base classes)
    → base ≤ (get_or (all_from members make base classes) k d).class
class_from members make base [] k d named within = absurd (omega (arith, within))
class_from members make base (c ∷ classes) k d named within =
    by_place (cases_lt k (length (members c))) (λ h. class_from members make (base + 1) classes (k - length (members c)) d named h) where
      whole : length (all_from members make base (c ∷ classes)) ≡ length (members c) + length (all_from members make (base + 1) classes)
      whole = length-append (map (make base) (members c)) (all_from members make (base + 1) classes)
          ∙ ap (λ n. n + length (all_from members make (base + 1) classes)) (length-map (members c) (make base))

      by_place : (k < length (members c)) ⊎ (length (members c) ≤ k)
          → (k - length (members c) < length (all_from members make (base + 1) classes)
          → base + 1 ≤ (get_or (all_from members make (base + 1) classes) (k - length (members c)) d).class)
          → base ≤ (get_or (all_from members make base (c ∷ classes)) k d).class
      by_place (inl early) more = omega (arith, first_class members make base c classes k d named early)
      by_place (inr late) more =
          let above = more (omega (arith, late, within, whole)) in
          omega (arith, above, ap (λ (o : Owned). o.class) (later_class members make base c classes k d late))

pub inside-all : {A : Type 0} (members : DeclaredClass → List A) (make : ℕ → A → Owned) (base : ℕ) (classes : List DeclaredClass) (t k : ℕ)
    (d : Owned) → ((n : ℕ) (x : A) → (make n x).class ≡ n) → before members classes t ≤ k → k < before members classes (suc t)
    → (get_or (all_from members make base classes) k d).class ≡ base + t
inside-all members make base [] zero k d named low high = absurd (omega (arith, high))
inside-all members make base [] (suc t) k d named low high = absurd (omega (arith, high))
inside-all members make base (c ∷ classes) zero k d named low high =
    let moved : base ≡ base + 0 = omega arith in
    first_class members make base c classes k d named (omega (arith, high, before-next members c classes 0)) ∙ moved
inside-all members make base (c ∷ classes) (suc t) k d named low high =
    let moved : base + 1 + t ≡ base + suc t = omega arith in
    ap (λ (o : Owned). o.class) (later_class members make base c classes k d (omega (arith, low, before-next members c classes t)))
    ∙ inside-all members make (base + 1) classes t (k - length (members c)) d named (omega (arith, low, before-next members c classes t))
    (omega (arith, low, high, before-next members c classes t, before-next members c classes (suc t)))
    ∙ moved

pub outside-all : {A : Type 0} (members : DeclaredClass → List A) (make : ℕ → A → Owned) (base : ℕ) (classes : List DeclaredClass) (t k : ℕ)
    (d : Owned) → ((n : ℕ) (x : A) → (make n x).class ≡ n) → k < length (all_from members make base classes)
    → (get_or (all_from members make base classes) k d).class ≡ base + t
    → (t < length classes) × (before members classes t ≤ k) × (k < before members classes (suc t))
outside-all members make base [] t k d named within is = absurd (omega (arith, within))
outside-all members make base (c ∷ classes) t k d named within is =
    by_place (cases_lt k (length (members c))) t is
    (λ s low h. outside-all members make (base + 1) classes s (k - length (members c)) d named (rest_within low) h) where
      whole : length (all_from members make base (c ∷ classes)) ≡ length (members c) + length (all_from members make (base + 1) classes)
      whole = length-append (map (make base) (members c)) (all_from members make (base + 1) classes)
          ∙ ap (λ n. n + length (all_from members make (base + 1) classes)) (length-map (members c) (make base))

      rest_within : length (members c) ≤ k → k - length (members c) < length (all_from members make (base + 1) classes)
      rest_within low = omega (arith, low, within, whole)

      by_place : (k < length (members c)) ⊎ (length (members c) ≤ k) → (t : ℕ)
          → (get_or (all_from members make base (c ∷ classes)) k d).class ≡ base + t
          → ((s : ℕ) → length (members c) ≤ k
          → (get_or (all_from members make (base + 1) classes) (k - length (members c)) d).class ≡ base + 1 + s
          → (s < length classes) × (before members classes s ≤ k - length (members c)) × (k - length (members c) < before members classes (suc s)))
          → (t < suc (length classes)) × (before members (c ∷ classes) t ≤ k) × (k < before members (c ∷ classes) (suc t))
      by_place (inl early) zero e more = (omega arith, omega arith, omega (arith, early, before-next members c classes 0))
      by_place (inl early) (suc t) e more =
          absurd (omega (arith, sym (first_class members make base c classes k d named early) ∙ e))
      by_place (inr late) zero e more =
          let above = class_from members make (base + 1) classes (k - length (members c)) d named (rest_within late) in
          absurd (omega (arith, above, ap (λ (o : Owned). o.class) (later_class members make base c classes k d late), e))
      by_place (inr late) (suc t) e more =
          let moved : base + suc t ≡ base + 1 + t = omega arith in
          let found = more t late (sym (ap (λ (o : Owned). o.class) (later_class members make base c classes k d late)) ∙ e ∙ moved) in (
            omega (arith, found.0),
            omega (arith, found.1, late, before-next members c classes t),
            omega (arith, found.2, late, before-next members c classes (suc t)),
          )

-- ---- the sections of a table

slice_row : (f : ℕ → ℕ) (count i : ℕ) (xs : List ℕ) → xs ≡ map f (numbers_below count) → i < count → slice_get xs i ≡ Some (f i)
slice_row f count i xs e within =
    slice_get-get_or xs i 0 (omega (arith, within, ap length e, length-map-range_with_len f 0 count))
    ∙ ap (λ n. Some n) (ap (λ ys. get_or ys i 0) e ∙ get_or-map-range_with_len f 0 count i i 0 within (zero-add i))

pub section_between : (first : List ℕ) (class start end : ℕ) → slice_get first class ≡ Some start → slice_get first (class + 1) ≡ Some end
    → section_of first class ≡ (start, end)
section_between first class start end s e = rw (s, e) refl

before-rising : {A : Type 0} (members : DeclaredClass → List A) (classes : List DeclaredClass) (t : ℕ)
    → before members classes t ≤ before members classes (suc t)
before-rising members [] zero = omega arith
before-rising members [] (suc t) = omega arith
before-rising members (c ∷ classes) zero = omega arith
before-rising members (c ∷ classes) (suc t) =
    omega (arith, before-rising members classes t, before-next members c classes t, before-next members c classes (suc t))

before-within : {A : Type 0} (members : DeclaredClass → List A) (make : ℕ → A → Owned) (base : ℕ) (classes : List DeclaredClass) (t : ℕ)
    → before members classes t ≤ length (all_from members make base classes)
before-within members make base [] zero = omega arith
before-within members make base [] (suc t) = omega arith
before-within members make base (c ∷ classes) zero = omega arith
before-within members make base (c ∷ classes) (suc t) =
    omega (
      arith,
      before-within members make (base + 1) classes t,
      before-next members c classes t,
      length-append (map (make base) (members c)) (all_from members make (base + 1) classes),
      length-map (members c) (make base),
    )

sections : {A : Type 0} (members : DeclaredClass → List A) (make : ℕ → A → Owned) (texts : List (List ℕ)) (classes : List DeclaredClass) (m : Members)
    → ((n : ℕ) (x : A) → (make n x).class ≡ n) → map (row_alike texts) m.rows.items ≡ all_from members make 0 classes
    → m.first.items ≡ map (before members classes) (numbers_below (length classes + 1)) → AreSections classes m
sections members make texts classes m named same first = record {
  inside = λ class k within low high.
      let s = section class within in
      class_at k ∙ inside-all members make 0 classes class k (row_alike texts no_row) named
      (omega (arith, low, ap (λ (p : ℕ × ℕ). p.0) s)) (omega (arith, high, ap (λ (p : ℕ × ℕ). p.1) s)) ∙ zero-add class;
  outside = λ class k within is.
      let found = outside-all members make 0 classes class k (row_alike texts no_row) named (omega (arith, within, as_many))
      (sym (class_at k) ∙ is ∙ sym (zero-add class)) in
      let s = section class found.0 in
      (found.0, omega (arith, found.1, ap (λ (p : ℕ × ℕ). p.0) s), omega (arith, found.2, ap (λ (p : ℕ × ℕ). p.1) s));
  within = λ class within.
      let s = section class within in
      omega (arith, before-within members make 0 classes (suc class), as_many, ap (λ (p : ℕ × ℕ). p.1) s);
  rising = λ class within.
      let s = section class within in
      omega (arith, before-rising members classes class, ap (λ (p : ℕ × ℕ). p.0) s, ap (λ (p : ℕ × ℕ). p.1) s);
} where
  as_many : length m.rows.items ≡ length (all_from members make 0 classes)
  as_many = sym (length-map m.rows.items (row_alike texts)) ∙ ap length same

  class_at : (k : ℕ) → (get_or m.rows.items k no_row).class ≡ (get_or (all_from members make 0 classes) k (row_alike texts no_row)).class
  class_at k = ap (λ (o : Owned). o.class) (sym (get_or-map (row_alike texts) m.rows.items k no_row)
      ∙ ap (λ xs. get_or xs k (row_alike texts no_row)) same)

  section : (class : ℕ) → class < length classes
      → section_of m.first.items class ≡ (before members classes class, before members classes (suc class))
  section class within =
      section_between m.first.items class (before members classes class) (before members classes (suc class))
      (slice_row (before members classes) (length classes + 1) class m.first.items first (omega (arith, within)))
      (slice_row (before members classes) (length classes + 1) (class + 1) m.first.items first (omega (arith, within))
      ∙ ap (λ n. Some (before members classes n)) next) where
        next : class + 1 ≡ suc class
        next = omega arith

pub AreSections-fields : (texts : List (List ℕ)) (classes : List DeclaredClass) (m : Members) → AreFieldRows texts classes m → AreSections classes m
unfolding fields_of
AreSections-fields texts classes m are =
    sections fields_in field_of_class texts classes m (λ n f. refl) (are.rows.same ∙ fields-alike 0 classes) are.first

pub AreSections-methods : (texts : List (List ℕ)) (classes : List DeclaredClass) (m : Members) → AreMethodRows texts classes m
    → AreSections classes m
unfolding methods_of
AreSections-methods texts classes m are =
    sections methods_in method_of_class texts classes m (λ n f. refl) (are.rows.same ∙ methods-alike 0 classes) are.first
