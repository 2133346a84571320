-- Interfaces that don't go on are passed, and aren't looked at in later rounds.
use Rattle.std.proofs.Common.{◌≡◌, refl, sym, ◌∙◌, ap, ℕ, suc, zero, ◌<◌, ◌≤◌, ◌||◌, Bool, true, false, List, [], ◌∷◌, length, get_or, map, nat_lt, replicate, set, arith, ◌⊎◌, inl, inr, get_or-set_other, get_or-set_same, length-set}
use Rattle.std.specs.List.{list_any}
use Rattle.std.proofs.Math.ListN.{get_or-map}
use Rattle.std.proofs.lemmas.Bool.{cases_eq, cases_lt, le-ltb, lt-ltb, or_right}
use Rattle.std.proofs.lemmas.List.{get_or-replicate, get_or_past, length-replicate}
use Rattle.fm_world.proofs.TableLemmas.{length-row}
use Rattle.fm_world.specs.Causes.{goes_deep}
use Rattle.fm_world.specs.declared.declarations.DeclaredClass.{DeclaredClass}
use Rattle.fm_world.specs.inner.Tables.{numbers_below}
use Rattle.fm_link_supers.proofs.InterfaceLemmas.{goes_deep_ends}
use Rattle.fm_link_supers.proofs.ParentTables.{row_within}
use Rattle.fm_link_supers.specs.inner.InterfaceRounds.{is_set, HavePassed}

-- none is passed at first
pub none_passed : (marks : List Bool) (listed : List (List ℕ)) (passed : List ℕ) (n : ℕ) → passed ≡ replicate n 0 → HavePassed marks listed passed
none_passed marks listed passed n is class i before within = absurd (omega (arith, before, by_place (cases_lt class n))) where
  by_place : (class < n) ⊎ (n ≤ class) → get_or passed class 0 ≡ 0
  by_place (inl h) = ap (λ xs. get_or xs class 0) is ∙ get_or-replicate n class 0 0 h
  by_place (inr h) = get_or_past passed class 0 (omega (arith, h, ap length is ∙ length-replicate n 0))

-- ---- whether some number passes the test is determined by the place of the first one that does

some_passes : (p : ℕ → Bool) (xs : List ℕ) (i : ℕ) → i < length xs → p (get_or xs i 0) ≡ true → list_any p xs ≡ true
some_passes p [] i h e = absurd (omega (arith, h))
some_passes p (x ∷ xs) zero h e = ap (λ b. b || list_any p xs) e
some_passes p (x ∷ xs) (suc i) h e = or_right (p x) (list_any p xs) (some_passes p xs i (omega (arith, h)) e)

none_passes : (p : ℕ → Bool) (xs : List ℕ) → ((i : ℕ) → i < length xs → p (get_or xs i 0) ≡ false) → list_any p xs ≡ false
none_passes p [] none = refl
none_passes p (x ∷ xs) none =
    ap (λ b. b || list_any p xs) (none 0 (omega arith)) ∙ none_passes p xs (λ i h. none (suc i) (omega (arith, h)))

any_at : (p : ℕ → Bool) (xs : List ℕ) (place : ℕ) → ((i : ℕ) → i < place → i < length xs → p (get_or xs i 0) ≡ false)
    → (place < length xs → p (get_or xs place 0) ≡ true) → nat_lt place (length xs) ≡ list_any p xs
any_at p xs place before here = by_place (cases_lt place (length xs)) where
  by_place : (place < length xs) ⊎ (length xs ≤ place) → nat_lt place (length xs) ≡ list_any p xs
  by_place (inl h) = lt-ltb place (length xs) h ∙ sym (some_passes p xs place h (here h))
  by_place (inr h) = le-ltb place (length xs) h ∙ sym (none_passes p xs (λ i within. before i (omega (arith, within, h)) within))

-- ---- one class

one_passed : (marks : List Bool) (listed : List (List ℕ)) (old new : List ℕ) (class place : ℕ) → new ≡ set old class place
    → ((i : ℕ) → get_or old class 0 ≤ i → i < place → i < length (get_or listed class []) → is_set marks (get_or (get_or listed class []) i 0) ≡ false)
    → HavePassed marks listed old → HavePassed marks listed new
one_passed marks listed old new class place is more passed c i before within = by_class (cases_eq c class) where
  by_place : i < place → i < length (get_or listed class []) → (i < get_or old class 0) ⊎ (get_or old class 0 ≤ i)
      → is_set marks (get_or (get_or listed class []) i 0) ≡ false
  by_place h inside (inl low) = passed class i low inside
  by_place h inside (inr high) = more i high h inside

  put : (class < length old) ⊎ (length old ≤ class) → i < get_or new class 0 → i < place
  put (inl here) h = omega (arith, h, ap (λ xs. get_or xs class 0) is ∙ get_or-set_same old class place 0 here)
  put (inr past) h =
      absurd (omega (
        arith,
        h,
        ap (λ xs. get_or xs class 0) is ∙ get_or_past (set old class place) class 0 (omega (arith, past, length-set old class place)),
      ))

  by_class : (c ≡ class) ⊎ (c ≡ class → ⊥) → is_set marks (get_or (get_or listed c []) i 0) ≡ false
  by_class (inl e) =
      let inside : i < length (get_or listed class []) = omega (arith, within, ap (λ k. length (get_or listed k [])) e) in
      let below : i < get_or new class 0 = omega (arith, before, ap (λ k. get_or new k 0) e) in
      ap (λ k. is_set marks (get_or (get_or listed k []) i 0)) e
      ∙ by_place (put (cases_lt class (length old)) below) inside (cases_lt i (get_or old class 0))
  by_class (inr other) =
      passed c i (omega (arith, before, ap (λ xs. get_or xs c 0) is ∙ get_or-set_other old class c place 0 other)) within

-- the class passes what is before its first interface that goes on
pub class_passed : (marks : List Bool) (listed : List (List ℕ)) (old read new list : List ℕ) (class start place : ℕ) → list ≡ get_or listed class []
    → read ≡ old → start ≡ get_or read class 0 → new ≡ set old class place
    → ((i : ℕ) → start ≤ i → i < place → i < length list → is_set marks (get_or list i 0) ≡ false)
    → HavePassed marks listed old → HavePassed marks listed new
class_passed marks listed old read new list class start place list_is read_is start_is new_is more passed =
    one_passed marks listed old new class place new_is
    (λ i from below within.
    ap (λ xs. is_set marks (get_or xs i 0)) (sym list_is)
    ∙ more i (omega (arith, from, start_is ∙ ap (λ xs. get_or xs class 0) read_is)) below (omega (arith, within, ap length list_is)))
    passed

-- and it goes on where there is one
pub class_told : (marks : List Bool) (listed : List (List ℕ)) (old read list : List ℕ) (class start place : ℕ) → list ≡ get_or listed class []
    → read ≡ old → start ≡ get_or read class 0
    → ((i : ℕ) → start ≤ i → i < place → i < length list → is_set marks (get_or list i 0) ≡ false)
    → (place < length list → is_set marks (get_or list place 0) ≡ true) → HavePassed marks listed old
    → nat_lt place (length list) ≡ get_or (map (list_any (is_set marks)) listed) class false
class_told marks listed old read list class start place list_is read_is start_is more here passed =
    any_at (is_set marks) list place (λ i low within. before i low within (cases_lt i start)) here
    ∙ ap (list_any (is_set marks)) list_is
    ∙ sym (get_or-map (list_any (is_set marks)) listed class []) where
      before : (i : ℕ) → i < place → i < length list → (i < start) ⊎ (start ≤ i) → is_set marks (get_or list i 0) ≡ false
      before i low within (inl h) =
          ap (λ xs. is_set marks (get_or xs i 0)) list_is
          ∙ passed class i (omega (arith, h, start_is ∙ ap (λ xs. get_or xs class 0) read_is)) (omega (arith, within, ap length list_is))
      before i low within (inr h) = more i h low within

-- ---- what has no mark has none after a round more

pub stays_passed : (classes : List DeclaredClass) (round : ℕ) (before after : List Bool) (listed : List (List ℕ)) (passed : List ℕ)
    → before ≡ map (goes_deep round classes) (numbers_below (length classes))
    → after ≡ map (goes_deep (suc round) classes) (numbers_below (length classes))
    → HavePassed before listed passed → HavePassed after listed passed
stays_passed classes round before after listed passed old new are class i low within =
    by_place (cases_lt (get_or (get_or listed class []) i 0) (length classes)) where
      x : ℕ
      x = get_or (get_or listed class []) i 0

      by_place : (x < length classes) ⊎ (length classes ≤ x) → is_set after x ≡ false
      by_place (inl h) =
          row_within (goes_deep (suc round) classes) (length classes) false after new x h
          ∙ goes_deep_ends classes round x (sym (row_within (goes_deep round classes) (length classes) false before old x h) ∙ are class i low within)
      by_place (inr h) =
          get_or_past after x false (omega (arith, h, length-row (goes_deep (suc round) classes) (length classes) after new))
