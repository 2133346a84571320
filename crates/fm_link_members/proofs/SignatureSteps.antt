-- The map of signatures, one member after the other.
use Rattle.std.proofs.Common.{◌≡◌, refl, sym, ◌∙◌, ap, ℕ, ◌+◌, ◌<◌, ◌&&◌, Bool, true, false, cond, List, [], ◌∷◌, ◌++◌, length, map, take, drop, get_or, nat_eq, nat_lt, Option, Some, None, unwrap_or, arith, length-take-le}
use Rattle.std.specs.BTreeMap.{BTreeMap, is_at}
use Rattle.std.specs.List.{position_from}
use Rattle.std.specs.Ordering.{is_eq, nat_cmp, ordering_then}
use Rattle.std.specs.declared.cmp.Ordering.{Ordering}
use Rattle.std.specs.declared.cmp.Ordering.TheVariants.{Equal, Greater, Less}
use Rattle.std.proofs.lemmas.Bool.{eq-eqb, eqb-true, ltb-true}
use Rattle.std.proofs.lemmas.Iterator.Adapters.{position_from-zero}
use Rattle.std.proofs.lemmas.List.{map-append, take-append-drop, take_more}
use Rattle.fm_base.proofs.TestFacts.{and_left, and_right}
use Rattle.fm_world.proofs.Completions.{found_first}
use Rattle.fm_link_members.specs.declared.members.MemberRow.{MemberRow}
use Rattle.fm_link_members.specs.inner.MemberTables.{has_key, number_of_key, signature_of}
use Rattle.fm_link_members.specs.inner.NearestSteps.{or_else}

-- ---- keys

eq-then : (a b : Ordering) → is_eq (ordering_then a b) ≡ (is_eq a && is_eq b)
eq-then Less b = refl
eq-then Equal b = refl
eq-then Greater b = refl

eq-nat : (x y : ℕ) → is_eq (nat_cmp x y) ≡ nat_eq x y
eq-nat x y = by_less (nat_lt x y) refl (nat_eq x y) refl where
  by_equal : (b : Bool) → is_eq (cond b Equal Greater) ≡ b
  by_equal true = refl
  by_equal false = refl

  by_less : (l : Bool) → nat_lt x y ≡ l → (b : Bool) → nat_eq x y ≡ b → is_eq (cond l Less (cond b Equal Greater)) ≡ b
  by_less true less true same = absurd (omega (arith, ltb-true x y less, eqb-true x y same))
  by_less true less false same = refl
  by_less false less b same = by_equal b

pub key_test : (name descriptor n d : ℕ)
    → is_at (λ (k : ℕ × ℕ). ordering_then (nat_cmp name k.0) (nat_cmp descriptor k.1)) (n, d) ≡ (nat_eq name n && nat_eq descriptor d)
key_test name descriptor n d =
    eq-then (nat_cmp name n) (nat_cmp descriptor d) ∙ ap (λ b. b && is_eq (nat_cmp descriptor d)) (eq-nat name n)
    ∙ ap (λ b. nat_eq name n && b) (eq-nat descriptor d)

-- ---- positions

position_from-push : {A : Type 0} (p : A → Bool) (i j : ℕ) (xs : List A) (x : A) → j ≡ i + length xs
    → position_from p i (xs ++ x ∷ []) ≡ or_else (position_from p i xs) (cond (p x) (Some j) None)
position_from-push p i j [] x e = ap (λ n. cond (p x) (Some n) None) (omega (arith, e))
position_from-push p i j (y ∷ xs) x e = by_test (p y) (position_from-push p (i + 1) j xs x (omega (arith, e))) where
  by_test : (b : Bool) → position_from p (i + 1) (xs ++ x ∷ []) ≡ or_else (position_from p (i + 1) xs) (cond (p x) (Some j) None)
      → cond b (Some i) (position_from p (i + 1) (xs ++ x ∷ [])) ≡ or_else (cond b (Some i) (position_from p (i + 1) xs)) (cond (p x) (Some j) None)
  by_test true more = refl
  by_test false more = more

-- ---- one member

-- the map numbers these rows
abbrev pub Numbers : BTreeMap (ℕ × ℕ) ℕ → List MemberRow → Type 0
Numbers numbers rows = (n d : ℕ) → number_of_key numbers n d ≡ position_from (has_key n d) 0 rows

-- what one member leaves in the map
abbrev pub Adds : BTreeMap (ℕ × ℕ) ℕ → BTreeMap (ℕ × ℕ) ℕ → ℕ → ℕ → ℕ → Type 0
Adds old new name descriptor signature =
    (n d : ℕ) → number_of_key new n d ≡ cond (nat_eq name n && nat_eq descriptor d) (Some signature) (number_of_key old n d)

pub numbers_one : (rows : List MemberRow) (i : ℕ) (row : MemberRow) (old new : BTreeMap (ℕ × ℕ) ℕ) (signature : ℕ) → i < length rows
    → row ≡ get_or rows i row → Numbers old (take i rows) → signature ≡ unwrap_or (number_of_key old row.name row.descriptor) i
    → Adds old new row.name row.descriptor signature → Numbers new (take (i + 1) rows)
numbers_one rows i row old new signature within is so_far number adds n d =
    adds n d ∙ by_test (has_key n d row) refl
    ∙ sym (ap (position_from (has_key n d) 0) (take_more rows i row within ∙ ap (λ r. take i rows ++ r ∷ []) (sym is))
    ∙ position_from-push (has_key n d) 0 i (take i rows) row length_is) where
      length_is : i ≡ 0 + length (take i rows)
      length_is = omega (arith, length-take-le i rows (omega (arith, within)))

      filled : (o : Option ℕ) → Some (unwrap_or o i) ≡ or_else o (Some i)
      filled None = refl
      filled (Some s) = refl

      unfilled : (o : Option ℕ) → o ≡ or_else o None
      unfilled None = refl
      unfilled (Some s) = refl

      by_test : (b : Bool) → has_key n d row ≡ b → cond b (Some signature) (number_of_key old n d)
          ≡ or_else (position_from (has_key n d) 0 (take i rows)) (cond b (Some i) None)
      by_test true e =
          let same_name = eqb-true row.name n (and_left (nat_eq row.name n) (nat_eq row.descriptor d) e) in
          let same_descriptor = eqb-true row.descriptor d (and_right (nat_eq row.name n) (nat_eq row.descriptor d) e) in
          ap (λ s. Some s) (number ∙ ap (λ m. unwrap_or (number_of_key old m row.descriptor) i) same_name
          ∙ ap (λ m. unwrap_or (number_of_key old n m) i) same_descriptor ∙ ap (λ o. unwrap_or o i) (so_far n d))
          ∙ filled (position_from (has_key n d) 0 (take i rows))
      by_test false e = so_far n d ∙ unfilled (position_from (has_key n d) 0 (take i rows))

pub signature_one : (rows : List MemberRow) (i : ℕ) (row : MemberRow) (old new : BTreeMap (ℕ × ℕ) ℕ) (signature : ℕ)
    → Numbers new (take (i + 1) rows) → Adds old new row.name row.descriptor signature
    → Some signature ≡ signature_of rows row.name row.descriptor
signature_one rows i row old new signature all adds =
    sym (position_from-zero (has_key row.name row.descriptor) rows
    ∙ ap (position_from (has_key row.name row.descriptor) 0) (sym (take-append-drop (i + 1) rows))
    ∙ found_first (has_key row.name row.descriptor) 0 signature (take (i + 1) rows) (drop (i + 1) rows)
    (sym (all row.name row.descriptor) ∙ adds row.name row.descriptor
    ∙ ap (λ b. cond b (Some signature) (number_of_key old row.name row.descriptor)) itself)) where
      itself : (nat_eq row.name row.name && nat_eq row.descriptor row.descriptor) ≡ true
      itself = ap (λ b. b && nat_eq row.descriptor row.descriptor) (eq-eqb row.name row.name refl) ∙ eq-eqb row.descriptor row.descriptor refl

pub of_members_one : (rows : List MemberRow) (i : ℕ) (row : MemberRow) (old new : List ℕ) (signature : ℕ) → i < length rows
    → row ≡ get_or rows i row → new ≡ old ++ signature ∷ [] → Some signature ≡ signature_of rows row.name row.descriptor
    → map (λ (n : ℕ). Some n) old ≡ map (λ (r : MemberRow). signature_of rows r.name r.descriptor) (take i rows)
    → map (λ (n : ℕ). Some n) new ≡ map (λ (r : MemberRow). signature_of rows r.name r.descriptor) (take (i + 1) rows)
of_members_one rows i row old new signature within is more number so_far =
    ap (map (λ (n : ℕ). Some n)) more ∙ map-append (λ (n : ℕ). Some n) old (signature ∷ [])
    ∙ ap (λ xs. xs ++ Some signature ∷ []) so_far
    ∙ ap (λ o. map of_row (take i rows) ++ o ∷ []) number
    ∙ sym (map-append of_row (take i rows) (row ∷ []))
    ∙ ap (map of_row) (ap (λ r. take i rows ++ r ∷ []) is ∙ sym (take_more rows i row within)) where
      of_row : MemberRow → Option ℕ
      of_row r = signature_of rows r.name r.descriptor
