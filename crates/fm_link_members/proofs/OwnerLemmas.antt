-- The classes of the members of each signature: how the lists are made, and what is less than all that is at them.
use Rattle.std.proofs.Common.{◌≡◌, refl, sym, ◌∙◌, ap, subst, ℕ, ◌+◌, ◌<◌, ◌≤◌, ◌||◌, Bool, true, false, List, [], ◌∷◌, ◌++◌, length, take, get_or, set, nat_eq, arith, ◌⊎◌, inl, inr, get_or-set_same, get_or-set_other}
use Rattle.std.proofs.lemmas.Bool.{cases_eq, eqb-true, false≢true, or_cases as either}
use Rattle.std.proofs.lemmas.List.{take_more}
use Rattle.std.proofs.lemmas.List.Folds.{list_any-append}
use Rattle.std.specs.Global.{Vec}
use Rattle.fm_link_supers.proofs.Downwards.{among_head, among_left, among_right}
use Rattle.fm_link_supers.specs.inner.ListTables.{lists}
use Rattle.fm_world.specs.Chains.{is_among}
use Rattle.fm_link_members.specs.declared.members.MemberRow.{MemberRow}
use Rattle.fm_link_members.specs.inner.MemberRows.{no_row}
use Rattle.fm_link_members.specs.inner.Owners.{pushed, HaveOwners}

-- one member more
pub owners_more : (rows : List MemberRow) (signatures : List ℕ) (old new : List (Vec ℕ)) (member : ℕ)
    → get_or signatures member 0 < length (lists old)
    → lists new ≡ pushed (lists old) (get_or signatures member 0) (get_or rows member no_row).class → HaveOwners rows signatures member old
    → HaveOwners rows signatures (member + 1) new
owners_more rows signatures old new member there is before k below =
    subst (λ t. is_among class (get_or t signature []) ≡ true) (sym is) (by_signature (cases_eq signature place) (cases_eq k member)) where
      class : ℕ
      class = (get_or rows k no_row).class

      signature : ℕ
      signature = get_or signatures k 0

      place : ℕ
      place = get_or signatures member 0

      mine : ℕ
      mine = (get_or rows member no_row).class

      list : List ℕ
      list = get_or (lists old) place [] ++ mine ∷ []

      among_mine : (k ≡ member) ⊎ (k ≡ member → ⊥) → signature ≡ place → is_among class list ≡ true
      among_mine (inl at) same =
          subst (λ n. is_among n list ≡ true) (sym (ap (λ n. (get_or rows n no_row).class) at))
          (among_right mine (get_or (lists old) place []) (mine ∷ []) (among_head mine []))
      among_mine (inr other) same =
          among_left class (get_or (lists old) place []) (mine ∷ [])
          (subst (λ s. is_among class (get_or (lists old) s []) ≡ true) same (before k (omega (arith, below, other))))

      by_signature : (signature ≡ place) ⊎ (signature ≡ place → ⊥) → (k ≡ member) ⊎ (k ≡ member → ⊥)
          → is_among class (get_or (set (lists old) place list) signature []) ≡ true
      by_signature (inl same) either =
          subst (λ xs. is_among class xs ≡ true)
          (sym (ap (λ s. get_or (set (lists old) place list) s []) same ∙ get_or-set_same (lists old) place list [] there)) (among_mine either same)
      by_signature (inr other) (inl at) = absurd (other (ap (λ n. get_or signatures n 0) at))
      by_signature (inr other) (inr differs) =
          subst (λ xs. is_among class xs ≡ true) (sym (get_or-set_other (lists old) place signature list [] other))
          (before k (omega (arith, below, differs)))

-- ---- the least place of some classes

-- a number is no more than the places of these classes
abbrev pub IsLow : List ℕ → List ℕ → ℕ → Type 0
IsLow places classes low = (class : ℕ) → is_among class classes ≡ true → low ≤ get_or places class 0

none_among : (class : ℕ) (xs : List ℕ) → is_among class (take 0 xs) ≡ true → ⊥
none_among class [] e = false≢true e
none_among class (x ∷ xs) e = false≢true e

pub low-start : (places xs : List ℕ) (low : ℕ) → IsLow places (take 0 xs) low
low-start places xs low class e = absurd (none_among class xs e)

pub low-more : (places xs : List ℕ) (low lower i : ℕ) → i < length xs → lower ≤ low → lower ≤ get_or places (get_or xs i 0) 0
    → IsLow places (take i xs) low → IsLow places (take (i + 1) xs) lower
low-more places xs low lower i within less here before class e =
    by_part (either (is_among class (take i xs)) (is_among class (get_or xs i 0 ∷ []))
    (sym (list_any-append (nat_eq class) (take i xs) (get_or xs i 0 ∷ [])) ∙ ap (is_among class) (sym (take_more xs i 0 within)) ∙ e)) where
      last : (b : Bool) → nat_eq class (get_or xs i 0) ≡ b → (b || false) ≡ true → lower ≤ get_or places class 0
      last true same h = subst (λ n. lower ≤ get_or places n 0) (sym (eqb-true class (get_or xs i 0) same)) here
      last false same h = absurd (false≢true h)

      by_part : (is_among class (take i xs) ≡ true) ⊎ (is_among class (get_or xs i 0 ∷ []) ≡ true) → lower ≤ get_or places class 0
      by_part (inl h) = let all = before class h in omega (arith, all, less)
      by_part (inr h) = last (nat_eq class (get_or xs i 0)) refl h
