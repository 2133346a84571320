-- Ends that are listed with numbers.
use Rattle.std.proofs.Common.{◌≡◌, ℕ, ◌↔◌, true, false, cond, List, [], ◌∷◌, Some, Contains, refl, ap, sym, ◌∙◌, subst, ⊎_elim, arith, eq-eqb, eqb-true}
use Rattle.std.proofs.lemmas.Bool.{false≢true}
use Rattle.fm_base.proofs.ContainsFacts.{Contains-cons_cases}
use Rattle.fm_code.proofs.EdgesLemmas.{Contains-from_map, Contains-later, Contains-map}
use Rattle.fm_conn.specs.Summaries.{end_number, is_same_end}
use Rattle.fm_conn.specs.declared.ends.End2.{End2}
use Rattle.fm_conn.specs.declared.ends.End2.TheVariants as end
use Rattle.fm_summ.specs.inner.Passed.{renumbered_ends}

-- ---- ends

pub same_end-is : (a b : End2) → is_same_end a b ≡ true → a ≡ b
same_end-is (end.Parameter k) (end.Parameter l) same = ap end.Parameter (eqb-true k l same)
same_end-is end.Return end.Return same = refl
same_end-is end.Global end.Global same = refl
same_end-is (end.Parameter k) end.Return same = absurd (false≢true same)
same_end-is (end.Parameter k) end.Global same = absurd (false≢true same)
same_end-is end.Return (end.Parameter l) same = absurd (false≢true same)
same_end-is end.Return end.Global same = absurd (false≢true same)
same_end-is end.Global (end.Parameter l) same = absurd (false≢true same)
same_end-is end.Global end.Return same = absurd (false≢true same)

pub same_end-itself : (a : End2) → is_same_end a a ≡ true
same_end-itself (end.Parameter k) = eq-eqb k k refl
same_end-itself end.Return = refl
same_end-itself end.Global = refl

-- ---- numbers of ends

-- an end that has a number is listed with it
pub end_number-listed : (entries : List (End2 × ℕ)) (e : End2) (n : ℕ) → end_number entries e ≡ Some n → Contains entries (e, n)
end_number-listed [] e n some = absurd cc
end_number-listed (x ∷ entries) e n some =
    (elim (is_same_end x.0 e) as (λ b. is_same_end x.0 e ≡ b → cond b (Some x.1) (end_number entries e) ≡ Some n → Contains (x ∷ entries) (e, n)) [
      | true ↦ (λ is here.
          let first : x.0 ≡ e = same_end-is x.0 e is in
          let second : x.1 ≡ n = cc in
          (0, omega arith, λ i. (first i, second i)))
      | false ↦ (λ is later. Contains-later x entries (e, n) (end_number-listed entries e n later))
    ]) refl some

-- an end that is listed has a number
pub listed-end_number : (entries : List (End2 × ℕ)) (e : End2) (n : ℕ) → Contains entries (e, n) → (k : ℕ) × (end_number entries e ≡ Some k)
listed-end_number [] e n (k, within, there) = absurd (omega arith)
listed-end_number (x ∷ entries) e n found =
    (elim (is_same_end x.0 e) as (λ b. is_same_end x.0 e ≡ b → (k : ℕ) × (cond b (Some x.1) (end_number entries e) ≡ Some k)) [
      | true ↦ (λ is. (x.1, refl))
      | false ↦ (λ is.
          ⊎_elim
          (λ (same : (e, n) ≡ x). absurd (false≢true (sym is ∙ ap (λ (v : End2 × ℕ). is_same_end v.0 e) (sym same) ∙ same_end-itself e)))
          (λ later. listed-end_number entries e n later)
          (Contains-cons_cases x entries (e, n) found))
    ]) refl

-- ---- lists in which an end has what a property says

-- an end is listed with each number that the property gives it, and with no other
abbrev pub Lists : List (End2 × ℕ) → (End2 → ℕ → Type 0) → Type 0
Lists entries P = (e : End2) (n : ℕ) → Contains entries (e, n) ↔ P e n

-- where the property gives an end one number at most, that is its number
pub number_is : (entries : List (End2 × ℕ)) (P : End2 → ℕ → Type 0) → Lists entries P → (e : End2) (n : ℕ) → ((k : ℕ) → P e k → k ≡ n) → P e n →
    end_number entries e ≡ Some n
number_is entries P lists e n one p =
    let found = listed-end_number entries e n ((lists e n).1 p) in
    let same : found.0 ≡ n = one found.0 ((lists e found.0).0 (end_number-listed entries e found.0 found.1)) in
    found.1 ∙ ap Some same

-- after a renumbering
pub record Renumbered (f : ℕ → ℕ) (P : End2 → ℕ → Type 0) (e : End2) (n : ℕ) : Type 0 where
  pub number : ℕ
  pub holds : P e number
  pub is : n ≡ f number

pub listed-renumbered : (f : ℕ → ℕ) (entries : List (End2 × ℕ)) (e : End2) (n : ℕ) → Contains (renumbered_ends f entries) (e, n) →
    Renumbered f (λ g k. Contains entries (g, k)) e n
listed-renumbered f entries e n found =
    let was = Contains-from_map (λ (x : End2 × ℕ). (x.0, f x.1)) entries (e, n) found in
    let entry = was.0 in
    let same_end : entry.0 ≡ e = ap (λ (v : End2 × ℕ). v.0) was.2 in
    let same_number : f entry.1 ≡ n = ap (λ (v : End2 × ℕ). v.1) was.2 in
    record { number = entry.1; holds = subst (λ g. Contains entries (g, entry.1)) same_end was.1; is = sym same_number }

pub renumbered-listed : (f : ℕ → ℕ) (entries : List (End2 × ℕ)) (e : End2) (n : ℕ) → Contains entries (e, n) →
    Contains (renumbered_ends f entries) (e, f n)
renumbered-listed f entries e n found = Contains-map (λ (x : End2 × ℕ). (x.0, f x.1)) entries (e, n) found

pub Lists-renumbered : (f : ℕ → ℕ) (entries : List (End2 × ℕ)) (P : End2 → ℕ → Type 0) → Lists entries P →
    Lists (renumbered_ends f entries) (Renumbered f P)
Lists-renumbered f entries P lists e n = (
  λ found. let was = listed-renumbered f entries e n found in record { number = was.number; holds = (lists e was.number).0 was.holds; is = was.is },
  λ is. subst (λ k. Contains (renumbered_ends f entries) (e, k)) (sym is.is) (renumbered-listed f entries e is.number ((lists e is.number).1 is.holds)),
)
