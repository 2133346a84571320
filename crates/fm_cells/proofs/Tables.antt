-- What a map has at a cell that is given by its values at the first numbers, and how it follows them.
use Rattle.std.proofs.Common.{◌≡◌, ℕ, zero, suc, ◌<◌, ◌≤◌, cond, sym, ◌∙◌, ap, nat_eq, arith, inl, inr}
use Rattle.std.specs.Prelude.{Option, Some, None}
use Rattle.std.specs.Ordering.{nat_cmp}
use Rattle.std.specs.Cmp.{nat_cmp_total}
use Rattle.std.specs.FinMap as fin
use Rattle.std.specs.FinMap.{gets}
use Rattle.std.proofs.lemmas.Bool.{cases_eq, cases_lt}
use Rattle.std.proofs.lemmas.Bool.Decides.{nat_tests}
use Rattle.fm_cells.specs.Objects.{Object}
use Rattle.fm_cells.specs.inner.Tables.{with_entry, map_of}

get-insert_nat : (m : fin.FinMap nat_cmp Object) (cell : ℕ) (object : Object) (q : ℕ) → fin.get (fin.insert m cell object) q ≡ cond (nat_eq q cell) (Some object) (fin.get m q)
get-insert_nat m cell object q = grind (arith, gets, nat_tests)

get-remove_nat : (m : fin.FinMap nat_cmp Object) (cell q : ℕ) → fin.get (fin.remove m cell) q ≡ cond (nat_eq q cell) None (fin.get m q)
get-remove_nat m cell q = grind (arith, gets, nat_tests)

get-with_entry : (o : Option Object) (cell : ℕ) (m : fin.FinMap nat_cmp Object) (q : ℕ) → fin.get m cell ≡ None → fin.get (with_entry o cell m) q ≡ cond (nat_eq q cell) o (fin.get m q)
get-with_entry None cell m q none = elim (cases_eq q cell) as (λ _. fin.get m q ≡ cond (nat_eq q cell) None (fin.get m q)) [
  | inl e ↦ grind (arith, nat_tests)
  | inr e ↦ grind (arith, nat_tests)
]
get-with_entry (Some object) cell m q none = grind (arith, gets, nat_tests)

get-map_of-past : (object_in : ℕ → Option Object) (n cell : ℕ) → n ≤ cell → fin.get (map_of object_in n) cell ≡ None
unfolding map_of
get-map_of-past object_in zero cell h = fin.get-empty nat_cmp cell
get-map_of-past object_in (suc n) cell h =
    let rest = get-map_of-past object_in n in
    get-with_entry (object_in n) n (map_of object_in n) cell (rest n (omega arith)) ∙ grind (arith, nat_tests, rest cell (omega arith))

get-map_of-below : (object_in : ℕ → Option Object) (n cell : ℕ) → cell < n → fin.get (map_of object_in n) cell ≡ object_in cell
unfolding map_of
get-map_of-below object_in zero cell h = absurd (omega arith)
get-map_of-below object_in (suc n) cell h =
    get-with_entry (object_in n) n (map_of object_in n) cell (get-map_of-past object_in n n (omega arith)) ∙ elim (cases_eq cell n) as (λ _. cond (nat_eq cell n) (object_in n) (fin.get (map_of object_in n) cell) ≡ object_in cell) [
      | inl e ↦ grind (arith, nat_tests)
      | inr e ↦ let below : fin.get (map_of object_in n) cell ≡ object_in cell = get-map_of-below object_in n cell (omega arith) in grind (arith, nat_tests, below)
    ]

-- the map has what it is given by, where there is nothing past its end
pub get-map_of : (object_in : ℕ → Option Object) (n cell : ℕ) → (n ≤ cell → object_in cell ≡ None) → fin.get (map_of object_in n) cell ≡ object_in cell
get-map_of object_in n cell past = elim (cases_lt cell n) as (λ _. fin.get (map_of object_in n) cell ≡ object_in cell) [
  | inl h ↦ get-map_of-below object_in n cell h
  | inr h ↦ get-map_of-past object_in n cell h ∙ sym (past h)
]

-- a change of one cell is an insert
pub map_of-insert : (before after : ℕ → Option Object) (n m cell : ℕ) (object : Object) → ((q : ℕ) → n ≤ q → before q ≡ None) → ((q : ℕ) → m ≤ q → after q ≡ None) → ((q : ℕ) → after q ≡ cond (nat_eq q cell) (Some object) (before q)) → map_of after m ≡ fin.insert (map_of before n) cell object
map_of-insert before after n m cell object past past' at =
    fin.same_map nat_cmp_total fin.nat_cmp-IsAntisymmetric _ _ (λ q. get-map_of after m q (past' q) ∙ at q ∙ ap (λ o. cond (nat_eq q cell) (Some object) o) (sym (get-map_of before n q (past q))) ∙ sym (get-insert_nat (map_of before n) cell object q))

-- a cell that is given up is a remove
pub map_of-remove : (before after : ℕ → Option Object) (n m cell : ℕ) → ((q : ℕ) → n ≤ q → before q ≡ None) → ((q : ℕ) → m ≤ q → after q ≡ None) → ((q : ℕ) → after q ≡ cond (nat_eq q cell) None (before q)) → map_of after m ≡ fin.remove (map_of before n) cell
map_of-remove before after n m cell past past' at =
    fin.same_map nat_cmp_total fin.nat_cmp-IsAntisymmetric _ _ (λ q. get-map_of after m q (past' q) ∙ at q ∙ ap (λ o. cond (nat_eq q cell) None o) (sym (get-map_of before n q (past q))) ∙ sym (get-remove_nat (map_of before n) cell q))
