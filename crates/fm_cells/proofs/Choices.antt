-- Choices that are made lawful: each may be made, and a choice that may be made is left as it is.
use Rattle.std.proofs.Common.{◌≡◌, ℕ, ◌+◌, ◌<◌, ◌≤◌, ◌&&◌, Bool, true, false, not, cond, List, [], ◌∷◌, max, refl, sym, ◌∙◌, ap, subst, arith, is_some, nat_lt}
use Rattle.std.specs.Prelude.{Some, None}
use Rattle.std.specs.Ordering.{nat_cmp, is_eq}
use Rattle.std.specs.declared.cmp.Ordering.TheVariants.{Less, Equal, Greater}
use Rattle.std.specs.FinMap as map
use Rattle.std.specs.FinMap.{find}
use Rattle.std.proofs.lemmas.Option.{none-some}
use Rattle.std.proofs.lemmas.Bool.{lt-ltb, ltb-true}
use Rattle.fm_cells.specs.Objects.{Object, Request, request_size_class}
use Rattle.fm_cells.specs.Stores.{Store, object_at, passes_limit, free_cells}
use Rattle.fm_cells.specs.Changes.{Choice, Take, RefuseStore}
use Rattle.fm_cells.specs.Choices.{MayReuse, IsLawful, never_choice, last_choice, new_cell_choice, last_choice_among, greatest_cell, cell_above, lawful_choice, lawful}
use Rattle.fm_cells.specs.Soundness.{IsNeverReused, IsLastReused}
use Rattle.fm_cells.proofs.LastReused.{MayReuse-head, MayReuse-after}
use Rattle.fm_cells.proofs.NeverReused.{MayReuse-next}

-- each held cell is at most the greatest
find-le : (cell : ℕ) (entries : List (ℕ × Object)) (object : Object) → find nat_cmp cell entries ≡ Some object → cell ≤ greatest_cell entries
find-le cell [] object h = absurd (none-some object h)
find-le cell (entry ∷ entries) object h =
    elim (nat_cmp cell entry.0) as (λ r. nat_cmp cell entry.0 ≡ r → cond (is_eq r) (Some entry.1) (find nat_cmp cell entries) ≡ Some object → cell ≤ max entry.0 (greatest_cell entries)) [
      | Less ↦ λ _ e. omega (arith, find-le cell entries object e)
      | Equal ↦ λ same _. omega (arith, map.nat_cmp-IsAntisymmetric cell entry.0 same)
      | Greater ↦ λ _ e. omega (arith, find-le cell entries object e)
    ] refl h

-- the cell above all held cells isn't held
cell_above-free : (store : Store) → object_at store (cell_above store) ≡ None
cell_above-free store =
    elim (object_at store (cell_above store)) as (λ o. object_at store (cell_above store) ≡ o → o ≡ None) [
      | None ↦ λ _. refl
      | Some object ↦ λ e. absurd (omega (arith, find-le (cell_above store) (map.entries store.held) object (sym (map.get-entries store.held (cell_above store)) ∙ e)))
    ] refl

MayReuse-above : (store : Store) (request : Request) → MayReuse store request (Take (cell_above store) true)
MayReuse-above store request = (omega arith, cell_above-free store)

-- a cell above 0 that isn't held is taken as it was chosen
take-left : (store : Store) (cell : ℕ) (grows : Bool) → 0 < cell → object_at store cell ≡ None → cond (nat_lt 0 cell && not (is_some (object_at store cell))) (Take cell grows) (Take (cell_above store) true) ≡ Take cell grows
take-left store cell grows above free =
    ap (λ b. cond (b && not (is_some (object_at store cell))) (Take cell grows) (Take (cell_above store) true)) (lt-ltb 0 cell above)
    ∙ ap (λ o. cond (not (is_some o)) (Take cell grows) (Take (cell_above store) true)) free

-- a choice that may be made is left as it is
pub lawful_choice-left : (store : Store) (request : Request) (choice : Choice) → MayReuse store request choice → lawful_choice store request choice ≡ choice
lawful_choice-left store request (Take cell grows) may = take-left store cell grows may.0 may.1
lawful_choice-left store request RefuseStore may = ap (λ b. cond b RefuseStore (Take (cell_above store) true)) may

-- and what holds of it holds of the choice that is made lawful
pub lawful-holds : (choose : Store → Request → Choice) (store : Store) (request : Request) → MayReuse store request (choose store request) → (P : Choice → Type 0) → P (choose store request) → P (lawful choose store request)
lawful-holds choose store request may P h = subst P (sym (lawful_choice-left store request (choose store request) may)) h

-- a function of such choices is left as it is
pub lawful-is : (choose : Store → Request → Choice) → IsLawful choose → lawful choose ≡ choose
lawful-is choose may = λ i store request. lawful_choice-left store request (choose store request) (may store request) i

-- what is made lawful may be made
take-may : (store : Store) (request : Request) (cell : ℕ) (grows : Bool) → MayReuse store request (cond (nat_lt 0 cell && not (is_some (object_at store cell))) (Take cell grows) (Take (cell_above store) true))
take-may store request cell grows =
    elim (nat_lt 0 cell) as (λ b. nat_lt 0 cell ≡ b → MayReuse store request (cond (b && not (is_some (object_at store cell))) (Take cell grows) (Take (cell_above store) true))) [
      | true ↦ λ above.
          elim (object_at store cell) as (λ o. object_at store cell ≡ o → MayReuse store request (cond (not (is_some o)) (Take cell grows) (Take (cell_above store) true))) [
            | None ↦ λ free. (ltb-true 0 cell above, free)
            | Some object ↦ λ _. MayReuse-above store request
          ] refl
      | false ↦ λ _. MayReuse-above store request
    ] refl

pub lawful_choice-may : (store : Store) (request : Request) (choice : Choice) → MayReuse store request (lawful_choice store request choice)
lawful_choice-may store request (Take cell grows) = take-may store request cell grows
lawful_choice-may store request RefuseStore =
    elim (passes_limit store request) as (λ b. passes_limit store request ≡ b → MayReuse store request (cond b RefuseStore (Take (cell_above store) true))) [
      | true ↦ λ e. e
      | false ↦ λ _. MayReuse-above store request
    ] refl

-- a new cell that may be taken is chosen, or the store is full
new_cell : (store : Store) (request : Request) (cell : ℕ) → MayReuse store request (Take cell true) → MayReuse store request (new_cell_choice store request cell)
new_cell store request cell may =
    elim (passes_limit store request) as (λ b. passes_limit store request ≡ b → MayReuse store request (cond b RefuseStore (Take cell true))) [
      | true ↦ λ e. e
      | false ↦ λ e. may
    ] refl

-- memory that is never reused chooses as memory that reuses cells in any way may
pub MayReuse-never_choice : (store : Store) (request : Request) → IsNeverReused store → MayReuse store request (never_choice store request)
MayReuse-never_choice store request never = new_cell store request (store.births + 1) (MayReuse-next store request true never)

-- and so does memory that takes the last freed cell
pub MayReuse-last_choice : (store : Store) (request : Request) → IsLastReused store → MayReuse store request (last_choice store request)
MayReuse-last_choice store request last =
    elim (free_cells store (request_size_class request)) as (λ cells. free_cells store (request_size_class request) ≡ cells → MayReuse store request (last_choice_among cells store request)) [
      | [] ↦ λ e. new_cell store request (store.made_words + 1) (MayReuse-after store request true last)
      | cell ∷ rest ↦ λ e. MayReuse-head store request cell rest false last e
    ] refl
