-- The numbers to which an instruction leads.
use Rattle.std.proofs.Common.{◌≡◌, ℕ, ◌+◌, ◌<◌, ◌↔◌, true, [], ◌∷◌, ◌++◌, Contains, inl, inr, ⊎_elim, sym, subst, arith}
use Rattle.std.proofs.lemmas.List.Elements.{All-contains, All-from_recursion, Contains-append_left, Contains-push, Contains-push_cases}
use Rattle.std.specs.List.{AllByRecursion}
use Rattle.fm_code.specs.Edges.{falls_through, LeadsTo}
use Rattle.fm_code.specs.SpellsCode.{targets_of}
use Rattle.fm_code.specs.declared.instructions.Insn.{Insn}

-- the numbers below the count to which the instruction of item j leads
abbrev pub Onward : Insn → ℕ → ℕ → ℕ → Type 0
Onward i j count next = (next < count) × LeadsTo i j next

target_below : (i : Insn) (count x : ℕ) → AllByRecursion (λ target. target < count) (targets_of i) → Contains (targets_of i) x → x < count
target_below i count x inside found =
    All-contains (λ target. target < count) (targets_of i) x (All-from_recursion (λ target. target < count) (targets_of i) inside) found

-- where control goes on to the next item, they are the targets and that item
pub Onward-next : (i : Insn) (j count : ℕ) → AllByRecursion (λ target. target < count) (targets_of i) → falls_through i ≡ true → j + 1 < count →
    (x : ℕ) → Contains (targets_of i ++ (j + 1) ∷ []) x ↔ Onward i j count x
Onward-next i j count inside falls below x = (
  λ found. ⊎_elim (λ named. (target_below i count x inside named, inl named)) (λ (same : j + 1 ≡ x). (omega arith, inr (falls, sym same)))
      (Contains-push_cases (targets_of i) (j + 1) x found),
  λ onward. ⊎_elim (λ named. Contains-append_left (targets_of i) ((j + 1) ∷ []) x named)
      (λ after. let P : ℕ → Type 0 = λ n. Contains (targets_of i ++ (j + 1) ∷ []) n in subst P (sym after.1) (Contains-push (targets_of i) (j + 1)))
      onward.1,
)

-- and else they are the targets
pub Onward-targets : (i : Insn) (j count : ℕ) → AllByRecursion (λ target. target < count) (targets_of i) → (falls_through i ≡ true → j + 1 < count → ⊥) →
    (x : ℕ) → Contains (targets_of i) x ↔ Onward i j count x
Onward-targets i j count inside stays x = (
  λ named. (target_below i count x inside named, inl named),
  λ onward. ⊎_elim (λ named. named) (λ after. let below = onward.0 in let same = after.1 in absurd (stays after.0 (omega arith))) onward.1,
)
