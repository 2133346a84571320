-- Local variables that hold a reference which may still be loaded (JVMS 2.6.1, 6.5.aload).
use Rattle.std.specs.Prelude.{◌≡◌, ℕ, ◌+◌, ◌==◌, ◌||◌, Bool, false, List, [], ◌∷◌, Some, IsSomeAnd}
use Rattle.fm_code.specs.Edges.{insn_of, IsEdge}
use Rattle.fm_code.specs.declared.code_array.Code.{Code}
use Rattle.fm_code.specs.declared.operations.Reg.TheVariants as reg
use Rattle.fm_code.specs.declared.instructions.Insn.{Insn}
use Rattle.fm_code.specs.declared.instructions.Insn.TheVariants as insn

-- whether the instruction stores over local k; a long takes its local and the next one (JVMS 2.6.1)
abbrev pub stores_over : ℕ → Insn → Bool
stores_over k (insn.Store reg.Int local) = local == k
stores_over k (insn.Store reg.Ref local) = local == k
stores_over k (insn.Store reg.Long local) = (local == k) || (local + 1 == k)
stores_over k i = false

-- item j loads a reference from local k
abbrev pub Loads : Code → ℕ → ℕ → Type 0
Loads code k j = insn_of code j ≡ Some (insn.Load reg.Ref k)

-- item j stores nothing over local k
abbrev pub Keeps : Code → ℕ → ℕ → Type 0
Keeps code k j = IsSomeAnd (insn_of code j) (λ i. stores_over k i ≡ false)

-- the items lead from item j to one that loads from local k, each with an edge to the next, and none before it stores over k
abbrev pub LeadsToLoad : Code → ℕ → ℕ → List ℕ → Type 0
LeadsToLoad code k j [] = Loads code k j
LeadsToLoad code k j (next ∷ rest) = Keeps code k j × IsEdge code j next × LeadsToLoad code k next rest

-- local k is live at item j
abbrev pub Live : Code → ℕ → ℕ → Type 0
Live code k j = (path : List ℕ) × LeadsToLoad code k j path
