use Rattle.std.proofs.Common.{rules, ◌≡◌, ℕ, List, ℤ, refl}
use Rattle.fm_code.specs.contracts.instructions.InsnClone.TheImpl.{by_variants}
use Rattle.fm_code.specs.declared.instructions.Insn.{Insn}
use Rattle.fm_code.specs.declared.instructions.Insn.TheVariants as insn
use Rattle.fm_code.proofs.instructions.Insn.copy.Goals as goal

-- the clone of an instruction that is no switch is the instruction
same_insn : (i j : Insn) → by_variants i j → ((low : ℤ) (others : ℕ) (targets : List ℕ) → i ≡ insn.Table low others targets → ⊥)
    → ((others : ℕ) (keys : List ℤ) (targets : List ℕ) → i ≡ insn.Lookup others keys targets → ⊥) → j ≡ i
same_insn (insn.Table low others targets) j clone table lookup = absurd (table low others targets refl)
same_insn (insn.Lookup others keys targets) j clone table lookup = absurd (lookup others keys targets refl)
same_insn i j clone table lookup = search rules

pub returns-in_ok-clone-in_default : goal.returns-in_ok-clone-in_default
returns-in_ok-clone-in_default c =
    same_insn c.args.self.now c.in_ok-clone-in_default.field-0 c.in_ok-clone-in_default.ensures.cases c.in_default.not-Table c.in_default.not-Lookup
