-- No instruction is left over.
use Rattle.std.proofs.Common.{◌≡◌, true}
use Rattle.fm_code.specs.declared.instructions.Insn.{Insn}
use Rattle.fm_code.specs.declared.instructions.Insn.TheVariants as insn
use Rattle.fm_law_can_step.specs.Ready.{is_wanted}
use Rattle.fm_run.specs.declared.groups.Group.TheVariants as group
use Rattle.fm_run.specs.inner.Nexts.{group_of}
use Rattle.fm_world.specs.declared.uses.Use.{Use}

-- one that is left out isn't wanted
pub left-out : (i : Insn) (u : Use) → group_of i ≡ group.LeftOut → is_wanted i u ≡ true → ⊥
left-out (insn.LeftOut opcode) u left is = cc
left-out i u left is = cc
