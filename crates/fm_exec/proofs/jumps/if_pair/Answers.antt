use Rattle.std.proofs.Common.{◌≡◌, refl, ap, rules}
use Rattle.fm_code.specs.declared.instructions.Insn.TheVariants as insn
use Rattle.fm_exec.proofs.PlainSteps.{stuck-int, target-is, with-int}
use Rattle.fm_exec.proofs.jumps.if_pair.Goals as goal
use Rattle.fm_frames.specs.Effects.{going}
use Rattle.fm_frames.specs.JumpRows.{holds, jumps_if, pair_jump_effect}

pub returns-in_default : goal.returns-in_default
unfolding pair_jump_effect
returns-in_default g c =
    stuck-int c.args.program.now g.M.Memory.choose c.args.machine.now c.stuck.new.self 0 _ c.in_default.ensures
    (c.stuck.ensures c.requires.can.runnable g.M.Memory.choose)

pub returns-in_default-int_operand : goal.returns-in_default-int_operand
unfolding pair_jump_effect
returns-in_default-int_operand g c =
    with-int c.args.program.now g.M.Memory.choose c.args.machine.now c.stuck-in_default-int_operand.new.self 0 c.in-Some.b _ _ c.in-Some.ensures refl
    (stuck-int c.args.program.now g.M.Memory.choose c.args.machine.now c.stuck-in_default-int_operand.new.self 1 _ c.in_default-int_operand.ensures
    (c.stuck-in_default-int_operand.ensures c.requires.can.runnable g.M.Memory.choose))

pub returns : goal.returns
unfolding pair_jump_effect
returns g c =
    let told : holds c.args.test c.in-Some-int_operand.a c.in-Some.b ≡ c.holds.result = search rules in
    with-int c.args.program.now g.M.Memory.choose c.args.machine.now c.branch-machine.new.machine 0 c.in-Some.b _ _ c.in-Some.ensures refl
    (with-int c.args.program.now g.M.Memory.choose c.args.machine.now c.branch-machine.new.machine 1 c.in-Some-int_operand.a _ _ c.in-Some-int_operand.ensures
    (ap (λ b. going 2 (jumps_if b)) told)
    (c.branch-machine.ensures c.args.program.now g.M.Memory.choose
    (target-is c.args.program.now c.args.machine.now (insn.IfPair c.args.test c.args.target) 0 c.args.target refl c.requires.at)))
