use Rattle.std.proofs.Common.{◌≡◌, pos, refl, ap, rules}
use Rattle.fm_code.specs.declared.instructions.Insn.TheVariants as insn
use Rattle.fm_exec.proofs.PlainSteps.{stuck-int, target-is, with-int}
use Rattle.fm_exec.proofs.jumps.if_int.Goals as goal
use Rattle.fm_frames.specs.Effects.{going}
use Rattle.fm_frames.specs.JumpRows.{holds, int_jump_effect, jumps_if}

pub returns-in_default : goal.returns-in_default
unfolding int_jump_effect
returns-in_default g c =
    stuck-int c.args.program.now g.M.Memory.choose c.args.machine.now c.stuck.new.self 0 _ c.in_default.ensures
    (c.stuck.ensures c.requires.can.runnable g.M.Memory.choose)

pub returns : goal.returns
unfolding int_jump_effect
returns g c =
    let told : holds c.args.test c.in-Some.a (pos 0) ≡ c.holds.result = search rules in
    with-int c.args.program.now g.M.Memory.choose c.args.machine.now c.branch-machine.new.machine 0 c.in-Some.a _ _ c.in-Some.ensures
    (ap (λ b. going 1 (jumps_if b)) told)
    (c.branch-machine.ensures c.args.program.now g.M.Memory.choose
    (target-is c.args.program.now c.args.machine.now (insn.IfInt c.args.test c.args.target) 0 c.args.target refl c.requires.at))
