use Rattle.std.proofs.Common.{◌≡◌, ◌∷◌, length, Some, slice_get, refl, rules}
use Rattle.fm_code.specs.declared.instructions.Insn.TheVariants as insn
use Rattle.fm_exec.proofs.PlainSteps.{stuck-int, target-is, with-int}
use Rattle.fm_exec.proofs.jumps.table_switch.Goals as goal
use Rattle.fm_frames.specs.JumpRows.{table_effect, table_target}

pub returns-in_default : goal.returns-in_default
unfolding table_effect
returns-in_default g c =
    stuck-int c.args.program.now g.M.Memory.choose c.args.machine.now c.stuck.new.self 0 _ c.in_default.ensures
    (c.stuck.ensures c.requires.can.runnable g.M.Memory.choose)

pub returns : goal.returns
unfolding table_effect
returns g c =
    let p = c.args.program.now in
    let x = c.args.machine.now in
    let i = insn.Table c.args.low c.args.others c.args.targets.now in
    let target = table_target c.args.low (length c.args.targets.now) c.in-Some.key in
    let there : slice_get (c.args.others ∷ c.args.targets.now) target ≡ Some c.table_item-item.result = search rules in
    with-int p g.M.Memory.choose x c.jump.new.self 0 c.in-Some.key _ _ c.in-Some.ensures refl
    (c.jump.ensures p g.M.Memory.choose target (target-is p x i target c.table_item-item.result there c.requires.at))
