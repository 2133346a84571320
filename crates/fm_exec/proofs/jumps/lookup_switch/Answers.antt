use Rattle.std.proofs.Common.{length, position, take, refl, rules}
use Rattle.std.specs.Ordering.{int_eq}
use Rattle.fm_code.specs.declared.instructions.Insn.TheVariants as insn
use Rattle.fm_exec.proofs.KeySteps.{key-known}
use Rattle.fm_exec.proofs.PlainSteps.{stuck-int, target-is, with-int}
use Rattle.fm_exec.proofs.jumps.lookup_switch.Goals as goal
use Rattle.fm_frames.specs.JumpRows.{key_target, lookup_effect}

pub returns-in_default : goal.returns-in_default
unfolding lookup_effect
returns-in_default g c =
    stuck-int c.args.program.now g.M.Memory.choose c.args.machine.now c.stuck.new.self 0 _ c.in_default.ensures
    (c.stuck.ensures c.requires.can.runnable g.M.Memory.choose)

pub returns : goal.returns
unfolding lookup_effect
returns g c =
    let p = c.args.program.now in
    let x = c.args.machine.now in
    let i = insn.Lookup c.args.others c.args.keys.now c.args.targets.now in
    let target = key_target (position (int_eq c.in-Some.key) (take (length c.args.targets.now) c.args.keys.now)) in
    let there = key-known c.in-Some.key _ c.args.keys.now c.args.others c.key_item-item.result c.args.targets.now c.key_item-item.ensures (search rules) in
    with-int p g.M.Memory.choose x c.jump.new.self 0 c.in-Some.key _ _ c.in-Some.ensures refl
    (c.jump.ensures p g.M.Memory.choose target (target-is p x i target c.key_item-item.result there c.requires.at))
