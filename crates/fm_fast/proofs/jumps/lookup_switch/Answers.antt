use Rattle.std.proofs.Common.{length, position, take, refl, rules}
use Rattle.std.specs.Ordering.{int_eq}
use Rattle.fm_code.specs.declared.instructions.Insn.TheVariants as insn
use Rattle.fm_exec.proofs.KeySteps.{key-known}
use Rattle.fm_exec.proofs.PlainSteps.{target-is, with-int}
use Rattle.fm_fast.proofs.FlowSteps.{seen-on, switched}
use Rattle.fm_fast.proofs.jumps.lookup_switch.Goals as goal
use Rattle.fm_fast.specs.Flows.{on, stepped_on}
use Rattle.fm_frames.specs.JumpRows.{key_target, lookup_effect}
use Rattle.fm_frames.specs.inner.Doings.{int_in}

pub returns-clause-did : goal.returns-clause-did
unfolding lookup_effect
returns-clause-did c told p choose x at =
    let old = c.args.frames.now in
    let new = c.branch-frames.new.frames in
    let i = insn.Lookup c.args.others c.args.keys.now c.args.targets.now in
    let target = key_target (position (int_eq c.in-Some.key) (take (length c.args.targets.now) c.args.keys.now)) in
    let there = key-known c.in-Some.key _ c.args.keys.now c.args.others c.key_item-item.result c.args.targets.now c.key_item-item.ensures (search rules) in
    with-int p choose (on x old) (stepped_on x new) 0 c.in-Some.key _ _ (seen-on x old 0 int_in _ c.in-Some.ensures) refl
    (switched p choose x old new c.key_item-item.result target c.branch-frames.ensures
    (target-is p (on x old) i target c.key_item-item.result there at))
