use Rattle.std.proofs.Common.{◌≡◌, ◌∷◌, length, Some, slice_get, refl, rules}
use Rattle.fm_code.specs.declared.instructions.Insn.TheVariants as insn
use Rattle.fm_exec.proofs.PlainSteps.{target-is, with-int}
use Rattle.fm_fast.proofs.FlowSteps.{seen-on, switched}
use Rattle.fm_fast.proofs.jumps.table_switch.Goals as goal
use Rattle.fm_fast.specs.Flows.{on, stepped_on}
use Rattle.fm_frames.specs.JumpRows.{table_effect, table_target}
use Rattle.fm_frames.specs.inner.Doings.{int_in}

pub returns-clause-did : goal.returns-clause-did
unfolding table_effect
returns-clause-did c told p choose x at =
    let old = c.args.frames.now in
    let new = c.branch-frames.new.frames in
    let i = insn.Table c.args.low c.args.others c.args.targets.now in
    let target = table_target c.args.low (length c.args.targets.now) c.in-Some.key in
    let there : slice_get (c.args.others ∷ c.args.targets.now) target ≡ Some c.table_item-item.result = search rules in
    with-int p choose (on x old) (stepped_on x new) 0 c.in-Some.key _ _ (seen-on x old 0 int_in _ c.in-Some.ensures) refl
    (switched p choose x old new c.table_item-item.result target c.branch-frames.ensures
    (target-is p (on x old) i target c.table_item-item.result there at))
