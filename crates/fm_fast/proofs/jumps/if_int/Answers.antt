use Rattle.std.proofs.Common.{◌≡◌, pos, refl, ap, rules}
use Rattle.fm_code.specs.declared.instructions.Insn.TheVariants as insn
use Rattle.fm_exec.proofs.PlainSteps.{target-is, with-int}
use Rattle.fm_fast.proofs.FlowSteps.{branched, seen-on}
use Rattle.fm_fast.proofs.jumps.if_int.Goals as goal
use Rattle.fm_fast.specs.Flows.{on, stepped_on}
use Rattle.fm_frames.specs.Effects.{going}
use Rattle.fm_frames.specs.JumpRows.{holds, int_jump_effect, jumps_if}
use Rattle.fm_frames.specs.inner.Doings.{int_in}

pub returns-clause-did : goal.returns-clause-did
unfolding int_jump_effect
returns-clause-did c told p choose x at =
    let old = c.args.frames.now in
    let new = c.branch-frames.new.frames in
    let a = c.int_there-a.result in
    let taken : holds c.args.test a (pos 0) ≡ c.holds.result = search rules in
    with-int p choose (on x old) (stepped_on x new) 0 a _ _ (seen-on x old 0 int_in _ c.int_there-a.ensures)
    (ap (λ b. going 1 (jumps_if b)) taken)
    (branched p choose x old new 1 c.holds.result c.args.target c.requires.fits c.branch-frames.ensures
    (target-is p (on x old) (insn.IfInt c.args.test c.args.target) 0 c.args.target refl at))
