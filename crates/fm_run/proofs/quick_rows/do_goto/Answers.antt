use Rattle.std.proofs.Common.{◌≡◌, refl, subst}
use Rattle.fm_code.specs.declared.instructions.Insn.TheVariants as insn
use Rattle.fm_fast.specs.Flows.{on}
use Rattle.fm_frames.specs.Rows.{effect_of}
use Rattle.fm_run.proofs.FlatSteps.{row-flows}
use Rattle.fm_run.proofs.NextSteps.{at-row}
use Rattle.fm_run.proofs.QuickSteps.{insn-is, insn_for}
use Rattle.fm_run.proofs.quick_rows.do_goto.Goals as goal

pub returns-in-Goto-clause-did : goal.returns-in-Goto-clause-did
unfolding effect_of
returns-in-Goto-clause-did c told p method i has =
    let is : i ≡ insn.Goto c.in-Goto.target = subst (λ q. i ≡ insn_for q i) c.in-Goto.is (insn-is p method i c.args.quick.now has) in
    row-flows p method c.args.frames.now c.go_to.new.frames i (insn.Goto c.in-Goto.target) is refl
    (λ choose x at. c.go_to.ensures p choose x (at-row p (on x c.args.frames.now) i (insn.Goto c.in-Goto.target) at is))
