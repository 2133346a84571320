use Rattle.fm_frames.specs.inner.Frames.{place}
use Rattle.fm_law_can_step.proofs.Standing.{can_step, standing}
use Rattle.fm_run.proofs.Standing.{has-code, has-frame, item-inside, stands-here}
use Rattle.fm_run.proofs.steps.advance.Goals as goal

pub next_place-place-requires : goal.next_place-place-requires
next_place-place-requires g c =
    has-frame c.args.program.now c.args.machine.now (standing c.args.program.now c.args.machine.now c.requires.run c.requires.going)

pub code_in-code-requires-clause-runnable : goal.code_in-code-requires-clause-runnable
code_in-code-requires-clause-runnable g c = c.requires.run.steps.calls.runnable

pub code_in-code-requires-clause-coded : goal.code_in-code-requires-clause-coded
code_in-code-requires-clause-coded g c =
    let s = standing c.args.program.now c.args.machine.now c.requires.run c.requires.going in
    has-code c.args.program.now c.args.machine.now s (place c.next_place-place.result) (c.next_place-place.ensures s.frame s.callers s.frames_is)

pub insn_in-insn-requires : goal.insn_in-insn-requires
insn_in-insn-requires g c =
    let s = standing c.args.program.now c.args.machine.now c.requires.run c.requires.going in
    item-inside c.args.program.now c.args.machine.now s (place c.next_place-place.result) c.code_in-code.result.now (c.next_place-place.ensures s.frame s.callers s.frames_is)
    c.code_in-code.ensures

pub do_step-requires-clause-can : goal.do_step-requires-clause-can
do_step-requires-clause-can g c = can_step c.args.program.now c.args.machine.now c.requires.run c.requires.going

pub do_step-requires-clause-at : goal.do_step-requires-clause-at
do_step-requires-clause-at g c =
    let s = standing c.args.program.now c.args.machine.now c.requires.run c.requires.going in
    stands-here c.args.program.now c.args.machine.now s (place c.next_place-place.result) c.code_in-code.result.now c.insn_in-insn.result.now
    (c.next_place-place.ensures s.frame s.callers s.frames_is) c.code_in-code.ensures c.insn_in-insn.ensures
