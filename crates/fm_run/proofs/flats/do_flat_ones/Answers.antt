use Rattle.std.proofs.Common.{◌≡◌, ◌+◌, None, true, false, ap, ◌∙◌, sym, subst, rules}
use Rattle.fm_fast.specs.Flows.{resumed}
use Rattle.fm_run.proofs.FlatSteps.{taken-out, then-went, went-joined}
use Rattle.fm_run.proofs.Ranging.{leads-none}
use Rattle.fm_run.proofs.flats.do_flat_ones.Goals as goal
use Rattle.fm_run.proofs.flats.do_flat_ones.Goals.{else-loop-counted-test, then-loop-counted-test+in_default, then-loop-counted-test+in-Some+then-counted-steps, then-loop-counted-test+in-Some+else-counted-steps+then-not-did}
use Rattle.fm_run.specs.inner.Flats.{WentOn}
use Rattle.fm_run.specs.inner.Going.{Keeps, LeadsQuietly}

pub loop-counted-init : goal.loop-counted-init
loop-counted-init g c =
    let p = c.args.program.now in
    let choose = g.M.Memory.choose in
    let x = c.args.machine.now in
    let on : c.args.machine.now.ended ≡ None = search rules in
    let first =
    taken-out x c.take_frames-frames.new.self c.take_frames-frames.result c.steps-counted.result c.take_frames-frames.ensures.rest
    c.take_frames-frames.ensures.frames c.steps-counted.ensures in record {
      leads = subst (LeadsQuietly p choose c.args.steps x) (sym first) (λ out. leads-none p choose c.args.steps x out);
      keeps = subst (Keeps p c.args.steps) (sym first) c.requires.keeps;
      on = ap (λ z. z.ended) c.take_frames-frames.ensures.rest ∙ on;
    }

pub loop-counted-preserved : goal.loop-counted-preserved
loop-counted-preserved g c =
    let p = c.args.program.now in
    let choose = g.M.Memory.choose in
    let did : c.do_next_out_of_line-did.result ≡ true = search rules in
    then-went p choose c.args.steps c.args.machine.now (resumed c.flow-flowed.new.machine c.flow-flowed.result.0 c.flow-flowed.result.1)
    (resumed c.do_next_out_of_line-did.new.machine c.do_next_out_of_line-did.new.frames (c.flow-flowed.result.1 + 1))
    (then-went p choose c.args.steps c.args.machine.now (resumed c.loop-counted.machine c.loop-counted.frames c.loop-counted.counted)
    (resumed c.flow-flowed.new.machine c.flow-flowed.result.0 c.flow-flowed.result.1) c.loop-counted.invariant c.flow-flowed.ensures.went)
    (c.do_next_out_of_line-did.ensures.did did)

pub flow-flowed-requires-clause-quicks : goal.flow-flowed-requires-clause-quicks
flow-flowed-requires-clause-quicks g c = c.in-Some.ensures

pub returns-then-is_some : goal.returns-then-is_some
returns-then-is_some g c out = leads-none c.args.program.now g.M.Memory.choose c.args.steps c.args.machine.now out

pub returns : goal.returns
returns g c =
    let p = c.args.program.now in
    let choose = g.M.Memory.choose in
    let b = c.args.steps in
    let x = c.args.machine.now in
    let m = c.loop-counted.machine in
    let f = c.loop-counted.frames in
    let n = c.loop-counted.counted in
    let here = c.loop-counted.invariant in
    let last = c.loop-counted-test in
    let went : WentOn p choose b x (resumed last.machine last.frames last.counted) =
    elim last.branch [
      | else-loop-counted-test w ↦ went-joined p choose b x m last.machine f last.frames n last.counted w.machine-is w.frames-is w.counted-is here
      | then-loop-counted-test+in_default w ↦ went-joined p choose b x m last.machine f last.frames n last.counted w.machine-is w.frames-is w.counted-is here
      | then-loop-counted-test+in-Some+then-counted-steps w ↦
          went-joined p choose b x w.flow-flowed.new.machine last.machine w.flow-flowed.result.0 last.frames w.flow-flowed.result.1 last.counted
          w.machine-is w.frames-is w.counted-is
          (then-went p choose b x (resumed m f n) (resumed w.flow-flowed.new.machine w.flow-flowed.result.0 w.flow-flowed.result.1) here
          w.flow-flowed.ensures.went)
      | then-loop-counted-test+in-Some+else-counted-steps+then-not-did w ↦
          let didnt : w.do_next_out_of_line-did.result ≡ false = search rules in
          went-joined p choose b x w.flow-flowed.new.machine last.machine w.flow-flowed.result.0 last.frames w.flow-flowed.result.1 last.counted
          (w.machine-is ∙ w.do_next_out_of_line-did.ensures.kept didnt) (w.frames-is ∙ w.do_next_out_of_line-did.ensures.same didnt) w.counted-is
          (then-went p choose b x (resumed m f n) (resumed w.flow-flowed.new.machine w.flow-flowed.result.0 w.flow-flowed.result.1) here
          w.flow-flowed.ensures.went)
    ] in
    subst (LeadsQuietly p choose b x) (sym c.put_frames.ensures) went.leads
