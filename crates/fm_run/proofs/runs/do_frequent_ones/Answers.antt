use Rattle.std.proofs.Common.{◌+◌, ◌<◌, if◌then◌else◌, subst, sym}
use Rattle.fm_run.proofs.Ranging.{leads-none, quietly-goes-less, quietly-keeps, quietly-then}
use Rattle.fm_run.proofs.runs.do_frequent_ones.Goals as goal
use Rattle.fm_run.specs.inner.Going.{left_of}

pub loop-goes-init : goal.loop-goes-init
loop-goes-init g c = (λ out. leads-none c.args.program.now g.M.Memory.choose c.args.steps c.args.machine.now out, c.requires.keeps)

pub loop-goes-preserved : goal.loop-goes-preserved
loop-goes-preserved g c =
    let p = c.args.program.now in
    let choose = g.M.Memory.choose in
    let budget = c.args.steps in
    let x = c.args.machine.now in
    let y = c.loop-goes.machine in
    let z = c.do_flat_ones_and_next.new.machine in (
      quietly-then p choose budget x y z c.loop-goes.invariant.0 c.in_ok-goes.ensures.leads,
      quietly-keeps p choose budget y z c.in_ok-goes.ensures.leads c.loop-goes.invariant.1,
    )

pub loop-goes-smaller : goal.loop-goes-smaller
loop-goes-smaller g c =
    let x = c.loop-goes.machine in
    let y = c.do_flat_ones_and_next.new.machine in
    subst (λ b. left_of c.args.steps y + (if c.in_ok-goes.goes then 1 else 0) < left_of c.args.steps x + (if b then 1 else 0)) (sym c.loop-goes-test.true)
    (quietly-goes-less c.args.program.now g.M.Memory.choose c.args.steps x y _ c.in_ok-goes.ensures.leads c.in_ok-goes.ensures.less)

pub returns : goal.returns
returns g c = c.loop-goes.invariant.0
