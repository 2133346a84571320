use Rattle.std.proofs.Common.{◌+◌, ◌<◌, if◌then◌else◌, Err, ap, refl, subst, sym, arith}
use Rattle.fm_frames.specs.declared.turns.StepFail.TheVariants as fail
use Rattle.fm_run.proofs.Ranging.{breaks-later, fails-later, leads-keeps, leads-left, leads-none, leads-then, quiet-ok, same_error, went, went-less}
use Rattle.fm_run.proofs.runs.do_cheap_ones.Goals as goal
use Rattle.fm_run.specs.inner.Going.{LeadsQuietly, left_of}

pub loop-goes-init : goal.loop-goes-init
loop-goes-init g c = (leads-none c.args.program.now g.M.Memory.choose c.args.steps c.args.machine.now (g.S.Sink.output c.args.out.now), c.requires.keeps)

pub do_cheap-requires-clause-keeps : goal.do_cheap-requires-clause-keeps
do_cheap-requires-clause-keeps g c =
    let p = c.args.program.now in
    let choose = g.M.Memory.choose in
    let budget = c.args.steps in
    let x = c.args.machine.now in
    let y = c.loop-goes.machine in
    let z = c.do_frequent_ones.new.machine in
    let old = g.S.Sink.output c.args.out.now in
    let out = g.S.Sink.output c.loop-goes.out in
    let quietly = quiet-ok (LeadsQuietly p choose budget y z) c.do_frequent_ones.result _ c.in_ok-quiet.ensures c.do_frequent_ones.ensures in
    leads-keeps p choose budget y z out out (quietly out) c.loop-goes.invariant.1

pub loop-goes-preserved : goal.loop-goes-preserved
loop-goes-preserved g c =
    let p = c.args.program.now in
    let choose = g.M.Memory.choose in
    let budget = c.args.steps in
    let x = c.args.machine.now in
    let y = c.loop-goes.machine in
    let z = c.do_frequent_ones.new.machine in
    let old = g.S.Sink.output c.args.out.now in
    let out = g.S.Sink.output c.loop-goes.out in
    let quietly = quiet-ok (LeadsQuietly p choose budget y z) c.do_frequent_ones.result _ c.in_ok-quiet.ensures c.do_frequent_ones.ensures in
    went p choose budget x z c.do_cheap.new.machine old out (g.S.Sink.output c.do_cheap.new.out) _ c.in_ok-goes.ensures.did c.in_ok-goes.ensures.same
    (leads-then p choose budget x y z old out out c.loop-goes.invariant.0 (quietly out))
    (leads-keeps p choose budget y z out out (quietly out) c.loop-goes.invariant.1)

pub loop-goes-smaller : goal.loop-goes-smaller
loop-goes-smaller g c =
    let p = c.args.program.now in
    let choose = g.M.Memory.choose in
    let budget = c.args.steps in
    let x = c.args.machine.now in
    let y = c.loop-goes.machine in
    let z = c.do_frequent_ones.new.machine in
    let old = g.S.Sink.output c.args.out.now in
    let out = g.S.Sink.output c.loop-goes.out in
    let quietly = quiet-ok (LeadsQuietly p choose budget y z) c.do_frequent_ones.result _ c.in_ok-quiet.ensures c.do_frequent_ones.ensures in
    let w = c.do_cheap.new.machine in
    let less = went-less p choose budget z w out (g.S.Sink.output c.do_cheap.new.out) _ c.in_ok-goes.ensures.did c.in_ok-goes.ensures.same in
    let fewer = leads-left p choose budget y z out out (quietly out) in
    let all : left_of budget w + (if c.in_ok-goes.goes then 1 else 0) < left_of budget y + 1 = omega (arith, less, fewer) in
    subst (λ b. left_of budget w + (if c.in_ok-goes.goes then 1 else 0) < left_of budget y + (if b then 1 else 0)) (sym c.loop-goes-test.true) all

pub returns-in_err-quiet-clause-kept : goal.returns-in_err-quiet-clause-kept
returns-in_err-quiet-clause-kept g c wanting =
    let out = g.S.Sink.output c.loop-goes.out in
    breaks-later c.args.program.now g.M.Memory.choose c.args.steps c.args.machine.now c.loop-goes.machine (g.S.Sink.output c.args.out.now) out out
    c.loop-goes.invariant.0 refl

pub returns-in_err-goes-clause-failed : goal.returns-in_err-goes-clause-failed
returns-in_err-goes-clause-failed g c failed =
    let p = c.args.program.now in
    let choose = g.M.Memory.choose in
    let budget = c.args.steps in
    let x = c.args.machine.now in
    let y = c.loop-goes.machine in
    let z = c.do_frequent_ones.new.machine in
    let old = g.S.Sink.output c.args.out.now in
    let out = g.S.Sink.output c.loop-goes.out in
    let quietly = quiet-ok (LeadsQuietly p choose budget y z) c.do_frequent_ones.result _ c.in_ok-quiet.ensures c.do_frequent_ones.ensures in
    let why = same_error c.from_residual-in_err-goes.result c.in_err-goes.field-0.0 fail.SinkFailed c.from_residual-in_err-goes.ensures.1 failed in
    fails-later p choose budget x z old out (g.S.Sink.output c.do_cheap.new.out)
    (leads-then p choose budget x y z old out out c.loop-goes.invariant.0 (quietly out)) (c.in_err-goes.ensures.failed (ap Err why))

pub returns-in_err-goes-clause-kept : goal.returns-in_err-goes-clause-kept
returns-in_err-goes-clause-kept g c wanting =
    let p = c.args.program.now in
    let choose = g.M.Memory.choose in
    let budget = c.args.steps in
    let x = c.args.machine.now in
    let y = c.loop-goes.machine in
    let z = c.do_frequent_ones.new.machine in
    let old = g.S.Sink.output c.args.out.now in
    let out = g.S.Sink.output c.loop-goes.out in
    let quietly = quiet-ok (LeadsQuietly p choose budget y z) c.do_frequent_ones.result _ c.in_ok-quiet.ensures c.do_frequent_ones.ensures in
    let why = same_error c.from_residual-in_err-goes.result c.in_err-goes.field-0.0 fail.NoMemory c.from_residual-in_err-goes.ensures.1 wanting in
    breaks-later p choose budget x z old out (g.S.Sink.output c.do_cheap.new.out)
    (leads-then p choose budget x y z old out out c.loop-goes.invariant.0 (quietly out)) (c.in_err-goes.ensures.kept (ap Err why))

pub returns-clause-leads : goal.returns-clause-leads
returns-clause-leads g c = c.loop-goes.invariant.0
