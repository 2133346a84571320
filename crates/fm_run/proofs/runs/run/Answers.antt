use Rattle.std.proofs.Common.{◌≡◌, ◌<◌, ◌^◌, false, true, Err, ap, refl, sym, ◌∙◌, arith}
use Rattle.fm_frames.specs.declared.turns.StepFail.TheVariants as fail
use Rattle.fm_run.proofs.Keeping.{run-keeps_whole, run-makes_most}
use Rattle.fm_run.proofs.Ranging.{cost-some, keeps-going, leads-left, left-less, ran-breaks, ran-ends, ran-fails, ran-more, ran-none, same_error}
use Rattle.fm_run.proofs.runs.run.Goals as goal

pub loop-alloc-init : goal.loop-alloc-init
loop-alloc-init g c =
    ran-none c.args.program.now g.M.Memory.choose c.args.steps c.args.machine.now (g.S.Sink.output c.args.out.now) c.requires.going

pub returns-in_default-clause-kept : goal.returns-in_default-clause-kept
returns-in_default-clause-kept g c wanting =
    let out = g.S.Sink.output c.args.out.now in
    ran-breaks c.args.program.now g.M.Memory.choose c.args.steps c.args.machine.now c.args.machine.now out out out
    (ran-none c.args.program.now g.M.Memory.choose c.args.steps c.args.machine.now out c.requires.going) refl

pub goes-requires-clause-few : goal.goes-requires-clause-few
goes-requires-clause-few g c = omega (arith, c.requires.going.births)

pub advance-requires-clause-going : goal.advance-requires-clause-going
advance-requires-clause-going g c =
    let few : c.args.steps < 2 ^ 64 = omega (arith, c.requires.going.births) in
    keeps-going c.args.program.now c.args.steps c.loop-alloc.machine few c.loop-alloc.invariant.keeps (c.goes.ensures.0 c.loop-alloc-test.true)

pub do_cheap_ones-requires-clause-few : goal.do_cheap_ones-requires-clause-few
do_cheap_ones-requires-clause-few g c = omega (arith, c.requires.going.births)

pub do_cheap_ones-requires-clause-keeps : goal.do_cheap_ones-requires-clause-keeps
do_cheap_ones-requires-clause-keeps g c =
    (ran-more c.args.program.now g.M.Memory.choose c.args.steps c.args.machine.now c.loop-alloc.machine
    (g.S.Sink.output c.args.out.now) (g.S.Sink.output c.loop-alloc.out) c.loop-alloc.invariant (c.goes.ensures.0 c.loop-alloc-test.true)
    c.advance.new.machine (g.S.Sink.output c.advance.new.out) c.in_ok-advance.ensures.does c.in_ok-advance.ensures.stepped).keeps

pub loop-alloc-preserved : goal.loop-alloc-preserved
loop-alloc-preserved g c =
    c.in_ok-do_cheap_ones.ensures.leads.ran c.args.machine.now (g.S.Sink.output c.args.out.now)
    (ran-more c.args.program.now g.M.Memory.choose c.args.steps c.args.machine.now c.loop-alloc.machine
    (g.S.Sink.output c.args.out.now) (g.S.Sink.output c.loop-alloc.out) c.loop-alloc.invariant (c.goes.ensures.0 c.loop-alloc-test.true)
    c.advance.new.machine (g.S.Sink.output c.advance.new.out) c.in_ok-advance.ensures.does c.in_ok-advance.ensures.stepped)

pub loop-alloc-smaller : goal.loop-alloc-smaller
loop-alloc-smaller g c =
    let fewer = leads-left c.args.program.now g.M.Memory.choose c.args.steps c.advance.new.machine c.do_cheap_ones.new.machine
    (g.S.Sink.output c.advance.new.out) (g.S.Sink.output c.do_cheap_ones.new.out) c.in_ok-do_cheap_ones.ensures.leads in
    let less = left-less c.args.program.now c.args.steps c.loop-alloc.machine c.advance.new.machine (c.goes.ensures.0 c.loop-alloc-test.true)
    c.in_ok-advance.ensures.stepped (cost-some c.args.program.now c.loop-alloc.machine) in
    omega (arith, fewer, less)

pub returns-in_err-do_cheap_ones-clause-failed : goal.returns-in_err-do_cheap_ones-clause-failed
returns-in_err-do_cheap_ones-clause-failed g c failed =
    let why = same_error c.from_residual-in_err-do_cheap_ones.result c.in_err-do_cheap_ones.field-0.0 fail.SinkFailed c.from_residual-in_err-do_cheap_ones.ensures.1 failed in
    c.in_err-do_cheap_ones.ensures.failed (ap Err why) c.args.machine.now (g.S.Sink.output c.args.out.now)
    (ran-more c.args.program.now g.M.Memory.choose c.args.steps c.args.machine.now c.loop-alloc.machine
    (g.S.Sink.output c.args.out.now) (g.S.Sink.output c.loop-alloc.out) c.loop-alloc.invariant (c.goes.ensures.0 c.loop-alloc-test.true)
    c.advance.new.machine (g.S.Sink.output c.advance.new.out) c.in_ok-advance.ensures.does c.in_ok-advance.ensures.stepped)

pub returns-in_err-do_cheap_ones-clause-kept : goal.returns-in_err-do_cheap_ones-clause-kept
returns-in_err-do_cheap_ones-clause-kept g c wanting =
    let why = same_error c.from_residual-in_err-do_cheap_ones.result c.in_err-do_cheap_ones.field-0.0 fail.NoMemory c.from_residual-in_err-do_cheap_ones.ensures.1 wanting in
    c.in_err-do_cheap_ones.ensures.kept (ap Err why) c.args.machine.now (g.S.Sink.output c.args.out.now)
    (ran-more c.args.program.now g.M.Memory.choose c.args.steps c.args.machine.now c.loop-alloc.machine
    (g.S.Sink.output c.args.out.now) (g.S.Sink.output c.loop-alloc.out) c.loop-alloc.invariant (c.goes.ensures.0 c.loop-alloc-test.true)
    c.advance.new.machine (g.S.Sink.output c.advance.new.out) c.in_ok-advance.ensures.does c.in_ok-advance.ensures.stepped)

pub returns-in_err-advance-clause-failed : goal.returns-in_err-advance-clause-failed
returns-in_err-advance-clause-failed g c failed =
    let why = same_error c.from_residual.result c.in_err-advance.field-0.0 fail.SinkFailed c.from_residual.ensures.1 failed in
    ran-fails c.args.program.now g.M.Memory.choose c.args.steps c.args.machine.now c.loop-alloc.machine
    (g.S.Sink.output c.args.out.now) (g.S.Sink.output c.loop-alloc.out) c.loop-alloc.invariant (c.goes.ensures.0 c.loop-alloc-test.true)
    (g.S.Sink.output c.advance.new.out) (c.in_err-advance.ensures.failed (ap Err why))

pub returns-in_err-advance-clause-kept : goal.returns-in_err-advance-clause-kept
returns-in_err-advance-clause-kept g c wanting =
    let why = same_error c.from_residual.result c.in_err-advance.field-0.0 fail.NoMemory c.from_residual.ensures.1 wanting in
    ran-breaks c.args.program.now g.M.Memory.choose c.args.steps c.args.machine.now c.loop-alloc.machine
    (g.S.Sink.output c.args.out.now) (g.S.Sink.output c.loop-alloc.out) (g.S.Sink.output c.advance.new.out) c.loop-alloc.invariant
    (c.in_err-advance.ensures.kept (ap Err why))

pub returns-clause-runs : goal.returns-clause-runs
returns-clause-runs g c =
    ran-ends c.args.program.now g.M.Memory.choose c.args.steps c.args.machine.now c.loop-alloc.machine
    (g.S.Sink.output c.args.out.now) (g.S.Sink.output c.loop-alloc.out) c.loop-alloc.invariant
    (λ goes. let told : false ≡ true = sym c.loop-alloc-test.false ∙ c.goes.ensures.1 goes in absurd (cc))

pub returns-clause-no_fault : goal.returns-clause-no_fault
returns-clause-no_fault g c =
    run-keeps_whole c.law_no_fault.ensures.steps c.args.program.now g.M.Memory.choose c.births-births.ensures.lawful c.requires.can c.args.steps
    c.args.machine.now c.loop-alloc.machine (g.S.Sink.output c.args.out.now) (g.S.Sink.output c.loop-alloc.out) (returns-clause-runs g c)
    c.requires.going.sound

pub returns-clause-most_held : goal.returns-clause-most_held
returns-clause-most_held g c =
    run-makes_most c.law_made_since.ensures.since c.args.program.now g.M.Memory.choose c.requires.can c.args.steps c.args.machine.now c.loop-alloc.machine
