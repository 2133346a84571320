use Rattle.std.proofs.Common.{◌+◌, ◌<◌, if◌then◌else◌, subst, arith}
use Rattle.fm_run.proofs.Ranging.{quietly-keeps, quietly-left, went-quietly, went-quietly-less}
use Rattle.fm_run.proofs.runs.do_flat_ones_and_next.Goals as goal
use Rattle.fm_run.specs.inner.Going.{left_of}

pub do_frequent-requires-clause-keeps : goal.do_frequent-requires-clause-keeps
do_frequent-requires-clause-keeps g c =
    quietly-keeps c.args.program.now g.M.Memory.choose c.args.steps c.args.machine.now c.do_flat_ones.new.machine c.do_flat_ones.ensures c.requires.keeps

pub returns-clause-leads : goal.returns-clause-leads
returns-clause-leads g c =
    let p = c.args.program.now in
    let choose = g.M.Memory.choose in
    let z = c.do_flat_ones.new.machine in
    (went-quietly p choose c.args.steps c.args.machine.now z c.do_frequent.new.machine _ c.in_ok-did.ensures.did c.in_ok-did.ensures.same c.do_flat_ones.ensures
    (quietly-keeps p choose c.args.steps c.args.machine.now z c.do_flat_ones.ensures c.requires.keeps)).0

pub returns-clause-less : goal.returns-clause-less
returns-clause-less g c told =
    let budget = c.args.steps in
    let x = c.args.machine.now in
    let z = c.do_flat_ones.new.machine in
    let w = c.do_frequent.new.machine in
    let less = went-quietly-less c.args.program.now g.M.Memory.choose budget z w _ c.in_ok-did.ensures.did c.in_ok-did.ensures.same in
    let fewer = quietly-left c.args.program.now g.M.Memory.choose budget x z c.do_flat_ones.ensures in
    let all : left_of budget w + (if c.in_ok-did.did then 1 else 0) < left_of budget x + 1 = omega (arith, less, fewer) in
    let one : left_of budget w + 1 < left_of budget x + 1 =
    subst (λ b. left_of budget w + (if b then 1 else 0) < left_of budget x + 1) told all in
    omega (arith, one)
