use Rattle.std.proofs.Common.{◌≡◌, ◌+◌, ◌<◌, length, Some, sym, subst, true}
use Rattle.fm_code.specs.Edges.{insn_of}
use Rattle.fm_fast.specs.Flows.{resumed}
use Rattle.fm_run.proofs.FlatSteps.{call-flowed, Flowed, flowed-on}
use Rattle.fm_run.proofs.QuickSteps.{next-coded, next-found, next-inside}
use Rattle.fm_run.proofs.Ranging.{leads-none}
use Rattle.fm_run.proofs.flats.do_next_out_of_line.Given.{Over}
use Rattle.fm_run.proofs.flats.do_next_out_of_line.Goals as goal
use Rattle.fm_run.proofs.flats.do_next_out_of_line.Goals.{After-insn_in-insn}
use Rattle.fm_run.specs.inner.Flats.{IsFlatNext}

-- the instruction that was looked up is next
found : (g : Over) (c : After-insn_in-insn g) → IsFlatNext c.args.program.now c.args.steps (resumed c.args.machine.now c.args.frames.now c.args.counted) c.in-Some-next.method.0 c.insn_in-insn.result.now
found g c =
    next-found c.args.program.now c.args.steps (resumed c.args.machine.now c.args.frames.now c.args.counted) c.in-Some-next.method.0 c.code_in.result.now _ c.insn_in-insn.result.now c.code_in.ensures
    c.in-Some-next.ensures.next (subst (λ item. insn_of c.code_in.result.now item ≡ Some c.insn_in-insn.result.now) c.next_item.ensures c.insn_in-insn.ensures)

pub next_in-next-requires-clause-quicks : goal.next_in-next-requires-clause-quicks
next_in-next-requires-clause-quicks g c = c.in-Some.ensures

pub code_in-requires-clause-runnable : goal.code_in-requires-clause-runnable
code_in-requires-clause-runnable g c = c.requires.run.steps.calls.runnable

pub code_in-requires-clause-coded : goal.code_in-requires-clause-coded
code_in-requires-clause-coded g c = next-coded c.args.program.now c.args.steps (resumed c.args.machine.now c.args.frames.now c.args.counted) c.in-Some-next.method.0 _ c.in-Some-next.ensures.next

pub insn_in-insn-requires : goal.insn_in-insn-requires
insn_in-insn-requires g c =
    subst (λ item. item < length c.code_in.result.now.items) (sym c.next_item.ensures)
    (next-inside c.args.program.now c.args.steps (resumed c.args.machine.now c.args.frames.now c.args.counted) c.in-Some-next.method.0 c.code_in.result.now _ c.code_in.ensures c.in-Some-next.ensures.next)

pub do_out_of_line-did-requires-clause-next : goal.do_out_of_line-did-requires-clause-next
do_out_of_line-did-requires-clause-next g c = found g (goal.at.do_out_of_line-did-requires-clause-next g c).After-insn_in-insn

pub returns-clause-did : goal.returns-clause-did
returns-clause-did g c told =
    let p = c.args.program.now in
    let choose = g.M.Memory.choose in
    let m = c.args.machine.now in
    let x = resumed m c.args.frames.now c.args.counted in
    let m2 = c.do_out_of_line-did.new.machine in
    let y = resumed m2 c.do_out_of_line-did.new.frames (c.args.counted + 1) in
    let same = resumed m2 c.do_out_of_line-did.new.frames c.args.counted in
    let flowed : Flowed p choose c.args.steps c.in-Some-next.method.0 x y same true =
    call-flowed p choose c.args.steps c.in-Some-next.method.0 m c.args.frames.now c.args.counted m2 c.do_out_of_line-did.new.frames c.insn_in-insn.result.now true
    (found g (goal.at.returns-clause-did g c).After-insn_in-insn) (λ t. c.do_out_of_line-did.ensures.did told) (λ f. absurd (cc)) (λ f. absurd (cc))
    c.do_out_of_line-did.ensures.ended in
    let went = flowed-on p choose c.args.steps c.in-Some-next.method.0 x x y same c.requires.run c.births-births.ensures.lawful c.births-births.ensures.sound
    flowed c.requires.on (λ out. leads-none p choose c.args.steps x out) c.requires.keeps in
    record { leads = went.0; keeps = went.1; on = went.2 }
