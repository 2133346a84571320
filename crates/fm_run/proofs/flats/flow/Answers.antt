use Rattle.std.proofs.Common.{◌≡◌, ◌+◌, ◌<◌, length, Some, true, false, refl, sym, subst, rules, arith}
use Rattle.fm_code.specs.Edges.{insn_of}
use Rattle.fm_fast.specs.Flows.{resumed}
use Rattle.fm_run.proofs.FlatSteps.{call-flowed, flat-below, Flowed, flowed-joined, group-flowed, packed-in, straight, straight-below, straight-here, straight-jumped, straight-keeps, straight-next, straight-over, straight-stays, straight-within}
use Rattle.fm_run.proofs.QuickSteps.{next-coded, next-found, next-inside, quicks-stay}
use Rattle.fm_run.proofs.Ranging.{leads-none}
use Rattle.fm_run.proofs.Resolving.{is-method}
use Rattle.fm_run.proofs.flats.flow.Given.{Over}
use Rattle.fm_run.proofs.flats.flow.Goals as goal
use Rattle.fm_run.proofs.flats.flow.Goals.{After-births-births, After-do_call-called, After-jumps}
use Rattle.fm_run.proofs.flats.flow.Goals.{else-jumps, in-Baload, in-Bastore, in-Checkcast, in-Getfield, in-Goto, in-Iadd, in-Iconst, in-IfIcmpeq, in-Ifeq, in-Iload, in-Istore, in-Other}
use Rattle.fm_run.specs.inner.Flats.{item_in}

-- what the arms that may jump leave
jumping : (g : Over) (c : After-jumps g)
    → Flowed c.args.program.now g.M.Memory.choose c.args.steps c.in-Some.method.0 (resumed c.straight.machine c.straight.frames c.done-counted.result)
    (resumed c.straight.machine c.match-done.frames (c.done-counted.result + 1)) (resumed c.straight.machine c.match-done.frames c.done-counted.result) c.match-done.jumping
jumping g c =
    let p = c.args.program.now in
    let choose = g.M.Memory.choose in
    let budget = c.args.steps in
    let method = c.in-Some.method.0 in
    let m = c.straight.machine in
    let old = c.straight.frames in
    let n = c.done-counted.result in
    let x = resumed m old n in
    let it = c.in-Some.ensures.next.0 in
    let has = c.in-Some.ensures.next.1 in
    let next = c.in-Some.ensures.next.2 in
    elim c.match-done.branch [
      | in-Goto w ↦
          flowed-joined p choose budget method n x m m w.do_goto-jumping.new.frames c.match-done.frames w.do_goto-jumping.result c.match-done.jumping refl w.frames-is w.jumping-is
          (group-flowed p choose budget method m old n w.do_goto-jumping.new.frames it w.do_goto-jumping.result next (λ told. w.do_goto-jumping.ensures.did told p method it has) w.do_goto-jumping.ensures.same)
      | in-Other w ↦
          flowed-joined p choose budget method n x m m w.do_other-jumping.new.frames c.match-done.frames w.do_other-jumping.result c.match-done.jumping refl w.frames-is w.jumping-is
          (group-flowed p choose budget method m old n w.do_other-jumping.new.frames w.insn_in-insn.result.now w.do_other-jumping.result
          (next-found p budget x method w.code_in.result.now c.in-Some.quick.now w.insn_in-insn.result.now w.code_in.ensures c.in-Some.ensures.next
          (subst (λ item. insn_of w.code_in.result.now item ≡ Some w.insn_in-insn.result.now) c.next_item-item.ensures w.insn_in-insn.ensures))
          w.do_other-jumping.ensures.did w.do_other-jumping.ensures.same)
      | in-IfIcmpeq w ↦
          flowed-joined p choose budget method n x m m w.do_if_pair-jumping.new.frames c.match-done.frames w.do_if_pair-jumping.result c.match-done.jumping refl w.frames-is w.jumping-is
          (group-flowed p choose budget method m old n w.do_if_pair-jumping.new.frames it w.do_if_pair-jumping.result next (λ told. w.do_if_pair-jumping.ensures.did told p method it has) w.do_if_pair-jumping.ensures.same)
      | in-Ifeq w ↦
          flowed-joined p choose budget method n x m m w.do_if_int-jumping.new.frames c.match-done.frames w.do_if_int-jumping.result c.match-done.jumping refl w.frames-is w.jumping-is
          (group-flowed p choose budget method m old n w.do_if_int-jumping.new.frames it w.do_if_int-jumping.result next (λ told. w.do_if_int-jumping.ensures.did told p method it has) w.do_if_int-jumping.ensures.same)
    ]

-- what a call or a return leaves
calling : (g : Over) (c : After-do_call-called g)
    → Flowed c.args.program.now g.M.Memory.choose c.args.steps c.in-Some.method.0 (resumed c.straight.machine c.straight.frames c.done-counted.result)
    (resumed c.straight.machine c.do_call-called.new.frames (c.done-counted.result + 1)) (resumed c.straight.machine c.do_call-called.new.frames c.done-counted.result)
    c.do_call-called.result
calling g c =
    call-flowed c.args.program.now g.M.Memory.choose c.args.steps c.in-Some.method.0 c.straight.machine c.straight.frames c.done-counted.result c.straight.machine
    c.do_call-called.new.frames c.in-Some.ensures.next.0 c.do_call-called.result c.in-Some.ensures.next.2
    (λ told. c.do_call-called.ensures.did told c.in-Some.ensures.next.0 c.in-Some.ensures.next.1) c.do_call-called.ensures.same (λ told. refl) refl

-- what all arms leave
arms : (g : Over) (c : After-births-births g)
    → Flowed c.args.program.now g.M.Memory.choose c.args.steps c.in-Some.method.0 (resumed c.straight.machine c.straight.frames c.done-counted.result)
    (resumed c.match-done.machine c.match-done.frames (c.done-counted.result + 1)) (resumed c.match-done.machine c.match-done.frames c.done-counted.result) c.match-done.did
arms g c =
    let p = c.args.program.now in
    let choose = g.M.Memory.choose in
    let budget = c.args.steps in
    let method = c.in-Some.method.0 in
    let m = c.straight.machine in
    let old = c.straight.frames in
    let n = c.done-counted.result in
    let x = resumed m old n in
    let it = c.in-Some.ensures.next.0 in
    let has = c.in-Some.ensures.next.1 in
    let next = c.in-Some.ensures.next.2 in
    elim c.match-done.branch [
      | in-Iload w ↦
          flowed-joined p choose budget method n x m c.match-done.machine w.do_load-did.new.frames c.match-done.frames w.do_load-did.result c.match-done.did w.machine-is w.frames-is w.did-is
          (group-flowed p choose budget method m old n w.do_load-did.new.frames it w.do_load-did.result next (λ told. w.do_load-did.ensures.did told p method it has) w.do_load-did.ensures.same)
      | in-Istore w ↦
          flowed-joined p choose budget method n x m c.match-done.machine w.do_store-did.new.frames c.match-done.frames w.do_store-did.result c.match-done.did w.machine-is w.frames-is w.did-is
          (group-flowed p choose budget method m old n w.do_store-did.new.frames it w.do_store-did.result next (λ told. w.do_store-did.ensures.did told p method it has) w.do_store-did.ensures.same)
      | in-Iconst w ↦
          flowed-joined p choose budget method n x m c.match-done.machine w.do_simple-did.new.frames c.match-done.frames w.do_simple-did.result c.match-done.did w.machine-is w.frames-is w.did-is
          (group-flowed p choose budget method m old n w.do_simple-did.new.frames it w.do_simple-did.result next (λ told. w.do_simple-did.ensures.did told p method it has) w.do_simple-did.ensures.same)
      | in-Iadd w ↦
          flowed-joined p choose budget method n x m c.match-done.machine w.do_int_op-did.new.frames c.match-done.frames w.do_int_op-did.result c.match-done.did w.machine-is w.frames-is w.did-is
          (group-flowed p choose budget method m old n w.do_int_op-did.new.frames it w.do_int_op-did.result next (λ told. w.do_int_op-did.ensures.did told p method it has) w.do_int_op-did.ensures.same)
      | in-Baload w ↦
          flowed-joined p choose budget method n x m c.match-done.machine w.do_array_load-did.new.frames c.match-done.frames w.do_array_load-did.result c.match-done.did w.machine-is w.frames-is w.did-is
          (call-flowed p choose budget method m old n m w.do_array_load-did.new.frames it w.do_array_load-did.result next (λ told. w.do_array_load-did.ensures.did told it has)
          w.do_array_load-did.ensures.same (λ told. refl) refl)
      | in-Checkcast w ↦
          flowed-joined p choose budget method n x m c.match-done.machine w.do_cast-did.new.frames c.match-done.frames w.do_cast-did.result c.match-done.did w.machine-is w.frames-is w.did-is
          (call-flowed p choose budget method m old n m w.do_cast-did.new.frames it w.do_cast-did.result next (λ told. w.do_cast-did.ensures.did told it has)
          w.do_cast-did.ensures.same (λ told. refl) refl)
      | in-Bastore w ↦
          flowed-joined p choose budget method n x w.do_array_store-did.new.machine c.match-done.machine w.do_array_store-did.new.frames c.match-done.frames w.do_array_store-did.result c.match-done.did w.machine-is w.frames-is w.did-is
          (call-flowed p choose budget method m old n w.do_array_store-did.new.machine w.do_array_store-did.new.frames it w.do_array_store-did.result next
          (λ told. w.do_array_store-did.ensures.did told it has) w.do_array_store-did.ensures.same w.do_array_store-did.ensures.kept w.do_array_store-did.ensures.ended)
      | in-Getfield w ↦
          flowed-joined p choose budget method n x w.do_field-did.new.machine c.match-done.machine w.do_field-did.new.frames c.match-done.frames w.do_field-did.result c.match-done.did w.machine-is w.frames-is w.did-is
          (call-flowed p choose budget method m old n w.do_field-did.new.machine w.do_field-did.new.frames it w.do_field-did.result next
          (λ told. w.do_field-did.ensures.did told it has) w.do_field-did.ensures.same w.do_field-did.ensures.kept w.do_field-did.ensures.ended)
      | else-jumps w ↦
          flowed-joined p choose budget method n x m c.match-done.machine w.match-done.frames c.match-done.frames w.match-done.jumping c.match-done.did w.machine-is w.frames-is w.did-is
          (elim w.match-done.branch [
            | in-Goto v ↦
                flowed-joined p choose budget method n x m m v.do_goto-jumping.new.frames w.match-done.frames v.do_goto-jumping.result w.match-done.jumping refl v.frames-is v.jumping-is
                (group-flowed p choose budget method m old n v.do_goto-jumping.new.frames it v.do_goto-jumping.result next (λ told. v.do_goto-jumping.ensures.did told p method it has) v.do_goto-jumping.ensures.same)
            | in-Other v ↦
                flowed-joined p choose budget method n x m m v.do_other-jumping.new.frames w.match-done.frames v.do_other-jumping.result w.match-done.jumping refl v.frames-is v.jumping-is
                (group-flowed p choose budget method m old n v.do_other-jumping.new.frames v.insn_in-insn.result.now v.do_other-jumping.result
                (next-found p budget x method v.code_in.result.now c.in-Some.quick.now v.insn_in-insn.result.now v.code_in.ensures c.in-Some.ensures.next
                (subst (λ item. insn_of v.code_in.result.now item ≡ Some v.insn_in-insn.result.now) c.next_item-item.ensures v.insn_in-insn.ensures))
                v.do_other-jumping.ensures.did v.do_other-jumping.ensures.same)
            | in-IfIcmpeq v ↦
                flowed-joined p choose budget method n x m m v.do_if_pair-jumping.new.frames w.match-done.frames v.do_if_pair-jumping.result w.match-done.jumping refl v.frames-is v.jumping-is
                (group-flowed p choose budget method m old n v.do_if_pair-jumping.new.frames it v.do_if_pair-jumping.result next (λ told. v.do_if_pair-jumping.ensures.did told p method it has) v.do_if_pair-jumping.ensures.same)
            | in-Ifeq v ↦
                flowed-joined p choose budget method n x m m v.do_if_int-jumping.new.frames w.match-done.frames v.do_if_int-jumping.result w.match-done.jumping refl v.frames-is v.jumping-is
                (group-flowed p choose budget method m old n v.do_if_int-jumping.new.frames it v.do_if_int-jumping.result next (λ told. v.do_if_int-jumping.ensures.did told p method it has) v.do_if_int-jumping.ensures.same)
          ])
    ]

pub straight_reach-reach-requires-clause-few : goal.straight_reach-reach-requires-clause-few
straight_reach-reach-requires-clause-few g c = omega (arith, c.requires.within, c.requires.few)

pub straight_reach-reach-requires-clause-inside : goal.straight_reach-reach-requires-clause-inside
straight_reach-reach-requires-clause-inside g c =
    flat-below c.args.program.now c.args.steps (resumed c.args.machine.now c.args.taken c.args.before) c.requires.run c.requires.keeps c.requires.on

pub returns-then-reach-steps-clause-went : goal.returns-then-reach-steps-clause-went
returns-then-reach-steps-clause-went g c = record {
  leads = λ out. leads-none c.args.program.now g.M.Memory.choose c.args.steps (resumed c.args.machine.now c.args.taken c.args.before) out;
  keeps = c.requires.keeps;
  on = c.requires.on;
}

pub straight-init : goal.straight-init
straight-init g c =
    let went =
    straight c.args.program.now g.M.Memory.choose c.args.steps c.args.before (resumed c.args.machine.now c.args.taken c.args.before) c.args.machine.now c.args.taken
    c.straight_reach-reach.result c.args.before c.straight_reach-reach.ensures.exact
    (λ out. leads-none c.args.program.now g.M.Memory.choose c.args.steps (resumed c.args.machine.now c.args.taken c.args.before) out)
    c.requires.keeps c.requires.on (omega arith) c.straight_reach-reach.ensures.there (omega arith) in
    (went, c.requires.quicks)

pub done-counted-requires-clause-inside : goal.done-counted-requires-clause-inside
done-counted-requires-clause-inside g c =
    straight-below c.args.program.now g.M.Memory.choose c.args.steps c.args.before (resumed c.args.machine.now c.args.taken c.args.before) c.straight.machine c.straight.frames c.straight.reach
    c.requires.run c.straight.invariant.0

pub done-counted-requires-clause-there : goal.done-counted-requires-clause-there
done-counted-requires-clause-there g c = c.straight.invariant.0.there

pub next_in-next-requires-clause-keeps : goal.next_in-next-requires-clause-keeps
next_in-next-requires-clause-keeps g c =
    straight-keeps c.args.program.now g.M.Memory.choose c.args.steps c.args.before (resumed c.args.machine.now c.args.taken c.args.before) c.straight.machine c.straight.frames c.straight.reach c.done-counted.result
    c.done-counted.ensures c.straight.invariant.0

pub next_in-next-requires-clause-on : goal.next_in-next-requires-clause-on
next_in-next-requires-clause-on g c = c.straight.invariant.0.on

pub next_in-next-requires-clause-within : goal.next_in-next-requires-clause-within
next_in-next-requires-clause-within g c =
    (straight-within c.args.program.now g.M.Memory.choose c.args.steps c.args.before (resumed c.args.machine.now c.args.taken c.args.before) c.straight.machine c.straight.frames c.straight.reach c.done-counted.result
    c.requires.run c.done-counted.ensures c.straight.invariant.0).0

pub next_in-next-requires-clause-quicks : goal.next_in-next-requires-clause-quicks
next_in-next-requires-clause-quicks g c = c.straight.invariant.1

pub returns-in_default-clause-went : goal.returns-in_default-clause-went
returns-in_default-clause-went g c =
    straight-here c.args.program.now g.M.Memory.choose c.args.steps c.args.before (resumed c.args.machine.now c.args.taken c.args.before) c.straight.machine c.straight.frames c.straight.reach c.done-counted.result
    c.done-counted.ensures c.straight.invariant.0

pub returns-in_default-clause-more : goal.returns-in_default-clause-more
returns-in_default-clause-more g c =
    (straight-within c.args.program.now g.M.Memory.choose c.args.steps c.args.before (resumed c.args.machine.now c.args.taken c.args.before) c.straight.machine c.straight.frames c.straight.reach c.done-counted.result
    c.requires.run c.done-counted.ensures c.straight.invariant.0).2

pub do_load-did-requires-clause-asks : goal.do_load-did-requires-clause-asks
do_load-did-requires-clause-asks g c = (c.args.program.now, c.in-Some.method.0, c.in-Some.ensures.next.0, c.in-Some.ensures.next.1, c.in-Some.ensures.next.2.asks)

pub do_store-did-requires-clause-asks : goal.do_store-did-requires-clause-asks
do_store-did-requires-clause-asks g c = (c.args.program.now, c.in-Some.method.0, c.in-Some.ensures.next.0, c.in-Some.ensures.next.1, c.in-Some.ensures.next.2.asks)

pub do_simple-did-requires-clause-asks : goal.do_simple-did-requires-clause-asks
do_simple-did-requires-clause-asks g c = (c.args.program.now, c.in-Some.method.0, c.in-Some.ensures.next.0, c.in-Some.ensures.next.1, c.in-Some.ensures.next.2.asks)

pub do_int_op-did-requires-clause-asks : goal.do_int_op-did-requires-clause-asks
do_int_op-did-requires-clause-asks g c = (c.args.program.now, c.in-Some.method.0, c.in-Some.ensures.next.0, c.in-Some.ensures.next.1, c.in-Some.ensures.next.2.asks)

pub do_if_pair-jumping-requires-clause-asks : goal.do_if_pair-jumping-requires-clause-asks
do_if_pair-jumping-requires-clause-asks g c = (c.args.program.now, c.in-Some.method.0, c.in-Some.ensures.next.0, c.in-Some.ensures.next.1, c.in-Some.ensures.next.2.asks)

pub do_if_int-jumping-requires-clause-asks : goal.do_if_int-jumping-requires-clause-asks
do_if_int-jumping-requires-clause-asks g c = (c.args.program.now, c.in-Some.method.0, c.in-Some.ensures.next.0, c.in-Some.ensures.next.1, c.in-Some.ensures.next.2.asks)

pub code_in-requires-clause-runnable : goal.code_in-requires-clause-runnable
code_in-requires-clause-runnable g c = c.requires.run.steps.calls.runnable

pub code_in-requires-clause-coded : goal.code_in-requires-clause-coded
code_in-requires-clause-coded g c =
    next-coded c.args.program.now c.args.steps (resumed c.straight.machine c.straight.frames c.done-counted.result) c.in-Some.method.0 c.in-Some.quick.now
    c.in-Some.ensures.next

pub insn_in-insn-requires : goal.insn_in-insn-requires
insn_in-insn-requires g c =
    subst (λ item. item < length c.code_in.result.now.items) (sym c.next_item-item.ensures)
    (next-inside c.args.program.now c.args.steps (resumed c.straight.machine c.straight.frames c.done-counted.result) c.in-Some.method.0 c.code_in.result.now
    c.in-Some.quick.now c.code_in.ensures c.in-Some.ensures.next)

pub do_other-jumping-requires-clause-asks : goal.do_other-jumping-requires-clause-asks
do_other-jumping-requires-clause-asks g c =
    (next-found c.args.program.now c.args.steps (resumed c.straight.machine c.straight.frames c.done-counted.result) c.in-Some.method.0 c.code_in.result.now
    c.in-Some.quick.now c.insn_in-insn.result.now c.code_in.ensures c.in-Some.ensures.next
    (subst (λ item. insn_of c.code_in.result.now item ≡ Some c.insn_in-insn.result.now) c.next_item-item.ensures c.insn_in-insn.ensures)).asks

pub do_other-jumping-requires-clause-method : goal.do_other-jumping-requires-clause-method
do_other-jumping-requires-clause-method g c =
    is-method c.args.program.now (resumed c.straight.machine c.straight.frames c.done-counted.result) c.in-Some.method.0 c.in-Some.ensures.next.0 c.requires.run
    c.in-Some.ensures.next.2.at

pub do_array_load-did-requires-clause-packed : goal.do_array_load-did-requires-clause-packed
do_array_load-did-requires-clause-packed g c =
    packed-in c.args.program.now (resumed c.straight.machine c.straight.frames c.done-counted.result)
    (straight-keeps c.args.program.now g.M.Memory.choose c.args.steps c.args.before (resumed c.args.machine.now c.args.taken c.args.before) c.straight.machine c.straight.frames c.straight.reach c.done-counted.result
    c.done-counted.ensures c.straight.invariant.0).sound

pub do_array_store-did-requires-clause-packed : goal.do_array_store-did-requires-clause-packed
do_array_store-did-requires-clause-packed g c =
    packed-in c.args.program.now (resumed c.straight.machine c.straight.frames c.done-counted.result)
    (straight-keeps c.args.program.now g.M.Memory.choose c.args.steps c.args.before (resumed c.args.machine.now c.args.taken c.args.before) c.straight.machine c.straight.frames c.straight.reach c.done-counted.result
    c.done-counted.ensures c.straight.invariant.0).sound

pub do_field-did-requires-clause-packed : goal.do_field-did-requires-clause-packed
do_field-did-requires-clause-packed g c =
    packed-in c.args.program.now (resumed c.straight.machine c.straight.frames c.done-counted.result)
    (straight-keeps c.args.program.now g.M.Memory.choose c.args.steps c.args.before (resumed c.args.machine.now c.args.taken c.args.before) c.straight.machine c.straight.frames c.straight.reach c.done-counted.result
    c.done-counted.ensures c.straight.invariant.0).sound

-- ---- a call or a return

pub returns-then-not-called-clause-went : goal.returns-then-not-called-clause-went
returns-then-not-called-clause-went g c =
    let none : c.do_call-called.result ≡ false = search rules in
    straight-stays c.args.program.now g.M.Memory.choose c.args.steps c.args.before (resumed c.args.machine.now c.args.taken c.args.before) c.straight.machine c.straight.frames c.straight.reach c.done-counted.result
    c.in-Some.method.0 c.straight.machine c.do_call-called.new.frames c.do_call-called.result c.done-counted.ensures c.straight.invariant.0
    (calling g (goal.at.returns-then-not-called-clause-went g c).After-do_call-called) none

pub returns-then-not-called-clause-more : goal.returns-then-not-called-clause-more
returns-then-not-called-clause-more g c =
    (straight-within c.args.program.now g.M.Memory.choose c.args.steps c.args.before (resumed c.args.machine.now c.args.taken c.args.before) c.straight.machine c.straight.frames c.straight.reach c.done-counted.result
    c.requires.run c.done-counted.ensures c.straight.invariant.0).2

pub returns-in_default-quicks_next-clause-went : goal.returns-in_default-quicks_next-clause-went
returns-in_default-quicks_next-clause-went g c =
    let told : c.do_call-called.result ≡ true = search rules in
    straight-over c.args.program.now g.M.Memory.choose c.args.steps c.args.before (resumed c.args.machine.now c.args.taken c.args.before) c.straight.machine c.straight.frames c.straight.reach c.done-counted.result
    c.in-Some.method.0 c.straight.machine c.do_call-called.new.frames c.do_call-called.result c.requires.run c.births-lawful.ensures.lawful c.births-lawful.ensures.sound
    c.done-counted.ensures c.straight.invariant.0 (calling g (goal.at.returns-in_default-quicks_next-clause-went g c).After-do_call-called) told

pub returns-in_default-quicks_next-clause-more : goal.returns-in_default-quicks_next-clause-more
returns-in_default-quicks_next-clause-more g c =
    let more = (straight-within c.args.program.now g.M.Memory.choose c.args.steps c.args.before (resumed c.args.machine.now c.args.taken c.args.before) c.straight.machine c.straight.frames c.straight.reach c.done-counted.result
    c.requires.run c.done-counted.ensures c.straight.invariant.0).2 in
    omega (arith, more)

pub reach_after-reached-requires-clause-few : goal.reach_after-reached-requires-clause-few
reach_after-reached-requires-clause-few g c = omega (arith, c.straight.invariant.0.within, c.requires.few)

pub reach_after-reached-requires-clause-before : goal.reach_after-reached-requires-clause-before
reach_after-reached-requires-clause-before g c =
    subst (λ item. item < 65536) (sym c.next_item-item.ensures)
    (straight-below c.args.program.now g.M.Memory.choose c.args.steps c.args.before (resumed c.args.machine.now c.args.taken c.args.before) c.straight.machine c.straight.frames c.straight.reach
    c.requires.run c.straight.invariant.0)

pub reach_after-reached-requires-clause-was : goal.reach_after-reached-requires-clause-was
reach_after-reached-requires-clause-was g c =
    subst (λ item. c.straight.reach + item ≡ c.done-counted.result + 65536) (sym c.next_item-item.ensures)
    (straight-within c.args.program.now g.M.Memory.choose c.args.steps c.args.before (resumed c.args.machine.now c.args.taken c.args.before) c.straight.machine c.straight.frames c.straight.reach c.done-counted.result
    c.requires.run c.done-counted.ensures c.straight.invariant.0).1

pub reach_after-reached-requires-clause-inside : goal.reach_after-reached-requires-clause-inside
reach_after-reached-requires-clause-inside g c =
    let told : c.do_call-called.result ≡ true = search rules in
    let went = straight-over c.args.program.now g.M.Memory.choose c.args.steps c.args.before (resumed c.args.machine.now c.args.taken c.args.before) c.straight.machine c.straight.frames c.straight.reach c.done-counted.result
    c.in-Some.method.0 c.straight.machine c.do_call-called.new.frames c.do_call-called.result c.requires.run c.births-lawful.ensures.lawful c.births-lawful.ensures.sound
    c.done-counted.ensures c.straight.invariant.0 (calling g (goal.at.reach_after-reached-requires-clause-inside g c).After-do_call-called) told in
    flat-below c.args.program.now c.args.steps (resumed c.straight.machine c.do_call-called.new.frames (c.done-counted.result + 1)) c.requires.run went.keeps went.on

pub returns-then-reached-steps-clause-went : goal.returns-then-reached-steps-clause-went
returns-then-reached-steps-clause-went g c =
    let told : c.do_call-called.result ≡ true = search rules in
    straight-over c.args.program.now g.M.Memory.choose c.args.steps c.args.before (resumed c.args.machine.now c.args.taken c.args.before) c.straight.machine c.straight.frames c.straight.reach c.done-counted.result
    c.in-Some.method.0 c.straight.machine c.do_call-called.new.frames c.do_call-called.result c.requires.run c.births-lawful.ensures.lawful c.births-lawful.ensures.sound
    c.done-counted.ensures c.straight.invariant.0 (calling g (goal.at.returns-then-reached-steps-clause-went g c).After-do_call-called) told

pub returns-then-reached-steps-clause-more : goal.returns-then-reached-steps-clause-more
returns-then-reached-steps-clause-more g c =
    let more = (straight-within c.args.program.now g.M.Memory.choose c.args.steps c.args.before (resumed c.args.machine.now c.args.taken c.args.before) c.straight.machine c.straight.frames c.straight.reach c.done-counted.result
    c.requires.run c.done-counted.ensures c.straight.invariant.0).2 in
    omega (arith, more)

pub straight-preserved-in-Invokevirtual : goal.straight-preserved-in-Invokevirtual
straight-preserved-in-Invokevirtual g c =
    let told : c.do_call-called.result ≡ true = search rules in
    let went = straight-jumped c.args.program.now g.M.Memory.choose c.args.steps c.args.before (resumed c.args.machine.now c.args.taken c.args.before)
    c.straight.machine c.do_call-called.new.frames c.reach_after-reached.result c.done-counted.result
    (straight-within c.args.program.now g.M.Memory.choose c.args.steps c.args.before (resumed c.args.machine.now c.args.taken c.args.before) c.straight.machine c.straight.frames c.straight.reach c.done-counted.result
    c.requires.run c.done-counted.ensures c.straight.invariant.0).2
    (straight-over c.args.program.now g.M.Memory.choose c.args.steps c.args.before (resumed c.args.machine.now c.args.taken c.args.before) c.straight.machine c.straight.frames c.straight.reach c.done-counted.result
    c.in-Some.method.0 c.straight.machine c.do_call-called.new.frames c.do_call-called.result c.requires.run c.births-lawful.ensures.lawful c.births-lawful.ensures.sound
    c.done-counted.ensures c.straight.invariant.0 (calling g (goal.at.straight-preserved-in-Invokevirtual g c).After-do_call-called) told)
    c.reach_after-reached.ensures.exact c.reach_after-reached.ensures.there (omega (arith, c.if-reached-steps.false)) in
    (went, c.in-Some-quicks_next.ensures)

pub straight-smaller-in-Invokevirtual : goal.straight-smaller-in-Invokevirtual
straight-smaller-in-Invokevirtual g c =
    let less = (straight-within c.args.program.now g.M.Memory.choose c.args.steps c.args.before (resumed c.args.machine.now c.args.taken c.args.before) c.straight.machine c.straight.frames c.straight.reach c.done-counted.result
    c.requires.run c.done-counted.ensures c.straight.invariant.0).0 in
    let was = c.done-counted.ensures in
    let is = c.reach_after-reached.ensures.exact in
    omega (arith, less, was, is)

-- ---- a jump

pub returns-then-not-stays-clause-went : goal.returns-then-not-stays-clause-went
returns-then-not-stays-clause-went g c =
    let told : c.jumps.result ≡ true = search rules in
    straight-over c.args.program.now g.M.Memory.choose c.args.steps c.args.before (resumed c.args.machine.now c.args.taken c.args.before) c.straight.machine c.straight.frames c.straight.reach c.done-counted.result
    c.in-Some.method.0 c.straight.machine c.match-done.frames c.match-done.jumping c.requires.run c.births-lawful.ensures.lawful c.births-lawful.ensures.sound
    c.done-counted.ensures c.straight.invariant.0 (jumping g (goal.at.returns-then-not-stays-clause-went g c).After-jumps)
    (c.jumps.ensures told)

pub returns-then-not-stays-clause-more : goal.returns-then-not-stays-clause-more
returns-then-not-stays-clause-more g c =
    let more = (straight-within c.args.program.now g.M.Memory.choose c.args.steps c.args.before (resumed c.args.machine.now c.args.taken c.args.before) c.straight.machine c.straight.frames c.straight.reach c.done-counted.result
    c.requires.run c.done-counted.ensures c.straight.invariant.0).2 in
    omega (arith, more)

pub reach_after-reach-requires-clause-few : goal.reach_after-reach-requires-clause-few
reach_after-reach-requires-clause-few g c = omega (arith, c.straight.invariant.0.within, c.requires.few)

pub reach_after-reach-requires-clause-before : goal.reach_after-reach-requires-clause-before
reach_after-reach-requires-clause-before g c =
    subst (λ item. item < 65536) (sym c.next_item-item.ensures)
    (straight-below c.args.program.now g.M.Memory.choose c.args.steps c.args.before (resumed c.args.machine.now c.args.taken c.args.before) c.straight.machine c.straight.frames c.straight.reach
    c.requires.run c.straight.invariant.0)

pub reach_after-reach-requires-clause-was : goal.reach_after-reach-requires-clause-was
reach_after-reach-requires-clause-was g c =
    subst (λ item. c.straight.reach + item ≡ c.done-counted.result + 65536) (sym c.next_item-item.ensures)
    (straight-within c.args.program.now g.M.Memory.choose c.args.steps c.args.before (resumed c.args.machine.now c.args.taken c.args.before) c.straight.machine c.straight.frames c.straight.reach c.done-counted.result
    c.requires.run c.done-counted.ensures c.straight.invariant.0).1

pub reach_after-reach-requires-clause-inside : goal.reach_after-reach-requires-clause-inside
reach_after-reach-requires-clause-inside g c =
    let told : c.jumps.result ≡ true = search rules in
    let went = straight-over c.args.program.now g.M.Memory.choose c.args.steps c.args.before (resumed c.args.machine.now c.args.taken c.args.before) c.straight.machine c.straight.frames c.straight.reach c.done-counted.result
    c.in-Some.method.0 c.straight.machine c.match-done.frames c.match-done.jumping c.requires.run c.births-lawful.ensures.lawful c.births-lawful.ensures.sound
    c.done-counted.ensures c.straight.invariant.0 (jumping g (goal.at.reach_after-reach-requires-clause-inside g c).After-jumps)
    (c.jumps.ensures told) in
    flat-below c.args.program.now c.args.steps (resumed c.straight.machine c.match-done.frames (c.done-counted.result + 1)) c.requires.run went.keeps went.on

pub returns-then-reach-steps-2-clause-went : goal.returns-then-reach-steps-2-clause-went
returns-then-reach-steps-2-clause-went g c =
    let told : c.jumps.result ≡ true = search rules in
    straight-over c.args.program.now g.M.Memory.choose c.args.steps c.args.before (resumed c.args.machine.now c.args.taken c.args.before) c.straight.machine c.straight.frames c.straight.reach c.done-counted.result
    c.in-Some.method.0 c.straight.machine c.match-done.frames c.match-done.jumping c.requires.run c.births-lawful.ensures.lawful c.births-lawful.ensures.sound
    c.done-counted.ensures c.straight.invariant.0 (jumping g (goal.at.returns-then-reach-steps-2-clause-went g c).After-jumps)
    (c.jumps.ensures told)

pub returns-then-reach-steps-2-clause-more : goal.returns-then-reach-steps-2-clause-more
returns-then-reach-steps-2-clause-more g c =
    let more = (straight-within c.args.program.now g.M.Memory.choose c.args.steps c.args.before (resumed c.args.machine.now c.args.taken c.args.before) c.straight.machine c.straight.frames c.straight.reach c.done-counted.result
    c.requires.run c.done-counted.ensures c.straight.invariant.0).2 in
    omega (arith, more)

pub straight-preserved-then-jumps : goal.straight-preserved-then-jumps
straight-preserved-then-jumps g c =
    let told : c.jumps.result ≡ true = search rules in
    let stays : c.is_in-stays.result ≡ true = search rules in
    let went = straight-jumped c.args.program.now g.M.Memory.choose c.args.steps c.args.before (resumed c.args.machine.now c.args.taken c.args.before)
    c.straight.machine c.match-done.frames c.reach_after-reach.result c.done-counted.result
    (straight-within c.args.program.now g.M.Memory.choose c.args.steps c.args.before (resumed c.args.machine.now c.args.taken c.args.before) c.straight.machine c.straight.frames c.straight.reach c.done-counted.result
    c.requires.run c.done-counted.ensures c.straight.invariant.0).2
    (straight-over c.args.program.now g.M.Memory.choose c.args.steps c.args.before (resumed c.args.machine.now c.args.taken c.args.before) c.straight.machine c.straight.frames c.straight.reach c.done-counted.result
    c.in-Some.method.0 c.straight.machine c.match-done.frames c.match-done.jumping c.requires.run c.births-lawful.ensures.lawful c.births-lawful.ensures.sound
    c.done-counted.ensures c.straight.invariant.0 (jumping g (goal.at.straight-preserved-then-jumps g c).After-jumps)
    (c.jumps.ensures told))
    c.reach_after-reach.ensures.exact c.reach_after-reach.ensures.there (omega (arith, c.if-reach-steps-2.false)) in (
      went,
      quicks-stay c.args.program.now c.straight.frames c.match-done.frames c.in-Some.method.0 c.straight.quicks.now c.straight.invariant.1
          c.in-Some.ensures.method (c.is_in-stays.ensures stays),
    )

pub straight-smaller-then-jumps : goal.straight-smaller-then-jumps
straight-smaller-then-jumps g c =
    let less = (straight-within c.args.program.now g.M.Memory.choose c.args.steps c.args.before (resumed c.args.machine.now c.args.taken c.args.before) c.straight.machine c.straight.frames c.straight.reach c.done-counted.result
    c.requires.run c.done-counted.ensures c.straight.invariant.0).0 in
    let was = c.done-counted.ensures in
    let is = c.reach_after-reach.ensures.exact in
    omega (arith, less, was, is)

-- ---- the next item

pub returns-then-not-did-clause-went : goal.returns-then-not-did-clause-went
returns-then-not-did-clause-went g c =
    let none : c.match-done.did ≡ false = search rules in
    straight-stays c.args.program.now g.M.Memory.choose c.args.steps c.args.before (resumed c.args.machine.now c.args.taken c.args.before) c.straight.machine c.straight.frames c.straight.reach c.done-counted.result
    c.in-Some.method.0 c.match-done.machine c.match-done.frames c.match-done.did c.done-counted.ensures c.straight.invariant.0
    (arms g (goal.at.returns-then-not-did-clause-went g c).After-births-births) none

pub returns-then-not-did-clause-more : goal.returns-then-not-did-clause-more
returns-then-not-did-clause-more g c =
    (straight-within c.args.program.now g.M.Memory.choose c.args.steps c.args.before (resumed c.args.machine.now c.args.taken c.args.before) c.straight.machine c.straight.frames c.straight.reach c.done-counted.result
    c.requires.run c.done-counted.ensures c.straight.invariant.0).2

pub returns-then-not-stayed-clause-went : goal.returns-then-not-stayed-clause-went
returns-then-not-stayed-clause-went g c =
    let did : c.match-done.did ≡ true = search rules in
    straight-over c.args.program.now g.M.Memory.choose c.args.steps c.args.before (resumed c.args.machine.now c.args.taken c.args.before) c.straight.machine c.straight.frames c.straight.reach c.done-counted.result
    c.in-Some.method.0 c.match-done.machine c.match-done.frames c.match-done.did c.requires.run c.births-births.ensures.lawful c.births-births.ensures.sound
    c.done-counted.ensures c.straight.invariant.0 (arms g (goal.at.returns-then-not-stayed-clause-went g c).After-births-births) did

pub returns-then-not-stayed-clause-more : goal.returns-then-not-stayed-clause-more
returns-then-not-stayed-clause-more g c =
    let more = (straight-within c.args.program.now g.M.Memory.choose c.args.steps c.args.before (resumed c.args.machine.now c.args.taken c.args.before) c.straight.machine c.straight.frames c.straight.reach c.done-counted.result
    c.requires.run c.done-counted.ensures c.straight.invariant.0).2 in
    omega (arith, more)

pub overflow_add-result-then-place-after : goal.overflow_add-result-then-place-after
overflow_add-result-then-place-after g c =
    let less = (straight-within c.args.program.now g.M.Memory.choose c.args.steps c.args.before (resumed c.args.machine.now c.args.taken c.args.before) c.straight.machine c.straight.frames c.straight.reach c.done-counted.result
    c.requires.run c.done-counted.ensures c.straight.invariant.0).0 in
    omega (arith, less, c.requires.few)

pub returns-then-place-after-clause-went : goal.returns-then-place-after-clause-went
returns-then-place-after-clause-went g c =
    let did : c.match-done.did ≡ true = search rules in
    straight-over c.args.program.now g.M.Memory.choose c.args.steps c.args.before (resumed c.args.machine.now c.args.taken c.args.before) c.straight.machine c.straight.frames c.straight.reach c.done-counted.result
    c.in-Some.method.0 c.match-done.machine c.match-done.frames c.match-done.did c.requires.run c.births-births.ensures.lawful c.births-births.ensures.sound
    c.done-counted.ensures c.straight.invariant.0 (arms g (goal.at.returns-then-place-after-clause-went g c).After-births-births) did

pub returns-then-place-after-clause-more : goal.returns-then-place-after-clause-more
returns-then-place-after-clause-more g c =
    let more = (straight-within c.args.program.now g.M.Memory.choose c.args.steps c.args.before (resumed c.args.machine.now c.args.taken c.args.before) c.straight.machine c.straight.frames c.straight.reach c.done-counted.result
    c.requires.run c.done-counted.ensures c.straight.invariant.0).2 in
    omega (arith, more)

pub straight-preserved : goal.straight-preserved
straight-preserved g c =
    let did : c.match-done.did ≡ true = search rules in
    let before = c.next_item-item.ensures in
    let after = c.next_item-place.ensures in
    let same = c.if-place-after.false in
    let stays : c.is_in-stayed.result ≡ true = search rules in
    let went = straight-next c.args.program.now g.M.Memory.choose c.args.steps c.args.before (resumed c.args.machine.now c.args.taken c.args.before) c.straight.machine c.straight.frames c.straight.reach c.done-counted.result
    c.match-done.machine c.match-done.frames c.requires.run c.done-counted.ensures c.straight.invariant.0
    (straight-over c.args.program.now g.M.Memory.choose c.args.steps c.args.before (resumed c.args.machine.now c.args.taken c.args.before) c.straight.machine c.straight.frames c.straight.reach c.done-counted.result
    c.in-Some.method.0 c.match-done.machine c.match-done.frames c.match-done.did c.requires.run c.births-births.ensures.lawful c.births-births.ensures.sound
    c.done-counted.ensures c.straight.invariant.0 (arms g (goal.at.straight-preserved g c).After-births-births) did)
    (omega (arith, before, after, same)) in (
      went,
      quicks-stay c.args.program.now c.straight.frames c.match-done.frames c.in-Some.method.0 c.straight.quicks.now c.straight.invariant.1
          c.in-Some.ensures.method (c.is_in-stayed.ensures stays),
    )

pub straight-smaller : goal.straight-smaller
straight-smaller g c =
    let was = straight-within c.args.program.now g.M.Memory.choose c.args.steps c.args.before (resumed c.args.machine.now c.args.taken c.args.before) c.straight.machine c.straight.frames c.straight.reach c.done-counted.result
    c.requires.run c.done-counted.ensures c.straight.invariant.0 in
    let is = c.done-counted.ensures in
    let before = c.next_item-item.ensures in
    let after = c.next_item-place.ensures in
    let same = c.if-place-after.false in
    let there : item_in c.match-done.frames ≡ item_in c.straight.frames + 1 = omega (arith, before, after, same) in
    omega (arith, was.0, was.1, is, there)
