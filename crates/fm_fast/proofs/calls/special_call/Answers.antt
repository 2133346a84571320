use Rattle.std.proofs.Common.{◌+◌, refl, sym, subst, rules}
use Rattle.fm_exec.specs.Steps.{Steps}
use Rattle.fm_fast.specs.Flows.{resumed}
use Rattle.fm_fast.proofs.EntrySteps.{begun-as, enters-as, special-over}
use Rattle.fm_fast.proofs.calls.special_call.Goals as goal
use Rattle.fm_frames.specs.CallRows.{words_of_arguments}

pub returns-then-is_object_init-clause-did : goal.returns-then-is_object_init-clause-did
returns-then-is_object_init-clause-did g c told caller m named call byte steps =
    let p = c.args.program.now in
    let x = c.args.machine.now in
    let old = c.args.frames.now in
    let new = c.pop.new.frames in
    subst (Steps p g.M.Memory.choose (resumed x old steps) (resumed x new (steps + 1)))
    (sym (special-over p x old steps caller c.args.words _ m c.args.target named c.in-Some.field-0.0 c.in-Some.field-0.1 byte call.named_inside call.words_are refl
    c.in-Some.ensures call.target_is))
    (begun-as p g.M.Memory.choose x old new (words_of_arguments p.outline m.0 + 1) c.args.target.0 byte steps (c.is_object_init.ensures (search rules)) c.pop.ensures)

pub returns-clause-did : goal.returns-clause-did
returns-clause-did g c told caller m named call byte steps =
    let p = c.args.program.now in
    let x = c.args.machine.now in
    let old = c.args.frames.now in
    let new = c.enter.new.frames in
    subst (Steps p g.M.Memory.choose (resumed x old steps) (resumed x new (steps + 1)))
    (sym (special-over p x old steps caller c.args.words _ m c.args.target named c.in-Some.field-0.0 c.in-Some.field-0.1 byte call.named_inside call.words_are refl
    c.in-Some.ensures call.target_is))
    (enters-as p g.M.Memory.choose x old new c.args.words (words_of_arguments p.outline m.0 + 1) c.args.target.0 byte steps (c.enter.ensures.did told) call.words_are)
