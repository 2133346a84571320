use Rattle.std.proofs.Common.{◌≡◌, ◌+◌, true, Some, slice_get, refl, ap, sym, ◌∙◌, subst, rules}
use Rattle.std.proofs.lemmas.Option.{slice_get-get_or}
use Rattle.fm_exec_calls.proofs.SelectSteps.{virtual-selected}
use Rattle.fm_exec.specs.Steps.{Steps}
use Rattle.fm_fast.specs.Flows.{resumed}
use Rattle.fm_fast.proofs.EntrySteps.{enters-as, receiver-over}
use Rattle.fm_fast.proofs.calls.virtual_call.Goals as goal
use Rattle.fm_frames.specs.CallRows.{words_of_arguments}
use Rattle.fm_frames.specs.Sights.{type_numbered}
use Rattle.fm_frames.specs.Steps.{stack_of}
use Rattle.fm_types.specs.Fits.{fits_type}
use Rattle.fm_world.specs.Numbers.{type_of_class}

pub returns-clause-did : goal.returns-clause-did
returns-clause-did g c told type same byte steps =
    let p = c.args.program.now in
    let o = p.outline in
    let m = c.args.machine.now in
    let x = resumed m c.args.frames.now steps in
    let y = resumed m c.enter.new.frames (steps + 1) in
    let it = receiver-over o m c.args.frames.now steps c.args.words (words_of_arguments o c.args.m.0) _ c.in-Some.field-0-0
    c.in-Some.head c.requires.words refl c.in-Some.ensures in
    let t = type_numbered o c.args.named.0 in
    let at = subst (λ n. slice_get o.types n ≡ Some t) (sym same) (slice_get-get_or o.types c.args.named.0 (type_of_class 0) c.requires.named) in
    let fits : true ≡ fits_type o.classes (type_numbered o c.in-Some.head.class) t = search rules in
    let told_fits = fits ∙ ap (λ a. fits_type o.classes a t) (sym c.type_in-t.ensures.value) in
    subst (Steps p g.M.Memory.choose x y)
    (sym (virtual-selected o m.areas.store (stack_of x) c.args.m type t byte c.in-Some.field-0-0 c.in-Some.head c.type_in-t.result
    (Some c.in-Some-selected.target.0) at it c.type_in-t.ensures.value told_fits c.in-Some-selected.ensures))
    (enters-as p g.M.Memory.choose m c.args.frames.now c.enter.new.frames c.args.words (words_of_arguments o c.args.m.0 + 1)
    c.in-Some-selected.target.0 byte steps (c.enter.ensures.did told) c.requires.words)
