use Rattle.std.proofs.Common.{get_or, option_and_then, slice_get, ap, sym, ◌∙◌}
use Rattle.std.proofs.lemmas.Option.{slice_get-get_or}
use Rattle.fm_exec_calls.proofs.CallSteps.{refused-steps, static-is}
use Rattle.fm_exec_calls.proofs.calls.static_call.Goals as goal
use Rattle.fm_frames.proofs.Throwing.{told-ok}
use Rattle.fm_exec.specs.Steps.{seen}
use Rattle.fm_frames.specs.CallRows.{static_effect}
use Rattle.fm_frames.specs.Natives.{native_of_row}
use Rattle.fm_native.proofs.Prints.{fails-as, steps-as}
use Rattle.fm_world.specs.Numbers.{type_of_class}
use Rattle.fm_world.specs.declared.uses.Use.TheVariants as used

pub returns-in-Some-clause-told : goal.returns-in-Some-clause-told
returns-in-Some-clause-told g c =
    let p = c.args.program.now in
    let o = p.outline in
    let x = c.args.machine.now in
    told-ok c.enter.result _ _
    (steps-as p g.M.Memory.choose x c.enter.new.machine (g.S.Sink.output c.args.out.now) (g.S.Sink.output c.enter.new.out) _ _
    (static-is p x.areas.started c.args.m c.args.named (get_or o.types c.args.named.0 (type_of_class 0)) c.words_of_arguments-words.result c.in-Some.field-0
    (slice_get x.input 0) (seen p x) c.requires.can.runnable c.requires.rows (sym c.row_of.ensures ∙ c.in-Some.is)
    (slice_get-get_or o.types c.args.named.0 (type_of_class 0) c.requires.named) c.words_of_arguments-words.ensures))
    c.enter.ensures.told

pub returns-in-Some-clause-failed : goal.returns-in-Some-clause-failed
returns-in-Some-clause-failed g c failed =
    let p = c.args.program.now in
    let o = p.outline in
    let x = c.args.machine.now in
    fails-as p g.M.Memory.choose x (g.S.Sink.output c.args.out.now) (g.S.Sink.output c.enter.new.out) _ _
    (static-is p x.areas.started c.args.m c.args.named (get_or o.types c.args.named.0 (type_of_class 0)) c.words_of_arguments-words.result c.in-Some.field-0
    (slice_get x.input 0) (seen p x) c.requires.can.runnable c.requires.rows (sym c.row_of.ensures ∙ c.in-Some.is)
    (slice_get-get_or o.types c.args.named.0 (type_of_class 0) c.requires.named) c.words_of_arguments-words.ensures)
    (c.enter.ensures.failed failed)

pub coded_call-requires-clause-coded : goal.coded_call-requires-clause-coded
coded_call-requires-clause-coded g c = ap (option_and_then native_of_row) (sym c.row_of.ensures ∙ c.in-None.is)

pub returns-in-Ok-clause-told : goal.returns-in-Ok-clause-told
returns-in-Ok-clause-told g c =
    let p = c.args.program.now in
    refused-steps p g.M.Memory.choose c.args.machine.now c.coded_call.new.machine (g.S.Sink.output c.args.out.now)
    (static_effect p.outline (used.OfMethod c.args.m c.args.named)) c.in-Ok.ensures
