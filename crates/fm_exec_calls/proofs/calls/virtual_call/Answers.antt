use Rattle.std.proofs.Common.{◌+◌, sym, subst}
use Rattle.fm_exec_calls.proofs.CallSteps.{refused-steps, selected-fails, selected-steps}
use Rattle.fm_exec_calls.proofs.calls.virtual_call.Goals as goal
use Rattle.fm_exec_calls.specs.Selections.{Selects}
use Rattle.fm_frames.proofs.Throwing.{told-ok}
use Rattle.fm_exec.specs.Steps.{seen}
use Rattle.fm_frames.specs.CallRows.{virtual_effect, words_of_arguments}
use Rattle.fm_frames.specs.States.{State}
use Rattle.fm_frames.specs.inner.Doings.{CanStep}
use Rattle.fm_native.specs.Serving.{ServesNatives}
use Rattle.fm_world.specs.declared.uses.Use.TheVariants as used

pub enter-requires-clause-can : goal.enter-requires-clause-can
enter-requires-clause-can g c =
    let p = c.args.program.now in
    let o = p.outline in
    let x = c.args.machine.now in
    let y = c.virtual_target.new.machine in
    let words = words_of_arguments o c.args.m.0 + 1 in
    let found = subst (Selects p g.M.Memory.choose x y words (λ byte. virtual_effect o (used.OfMethod c.args.m c.args.named) byte (seen p x))) c.in-Ok-Some.field-0-is c.in-Ok-Some.ensures in
    subst (CanStep p) (sym found.0) c.requires.can

pub enter-requires-clause-serves : goal.enter-requires-clause-serves
enter-requires-clause-serves g c =
    let p = c.args.program.now in
    let o = p.outline in
    let x = c.args.machine.now in
    let y = c.virtual_target.new.machine in
    let words = words_of_arguments o c.args.m.0 + 1 in
    let found = subst (Selects p g.M.Memory.choose x y words (λ byte. virtual_effect o (used.OfMethod c.args.m c.args.named) byte (seen p x))) c.in-Ok-Some.field-0-is c.in-Ok-Some.ensures in
    subst (λ (y : State). ServesNatives o y.areas) (sym found.0) c.requires.serves

pub returns-in-Ok-Some-clause-told : goal.returns-in-Ok-Some-clause-told
returns-in-Ok-Some-clause-told g c =
    let p = c.args.program.now in
    let o = p.outline in
    let x = c.args.machine.now in
    let y = c.virtual_target.new.machine in
    let words = words_of_arguments o c.args.m.0 + 1 in
    let found = subst (Selects p g.M.Memory.choose x y words (λ byte. virtual_effect o (used.OfMethod c.args.m c.args.named) byte (seen p x))) c.in-Ok-Some.field-0-is c.in-Ok-Some.ensures in
    told-ok c.enter.result _ _
    (selected-steps p g.M.Memory.choose x y c.enter.new.machine (g.S.Sink.output c.args.out.now) (g.S.Sink.output c.enter.new.out) words
    c.words_with_receiver-words.result c.in-Ok-Some.target (virtual_effect o (used.OfMethod c.args.m c.args.named)) found c.words_with_receiver-words.ensures)
    c.enter.ensures.told

pub returns-in-Ok-Some-clause-failed : goal.returns-in-Ok-Some-clause-failed
returns-in-Ok-Some-clause-failed g c failed =
    let p = c.args.program.now in
    let o = p.outline in
    let x = c.args.machine.now in
    let y = c.virtual_target.new.machine in
    let words = words_of_arguments o c.args.m.0 + 1 in
    let found = subst (Selects p g.M.Memory.choose x y words (λ byte. virtual_effect o (used.OfMethod c.args.m c.args.named) byte (seen p x))) c.in-Ok-Some.field-0-is c.in-Ok-Some.ensures in
    selected-fails p g.M.Memory.choose x y (g.S.Sink.output c.args.out.now) (g.S.Sink.output c.enter.new.out) words
    c.words_with_receiver-words.result c.in-Ok-Some.target (virtual_effect o (used.OfMethod c.args.m c.args.named)) found c.words_with_receiver-words.ensures
    (c.enter.ensures.failed failed)

pub returns-in-Ok-None-clause-told : goal.returns-in-Ok-None-clause-told
returns-in-Ok-None-clause-told g c =
    let p = c.args.program.now in
    let o = p.outline in
    let x = c.args.machine.now in
    let y = c.virtual_target.new.machine in
    let words = words_of_arguments o c.args.m.0 + 1 in
    refused-steps p g.M.Memory.choose x y (g.S.Sink.output c.args.out.now) (virtual_effect o (used.OfMethod c.args.m c.args.named))
    (subst (Selects p g.M.Memory.choose x y words (λ byte. virtual_effect o (used.OfMethod c.args.m c.args.named) byte (seen p x))) c.in-Ok-None.field-0-is c.in-Ok-None.ensures)
