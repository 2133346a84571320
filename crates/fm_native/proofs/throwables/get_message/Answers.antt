use Rattle.std.proofs.Common.{Ok, Err}
use Rattle.fm_frames.proofs.Throwing.{told-ok}
use Rattle.fm_frames.specs.Effects.{OfPlace}
use Rattle.fm_frames.specs.NativeRows.{text_kind}
use Rattle.fm_frames.specs.declared.natives.Native.TheVariants.{GetMessage}
use Rattle.fm_frames.specs.inner.Doings.{seen}
use Rattle.fm_native.proofs.HiddenRows.{message-is, told_message}
use Rattle.fm_native.proofs.HiddenSteps.{message-read}
use Rattle.fm_native.proofs.Rows.{carried}
use Rattle.fm_native.specs.inner.Asked.{refused}
use Rattle.fm_native.proofs.throwables.get_message.Goals as goal

pub returns-in-Ok : goal.returns-in-Ok
returns-in-Ok g c =
    let p = c.args.program.now in
    let o = p.outline in
    let x = c.args.machine.now in
    told-ok c.give.result _ _
    (λ given.
    carried p g.M.Memory.choose x c.give.new.self GetMessage (told_message o)
    (λ byte. message-is o x.areas.store x byte (seen p x) (Ok c.in-Ok.held) c.in-Ok.ensures.value c.in-Ok.ensures.held)
    (given (OfPlace 0 0 (text_kind o))
    (message-read o x c.in-Ok.held c.text_kind-kind.result c.place-message.result (c.text_kind-kind.ensures c.requires.can.runnable) c.in-Ok.ensures.held.word c.place-message.ensures)
    p g.M.Memory.choose))
    c.give.ensures

pub returns-in-Err : goal.returns-in-Err
returns-in-Err g c =
    let p = c.args.program.now in
    let o = p.outline in
    let x = c.args.machine.now in
    told-ok c.refuse.result _ _
    (λ ended.
    carried p g.M.Memory.choose x c.refuse.new.machine GetMessage (refused o 0 c.in-Err.refusal)
    (λ byte. message-is o x.areas.store x byte (seen p x) (Err c.in-Err.refusal) c.in-Err.ensures.value tt)
    (ended 0 c.in-Err.ensures.at))
    c.refuse.ensures
