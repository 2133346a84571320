use Rattle.std.proofs.Common.{Ok, Err, sym, arith}
use Rattle.fm_frames.proofs.Throwing.{told-ok}
use Rattle.fm_frames.specs.Effects.{OfOperand}
use Rattle.fm_frames.specs.declared.natives.Native.TheVariants.{ThrowableInitOf}
use Rattle.fm_frames.specs.inner.Doings.{seen}
use Rattle.fm_native.proofs.HiddenRows.{throwable-init-of, kept_message}
use Rattle.fm_native.proofs.HiddenSteps.{message-fits, message-kept}
use Rattle.fm_native.proofs.Rows.{carried}
use Rattle.fm_native.specs.inner.Asked.{refused}
use Rattle.fm_native.proofs.throwables.init_of.Goals as goal

pub put-requires-clause-fits : goal.put-requires-clause-fits
put-requires-clause-fits g c =
    message-fits c.args.machine.now.areas.store c.in-Ok.held.cell.0 c.text_kind-kind.result c.word-message.result c.kept-element.result
    (c.in-Ok.ensures.hides.object, c.in-Ok.ensures.hides.at, c.in-Ok.ensures.hides.wide) c.kept-element.ensures (omega (arith, c.kept-element.type_inv))

pub returns-in-Ok : goal.returns-in-Ok
returns-in-Ok g c =
    let p = c.args.program.now in
    let o = p.outline in
    let x = c.args.machine.now in
    carried p g.M.Memory.choose x c.put.new.self ThrowableInitOf (kept_message o)
    (λ byte. throwable-init-of o x.areas.store x byte (seen p x) (Ok c.in-Ok.held) c.in-Ok.ensures.value c.in-Ok.ensures.held)
    (message-kept p g.M.Memory.choose x c.put.new.self c.text_kind-kind.result (c.text_kind-kind.ensures c.requires.can.runnable)
    (c.put.ensures (OfOperand 1) (OfOperand 0) c.in-Ok.ensures.held.word (sym c.word-message.ensures) p g.M.Memory.choose))

pub returns-in-Err : goal.returns-in-Err
returns-in-Err g c =
    let p = c.args.program.now in
    let o = p.outline in
    let x = c.args.machine.now in
    told-ok c.refuse.result _ _
    (λ ended.
    carried p g.M.Memory.choose x c.refuse.new.machine ThrowableInitOf (refused o 1 c.in-Err.refusal)
    (λ byte. throwable-init-of o x.areas.store x byte (seen p x) (Err c.in-Err.refusal) c.in-Err.ensures.value tt)
    (ended 1 c.in-Err.ensures.at))
    c.refuse.ensures
