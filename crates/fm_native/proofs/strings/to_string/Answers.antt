use Rattle.std.proofs.Common.{Ok, Err, [], ◌∷◌, sym}
use Rattle.fm_frames.proofs.Throwing.{told-ok}
use Rattle.fm_frames.specs.Effects.{OfOperand, words}
use Rattle.fm_frames.specs.declared.natives.Native.TheVariants.{StringToString}
use Rattle.fm_native.proofs.Rows.{carried, itself-is}
use Rattle.fm_native.proofs.strings.to_string.Goals as goal
use Rattle.fm_frames.specs.inner.Doings.{seen}
use Rattle.fm_native.specs.inner.Asked.{refused}

pub returns-in-Ok : goal.returns-in-Ok
returns-in-Ok g c =
    let p = c.args.program.now in
    let x = c.args.machine.now in
    told-ok c.give.result _ _
    (λ given.
    carried p g.M.Memory.choose x c.give.new.self StringToString (words 1 (OfOperand 0 ∷ []))
    (λ byte. itself-is p.outline x.areas.store byte (seen p x) (Ok c.in-Ok.field-0) c.in-Ok.ensures.value)
    (given (OfOperand 0) (sym c.word-text.ensures) p g.M.Memory.choose))
    c.give.ensures

pub returns-in-Err : goal.returns-in-Err
returns-in-Err g c =
    let p = c.args.program.now in
    let x = c.args.machine.now in
    told-ok c.refuse.result _ _
    (λ ended.
    carried p g.M.Memory.choose x c.refuse.new.machine StringToString (refused p.outline 0 c.in-Err.refusal)
    (λ byte. itself-is p.outline x.areas.store byte (seen p x) (Err c.in-Err.refusal) c.in-Err.ensures.value)
    (ended 0 c.in-Err.ensures.at))
    c.refuse.ensures
