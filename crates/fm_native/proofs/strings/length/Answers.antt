use Rattle.std.proofs.Common.{Ok, Err, pos, ap, ◌∙◌, rules}
use Rattle.fm_frames.proofs.Throwing.{told-ok}
use Rattle.fm_frames.specs.Effects.{Plain, int_word, words}
use Rattle.fm_frames.specs.declared.natives.Native.TheVariants.{StringLength}
use Rattle.fm_frames.specs.declared.values.Value.TheVariants as value
use Rattle.fm_native.proofs.Rows.{carried, length-is}
use Rattle.fm_native.proofs.strings.length.Goals as goal
use Rattle.fm_frames.specs.inner.Doings.{seen}
use Rattle.fm_native.specs.inner.Asked.{refused}

pub returns-in-Ok : goal.returns-in-Ok
returns-in-Ok g c =
    let p = c.args.program.now in
    let x = c.args.machine.now in
    told-ok c.give.result _ _
    (λ given.
    carried p g.M.Memory.choose x c.give.new.self StringLength (words 1 (int_word (pos c.in-Ok.text.len)))
    (λ byte.
    length-is p.outline x.areas.store byte (seen p x) (Ok c.in-Ok.text) c.in-Ok.ensures.value
    ∙ ap (λ n. words 1 (int_word (pos n))) c.in-Ok.ensures.text.len)
    (given (Plain (value.Int (pos c.in-Ok.text.len))) (search (rules, c.in-Ok.ensures.text.within)) p g.M.Memory.choose))
    c.give.ensures

pub returns-in-Err : goal.returns-in-Err
returns-in-Err g c =
    let p = c.args.program.now in
    let x = c.args.machine.now in
    told-ok c.refuse.result _ _
    (λ ended.
    carried p g.M.Memory.choose x c.refuse.new.machine StringLength (refused p.outline 0 c.in-Err.refusal)
    (λ byte. length-is p.outline x.areas.store byte (seen p x) (Err c.in-Err.refusal) c.in-Err.ensures.value)
    (ended 0 c.in-Err.ensures.at))
    c.refuse.ensures
