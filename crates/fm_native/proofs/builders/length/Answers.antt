use Rattle.std.proofs.Common.{Ok, Err, ap, sym, ◌∙◌, rules}
use Rattle.fm_frames.proofs.Throwing.{told-ok}
use Rattle.fm_frames.specs.Effects.{Plain, int_word, words}
use Rattle.fm_frames.specs.declared.natives.Native.TheVariants.{BuilderLength}
use Rattle.fm_frames.specs.declared.values.Value.TheVariants as value
use Rattle.fm_frames.specs.inner.Doings.{seen}
use Rattle.fm_native.proofs.HiddenRows.{built-length}
use Rattle.fm_native.proofs.Rows.{carried}
use Rattle.fm_native.specs.inner.Asked.{refused}
use Rattle.fm_native.proofs.builders.length.Goals as goal

pub returns-in-Ok : goal.returns-in-Ok
returns-in-Ok g c =
    let p = c.args.program.now in
    let o = p.outline in
    let x = c.args.machine.now in
    told-ok c.give.result _ _
    (λ given.
    carried p g.M.Memory.choose x c.give.new.self BuilderLength (words 1 (int_word c.built_len-len.result))
    (λ byte. built-length o x.areas.store byte (seen p x) (Ok c.in-Ok.built) c.in-Ok.ensures.value ∙ ap (λ n. words 1 (int_word n)) (sym c.built_len-len.ensures))
    (given (Plain (value.Int c.built_len-len.result)) (search rules) p g.M.Memory.choose))
    c.give.ensures

pub returns-in-Err : goal.returns-in-Err
returns-in-Err g c =
    let p = c.args.program.now in
    let o = p.outline in
    let x = c.args.machine.now in
    told-ok c.refuse.result _ _
    (λ ended.
    carried p g.M.Memory.choose x c.refuse.new.machine BuilderLength (refused o 0 c.in-Err.refusal)
    (λ byte. built-length o x.areas.store byte (seen p x) (Err c.in-Err.refusal) c.in-Err.ensures.value)
    (ended 0 c.in-Err.ensures.at))
    c.refuse.ensures
