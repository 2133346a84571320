use Rattle.std.proofs.Common.{Ok, Err, ap, sym, ◌∙◌, rules}
use Rattle.fm_frames.proofs.Throwing.{told-ok}
use Rattle.fm_frames.specs.Effects.{Plain, int_word, words}
use Rattle.fm_frames.specs.declared.natives.Native.TheVariants.{ObjectHashCode}
use Rattle.fm_frames.specs.declared.values.Value.TheVariants as value
use Rattle.fm_native.proofs.Rows.{carried, hash_code-is, hashed-at}
use Rattle.fm_native.proofs.objects.hash_code.Goals as goal
use Rattle.fm_frames.specs.inner.Doings.{seen}
use Rattle.fm_native.specs.inner.Asked.{refused}

pub returns-in-Ok : goal.returns-in-Ok
returns-in-Ok g c =
    let p = c.args.program.now in
    let x = c.args.machine.now in
    told-ok c.give.result _ _
    (λ given.
    carried p g.M.Memory.choose x c.give.new.self ObjectHashCode (words 1 (int_word c.hash_of-hash.result))
    (λ byte.
    hash_code-is p.outline x.areas.store byte (seen p x) (Ok c.in-Ok.held) c.in-Ok.ensures.value
    ∙ hashed-at p.outline x.areas.store x 0 c.in-Ok.held c.in-Ok.ensures.held ∙ ap (λ n. words 1 (int_word n)) (sym c.hash_of-hash.ensures))
    (given (Plain (value.Int c.hash_of-hash.result)) (search rules) p g.M.Memory.choose))
    c.give.ensures

pub returns-in-Err : goal.returns-in-Err
returns-in-Err g c =
    let p = c.args.program.now in
    let x = c.args.machine.now in
    told-ok c.refuse.result _ _
    (λ ended.
    carried p g.M.Memory.choose x c.refuse.new.machine ObjectHashCode (refused p.outline 0 c.in-Err.refusal)
    (λ byte. hash_code-is p.outline x.areas.store byte (seen p x) (Err c.in-Err.refusal) c.in-Err.ensures.value)
    (ended 0 c.in-Err.ensures.at))
    c.refuse.ensures
