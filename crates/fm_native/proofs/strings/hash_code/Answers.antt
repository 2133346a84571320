use Rattle.std.proofs.Common.{◌≡◌, Ok, Err, pos, ap, ◌∙◌, rules}
use Rattle.fm_frames.proofs.Throwing.{told-ok}
use Rattle.fm_frames.specs.Effects.{Plain, int_word, words}
use Rattle.fm_frames.specs.declared.natives.Native.TheVariants.{StringHashCode}
use Rattle.fm_frames.specs.NativeRows.{hash_from}
use Rattle.fm_frames.specs.declared.values.Value.TheVariants as value
use Rattle.fm_native.proofs.Rows.{carried, hash-is}
use Rattle.fm_native.proofs.strings.hash_code.Goals as goal
use Rattle.fm_frames.specs.inner.Doings.{seen}
use Rattle.fm_native.specs.inner.Asked.{refused, units_in}

pub returns-in_ok-units-in-Ok : goal.returns-in_ok-units-in-Ok
returns-in_ok-units-in-Ok g c =
    let p = c.args.program.now in
    let x = c.args.machine.now in
    let told : hash_from (pos 0) (units_in x.areas.store c.in-Ok.text) ≡ c.hash_units-hash.result = search rules in
    told-ok c.give.result _ _
    (λ given.
    carried p g.M.Memory.choose x c.give.new.self StringHashCode (words 1 (int_word c.hash_units-hash.result))
    (λ byte.
    hash-is p.outline x.areas.store byte (seen p x) (Ok c.in-Ok.text) c.in-Ok.ensures.value ∙ ap (λ n. words 1 (int_word n)) told)
    (given (Plain (value.Int c.hash_units-hash.result)) (search rules) p g.M.Memory.choose))
    c.give.ensures

pub returns-in-Err : goal.returns-in-Err
returns-in-Err g c =
    let p = c.args.program.now in
    let x = c.args.machine.now in
    told-ok c.refuse.result _ _
    (λ ended.
    carried p g.M.Memory.choose x c.refuse.new.machine StringHashCode (refused p.outline 0 c.in-Err.refusal)
    (λ byte. hash-is p.outline x.areas.store byte (seen p x) (Err c.in-Err.refusal) c.in-Err.ensures.value)
    (ended 0 c.in-Err.ensures.at))
    c.refuse.ensures
