use Rattle.std.proofs.Common.{◌≡◌, Ok, Err, ap, ◌∙◌, rules}
use Rattle.fm_frames.proofs.Throwing.{told-ok}
use Rattle.fm_frames.specs.Effects.{Plain, int_word, words}
use Rattle.fm_frames.specs.NativeRows.{compared}
use Rattle.fm_frames.specs.declared.natives.Native.TheVariants.{CompareTo}
use Rattle.fm_frames.specs.declared.values.Value.TheVariants as value
use Rattle.fm_native.proofs.Rows.{carried, compared-is, compared-refused}
use Rattle.fm_native.proofs.strings.compare_to.Goals as goal
use Rattle.fm_frames.specs.inner.Doings.{seen}
use Rattle.fm_native.specs.inner.Asked.{refused, units_in}

pub returns-in_ok-others-in-Ok-text_at : goal.returns-in_ok-others-in-Ok-text_at
returns-in_ok-others-in-Ok-text_at g c =
    let p = c.args.program.now in
    let x = c.args.machine.now in
    let told : compared (units_in x.areas.store c.in-Ok.text) (units_in x.areas.store c.in-Ok-text_at.other) ≡ c.compare_units-difference.result = search rules in
    told-ok c.give.result _ _
    (λ given.
    carried p g.M.Memory.choose x c.give.new.self CompareTo (words 2 (int_word c.compare_units-difference.result))
    (λ byte.
    compared-is p.outline x.areas.store byte (seen p x) c.in-Ok.text (Ok c.in-Ok-text_at.other) c.in-Ok.ensures.value c.in-Ok-text_at.ensures.value
    ∙ ap (λ n. words 2 (int_word n)) told)
    (given (Plain (value.Int c.compare_units-difference.result)) (search rules) p g.M.Memory.choose))
    c.give.ensures

pub returns-in-Err-text_at : goal.returns-in-Err-text_at
returns-in-Err-text_at g c =
    let p = c.args.program.now in
    let x = c.args.machine.now in
    told-ok c.refuse.result _ _
    (λ ended.
    carried p g.M.Memory.choose x c.refuse.new.machine CompareTo (refused p.outline 0 c.in-Err-text_at.refusal)
    (λ byte. compared-is p.outline x.areas.store byte (seen p x) c.in-Ok.text (Err c.in-Err-text_at.refusal) c.in-Ok.ensures.value c.in-Err-text_at.ensures.value)
    (ended 0 c.in-Err-text_at.ensures.at))
    c.refuse.ensures

pub returns-in-Err : goal.returns-in-Err
returns-in-Err g c =
    let p = c.args.program.now in
    let x = c.args.machine.now in
    told-ok c.refuse-in-Err.result _ _
    (λ ended.
    carried p g.M.Memory.choose x c.refuse-in-Err.new.machine CompareTo (refused p.outline 1 c.in-Err.refusal)
    (λ byte. compared-refused p.outline x.areas.store byte (seen p x) c.in-Err.refusal c.in-Err.ensures.value)
    (ended 1 c.in-Err.ensures.at))
    c.refuse-in-Err.ensures
