use Rattle.std.proofs.Common.{◌≡◌, Ok, Err, pos, if◌then◌else◌, ap, ◌∙◌, rules}
use Rattle.fm_frames.proofs.Throwing.{told-ok}
use Rattle.fm_frames.specs.Effects.{Plain, int_word, words}
use Rattle.fm_frames.specs.declared.natives.Native.TheVariants.{StringEquals}
use Rattle.fm_frames.specs.declared.values.Value.TheVariants as value
use Rattle.fm_frames.specs.inner.Doings.{seen}
use Rattle.fm_native.proofs.Rows.{carried}
use Rattle.fm_native.proofs.TextRows.{equal-is, equal-refused}
use Rattle.fm_native.specs.inner.Asked.{equals_other}
use Rattle.fm_native.specs.inner.Asked.{refused}
use Rattle.fm_native.proofs.strings.equals.Goals as goal

pub returns-in_ok-equal-in-Ok-other_on_top : goal.returns-in_ok-equal-in-Ok-other_on_top
returns-in_ok-equal-in-Ok-other_on_top g c =
    let p = c.args.program.now in
    let o = p.outline in
    let x = c.args.machine.now in
    let told : (if equals_other x.areas.store c.in-Ok.text c.in-Ok-other_on_top.other then pos 1 else pos 0) ≡ c.told.result = search rules in
    told-ok c.give.result _ _
    (λ given.
    carried p g.M.Memory.choose x c.give.new.self StringEquals (words 2 (int_word c.told.result))
    (λ byte.
    equal-is o x.areas.store byte (seen p x) c.in-Ok.text (Ok c.in-Ok-other_on_top.other) c.in-Ok.ensures.value c.in-Ok-other_on_top.ensures.value
    ∙ ap (λ n. words 2 (int_word n)) told)
    (given (Plain (value.Int c.told.result)) (search rules) p g.M.Memory.choose))
    c.give.ensures

pub returns-in-Err-other_on_top : goal.returns-in-Err-other_on_top
returns-in-Err-other_on_top g c =
    let p = c.args.program.now in
    let o = p.outline in
    let x = c.args.machine.now in
    told-ok c.refuse.result _ _
    (λ ended.
    carried p g.M.Memory.choose x c.refuse.new.machine StringEquals (refused o 0 c.in-Err-other_on_top.refusal)
    (λ byte. equal-is o x.areas.store byte (seen p x) c.in-Ok.text (Err c.in-Err-other_on_top.refusal) c.in-Ok.ensures.value c.in-Err-other_on_top.ensures.value)
    (ended 0 c.in-Err-other_on_top.ensures.at))
    c.refuse.ensures

pub returns-in-Err : goal.returns-in-Err
returns-in-Err g c =
    let p = c.args.program.now in
    let o = p.outline in
    let x = c.args.machine.now in
    told-ok c.refuse-in-Err.result _ _
    (λ ended.
    carried p g.M.Memory.choose x c.refuse-in-Err.new.machine StringEquals (refused o 1 c.in-Err.refusal)
    (λ byte. equal-refused o x.areas.store byte (seen p x) c.in-Err.refusal c.in-Err.ensures.value)
    (ended 1 c.in-Err.ensures.at))
    c.refuse-in-Err.ensures
