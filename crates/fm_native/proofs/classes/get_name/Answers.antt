use Rattle.std.proofs.Common.{◌≡◌, Ok, Err, ap, ◌∙◌, rules}
use Rattle.fm_frames.proofs.Throwing.{told-ok}
use Rattle.fm_frames.specs.Effects.{making}
use Rattle.fm_frames.specs.NativeRows.{text_made}
use Rattle.fm_frames.specs.declared.natives.Native.TheVariants.{ClassGetName}
use Rattle.fm_frames.specs.inner.Doings.{seen}
use Rattle.fm_native.proofs.Rows.{carried, name-is}
use Rattle.fm_native.specs.inner.Asked.{refused, units_in}
use Rattle.fm_native.proofs.classes.get_name.Goals as goal

pub returns-in_ok-units-in-Ok : goal.returns-in_ok-units-in-Ok
returns-in_ok-units-in-Ok g c =
    let p = c.args.program.now in
    let o = p.outline in
    let x = c.args.machine.now in
    let told : units_in x.areas.store c.in-Ok.name ≡ c.deref.result.now = search rules in
    told-ok c.give_text.result _ _
    (λ given.
    carried p g.M.Memory.choose x c.give_text.new.self ClassGetName (making 1 (text_made o c.deref.result.now))
    (λ byte. name-is o x.areas.store byte (seen p x) (Ok c.in-Ok.name) c.in-Ok.ensures.value ∙ ap (λ us. making 1 (text_made o us)) told)
    given)
    c.give_text.ensures

pub returns-in-Err : goal.returns-in-Err
returns-in-Err g c =
    let p = c.args.program.now in
    let o = p.outline in
    let x = c.args.machine.now in
    told-ok c.refuse.result _ _
    (λ ended.
    carried p g.M.Memory.choose x c.refuse.new.machine ClassGetName (refused o 0 c.in-Err.refusal)
    (λ byte. name-is o x.areas.store byte (seen p x) (Err c.in-Err.refusal) c.in-Err.ensures.value)
    (ended 0 c.in-Err.ensures.at))
    c.refuse.ensures
