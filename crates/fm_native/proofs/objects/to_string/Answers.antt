use Rattle.std.proofs.Common.{◌≡◌, ap, ◌∙◌, rules}
use Rattle.fm_frames.proofs.Throwing.{told-ok}
use Rattle.fm_frames.specs.Effects.{making}
use Rattle.fm_frames.specs.NativeRows.{text_made}
use Rattle.fm_frames.specs.declared.natives.Native.TheVariants.{ObjectToString}
use Rattle.fm_frames.specs.inner.Doings.{seen}
use Rattle.fm_native.proofs.NameTexts.{name-fits, object-is, object-refused, text_of_held}
use Rattle.fm_native.proofs.Rows.{carried}
use Rattle.fm_native.specs.inner.Asked.{refused}
use Rattle.fm_native.proofs.objects.to_string.Goals as goal

pub object_units-requires-clause-fits : goal.object_units-requires-clause-fits
object_units-requires-clause-fits g c =
    name-fits c.args.program.now.outline c.args.machine.now.areas.store c.args.machine.now 0 c.in-Ok.held c.requires.names c.in-Ok.ensures.held

pub returns-in_ok-units-in-Ok : goal.returns-in_ok-units-in-Ok
returns-in_ok-units-in-Ok g c =
    let p = c.args.program.now in
    let o = p.outline in
    let x = c.args.machine.now in
    let told : text_of_held o c.in-Ok.held ≡ c.deref.result.now = search rules in
    told-ok c.give_text.result _ _
    (λ given.
    carried p g.M.Memory.choose x c.give_text.new.self ObjectToString (making 1 (text_made o c.deref.result.now))
    (λ byte.
    object-is o x.areas.store x byte (seen p x) c.in-Ok.held c.in-Ok.ensures.value c.in-Ok.ensures.held
    ∙ ap (λ us. making 1 (text_made o us)) told)
    given)
    c.give_text.ensures

pub returns-in-Err : goal.returns-in-Err
returns-in-Err g c =
    let p = c.args.program.now in
    let o = p.outline in
    let x = c.args.machine.now in
    told-ok c.refuse.result _ _
    (λ ended.
    carried p g.M.Memory.choose x c.refuse.new.machine ObjectToString (refused o 0 c.in-Err.refusal)
    (λ byte. object-refused o x.areas.store byte (seen p x) c.in-Err.refusal c.in-Err.ensures.value)
    (ended 0 c.in-Err.ensures.at))
    c.refuse.ensures
