use Rattle.std.proofs.Common.{◌≡◌, Ok, Err, ap, ◌∙◌, rules}
use Rattle.fm_frames.proofs.Throwing.{told-ok}
use Rattle.fm_frames.specs.Effects.{making}
use Rattle.fm_frames.specs.NativeRows.{text_made, throwable_text}
use Rattle.fm_frames.specs.declared.natives.Native.TheVariants.{ThrowableToString}
use Rattle.fm_frames.specs.Sights.{type_numbered}
use Rattle.fm_frames.specs.inner.Doings.{seen}
use Rattle.fm_native.proofs.HiddenRows.{shown-is, shown-refused}
use Rattle.fm_native.proofs.NameTexts.{name-fits}
use Rattle.fm_native.proofs.Rows.{carried}
use Rattle.fm_native.specs.inner.Asked.{refused, units_in}
use Rattle.std.specs.Option.{option_map}
use Rattle.fm_native.proofs.throwables.to_string.Goals as goal

pub throwable_units-requires-clause-fits : goal.throwable_units-requires-clause-fits
throwable_units-requires-clause-fits g c =
    name-fits c.args.program.now.outline c.args.machine.now.areas.store c.args.machine.now 0 c.in-Ok.held c.requires.names c.in-Ok.ensures.held

pub returns-in_ok-units-in-Ok-inner_of : goal.returns-in_ok-units-in-Ok-inner_of
returns-in_ok-units-in-Ok-inner_of g c =
    let p = c.args.program.now in
    let o = p.outline in
    let x = c.args.machine.now in
    let told : throwable_text o (type_numbered o c.in-Ok.held.head.class) (option_map (units_in x.areas.store) c.in-Ok-inner_of.message) ≡ c.deref.result.now = search rules in
    told-ok c.give_text.result _ _
    (λ given.
    carried p g.M.Memory.choose x c.give_text.new.self ThrowableToString (making 1 (text_made o c.deref.result.now))
    (λ byte.
    shown-is o x.areas.store byte (seen p x) c.in-Ok.held (Ok c.in-Ok-inner_of.message) c.in-Ok.ensures.value c.in-Ok.ensures.hides c.in-Ok-inner_of.ensures.value
    ∙ ap (λ us. making 1 (text_made o us)) told)
    given)
    c.give_text.ensures

pub returns-in-Err-inner_of : goal.returns-in-Err-inner_of
returns-in-Err-inner_of g c =
    let p = c.args.program.now in
    let o = p.outline in
    let x = c.args.machine.now in
    told-ok c.refuse.result _ _
    (λ ended.
    carried p g.M.Memory.choose x c.refuse.new.machine ThrowableToString (refused o 0 c.in-Err-inner_of.refusal)
    (λ byte.
    shown-is o x.areas.store byte (seen p x) c.in-Ok.held (Err c.in-Err-inner_of.refusal) c.in-Ok.ensures.value c.in-Ok.ensures.hides c.in-Err-inner_of.ensures.value)
    (ended 0 (c.in-Err-inner_of.ensures.at 0 c.in-Ok.ensures.held.word)))
    c.refuse.ensures

pub returns-in-Err : goal.returns-in-Err
returns-in-Err g c =
    let p = c.args.program.now in
    let o = p.outline in
    let x = c.args.machine.now in
    told-ok c.refuse-in-Err.result _ _
    (λ ended.
    carried p g.M.Memory.choose x c.refuse-in-Err.new.machine ThrowableToString (refused o 0 c.in-Err.refusal)
    (λ byte. shown-refused o x.areas.store byte (seen p x) c.in-Err.refusal c.in-Err.ensures.value)
    (ended 0 c.in-Err.ensures.at))
    c.refuse-in-Err.ensures
