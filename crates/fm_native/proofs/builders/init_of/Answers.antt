use Rattle.std.proofs.Common.{◌≡◌, Ok, Err, ap, ◌∙◌, rules}
use Rattle.fm_frames.proofs.Throwing.{told-ok}
use Rattle.fm_frames.specs.Effects.{acting}
use Rattle.fm_frames.specs.NativeRows.{has_text}
use Rattle.fm_frames.specs.declared.natives.Native.TheVariants.{BufferInitOf}
use Rattle.fm_frames.specs.inner.Doings.{seen}
use Rattle.fm_native.proofs.HiddenRows.{buffer-is, buffer-refused}
use Rattle.fm_native.proofs.Rows.{carried}
use Rattle.fm_native.specs.inner.Asked.{refused, units_in}
use Rattle.fm_native.proofs.builders.init_of.Goals as goal

pub returns-in_ok-units-in-Ok-text_at : goal.returns-in_ok-units-in-Ok-text_at
returns-in_ok-units-in-Ok-text_at g c =
    let p = c.args.program.now in
    let o = p.outline in
    let x = c.args.machine.now in
    let told : units_in x.areas.store c.in-Ok-text_at.text ≡ c.deref.result.now = search rules in
    told-ok c.keep_text.result _ _
    (λ kept.
    carried p g.M.Memory.choose x c.keep_text.new.self BufferInitOf (acting 2 (has_text o 1 c.deref.result.now))
    (λ byte.
    buffer-is o x.areas.store x byte (seen p x) c.in-Ok.held (Ok c.in-Ok-text_at.text) c.in-Ok.ensures.value c.in-Ok.ensures.held c.in-Ok-text_at.ensures.value
    ∙ ap (λ us. acting 2 (has_text o 1 us)) told)
    (kept 1 c.in-Ok.ensures.held.word))
    c.keep_text.ensures

pub keep_text-requires-clause-wide : goal.keep_text-requires-clause-wide
keep_text-requires-clause-wide g c = (c.in-Ok.ensures.hides.object, c.in-Ok.ensures.hides.at, c.in-Ok.ensures.hides.wide)

pub returns-in-Err-text_at : goal.returns-in-Err-text_at
returns-in-Err-text_at g c =
    let p = c.args.program.now in
    let o = p.outline in
    let x = c.args.machine.now in
    told-ok c.refuse.result _ _
    (λ ended.
    carried p g.M.Memory.choose x c.refuse.new.machine BufferInitOf (refused o 0 c.in-Err-text_at.refusal)
    (λ byte. buffer-is o x.areas.store x byte (seen p x) c.in-Ok.held (Err c.in-Err-text_at.refusal) c.in-Ok.ensures.value c.in-Ok.ensures.held c.in-Err-text_at.ensures.value)
    (ended 0 c.in-Err-text_at.ensures.at))
    c.refuse.ensures

pub returns-in-Err : goal.returns-in-Err
returns-in-Err g c =
    let p = c.args.program.now in
    let o = p.outline in
    let x = c.args.machine.now in
    told-ok c.refuse-in-Err.result _ _
    (λ ended.
    carried p g.M.Memory.choose x c.refuse-in-Err.new.machine BufferInitOf (refused o 1 c.in-Err.refusal)
    (λ byte. buffer-refused o x.areas.store byte (seen p x) c.in-Err.refusal c.in-Err.ensures.value)
    (ended 1 c.in-Err.ensures.at))
    c.refuse-in-Err.ensures
