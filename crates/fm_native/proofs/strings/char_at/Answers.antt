use Rattle.std.proofs.Common.{◌≡◌, Ok, Err, ap, sym, ◌∙◌, arith, w32, to_z, of_z}
use Rattle.std.proofs.lemmas.Int.{ints, to_z-of_z}
use Rattle.fm_frames.proofs.Throwing.{told-ok}
use Rattle.fm_frames.specs.NativeRows.{char_at}
use Rattle.fm_frames.specs.declared.natives.Native.TheVariants.{CharAt}
use Rattle.fm_native.proofs.Rows.{carried, char-is, char-refused}
use Rattle.fm_native.proofs.strings.char_at.Goals as goal
use Rattle.fm_frames.specs.inner.Doings.{seen}
use Rattle.fm_native.specs.inner.Asked.{refused, units_in}

pub returns-in-Ok-int_at : goal.returns-in-Ok-int_at
returns-in-Ok-int_at g c =
    let p = c.args.program.now in
    let x = c.args.machine.now in
    let cut = to_z w32 (of_z w32 c.in-Ok-int_at.place) in
    let same : to_z w32 (of_z w32 c.in-Ok-int_at.place) ≡ c.in-Ok-int_at.place = grind (arith, ints, to_z-of_z) in
    told-ok c.char_in.result _ _
    (λ did.
    carried p g.M.Memory.choose x c.char_in.new.machine CharAt (char_at p.outline (units_in x.areas.store c.in-Ok.text) cut)
    (λ byte.
    char-is p.outline x.areas.store byte (seen p x) c.in-Ok.text (Ok c.in-Ok-int_at.place) c.in-Ok.ensures.value c.in-Ok-int_at.ensures.value
    ∙ ap (char_at p.outline (units_in x.areas.store c.in-Ok.text)) (sym same))
    did)
    c.char_in.ensures

pub returns-in-Err-int_at : goal.returns-in-Err-int_at
returns-in-Err-int_at g c =
    let p = c.args.program.now in
    let x = c.args.machine.now in
    told-ok c.refuse.result _ _
    (λ ended.
    carried p g.M.Memory.choose x c.refuse.new.machine CharAt (refused p.outline 0 c.in-Err-int_at.refusal)
    (λ byte. char-is p.outline x.areas.store byte (seen p x) c.in-Ok.text (Err c.in-Err-int_at.refusal) c.in-Ok.ensures.value c.in-Err-int_at.ensures.value)
    (ended 0 c.in-Err-int_at.ensures.at))
    c.refuse.ensures

pub returns-in-Err : goal.returns-in-Err
returns-in-Err g c =
    let p = c.args.program.now in
    let x = c.args.machine.now in
    told-ok c.refuse-in-Err.result _ _
    (λ ended.
    carried p g.M.Memory.choose x c.refuse-in-Err.new.machine CharAt (refused p.outline 1 c.in-Err.refusal)
    (λ byte. char-refused p.outline x.areas.store byte (seen p x) c.in-Err.refusal c.in-Err.ensures.value)
    (ended 1 c.in-Err.ensures.at))
    c.refuse-in-Err.ensures
