use Rattle.std.proofs.Common.{◌≡◌, Ok, Err, ap, sym, ◌∙◌, arith, w32, to_z, of_z}
use Rattle.std.proofs.lemmas.Int.{ints, to_z-of_z}
use Rattle.fm_frames.proofs.Throwing.{told-ok}
use Rattle.fm_frames.specs.NativeRows.{with_length}
use Rattle.fm_frames.specs.declared.natives.Native.TheVariants.{BuilderSetLength}
use Rattle.fm_native.proofs.HiddenRows.{resize-is, resize-refused}
use Rattle.fm_native.proofs.Rows.{carried}
use Rattle.fm_native.proofs.builders.set_length.Goals as goal
use Rattle.fm_frames.specs.inner.Doings.{seen}
use Rattle.fm_native.specs.inner.Asked.{refused}
use Rattle.fm_native.specs.inner.Hidden.{units_so_far}

pub returns-in-Ok-int_at : goal.returns-in-Ok-int_at
returns-in-Ok-int_at g c =
    let p = c.args.program.now in
    let x = c.args.machine.now in
    let cut = to_z w32 (of_z w32 c.in-Ok-int_at.len) in
    let same : to_z w32 (of_z w32 c.in-Ok-int_at.len) ≡ c.in-Ok-int_at.len = grind (arith, ints, to_z-of_z) in
    told-ok c.resize.result _ _
    (λ did.
    carried p g.M.Memory.choose x c.resize.new.machine BuilderSetLength (with_length p.outline (units_so_far x.areas.store c.in-Ok.built.text) cut)
    (λ byte.
    resize-is p.outline x.areas.store byte (seen p x) c.in-Ok.built (Ok c.in-Ok-int_at.len) c.in-Ok.ensures.value c.in-Ok-int_at.ensures.value
    ∙ ap (with_length p.outline (units_so_far x.areas.store c.in-Ok.built.text)) (sym same))
    did)
    c.resize.ensures

pub returns-in-Err-int_at : goal.returns-in-Err-int_at
returns-in-Err-int_at g c =
    let p = c.args.program.now in
    let x = c.args.machine.now in
    told-ok c.refuse.result _ _
    (λ ended.
    carried p g.M.Memory.choose x c.refuse.new.machine BuilderSetLength (refused p.outline 0 c.in-Err-int_at.refusal)
    (λ byte. resize-is p.outline x.areas.store byte (seen p x) c.in-Ok.built (Err c.in-Err-int_at.refusal) c.in-Ok.ensures.value c.in-Err-int_at.ensures.value)
    (ended 0 c.in-Err-int_at.ensures.at))
    c.refuse.ensures

pub returns-in-Err : goal.returns-in-Err
returns-in-Err g c =
    let p = c.args.program.now in
    let x = c.args.machine.now in
    told-ok c.refuse-in-Err.result _ _
    (λ ended.
    carried p g.M.Memory.choose x c.refuse-in-Err.new.machine BuilderSetLength (refused p.outline 1 c.in-Err.refusal)
    (λ byte. resize-refused p.outline x.areas.store byte (seen p x) c.in-Err.refusal c.in-Err.ensures.value)
    (ended 1 c.in-Err.ensures.at))
    c.refuse-in-Err.ensures
