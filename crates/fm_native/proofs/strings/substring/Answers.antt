use Rattle.std.proofs.Common.{◌≡◌, Ok, Err, ap, sym, ◌∙◌, arith, w32, to_z, of_z}
use Rattle.std.proofs.lemmas.Int.{ints, to_z-of_z}
use Rattle.fm_frames.proofs.Throwing.{told-ok}
use Rattle.fm_frames.specs.declared.natives.Native.TheVariants.{Substring}
use Rattle.fm_frames.specs.inner.Doings.{seen}
use Rattle.fm_native.proofs.Rows.{carried}
use Rattle.fm_native.proofs.TextRows.{part-begun, part-refused}
use Rattle.fm_native.proofs.strings.substring.Goals as goal
use Rattle.fm_native.specs.inner.Asked.{part_up_to, refused, units_in}

pub returns-in-Ok-int_at : goal.returns-in-Ok-int_at
returns-in-Ok-int_at g c =
    let p = c.args.program.now in
    let o = p.outline in
    let x = c.args.machine.now in
    let first : to_z w32 (of_z w32 c.in-Ok-int_at.begin) ≡ c.in-Ok-int_at.begin = grind (arith, ints, to_z-of_z) in
    told-ok c.part_from.result _ _
    (λ did.
    carried p g.M.Memory.choose x c.part_from.new.machine Substring
    (part_up_to o (seen p x) (units_in x.areas.store c.in-Ok.text) (to_z w32 (of_z w32 c.in-Ok-int_at.begin)))
    (λ byte.
    part-begun o x.areas.store byte (seen p x) c.in-Ok.text (Ok c.in-Ok-int_at.begin) c.in-Ok.ensures.value c.in-Ok-int_at.ensures.value
    ∙ ap (part_up_to o (seen p x) (units_in x.areas.store c.in-Ok.text)) (sym first))
    did)
    c.part_from.ensures

pub returns-in-Err-int_at : goal.returns-in-Err-int_at
returns-in-Err-int_at g c =
    let p = c.args.program.now in
    let o = p.outline in
    let x = c.args.machine.now in
    told-ok c.refuse.result _ _
    (λ ended.
    carried p g.M.Memory.choose x c.refuse.new.machine Substring (refused o 1 c.in-Err-int_at.refusal)
    (λ byte. part-begun o x.areas.store byte (seen p x) c.in-Ok.text (Err c.in-Err-int_at.refusal) c.in-Ok.ensures.value c.in-Err-int_at.ensures.value)
    (ended 1 c.in-Err-int_at.ensures.at))
    c.refuse.ensures

pub returns-in-Err : goal.returns-in-Err
returns-in-Err g c =
    let p = c.args.program.now in
    let o = p.outline in
    let x = c.args.machine.now in
    told-ok c.refuse-in-Err.result _ _
    (λ ended.
    carried p g.M.Memory.choose x c.refuse-in-Err.new.machine Substring (refused o 2 c.in-Err.refusal)
    (λ byte. part-refused o x.areas.store byte (seen p x) c.in-Err.refusal c.in-Err.ensures.value)
    (ended 2 c.in-Err.ensures.at))
    c.refuse-in-Err.ensures
