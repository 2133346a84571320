use Rattle.std.proofs.Common.{◌≡◌, sym, ◌∙◌, arith, w32, to_z, of_z}
use Rattle.std.proofs.lemmas.Int.{ints, to_z-of_z}
use Rattle.fm_frames.proofs.Throwing.{told-ok}
use Rattle.fm_frames.specs.NativeRows.{part_of}
use Rattle.fm_frames.specs.inner.Doings.{seen}
use Rattle.fm_native.proofs.Rows.{carried-one}
use Rattle.fm_native.proofs.strings.part_from.Goals as goal
use Rattle.fm_native.specs.inner.Asked.{part_up_to, refused, units_in}

pub returns-in-Ok : goal.returns-in-Ok
returns-in-Ok g c =
    let p = c.args.program.now in
    let o = p.outline in
    let x = c.args.machine.now in
    let units = units_in x.areas.store c.args.text in
    let last : to_z w32 (of_z w32 c.in-Ok.end) ≡ c.in-Ok.end = grind (arith, ints, to_z-of_z) in
    let first : to_z w32 (of_z w32 c.args.begin) ≡ c.args.begin = grind (arith, ints, to_z-of_z) in
    told-ok c.part_in.result _ _
    (λ did.
    carried-one p g.M.Memory.choose x c.part_in.new.machine (part_up_to o (seen p x) units c.args.begin)
    (part_of o units (to_z w32 (of_z w32 c.args.begin)) (to_z w32 (of_z w32 c.in-Ok.end)))
    (c.in-Ok.ensures.value (λ end. part_of o units c.args.begin end) ∙ (λ i. part_of o units (sym first i) (sym last i)))
    did)
    c.part_in.ensures

pub returns-in-Err : goal.returns-in-Err
returns-in-Err g c =
    let p = c.args.program.now in
    let o = p.outline in
    let x = c.args.machine.now in
    let units = units_in x.areas.store c.args.text in
    told-ok c.refuse.result _ _
    (λ ended.
    carried-one p g.M.Memory.choose x c.refuse.new.machine (part_up_to o (seen p x) units c.args.begin) (refused o 0 c.in-Err.refusal)
    (c.in-Err.ensures.value (λ end. part_of o units c.args.begin end)) (ended 0 c.in-Err.ensures.at))
    c.refuse.ensures
