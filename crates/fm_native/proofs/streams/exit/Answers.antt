use Rattle.std.proofs.Common.{◌≡◌, Ok, Err, ap, sym, ◌∙◌, arith, w32, to_z, of_z}
use Rattle.std.proofs.lemmas.Int.{ints, to_z-of_z}
use Rattle.fm_frames.proofs.Throwing.{told-ok}
use Rattle.fm_frames.specs.Effects.{Exits, going}
use Rattle.fm_frames.specs.declared.natives.Native.TheVariants.{Exit}
use Rattle.fm_native.proofs.Rows.{carried, exit-is}
use Rattle.fm_native.proofs.streams.exit.Goals as goal
use Rattle.fm_frames.specs.inner.Doings.{seen}
use Rattle.fm_native.specs.inner.Asked.{refused}

pub returns-in-Ok : goal.returns-in-Ok
returns-in-Ok g c =
    let p = c.args.program.now in
    let x = c.args.machine.now in
    let same : to_z w32 (of_z w32 c.in-Ok.n) ≡ c.in-Ok.n = grind (arith, ints, to_z-of_z) in
    carried p g.M.Memory.choose x c.exit.new.self Exit (going 1 (Exits (to_z w32 (of_z w32 c.in-Ok.n))))
    (λ byte. exit-is p.outline byte (seen p x) (Ok c.in-Ok.n) c.in-Ok.ensures.value ∙ ap (λ n. going 1 (Exits n)) (sym same))
    (c.exit.ensures p g.M.Memory.choose)

pub returns-in-Err : goal.returns-in-Err
returns-in-Err g c =
    let p = c.args.program.now in
    let x = c.args.machine.now in
    told-ok c.refuse.result _ _
    (λ ended.
    carried p g.M.Memory.choose x c.refuse.new.machine Exit (refused p.outline 0 c.in-Err.refusal)
    (λ byte. exit-is p.outline byte (seen p x) (Err c.in-Err.refusal) c.in-Err.ensures.value) (ended 0 c.in-Err.ensures.at))
    c.refuse.ensures
