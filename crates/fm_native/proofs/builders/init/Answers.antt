use Rattle.std.proofs.Common.{Ok, Err}
use Rattle.fm_frames.proofs.Throwing.{told-ok}
use Rattle.fm_frames.specs.declared.natives.Native.TheVariants.{BuilderInit}
use Rattle.fm_frames.specs.inner.Doings.{seen}
use Rattle.fm_native.proofs.HiddenRows.{builder-init, cleared}
use Rattle.fm_native.proofs.Rows.{carried}
use Rattle.fm_native.specs.inner.Asked.{refused}
use Rattle.fm_native.proofs.builders.init.Goals as goal

pub returns-in-Ok : goal.returns-in-Ok
returns-in-Ok g c =
    let p = c.args.program.now in
    let o = p.outline in
    let x = c.args.machine.now in
    carried p g.M.Memory.choose x c.clear.new.machine BuilderInit (cleared o)
    (λ byte. builder-init o x.areas.store x byte (seen p x) (Ok c.in-Ok.held) c.in-Ok.ensures.value c.in-Ok.ensures.held)
    c.clear.ensures

pub returns-in-Err : goal.returns-in-Err
returns-in-Err g c =
    let p = c.args.program.now in
    let o = p.outline in
    let x = c.args.machine.now in
    told-ok c.refuse.result _ _
    (λ ended.
    carried p g.M.Memory.choose x c.refuse.new.machine BuilderInit (refused o 0 c.in-Err.refusal)
    (λ byte. builder-init o x.areas.store x byte (seen p x) (Err c.in-Err.refusal) c.in-Err.ensures.value tt)
    (ended 0 c.in-Err.ensures.at))
    c.refuse.ensures
