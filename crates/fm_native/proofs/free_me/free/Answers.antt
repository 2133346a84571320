use Rattle.std.proofs.Common.{Ok, Err, Some, None, [], subst}
use Rattle.fm_frames.proofs.Throwing.{told-ok}
use Rattle.fm_frames.specs.Effects.{words}
use Rattle.fm_frames.specs.declared.natives.Native.TheVariants.{FreeMeFree}
use Rattle.fm_frames.specs.inner.Doings.{seen}
use Rattle.fm_native.proofs.FreeRows.{free-is, freed-done, freeing}
use Rattle.fm_native.proofs.Rows.{carried}
use Rattle.fm_native.specs.inner.Asked.{AsksHeldOrNull, IsHeldAt}
use Rattle.fm_native.specs.inner.Asked.{refused}
use Rattle.std.specs.Prelude.{IfSome}
use Rattle.fm_native.proofs.free_me.free.Goals as goal

pub returns-in-Ok-Some : goal.returns-in-Ok-Some
returns-in-Ok-Some g c =
    let p = c.args.program.now in
    let o = p.outline in
    let x = c.args.machine.now in
    let asks = subst (λ f. AsksHeldOrNull o x.areas.store (seen p x) 0 (Ok f)) c.in-Ok-Some.field-0-is c.in-Ok-Some.ensures.value in
    let known = subst (λ f. IfSome f (IsHeldAt x.areas.store x 0)) c.in-Ok-Some.field-0-is c.in-Ok-Some.ensures.held in
    carried p g.M.Memory.choose x c.take.new.self FreeMeFree freeing
    (λ byte. free-is o x.areas.store x byte (seen p x) (Ok (Some c.in-Ok-Some.held)) asks known)
    (freed-done p g.M.Memory.choose x c.free_object.new.self c.take.new.self c.in-Ok-Some.held.cell c.requires.can.ready.next_fits
    known.word c.free_object.ensures.freed (c.take.ensures p g.M.Memory.choose))

pub returns-in-Ok-None : goal.returns-in-Ok-None
returns-in-Ok-None g c =
    let p = c.args.program.now in
    let o = p.outline in
    let x = c.args.machine.now in
    let asks = subst (λ f. AsksHeldOrNull o x.areas.store (seen p x) 0 (Ok f)) c.in-Ok-None.field-0-is c.in-Ok-None.ensures.value in
    carried p g.M.Memory.choose x c.take-in-Ok-None.new.self FreeMeFree (words 1 [])
    (λ byte. free-is o x.areas.store x byte (seen p x) (Ok None) asks tt)
    (c.take-in-Ok-None.ensures p g.M.Memory.choose)

pub returns-in-Err : goal.returns-in-Err
returns-in-Err g c =
    let p = c.args.program.now in
    let o = p.outline in
    let x = c.args.machine.now in
    told-ok c.refuse.result _ _
    (λ ended.
    carried p g.M.Memory.choose x c.refuse.new.machine FreeMeFree (refused o 0 c.in-Err.refusal)
    (λ byte. free-is o x.areas.store x byte (seen p x) (Err c.in-Err.refusal) c.in-Err.ensures.value tt)
    (ended 0 c.in-Err.ensures.at))
    c.refuse.ensures
