use Rattle.std.proofs.Common.{Ok, ap, sym, ◌∙◌, subst}
use Rattle.fm_frames.proofs.Throwing.{told-ok}
use Rattle.fm_frames.specs.Acts.{cell_of}
use Rattle.fm_frames.specs.Effects.{OfOperand, Plain}
use Rattle.fm_frames.specs.declared.natives.Native.TheVariants.{FreeMeLink}
use Rattle.fm_frames.specs.inner.Doings.{seen}
use Rattle.fm_native.proofs.FreeRows.{link-held, link-null, link-refused, linked-done, linking, passed_over}
use Rattle.fm_native.proofs.Rows.{carried}
use Rattle.fm_native.specs.inner.Asked.{AsksHeldOrNull, IsHeldAt}
use Rattle.fm_native.specs.inner.Asked.{refused}
use Rattle.std.specs.Prelude.{IfSome, false, refl}
use Rattle.fm_native.proofs.free_me.link.Goals as goal

pub returns-then-held : goal.returns-then-held
returns-then-held g c =
    let p = c.args.program.now in
    let o = p.outline in
    let x = c.args.machine.now in
    let asks = subst (λ f. AsksHeldOrNull o x.areas.store (seen p x) 1 (Ok f)) c.in-Ok-Some.field-0-is c.in-Ok-Some.ensures.value in
    let known = subst (λ f. IfSome f (IsHeldAt x.areas.store x 1)) c.in-Ok-Some.field-0-is c.in-Ok-Some.ensures.held in
    told-ok c.give.result _ _
    (λ given.
    carried p g.M.Memory.choose x c.give.new.self FreeMeLink passed_over
    (λ byte. link-held o x.areas.store x byte (seen p x) c.in-Ok-Some.held asks known ∙ ap linking c.if-held.true)
    (given (OfOperand 0) (sym c.word-to.ensures) p g.M.Memory.choose))
    c.give.ensures

pub returns-else-held : goal.returns-else-held
returns-else-held g c =
    let p = c.args.program.now in
    let o = p.outline in
    let x = c.args.machine.now in
    let asks = subst (λ f. AsksHeldOrNull o x.areas.store (seen p x) 1 (Ok f)) c.in-Ok-Some.field-0-is c.in-Ok-Some.ensures.value in
    let known = subst (λ f. IfSome f (IsHeldAt x.areas.store x 1)) c.in-Ok-Some.field-0-is c.in-Ok-Some.ensures.held in
    told-ok c.give-in-Ok-Some.result _ _
    (λ given.
    carried p g.M.Memory.choose x c.give-in-Ok-Some.new.self FreeMeLink (linking false)
    (λ byte. link-held o x.areas.store x byte (seen p x) c.in-Ok-Some.held asks known ∙ ap linking c.if-held.false)
    (linked-done p g.M.Memory.choose x c.set_chain.new.self c.give-in-Ok-Some.new.self c.in-Ok-Some.held.cell c.cell_of.result.0 c.word-linked.result
    c.requires.ready.next_fits known.word (c.cell_of.ensures ∙ ap cell_of c.word-to.ensures) c.word-linked.ensures c.set_chain.ensures
    (given (Plain c.word-linked.result) refl p g.M.Memory.choose)))
    c.give-in-Ok-Some.ensures

pub returns-in-Ok-None : goal.returns-in-Ok-None
returns-in-Ok-None g c =
    let p = c.args.program.now in
    let o = p.outline in
    let x = c.args.machine.now in
    let asks = subst (λ f. AsksHeldOrNull o x.areas.store (seen p x) 1 (Ok f)) c.in-Ok-None.field-0-is c.in-Ok-None.ensures.value in
    told-ok c.give-in-Ok-None.result _ _
    (λ given.
    carried p g.M.Memory.choose x c.give-in-Ok-None.new.self FreeMeLink passed_over
    (λ byte. link-null o x.areas.store byte (seen p x) asks)
    (given (OfOperand 0) (sym c.word-to.ensures) p g.M.Memory.choose))
    c.give-in-Ok-None.ensures

pub returns-in-Err : goal.returns-in-Err
returns-in-Err g c =
    let p = c.args.program.now in
    let o = p.outline in
    let x = c.args.machine.now in
    told-ok c.refuse.result _ _
    (λ ended.
    carried p g.M.Memory.choose x c.refuse.new.machine FreeMeLink (refused o 1 c.in-Err.refusal)
    (λ byte. link-refused o x.areas.store byte (seen p x) c.in-Err.refusal c.in-Err.ensures.value)
    (ended 1 c.in-Err.ensures.at))
    c.refuse.ensures
