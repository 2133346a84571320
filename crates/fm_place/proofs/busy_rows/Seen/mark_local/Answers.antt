use Rattle.std.proofs.Common.{◌∙◌, ◌<◌, ◌&&◌, ap, sym, arith}
use Rattle.fm_flow.specs.LiveRows.{is_live}
use Rattle.fm_place.proofs.RowLemmas.{local_done, local_first, local_more, local_unheld}
use Rattle.fm_place.specs.inner.PlanRows.{count_of}
use Rattle.fm_place.proofs.busy_rows.Seen.mark_local.Goals as goal

pub returns-in_default : goal.returns-in_default
returns-in_default c =
    local_unheld c.args.self.now c.args.groups.now c.args.rows.now.items c.args.local c.of_local.result c.of_local.ensures (sym c.in_default.ensures)
    c.requires.rows

pub loop-item-init : goal.loop-item-init
loop-item-init c = local_first c.args.self.now c.args.groups.now c.args.rows.now.items c.args.local c.requires.rows

pub is_live_in-busy-requires-clause-reached : goal.is_live_in-busy-requires-clause-reached
is_live_in-busy-requires-clause-reached c = omega (arith, c.loop-item-test.true, c.bits-item-end.ensures)

pub is_live_in-busy-requires-clause-local : goal.is_live_in-busy-requires-clause-local
is_live_in-busy-requires-clause-local c = omega (arith, c.requires.local, c.requires.seen.live_is.one_each)

pub is_live_in-busy-requires-clause-item : goal.is_live_in-busy-requires-clause-item
is_live_in-busy-requires-clause-item c =
    let wide = c.requires.seen.live_is.bits c.args.local c.requires.local in
    omega (arith, wide, c.loop-item-test.true, c.bits-item-end.ensures, c.requires.reached.wide)

pub set_at_if-requires : goal.set_at_if-requires
set_at_if-requires c = λ there.
    let wide = c.loop-item.invariant.wide c.in-Some.number there in
    omega (arith, wide, c.loop-item-test.true, c.bits-item-end.ensures, c.requires.reached.wide)

pub loop-item-preserved : goal.loop-item-preserved
loop-item-preserved c =
    let s = c.args.self.now in
    let item = c.loop-item.item in
    let inside : item < count_of s = omega (arith, c.loop-item-test.true, c.bits-item-end.ensures, c.requires.reached.wide) in
    local_more s c.args.groups.now c.args.local item c.in-Some.number c.of_local.result c.loop-item.rows.items c.requires.groups c.of_local.ensures
    (sym c.in-Some.ensures) c.is_live_in-busy.result
    (c.is_live_in-busy.ensures ∙ ap (λ b. b && is_live s.live.now c.args.local item) (c.requires.reached.each item inside))
    c.set_at_if.new.rows.items c.set_at_if.ensures c.loop-item.invariant

pub returns : goal.returns
returns c =
    local_done c.args.self.now c.args.groups.now c.loop-item.rows.items c.args.local c.loop-item.item
    (omega (arith, c.bits-item-end.ensures, c.requires.reached.wide)) c.loop-item.invariant
