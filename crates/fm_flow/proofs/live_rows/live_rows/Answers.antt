use Rattle.std.proofs.Common.{◌≡◌, arith}
use Rattle.fm_flow.proofs.LiveLemmas.{Telling-none, Telling-more, AreLiveOf-all}
use Rattle.fm_flow.proofs.live_rows.live_rows.Goals as goal

pub loop-local-init : goal.loop-local-init
loop-local-init c = rw c.in_ok-rows.ensures.items (Telling-none c.args.code.now)

pub loop-local-preserved : goal.loop-local-preserved
loop-local-preserved c =
    rw c.in_ok-push.ensures.items (Telling-more c.args.code.now c.loop-local.rows.items c.in_ok-row.row c.loop-local.local c.loop-local.invariant c.in_ok-row.ensures)

pub returns : goal.returns
returns c =
    let all : c.loop-local.local ≡ c.args.code.now.max_locals = omega arith in
    AreLiveOf-all c.args.code.now c.loop-local.rows.items c.loop-local.local c.requires.spelled all c.loop-local.invariant
