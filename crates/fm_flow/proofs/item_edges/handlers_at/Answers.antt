use Rattle.std.proofs.Common.{get_or, arith, Contains, ◌<◌, ◌≤◌}
use Rattle.std.specs.List.{Any}
use Rattle.fm_code.specs.Edges.{Catches}
use Rattle.fm_flow.proofs.HandlerLemmas.{AreCaught-push, AreCaught-skip, AreCaught-all, AreCaught-none, blank}
use Rattle.fm_flow.proofs.RisingLemmas.{IsRisingListOf-same}
use Rattle.fm_flow.proofs.item_edges.handlers_at.Goals.{then-handler-j+then-j-handler+in_ok-push, else-handler-j, else-handler-j-via-then-handler-j+else-j-handler, else-handler-j-via-else-handler-j}
use Rattle.fm_flow.proofs.item_edges.handlers_at.Goals as goal

pub loop-handler-init : goal.loop-handler-init
loop-handler-init c = rw c.new-list.ensures.items (AreCaught-none c.args.j)

pub loop-handler-preserved : goal.loop-handler-preserved
loop-handler-preserved c =
    let hs = c.args.handlers.now in
    let i = c.loop-handler.handler-index in
    let so_far = c.loop-handler.invariant in
    let inside = c.loop-handler-test.true in
    elim c.if-handler-j.branch [
      | then-handler-j+then-j-handler+in_ok-push w ↦
          rw (w.list-is, w.in_ok-push.ensures.items)
          (AreCaught-push c.args.j hs i c.loop-handler.list.items inside so_far w.if-handler-j.true w.if-j-handler.true)
      | else-handler-j w ↦
          let outside : (get_or hs i blank).start ≤ c.args.j → c.args.j < (get_or hs i blank).end → ⊥ = λ after before.
          elim w.else-handler-j.branch [
            | else-handler-j-via-then-handler-j+else-j-handler w' ↦ let past = w'.if-j-handler.false in omega arith
            | else-handler-j-via-else-handler-j w' ↦ let ahead = w'.if-handler-j.false in omega arith
          ] in
          rw w.list-is (AreCaught-skip c.args.j hs i c.loop-handler.list.items inside so_far outside)
    ]

pub returns : goal.returns
returns c =
    let all = AreCaught-all c.args.j c.args.handlers.now c.loop-handler.handler-index c.loop-handler.list.items c.loop-handler-test.false c.loop-handler.invariant in
    IsRisingListOf-same (Contains c.loop-handler.list.items) (λ x. Any (Catches c.args.j x) c.args.handlers.now) c.sort_once.new.list.items c.sort_once.ensures all
