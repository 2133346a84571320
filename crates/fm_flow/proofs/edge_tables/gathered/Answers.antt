use Rattle.std.proofs.Common.{◌≡◌, ◌∙◌, arith}
use Rattle.fm_flow.proofs.CodeFacts.{items_counted}
use Rattle.fm_flow.proofs.EdgesOfLemmas.{Gathering-none, Gathering-more, AreEdgesOf-all}
use Rattle.fm_flow.proofs.edge_tables.gathered.Goals as goal

pub loop-j-init : goal.loop-j-init
loop-j-init c = rw (c.in_ok-own.ensures, c.new-runs.ensures.items, c.in_ok-caught.ensures) (Gathering-none c.args.code.now c.args.ends.now)

pub open_run-requires : goal.open_run-requires
open_run-requires c = record {
  bits = let bits = c.requires.marked.bits in omega (arith, c.item_count-j-end.ensures.count);
  last = c.loop-j.invariant.last;
}

pub last_number-requires : goal.last_number-requires
last_number-requires c =
    let opens = c.in_ok-open_run.ensures in
    let most = opens.few in
    let few = c.loop-j.invariant.few in
    let counted = (items_counted c.args.code.now c.requires.spelled).1 in
    record { some = opens.last.some; few = omega (arith, c.item_count-j-end.ensures.count) }

pub loop-j-preserved : goal.loop-j-preserved
loop-j-preserved c =
    rw (c.in_ok-push.ensures.items, c.in_ok-push-2.ensures.pushed, c.as_slice.ensures.value)
    (Gathering-more c.args.code.now c.args.ends.now c.loop-j.own c.loop-j.runs.items c.loop-j.caught c.open_run.new.caught c.in_ok-list.list.items
    c.last_number.result c.loop-j.j c.requires.marked.each c.requires.spelled (omega (arith, c.item_count-j-end.ensures.count)) c.loop-j.invariant
    c.in_ok-open_run.ensures c.last_number.ensures c.in_ok-list.ensures)

pub returns : goal.returns
returns c =
    let all : c.loop-j.j ≡ c.item_count-j-end.result = omega arith in
    AreEdgesOf-all c.args.code.now c.args.ends.now _ c.loop-j.j c.requires.spelled (all ∙ c.item_count-j-end.ensures.count) c.loop-j.invariant
