use Rattle.std.proofs.Common.{◌≡◌, ◌∙◌, arith}
use Rattle.fm_flow.proofs.SourcesLemmas.{AreRunsOf-all, Running-next, Running-none}
use Rattle.fm_flow.proofs.sources.runs_between.Goals as goal

pub loop-j-init : goal.loop-j-init
loop-j-init c = rw (c.in_ok-by_handler.ensures, c.item_count-count.ensures.count, c.new-items.ensures.items) (Running-none c.args.code.now c.args.ends.now)

pub open_run-requires : goal.open_run-requires
open_run-requires c = record {
  spelled = c.requires.spelled;
  inside = omega (arith, c.item_count-count.ensures.count);
  bits = c.requires.marked.bits;
  running = c.loop-j.invariant;
}

pub push_to_last-requires : goal.push_to_last-requires
push_to_last-requires c = c.in_ok-open_run.ensures.ready.some

pub loop-j-preserved : goal.loop-j-preserved
loop-j-preserved c =
    Running-next c.args.code.now c.args.ends.now c.open_run.new.by_handler.items c.open_run.new.items.items c.push_to_last.new.lists.items c.loop-j.j
    c.requires.marked.each c.in_ok-open_run.ensures c.in_ok-push_to_last.ensures

pub returns : goal.returns
returns c =
    let all : c.loop-j.j ≡ c.item_count-count.result = omega arith in
    AreRunsOf-all c.args.code.now c.args.ends.now c.loop-j.by_handler.items c.loop-j.items.items c.loop-j.j (all ∙ c.item_count-count.ensures.count) c.loop-j.invariant
