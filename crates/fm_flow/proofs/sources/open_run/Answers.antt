use Rattle.std.proofs.Common.{arith}
use Rattle.fm_flow.proofs.CodeFacts.{items_counted}
use Rattle.fm_flow.proofs.SourcesLemmas.{Running-begin}
use Rattle.fm_flow.proofs.sources.open_run.Goals as goal

pub begin_run-requires : goal.begin_run-requires
begin_run-requires c = record {
  spelled = c.requires.spelled;
  one_each = c.requires.running.runs.one_each;
  few = let few = c.requires.running.few in let counted = items_counted c.args.code.now c.requires.spelled in let all = counted.1 in let inside = c.requires.inside in omega arith;
}

pub returns-in_ok-begin_run : goal.returns-in_ok-begin_run
returns-in_ok-begin_run c =
    Running-begin c.args.code.now c.args.ends.now c.args.by_handler.now.items c.args.items.now.items c.begin_run.new.by_handler.items c.begin_run.new.items.items c.args.j
    c.requires.running c.in_ok-begin_run.ensures

pub returns-else-begins_run : goal.returns-else-begins_run
returns-else-begins_run c = record {
  runs = c.requires.running.runs;
  ready = c.requires.running.ready (c.begins_run.ensures.later c.if-begins_run.false) (c.begins_run.ensures.unmarked c.if-begins_run.false);
}
