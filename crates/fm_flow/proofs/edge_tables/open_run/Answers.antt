use Rattle.fm_flow.proofs.EdgesOfLemmas.{OpensRun-same}
use Rattle.fm_flow.proofs.edge_tables.open_run.Goals as goal

pub returns-in_ok-push_handlers : goal.returns-in_ok-push_handlers
returns-in_ok-push_handlers c = c.in_ok-push_handlers.ensures

pub returns-else-begins_run : goal.returns-else-begins_run
returns-else-begins_run c =
    OpensRun-same c.args.code.now c.args.j c.args.caught.now
    (c.requires.last (c.begins_run.ensures.later c.if-begins_run.false) (c.begins_run.ensures.unmarked c.if-begins_run.false))
