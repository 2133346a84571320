use Rattle.fm_check_handlers.proofs.RunLemmas.{IsNoted-more, no_span}
use Rattle.fm_check_handlers.proofs.runs.level_of.Goals as goal

pub loop-span-preserved : goal.loop-span-preserved
loop-span-preserved c =
    IsNoted-more c.args.spans.now c.loop-span.span-index no_span c.loop-span.runs.items c.note_span.new.runs.items c.loop-span-test.true
    c.loop-span.invariant c.in_ok-note_span.ensures
