use Rattle.std.proofs.Common.{◌∙◌, sym}
use Rattle.fm_flow.proofs.RunLemmas.{MarksRun-done, MarksRun-new}
use Rattle.fm_flow.proofs.marking.mark_run.Goals as goal

pub returns-then-get : goal.returns-then-get
returns-then-get c =
    let is = sym c.get.ensures ∙ c.if-get.true in
    MarksRun-done c.args.items.now c.args.run c.args.seen.now c.args.waiting.now.items c.args.done.now is (c.requires.marked is)

pub returns : goal.returns
returns c =
    rw c.set.ensures
    (MarksRun-new c.args.items.now c.args.run c.args.seen.now c.mark.new.reached c.args.waiting.now.items c.mark.new.waiting.items c.args.done.now c.in_ok-mark.ensures)
