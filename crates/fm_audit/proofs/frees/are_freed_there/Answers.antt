use Rattle.std.proofs.Common.{◌∙◌, sym}
use Rattle.fm_audit.proofs.FreedLemmas.{none_needed}
use Rattle.fm_audit.proofs.frees.are_freed_there.Goals as goal

pub returns-then-not-get : goal.returns-then-not-get
returns-then-not-get c =
    sym (none_needed c.args.classes.now c.args.busy.now c.args.holding.now c.args.item c.args.pairs.now c.requires.rows
    (sym c.get.ensures ∙ c.if-not-get.true))
