use Rattle.std.proofs.Common.{◌∙◌, sym}
use Rattle.fm_place.proofs.RowLemmas.{none_pushed}
use Rattle.fm_place.proofs.plans.push_freed.Goals as goal

pub returns-then-not-get : goal.returns-then-not-get
returns-then-not-get c =
    none_pushed c.args.classes.now c.args.busy.now c.args.holding.now c.args.item c.args.found.now.items c.requires.rows (sym c.get.ensures ∙ c.if-not-get.true)
