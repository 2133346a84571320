use Rattle.fm_place_weave.proofs.LaidLemmas.{anchors_from_laid, code_made, fits_from, new_from, old_from}
use Rattle.fm_place_weave.proofs.woven.laid_code.Goals as goal

pub layout-requires-clause-old_items : goal.layout-requires-clause-old_items
layout-requires-clause-old_items c = old_from c.args.calls c.args.code.now c.args.plan.now c.args.old.now c.requires.may c.requires.old

pub layout-requires-clause-new_items : goal.layout-requires-clause-new_items
layout-requires-clause-new_items c =
    new_from c.args.calls c.args.code.now c.args.plan.now c.args.old.now c.args.items.now c.requires.may c.requires.old c.requires.items

pub move_tables-requires-clause-anchors : goal.move_tables-requires-clause-anchors
move_tables-requires-clause-anchors c =
    anchors_from_laid c.args.calls c.args.code.now c.args.plan.now c.args.old.now c.args.items.now c.args.anchors.now _ c.requires.may c.requires.old
    c.requires.items c.requires.anchors c.in_ok-laid.ensures.laid

pub returns-clause-woven : goal.returns-clause-woven
returns-clause-woven c =
    code_made c.args.calls c.args.code.now c.args.plan.now c.args.old.now c.args.items.now c.args.anchors.now _ _ c.added_words.result c.added_words.ensures.is
    c.requires.old c.requires.items c.requires.anchors c.in_ok-laid.ensures.laid c.in_ok-tables.ensures

pub returns-clause-fits : goal.returns-clause-fits
returns-clause-fits c =
    fits_from c.args.calls c.args.code.now c.args.plan.now c.args.old.now c.args.items.now c.requires.old c.requires.items c.in_ok-laid.ensures.fits
