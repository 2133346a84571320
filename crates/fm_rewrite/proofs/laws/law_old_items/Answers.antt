use Rattle.fm_rewrite.proofs.OldItemsLemmas.{have_old_items}
use Rattle.fm_rewrite.proofs.laws.law_old_items.Goals as goal

pub returns : goal.returns
returns c = have_old_items
