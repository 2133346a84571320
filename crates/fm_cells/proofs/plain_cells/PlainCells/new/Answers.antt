use Rattle.std.proofs.Common.{sym, Some}
use Rattle.fm_cells.specs.Stores.{opened, no_lists}
use Rattle.fm_cells.proofs.Changes.{live_words-opened}
use Rattle.fm_cells.proofs.NeverReused.{IsNeverReused-opened}
use Rattle.fm_cells.proofs.Soundness.{IsSound-opened}
use Rattle.fm_cells.proofs.PlainStores.{IsPlain-is}
use Rattle.fm_cells.proofs.Residents.{plain_of-nil}
use Rattle.fm_cells.proofs.plain_cells.PlainCells.new.Goals as goal

pub invariant_of-result : goal.invariant_of-result
invariant_of-result c =
    IsPlain-is _ (opened c.args.budget (Some c.args.store) no_lists)
    (plain_of-nil c.new.result.items c.args.budget c.args.store c.new.ensures.items)
    (IsSound-opened c.args.budget (Some c.args.store) no_lists)
    (IsNeverReused-opened c.args.budget (Some c.args.store))
    (sym (live_words-opened c.args.budget (Some c.args.store) no_lists))
    c.requires

pub returns : goal.returns
returns c = plain_of-nil c.new.result.items c.args.budget c.args.store c.new.ensures.items
