use Rattle.fm_types.proofs.RowOrder.{rows-keep_order, rows-keep_whole}
use Rattle.fm_types.proofs.laws.law_rows.Goals as goal

pub returns-clause-order : goal.returns-clause-order
returns-clause-order c = rows-keep_order

pub returns-clause-longs : goal.returns-clause-longs
returns-clause-longs c = rows-keep_whole
