use Rattle.std.proofs.Common.{take}
use Rattle.std.specs.List.{AllByRecursion}
use Rattle.fm_code.specs.Profile.{ItemIsSupported}
use Rattle.fm_read_limits.proofs.support.first_item.Given as goal

abbrev pub invariant-loop-item : goal.invariant-loop-item
invariant-loop-item l = AllByRecursion (ItemIsSupported l.pool.entries) (take l.item-index l.code.items)
