use Rattle.std.proofs.Common.{◌≡◌, drop}
use Rattle.std.specs.Option.{option_map}
use Rattle.fm_audit.specs.Reading.{read_from, with_pairs}
use Rattle.fm_audit.proofs.reading.read_items.Given as goal

abbrev pub invariant-loop-index : goal.invariant-loop-index
invariant-loop-index l =
    option_map (with_pairs l.before.items l.after.items) (read_from l.free l.first l.index (drop l.index l.old) l.rest) ≡ read_from l.free l.first 0 l.old l.new
