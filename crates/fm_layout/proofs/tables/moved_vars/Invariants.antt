use Rattle.std.proofs.Common.{◌≡◌, ◌++◌, map, drop}
use Rattle.fm_layout.specs.Tables.{moved_var}
use Rattle.fm_layout.proofs.tables.moved_vars.Given as goal

abbrev pub invariant-loop-entry : goal.invariant-loop-entry
invariant-loop-entry l = l.moved.items ++ map (moved_var l.firsts l.anchors) (drop l.entry-index l.entries) ≡ map (moved_var l.firsts l.anchors) l.entries
