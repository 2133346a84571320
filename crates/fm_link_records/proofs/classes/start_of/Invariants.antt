use Rattle.std.proofs.Common.{◌≡◌, drop}
use Rattle.std.specs.List.{position_from}
use Rattle.fm_link_records.specs.inner.Classes.{is_start}
use Rattle.fm_link_records.proofs.classes.start_of.Given as goal

abbrev pub invariant-loop-place : goal.invariant-loop-place
invariant-loop-place l = position_from is_start l.place (drop l.place l.class.methods) ≡ position_from is_start 0 l.class.methods
