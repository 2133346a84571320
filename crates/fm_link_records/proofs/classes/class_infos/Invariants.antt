use Rattle.std.proofs.Common.{◌≡◌, map}
use Rattle.std.specs.List.{range_with_len}
use Rattle.fm_world.specs.Programs.{class_info}
use Rattle.fm_link_records.specs.inner.Classes.{bare_outline}
use Rattle.fm_link_records.proofs.classes.class_infos.Given as goal

abbrev pub invariant-loop-place : goal.invariant-loop-place
invariant-loop-place l = l.infos.items ≡ map (class_info (bare_outline l.classes)) (range_with_len 0 l.place)
