use Rattle.std.proofs.Common.{◌≡◌, ◌+◌, drop, length}
use Rattle.std.specs.List.{position_from}
use Rattle.fm_link_supers.specs.inner.NamedParents.{is_named, number_among}
use Rattle.fm_world.specs.BuiltIns.{built_in}
use Rattle.fm_link_supers.proofs.parent_tables.given_class.Given as goal

abbrev pub invariant-loop-index : goal.invariant-loop-index
invariant-loop-index l = position_from (is_named l.name) (length built_in + l.index) (drop l.index l.files) ≡ number_among l.name l.files
