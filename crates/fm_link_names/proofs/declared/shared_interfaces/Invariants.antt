use Rattle.std.proofs.Common.{◌≡◌, map, take}
use Rattle.fm_link_names.specs.inner.Declaring.{HasTexts}
use Rattle.fm_world.specs.Declarations.{name_at}
use Rattle.fm_link_names.proofs.declared.shared_interfaces.Given as goal

abbrev pub invariant-loop-index : goal.invariant-loop-index
invariant-loop-index l = HasTexts l.shared l.file → l.names.items ≡ map (name_at l.file.class.now.pool.entries) (take l.index-index l.indices)
