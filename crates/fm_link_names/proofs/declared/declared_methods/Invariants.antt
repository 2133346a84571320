use Rattle.std.proofs.Common.{◌≡◌, map, take}
use Rattle.fm_link_names.specs.inner.Declaring.{HasTexts}
use Rattle.fm_world.specs.Declarations.{declared_method}
use Rattle.fm_link_names.proofs.declared.declared_methods.Given as goal

abbrev pub invariant-loop-method : goal.invariant-loop-method
invariant-loop-method l =
    HasTexts l.shared l.file → l.declared.items ≡ map (declared_method l.file.class.now.pool.entries) (take l.method-index l.methods)
