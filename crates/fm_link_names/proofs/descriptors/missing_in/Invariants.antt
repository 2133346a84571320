use Rattle.std.proofs.Common.{◌≡◌, List, length}
use Rattle.fm_link_names.specs.inner.ClassNumbering.{NumbersClasses}
use Rattle.fm_link_names.specs.inner.DescriptorTypes.{first_missing}
use Rattle.fm_world.specs.Descriptors.{types_in}
use Rattle.fm_world.specs.declared.declarations.DeclaredClass.{DeclaredClass}
use Rattle.fm_link_names.proofs.descriptors.missing_in.Given as goal

abbrev pub invariant-loop-first : goal.invariant-loop-first
invariant-loop-first l =
    (classes : List DeclaredClass) → NumbersClasses classes l.numbers.numbers
    → first_missing classes (types_in l.descriptor) ≡ first_missing classes (types_in l.rest)

abbrev pub decreases-loop-first : goal.decreases-loop-first
decreases-loop-first l = length (types_in l.rest)
