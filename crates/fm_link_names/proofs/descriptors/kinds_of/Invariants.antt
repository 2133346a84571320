use Rattle.std.proofs.Common.{◌≡◌, List, map, take}
use Rattle.fm_link_names.specs.inner.ClassNumbering.{NumbersClasses}
use Rattle.fm_link_names.specs.inner.DescriptorTypes.{few_kind}
use Rattle.fm_link_names.specs.inner.NamedTypes.{type_named}
use Rattle.fm_world.specs.declared.declarations.DeclaredClass.{DeclaredClass}
use Rattle.fm_link_names.proofs.descriptors.kinds_of.Given as goal

abbrev pub invariant-loop-named : goal.invariant-loop-named
invariant-loop-named l =
    (classes : List DeclaredClass) → NumbersClasses classes l.numbers.numbers
    → l.kinds.items ≡ map (λ t. few_kind classes (type_named t)) (take l.named-index l.types)
