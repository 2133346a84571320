use Rattle.std.proofs.Common.{◌≡◌, List, map, take}
use Rattle.fm_link_names.specs.inner.ClassNumbering.{NumbersClasses}
use Rattle.fm_link_names.specs.inner.Numbering.{lent}
use Rattle.fm_link_refusals.specs.inner.Naming.{is_name_met}
use Rattle.fm_world.specs.declared.declarations.DeclaredClass.{DeclaredClass}
use Rattle.fm_link_refusals.proofs.missing.names_met.Given as goal

abbrev pub invariant-loop-text : goal.invariant-loop-text
invariant-loop-text l =
    (classes : List DeclaredClass) → NumbersClasses classes l.numbers.numbers → l.met.items
    ≡ map (is_name_met classes) (take l.text-index (lent l.texts))
