use Rattle.std.proofs.Common.{◌≡◌, List, drop}
use Rattle.std.specs.List.{flat_map}
use Rattle.fm_link_refusals.specs.inner.GivenClasses.{class_in}
use Rattle.fm_link_refusals.specs.inner.Naming.{JudgesNames}
use Rattle.fm_world.specs.Causes.{missing_in}
use Rattle.fm_world.specs.declared.declarations.DeclaredClass.{DeclaredClass}
use Rattle.fm_link_refusals.proofs.missing.refuse_missing_members.Given as goal

abbrev pub invariant-loop-member : goal.invariant-loop-member
invariant-loop-member l =
    (classes : List DeclaredClass) → JudgesNames classes l.naming
    → flat_map (missing_in classes (class_in l.file)) l.members ≡ flat_map (missing_in classes (class_in l.file)) (drop l.member-index l.members)
