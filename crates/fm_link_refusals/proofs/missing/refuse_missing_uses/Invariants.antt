use Rattle.std.proofs.Common.{◌≡◌, List}
use Rattle.std.specs.List.{flat_map}
use Rattle.fm_link_refusals.proofs.UsedIndices.{if_used, indices_from}
use Rattle.fm_link_refusals.specs.inner.GivenClasses.{class_in}
use Rattle.fm_link_refusals.specs.inner.Naming.{JudgesNames}
use Rattle.fm_world.specs.Causes.{missing_at}
use Rattle.fm_world.specs.Uses.{uses_in_order}
use Rattle.fm_world.specs.declared.declarations.DeclaredClass.{DeclaredClass}
use Rattle.fm_link_refusals.proofs.missing.refuse_missing_uses.Given as goal

abbrev pub invariant-loop-place : goal.invariant-loop-place
invariant-loop-place l =
    (classes : List DeclaredClass) → JudgesNames classes l.naming
    → flat_map (missing_at classes (class_in l.file)) (uses_in_order (class_in l.file))
    ≡ flat_map (if_used (class_in l.file) (missing_at classes (class_in l.file))) (indices_from l.place (class_in l.file))
