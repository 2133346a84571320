use Rattle.std.proofs.Common.{◌≡◌, List}
use Rattle.std.specs.List.{flat_map}
use Rattle.fm_link_refusals.proofs.UsedIndices.{indices_from}
use Rattle.fm_link_refusals.specs.inner.GivenClasses.{class_in}
use Rattle.fm_link_refusals.specs.inner.Linking.{IsLinking}
use Rattle.fm_world.specs.Causes.{missing_method_at, missing_methods}
use Rattle.fm_world.specs.declared.declarations.DeclaredClass.{DeclaredClass}
use Rattle.fm_link_refusals.proofs.wanted_methods.refuse_methods_of.Given as goal

abbrev pub invariant-loop-place : goal.invariant-loop-place
invariant-loop-place l =
    (classes : List DeclaredClass) → IsLinking classes l.linking
    → missing_methods classes (class_in l.file) ≡ flat_map (missing_method_at classes (class_in l.file)) (indices_from l.place (class_in l.file))
