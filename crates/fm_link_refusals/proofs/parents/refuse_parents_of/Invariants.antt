use Rattle.std.proofs.Common.{◌≡◌, ℕ, List}
use Rattle.std.specs.List.{flat_map}
use Rattle.fm_link_refusals.proofs.UsedIndices.{indices_from}
use Rattle.fm_link_refusals.specs.inner.Ancestry.{JudgesParents}
use Rattle.fm_link_refusals.specs.inner.GivenClasses.{class_in, IsNumbered}
use Rattle.fm_world.specs.Causes.{bad_parent_at, bad_parents}
use Rattle.fm_world.specs.declared.declarations.DeclaredClass.{DeclaredClass}
use Rattle.fm_link_refusals.proofs.parents.refuse_parents_of.Given as goal

abbrev pub invariant-loop-place : goal.invariant-loop-place
invariant-loop-place l =
    (classes : List DeclaredClass) (texts : List (List ℕ)) → JudgesParents classes texts l.ancestry → IsNumbered texts l.file
    → bad_parents classes (class_in l.file) ≡ flat_map (bad_parent_at classes (class_in l.file)) (indices_from l.place (class_in l.file))
