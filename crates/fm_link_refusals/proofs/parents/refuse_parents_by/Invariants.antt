use Rattle.std.proofs.Common.{◌≡◌, ℕ, List, drop}
use Rattle.std.specs.List.{flat_map}
use Rattle.fm_link_names.specs.declared.given.GivenFile.{GivenFile}
use Rattle.fm_link_refusals.specs.inner.Ancestry.{JudgesParents}
use Rattle.fm_link_refusals.specs.inner.GivenClasses.{class_in, given_in, AreNumbered}
use Rattle.fm_world.specs.Causes.{bad_parents}
use Rattle.fm_world.specs.declared.declarations.DeclaredClass.{DeclaredClass}
use Rattle.fm_link_refusals.proofs.parents.refuse_parents_by.Given as goal

abbrev pub invariant-loop-file : goal.invariant-loop-file
invariant-loop-file l =
    (classes : List DeclaredClass) (texts : List (List ℕ)) → JudgesParents classes texts l.ancestry → AreNumbered texts l.files
    → flat_map (bad_parents classes) (given_in l.files) ≡ flat_map (λ (f : GivenFile). bad_parents classes (class_in f)) (drop l.file-index l.files)
