use Rattle.std.proofs.Common.{◌≡◌, List, drop}
use Rattle.std.specs.List.{flat_map}
use Rattle.fm_link_refusals.specs.inner.GivenClasses.{class_in, given_in}
use Rattle.fm_link_refusals.specs.inner.Naming.{JudgesNames}
use Rattle.fm_world.specs.Causes.{missing_classes}
use Rattle.fm_world.specs.declared.declarations.DeclaredClass.{DeclaredClass}
use Rattle.fm_link_refusals.proofs.missing.refuse_missing_names.Given as goal

abbrev pub invariant-loop-file : goal.invariant-loop-file
invariant-loop-file l =
    (classes : List DeclaredClass) → JudgesNames classes l.naming
    → flat_map (missing_classes classes) (given_in l.files) ≡ flat_map (λ f. missing_classes classes (class_in f)) (drop l.file-index l.files)
