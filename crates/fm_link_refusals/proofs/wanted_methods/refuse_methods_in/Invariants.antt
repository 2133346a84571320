use Rattle.std.proofs.Common.{◌≡◌, List, drop}
use Rattle.std.specs.List.{flat_map}
use Rattle.fm_link_names.specs.declared.given.GivenFile.{GivenFile}
use Rattle.fm_link_refusals.specs.inner.GivenClasses.{class_in, given_in}
use Rattle.fm_link_refusals.specs.inner.Linking.{IsLinking}
use Rattle.fm_world.specs.Causes.{missing_methods}
use Rattle.fm_world.specs.declared.declarations.DeclaredClass.{DeclaredClass}
use Rattle.fm_link_refusals.proofs.wanted_methods.refuse_methods_in.Given as goal

abbrev pub invariant-loop-file : goal.invariant-loop-file
invariant-loop-file l =
    (classes : List DeclaredClass) → IsLinking classes l.linking
    → flat_map (missing_methods classes) (given_in l.files)
    ≡ flat_map (λ (f : GivenFile). missing_methods classes (class_in f)) (drop l.file-index l.files)
