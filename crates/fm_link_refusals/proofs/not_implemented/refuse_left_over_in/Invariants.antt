use Rattle.std.proofs.Common.{◌≡◌, ◌<◌, List, length, drop}
use Rattle.std.specs.List.{flat_map}
use Rattle.fm_link_refusals.specs.inner.Abstracts.{left_over_of}
use Rattle.fm_link_refusals.specs.inner.GivenClasses.{class_in}
use Rattle.fm_link_refusals.specs.inner.Linking.{IsLinking}
use Rattle.fm_world.specs.declared.declarations.DeclaredClass.{DeclaredClass}
use Rattle.fm_link_refusals.proofs.not_implemented.refuse_left_over_in.Given as goal

abbrev pub invariant-loop-above : goal.invariant-loop-above
invariant-loop-above l =
    (classes : List DeclaredClass) → IsLinking classes l.linking → l.class < length classes
    → flat_map (left_over_of classes (class_in l.file) l.class) l.declaring
    ≡ flat_map (left_over_of classes (class_in l.file) l.class) (drop l.above-index l.declaring)
