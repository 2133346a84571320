use Rattle.std.proofs.Common.{◌≡◌, ◌-◌, ◌<◌, List, length}
use Rattle.std.specs.List.{flat_map, range_with_len}
use Rattle.fm_link_refusals.specs.inner.Abstracts.{left_over_at, left_over_of}
use Rattle.fm_link_refusals.specs.inner.GivenClasses.{class_in}
use Rattle.fm_link_refusals.specs.inner.Linking.{IsLinking}
use Rattle.fm_world.specs.declared.declarations.DeclaredClass.{DeclaredClass}
use Rattle.fm_link_refusals.proofs.not_implemented.refuse_left_over_of.Given as goal

abbrev pub invariant-loop-method : goal.invariant-loop-method
invariant-loop-method l =
    (classes : List DeclaredClass) → IsLinking classes l.linking → l.class < length classes
    → left_over_of classes (class_in l.file) l.class l.above
    ≡ flat_map (left_over_at classes (class_in l.file) l.class) (range_with_len l.method (l.end - l.method))
