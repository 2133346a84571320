use Rattle.std.proofs.Common.{◌≡◌, ◌<◌, List, length, map}
use Rattle.std.specs.List.{range_with_len}
use Rattle.fm_link_refusals.specs.inner.Abstracts.{calls_abstract_at}
use Rattle.fm_link_refusals.specs.inner.GivenClasses.{class_in}
use Rattle.fm_link_refusals.specs.inner.Linking.{IsLinking}
use Rattle.fm_world.specs.declared.declarations.DeclaredClass.{DeclaredClass}
use Rattle.fm_link_refusals.proofs.abstract_calls.abstract_calls.Given as goal

abbrev pub invariant-loop-place : goal.invariant-loop-place
invariant-loop-place l =
    (classes : List DeclaredClass) → IsLinking classes l.linking → l.class < length classes
    → l.marks.items ≡ map (calls_abstract_at classes (class_in l.file) l.class) (range_with_len 0 l.place)
