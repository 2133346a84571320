use Rattle.std.proofs.Common.{◌≡◌, ℕ, List, drop, map}
use Rattle.std.specs.List.{flat_map}
use Rattle.fm_code.specs.declared.class_file.Member.{Member}
use Rattle.fm_link_refusals.specs.inner.Abstracts.{calls_abstract_at}
use Rattle.fm_link_refusals.specs.inner.GivenClasses.{class_in}
use Rattle.fm_link_refusals.specs.inner.Linking.{IsLinking}
use Rattle.fm_world.specs.Causes.{abstract_call}
use Rattle.fm_world.specs.Uses.{class_items, items_of, pool_indices}
use Rattle.fm_world.specs.declared.declarations.DeclaredClass.{DeclaredClass}
use Rattle.fm_link_refusals.proofs.abstract_calls.refuse_calls_in.Given as goal

abbrev pub invariant-loop-method : goal.invariant-loop-method
invariant-loop-method l =
    (classes : List DeclaredClass) (class : ℕ) → IsLinking classes l.linking → l.marks
    ≡ map (calls_abstract_at classes (class_in l.file) class) (pool_indices (class_in l.file))
    → flat_map (abstract_call classes (class_in l.file) class) (class_items (class_in l.file))
    ≡ flat_map (λ (m : Member). flat_map (abstract_call classes (class_in l.file) class) (items_of m)) (drop l.method-index l.methods)
