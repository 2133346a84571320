use Rattle.std.proofs.Common.{◌≡◌, ℕ, List, map, take}
use Rattle.std.specs.Borrow.{Bor}
use Rattle.fm_link_names.specs.inner.ClassNumbering.{NumbersClasses}
use Rattle.fm_link_names.specs.inner.DescriptorTypes.{type_of_name}
use Rattle.fm_world.specs.declared.declarations.DeclaredClass.{DeclaredClass}
use Rattle.fm_link_names.proofs.descriptors.types_by_text.Given as goal

abbrev pub invariant-loop-text : goal.invariant-loop-text
invariant-loop-text l =
    (classes : List DeclaredClass) → NumbersClasses classes l.numbers.numbers
    → l.types.items ≡ map (λ (t : Bor (List ℕ)). type_of_name classes t.now) (take l.text-index l.texts)
