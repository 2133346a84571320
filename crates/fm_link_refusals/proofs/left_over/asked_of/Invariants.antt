use Rattle.std.proofs.Common.{List, take}
use Rattle.fm_link_refusals.specs.inner.LeftOver.{AreAskedOf}
use Rattle.fm_link_refusals.specs.inner.Linking.{IsLinking}
use Rattle.fm_world.specs.declared.declarations.DeclaredClass.{DeclaredClass}
use Rattle.fm_link_refusals.proofs.left_over.asked_of.Given as goal

abbrev pub invariant-loop-class : goal.invariant-loop-class
invariant-loop-class l =
    (classes : List DeclaredClass) → IsLinking classes l.linking → AreAskedOf classes (take l.class-index l.class-items) l.asked.items
