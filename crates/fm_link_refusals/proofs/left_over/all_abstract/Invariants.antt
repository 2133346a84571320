use Rattle.std.proofs.Common.{◌≡◌, List, length}
use Rattle.fm_link_refusals.proofs.AbstractCounts.{abstract_below}
use Rattle.fm_link_refusals.specs.inner.LeftOver.{HasCounts}
use Rattle.fm_link_refusals.specs.inner.Linking.{IsLinking}
use Rattle.fm_world.specs.declared.declarations.DeclaredClass.{DeclaredClass}
use Rattle.fm_link_refusals.proofs.left_over.all_abstract.Given as goal

abbrev pub invariant-loop-method : goal.invariant-loop-method
invariant-loop-method l =
    record {
      counts : (classes : List DeclaredClass) → IsLinking classes l.linking
          → HasCounts l.linking.methods.now (length classes) (abstract_below classes l.method) l.row.items;
      long : length l.row.items ≡ length l.linking.hierarchy.now.classes.now;
    }
