use Rattle.std.proofs.Common.{List, take}
use Rattle.fm_link_refusals.proofs.Asked.{HaveAskedRows}
use Rattle.fm_link_refusals.specs.inner.LeftOver.{IsCounting, IsLeftOver}
use Rattle.fm_world.specs.declared.declarations.DeclaredClass.{DeclaredClass}
use Rattle.fm_link_refusals.proofs.left_over.counted.Given as goal

abbrev pub invariant-loop-class : goal.invariant-loop-class
invariant-loop-class l =
    record {
      counts : (classes : List DeclaredClass) → IsCounting classes l.counting → IsLeftOver classes l.counting.linking.methods.now l.found;
      rows : (classes : List DeclaredClass) → IsCounting classes l.counting
          → HaveAskedRows classes l.counting.asked.now (take l.class-index l.class-items) l.found.rows.items;
    }
