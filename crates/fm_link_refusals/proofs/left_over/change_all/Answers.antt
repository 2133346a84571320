use Rattle.std.proofs.Common.{◌∙◌, subst}
use Rattle.std.proofs.lemmas.List.{take_all}
use Rattle.fm_link_refusals.proofs.Owners.{changed-counts, changed-more, changed-start, AreChanged}
use Rattle.fm_link_refusals.proofs.left_over.change_all.Goals as goal

pub loop-class-init : goal.loop-class-init
loop-class-init c = changed-start c.args.adds c.args.row.now.items c.list_at-owners.result.now

pub loop-class-preserved : goal.loop-class-preserved
loop-class-preserved c =
    changed-more c.args.adds c.args.row.now.items c.list_at-owners.result.now c.loop-class.row.items c.change_if.new.row.items c.loop-class.class-index
    c.loop-class-test.true c.in_ok-change_if.ensures c.loop-class.invariant

pub returns : goal.returns
returns c = record {
  counts = λ classes q counting below before counts.
      changed-counts classes c.args.counting.linking.methods.now c.args.signature c.args.adds q c.args.row.now.items c.loop-class.row.items
      c.args.counting.owners.now counting.owners below before counts
      (subst (λ xs. AreChanged c.args.adds c.args.row.now.items xs c.loop-class.row.items)
      (take_all c.loop-class.class-index c.list_at-owners.result.now c.loop-class-test.false ∙ c.list_at-owners.ensures) c.loop-class.invariant);
  long = c.loop-class.invariant.0;
}
