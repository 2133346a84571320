use Rattle.std.proofs.Common.{◌∙◌, ap, arith, cond, get_or, length, set, true}
use Rattle.fm_link_names.specs.inner.Numbering.{texts_in}
use Rattle.fm_link_members.proofs.SectionRows.{AreSections-methods}
use Rattle.fm_link_refusals.proofs.AbstractCounts.{abstract-all, abstract-more, abstract-none, length_changed, length_zeros}
use Rattle.fm_link_refusals.specs.inner.LeftOver.{changed}
use Rattle.fm_link_refusals.proofs.left_over.all_abstract.Goals as goal

pub loop-method-init : goal.loop-method-init
loop-method-init c = record {
  counts = λ classes linked. abstract-none classes c.args.linking.methods.now _ _ (c.in_ok-row.ensures.items_if_clones_equal (λ y e. e));
  long = length_zeros c.in_ok-row.row.items (length c.args.linking.hierarchy.now.classes.now) (c.in_ok-row.ensures.items_if_clones_equal (λ y e. e));
}

pub loop-method-preserved : goal.loop-method-preserved
loop-method-preserved c =
    let row = c.loop-method.row.items in
    let test = c.is_abstract.result in
    let class = c.class_of-class.result in
    record {
      counts = λ classes linked.
          let m = c.args.linking.methods.now in
          let count = linked.methods.signatures.count in
          abstract-more classes m row c.change_if.new.row.items c.loop-method.method test
          (AreSections-methods (texts_in c.args.linking.texts.now) classes m.members linked.methods.rows)
          (omega (arith, c.loop-method-test.true, count)) (c.is_abstract.ensures classes linked)
          (c.in_ok-change_if.ensures ∙ ap (λ n. cond test (set row n (changed true (get_or row n 0))) row) c.class_of-class.ensures)
          (c.loop-method.invariant.counts classes linked);
      long = ap length c.in_ok-change_if.ensures ∙ length_changed test row class (changed true (get_or row class 0)) ∙ c.loop-method.invariant.long;
    }

pub returns : goal.returns
returns c = record {
  counts = λ classes linked.
      let m = c.args.linking.methods.now in
      let count = linked.methods.signatures.count in
      abstract-all classes m c.loop-method.row.items c.loop-method.method
      (AreSections-methods (texts_in c.args.linking.texts.now) classes m.members linked.methods.rows)
      (omega (arith, c.loop-method-test.false, count)) (c.loop-method.invariant.counts classes linked);
  long = c.loop-method.invariant.long;
}
