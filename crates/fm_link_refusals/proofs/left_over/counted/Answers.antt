use Rattle.std.proofs.Common.{◌≡◌, ◌∙◌, None, sym, ap, length, refl, get_or, nat_eq, subst, true}
use Rattle.std.proofs.lemmas.Bool.{eq-eqb}
use Rattle.std.proofs.lemmas.List.{take_all}
use Rattle.std.proofs.lemmas.List.Folds.{list_any_at}
use Rattle.fm_link_supers.proofs.ParentTables.{row_within}
use Rattle.fm_link_supers.specs.inner.Hierarchy.{IsDownwards}
use Rattle.fm_link_supers.specs.inner.ListTables.{lists}
use Rattle.fm_world.specs.Chains.{is_among, parent_of}
use Rattle.fm_link_refusals.proofs.Asked.{asked_rows-more, asked_rows-none, HaveAskedRows}
use Rattle.fm_link_refusals.proofs.CountLoops.{row_put, rows_short}
use Rattle.fm_link_refusals.specs.inner.LeftOver.{length_above}
use Rattle.fm_link_refusals.proofs.left_over.counted.Goals as goal

pub loop-class-init : goal.loop-class-init
loop-class-init c = record {
  counts = λ classes counting.
      rows_short classes c.args.counting.linking.methods.now _ (lists c.in_ok-empty_lists.field-0.items) c.in_ok-empty_lists.ensures;
  rows = λ classes counting.
      asked_rows-none classes c.args.counting.asked.now c.as_slice-class-items.result.now c.in_ok-empty_lists.field-0.items
      (length c.args.counting.linking.hierarchy.now.classes.now) c.in_ok-empty_lists.ensures (ap length counting.linking.hierarchy.classes_are);
}

pub loop-class-preserved : goal.loop-class-preserved
loop-class-preserved c =
    let items = c.as_slice-class-items.result.now in
    let i = c.loop-class.class-index in
    let class = get_or items i 0 in
    let there : is_among class items ≡ true = list_any_at (nat_eq class) items i 0 c.loop-class-test.true (eq-eqb class class refl) in
    record {
      counts = λ classes counting.
          let within = counting.linking.hierarchy.order.only class (ap (is_among class) (sym c.as_slice-class-items.ensures.value) ∙ there) in
          let before = c.loop-class.invariant.counts classes counting in
          row_put classes c.args.counting.linking.methods.now (lists c.loop-class.found.rows.items) (lists c.put_list.new.table.items) class
          c.in_ok-row.row.items c.put_list.ensures (c.in_ok-row.ensures.counts classes counting within before) before;
      rows = λ classes counting.
          let h = c.args.counting.linking.hierarchy.now in
          let order = subst (IsDownwards classes) (sym c.as_slice-class-items.ensures.value) counting.linking.hierarchy.order in
          let parent_is = row_within (parent_of classes) (length classes) None h.parents.items counting.linking.hierarchy.parents class (order.only class there) in
          asked_rows-more classes c.args.counting.asked.now items i c.loop-class.found.rows.items c.put_list.new.table.items c.in_ok-row.row.items order
          c.loop-class-test.true c.put_list.ensures (λ parent asked is. counting.asked.above class parent asked is)
          (λ asked. c.in_ok-row.ensures.long asked
          ∙ (λ k. length_above c.loop-class.found.rows.items (length (counting.linking.hierarchy.classes_are k)) (parent_is k)))
          (c.loop-class.invariant.rows classes counting);
    }

pub returns : goal.returns
returns c = record {
  counts = c.loop-class.invariant.counts;
  rows = λ classes counting class below objects.
      let order = counting.linking.hierarchy.order in
      let all = subst (λ xs. HaveAskedRows classes c.args.counting.asked.now xs c.loop-class.found.rows.items)
      (take_all c.loop-class.class-index c.as_slice-class-items.result.now c.loop-class-test.false ∙ c.as_slice-class-items.ensures.value)
      (c.loop-class.invariant.rows classes counting) in
      all.each class (order.all class below) (counting.asked.each class (order.all class below) objects);
}
