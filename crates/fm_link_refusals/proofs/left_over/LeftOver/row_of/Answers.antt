use Rattle.std.proofs.Common.{◌≤◌, ℕ, None, ◌∙◌, sym, ap, subst, arith, get_or, length}
use Rattle.fm_link_names.specs.inner.Numbering.{texts_in}
use Rattle.fm_link_supers.proofs.ParentTables.{row_within}
use Rattle.fm_world.proofs.Displays.{parent_of-within}
use Rattle.fm_world.specs.Chains.{parent_of}
use Rattle.fm_link_refusals.proofs.CountLoops.{sections_at}
use Rattle.fm_link_refusals.proofs.LeftOverCounts.{part-end, part-start}
use Rattle.fm_link_refusals.specs.inner.LeftOver.{is_part_owed, length_above, HasCounts}
use Rattle.fm_link_refusals.proofs.left_over.LeftOver.row_of.Goals as goal

pub loop-method-init : goal.loop-method-init
loop-method-init c = record {
  from = omega arith;
  counts = λ classes counting within are.
      let h = c.args.counting.linking.hierarchy.now in
      let parent = c.at-parent.ensures ∙ ap (λ ps. get_or ps c.args.class None) c.deref.ensures.value
      ∙ row_within (parent_of classes) (length classes) None h.parents.items counting.linking.hierarchy.parents c.args.class within in
      part-start (texts_in c.args.counting.linking.texts.now) classes c.args.counting.linking.methods.now c.at-parent.result c.args.class
      c.of_class-start.result.0 c.in_ok-row.row.items counting.linking.methods
      (c.in_ok-row.ensures.counts classes counting.linking (λ p e. parent_of-within classes c.args.class p (sym parent ∙ e)) are);
  long = c.in_ok-row.ensures.long;
}

pub loop-method-preserved : goal.loop-method-preserved
loop-method-preserved c = record {
  from = let from = c.loop-method.invariant.from in omega (arith, from);
  counts = λ classes counting within are.
      let m = c.args.counting.linking.methods.now in
      let P : ℕ × ℕ → Type 0 = λ s. s.1 ≤ length m.members.rows.items in
      let bound = subst P (sym c.of_class-start.ensures) ((sections_at classes c.args.counting counting).within c.args.class within) in
      c.in_ok-take_in.ensures.counts classes c.of_class-start.result.0 counting within c.loop-method.invariant.from
      (omega (arith, c.loop-method-test.true, bound)) (c.loop-method.invariant.counts classes counting within are);
  long = c.in_ok-take_in.ensures.long ∙ c.loop-method.invariant.long;
}

pub returns : goal.returns
returns c =
    let m = c.args.counting.linking.methods.now in
    let h = c.args.counting.linking.hierarchy.now in
    let method = c.loop-method.method in
    let row = c.loop-method.row.items in
    let listed = c.at-parent.ensures ∙ ap (λ ps. get_or ps c.args.class None) c.deref.ensures.value in
    record {
      counts = λ classes counting within are.
          let parent = listed ∙ row_within (parent_of classes) (length classes) None h.parents.items counting.linking.hierarchy.parents c.args.class within in
          let P : ℕ × ℕ → Type 0 = λ s. s.1 ≤ method in
          let Q : ℕ × ℕ → Type 0 = λ s. HasCounts m (length classes) (is_part_owed classes m c.at-parent.result c.args.class s.0 method) row in
          part-end (texts_in c.args.counting.linking.texts.now) classes m c.at-parent.result c.args.class method row counting.linking.methods
          counting.linking.hierarchy.linear within parent (subst P c.of_class-start.ensures c.loop-method-test.false)
          (subst Q c.of_class-start.ensures (c.loop-method.invariant.counts classes counting within are));
      long = c.loop-method.invariant.long ∙ ap (length_above c.args.self.now.rows.items (length h.classes.now)) listed;
    }
