use Rattle.std.proofs.Common.{◌∙◌, sym, ap, subst, length, Option, Some, ℕ}
use Rattle.fm_link_supers.specs.inner.ListTables.{list_in}
use Rattle.fm_link_refusals.proofs.CountLoops.{if_ok_then}
use Rattle.fm_link_refusals.specs.inner.LeftOver.{is_open, is_owed, length_above, selected_at, HasCounts}
use Rattle.fm_link_refusals.proofs.left_over.LeftOver.row_above.Goals as goal

pub returns-in_ok-from_slice-in-Some : goal.returns-in_ok-from_slice-in-Some
returns-in_ok-from_slice-in-Some c =
    let m = c.args.linking.methods.now in
    let parent = c.in-Some.parent in
    let row = c.in_ok-from_slice-in-Some.field-0.items in
    let row_is = c.in_ok-from_slice-in-Some.ensures.items ∙ c.list_at.ensures ∙ ap (λ t. list_in t parent) c.as_slice.ensures.value in
    record {
      counts = λ classes linked inside are.
          subst (λ (o : Option ℕ). HasCounts m (length classes) (is_owed classes m (λ s. is_open classes (selected_at m o s))) row) (sym c.in-Some.is)
          (subst (HasCounts m (length classes) (is_owed classes m (λ s. is_open classes (selected_at m (Some parent) s)))) (sym row_is)
          (are parent (inside parent c.in-Some.is)));
      long = ap length row_is ∙ ap (length_above c.args.self.now.rows.items (length c.args.linking.hierarchy.now.classes.now)) (sym c.in-Some.is);
    }

pub returns-in-None : goal.returns-in-None
returns-in-None c = record {
  counts = if_ok_then _ _
      (λ row counts classes linked inside are.
      let m = c.args.linking.methods.now in
      subst (λ (o : Option ℕ). HasCounts m (length classes) (is_owed classes m (λ s. is_open classes (selected_at m o s))) row.items) (sym c.in-None.is)
      (counts classes linked)) c.all_abstract.result c.all_abstract.ensures.counts;
  long = if_ok_then _ _
      (λ row long. long ∙ ap (length_above c.args.self.now.rows.items (length c.args.linking.hierarchy.now.classes.now)) (sym c.in-None.is)) c.all_abstract.result
      c.all_abstract.ensures.long;
}
