use Rattle.std.proofs.Common.{◌∙◌, Some, ap, length, sym}
use Rattle.std.proofs.lemmas.Bool.{false≢true}
use Rattle.fm_link_refusals.proofs.AbstractCounts.{counts_short}
use Rattle.fm_link_refusals.proofs.CountLoops.{if_ok_then}
use Rattle.fm_link_refusals.specs.inner.LeftOver.{is_open, is_owed, selected_at}
use Rattle.fm_link_refusals.proofs.left_over.LeftOver.row_if_asked.Goals as goal

pub returns-then-not-is_marked : goal.returns-then-not-is_marked
returns-then-not-is_marked c = record {
  counts = λ classes counting within are.
      let m = c.args.counting.linking.methods.now in
      counts_short m (length classes) (is_owed classes m (λ s. is_open classes (selected_at m (Some c.args.class) s))) c.new.result.items
      (ap length c.new.ensures.items);
  long = λ asked. absurd (false≢true (sym c.if-not-is_marked.true ∙ c.is_marked.ensures ∙ asked));
}

pub returns : goal.returns
returns c = record { counts = c.row_of.ensures.counts; long = if_ok_then _ _ (λ row long asked. long) c.row_of.result c.row_of.ensures.long }
