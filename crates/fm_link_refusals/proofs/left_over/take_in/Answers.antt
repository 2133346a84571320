use Rattle.std.proofs.Common.{◌<◌, ◌∙◌, refl, sym, ap, subst, length, get_or}
use Rattle.fm_link_names.specs.inner.Numbering.{texts_in}
use Rattle.fm_link_members.specs.inner.MemberTables.{nearest_in}
use Rattle.fm_link_refusals.proofs.FirstRefusals.{on_ok_then}
use Rattle.fm_link_refusals.proofs.CountLoops.{changed_at, other_truth, same_truth}
use Rattle.fm_link_refusals.proofs.LeftOverCounts.{part-alike, part-before, part-changed, part-same, signed_below}
use Rattle.fm_link_refusals.specs.inner.LeftOver.{is_open, is_part_owed, is_taken, selected_at}
use Rattle.fm_link_refusals.proofs.left_over.take_in.Goals as goal

pub returns-then-not-is_number : goal.returns-then-not-is_number
returns-then-not-is_number c = record {
  counts = λ classes start counting within from below counts.
      let m = c.args.counting.linking.methods.now in
      let told = c.is_number.ensures ∙ ap (λ o. is_taken o c.args.method) (c.get.ensures ∙ ap (nearest_in m.selectable c.args.class) c.of_member-signature.ensures) in
      part-same (texts_in c.args.counting.linking.texts.now) classes m c.args.parent c.args.class start c.args.method c.args.row.now.items
      counting.linking.methods within (sym told ∙ c.if-not-is_number.true) counts;
  long = refl;
}

pub returns-then-are_same : goal.returns-then-are_same
returns-then-are_same c = record {
  counts = λ classes start counting within from below counts.
      let m = c.args.counting.linking.methods.now in
      let told = c.is_number.ensures ∙ ap (λ o. is_taken o c.args.method) (c.get.ensures ∙ ap (nearest_in m.selectable c.args.class) c.of_member-signature.ensures) in
      let was = c.is_open-was_open.ensures classes counting.linking
      ∙ ap (is_open classes) (c.selected_at.ensures ∙ ap (selected_at m c.args.parent) c.of_member-signature.ensures) in
      let same = same_truth c.is_open-was_open.result c.is_abstract-adds.result (sym c.are_same.ensures ∙ c.if-are_same.true) in
      part-alike (texts_in c.args.counting.linking.texts.now) classes m c.args.parent c.args.class start c.args.method c.args.row.now.items
      counting.linking.methods within from (sym told ∙ c.if-not-is_number.false) (sym was ∙ same ∙ c.is_abstract-adds.ensures classes counting.linking) counts;
  long = refl;
}

pub returns : goal.returns
returns c = record {
  counts = on_ok_then
      (λ changed classes start counting within from below counts.
      let m = c.args.counting.linking.methods.now in
      let texts = texts_in c.args.counting.linking.texts.now in
      let adds = c.is_abstract-adds.result in
      let signature = get_or m.signatures.of_members.items c.args.method 0 in
      let told = c.is_number.ensures ∙ ap (λ o. is_taken o c.args.method) (c.get.ensures ∙ ap (nearest_in m.selectable c.args.class) c.of_member-signature.ensures) in
      let taken = sym told ∙ c.if-not-is_number.false in
      let was = c.is_open-was_open.ensures classes counting.linking
      ∙ ap (is_open classes) (c.selected_at.ensures ∙ ap (selected_at m c.args.parent) c.of_member-signature.ensures) in
      let before = sym was ∙ other_truth c.is_open-was_open.result adds (sym c.are_same.ensures ∙ c.if-are_same.false) in
      part-changed texts classes m c.args.parent c.args.class start c.args.method adds c.change_all.new.row.items counting.linking.methods within from taken
      (c.is_abstract-adds.ensures classes counting.linking)
      (changed_at classes m adds c.args.parent c.args.class start c.args.method c.change_all.new.row.items c.of_member-signature.ensures
      (changed classes (is_part_owed classes m c.args.parent c.args.class start c.args.method) counting
      (subst (λ s. s < length m.members.rows.items) (sym c.of_member-signature.ensures)
      (signed_below texts classes m counting.linking.methods c.args.method below))
      (λ k met signed. part-before classes m c.args.parent c.args.class start c.args.method adds taken before k met (signed ∙ c.of_member-signature.ensures))
      counts))) c.change_all.result c.change_all.ensures.counts;
  long = c.change_all.ensures.long;
}
