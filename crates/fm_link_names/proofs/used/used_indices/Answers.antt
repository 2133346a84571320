use Rattle.std.proofs.Common.{◌∙◌, ap, rules, set, true}
use Rattle.std.specs.List.{flat_map}
use Rattle.fm_link_names.proofs.MarkLemmas.{used_is}
use Rattle.fm_base.specs.Rows.{marked}
use Rattle.fm_link_names.specs.inner.Marks.{operands_in}
use Rattle.fm_world.specs.Uses.{caught_by, values_of}
use Rattle.fm_link_names.proofs.used.used_indices.Goals as goal

pub returns : goal.returns
returns c =
    let superclass = c.mark-2.new.marks.items in
    let interfaces = c.mark_indices.new.marks.items in
    let values = c.mark_values.new.used.items in
    let operands = c.mark_operands.new.used.items in
    used_is c.args.class.now c.in_ok-used.used.items c.mark.new.marks.items superclass interfaces values operands c.mark_caught.new.used.items
    (record {
      none_is = search rules;
      own_is = c.mark.ensures ∙ ap (λ i. set c.in_ok-used.used.items i true) c.from.ensures;
      superclass_is = c.mark-2.ensures ∙ ap (λ i. set c.mark.new.marks.items i true) c.from-2.ensures;
      interfaces_are = c.mark_indices.ensures ∙ ap (marked superclass) c.as_slice.ensures;
      values_marked = c.mark_values.ensures ∙ ap (λ fields. marked interfaces (flat_map values_of fields)) c.as_slice-2.ensures;
      operands_are = c.mark_operands.ensures ∙ ap (λ methods. marked values (flat_map operands_in methods)) c.as_slice-3.ensures;
      all_are = c.mark_caught.ensures ∙ ap (λ methods. marked operands (flat_map caught_by methods)) c.as_slice-4.ensures;
    })
