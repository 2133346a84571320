use Rattle.std.proofs.Common.{sym, ◌∙◌, false}
use Rattle.fm_link_names.specs.inner.Numbering.{texts_in}
use Rattle.fm_link_refusals.proofs.ParentNames.{at_number}
use Rattle.fm_link_refusals.proofs.WantedMembers.{searched_by_name, searched_in_object}
use Rattle.fm_link_refusals.specs.inner.Linking.{names_array}
use Rattle.fm_link_refusals.proofs.linking.class_searched.Goals as goal

pub returns-then-is_marked : goal.returns-then-is_marked
returns-then-is_marked c = λ classes name linked there.
    let mark = at_number names_array (texts_in c.args.linking.texts.now) c.args.linking.arrays.now c.args.text name false linked.arrays there in
    linked.hierarchy.object ∙ sym (searched_in_object classes name (sym mark ∙ sym c.is_marked.ensures ∙ c.if-is_marked.true))

pub returns : goal.returns
returns c = λ classes name linked there.
    let mark = at_number names_array (texts_in c.args.linking.texts.now) c.args.linking.arrays.now c.args.text name false linked.arrays there in
    c.class_named.ensures classes name linked there ∙ sym (searched_by_name classes name (sym mark ∙ sym c.is_marked.ensures ∙ c.if-is_marked.false))
