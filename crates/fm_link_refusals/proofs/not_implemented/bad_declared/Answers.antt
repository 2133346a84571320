use Rattle.std.proofs.Common.{◌∙◌, ap, List}
use Rattle.std.specs.List.{slice_index_or}
use Rattle.fm_link_names.specs.inner.Numbering.{texts_in}
use Rattle.fm_link_members.proofs.LookupLemmas.{method_row}
use Rattle.fm_link_members.specs.inner.MemberRows.{no_row, row_alike, Owned}
use Rattle.fm_world.specs.Causes.{declared_name}
use Rattle.fm_world.specs.Chains.{class_at}
use Rattle.fm_world.specs.declared.declarations.DeclaredClass.{DeclaredClass}
use Rattle.fm_link_refusals.proofs.LeftOver.{declared_spelled}
use Rattle.fm_link_refusals.proofs.not_implemented.bad_declared.Goals as goal

pub returns : goal.returns
returns c = λ classes linked within.
    let texts = texts_in c.args.linking.texts.now in
    let row = c.row_at-row.result in
    let named = declared_name classes c.args.method in
    let told = ap (row_alike texts) (c.row_at-row.ensures ∙ ap (λ rows. slice_index_or rows c.args.method no_row) c.as_slice.ensures.value)
    ∙ method_row texts classes c.args.linking.methods.now linked.methods c.args.method within in (
      declared_spelled c.class_name.result.now c.text.result.now c.text-2.result.now named.class named.name named.descriptor c.in_ok-name.name.items
          c.push.new.self.items
          c.extend_from_slice.new.self.items c.new.result
          (c.class_name.ensures
          ∙ ap (λ (cs : List DeclaredClass). (class_at cs row.class).name) linked.hierarchy.classes_are
          ∙ ap (λ (o : Owned). (class_at classes o.class).name) told)
          (c.text.ensures ∙ ap (λ (o : Owned). o.name) told)
          (c.text-2.ensures ∙ ap (λ (o : Owned). o.descriptor) told) c.in_ok-name.ensures.items c.in_ok-push.ensures.items
          c.in_ok-extend_from_slice.ensures.items (c.new.ensures ∙ c.in_ok-extend_from_slice-2.ensures.items),
      c.new-2.ensures ∙ c.in_ok-user.ensures.items ∙ c.name.ensures,
    )
