use Rattle.std.proofs.Common.{◌∙◌, ap, refl, ℕ, List, Some}
use Rattle.fm_link_names.proofs.FileLemmas.{extends_through}
use Rattle.fm_link_names.specs.inner.Numbering.{texts_in}
use Rattle.fm_link_members.proofs.RowSteps.{adds_one}
use Rattle.fm_link_members.proofs.member_rows.add_row.Goals as goal

pub returns-clause-rows : goal.returns-clause-rows
returns-clause-rows c =
    let old = texts_in c.args.texts.now in
    let new = texts_in c.add-2.new.self in
    adds_one old new (record { class = c.args.class; name = c.args.name.now; descriptor = c.args.descriptor.now; flags = c.args.flags })
    (record { class = c.args.class; name = c.in_ok-name.name; descriptor = c.in_ok-descriptor.descriptor; flags = c.args.flags })
    c.args.rows.now.items
    c.push.new.self.items (extends_through old (texts_in c.add.new.self) new c.add.ensures.extends c.add-2.ensures.extends)
    (record {
      class_is = refl;
      name = c.add-2.ensures.extends c.in_ok-name.name c.args.name.now
          (c.in_ok-name.ensures.number ∙ ap (λ (t : List ℕ). Some t) c.as_bytes.ensures.value);
      descriptor = c.in_ok-descriptor.ensures.number ∙ ap (λ (t : List ℕ). Some t) c.as_bytes-2.ensures.value;
      flags = refl;
    }) c.in_ok-push.ensures.items
