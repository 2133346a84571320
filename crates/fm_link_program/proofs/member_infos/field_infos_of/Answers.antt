use Rattle.std.proofs.Common.{◌∙◌, ap, length, map}
use Rattle.fm_link_records.proofs.SlotLaws.{statics-all}
use Rattle.fm_link_records.specs.inner.Fields.{fields_told}
use Rattle.fm_link_records.specs.inner.Rows.{lent_kinds}
use Rattle.fm_link_program.proofs.MemberInfoSteps.{slots_are}
use Rattle.fm_world.specs.Members.{fields_of, slot_of}
use Rattle.fm_world.specs.inner.Tables.{numbers_below}
use Rattle.fm_link_program.proofs.member_infos.field_infos_of.Goals as goal

pub returns-clause-infos : goal.returns-clause-infos
returns-clause-infos c =
    let classes = c.args.hierarchy.now.classes.now in
    let kinds = lent_kinds c.args.kinds.now in
    let places = map (slot_of classes) (numbers_below (length (fields_of classes))) in
    c.in_ok-infos.ensures
    ∙ ap (λ ss. fields_told kinds ss c.as_slice-firsts.result.now 0 (fields_of classes))
    (c.as_slice-slots.ensures.value ∙ slots_are classes c.as_slice-bases.result.now c.in_ok-placed.placed.slots.items
    (c.as_slice-bases.ensures.value ∙ c.in_ok-found.ensures) c.in_ok-placed.ensures.slots)
    ∙ ap (λ fs. fields_told kinds places fs 0 (fields_of classes)) (c.as_slice-firsts.ensures.value ∙ c.in_ok-held.ensures)

pub returns-clause-statics : goal.returns-clause-statics
returns-clause-statics c = c.in_ok-placed.ensures.statics ∙ statics-all c.args.hierarchy.now.classes.now
