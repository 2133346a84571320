use Rattle.std.proofs.Common.{◌≡◌, map, take}
use Rattle.fm_link_names.specs.inner.Numbering.{texts_in}
use Rattle.fm_link_members.specs.inner.MemberSteps.{built_in_field_alike, AddsRows, Grows}
use Rattle.fm_link_members.proofs.member_rows.add_built_in_fields.Given as goal

abbrev pub invariant-loop-field : goal.invariant-loop-field
invariant-loop-field l = record {
  grows : Grows l.fn.texts l.texts;
  first : l.members.first ≡ l.initial.members.first;
  rows : AddsRows (texts_in l.fn.texts) (texts_in l.texts) (map (built_in_field_alike l.class) (take l.field-index l.fields)) l.fn.members.rows.items
      l.members.rows.items;
}
