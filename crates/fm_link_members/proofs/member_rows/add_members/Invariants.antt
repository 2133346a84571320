use Rattle.std.proofs.Common.{◌≡◌, map, take}
use Rattle.fm_link_names.specs.inner.Declaring.{HasTexts}
use Rattle.fm_link_names.specs.inner.Numbering.{texts_in}
use Rattle.fm_link_members.specs.inner.MemberSteps.{member_alike, AddsRows, Grows}
use Rattle.fm_link_members.proofs.member_rows.add_members.Given as goal

abbrev pub invariant-loop-member : goal.invariant-loop-member
invariant-loop-member l = record {
  grows : Grows l.fn.texts l.texts;
  first : l.members.first ≡ l.initial.members.first;
  rows : HasTexts (texts_in l.fn.texts) l.file
      → AddsRows (texts_in l.fn.texts) (texts_in l.texts)
      (map (member_alike l.class l.file.class.now.pool.entries) (take l.member-index l.declared)) l.fn.members.rows.items l.members.rows.items;
}
