use Rattle.std.proofs.Common.{◌≡◌, map, take}
use Rattle.fm_link_names.specs.inner.Numbering.{texts_in}
use Rattle.fm_link_members.specs.inner.MemberSteps.{built_in_method_alike, AddsRows, Grows}
use Rattle.fm_link_members.proofs.member_rows.add_built_in_methods.Given as goal

abbrev pub invariant-loop-method : goal.invariant-loop-method
invariant-loop-method l = record {
  grows : Grows l.fn.texts l.texts;
  first : l.members.first ≡ l.initial.members.first;
  rows : AddsRows (texts_in l.fn.texts) (texts_in l.texts) (map (built_in_method_alike l.class) (take l.method-index l.methods))
      l.fn.members.rows.items
      l.members.rows.items;
}
