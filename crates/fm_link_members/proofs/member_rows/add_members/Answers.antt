use Rattle.std.proofs.Common.{◌++◌, map, subst}
use Rattle.fm_link_names.specs.inner.Numbering.{texts_in}
use Rattle.fm_link_members.proofs.RowSteps.{adds_all, adds_next, grows_then, has_kept}
use Rattle.fm_link_members.specs.inner.MemberRows.{AreRows}
use Rattle.fm_link_members.specs.inner.MemberSteps.{member_alike}
use Rattle.fm_link_members.proofs.member_rows.add_members.Goals as goal

pub returns-in_err-add_member-clause-grows : goal.returns-in_err-add_member-clause-grows
returns-in_err-add_member-clause-grows c =
    grows_then c.args.texts.now c.loop-member.texts c.add_member.new.texts c.loop-member.invariant.grows c.add_member.ensures.grows

pub loop-member-preserved : goal.loop-member-preserved
loop-member-preserved c =
    let old = texts_in c.args.texts.now in
    let now = texts_in c.loop-member.texts in
    let file = c.args.file.now in
    let inv = c.loop-member.invariant in
    record {
      grows = grows_then c.args.texts.now c.loop-member.texts c.add_member.new.texts inv.grows c.add_member.ensures.grows;
      first = inv.first;
      rows = λ has.
          adds_next (member_alike c.in_ok-class.class file.class.now.pool.entries) c.args.declared.now c.loop-member.member-index c.member-item.result
          old
          now (texts_in c.add_member.new.texts) c.args.members.now.rows.items c.loop-member.members.rows.items c.add_member.new.rows.items
          c.loop-member-test.true c.member-item.is (inv.rows has) (c.in_ok-add_member.ensures.rows (has_kept old now file inv.grows.extends has));
    }

pub returns-clause-rows : goal.returns-clause-rows
returns-clause-rows c = λ has owned are.
    let now = texts_in c.loop-member.texts in
    let entries = c.args.file.now.class.now.pool.entries in
    let declared = c.args.declared.now in
    let rows = c.loop-member.members.rows.items in
    subst (λ n. AreRows now (owned ++ map (member_alike n entries) declared) rows) c.in_ok-class.ensures.number
    (adds_all (member_alike c.in_ok-class.class entries) declared c.loop-member.member-index (texts_in c.args.texts.now) now
    c.args.members.now.rows.items rows c.loop-member-test.false (c.loop-member.invariant.rows has) owned are)
