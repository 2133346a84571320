use Rattle.fm_link_names.specs.inner.Numbering.{texts_in}
use Rattle.fm_link_members.proofs.RowSteps.{adds_next_at, grows_then}
use Rattle.fm_link_members.specs.inner.MemberSteps.{built_in_method_alike}
use Rattle.fm_link_members.proofs.member_rows.add_built_in_methods.Goals as goal

pub loop-method-preserved : goal.loop-method-preserved
loop-method-preserved c =
    let inv = c.loop-method.invariant in
    record {
      grows = grows_then c.args.texts.now c.loop-method.texts c.add_row.new.texts inv.grows c.add_row.ensures.grows;
      first = inv.first;
      rows =
          adds_next_at (built_in_method_alike c.in_ok-class.class) c.args.methods.now c.loop-method.method-index _ (texts_in c.args.texts.now)
          (texts_in c.loop-method.texts) (texts_in c.add_row.new.texts) c.args.members.now.rows.items c.loop-method.members.rows.items
          c.add_row.new.rows.items c.loop-method-test.true inv.rows c.in_ok-add_row.ensures.rows;
    }
