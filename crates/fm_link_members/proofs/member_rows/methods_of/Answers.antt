use Rattle.std.proofs.Common.{◌++◌, ap, length, map, subst, take}
use Rattle.fm_link_names.proofs.DeclareLemmas.{all_declared, file_has_texts}
use Rattle.fm_link_names.specs.inner.Declaring.{declared_file}
use Rattle.fm_link_names.specs.inner.Numbering.{texts_in}
use Rattle.fm_world.specs.BuiltIns.{built_in}
use Rattle.fm_link_members.proofs.RowSteps.{methods_end, methods_next_at, methods_of_file, grows_then, has_kept}
use Rattle.fm_link_members.specs.inner.MemberRows.{AreMethodRows}
use Rattle.fm_link_members.specs.inner.MemberSteps.{member_alike, AddsRows}
use Rattle.fm_link_members.proofs.member_rows.methods_of.Goals as goal

pub loop-class-preserved : goal.loop-class-preserved
loop-class-preserved c =
    let inv = c.loop-class.invariant in
    let call = c.add_built_in_methods in
    record {
      grows = grows_then c.args.texts.now c.loop-class.texts call.new.texts inv.grows call.ensures.grows;
      so_far =
          methods_next_at (texts_in c.loop-class.texts) (texts_in call.new.texts) c.built_in_classes-class-items.result.now c.loop-class.class-index _
          c.loop-class.methods.rows.items call.new.members.rows.items c.loop-class.methods.first.items call.new.members.first.items
          c.loop-class-test.true inv.so_far c.in_ok-add_built_in_methods.ensures.rows c.in_ok-add_built_in_methods.ensures.first;
    }

pub loop-file-preserved : goal.loop-file-preserved
loop-file-preserved c =
    let inv = c.loop-file.invariant in
    let files = c.args.files.now in
    let i = c.loop-file.file-index in
    let file = c.file-item.result in
    let now = texts_in c.loop-file.texts in
    let new = texts_in c.add_members.new.texts in
    let rows = c.loop-file.methods.rows.items in
    let more = c.add_members.new.members.rows.items in
    let first = c.loop-file.methods.first.items in
    record {
      grows = grows_then c.args.texts.now c.loop-file.texts c.add_members.new.texts inv.grows c.add_members.ensures.grows;
      so_far = λ given are.
          let has = has_kept (texts_in c.args.texts.now) now file inv.grows.extends
          (file_has_texts (texts_in c.args.texts.now) given files i file are c.loop-file-test.true c.file-item.is) in
          methods_of_file now new built_in files i file rows more first c.add_members.new.members.first.items c.loop-file-test.true c.file-item.is
          (inv.so_far given are)
          (subst (λ ds. AddsRows now new (map (member_alike (length first) file.class.now.pool.entries) ds) rows more) c.as_slice.ensures
          (c.in_ok-add_members.ensures.rows has))
          c.in_ok-add_members.ensures.first;
    }

pub returns-clause-rows : goal.returns-clause-rows
returns-clause-rows c = λ given are.
    let now = texts_in c.loop-file.texts in
    let files = c.args.files.now in
    let i = c.loop-file.file-index in
    subst (λ cs. AreMethodRows now cs c.begin_class.new.members) (all_declared (texts_in c.args.texts.now) given files i are c.loop-file-test.false)
    (methods_end now (built_in ++ map declared_file (take i files)) c.begin_class.new.members c.loop-file.methods.rows.items
    c.loop-file.methods.first.items (c.loop-file.invariant.so_far given are) (ap (λ v. v.items) c.begin_class.ensures.rows)
    c.in_ok-begin_class.ensures.first)
