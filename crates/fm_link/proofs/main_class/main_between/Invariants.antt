use Rattle.std.proofs.Common.{◌≡◌, ◌-◌}
use Rattle.fm_link_names.specs.inner.Numbering.{texts_in}
use Rattle.fm_link_members.specs.inner.MemberTables.{first_from}
use Rattle.fm_link.specs.inner.MainClass.{is_main_at, main_between}
use Rattle.fm_link.proofs.main_class.main_between.Given as goal

abbrev pub invariant-loop-method : goal.invariant-loop-method
invariant-loop-method l =
    first_from (is_main_at (texts_in l.texts) l.methods.rows.items) (l.end - l.method) l.method
    ≡ main_between (texts_in l.texts) l.methods.rows.items (l.start, l.end)
