use Rattle.std.proofs.Common.{◌≡◌, ◌∙◌, sym, false, true}
use Rattle.fm_rewrite.specs.inner.ByPlans.{changes_by}
use Rattle.fm_audit_classes.proofs.StepLemmas.{always_ok}
use Rattle.fm_audit_classes.proofs.WholeIfLemmas.{low_still}
use Rattle.fm_audit_classes.proofs.WholeClassLemmas.{whole_by, whole_still}
use Rattle.fm_audit_classes.proofs.comparing.is_written.Goals as goal

pub returns-then-not-changes-clause-whole : goal.returns-then-not-changes-clause-whole
returns-then-not-changes-clause-whole c =
    let still : changes_by c.args.planned.now ≡ false = sym c.changes.ensures ∙ c.if-not-changes.true in
    whole_still c.args.planned.now c.args.class.now c.args.written.now still c.is_same.result c.is_same.ensures.all

pub returns-clause-whole : goal.returns-clause-whole
returns-clause-whole c =
    let changed : changes_by c.args.planned.now ≡ true = sym c.changes.ensures ∙ c.if-not-changes.false in
    whole_by c.args.planned.now c.args.class.now c.args.written.now changed c.is_woven.result c.is_woven.ensures.whole

pub returns-then-not-changes-clause-low : goal.returns-then-not-changes-clause-low
returns-then-not-changes-clause-low c =
    let still : changes_by c.args.planned.now ≡ false = sym c.changes.ensures ∙ c.if-not-changes.true in
    always_ok c.is_same.result (low_still c.args.planned.now c.args.class.now.methods still)
