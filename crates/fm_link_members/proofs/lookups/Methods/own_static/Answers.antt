use Rattle.std.proofs.Common.{◌∙◌, ◌-◌, sym}
use Rattle.fm_code.specs.AccessFlags.{is_static}
use Rattle.fm_link_members.proofs.StaticLemmas.{first_later}
use Rattle.fm_link_members.specs.inner.MemberTables.{first_from}
use Rattle.fm_link_members.specs.inner.NearestSteps.{is_signed}
use Rattle.fm_link_members.proofs.lookups.Methods.own_static.Goals as goal

pub loop-method-preserved : goal.loop-method-preserved
loop-method-preserved c =
    let m = c.args.self.now in
    let p = is_signed m.members.rows.items m.signatures.of_members.items is_static c.args.signature in
    let start = c.of_class-start.result.0 in
    let end = c.of_class-start.result.1 in
    first_later p c.loop-method.method end (first_from p (end - start) start) c.loop-method-test.true
    (sym c.is_static_of.ensures ∙ c.if-is_static_of.false) c.loop-method.invariant
