use Rattle.std.proofs.Common.{◌∙◌, sym, ap, cond}
use Rattle.fm_link_supers.specs.inner.ListTables.{lists}
use Rattle.fm_link_refusals.proofs.FirstRefusals.{on_ok_then}
use Rattle.fm_link_members.specs.inner.Owners.{pushed}
use Rattle.fm_link_refusals.proofs.left_over.push_if.Goals as goal

pub returns-then-not-test : goal.returns-then-not-test
returns-then-not-test c =
    let table = lists c.args.table.now.items in
    sym (ap (λ b. cond b (pushed table c.args.place c.args.number) table) c.if-not-test.true)

pub returns : goal.returns
returns c =
    let table = lists c.args.table.now.items in
    on_ok_then (λ e. e ∙ sym (ap (λ b. cond b (pushed table c.args.place c.args.number) table) c.if-not-test.false)) c.push_at.result c.push_at.ensures
