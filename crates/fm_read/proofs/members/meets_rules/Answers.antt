use Rattle.std.proofs.Common.{◌↔◌, IsTrue, subst, sym}
use Rattle.fm_read.specs.declared.attributes.MemberKind.{MemberKind}
use Rattle.fm_read.specs.inner.MemberRules.{MeetsRules}
use Rattle.fm_read.proofs.members.meets_rules.Goals as goal

pub returns-in-Field : goal.returns-in-Field
returns-in-Field c =
    subst (λ (k : MemberKind). IsTrue c.field_meets_rules.result ↔ MeetsRules k c.args.in_interface c.args.known.now.entries c.args.member.now) (sym c.in-Field.is) c.field_meets_rules.ensures

pub returns-in-Method : goal.returns-in-Method
returns-in-Method c =
    subst (λ (k : MemberKind). IsTrue c.method_meets_rules.result ↔ MeetsRules k c.args.in_interface c.args.known.now.entries c.args.member.now) (sym c.in-Method.is) c.method_meets_rules.ensures
