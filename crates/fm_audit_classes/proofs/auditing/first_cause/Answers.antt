use Rattle.std.proofs.Common.{subst}
use Rattle.fm_audit_classes.specs.inner.Found.{IsRefused}
use Rattle.fm_audit_classes.proofs.auditing.first_cause.Goals as goal

pub first_named-requires-clause-named : goal.first_named-requires-clause-named
first_named-requires-clause-named c = subst (IsRefused c.args.program.now c.args.classes.now c.args.written.now) c.in-NotSafe.is c.requires.refused

pub returns-in-CallsFree : goal.returns-in-CallsFree
returns-in-CallsFree c = absurd (subst (IsRefused c.args.program.now c.args.classes.now c.args.written.now) c.in-CallsFree.is c.requires.refused)
