use Rattle.std.proofs.Common.{refl}
use Rattle.fm_audit.proofs.laws.law_example.Goals as goal

pub returns-clause-freed : goal.returns-clause-freed
returns-clause-freed c = refl

pub returns-clause-uncleared : goal.returns-clause-uncleared
returns-clause-uncleared c = refl

pub returns-clause-same : goal.returns-clause-same
returns-clause-same c = refl

pub returns-clause-widened : goal.returns-clause-widened
returns-clause-widened c = refl
