use Rattle.std.proofs.Common.{◌<◌, length}
use Rattle.fm_base.specs.declared.ids.ClassId.{ClassId}
use Rattle.fm_rapid.proofs.Elements.{option_at, option_from, option_none}
use Rattle.fm_rapid.proofs.WalkSteps.{Goes-none}
use Rattle.fm_rapid.specs.Reach.{starts_of, AreIn}
use Rattle.fm_rapid.specs.inner.Walks.{sets_of, AreNeeded}
use Rattle.fm_rapid.proofs.walk.Walk.start_if.Goals as goal

pub returns-in_default-clause-goes : goal.returns-in_default-clause-goes
returns-in_default-clause-goes c = Goes-none c.args.program.now (sets_of c.args.self.now) c.requires.walk

pub returns-in_default-clause-started : goal.returns-in_default-clause-started
returns-in_default-clause-started c =
    option_none (λ (d : ClassId). AreIn c.args.self.now.methods (starts_of c.args.program.now.outline d.0)) c.args.class c.in_default.is

pub start-requires-clause-class : goal.start-requires-clause-class
start-requires-clause-class c =
    option_at (λ (d : ClassId). d.0 < length c.args.program.now.outline.classes) c.args.class c.in-Some.class c.in-Some.is c.requires.class

pub start-requires-clause-needed : goal.start-requires-clause-needed
start-requires-clause-needed c =
    option_at (λ (d : ClassId). AreNeeded c.args.program.now (starts_of c.args.program.now.outline d.0)) c.args.class c.in-Some.class c.in-Some.is
    c.requires.needed

pub returns-clause-started : goal.returns-clause-started
returns-clause-started c =
    option_from (λ (d : ClassId). AreIn c.start.new.self.methods (starts_of c.args.program.now.outline d.0)) c.args.class c.in-Some.class c.in-Some.is
    c.in_ok-start.ensures.started
