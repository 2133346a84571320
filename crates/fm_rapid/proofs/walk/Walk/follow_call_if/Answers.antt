use Rattle.fm_rapid.proofs.Elements.{option_at, option_from, option_none}
use Rattle.fm_rapid.proofs.WalkSteps.{Goes-none}
use Rattle.fm_rapid.specs.inner.Walks.{sets_of, IsCallFollowed, LeadsInto}
use Rattle.fm_conn.specs.inner.PairLists.{IsCallIn}
use Rattle.fm_world.specs.declared.calls.Call.{Call}
use Rattle.fm_rapid.proofs.walk.Walk.follow_call_if.Goals as goal

pub returns-in_default-clause-goes : goal.returns-in_default-clause-goes
returns-in_default-clause-goes c = Goes-none c.args.program.now (sets_of c.args.self.now) c.requires.walk

pub returns-in_default-clause-leads : goal.returns-in_default-clause-leads
returns-in_default-clause-leads c =
    option_none (λ (d : Call). LeadsInto c.args.program.now (sets_of c.args.self.now) d d.kind) c.args.call c.in_default.is

pub follow_call-requires-clause-call : goal.follow_call-requires-clause-call
follow_call-requires-clause-call c = option_at (IsCallIn c.args.program.now.outline) c.args.call c.in-Some.call c.in-Some.is c.requires.call

pub follow_call-requires-clause-needed : goal.follow_call-requires-clause-needed
follow_call-requires-clause-needed c = option_at (IsCallFollowed c.args.program.now) c.args.call c.in-Some.call c.in-Some.is c.requires.needed

pub returns-clause-leads : goal.returns-clause-leads
returns-clause-leads c =
    option_from (λ (d : Call). LeadsInto c.args.program.now (sets_of c.follow_call.new.self) d d.kind) c.args.call c.in-Some.call c.in-Some.is
    c.in_ok-follow_call.ensures.leads
