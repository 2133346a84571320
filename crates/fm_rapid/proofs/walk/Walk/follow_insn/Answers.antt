use Rattle.std.proofs.Common.{sym, subst}
use Rattle.fm_conn.proofs.MemberLemmas.{use_there}
use Rattle.fm_types.specs.Named.{NamesMember}
use Rattle.fm_conn.specs.inner.PairLists.{method_in}
use Rattle.fm_rapid.proofs.ItemLemmas.{all_gone, call_needed, call_there, made_needed, started_needed}
use Rattle.fm_rapid.proofs.WalkSteps.{Goes-then}
use Rattle.fm_rapid.specs.inner.Walks.{sets_of}
use Rattle.fm_rapid.proofs.walk.Walk.follow_insn.Goals as goal

pub make_if-requires-clause-needed : goal.make_if-requires-clause-needed
make_if-requires-clause-needed c =
    made_needed (method_in c.args.at.now) c.args.insn.now c.use_at-resolved.result c.made_by-made.result c.use_at-resolved.ensures
    c.made_by-made.ensures.value c.requires.needed

pub started_by-started-requires-clause-resolved : goal.started_by-started-requires-clause-resolved
started_by-started-requires-clause-resolved c =
    subst (NamesMember c.args.at.now.program.now.outline) (sym c.use_at-resolved.ensures)
    (use_there (method_in c.args.at.now) c.args.insn.now c.requires.uses)

pub start_if-requires-clause-walk : goal.start_if-requires-clause-walk
start_if-requires-clause-walk c = c.in_ok-make_if.ensures.goes.walk

pub start_if-requires-clause-needed : goal.start_if-requires-clause-needed
start_if-requires-clause-needed c =
    started_needed (method_in c.args.at.now) c.args.insn.now c.use_at-resolved.result c.started_by-started.result c.use_at-resolved.ensures
    c.started_by-started.ensures.value c.requires.needed

pub follow_call_if-requires-clause-walk : goal.follow_call_if-requires-clause-walk
follow_call_if-requires-clause-walk c = c.in_ok-start_if.ensures.goes.walk

pub follow_call_if-requires-clause-call : goal.follow_call_if-requires-clause-call
follow_call_if-requires-clause-call c =
    call_there (method_in c.args.at.now) c.args.insn.now c.call_of-call.result c.call_of-call.ensures c.requires.uses c.requires.inside

pub follow_call_if-requires-clause-needed : goal.follow_call_if-requires-clause-needed
follow_call_if-requires-clause-needed c =
    call_needed (method_in c.args.at.now) c.args.insn.now c.call_of-call.result c.call_of-call.ensures c.requires.needed

pub returns-clause-goes : goal.returns-clause-goes
returns-clause-goes c =
    let p = c.args.at.now.program.now in
    Goes-then p (sets_of c.args.self.now) (sets_of c.make_if.new.self) (sets_of c.follow_call_if.new.self) c.in_ok-make_if.ensures.goes
    (Goes-then p (sets_of c.make_if.new.self) (sets_of c.start_if.new.self) (sets_of c.follow_call_if.new.self) c.in_ok-start_if.ensures.goes
    c.in_ok-follow_call_if.ensures.goes)

pub returns-clause-gone : goal.returns-clause-gone
returns-clause-gone c =
    all_gone (method_in c.args.at.now) c.args.insn.now c.use_at-resolved.result c.made_by-made.result c.started_by-started.result c.call_of-call.result
    (sets_of c.make_if.new.self) (sets_of c.start_if.new.self) (sets_of c.follow_call_if.new.self) c.use_at-resolved.ensures
    c.made_by-made.ensures.value c.started_by-started.ensures.value c.call_of-call.ensures c.in_ok-start_if.ensures.goes
    c.in_ok-follow_call_if.ensures.goes c.in_ok-make_if.ensures.made c.in_ok-start_if.ensures.started c.in_ok-follow_call_if.ensures.leads
