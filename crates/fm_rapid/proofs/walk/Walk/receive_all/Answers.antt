use Rattle.fm_rapid.proofs.WalkSteps.{chain_above, interfaces_above, received_all, Goes-then}
use Rattle.fm_rapid.specs.inner.Walks.{sets_of}
use Rattle.fm_rapid.proofs.walk.Walk.receive_all.Goals as goal

pub receive_each-requires-clause-supers : goal.receive_each-requires-clause-supers
receive_each-requires-clause-supers c =
    chain_above c.args.program.now.outline.classes c.args.class.0 c.display-superclasses.result.now c.requires.class c.requires.concrete
    c.display-superclasses.ensures.value

pub receive_each-requires-2-clause-walk : goal.receive_each-requires-2-clause-walk
receive_each-requires-2-clause-walk c = c.in_ok-receive_each.ensures.goes.walk

pub receive_each-requires-2-clause-made : goal.receive_each-requires-2-clause-made
receive_each-requires-2-clause-made c = c.in_ok-receive_each.ensures.goes.went.made c.args.class.0 c.requires.made

pub receive_each-requires-2-clause-supers : goal.receive_each-requires-2-clause-supers
receive_each-requires-2-clause-supers c =
    interfaces_above c.args.program.now.outline.classes c.args.class.0 c.interfaces-superinterfaces.result.now c.requires.concrete
    c.interfaces-superinterfaces.ensures.value c.interfaces-superinterfaces.ensures.only

pub returns-clause-goes : goal.returns-clause-goes
returns-clause-goes c =
    Goes-then c.args.program.now (sets_of c.args.self.now) (sets_of c.receive_each.new.self) (sets_of c.receive_each-2.new.self)
    c.in_ok-receive_each.ensures.goes c.in_ok-receive_each-2.ensures.goes

pub returns-clause-received : goal.returns-clause-received
returns-clause-received c =
    received_all c.args.program.now (sets_of c.receive_each.new.self) (sets_of c.receive_each-2.new.self) c.args.class.0
    c.display-superclasses.result.now c.interfaces-superinterfaces.result.now c.in_ok-receive_each-2.ensures.goes.went
    c.display-superclasses.ensures.value c.in_ok-receive_each.ensures.listed c.interfaces-superinterfaces.ensures.value c.in_ok-receive_each-2.ensures.listed
