use Rattle.fm_tests_linked.proofs.TestLemmas.{lent_there}
use Rattle.fm_tests_linked.proofs.analysis.leads_to.Goals as goal

pub targets-requires-clause-caller : goal.targets-requires-clause-caller
targets-requires-clause-caller c = (c.requires c.in-Some.call.now (lent_there c.args.shape.now.calls c.args.call c.in-Some.call c.in-Some.ensures)).caller

pub targets-requires-clause-method : goal.targets-requires-clause-method
targets-requires-clause-method c = (c.requires c.in-Some.call.now (lent_there c.args.shape.now.calls c.args.call c.in-Some.call c.in-Some.ensures)).method

pub targets-requires-clause-named : goal.targets-requires-clause-named
targets-requires-clause-named c = (c.requires c.in-Some.call.now (lent_there c.args.shape.now.calls c.args.call c.in-Some.call c.in-Some.ensures)).named
