use Rattle.clap.specs.Words.{found_of}
use Rattle.fm_cli_requests.proofs.FmrunRequestLemmas.{budget_default, budget_named}
use Rattle.fm_cli_requests.proofs.fmrun_request.budget_in.Goals as goal

pub returns-in-Some : goal.returns-in-Some
returns-in-Some c =
    budget_named (found_of c.args.matches.now) c.args.name.now c.get_str.result c.in-Some.digits c.args.least c.args.most c.args.default c.number_of.result c.get_str.ensures c.in-Some.is c.number_of.ensures

pub returns-in-None : goal.returns-in-None
returns-in-None c = budget_default (found_of c.args.matches.now) c.args.name.now c.get_str.result c.args.least c.args.most c.args.default c.get_str.ensures c.in-None.is
