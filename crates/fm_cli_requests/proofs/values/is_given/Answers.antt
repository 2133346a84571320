use Rattle.std.proofs.Common.{codes}
use Rattle.clap.specs.Words.{found_of}
use Rattle.fm_cli_requests.proofs.MatchLemmas.{first_tested, none_tested}
use Rattle.fm_cli_requests.proofs.values.is_given.Goals as goal

pub returns-in-Some : goal.returns-in-Some
returns-in-Some c =
    first_tested (found_of c.args.matches.now) c.args.name.now (codes "true") c.get_str.result c.in-Some.text c.eq.result c.get_str.ensures c.in-Some.is c.eq.ensures

pub returns-in-None : goal.returns-in-None
returns-in-None c = none_tested (found_of c.args.matches.now) c.args.name.now (codes "true") c.get_str.result c.get_str.ensures c.in-None.is
