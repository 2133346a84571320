use Rattle.clap.specs.Words.{found_of}
use Rattle.fm_cli_requests.proofs.MatchLemmas.{lacks_first}
use Rattle.fm_cli_requests.proofs.class_files.lacks_value.Goals as goal

pub returns : goal.returns
returns c = lacks_first (found_of c.args.matches.now) c.args.id.now c.get_str.result c.is_none.result c.get_str.ensures c.is_none.ensures
