use Rattle.clap.specs.Words.{found_of}
use Rattle.fm_cli_requests.proofs.MatchLemmas.{lacks_all}
use Rattle.fm_cli_requests.proofs.class_files.lacks_values.Goals as goal

pub returns : goal.returns
returns c = lacks_all (found_of c.args.matches.now) c.args.id.now c.get_strs.result c.is_none.result c.get_strs.ensures c.is_none.ensures
