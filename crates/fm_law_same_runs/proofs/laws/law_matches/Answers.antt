use Rattle.fm_law_same_runs.proofs.Matches.{ended_no_match, matches_are_one}
use Rattle.fm_law_same_runs.proofs.laws.law_matches.Goals as goal

pub returns : goal.returns
returns c = record { one = matches_are_one; ended = ended_no_match }
