use Rattle.fm_law_headline.proofs.Taken.{checked_taken, first_call_found}
use Rattle.fm_law_headline.proofs.laws.law_taken.Goals as goal

pub returns : goal.returns
returns c = record { calls = first_call_found c.law_linking.ensures; files = checked_taken c.law_linking.ensures }
