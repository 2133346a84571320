use Rattle.fm_conn.proofs.Example.{joined_in_example}
use Rattle.fm_conn.proofs.laws.law_joined_example.Goals as goal

pub returns : goal.returns
returns c = joined_in_example
