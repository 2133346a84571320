use Rattle.fm_conn.proofs.TypeLemmas.{types_in}
use Rattle.fm_conn.proofs.laws.law_types.Goals as goal

pub returns : goal.returns
returns c = types_in
