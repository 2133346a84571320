use Rattle.fm_check_rows.proofs.UseLemmas.{uses_name_members}
use Rattle.fm_check_rows.proofs.laws.law_uses.Goals as goal

pub returns : goal.returns
returns c = uses_name_members
