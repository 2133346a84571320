use Rattle.fm_rewrite.proofs.AlikeLemmas.{classes_planned_alike, members_planned_alike}
use Rattle.fm_rewrite.proofs.laws.law_alike.Goals as goal

pub returns : goal.returns
returns c = record { members = members_planned_alike; classes = classes_planned_alike }
