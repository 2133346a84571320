use Rattle.fm_place.proofs.PlanLemmas.{frees_counted, full_suits, holders_tell_full}
use Rattle.fm_place.proofs.laws.law_plans.Goals as goal

pub returns : goal.returns
returns c = record { full = holders_tell_full; suits = full_suits; frees = frees_counted }
