use Rattle.fm_law_holders.proofs.KeptResults.{keeping_keeps_holders, kept_results_are_own, new_results_are_unheld}
use Rattle.fm_law_holders.proofs.ResultsNew.{sites_give_new}
use Rattle.fm_law_holders.proofs.laws.law_new_results.Goals as goal

pub returns : goal.returns
returns c = record { new = sites_give_new; own = kept_results_are_own; unheld = new_results_are_unheld; keeping = keeping_keeps_holders }
