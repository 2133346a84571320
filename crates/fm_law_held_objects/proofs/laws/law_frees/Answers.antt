use Rattle.fm_law_held_objects.proofs.AllFrees.{frees_keep_held, nothing_is_lost}
use Rattle.fm_law_held_objects.proofs.Retired.{freed_classes_retire, retiring_keeps_held}
use Rattle.fm_law_held_objects.proofs.laws.law_frees.Goals as goal

pub returns : goal.returns
returns c = record { found = nothing_is_lost; frees = frees_keep_held; retire = freed_classes_retire; retired = retiring_keeps_held }
