use Rattle.fm_base.proofs.TextsLemmas.{units-flat_map, IsModifiedUtf8-flat_map}
use Rattle.fm_base.proofs.texts.law_units.Goals as goal

pub returns : goal.returns
returns c = record { spelled = IsModifiedUtf8-flat_map; read_back = units-flat_map }
