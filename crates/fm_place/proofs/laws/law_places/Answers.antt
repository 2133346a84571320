use Rattle.fm_place.proofs.PathLemmas.{places_are_by_paths}
use Rattle.fm_place.proofs.laws.law_places.Goals as goal

pub returns : goal.returns
returns c = places_are_by_paths
