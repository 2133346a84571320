use Rattle.fm_same.proofs.PlacesSound.{places_agree}
use Rattle.fm_same.proofs.laws.law_place_kinds.Goals as goal

pub returns : goal.returns
returns c = places_agree
