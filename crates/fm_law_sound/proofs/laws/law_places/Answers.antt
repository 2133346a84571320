use Rattle.fm_law_sound.proofs.FieldPlaces.{field_place}
use Rattle.fm_law_sound.proofs.laws.law_places.Goals as goal

pub returns : goal.returns
returns c = λ o tree class field within there not_static among. field_place o.classes tree class field within there not_static among
