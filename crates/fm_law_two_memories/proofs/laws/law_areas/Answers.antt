use Rattle.fm_law_two_memories.proofs.ActsSame.{kept_same, put_same, static_same}
use Rattle.fm_law_two_memories.proofs.laws.law_areas.Goals as goal

pub returns : goal.returns
returns c = record { objects = put_same; statics = static_same; kept = kept_same }
