use Rattle.fm_law_two_memories.proofs.FreesSame.{freed_areas, freed_frames, freed_paired}
use Rattle.fm_law_two_memories.proofs.Stores.{made_paired, put_paired}
use Rattle.fm_law_two_memories.proofs.laws.law_stores.Goals as goal

pub returns : goal.returns
returns c = record { made = made_paired; put = put_paired; freed = freed_paired; freed_areas = freed_areas; freed_frames = freed_frames }
