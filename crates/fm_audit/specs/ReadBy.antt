-- What is found in new items, as definitions see it.
use Rattle.fm_audit.specs.Reading.{Pairs, Read}
use Rattle.fm_audit.specs.declared.reading.Found.{Found}
use Rattle.fm_audit.specs.declared.reading.Inserted.{Inserted}

-- the pairs
abbrev pub pairs_in : Inserted → Pairs
pairs_in found = record { before = found.before.items; after = found.after.items }

-- the holders of the start, and the pairs
abbrev pub read_in : Found → Read
read_in found = record { starts = found.starts.items; pairs = pairs_in found.inserted }
